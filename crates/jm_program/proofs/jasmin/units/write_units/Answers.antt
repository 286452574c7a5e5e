-- Each turn writes one unit more.
use Rattle.std.proofs.Common.{◌≡◌, ◌++◌, get_or, rules, arith}
use Rattle.std.proofs.Output.{has_written_append, has_written_of_eq}
use Rattle.jm_program.specs.JasminUnits.{step_text}
use Rattle.jm_program.proofs.JasminLaws.{waits_high, text_step, text_end}
use Rattle.jm_program.proofs.jasmin.units.write_units.Goals as goal

pub loop-unit-preserved : goal.loop-unit-preserved
loop-unit-preserved g c =
    let l = c.loop-unit in
    let (highs, done, whole, wrote) = l.invariant in
    let unit = get_or c.args.units.now l.unit-index 0 in
    rw c.waits-waiting.ensures (
      waits_high unit,
      done ++ step_text c.args.place l.waiting unit,
      text_step c.args.place l.waiting c.args.units.now l.unit-index done _ c.loop-unit-test.true whole,
      λ plain.
          let sofar = wrote plain in
          has_written_append _ _ _ _ _ _ sofar (c.write_step.ensures sofar.plain (search rules)),
    )

pub returns : goal.returns
returns g c =
    let l = c.loop-unit in
    let (highs, done, whole, wrote) = l.invariant in
    λ plain ok.
    let sofar = wrote plain in
    has_written_of_eq _ _ _ _ _ (text_end c.args.place l.waiting c.args.units.now l.unit-index done _ c.loop-unit-test.false whole)
    (has_written_append _ _ _ _ _ _ sofar (c.write_lone.ensures sofar.plain ok))
