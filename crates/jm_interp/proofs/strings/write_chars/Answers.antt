use Rattle.std.proofs.Common.{◌≡◌, ◌+◌, ◌++◌, suc, take, [], ◌∷◌, None, sym, ap, ◌∙◌, subst, arith, length}
use Rattle.std.proofs.lemmas.List.{append-nil}
use Rattle.jm_world.specs.Text.{units_of, utf8_text}
use Rattle.jm_interp.specs.Characters.{WritesUnits}
use Rattle.jm_interp.proofs.StringText.{all_taken, further, more_units, units_one_more, units_named, value_of}
use Rattle.jm_interp.proofs.strings.write_chars.Goals as goal

pub returns-in-Err : goal.returns-in-Err
returns-in-Err g c = further _ _ _ c.loop-index.invariant.1 c.write_element.ensures.behind

pub loop-index-preserved : goal.loop-index-preserved
loop-index-preserved g c = (
  c.in-Ok.ensures.half,
  further _ _ _ c.loop-index.invariant.1 c.write_element.ensures.behind,
  λ k o serial is.
      let i = c.loop-index.index in
      let read = units_of (take i o.values) in
      let next : suc i ≡ i + 1 = omega arith in
      subst (λ us. WritesUnits c.args.output.now.items None us c.write_element.new.output.items c.in-Ok.half) (
      ap (λ us. read ++ us) (sym (units_named _ c.unit_of.result))
      ∙ sym (units_one_more o.values i (value_of _ _ (c.object-class.ensures.values _ _ c.unit_of.ensures) k o serial is))
      ∙ ap (λ n. units_of (take n o.values)) next)
      (more_units _ read (units_of (c.unit_of.result ∷ [])) _ _ None _ _ (c.loop-index.invariant.2 k o serial is) c.in-Ok.ensures.text),
)

pub returns-in-Ok-write_end : goal.returns-in-Ok-write_end
returns-in-Ok-write_end g c k o serial is =
    let long : c.len-index-end.result ≡ length o.values = c.len-index-end.ensures ∙ c.object-class.ensures.length k o serial is in
    let end = c.loop-index-test.false in
    let all = ap units_of (all_taken o.values c.loop-index.index (omega (arith, long, end))) in
    c.in-Ok-write_end.ensures
    ∙ c.loop-index.invariant.2 k o serial is []
    ∙ ap (λ us. c.args.output.now.items ++ utf8_text us) (append-nil _ ∙ all)
