use Rattle.std.proofs.Common.{◌+◌, ◌∙◌, ap, refl, sym, arith}
use Rattle.std.specs.Prelude.{◌||◌}
use Rattle.std.proofs.lemmas.Option.{slice_get_read}
use Rattle.jm_par_copy.proofs.Alone.{points_end, points_from, points_next}
use Rattle.jm_par_copy.proofs.large.points_into.Goals as goal

pub loop-number-init : goal.loop-number-init
loop-number-init c = refl

pub returns-then-names_into : goal.returns-then-names_into
returns-then-names_into c =
    let rs = c.args.references.now in
    let i = c.loop-number.number in
    let got = slice_get_read rs _ i c.index-references-number.result refl c.loop-number-test.true c.index-references-number.is in
    sym (c.loop-number.invariant ∙ points_next c.args.lane rs i c.index-references-number.result got ∙ ap (λ b. b || points_from c.args.lane rs (i + 1)) (sym c.names_into.ensures ∙ c.if-names_into.true))

pub loop-number-preserved : goal.loop-number-preserved
loop-number-preserved c =
    let rs = c.args.references.now in
    let i = c.loop-number.number in
    let got = slice_get_read rs _ i c.index-references-number.result refl c.loop-number-test.true c.index-references-number.is in
    c.loop-number.invariant ∙ points_next c.args.lane rs i c.index-references-number.result got ∙ ap (λ b. b || points_from c.args.lane rs (i + 1)) (sym c.names_into.ensures ∙ c.if-names_into.false)

pub returns : goal.returns
returns c = sym (c.loop-number.invariant ∙ points_end c.args.lane c.args.references.now c.loop-number.number (omega (arith, c.loop-number-test.false)))
