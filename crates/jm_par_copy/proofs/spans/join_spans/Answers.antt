use Rattle.std.proofs.Common.{◌≡◌, ◌++◌, Some, ◌∙◌, ap, arith, refl, sym, length}
use Rattle.std.specs.Prelude.{slice_get}
use Rattle.std.proofs.lemmas.Option.{slice_get_read}
use Rattle.jm_par_copy.specs.Spans.{spans_of}
use Rattle.std.proofs.lemmas.List.{append-nil}
use Rattle.jm_par_copy.proofs.Joined.{span_next}
use Rattle.jm_par_copy.proofs.Noted.{drop_all}
use Rattle.jm_par_copy.proofs.spans.join_spans.Goals as goal

pub loop-copier-init : goal.loop-copier-init
loop-copier-init c = ap (λ ps. ps ++ spans_of c.args.copiers.now) c.new-all.ensures.items

pub loop-copier-preserved : goal.loop-copier-preserved
loop-copier-preserved c =
    let copiers = c.args.copiers.now in
    let n = c.loop-copier.copier-index in
    let one = c.copier-item.result in
    let all = c.loop-copier.all.items in
    let at : slice_get copiers n ≡ Some one = slice_get_read copiers (length copiers) n one refl c.loop-copier-test.true c.copier-item.is in
    let items = c.in_ok-extend_from_slice.ensures.items ∙ ap (λ ps. all ++ ps) c.as_slice.ensures.value in
    span_next copiers n one all c.extend_from_slice.new.self.items (spans_of copiers) at items c.loop-copier.invariant

pub returns : goal.returns
returns c =
    let all = c.loop-copier.all.items in
    let over = c.loop-copier-test.false in
    let none = drop_all c.args.copiers.now c.loop-copier.copier-index (omega (arith, over)) in
    sym (append-nil all) ∙ ap (λ cs. all ++ spans_of cs) (sym none) ∙ c.loop-copier.invariant
