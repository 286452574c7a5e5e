use Rattle.std.proofs.Common.{length, ◌∷◌, ◌++◌, refl, sym, ◌∙◌}
use Rattle.std.proofs.lemmas.Result.{err_from_is_err_and}
use Rattle.jm_values.specs.Steps.{leave, with_single}
use Rattle.jm_frames.specs.Operands.{values_of}
use Rattle.jm_frames.proofs.Groups.{single_refused_at, double_at, single_at, both_on_top, both_taken, single_list}
use Rattle.jm_frames.proofs.frame.Frame.dup2_x1.Goals as goal

pub duplicate-requires-clause-on_top : goal.duplicate-requires-clause-on_top
duplicate-requires-clause-on_top c =
    let a = c.args.self.now.activation in
    let top = double_at a.stack 0 0 c.in_ok-top.top refl (sym c.double.ensures ∙ c.in_ok-top.was) in
    let below = single_at a.stack c.count.result (length (values_of c.in_ok-top.top)) c.in_ok-below.below c.count.ensures (sym c.single.ensures.value ∙ c.in_ok-below.was) in
    both_on_top _ _ a.stack _ _ top below

pub returns-clause-row : goal.returns-clause-row
returns-clause-row c =
    let a = c.args.self.now.activation in
    let top = double_at a.stack 0 0 c.in_ok-top.top refl (sym c.double.ensures ∙ c.in_ok-top.was) in
    let below = single_at a.stack c.count.result (length (values_of c.in_ok-top.top)) c.in_ok-below.below c.count.ensures (sym c.single.ensures.value ∙ c.in_ok-below.was) in
    both_taken _ single_list a.stack _ _ (λ xs ys r. leave a (xs ++ (ys ++ (xs ++ r)))) top below ∙ c.duplicate.ensures.row

pub returns-in_err-below-clause-row : goal.returns-in_err-below-clause-row
returns-in_err-below-clause-row c =
    let a = c.args.self.now.activation in
    let x = c.in_ok-top.top in
    let top = double_at a.stack 0 0 c.in_ok-top.top refl (sym c.double.ensures ∙ c.in_ok-top.was) in
    let left = err_from_is_err_and c.from_residual-in_err-below.result c.from_residual-in_err-below.ensures.1 in
    rw (left.1, left.2) (top.gives (λ xs r. with_single r (λ v q. leave a (xs ++ (v ∷ (xs ++ q))))) ∙ single_refused_at a.stack c.count.result (length (values_of x)) _ c.count.ensures (sym c.single.ensures.value ∙ c.in_err-below.was) _)
