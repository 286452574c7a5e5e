use Rattle.std.proofs.Common.{length, ◌++◌, refl, sym, ◌∙◌}
use Rattle.std.proofs.lemmas.Result.{err_from_is_err_and}
use Rattle.jm_values.specs.Steps.{leave, with_double}
use Rattle.jm_frames.specs.Operands.{values_of}
use Rattle.jm_frames.proofs.Groups.{double_refused_at, double_at, both_on_top, both_taken}
use Rattle.jm_frames.proofs.frame.Frame.dup2_x2.Goals as goal

pub duplicate-requires-clause-on_top : goal.duplicate-requires-clause-on_top
duplicate-requires-clause-on_top c =
    let a = c.args.self.now.activation in
    let top = double_at a.stack 0 0 c.in_ok-top.top refl (sym c.double.ensures ∙ c.in_ok-top.was) in
    let below = double_at a.stack c.count.result (length (values_of c.in_ok-top.top)) c.in_ok-lower.lower c.count.ensures (sym c.double-2.ensures ∙ c.in_ok-lower.was) in
    both_on_top _ _ a.stack _ _ top below

pub returns-clause-row : goal.returns-clause-row
returns-clause-row c =
    let a = c.args.self.now.activation in
    let top = double_at a.stack 0 0 c.in_ok-top.top refl (sym c.double.ensures ∙ c.in_ok-top.was) in
    let below = double_at a.stack c.count.result (length (values_of c.in_ok-top.top)) c.in_ok-lower.lower c.count.ensures (sym c.double-2.ensures ∙ c.in_ok-lower.was) in
    both_taken _ with_double a.stack _ _ (λ xs ys r. leave a (xs ++ (ys ++ (xs ++ r)))) top below ∙ c.duplicate.ensures.row

pub returns-in_err-lower-clause-row : goal.returns-in_err-lower-clause-row
returns-in_err-lower-clause-row c =
    let a = c.args.self.now.activation in
    let x = c.in_ok-top.top in
    let top = double_at a.stack 0 0 c.in_ok-top.top refl (sym c.double.ensures ∙ c.in_ok-top.was) in
    let left = err_from_is_err_and c.from_residual-in_err-lower.result c.from_residual-in_err-lower.ensures.1 in
    rw (left.1, left.2) (top.gives (λ xs r. with_double r (λ ys q. leave a (xs ++ (ys ++ (xs ++ q))))) ∙ double_refused_at a.stack c.count.result (length (values_of x)) _ c.count.ensures (sym c.double-2.ensures ∙ c.in_err-lower.was) _)
