use Rattle.std.proofs.Common.{length, ◌++◌, refl, sym, ◌∙◌}
use Rattle.jm_values.specs.Steps.{leave, with_double}
use Rattle.jm_frames.specs.Operands.{values_of}
use Rattle.jm_frames.proofs.Groups.{single_at, double_at, both_on_top, both_taken}
use Rattle.jm_frames.proofs.frame.Frame.dup_x2.Goals as goal

pub duplicate-requires-clause-on_top : goal.duplicate-requires-clause-on_top
duplicate-requires-clause-on_top c =
    let a = c.args.self.now.activation in
    let top = single_at a.stack 0 0 c.in_ok-top.top refl (sym c.single.ensures.value ∙ c.in_ok-top.was) in
    let below = double_at a.stack c.count.result (length (values_of c.in_ok-top.top)) c.in_ok-below.below c.count.ensures (sym c.double.ensures ∙ c.in_ok-below.was) in
    both_on_top _ _ a.stack _ _ top below

pub returns-clause-row : goal.returns-clause-row
returns-clause-row c =
    let a = c.args.self.now.activation in
    let top = single_at a.stack 0 0 c.in_ok-top.top refl (sym c.single.ensures.value ∙ c.in_ok-top.was) in
    let below = double_at a.stack c.count.result (length (values_of c.in_ok-top.top)) c.in_ok-below.below c.count.ensures (sym c.double.ensures ∙ c.in_ok-below.was) in
    both_taken _ with_double a.stack _ _ (λ xs ys r. leave a (xs ++ (ys ++ (xs ++ r)))) top below ∙ c.duplicate.ensures.row
