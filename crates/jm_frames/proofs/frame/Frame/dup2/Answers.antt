use Rattle.std.proofs.Common.{◌++◌, refl, sym, ap, ◌∙◌}
use Rattle.jm_values.specs.Steps.{leave}
use Rattle.jm_frames.specs.Operands.{values_of}
use Rattle.jm_frames.proofs.Groups.{double_at}
use Rattle.jm_frames.proofs.frame.Frame.dup2.Goals as goal

pub returns-clause-row : goal.returns-clause-row
returns-clause-row c =
    let a = c.args.self.now.activation in
    let x = values_of c.in_ok-top.top in
    let top = double_at a.stack 0 0 c.in_ok-top.top refl (sym c.double.ensures ∙ c.in_ok-top.was) in
    top.gives (λ xs r. leave a (xs ++ (xs ++ r))) ∙ ap (λ s. leave a (x ++ s)) (sym top.on_top) ∙ c.repeat.ensures.row
