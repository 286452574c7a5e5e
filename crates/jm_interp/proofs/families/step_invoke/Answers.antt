-- A selected method is one of the invoke's kind.
use Rattle.std.proofs.Common.{◌≡◌, true, false, subst, sym, ap, ◌∙◌}
use Rattle.jm_linked.specs.Links.{Links, is_linked_apart}
use Rattle.jm_linked.specs.declared.instruction.LinkedInstr.TheVariants as linked
use Rattle.jm_interp.specs.At.{StandsOn}
use Rattle.jm_interp.proofs.SelectedCalls.{virtual, interface}
use Rattle.jm_interp.proofs.families.step_invoke.Goals as goal

pub invoke_selected-requires : goal.invoke_selected-requires
invoke_selected-requires g c =
    virtual (subst (λ op. StandsOn g.H.Heap.content c.args.at c.args.state.now (Links c.args.at.linked.now (linked.Invoke op c.args.method)))
    c.in-Virtual.is c.requires)

pub unreachable-requires : goal.unreachable-requires
unreachable-requires g c =
    let bad : true ≡ false = ap (λ op. is_linked_apart op c.requires.is.method) (sym c.in-Special.is) ∙ c.requires.is.other in
    cc

pub invoke_selected-requires-in-Interface : goal.invoke_selected-requires-in-Interface
invoke_selected-requires-in-Interface g c =
    interface (subst (λ op. StandsOn g.H.Heap.content c.args.at c.args.state.now (Links c.args.at.linked.now (linked.Invoke op c.args.method)))
    c.in-Interface.is c.requires)
