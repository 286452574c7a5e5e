use Rattle.std.proofs.Common.{sym, ap, ◌∙◌, subst, drop}
use Rattle.jm_world.specs.Here.{push_new}
use Rattle.jm_world.specs.Matches.{as_named}
use Rattle.jm_world.specs.Types.{type_of_ref}
use Rattle.jm_heap.specs.NewObject.{new_object}
use Rattle.jm_heap.specs.declared.shape.Shape.TheVariants as shape
use Rattle.jm_state.specs.Parts.{named_type}
use Rattle.jm_interp.specs.TopObject.{StepIs}
use Rattle.jm_interp.proofs.ArrayRows.{makes_references, new_named}
use Rattle.jm_interp.proofs.arrays.new_reference_array.Goals as goal

pub make_on_top-requires-clause-step : goal.make_on_top-requires-clause-step
make_on_top-requires-clause-step g c =
    let element = type_of_ref c.requires.is.0 in
    let counts = c.in-Ok.ensures element (makes_references c.requires) in
    let program = c.args.at.linked.now.program in
    let made = ap (λ k. as_named (named_type program) (new_object (shape.Array k c.in-Ok.length))) c.component_of_type-component.ensures in
    let is = made ∙ new_named program c.args.element element c.in-Ok.length c.requires.is.2 in
    subst (λ o. StepIs g.H.Heap.content c.args.at c.args.state.now (λ here. push_new here o (drop 1 here.frame.stack))) (sym is) counts.0

pub make_on_top-requires-clause-room : goal.make_on_top-requires-clause-room
make_on_top-requires-clause-room g c = (c.in-Ok.ensures (type_of_ref c.requires.is.0) (makes_references c.requires)).1

pub refuse-requires-clause-refused : goal.refuse-requires-clause-refused
refuse-requires-clause-refused g c = c.in-Err.ensures (type_of_ref c.requires.is.0) (makes_references c.requires)
