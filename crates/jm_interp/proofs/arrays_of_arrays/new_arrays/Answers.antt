-- The arrays of the type, by its linked form.
use Rattle.std.proofs.Common.{◌≤◌, ◌+◌, sym, ap, ◌∙◌, subst, length, arith}
use Rattle.std.specs.Prelude.{map}
use Rattle.jm_values.specs.ArraysOfArrays.{tree}
use Rattle.jm_world.specs.ArraysOfArrays as model
use Rattle.jm_world.specs.Matches.{as_named}
use Rattle.jm_world.specs.Types.{type_of_ref}
use Rattle.jm_heap.specs.Trees.{component_below, dimensions_of}
use Rattle.jm_state.specs.Parts.{named_type}
use Rattle.jm_interp.proofs.ArraysOfArrays.{all_named, has_some, tree_named}
use Rattle.jm_interp.proofs.arrays_of_arrays.new_arrays.Goals as goal

pub make_all_on_top-requires-clause-step : goal.make_all_on_top-requires-clause-step
make_all_on_top-requires-clause-step g c =
    let program = c.args.at.linked.now.program in
    let t = type_of_ref c.requires.is.0 in
    let component = c.below-component.ensures ∙ ap component_below c.component_of_type.ensures in
    all_named g.H.Heap.content c.args.at c.args.state.now
    (λ k. map (as_named (named_type program)) (tree (dimensions_of c.below-component.result c.as_slice.result.now) k)) (tree (model.dimensions_of t c.in-Ok.lengths.items)) c.args.dimensions
    (λ k.
    ap (λ x. map (as_named (named_type program)) (tree (dimensions_of x c.as_slice.result.now) k)) component
    ∙ tree_named program c.args.array t c.as_slice.result.now k c.requires.is.2
    ∙ ap (λ ns. tree (model.dimensions_of t ns) k) c.as_slice.ensures.value)
    (c.in-Ok.ensures.ok c.requires).step

pub make_all_on_top-requires-clause-room : goal.make_all_on_top-requires-clause-room
make_all_on_top-requires-clause-room g c = (c.in-Ok.ensures.ok c.requires).room

pub make_all_on_top-requires-clause-some : goal.make_all_on_top-requires-clause-some
make_all_on_top-requires-clause-some g c =
    let many = (c.in-Ok.ensures.ok c.requires).many in
    omega (arith, ap length c.as_slice.ensures.value, many, (has_some c.requires).0)

pub make_all_on_top-requires-clause-deep : goal.make_all_on_top-requires-clause-deep
make_all_on_top-requires-clause-deep g c =
    let many = (c.in-Ok.ensures.ok c.requires).many in
    let component = c.below-component.ensures ∙ ap component_below c.component_of_type.ensures in
    subst (λ x. length c.as_slice.result.now ≤ x.dimensions + 1) (sym component)
    (omega (arith, ap length c.as_slice.ensures.value, many, (has_some c.requires).0, (has_some c.requires).1, c.requires.is.2.dimensions))
