use Rattle.std.proofs.Common.{◌≡◌, [], ◌∷◌, arith, sym, ◌∙◌, subst, get_or}
use Rattle.jm_heap.specs.NewObject.{new_object}
use Rattle.jm_machine.specs.FirstObjects.{first_objects, stream, arguments}
use Rattle.jm_machine.proofs.Adding.{room_for_less, room_left, room_for_both, both_held, room_for_next, next_held}
use Rattle.jm_machine.proofs.first_objects.make_first_objects.Goals as goal

pub make_object-requires : goal.make_object-requires
unfolding new_object
make_object-requires g c =
    room_for_less _ _ (first_objects []) (stream ∷ []) (omega arith)
    (room_for_both _ c.args.literals.now c.requires.empty c.requires.room c.requires.small _ c.new-roots.ensures)

pub make_object-requires-2 : goal.make_object-requires-2
unfolding new_object
make_object-requires-2 g c =
    room_left _ _ _ _ (stream ∷ []) (arguments ∷ []) (first_objects []) (omega arith)
    (room_for_both _ c.args.literals.now c.requires.empty c.requires.room c.requires.small _ c.new-roots.ensures)
    c.in_ok-make_object.ensures

pub loop-text-init : goal.loop-text-init
unfolding new_object
loop-text-init g c = record {
  limit = c.in_ok-make_object-2.ensures.limit ∙ c.in_ok-make_object.ensures.limit;
  holds = both_held _ c.args.literals.now c.requires.empty c.requires.room c.requires.small _ c.new-roots.ensures _ _ _ _
      c.in_ok-make_object.ensures c.in_ok-make_object-2.ensures;
}

pub make_literal-requires : goal.make_literal-requires
make_literal-requires g c =
    let text = subst (λ t. t ≡ get_or c.args.literals.now c.loop-text.text-index t) (sym c.as_slice.ensures) c.text-item.is in
    room_for_next c.args.literals.now _ _ _ _ c.loop-text-test.true text c.loop-text.invariant.holds
    _ c.loop-text.invariant.limit c.requires.room c.requires.small

pub loop-text-preserved : goal.loop-text-preserved
loop-text-preserved g c =
    let text = subst (λ t. t ≡ get_or c.args.literals.now c.loop-text.text-index t) (sym c.as_slice.ensures) c.text-item.is in
    record {
      limit = c.in_ok-make_literal.ensures.limit ∙ c.loop-text.invariant.limit;
      holds = next_held c.args.literals.now _ _ _ _ c.loop-text-test.true text c.loop-text.invariant.holds _ _ c.in_ok-make_literal.ensures;
    }
