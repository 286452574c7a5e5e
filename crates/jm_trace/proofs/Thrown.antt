-- An object that is thrown.
use Rattle.std.proofs.Common.{◌≡◌, ℕ, List, Bool, true, false, Option, Some, None, refl}
use Rattle.jm_values.specs.Reach.{is_among}
use Rattle.jm_values.specs.Shape.{Among}
use Rattle.jm_values.proofs.Reaching.{among_from_test, not_among_from_test}
use Rattle.jm_world.specs.Objects.{Object}
use Rattle.jm_world.specs.World.{World, object_at, reach}
use Rattle.jm_debug.specs.Texts.{reference_text}
use Rattle.jm_debug.specs.Views.{object_text}
use Rattle.jm_trace.specs.EventLines.{thrown_text}

not_reached_on : (w : World) (k : ℕ) (among : Bool) → is_among k (reach w) ≡ among → (Among k (reach w) → ⊥) → thrown_text w k ≡ reference_text k
unfolding thrown_text
not_reached_on w k true is not = absurd (not (among_from_test k (reach w) is))
not_reached_on w k false is not = rw is refl

pub not_reached : (w : World) (k : ℕ) → (Among k (reach w) → ⊥) → thrown_text w k ≡ reference_text k
not_reached w k not = not_reached_on w k (is_among k (reach w)) refl not

reached_on : (w : World) (k : ℕ) (o : Object) (among : Bool) → is_among k (reach w) ≡ among → Among k (reach w) → object_at w k ≡ Some o → thrown_text w k ≡ object_text k o
unfolding thrown_text
reached_on w k o false is reached there = absurd (not_among_from_test k (reach w) is reached)
reached_on w k o true is reached there = rw (is, there) refl

pub reached : (w : World) (k : ℕ) (o : Object) → Among k (reach w) → object_at w k ≡ Some o → thrown_text w k ≡ object_text k o
reached w k o among there = reached_on w k o (is_among k (reach w)) refl among there
