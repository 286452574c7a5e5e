-- After a full collection exactly what the world reaches is resident.
use Rattle.std.proofs.Common.{◌≡◌, ℕ, Option, Some, None, refl, sym, ◌∙◌, subst}
use Rattle.std.specs.Prelude.{option_map, Result, Ok, Err, OnOk}
use Rattle.jm_values.specs.Content.{Content, object_at}
use Rattle.jm_world.specs.Matches.{Matches, as_named}
use Rattle.jm_world.specs.Objects.{Object}
use Rattle.jm_values.specs.Objects.{ObjectOf}
use Rattle.jm_values.proofs.Lists.{get_there as within}
use Rattle.jm_world.specs.Types.{ObjectType}
use Rattle.jm_world.specs.World.{World}
use Rattle.jm_world.specs.declared.event.Event.{Event}
use Rattle.jm_world.specs.declared.event.Event.TheVariants.{Step, Minor, Full}
use Rattle.jm_world.specs.declared.stop.Stop.{Stop}
use Rattle.jm_world.proofs.Reaching.{reach_is_least}
use Rattle.jm_heap.specs.declared.class_id.ClassId.{ClassId}
use Rattle.jm_heap.specs.declared.heap.Kind.TheVariants as kind
use Rattle.jm_linked.specs.Links.{LinkedView}
use Rattle.jm_state.specs.Parts.{parts}
use Rattle.jm_state.specs.Reached.{LeavesReachable}
use Rattle.jm_state.specs.Places.{places_of}
use Rattle.jm_state.specs.View.{StateView}
use Rattle.jm_machine.specs.Collected.{CollectsIn, HoldsReachable, LeavesAfter, Word}

some_of : (named : ClassId → ObjectType) (x : Option (ObjectOf ClassId)) (y : Object) → option_map (as_named named) x ≡ Some y → (o : ObjectOf ClassId) × (x ≡ Some o)
some_of named None y e = cc
some_of named (Some o) y e = (o, refl)

module _ (l : LinkedView) (c : Content ClassId) (v : StateView) (w : World) (h : Matches (parts l c v) w) where
  pub holds_reachable : LeavesReachable kind.Full c w → HoldsReachable c w
  unfolding parts
  holds_reachable left = λ k. (
    λ o. left k o.0 o.1,
    λ a.
        let r = ((reach_is_least w h.bound).same k).0 a in
        let y = within w.heap k (h.bound k r) in
        some_of _ (object_at c k) y.0 (h.objects k r ∙ y.1),
  )

  -- a machine that has stopped collects nothing
  pub stopped_leaves : {s : Stop} → v.stop ≡ Some s → (event : Event) (c' : Content ClassId) → LeavesAfter event c' w
  unfolding parts
  stopped_leaves e (Step number) c' = tt
  stopped_leaves e Minor c' = tt
  stopped_leaves {s} e Full c' = λ none. let bad : Some s ≡ None = sym e ∙ h.stop ∙ none in cc

-- an answer of a call, seen as another's
pub told_ok : {A E : Type 0} (r : Result A E) {P Q : Type 0} → (P → Q) → OnOk r P → OnOk r Q
told_ok (Ok x) f p = f p
told_ok (Err e) f p = tt

-- a collection on request, by the event that asks for it: of a machine that has stopped none is made
module _ {H : Type 0} (leaves : Word H) (event : Event) (g h : H) (old new : StateView) where
  pub stopped_collects : {s : Stop} → old.stop ≡ Some s → CollectsIn leaves event g old h new
  stopped_collects {s} e = by event
    where
      bad : {P : Type 0} → old.stop ≡ None → P
      bad none = let both : Some s ≡ None = sym e ∙ none in absurd (cc)

      by : (x : Event) → CollectsIn leaves x g old h new
      by (Step number) = tt
      by Minor = λ none. bad none
      by Full = λ none. bad none

  pub step_collects : {A E : Type 0} (r : Result A E) (number : ℕ) → event ≡ Step number → OnOk r (CollectsIn leaves event g old h new)
  step_collects (Ok x) number is = subst (λ e. CollectsIn leaves e g old h new) (sym is) tt
  step_collects (Err x) number is = tt

  pub minor_collects : {A E : Type 0} (r : Result A E) → event ≡ Minor → OnOk r (leaves kind.Minor g h (places_of old) (places_of new)) → OnOk r (CollectsIn leaves event g old h new)
  minor_collects (Ok x) is left = subst (λ e. CollectsIn leaves e g old h new) (sym is) (λ none. left)
  minor_collects (Err x) is left = tt

  pub full_collects : {A E : Type 0} (r : Result A E) → event ≡ Full → OnOk r (leaves kind.Full g h (places_of old) (places_of new)) → OnOk r (CollectsIn leaves event g old h new)
  full_collects (Ok x) is left = subst (λ e. CollectsIn leaves e g old h new) (sym is) (λ none. left)
  full_collects (Err x) is left = tt
