-- Two worlds that are one but for the numbers of their objects: two threads make an object each, in either order.
use Rattle.std.proofs.Common.{◌≡◌, ◌<◌, ℕ, List, [], ◌∷◌, ◌++◌, Some, true, false, refl, sym, subst, inl, inr, arith}
use Rattle.std.specs.Prelude.{codes, nat_eq, slice_get}
use Rattle.std.specs.List.{AllByRecursion}
use Rattle.jm_program.specs.declared.class.ClassParts.{ClassParts}
use Rattle.jm_values.specs.declared.value.Value.TheVariants.{Ref}
use Rattle.jm_world.specs.Objects.{FieldName}
use Rattle.jm_world.specs.World.{World, static_in}
use Rattle.jm_world.specs.Run.{replies_from}
use Rattle.jm_world.specs.Written.{class, class_below, main_method, method, field, putstatic, start, class_of_name, return, nothing_to_nothing, new}
use Rattle.jm_world.specs.SideBySide.{none, more, Options, neither, both, Objects, objects, refs}
use Rattle.jm_world.specs.Renumbered.{statics}
use Rattle.jm_world.specs.UpToNumbers.{Paired, are, AreOne}
use Rattle.jm_world.specs.declared.event.Event.{Event}
use Rattle.jm_world.proofs.BesideItself.{half_of, twin}
use Rattle.jm_world.proofs.RenumberedRuns.{runs_agree}
use Rattle.jm_world.proofs.Runs.Computed.{computed, steps}

abbrev worker : ClassParts
worker = class_below (codes "java/lang/Thread") [] (codes "W") [] (method 0x0001 (codes "run") nothing_to_nothing (new (codes "W") ∷ putstatic (codes "Main") (codes "b") (class_of_name (codes "W")) ∷ return ∷ []) ∷ [])

abbrev each_makes_one : List ClassParts
each_makes_one = class (codes "Main") (field 0x0008 (codes "a") (class_of_name (codes "W")) ∷ field 0x0008 (codes "b") (class_of_name (codes "W")) ∷ [])
    (main_method [] (new (codes "W") ∷ start ∷ new (codes "W") ∷ putstatic (codes "Main") (codes "a") (class_of_name (codes "W")) ∷ return ∷ []) ∷ [])
    ∷ worker ∷ []

abbrev main_first : World
main_first = computed each_makes_one (steps 12 1 ++ steps 4 2)

abbrev main_last : World
main_last = computed each_makes_one (steps 9 1 ++ steps 4 2 ++ steps 3 1)

abbrev named : List ℕ → FieldName
named name = record { class = codes "Main"; name = name; type = class_of_name (codes "W") }

main_makes_object_three : static_in main_first.statics (named (codes "a")) ≡ Some (Ref 3)
unfolding computed
main_makes_object_three = refl

or_object_four : static_in main_last.statics (named (codes "a")) ≡ Some (Ref 4)
unfolding computed
or_object_four = refl

-- of each pair of a list
each_paired : (P : ℕ → ℕ → Type 0) (ps : List (ℕ × ℕ)) → AllByRecursion (λ p. P p.0 p.1) ps → (k j : ℕ) → Paired ps k j → P k j
each_paired P [] a k j r = absurd r
each_paired P (p ∷ ps) a k j (inl r) = subst (λ k. P k j) (sym r.0) (subst (λ j. P p.0 j) (sym r.1) a.0)
each_paired P (p ∷ ps) a k j (inr r) = each_paired P ps a.1 k j r

abbrev pairs : List (ℕ × ℕ)
pairs = (0, 0) ∷ (3, 4) ∷ (4, 3) ∷ []

abbrev R : ℕ → ℕ → Type 0
R = Paired pairs

the_order_does_not_matter : AreOne main_first main_last
unfolding computed
the_order_does_not_matter = (
  pairs,
  are {p = record (twin main_first) { other = half_of main_last }} (record {
    made = refl;
    names = record {
      below = each_paired (λ k j. (k < 5) × (j < 5)) pairs ((omega arith, omega arith), ((omega arith, omega arith), ((omega arith, omega arith), tt)));
      equal = λ k j i l a b. each_paired (λ i l. nat_eq k i ≡ nat_eq j l) pairs
          (each_paired (λ k j. AllByRecursion (λ q. nat_eq k q.0 ≡ nat_eq j q.1) pairs) pairs ((refl, (refl, (refl, tt))), ((refl, (refl, (refl, tt))), ((refl, (refl, (refl, tt))), tt))) k j a) i l b;
    };
    objects = each_paired (λ k j. Options (Objects R) (slice_get main_first.heap k) (slice_get main_last.heap j)) pairs (both (objects none), (both (objects none), (both (objects none), tt)));
    literals = none;
    statics = more (statics (refs (inl (refl, refl)))) (more (statics (refs (inr (inl (refl, refl))))) (more (statics (refs (inr (inr (inl (refl, refl)))))) none));
    monitors = record { held = λ k j r. neither; forth = λ k a. absurd a; back = λ j a. absurd a; once = tt; once' = tt };
    threads = more (record { ending = refl; frames = none; pending = neither; object = neither; live = λ e. neither })
        (more (record { ending = refl; frames = none; pending = neither; object = both (omega arith, omega arith, each_paired (λ i l. nat_eq 2 i ≡ nat_eq 2 l) pairs (refl, (refl, (refl, tt)))); live = λ e. absurd (let g : false ≡ true = e in cc) }) none);
  }),
)

-- whatever is done next, it is answered alike
and_never_will : (es : List Event) → replies_from main_first es ≡ replies_from main_last es
and_never_will es = (runs_agree main_first main_last es the_order_does_not_matter).1
