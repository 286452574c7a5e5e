-- A full collection of the generations.
use Rattle.std.proofs.Common.{◌≡◌, ◌≢◌, ◌⊎◌, ℕ, List, Option, Some, None, refl, sym, ap, ◌∙◌, subst, inl, inr, arith}
use Rattle.std.specs.Prelude.{unwrap_or}
use Rattle.std.proofs.lemmas.Bool.Decides.{eqb_tells}
use Rattle.jm_values.specs.Shape.{Among}
use Rattle.jm_values.specs.Rename.{stack_shape}
use Rattle.jm_values.specs.Objects.{ObjectOf, refs_of}
use Rattle.jm_values.specs.Reach.{root, field}
use Rattle.jm_values.specs.Content.{Kept, AllResident, Reached, used_by, object_at}
use Rattle.jm_heap.specs.Cells.{class_size, resident_cells}
use Rattle.jm_heap.specs.declared.class_id.ClassId.{ClassId}
use Rattle.jm_blocks.specs.Objects.{Object}
use Rattle.jm_blocks.specs.Places.{lane_of}
use Rattle.jm_blocks.specs.Stores.{objects_in}
use Rattle.jm_blocks.proofs.Placing.{lies_in, elsewhere}
use Rattle.jm_copy.specs.Image.{IsReached, bare_at, renamed, copy_of}
use Rattle.jm_copy.specs.Collected.{survivors, fresh, promoted_in}
use Rattle.jm_gen_heap.specs.Generations.{Generations, IsYoung, lying, old_lane}
use Rattle.jm_gen_heap.specs.Residents.{content_of}
use Rattle.jm_gen_heap.specs.Invariant.{AreGenerations, AreAged, AreRemembered}
use Rattle.jm_gen_heap.specs.Collections.{AreCollected, HaveAged, LeavesAllReached}
use Rattle.jm_gen_heap.proofs.Showing.{Told}
use Rattle.jm_gen_heap.proofs.Reaching.{LiesAt, name_is, resident_lies, reached_name}
use Rattle.jm_gen_heap.proofs.ResidentCells.{left_is_used, used_at_most}
use Rattle.jm_gen_heap.proofs.Lanes.{AreLaned, LiesYoung, LiesOld, lying_young, lying_old, lies_where, old_lies}
use Rattle.jm_gen_heap.proofs.Carrying.{Carries, IsCarried, IsAllCarried}
use Rattle.jm_gen_heap.proofs.Making.{shown, reached_below}
use Rattle.jm_gen_heap.proofs.CountingResidents.{counted}
use Rattle.jm_gen_heap.proofs.MovedSurvivors.{Survives, from, told_after, shown_after, sound_after, next_same, kept_after, before_after}
use Rattle.jm_gen_heap.proofs.Surviving.{first_has, survivors_young, survivors_old, pointing}

-- all stores were condemned, and a collection made of them what there is now
module _ {g h : Generations} {roots moved : List ℕ} (v : AreGenerations g) (done : AreCollected g h roots moved) where
  abbrev m : ℕ → ℕ
  m = renamed done.collected.moved

  abbrev S : ℕ → Type 0
  S = IsReached (lying g) roots

  laned_after : AreLaned h
  laned_after = record { nurseries = done.nurseries.nurseries; tenured = done.collected.tenured_lane ∙ done.lane }

  abbrev made : ℕ → Option Object
  made p = survivors done.young done.before h.tenured p

  made_old : (p : ℕ) → lane_of p ≢ done.young.lane → made p ≡ objects_in h.tenured p
  made_old p n = survivors_old done.young done.before h.tenured p n ∙ ap (λ x. fresh x (objects_in h.tenured p)) (done.empty p)

  -- what lies there is what was made
  lies_made : (p : ℕ) → lying h p ≡ made p
  lies_made p = by (eqb_tells (lane_of p) 1) (eqb_tells (lane_of p) old_lane)
    where
      no_young : lane_of p ≢ 1 → objects_in done.young p ≡ None
      no_young n = elsewhere done.young p (λ e. n (e ∙ done.collected.young_lane))

      away : lane_of p ≢ 1 → lane_of p ≢ done.young.lane
      away n e = n (e ∙ done.collected.young_lane)

      no_old : lane_of p ≢ old_lane → objects_in h.tenured p ≡ None
      no_old n = elsewhere h.tenured p (λ e. n (e ∙ laned_after.tenured))

      none : lane_of p ≢ 1 → lane_of p ≢ old_lane → (x : Option Object) → lying h p ≡ x → x ≡ None
      none n k None e = refl
      none n k (Some a) e = of (lies_where laned_after p a e)
        where
          of : LiesYoung h p a ⊎ LiesOld h p a → Some a ≡ None
          of (inl y) = sym y.lies ∙ first_has done.nurseries p ∙ no_young n
          of (inr o) = absurd (k o.lane)

      by : Told (lane_of p) 1 → Told (lane_of p) old_lane → lying h p ≡ made p
      by (inl e) t =
          lying_young laned_after p (record { some = omega (arith, e.1); few = omega (arith, e.1) })
          ∙ first_has done.nurseries p
          ∙ sym (survivors_young done.young done.before h.tenured p (e.1 ∙ sym done.collected.young_lane))
      by (inr n) (inl e) = lying_old laned_after p e.1 ∙ sym (made_old p (away n.1))
      by (inr n) (inr k) = none n.1 k.1 (lying h p) refl ∙ sym (no_old k.1) ∙ sym (made_old p (away n.1))

  there : (p : ℕ) → S p → IsCarried (lying g) (lying h) m p
  there p r =
      let to = done.collected.image.all p r in
      let copy = done.collected.image.copied p to.0 to.1 in
      let place : m p ≡ to.0 = ap (λ x. unwrap_or x p) to.1 in
      record { old = copy.0; old_is = copy.1; new = copy_of done.collected.moved copy.0; new_is = lies_made (m p) ∙ ap made place ∙ copy.2; serial = refl; class = refl; values = refl }

  over : (p q : ℕ) (a : Object) → S p → lying g p ≡ Some a → Among q (stack_shape.refs a.values) → S q
  over p q a r e k = record { there = v.told.closed p q a e k; reach = field p q r.reach (subst (λ x. Among q (refs_of (bare_at (λ n. x) p))) (sym e) k) }

  carries : Carries (lying g) (lying h) m S
  carries = record { there = there; over = over }

  all : IsAllCarried (lying h) m S
  all n a e =
      let to = done.collected.image.onto n a (sym (lies_made n) ∙ e) in
      (to.0, done.collected.image.reached to.0 n to.1, ap (λ x. unwrap_or x to.0) to.1)

  survive : Survives g h m S
  survive = record { keeps = v; laned = laned_after; limit = done.limit; next = done.next; carries = carries; all = all }

  aged_after : AreAged h
  aged_after = record {
    young = λ p a e. let age = done.collected.first_survival p a (sym (first_has done.nurseries p) ∙ e) in omega (arith, age);
    old = λ p a e. done.collected.promoted p a (done.empty p) e;
  }

  have_aged : HaveAged g h
  have_aged n a e =
      let to = done.collected.image.onto n a (sym (lies_made n) ∙ e) in
      let copy = done.collected.image.copied to.0 n to.1 in
      let both : Some (copy_of done.collected.moved copy.0) ≡ Some a = sym copy.2 ∙ sym (lies_made n) ∙ e in
      let same : copy_of done.collected.moved copy.0 ≡ a = cc in
      record { place = to.0; object = copy.0; lay = copy.1; serial = ap (λ x. x.serial) (sym same); age = ap (λ x. x.age) (sym same) }

  promoted_is : (p : ℕ) → promoted_in done.before h.tenured p ≡ objects_in h.tenured p
  promoted_is p = ap (λ x. fresh x (objects_in h.tenured p)) (done.empty p)

  remembered_after : AreRemembered h
  remembered_after = record {
    covers = λ p q a e k y. covers p q a e k y;
    old = λ p k. let x = done.collected.pointers.sound p k in (x.0, sym (promoted_is p) ∙ x.1);
  }
    where
      in_first : (q : ℕ) → IsYoung q → LiesAt (lying h) q → lane_of q ≡ done.young.lane
      in_first q y x = (lies_in done.young q x.0 (sym (first_has done.nurseries q) ∙ sym (lying_young laned_after q y) ∙ x.1)).lane

      covers : (p q : ℕ) (a : Object) → objects_in h.tenured p ≡ Some a → Among q (stack_shape.refs a.values) → IsYoung q → Among p h.remembered
      covers p q a e k y =
          let lies = old_lies laned_after p a e in
          let named_there = (told_after survive).closed p q a lies.1 k in
          done.collected.pointers.complete p a (promoted_is p ∙ e) (pointing done.young.lane q a.values k (in_first q y named_there))

  -- the roots are among what survives
  module _ (r : AllResident (content_of g) roots) where
    root_survives : (p : ℕ) → Among p roots → S p
    root_survives p a = record { there = resident_lies (shown v) roots r p a; reach = root p a }

    -- what is left was reached
    place_reached : (n k : ℕ) (a : Object) → lying h n ≡ Some a → a.serial ≡ k → Reached (content_of g) roots k
    place_reached n k a e f =
        let x = from survive n a e in
        let serial : x.carried.old.serial ≡ k = sym x.carried.serial ∙ ap (λ y. y.serial) x.same ∙ f in
        subst (λ j. Reached (content_of g) roots j) (name_is (shown v) x.place x.carried.old x.carried.old_is ∙ serial) (reached_name (shown v) roots (λ p q b i j. v.told.closed p q b i j) (λ p i. resident_lies (shown v) roots r p i) x.place x.has.reach)

    only : (k : ℕ) (o : ObjectOf ClassId) → object_at (content_of h) k ≡ Some o → Reached (content_of g) roots k
    only k o e = let x = (shown_after survive).only k o e in place_reached x.0 k x.1 x.2 x.3

    kept_roots : Kept (content_of g) roots (content_of h) moved
    kept_roots = subst (λ l. Kept (content_of g) roots (content_of h) l) (sym done.collected.image.moved_roots) (kept_after survive roots root_survives)

    left_cells : resident_cells (content_of h) ≡ used_by class_size (content_of g) roots
    left_cells =
        left_is_used (content_of g) (content_of h) roots (reached_below v roots r) (sound_after survive) (λ k a. let x = (shown_after survive).listed k a in place_reached x.0 k x.1 x.2 x.3) kept_roots.reached

    pub collected_all : LeavesAllReached g h roots moved
    collected_all =
        let cells = counted h done.nurseries done.young_whole done.old_whole in
        let used = used_at_most (content_of g) roots (reached_below v roots r) in
        record {
          generations = record {
            nurseries = done.nurseries.nurseries;
            tenured = laned_after.tenured;
            told = told_after survive;
            aged = aged_after;
            remembered = remembered_after;
            counted = cells;
            within = (omega (arith, cells, left_cells, used, v.counted, v.within));
          };
          kept = kept_roots;
          next = next_same survive;
          as_before = before_after survive;
          only = only;
          cells = left_cells;
          aged = have_aged;
          survived = λ p a e. done.collected.first_survival p a (sym (first_has done.nurseries p) ∙ e);
        }
