-- A minor collection of the generations.
use Rattle.std.proofs.Common.{◌≡◌, ◌⊎◌, ℕ, List, Option, Some, None, Bool, true, false, refl, sym, ap, ◌∙◌, subst, inl, inr, arith}
use Rattle.std.specs.Prelude.{map, unwrap_or}
use Rattle.std.proofs.lemmas.Bool.Decides.{eqb_tells}
use Rattle.jm_values.specs.declared.value.Value.{Value}
use Rattle.jm_values.specs.Shape.{Among}
use Rattle.jm_values.specs.Rename.{rename, stack_shape}
use Rattle.jm_values.specs.Objects.{ObjectOf, refs_of}
use Rattle.jm_values.specs.Reach.{root, field, is_among}
use Rattle.jm_values.specs.Content.{Kept, AllResident, object_at}
use Rattle.jm_values.proofs.Among.{among_left, among_right}
use Rattle.jm_values.proofs.Reaching.{among_from_test, not_among_from_test}
use Rattle.jm_values.proofs.Renaming.{stack_is_shape}
use Rattle.jm_heap.specs.declared.class_id.ClassId.{ClassId}
use Rattle.jm_blocks.specs.Objects.{Object}
use Rattle.jm_blocks.specs.Places.{lane_of}
use Rattle.jm_blocks.specs.Stores.{objects_in}
use Rattle.jm_blocks.proofs.Placing.{lies_in}
use Rattle.jm_copy.specs.Image.{IsReached, bare_at, renamed, copy_of, older}
use Rattle.jm_copy.specs.Condemned.{objects_at}
use Rattle.jm_copy.specs.Collected.{survivors, fresh, promoted_in}
use Rattle.jm_copy.specs.Pointing.{points_to}
use Rattle.jm_gen_heap.specs.Generations.{Generations, IsYoung, lying, old_lane}
use Rattle.jm_gen_heap.specs.Residents.{content_of}
use Rattle.jm_gen_heap.specs.Invariant.{AreGenerations, AreAged, AreRemembered}
use Rattle.jm_gen_heap.specs.Collections.{AreCollectedYoung, AgedFrom, HaveAged, LeavesOldAndReached, Stays, fields_of, minor_roots, with_values}
use Rattle.jm_gen_heap.proofs.Showing.{Told}
use Rattle.jm_gen_heap.proofs.Reaching.{resident_lies}
use Rattle.jm_gen_heap.proofs.Lanes.{AreLaned, LiesYoung, LiesOld, lying_young, lying_old, lies_where, young_lies, old_lies, not_both}
use Rattle.jm_gen_heap.proofs.Carrying.{Carries, IsCarried, IsAllCarried, carried_same}
use Rattle.jm_gen_heap.proofs.Making.{laned, shown}
use Rattle.jm_gen_heap.proofs.CountingResidents.{counted}
use Rattle.jm_gen_heap.proofs.MovedSurvivors.{Survives, from, told_after, shown_after, next_same, kept_after, before_after, fewer_cells}
use Rattle.jm_gen_heap.proofs.Surviving.{first_has, survivors_young, survivors_old, pointing}
use Rattle.jm_gen_heap.proofs.WritingBack.{among_fields, same_fields, refilled_renamed, moved_apart}

-- values whose references keep their names are the same
unmoved : (m : ℕ → ℕ) (vs : List Value) → ((q : ℕ) → Among q (stack_shape.refs vs) → m q ≡ q) → vs ≡ map (rename m) vs
unmoved m vs h = let laws = stack_is_shape vs in sym (laws.agrees m (λ q. q) h ∙ laws.keeps)

-- the nurseries were condemned, and a collection promoted into the old objects, whose moved fields were
-- then written back
module _ {g h : Generations} {roots moved : List ℕ} (v : AreGenerations g) (done : AreCollectedYoung g h roots moved) where
  abbrev m : ℕ → ℕ
  m = renamed done.collected.moved

  abbrev condemned : ℕ → Option Object
  condemned = objects_at g.nurseries

  abbrev IsOld : ℕ → Type 0
  IsOld p = (o : Object) × (objects_in g.tenured p ≡ Some o)

  abbrev S : ℕ → Type 0
  S p = IsOld p ⊎ IsReached condemned (minor_roots g roots) p

  laned_after : AreLaned h
  laned_after = record { nurseries = done.nurseries.nurseries; tenured = done.written.lane ∙ done.collected.tenured_lane ∙ v.tenured }

  moved_parts : (moved ≡ map m roots) × (done.fields ≡ map m (fields_of g.tenured g.remembered))
  moved_parts = moved_apart m roots (fields_of g.tenured g.remembered) moved done.fields done.collected.image.moved_roots done.many

  -- old objects are not condemned, so they keep their places
  old_stays : (p : ℕ) → lane_of p ≡ old_lane → m p ≡ p
  old_stays p e = by (done.collected.moved p) refl
    where
      by : (x : Option ℕ) → done.collected.moved p ≡ x → unwrap_or x p ≡ p
      by None f = refl
      by (Some n) f = let r = done.collected.image.reached p n f in absurd (not_both p (young_lies (laned v) p r.there.0 r.there.1).0 e)

  written : (p : ℕ) (o : Object) → Among p g.remembered → objects_in g.tenured p ≡ Some o → objects_in h.tenured p ≡ Some (with_values o (map (rename m) o.values))
  written p o a e =
      refilled_renamed m done.promoted h.tenured g.remembered done.fields (moved_parts.1 ∙ ap (map m) (sym same)) done.written.refilled p o a (done.collected.kept p o e)
    where
      same : fields_of done.promoted g.remembered ≡ fields_of g.tenured g.remembered
      same = same_fields g.tenured done.promoted g.remembered (λ q k. let x = v.remembered.old q k in done.collected.kept q x.0 x.1 ∙ sym x.1)

  -- an old object is there still, with its values under their new names
  record KeptOld (p : ℕ) (o : Object) : Type 0 where
    new : Object
    new_is : objects_in h.tenured p ≡ Some new
    serial : new.serial ≡ o.serial
    class : new.class ≡ o.class
    age : new.age ≡ o.age
    values : new.values ≡ map (rename m) o.values

  old_kept : (p : ℕ) (o : Object) → objects_in g.tenured p ≡ Some o → KeptOld p o
  old_kept p o e = by (is_among p g.remembered) refl
    where
      by : (x : Bool) → is_among p g.remembered ≡ x → KeptOld p o
      by true f = record { new = with_values o (map (rename m) o.values); new_is = written p o (among_from_test p g.remembered f) e; serial = refl; class = refl; age = refl; values = refl }
      by false f = record { new = o; new_is = done.written.others p (not_among_from_test p g.remembered f) ∙ done.collected.kept p o e; serial = refl; class = refl; age = refl; values = unmoved m o.values still }
        where
          still : (q : ℕ) → Among q (stack_shape.refs o.values) → m q ≡ q
          still q k =
              let there = v.told.closed p q o (old_lies (laned v) p o e).1 k in
              of (lies_where (laned v) q there.0 there.1)
            where
              of : {a : Object} → LiesYoung g q a ⊎ LiesOld g q a → m q ≡ q
              of (inl y) = absurd (not_among_from_test p g.remembered f (v.remembered.covers p q o e k y.young))
              of (inr o) = old_stays q o.lane

  -- where no old object was, nothing was written back
  not_written : (p : ℕ) → objects_in g.tenured p ≡ None → objects_in h.tenured p ≡ objects_in done.promoted p
  not_written p e = done.written.others p (λ a. let x = v.remembered.old p a in let both : None ≡ Some x.0 = sym e ∙ x.1 in cc)

  abbrev made : ℕ → Option Object
  made n = survivors done.young g.tenured done.promoted n

  -- a survivor lies there
  made_lies : (n : ℕ) (a : Object) → made n ≡ Some a → lying h n ≡ Some a
  made_lies n a e = by (eqb_tells (lane_of n) done.young.lane)
    where
      of : (x : Option Object) → objects_in g.tenured n ≡ x → fresh x (objects_in done.promoted n) ≡ Some a → lying h n ≡ Some a
      of None f k =
          let lane : lane_of n ≡ old_lane = (lies_in done.promoted n a k).lane ∙ done.collected.tenured_lane ∙ v.tenured in
          lying_old laned_after n lane ∙ not_written n f ∙ k
      of (Some o) f k = cc

      by : Told (lane_of n) done.young.lane → lying h n ≡ Some a
      by (inl f) =
          let lane : lane_of n ≡ 1 = f.1 ∙ done.collected.young_lane in
          lying_young laned_after n (record { some = omega (arith, lane); few = omega (arith, lane) })
          ∙ first_has done.nurseries n
          ∙ sym (survivors_young done.young g.tenured done.promoted n f.1)
          ∙ e
      by (inr f) = of (objects_in g.tenured n) refl (sym (survivors_old done.young g.tenured done.promoted n f.1) ∙ e)

  there : (p : ℕ) → S p → IsCarried (lying g) (lying h) m p
  there p (inl x) =
      let lies = old_lies (laned v) p x.0 x.1 in
      let k = old_kept p x.0 x.1 in
      record { old = x.0; old_is = lies.1; new = k.new; new_is = ap (lying h) (old_stays p lies.0) ∙ lying_old laned_after p lies.0 ∙ k.new_is; serial = k.serial; class = k.class; values = k.values }
  there p (inr r) =
      let to = done.collected.image.all p r in
      let copy = done.collected.image.copied p to.0 to.1 in
      let place : m p ≡ to.0 = ap (λ x. unwrap_or x p) to.1 in
      record { old = copy.0; old_is = (young_lies (laned v) p copy.0 copy.1).1; new = copy_of done.collected.moved copy.0; new_is = ap (lying h) place ∙ made_lies to.0 (copy_of done.collected.moved copy.0) copy.2; serial = refl; class = refl; values = refl }

  over : (p q : ℕ) (a : Object) → S p → lying g p ≡ Some a → Among q (stack_shape.refs a.values) → S q
  over p q a x e k = let y = v.told.closed p q a e k in by x (lies_where (laned v) q y.0 y.1)
    where
      by : {o : Object} → S p → LiesYoung g q o ⊎ LiesOld g q o → S q
      by x (inr o) = inl (_, o.lies)
      by (inl x) (inl y) =
          let old : objects_in g.tenured p ≡ Some a = sym (lying_old (laned v) p (old_lies (laned v) p x.0 x.1).0) ∙ e in
          let remembered = v.remembered.covers p q a old k y.young in
          inr (record { there = (_, y.lies); reach = root q (among_right q roots (fields_of g.tenured g.remembered) (among_fields g.tenured g.remembered p q a remembered old k)) })
      by (inr r) (inl y) =
          let young : condemned p ≡ Some a = sym (lying_young (laned v) p (young_lies (laned v) p r.there.0 r.there.1).0) ∙ e in
          inr (record { there = (_, y.lies); reach = field p q r.reach (subst (λ z. Among q (refs_of (bare_at (λ n. z) p))) (sym young) k) })

  carries : Carries (lying g) (lying h) m S
  carries = record { there = there; over = over }

  -- what lies there was made, or was old before
  record IsOldStill (n : ℕ) (a : Object) : Type 0 where
    lane : lane_of n ≡ old_lane
    old : IsOld n
    lies : objects_in h.tenured n ≡ Some a

  made_or_old : (n : ℕ) (a : Object) → lying h n ≡ Some a → (made n ≡ Some a) ⊎ IsOldStill n a
  made_or_old n a e = by (lies_where laned_after n a e)
    where
      of_old : lane_of n ≡ old_lane → objects_in h.tenured n ≡ Some a → (x : Option Object) → objects_in g.tenured n ≡ x → (made n ≡ Some a) ⊎ IsOldStill n a
      of_old lane f (Some o) k = inr (record { lane = lane; old = (o, k); lies = f })
      of_old lane f None k = inl (survivors_old done.young g.tenured done.promoted n (λ q. absurd (omega (arith, q, lane, done.collected.young_lane))) ∙ ap (λ x. fresh x (objects_in done.promoted n)) k ∙ sym (not_written n k) ∙ f)

      by : LiesYoung h n a ⊎ LiesOld h n a → (made n ≡ Some a) ⊎ IsOldStill n a
      by (inl y) =
          let here : objects_in done.young n ≡ Some a = sym (first_has done.nurseries n) ∙ y.lies in
          inl (survivors_young done.young g.tenured done.promoted n (lies_in done.young n a here).lane ∙ here)
      by (inr o) = of_old o.lane o.lies (objects_in g.tenured n) refl

  all : IsAllCarried (lying h) m S
  all n a e = by (made_or_old n a e)
    where
      by : (made n ≡ Some a) ⊎ IsOldStill n a → (p : ℕ) × S p × (m p ≡ n)
      by (inl f) = let to = done.collected.image.onto n a f in (to.0, inr (done.collected.image.reached to.0 n to.1), ap (λ x. unwrap_or x to.0) to.1)
      by (inr o) = (n, inl o.old, old_stays n o.lane)

  survive : Survives g h m S
  survive = record { keeps = v; laned = laned_after; limit = done.limit; next = done.next; carries = carries; all = all }

  have_aged : HaveAged g h
  have_aged n a e = by (made_or_old n a e)
    where
      by : (made n ≡ Some a) ⊎ IsOldStill n a → AgedFrom g a
      by (inl f) =
          let to = done.collected.image.onto n a f in
          let copy = done.collected.image.copied to.0 n to.1 in
          let both : Some (copy_of done.collected.moved copy.0) ≡ Some a = sym copy.2 ∙ f in
          let same : copy_of done.collected.moved copy.0 ≡ a = cc in
          record { place = to.0; object = copy.0; lay = (young_lies (laned v) to.0 copy.0 copy.1).1; serial = ap (λ x. x.serial) (sym same); age = ap (λ x. x.age) (sym same) }
      by (inr o) =
          let k = old_kept n o.old.0 o.old.1 in
          let both : Some k.new ≡ Some a = sym k.new_is ∙ o.lies in
          let same : k.new ≡ a = cc in
          let age = v.aged.old n o.old.0 o.old.1 in
          record { place = n; object = o.old.0; lay = (old_lies (laned v) n o.old.0 o.old.1).1; serial = ap (λ x. x.serial) (sym same) ∙ k.serial; age = ap (λ x. x.age) (sym same) ∙ k.age ∙ age ∙ sym (ap older age) }

  aged_after : AreAged h
  aged_after = record {
    young = λ p a e. let age = done.collected.first_survival p a (sym (first_has done.nurseries p) ∙ e) in omega (arith, age);
    old = λ p a e. by p a e (objects_in g.tenured p) refl;
  }
    where
      by : (p : ℕ) (a : Object) → objects_in h.tenured p ≡ Some a → (x : Option Object) → objects_in g.tenured p ≡ x → a.age ≡ 2
      by p a e None f = done.collected.promoted p a f (sym (not_written p f) ∙ e)
      by p a e (Some o) f =
          let k = old_kept p o f in
          let both : Some k.new ≡ Some a = sym k.new_is ∙ e in
          let same : k.new ≡ a = cc in
          ap (λ x. x.age) (sym same) ∙ k.age ∙ v.aged.old p o f

  remembered_after : AreRemembered h
  remembered_after = record {
    covers = λ p q a e k y. covers p q a e k y (objects_in g.tenured p) refl;
    old = λ p k. old p (done.remembered.only p k);
  }
    where
      points : (p q : ℕ) (a : Object) → objects_in h.tenured p ≡ Some a → Among q (stack_shape.refs a.values) → IsYoung q → points_to done.young.lane a.values ≡ true
      points p q a e k y =
          let there = (told_after survive).closed p q a (old_lies laned_after p a e).1 k in
          let here : objects_in done.young q ≡ Some there.0 = sym (first_has done.nurseries q) ∙ sym (lying_young laned_after q y) ∙ there.1 in
          pointing done.young.lane q a.values k (lies_in done.young q there.0 here).lane

      promoted_is : (p : ℕ) → objects_in g.tenured p ≡ None → promoted_in g.tenured done.promoted p ≡ objects_in done.promoted p
      promoted_is p f = ap (λ x. fresh x (objects_in done.promoted p)) f

      named_young : (p q : ℕ) (a o : Object) → objects_in h.tenured p ≡ Some a → objects_in g.tenured p ≡ Some o → is_among p g.remembered ≡ false → Among q (stack_shape.refs a.values) → IsYoung q → ⊥
      named_young p q a o e f n k y =
          let both : Some a ≡ Some o = sym e ∙ done.written.others p (not_among_from_test p g.remembered n) ∙ done.collected.kept p o f in
          let same : a ≡ o = cc in
          not_among_from_test p g.remembered n (v.remembered.covers p q o f (subst (λ x. Among q (stack_shape.refs x.values)) same k) y)

      covers : (p q : ℕ) (a : Object) → objects_in h.tenured p ≡ Some a → Among q (stack_shape.refs a.values) → IsYoung q → (x : Option Object) → objects_in g.tenured p ≡ x → Among p h.remembered
      covers p q a e k y None f =
          done.remembered.promoted p (done.collected.pointers.complete p a (promoted_is p f ∙ sym (not_written p f) ∙ e) (points p q a e k y))
      covers p q a e k y (Some o) f = by (is_among p g.remembered) refl
        where
          by : (x : Bool) → is_among p g.remembered ≡ x → Among p h.remembered
          by true n = done.remembered.still p a (among_from_test p g.remembered n) e (points p q a e k y)
          by false n = absurd (named_young p q a o e f n k y)

      of_listed : (p : ℕ) (o : Object) → promoted_in g.tenured done.promoted p ≡ Some o → (x : Option Object) → objects_in g.tenured p ≡ x → (a : Object) × (objects_in h.tenured p ≡ Some a)
      of_listed p o e None f = (o, not_written p f ∙ sym (promoted_is p f) ∙ e)
      of_listed p o e (Some x) f = let k = old_kept p x f in (k.new, k.new_is)

      old : (p : ℕ) → Among p done.listed ⊎ Among p g.remembered → (a : Object) × (objects_in h.tenured p ≡ Some a)
      old p (inl a) = let x = done.collected.pointers.sound p a in of_listed p x.0 x.1 (objects_in g.tenured p) refl
      old p (inr a) = let x = v.remembered.old p a in let k = old_kept p x.0 x.1 in (k.new, k.new_is)

  stays : (k : ℕ) → Stays g roots k → object_at (content_of h) k ≡ object_at (content_of g) k
  stays k x = by x
    where
      same : (p : ℕ) (a : Object) → S p → lying g p ≡ Some a → a.serial ≡ k → object_at (content_of h) k ≡ object_at (content_of g) k
      same p a y e f =
          subst (λ n. object_at (content_of h) n ≡ object_at (content_of g) n) f (carried_same (shown v) (shown_after survive) carries p a y e)

      by : Stays g roots k → object_at (content_of h) k ≡ object_at (content_of g) k
      by (inl o) = same o.place o.object (inl (o.object, o.lies)) (old_lies (laned v) o.place o.object o.lies).1 o.serial
      by (inr r) = same r.place r.object (inr r.reached) (young_lies (laned v) r.place r.object r.lies).1 r.serial

  only : (k : ℕ) (o : ObjectOf ClassId) → object_at (content_of h) k ≡ Some o → Stays g roots k
  only k o e =
      let x = (shown_after survive).only k o e in
      let y = from survive x.0 x.1 x.2 in
      by y.place y.carried.old y.carried.old_is (sym y.carried.serial ∙ ap (λ z. z.serial) y.same ∙ x.3) y.has
    where
      by : (p : ℕ) (a : Object) → lying g p ≡ Some a → a.serial ≡ k → S p → Stays g roots k
      by p a e f (inl z) = inl (record { place = p; object = a; lies = sym (lying_old (laned v) p (old_lies (laned v) p z.0 z.1).0) ∙ e; serial = f })
      by p a e f (inr r) = inr (record { place = p; object = a; lies = sym (lying_young (laned v) p (young_lies (laned v) p r.there.0 r.there.1).0) ∙ e; reached = r; serial = f })

  root_survives : AllResident (content_of g) roots → (p : ℕ) → Among p roots → S p
  root_survives r p a = let x = resident_lies (shown v) roots r p a in by (lies_where (laned v) p x.0 x.1)
    where
      by : {o : Object} → LiesYoung g p o ⊎ LiesOld g p o → S p
      by (inl y) = inr (record { there = (_, y.lies); reach = root p (among_left p roots (fields_of g.tenured g.remembered) a) })
      by (inr o) = inl (_, o.lies)

  kept_roots : AllResident (content_of g) roots → Kept (content_of g) roots (content_of h) moved
  kept_roots r = subst (λ l. Kept (content_of g) roots (content_of h) l) (sym moved_parts.0) (kept_after survive roots (root_survives r))

  pub collected_young : AllResident (content_of g) roots → LeavesOldAndReached g h roots moved
  collected_young r =
      let cells = counted h done.nurseries done.young_whole done.old_whole in
      let fewer = fewer_cells survive in
      record {
        generations = record {
          nurseries = done.nurseries.nurseries;
          tenured = laned_after.tenured;
          told = told_after survive;
          aged = aged_after;
          remembered = remembered_after;
          counted = cells;
          within = (omega (arith, cells, fewer, v.counted, v.within));
        };
        kept = kept_roots r;
        next = next_same survive;
        as_before = before_after survive;
        stays = stays;
        only = only;
        aged = have_aged;
        survived = λ p a e. done.collected.first_survival p a (sym (first_has done.nurseries p) ∙ e);
      }
