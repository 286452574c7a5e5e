-- An object is put into a nursery.
use Rattle.std.proofs.Common.{◌≡◌, ◌≢◌, ◌⊎◌, ℕ, ◌+◌, ◌<◌, ◌≤◌, ◌^◌, List, [], ◌∷◌, Some, None, refl, sym, ap, ◌∙◌, subst, inl, inr, arith}
use Rattle.std.proofs.lemmas.Bool.Decides.{eqb_tells}
use Rattle.jm_values.specs.declared.value.Value.{Value}
use Rattle.jm_values.specs.Shape.{Among}
use Rattle.jm_values.specs.Rename.{stack_shape}
use Rattle.jm_values.specs.Objects.{ObjectOf, cells_of}
use Rattle.jm_values.specs.Content.{Content, IsSound, Kept, AllResident, Reached, serials_of, object_at, name_of}
use Rattle.jm_values.proofs.Renaming.{stack_is_shape}
use Rattle.jm_heap.specs.Cells.{class_size, resident_cells}
use Rattle.jm_heap.specs.Allocation.{MadeHere}
use Rattle.jm_heap.specs.Collection.{IsAsBeforeMaking}
use Rattle.jm_heap.specs.declared.class_id.ClassId.{ClassId}
use Rattle.jm_blocks.specs.Objects.{Object}
use Rattle.jm_blocks.specs.Cells.{object_cells}
use Rattle.jm_blocks.specs.Stores.{objects_in}
use Rattle.jm_copy.specs.Image.{bare}
use Rattle.jm_gen_heap.specs.Generations.{Generations, IsYoung, lying, all_cells}
use Rattle.jm_gen_heap.specs.Residents.{named, content_of}
use Rattle.jm_gen_heap.specs.Invariant.{AreGenerations, AreTold, AreAged, AreRemembered}
use Rattle.jm_gen_heap.specs.Steps.{IsNew, IsPut}
use Rattle.jm_gen_heap.proofs.Showing.{Shows, Told, shows, sound_content}
use Rattle.jm_gen_heap.proofs.Reaching.{LiesAt, at_place, serial_is, resident_lies, reached_lies}
use Rattle.jm_gen_heap.proofs.ResidentCells.{cells_covered, cells_alike, used_at_most, serial_listed}
use Rattle.jm_gen_heap.proofs.Lanes.{AreLaned, lanes, lying_young, young_lies}
use Rattle.jm_gen_heap.proofs.Carrying.{Carries, kept, carried_same}
use Rattle.jm_program.proofs.Texts.{map_same as unnamed_map}

pub laned : {g : Generations} → AreGenerations g → AreLaned g
laned v = record { nurseries = v.nurseries; tenured = v.tenured }

pub shown : {g : Generations} → AreGenerations g → Shows (lying g) (content_of g)
shown {g = g} v = shows g (lanes (laned v)) v.told

pub sound : {g : Generations} → AreGenerations g → IsSound (content_of g)
sound {g = g} v = sound_content g (lanes (laned v)) v.told

-- what is reached has a serial below the next one
pub reached_below : {g : Generations} → AreGenerations g → (roots : List ℕ) → AllResident (content_of g) roots → (k : ℕ) → Reached (content_of g) roots k → k < (content_of g).next
unfolding content_of
reached_below {g = g} v roots r k h =
    let x = reached_lies (shown v) (LiesAt (lying g)) roots (resident_lies (shown v) roots r) (λ p q a s e m. v.told.closed p q a e m) (λ p s. s) k h in
    subst (λ n. n < g.next) x.serial (v.told.below x.place x.object x.lies)

none_among : (q : ℕ) (l : List ℕ) → l ≡ [] → Among q l → ⊥
none_among q l e a = subst (Among q) e a

-- an object without references is the same under serials
pub plain_named : (f : ℕ → ℕ) (o : Object) → stack_shape.refs o.values ≡ [] → named f o ≡ bare o
plain_named f o e =
    let laws = stack_is_shape o.values in
    ap (λ (vs : List Value). record { type = o.class; values = vs }) (laws.agrees f (λ p. p) (λ p a. absurd (none_among p (stack_shape.refs o.values) e a)) ∙ laws.keeps)

module _ {g h : Generations} (v : AreGenerations g) {p : ℕ} {o : Object} (w : IsPut g h p o) (n : IsNew g o) where
  abbrev c : Content ClassId
  c = content_of g

  abbrev d : Content ClassId
  d = content_of h

  laned_after : AreLaned h
  laned_after = record { nurseries = w.nurseries; tenured = ap (λ t. t.lane) w.tenured ∙ v.tenured }

  -- what lies there is the new object, or lay there before
  abbrev WasOrIs : ℕ → Object → Type 0
  WasOrIs q a = ((q ≡ p) × (a ≡ o)) ⊎ ((q ≢ p) × (lying g q ≡ Some a))

  was : (q : ℕ) (a : Object) → lying h q ≡ Some a → WasOrIs q a
  was q a e = by (eqb_tells q p)
    where
      by : Told q p → WasOrIs q a
      by (inl t) = let both : Some a ≡ Some o = sym e ∙ ap (lying h) t.1 ∙ w.here in inl (t.1, cc)
      by (inr t) = inr (t.1, sym (w.others q t.1) ∙ e)

  still : (q : ℕ) (a : Object) → lying g q ≡ Some a → lying h q ≡ Some a
  still q a e = w.others q (λ t. let both : None ≡ Some a = sym w.fresh ∙ ap (lying g) (sym t) ∙ e in cc) ∙ e

  told_after : AreTold h
  told_after = record {
    apart = λ q r a b e f s. apart q r a b (was q a e) (was r b f) s;
    below = λ q a e. below q a (was q a e);
    closed = λ q r a e m. closed q r a (was q a e) m;
  }
    where
      old_serial : (q : ℕ) (a : Object) → lying g q ≡ Some a → a.serial ≡ o.serial → ⊥
      old_serial q a e s = let low = v.told.below q a e in omega (arith, low, s, n.serial)

      apart : (q r : ℕ) (a b : Object) → WasOrIs q a → WasOrIs r b → a.serial ≡ b.serial → q ≡ r
      apart q r a b (inl x) (inl y) s = x.0 ∙ sym y.0
      apart q r a b (inl x) (inr y) s = absurd (old_serial r b y.1 (sym s ∙ ap (λ z. z.serial) x.1))
      apart q r a b (inr x) (inl y) s = absurd (old_serial q a x.1 (s ∙ ap (λ z. z.serial) y.1))
      apart q r a b (inr x) (inr y) s = v.told.apart q r a b x.1 y.1 s

      below : (q : ℕ) (a : Object) → WasOrIs q a → a.serial < h.next
      below q a (inl x) = let same : a.serial ≡ o.serial = ap (λ z. z.serial) x.1 in omega (arith, same, n.serial, w.next)
      below q a (inr x) = let low = v.told.below q a x.1 in omega (arith, low, w.next)

      closed : (q r : ℕ) (a : Object) → WasOrIs q a → Among r (stack_shape.refs a.values) → LiesAt (lying h) r
      closed q r a (inl x) m = absurd (none_among r (stack_shape.refs a.values) (ap (λ z. stack_shape.refs z.values) x.1 ∙ n.plain) m)
      closed q r a (inr x) m = let y = v.told.closed q r a x.1 m in (y.0, still r y.0 y.1)

  shown_after : Shows (lying h) d
  shown_after = shows h (lanes laned_after) told_after

  sound_after : IsSound d
  sound_after = sound_content h (lanes laned_after) told_after

  carries : Carries (lying g) (lying h) (λ q. q) (LiesAt (lying g))
  carries = record {
    there = λ q s. record { old = s.0; old_is = s.1; new = s.0; new_is = still q s.0 s.1; serial = refl; class = refl; values = sym (stack_is_shape s.0.values).keeps };
    over = λ q r a s e m. v.told.closed q r a e m;
  }

  limit_same : d.limit ≡ c.limit
  unfolding content_of
  limit_same = w.limit

  next_more : d.next ≡ c.next + 1
  unfolding content_of
  next_more = w.next

  next_is : c.next ≡ o.serial
  unfolding content_of
  next_is = sym n.serial

  object_same : (k : ℕ) (x : ObjectOf ClassId) → object_at c k ≡ Some x → object_at d k ≡ Some x
  object_same k x e =
      let r = (shown v).only k x e in
      subst (λ j. object_at d j ≡ object_at c j) r.3 (carried_same (shown v) shown_after carries r.0 r.1 (r.1, r.2) r.2) ∙ e

  filled : object_at d c.next ≡ Some (bare o)
  filled = ap (object_at d) next_is ∙ shown_after.objects p o w.here ∙ ap Some (plain_named (name_of d) o n.plain)

  as_before : IsAsBeforeMaking c d
  as_before k x away e =
      let r = shown_after.only k x e in
      by r.0 r.1 r.3 (was r.0 r.1 r.2)
    where
      by : (q : ℕ) (a : Object) → a.serial ≡ k → WasOrIs q a → object_at c k ≡ Some x
      by q a s (inl t) = absurd (away (sym s ∙ ap (λ z. z.serial) t.1 ∙ sym next_is))
      by q a s (inr t) =
          sym (subst (λ j. object_at d j ≡ object_at c j) s (carried_same (shown v) shown_after carries q a (a, t.1) t.1)) ∙ e

  -- the cells of the residents grow by those of the object
  more_cells : resident_cells d ≡ resident_cells c + object_cells o
  more_cells =
      let all = cells_covered d (c.next ∷ serials_of c.residents) sound_after (fresh_serial, (sound v).serials) cover in
      let before = cells_covered c (serials_of c.residents) (sound v) (sound v).serials (λ k a. a) in
      let alike = cells_alike (object_at d) (object_at c) (serials_of c.residents) same in
      let one : cells_of class_size (object_at d c.next) ≡ object_cells o = ap (cells_of class_size) filled in
      omega (arith, all, before, alike, one)
    where
      fresh_serial : Among c.next (serials_of c.residents) → ⊥
      fresh_serial a = let low = (sound v).below c.next a in omega (arith, low)

      same : (k : ℕ) → Among k (serials_of c.residents) → cells_of class_size (object_at d k) ≡ cells_of class_size (object_at c k)
      same k a =
          let r = (shown v).listed k a in
          let was : object_at c k ≡ Some (named (name_of c) r.1) = ap (object_at c) (sym r.3) ∙ (shown v).objects r.0 r.1 r.2 in
          ap (cells_of class_size) (object_same k (named (name_of c) r.1) was ∙ sym was)

      cover : (k : ℕ) → Among k (serials_of d.residents) → Among k (c.next ∷ serials_of c.residents)
      cover k a = let r = shown_after.listed k a in by r.0 r.1 r.3 (was r.0 r.1 r.2)
        where
          by : (q : ℕ) (b : Object) → b.serial ≡ k → WasOrIs q b → Among k (c.next ∷ serials_of c.residents)
          by q b s (inl t) = inl (sym s ∙ ap (λ z. z.serial) t.1 ∙ sym next_is)
          by q b s (inr t) = inr (serial_listed c k (named (name_of c) b) (ap (object_at c) (sym s) ∙ (shown v).objects q b t.1))

  aged_after : AreAged h
  aged_after = record {
    young = λ q a e. let y = young_lies laned_after q a e in young q a (was q a y.1) y.0;
    old = λ q a e. v.aged.old q a (ap (λ t. objects_in t q) (sym w.tenured) ∙ e);
  }
    where
      young : (q : ℕ) (a : Object) → WasOrIs q a → IsYoung q → a.age ≤ 1
      young q a (inl t) y = let age : a.age ≡ 0 = ap (λ z. z.age) t.1 ∙ n.age in omega (arith, age)
      young q a (inr t) y = v.aged.young q a (sym (lying_young (laned v) q y) ∙ t.1)

  remembered_after : AreRemembered h
  remembered_after = record {
    covers = λ q r a e m y. subst (Among q) (sym w.remembered) (v.remembered.covers q r a (ap (λ t. objects_in t q) (sym w.tenured) ∙ e) m y);
    old = λ q a. let x = v.remembered.old q (subst (Among q) w.remembered a) in (x.0, ap (λ t. objects_in t q) w.tenured ∙ x.1);
  }

  counted_after : resident_cells d ≡ all_cells h
  counted_after = more_cells ∙ ap (λ k. k + object_cells o) v.counted ∙ sym w.cells

  pub put_keeps : AreGenerations h
  put_keeps = record {
    nurseries = w.nurseries;
    tenured = laned_after.tenured;
    told = told_after;
    aged = aged_after;
    remembered = remembered_after;
    counted = counted_after;
    within = subst (λ k. all_cells h ≤ k) (sym w.limit) w.within;
  }

  room : (content_of g).limit ≡ g.limit
  unfolding content_of
  room = refl

  pub put_made : MadeHere c d p (bare o)
  put_made = record {
    made = λ roots r. record {
      kept = subst (λ l. Kept c roots d l) (unnamed_map roots) (kept (shown v) shown_after carries roots (resident_lies (shown v) roots r) limit_same sound_after);
      next = next_more;
      placed = serial_is shown_after p o w.here ∙ ap Some (sym next_is);
      filled = filled;
      fits = (let used = used_at_most c roots (reached_below v roots r) in omega (arith, used, v.counted, w.cells, w.within, room));
      lasts = subst (λ k. k < 2 ^ 63) (sym n.serial ∙ sym next_is) n.lasts;
    };
    places = λ q k e. let x = at_place (shown v) q k e in serial_is shown_after q x.0 (still q x.0 x.1) ∙ ap Some x.2;
    objects = object_same;
    as_before = as_before;
    cells = more_cells;
    within = (omega (arith, counted_after, w.within, limit_same, room));
  }
