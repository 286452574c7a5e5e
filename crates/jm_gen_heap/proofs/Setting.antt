-- One value of an object is another.
use Rattle.std.proofs.Common.{◌≡◌, ◌≢◌, ◌⊎◌, ℕ, List, Option, Some, None, refl, sym, ap, ◌∙◌, subst, inl, inr, length, arith}
use Rattle.std.specs.Prelude.{map, slice_set, unwrap_or}
use Rattle.std.proofs.lemmas.Bool.Decides.{eqb_tells}
use Rattle.std.proofs.lemmas.List.{length-map, length-set}
use Rattle.jm_program.proofs.ParameterLoop.{options_agree}
use Rattle.jm_values.specs.declared.value.Value.{Value}
use Rattle.jm_values.specs.Shape.{Among}
use Rattle.jm_values.specs.Rename.{rename, refs, value_shape, stack_shape}
use Rattle.jm_values.specs.Objects.{ObjectOf, cells_of}
use Rattle.jm_values.specs.Content.{Content, IsSet, IsSound, AllResident, serials_of, serial_at, object_at, name_of}
use Rattle.jm_values.proofs.Lists.{map_set, refs_set}
use Rattle.jm_heap.specs.Cells.{class_size, resident_cells}
use Rattle.jm_heap.specs.declared.class_id.ClassId.{ClassId}
use Rattle.jm_blocks.specs.Objects.{Object, with_value}
use Rattle.jm_blocks.specs.Places.{lane_of}
use Rattle.jm_blocks.specs.Stores.{HasObject}
use Rattle.jm_gen_heap.specs.Generations.{Generations, IsYoung, lying, old_lane}
use Rattle.jm_gen_heap.specs.Residents.{serial_of, named, content_of}
use Rattle.jm_gen_heap.specs.Invariant.{AreGenerations, AreTold, AreAged, AreRemembered}
use Rattle.jm_gen_heap.specs.Steps.{IsWritten}
use Rattle.jm_gen_heap.proofs.Showing.{Shows, Told, shows, sound_content, named_same}
use Rattle.jm_gen_heap.proofs.Reaching.{LiesAt, serial_is, resident_lies}
use Rattle.jm_gen_heap.proofs.ResidentCells.{cells_covered, cells_alike, serial_listed}
use Rattle.jm_gen_heap.proofs.Lanes.{AreLaned, lanes, lying_young, lying_old, young_lies, old_lies}
use Rattle.jm_gen_heap.proofs.Making.{laned, shown, sound}

module _ {g h : Generations} (s : AreGenerations g) {p i : ℕ} {v : Value} (w : IsWritten g h p i v) (names : AllResident (content_of g) (refs v)) where
  abbrev c : Content ClassId
  c = content_of g

  abbrev d : Content ClassId
  d = content_of h

  laned_after : AreLaned h
  laned_after = record { nurseries = w.nurseries; tenured = w.tenured }

  -- an object before and after: one of it may have another value
  record Alike (a b : Object) : Type 0 where
    serial : b.serial ≡ a.serial
    class : b.class ≡ a.class
    age : b.age ≡ a.age
    many : length b.values ≡ length a.values

  unchanged : (a : Object) → Alike a a
  unchanged a = record { serial = refl; class = refl; age = refl; many = refl }

  written : Alike w.object (with_value w.object i v)
  written = record { serial = refl; class = refl; age = refl; many = length-set w.object.values i v }

  -- the object at a place before, of one that is there now
  record Before (q : ℕ) (b : Object) : Type 0 where
    object : Object
    lay : lying g q ≡ Some object
    alike : Alike object b
    refs_from : (r : ℕ) → Among r (stack_shape.refs b.values) → Among r (stack_shape.refs object.values) ⊎ ((q ≡ p) × Among r (refs v))

  before : (q : ℕ) (b : Object) → lying h q ≡ Some b → Before q b
  before q b e = by (eqb_tells q p)
    where
      by : Told q p → Before q b
      by (inl t) =
          let both : Some (with_value w.object i v) ≡ Some b = sym w.here ∙ ap (lying h) (sym t.1) ∙ e in
          let same : with_value w.object i v ≡ b = cc in
          record {
            object = w.object;
            lay = ap (lying g) t.1 ∙ w.lay;
            alike = subst (Alike w.object) same written;
            refs_from = λ r a. of_value r (refs_set value_shape w.object.values i v r (subst (λ x. Among r (stack_shape.refs x.values)) (sym same) a));
          }
        where
          of_value : (r : ℕ) → Among r (stack_shape.refs w.object.values) ⊎ Among r (refs v) → Among r (stack_shape.refs w.object.values) ⊎ ((q ≡ p) × Among r (refs v))
          of_value r (inl a) = inl a
          of_value r (inr a) = inr (t.1, a)
      by (inr t) = record { object = b; lay = sym (w.others q t.1) ∙ e; alike = unchanged b; refs_from = λ r a. inl a }

  record After (q : ℕ) (a : Object) : Type 0 where
    object : Object
    lies : lying h q ≡ Some object
    alike : Alike a object

  after : (q : ℕ) (a : Object) → lying g q ≡ Some a → After q a
  after q a e = by (eqb_tells q p)
    where
      by : Told q p → After q a
      by (inl t) =
          let both : Some w.object ≡ Some a = sym w.lay ∙ ap (lying g) (sym t.1) ∙ e in
          let same : w.object ≡ a = cc in
          record { object = with_value w.object i v; lies = ap (lying h) t.1 ∙ w.here; alike = subst (λ x. Alike x (with_value w.object i v)) same written }
      by (inr t) = record { object = a; lies = w.others q t.1 ∙ e; alike = unchanged a }

  told_after : AreTold h
  told_after = record {
    apart = λ q r a b e f same. let x = before q a e in let y = before r b f in s.told.apart q r x.object y.object x.lay y.lay (sym x.alike.serial ∙ same ∙ y.alike.serial);
    below = λ q a e. let x = before q a e in let low = s.told.below q x.object x.lay in omega (arith, low, w.next, x.alike.serial);
    closed = λ q r a e m. let x = before q a e in named_lies r (lies_before q r a x (x.refs_from r m));
  }
    where
      lies_before : (q r : ℕ) (a : Object) (x : Before q a) → Among r (stack_shape.refs x.object.values) ⊎ ((q ≡ p) × Among r (refs v)) → LiesAt (lying g) r
      lies_before q r a x (inl m) = s.told.closed q r x.object x.lay m
      lies_before q r a x (inr m) = resident_lies (shown s) (refs v) names r m.1

      named_lies : (r : ℕ) → LiesAt (lying g) r → LiesAt (lying h) r
      named_lies r y = let z = after r y.0 y.1 in (z.object, z.lies)

  shown_after : Shows (lying h) d
  shown_after = shows h (lanes laned_after) told_after

  sound_after : IsSound d
  sound_after = sound_content h (lanes laned_after) told_after

  serials : (q : ℕ) → serial_at d q ≡ serial_at c q
  serials q = shown_after.serials q ∙ by (lying g q) refl (lying h q) refl ∙ sym ((shown s).serials q)
    where
      by : (x : Option Object) → lying g q ≡ x → (y : Option Object) → lying h q ≡ y → serial_of y ≡ serial_of x
      by None e None f = refl
      by None e (Some b) f = let x = before q b f in let both : Some x.object ≡ None = sym x.lay ∙ e in cc
      by (Some a) e None f = let x = after q a e in let both : Some x.object ≡ None = sym x.lies ∙ f in cc
      by (Some a) e (Some b) f =
          let x = after q a e in
          let both : Some x.object ≡ Some b = sym x.lies ∙ f in
          let same : x.object ≡ b = cc in
          ap Some (ap (λ z. z.serial) (sym same) ∙ x.alike.serial)

  names_same : (q : ℕ) → name_of d q ≡ name_of c q
  unfolding name_of
  names_same q = ap (λ o. unwrap_or o 0) (serials q)

  written_object : named (name_of d) (with_value w.object i v) ≡ record { type = w.object.class; values = slice_set (map (rename (name_of c)) w.object.values) i (rename (name_of c) v) }
  written_object =
      named_same (name_of d) (name_of c) (with_value w.object i v) (λ q m. names_same q)
      ∙ ap (λ (l : List Value). record { type = w.object.class; values = l }) (map_set (rename (name_of c)) w.object.values i v)

  changed : (k : ℕ) (o : ObjectOf ClassId) → serial_at c p ≡ Some k → object_at c k ≡ Some o → object_at d k ≡ Some (record { type = o.type; values = slice_set o.values i (rename (name_of c) v) })
  changed k o e f =
      let number : Some w.object.serial ≡ Some k = sym (serial_is (shown s) p w.object w.lay) ∙ e in
      let serial : w.object.serial ≡ k = cc in
      let both : Some (named (name_of c) w.object) ≡ Some o = sym ((shown s).objects p w.object w.lay) ∙ ap (object_at c) serial ∙ f in
      let was : named (name_of c) w.object ≡ o = cc in
      ap (object_at d) (sym serial)
      ∙ shown_after.objects p (with_value w.object i v) w.here
      ∙ ap Some (written_object ∙ ap (λ (x : ObjectOf ClassId). record { type = x.type; values = slice_set x.values i (rename (name_of c) v) }) was)

  other_objects : (k j : ℕ) → serial_at c p ≡ Some k → j ≢ k → object_at d j ≡ object_at c j
  other_objects k j e away = options_agree (object_at d j) (object_at c j) (λ x f. was x (shown_after.only j x f)) (λ x f. is x ((shown s).only j x f))
    where
      written_serial : w.object.serial ≡ k
      written_serial = let number : Some w.object.serial ≡ Some k = sym (serial_is (shown s) p w.object w.lay) ∙ e in cc

      here : (q : ℕ) (a : Object) → lying g q ≡ Some a → a.serial ≡ j → q ≢ p
      here q a f same t =
          let both : Some a ≡ Some w.object = sym f ∙ ap (lying g) t ∙ w.lay in
          let object : a ≡ w.object = cc in
          away (sym same ∙ ap (λ z. z.serial) object ∙ written_serial)

      was : (x : ObjectOf ClassId) → (q : ℕ) × (a : Object) × (lying h q ≡ Some a) × (a.serial ≡ j) × (x ≡ named (name_of d) a) → object_at c j ≡ Some x
      was x r =
          let b = before r.0 r.1 r.2 in
          let lay : lying g r.0 ≡ Some r.1 = sym (w.others r.0 (here r.0 b.object b.lay (sym b.alike.serial ∙ r.3))) ∙ r.2 in
          ap (object_at c) (sym r.3) ∙ (shown s).objects r.0 r.1 lay ∙ ap Some (sym (r.4 ∙ named_same (name_of d) (name_of c) r.1 (λ q m. names_same q)))

      is : (x : ObjectOf ClassId) → (q : ℕ) × (a : Object) × (lying g q ≡ Some a) × (a.serial ≡ j) × (x ≡ named (name_of c) a) → object_at d j ≡ Some x
      is x r =
          let lies : lying h r.0 ≡ Some r.1 = w.others r.0 (here r.0 r.1 r.2 r.3) ∙ r.2 in
          ap (object_at d) (sym r.3) ∙ shown_after.objects r.0 r.1 lies ∙ ap Some (named_same (name_of d) (name_of c) r.1 (λ q m. names_same q) ∙ sym r.4)

  pub written_set : IsSet c d p i v
  unfolding content_of
  written_set = record { limit = w.limit; next = w.next; sound = sound_after; serials = serials; changed = changed; others = other_objects }

  -- no object has another size
  same_cells : resident_cells d ≡ resident_cells c
  same_cells =
      cells_covered d (serials_of c.residents) sound_after (sound s).serials cover
      ∙ cells_alike (object_at d) (object_at c) (serials_of c.residents) alike
      ∙ sym (cells_covered c (serials_of c.residents) (sound s) (sound s).serials (λ k a. a))
    where
      cover : (k : ℕ) → Among k (serials_of d.residents) → Among k (serials_of c.residents)
      cover k a =
          let r = shown_after.listed k a in
          let x = before r.0 r.1 r.2 in
          serial_listed c k (named (name_of c) x.object) (ap (object_at c) (sym r.3 ∙ x.alike.serial) ∙ (shown s).objects r.0 x.object x.lay)

      size : (name : ℕ → ℕ) (a : Object) → cells_of class_size (Some (named name a)) ≡ class_size a.class (length a.values)
      size name a = ap (class_size a.class) (length-map a.values (rename name))

      alike : (k : ℕ) → Among k (serials_of c.residents) → cells_of class_size (object_at d k) ≡ cells_of class_size (object_at c k)
      alike k m =
          let r = (shown s).listed k m in
          let x = after r.0 r.1 r.2 in
          ap (cells_of class_size) (ap (object_at d) (sym r.3 ∙ sym x.alike.serial) ∙ shown_after.objects r.0 x.object x.lies)
          ∙ size (name_of d) x.object
          ∙ ap (λ t. class_size t (length x.object.values)) x.alike.class
          ∙ ap (class_size r.1.class) x.alike.many
          ∙ sym (size (name_of c) r.1)
          ∙ ap (cells_of class_size) (sym ((shown s).objects r.0 r.1 r.2) ∙ ap (object_at c) r.3)

  aged_after : AreAged h
  aged_after = record {
    young = λ q a e. let y = young_lies laned_after q a e in let x = before q a y.1 in let age = s.aged.young q x.object (sym (lying_young (laned s) q y.0) ∙ x.lay) in omega (arith, age, x.alike.age);
    old = λ q a e. let y = old_lies laned_after q a e in let x = before q a y.1 in x.alike.age ∙ s.aged.old q x.object (sym (lying_old (laned s) q y.0) ∙ x.lay);
  }

  remembered_after : AreRemembered h
  remembered_after = record {
    covers = λ q r a e m y. let z = old_lies laned_after q a e in let x = before q a z.1 in covered q r a z.0 y x (x.refs_from r m);
    old = λ q a. old q (w.noted.only q a);
  }
    where
      covered : (q r : ℕ) (a : Object) → lane_of q ≡ old_lane → IsYoung r → (x : Before q a) → Among r (stack_shape.refs x.object.values) ⊎ ((q ≡ p) × Among r (refs v)) → Among q h.remembered
      covered q r a lane y x (inl m) = w.noted.keeps q (s.remembered.covers q r x.object (sym (lying_old (laned s) q lane) ∙ x.lay) m y)
      covered q r a lane y x (inr m) = subst (λ n. Among n h.remembered) (sym m.0) (w.noted.covers (ap lane_of (sym m.0) ∙ lane) r m.1 y)

      now_old : (q : ℕ) (b : Object) → lying h q ≡ Some b → lane_of q ≡ old_lane → HasObject h.tenured q
      now_old q b e lane = (b, sym (lying_old laned_after q lane) ∙ e)

      old : (q : ℕ) → Among q g.remembered ⊎ ((q ≡ p) × (lane_of p ≡ old_lane)) → HasObject h.tenured q
      old q (inl a) =
          let x = s.remembered.old q a in
          let y = old_lies (laned s) q x.0 x.1 in
          let z = after q x.0 y.1 in
          now_old q z.object z.lies y.0
      old q (inr t) = now_old q (with_value w.object i v) (ap (lying h) t.0 ∙ w.here) (ap lane_of t.0 ∙ t.1)

  pub written_keeps : AreGenerations h
  written_keeps = record {
    nurseries = w.nurseries;
    tenured = w.tenured;
    told = told_after;
    aged = aged_after;
    remembered = remembered_after;
    counted = same_cells ∙ s.counted ∙ sym w.cells;
    within = (omega (arith, s.within, w.cells, w.limit));
  }
