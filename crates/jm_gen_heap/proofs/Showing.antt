-- The content of generations, by place and by serial.
use Rattle.std.proofs.Common.{◌≡◌, ◌≢◌, ◌⊎◌, ℕ, ◌<◌, List, [], ◌∷◌, Option, Some, None, true, false, refl, sym, ap, ◌∙◌, subst, inl, inr}
use Rattle.std.specs.Prelude.{map, nat_eq, unwrap_or}
use Rattle.std.proofs.lemmas.Bool.Decides.{eqb_tells}
use Rattle.jm_values.specs.Shape.{Among}
use Rattle.jm_values.specs.Rename.{stack_shape}
use Rattle.jm_values.specs.Objects.{ObjectOf}
use Rattle.jm_values.specs.Reach.{AllDistinct}
use Rattle.jm_values.specs.Content.{Content, IsSound, serial_in, object_in, serials_of, places_of, serial_at, object_at, name_of}
use Rattle.jm_heap.specs.declared.class_id.ClassId.{ClassId}
use Rattle.jm_heap.proofs.ContentLemmas.{rename_all_same, choose_true, choose_false}
use Rattle.jm_blocks.specs.Objects.{Object}
use Rattle.jm_copy.specs.Condemned.{AreLanes}
use Rattle.jm_gen_heap.specs.Generations.{Generations, stores_of, lying}
use Rattle.jm_gen_heap.specs.Residents.{Placed, placed_in, serial_of, serial_name, named, resident_of, content_of}
use Rattle.jm_gen_heap.specs.Invariant.{AreTold}
use Rattle.jm_gen_heap.proofs.Listing.{At, places, listed_lies, lies_listed, distinct_places}

abbrev pub Told : ℕ → ℕ → Type 0
Told a b = ((nat_eq a b ≡ true) × (a ≡ b)) ⊎ ((nat_eq a b ≡ false) × (a ≢ b))

-- an object under names that agree on its references
pub named_same : (f g : ℕ → ℕ) (o : Object) → ((p : ℕ) → Among p (stack_shape.refs o.values) → f p ≡ g p) → named f o ≡ named g o
named_same f g o h = ap (λ vs. record { type = o.class; values = vs }) (rename_all_same f g o.values h)

-- the residents that placed objects are under names
module _ (name : ℕ → ℕ) where
  -- the first object at a place, and of a serial
  record FirstAt (xs : List Placed) (p : ℕ) : Type 0 where
    object : Object
    at : At xs p object
    found : serial_in (map (resident_of name) xs) p ≡ Some object.serial

  abbrev NoneAt : List Placed → ℕ → Type 0
  NoneAt xs p = (serial_in (map (resident_of name) xs) p ≡ None) × ((o : Object) → At xs p o → ⊥)

  first_at : (xs : List Placed) (p : ℕ) → FirstAt xs p ⊎ NoneAt xs p
  first_at [] p = inr (refl, λ o h. h)
  first_at (x ∷ xs) p = by (first_at xs p) (eqb_tells p x.place)
    where
      by : FirstAt xs p ⊎ NoneAt xs p → Told p x.place → FirstAt (x ∷ xs) p ⊎ NoneAt (x ∷ xs) p
      by later (inl t) = inl (record { object = x.object; at = inl (t.1, refl); found = choose_true (nat_eq p x.place) (Some x.object.serial) (serial_in (map (resident_of name) xs) p) t.0 })
      by (inl f) (inr t) = inl (record { object = f.object; at = inr f.at; found = choose_false (nat_eq p x.place) (Some x.object.serial) (serial_in (map (resident_of name) xs) p) t.0 ∙ f.found })
      by (inr f) (inr t) = inr (choose_false (nat_eq p x.place) (Some x.object.serial) (serial_in (map (resident_of name) xs) p) t.0 ∙ f.0, none f.1 t.1)
        where
          none : ((o : Object) → At xs p o → ⊥) → p ≢ x.place → (o : Object) → At (x ∷ xs) p o → ⊥
          none absent away o (inl e) = away e.0
          none absent away o (inr h) = absent o h

  record FirstOf (xs : List Placed) (k : ℕ) : Type 0 where
    place : ℕ
    object : Object
    at : At xs place object
    serial : object.serial ≡ k
    found : object_in (map (resident_of name) xs) k ≡ Some (named name object)

  abbrev NoneOf : List Placed → ℕ → Type 0
  NoneOf xs k = (object_in (map (resident_of name) xs) k ≡ None) × ((p : ℕ) (o : Object) → At xs p o → o.serial ≡ k → ⊥)

  first_of_serial : (xs : List Placed) (k : ℕ) → FirstOf xs k ⊎ NoneOf xs k
  first_of_serial [] k = inr (refl, λ p o h e. h)
  first_of_serial (x ∷ xs) k = by (first_of_serial xs k) (eqb_tells k x.object.serial)
    where
      by : FirstOf xs k ⊎ NoneOf xs k → Told k x.object.serial → FirstOf (x ∷ xs) k ⊎ NoneOf (x ∷ xs) k
      by later (inl t) = inl (record { place = x.place; object = x.object; at = inl (refl, refl); serial = sym t.1; found = choose_true (nat_eq k x.object.serial) (Some (named name x.object)) (object_in (map (resident_of name) xs) k) t.0 })
      by (inl f) (inr t) = inl (record { place = f.place; object = f.object; at = inr f.at; serial = f.serial; found = choose_false (nat_eq k x.object.serial) (Some (named name x.object)) (object_in (map (resident_of name) xs) k) t.0 ∙ f.found })
      by (inr f) (inr t) = inr (choose_false (nat_eq k x.object.serial) (Some (named name x.object)) (object_in (map (resident_of name) xs) k) t.0 ∙ f.0, none f.1 t.1)
        where
          none : ((p : ℕ) (o : Object) → At xs p o → o.serial ≡ k → ⊥) → k ≢ x.object.serial → (p : ℕ) (o : Object) → At (x ∷ xs) p o → o.serial ≡ k → ⊥
          none absent away p o (inl e) s = away (sym s ∙ ap (λ y. y.serial) e.1)
          none absent away p o (inr h) s = absent p o h s

  places_are : (xs : List Placed) → places_of (map (resident_of name) xs) ≡ places xs
  places_are [] = refl
  places_are (x ∷ xs) = ap (λ l. x.place ∷ l) (places_are xs)

  -- a serial of the list is that of a placed object
  serial_placed : (xs : List Placed) (k : ℕ) → Among k (serials_of (map (resident_of name) xs)) → (p : ℕ) × (o : Object) × At xs p o × (o.serial ≡ k)
  serial_placed [] k a = absurd a
  serial_placed (x ∷ xs) k (inl e) = (x.place, x.object, inl (refl, refl), sym e)
  serial_placed (x ∷ xs) k (inr a) = let r = serial_placed xs k a in (r.0, r.1, inr r.2, r.3)

  at_among : (xs : List Placed) (p : ℕ) (o : Object) → At xs p o → Among p (places xs)
  at_among [] p o h = h
  at_among (x ∷ xs) p o (inl e) = inl e.0
  at_among (x ∷ xs) p o (inr h) = inr (at_among xs p o h)

  distinct_serials : (xs : List Placed) → AllDistinct (places xs) → ((p q : ℕ) (a b : Object) → At xs p a → At xs q b → a.serial ≡ b.serial → p ≡ q) → AllDistinct (serials_of (map (resident_of name) xs))
  distinct_serials [] d h = tt
  distinct_serials (x ∷ xs) d h = (λ a. other (serial_placed xs x.object.serial a), distinct_serials xs d.1 (λ p q a b e f. h p q a b (inr e) (inr f)))
    where
      other : (p : ℕ) × (o : Object) × At xs p o × (o.serial ≡ x.object.serial) → ⊥
      other r = d.0 (subst (λ n. Among n (places xs)) (h r.0 x.place r.1 x.object (inr r.2) (inl (refl, refl)) r.3) (at_among xs r.0 r.1 r.2))

-- what lies at places, and the content that they show
pub record Shows (f : ℕ → Option Object) (c : Content ClassId) : Type 0 where
  pub serials : (p : ℕ) → serial_at c p ≡ serial_of (f p)
  pub objects : (p : ℕ) (a : Object) → f p ≡ Some a → object_at c a.serial ≡ Some (named (name_of c) a)
  pub only : (k : ℕ) (x : ObjectOf ClassId) → object_at c k ≡ Some x → (p : ℕ) × (a : Object) × (f p ≡ Some a) × (a.serial ≡ k) × (x ≡ named (name_of c) a)
  pub listed : (k : ℕ) → Among k (serials_of c.residents) → (p : ℕ) × (a : Object) × (f p ≡ Some a) × (a.serial ≡ k)

module _ (g : Generations) (l : AreLanes (stores_of g)) where
  -- the serial of a place is that of the object that lies there
  pub serial_at_place : (p : ℕ) → serial_at (content_of g) p ≡ serial_of (lying g p)
  unfolding serial_at content_of
  serial_at_place p = by (first_at (serial_name g) (placed_in (stores_of g)) p)
    where
      none : (x : Option Object) → lying g p ≡ x → ((o : Object) → At (placed_in (stores_of g)) p o → ⊥) → None ≡ serial_of x
      none None e absent = refl
      none (Some o) e absent = absurd (absent o (lies_listed (stores_of g) p o e))

      by : FirstAt (serial_name g) (placed_in (stores_of g)) p ⊎ NoneAt (serial_name g) (placed_in (stores_of g)) p → serial_in (map (resident_of (serial_name g)) (placed_in (stores_of g))) p ≡ serial_of (lying g p)
      by (inl f) = f.found ∙ ap serial_of (sym (listed_lies (stores_of g) p f.object l f.at))
      by (inr f) = f.0 ∙ none (lying g p) refl f.1

  pub name_at_place : (p : ℕ) → serial_name g p ≡ name_of (content_of g) p
  unfolding name_of
  name_at_place p = ap (λ k. unwrap_or k 0) (sym (serial_at_place p))

  same_name : (o : Object) → named (serial_name g) o ≡ named (name_of (content_of g)) o
  same_name o = named_same (serial_name g) (name_of (content_of g)) o (λ p a. name_at_place p)

  module _ (t : AreTold g) where
    object_of_serial : (p : ℕ) (a : Object) → lying g p ≡ Some a → object_at (content_of g) a.serial ≡ Some (named (name_of (content_of g)) a)
    unfolding object_at content_of
    object_of_serial p a e = by (first_of_serial (serial_name g) (placed_in (stores_of g)) a.serial)
      where
        by : FirstOf (serial_name g) (placed_in (stores_of g)) a.serial ⊎ NoneOf (serial_name g) (placed_in (stores_of g)) a.serial → object_in (map (resident_of (serial_name g)) (placed_in (stores_of g))) a.serial ≡ Some (named (name_of (content_of g)) a)
        by (inl f) =
            let lies : lying g f.place ≡ Some f.object = listed_lies (stores_of g) f.place f.object l f.at in
            let place : f.place ≡ p = t.apart f.place p f.object a lies e f.serial in
            let here : Some f.object ≡ Some a = sym lies ∙ ap (lying g) place ∙ e in
            let same : f.object ≡ a = cc in
            f.found ∙ ap Some (same_name f.object) ∙ ap (λ x. Some (named (name_of (content_of g)) x)) same
        by (inr f) = absurd (f.1 p a (lies_listed (stores_of g) p a e) refl)

    serial_of_object : (k : ℕ) (x : ObjectOf ClassId) → object_at (content_of g) k ≡ Some x → (p : ℕ) × (a : Object) × (lying g p ≡ Some a) × (a.serial ≡ k) × (x ≡ named (name_of (content_of g)) a)
    unfolding object_at content_of
    serial_of_object k x e = by (first_of_serial (serial_name g) (placed_in (stores_of g)) k)
      where
        by : FirstOf (serial_name g) (placed_in (stores_of g)) k ⊎ NoneOf (serial_name g) (placed_in (stores_of g)) k → (p : ℕ) × (a : Object) × (lying g p ≡ Some a) × (a.serial ≡ k) × (x ≡ named (name_of (content_of g)) a)
        by (inl f) =
            let same : Some x ≡ Some (named (serial_name g) f.object) = sym e ∙ f.found in
            let is : x ≡ named (serial_name g) f.object = cc in
            (f.place, f.object, listed_lies (stores_of g) f.place f.object l f.at, f.serial, is ∙ same_name f.object)
        by (inr f) = let none : None ≡ Some x = sym f.0 ∙ e in cc

    listed_serial : (k : ℕ) → Among k (serials_of (content_of g).residents) → (p : ℕ) × (a : Object) × (lying g p ≡ Some a) × (a.serial ≡ k)
    unfolding content_of
    listed_serial k a = let r = serial_placed (serial_name g) (placed_in (stores_of g)) k a in (r.0, r.1, listed_lies (stores_of g) r.0 r.1 l r.2, r.3)

    pub shows : Shows (lying g) (content_of g)
    shows = record { serials = serial_at_place; objects = object_of_serial; only = serial_of_object; listed = listed_serial }

    pub sound_content : IsSound (content_of g)
    unfolding content_of
    sound_content = record {
      places = subst AllDistinct (sym (places_are (serial_name g) (placed_in (stores_of g)))) (distinct_places (stores_of g) l);
      serials = distinct_serials (serial_name g) (placed_in (stores_of g)) (distinct_places (stores_of g) l) (λ p q a b e f s. t.apart p q a b (listed_lies (stores_of g) p a l e) (listed_lies (stores_of g) q b l f) s);
      below = λ k a. low k (listed_serial k a);
    }
      where
        low : (k : ℕ) → (p : ℕ) × (a : Object) × (lying g p ≡ Some a) × (a.serial ≡ k) → k < g.next
        low k r = subst (λ n. n < g.next) r.3 (t.below r.0 r.1 r.2)
