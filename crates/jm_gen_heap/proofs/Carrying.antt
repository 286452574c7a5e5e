-- Objects that survive under other places are residents as before.
use Rattle.std.proofs.Common.{◌≡◌, ℕ, List, [], ◌∷◌, Option, Some, refl, sym, ap, ◌∙◌, subst, inl, inr}
use Rattle.std.specs.Prelude.{map}
use Rattle.jm_values.specs.declared.value.Value.{Value}
use Rattle.jm_values.specs.Shape.{Among}
use Rattle.jm_values.specs.Rename.{rename, stack_shape}
use Rattle.jm_values.specs.Content.{Content, IsSound, Kept, Reached, object_at, name_of}
use Rattle.jm_values.proofs.Among.{among_mapped}
use Rattle.jm_values.proofs.Renaming.{stack_is_shape}
use Rattle.jm_heap.specs.Collection.{IsAsBefore}
use Rattle.jm_heap.specs.declared.class_id.ClassId.{ClassId}
use Rattle.jm_heap.proofs.ContentLemmas.{rename_all_same}
use Rattle.jm_blocks.specs.Objects.{Object}
use Rattle.jm_gen_heap.specs.Residents.{named}
use Rattle.jm_gen_heap.proofs.Showing.{Shows}
use Rattle.jm_gen_heap.proofs.Reaching.{LiesAt, LiesWith, name_is, lying_resident, reached_lies}

-- the object at a place is at the place that this became, under other places
pub record IsCarried (f g : ℕ → Option Object) (m : ℕ → ℕ) (p : ℕ) : Type 0 where
  pub old : Object
  pub old_is : f p ≡ Some old
  pub new : Object
  pub new_is : g (m p) ≡ Some new
  pub serial : new.serial ≡ old.serial
  pub class : new.class ≡ old.class
  pub values : new.values ≡ map (rename m) old.values

-- the places of objects that survive, closed under references
pub record Carries (f g : ℕ → Option Object) (m : ℕ → ℕ) (S : ℕ → Type 0) : Type 0 where
  pub there : (p : ℕ) → S p → IsCarried f g m p
  pub over : (p q : ℕ) (a : Object) → S p → f p ≡ Some a → Among q (stack_shape.refs a.values) → S q

-- and they are all that there is afterwards
abbrev pub IsAllCarried : (ℕ → Option Object) → (ℕ → ℕ) → (ℕ → Type 0) → Type 0
IsAllCarried g m S = (n : ℕ) (a : Object) → g n ≡ Some a → (p : ℕ) × S p × (m p ≡ n)

renamed_twice : (f m : ℕ → ℕ) (vs : List Value) → map (rename f) (map (rename m) vs) ≡ map (rename (λ q. f (m q))) vs
renamed_twice f m vs = (stack_is_shape vs).composes f m

module _ {f g : ℕ → Option Object} {c d : Content ClassId} (s : Shows f c) (t : Shows g d) {m : ℕ → ℕ} {S : ℕ → Type 0} (w : Carries f g m S) where
  pub name_carried : (p : ℕ) → S p → name_of d (m p) ≡ name_of c p
  name_carried p h = let x = w.there p h in name_is t (m p) x.new x.new_is ∙ x.serial ∙ sym (name_is s p x.old x.old_is)

  object_carried : (p : ℕ) → S p → (x : IsCarried f g m p) → named (name_of d) x.new ≡ named (name_of c) x.old
  object_carried p h x =
      ap (λ (k : ClassId). record { type = k; values = map (rename (name_of d)) x.new.values }) x.class
      ∙ ap (λ (vs : List Value). record { type = x.old.class; values = vs }) (ap (map (rename (name_of d))) x.values ∙ renamed_twice (name_of d) m x.old.values ∙ rename_all_same (λ q. name_of d (m q)) (name_of c) x.old.values (λ q a. name_carried q (w.over p q x.old h x.old_is a)))

  -- an object that survives is what it was
  pub carried_same : (p : ℕ) (a : Object) → S p → f p ≡ Some a → object_at d a.serial ≡ object_at c a.serial
  carried_same p a h e =
      let x = w.there p h in
      let here : Some x.old ≡ Some a = sym x.old_is ∙ e in
      let same : x.old ≡ a = cc in
      let number : x.new.serial ≡ a.serial = x.serial ∙ ap (λ y. y.serial) same in
      subst (λ k. object_at d k ≡ Some (named (name_of d) x.new)) number (t.objects (m p) x.new x.new_is)
      ∙ ap Some (object_carried p h x ∙ ap (named (name_of c)) same)
      ∙ sym (s.objects p a e)

  old_lies : (p : ℕ) → S p → LiesAt f p
  old_lies p h = let x = w.there p h in (x.old, x.old_is)

  names_carried : (ps : List ℕ) → ((p : ℕ) → Among p ps → S p) → map (name_of d) (map m ps) ≡ map (name_of c) ps
  names_carried [] h = refl
  names_carried (p ∷ ps) h =
      ap (λ k. k ∷ map (name_of d) (map m ps)) (name_carried p (h p (inl refl)))
      ∙ ap (λ l. name_of c p ∷ l) (names_carried ps (λ q a. h q (inr a)))

  -- with the roots among what survives, all that they reach is kept
  pub kept : (roots : List ℕ) → ((p : ℕ) → Among p roots → S p) → d.limit ≡ c.limit → IsSound d → Kept c roots d (map m roots)
  kept roots h limit sound = record {
    limit = limit;
    sound = sound;
    names = names_carried roots h;
    resident = lying_resident t (map m roots) moved;
    reached = same;
  }
    where
      moved : (n : ℕ) → Among n (map m roots) → LiesAt g n
      moved n a =
          let r = among_mapped m n roots a in
          let x = w.there r.0 (h r.0 r.1) in
          (x.new, ap g r.2 ∙ x.new_is)

      same : (k : ℕ) → Reached c roots k → object_at d k ≡ object_at c k
      same k r = by (reached_lies s S roots h w.over old_lies k r)
        where
          by : LiesWith s S k → object_at d k ≡ object_at c k
          by x = subst (λ n. object_at d n ≡ object_at c n) x.serial (carried_same x.place x.object x.has x.lies)

  -- and where nothing else is there, all is as before
  pub as_before : IsAllCarried g m S → IsAsBefore c d
  as_before all k o e =
      let r = t.only k o e in
      let a = all r.0 r.1 r.2 in
      let x = w.there a.0 a.1 in
      let here : Some x.new ≡ Some r.1 = sym x.new_is ∙ ap g a.2 ∙ r.2 in
      let same : x.new ≡ r.1 = cc in
      let number : x.old.serial ≡ k = sym x.serial ∙ ap (λ y. y.serial) same ∙ r.3 in
      sym (subst (λ n. object_at d n ≡ object_at c n) number (carried_same a.0 x.old a.1 x.old_is)) ∙ e
