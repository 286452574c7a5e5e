-- What is reached by serial lies at places, and what is reached by place is reached by serial.
use Rattle.std.proofs.Common.{◌≡◌, ℕ, List, Option, Some, None, refl, sym, ap, ◌∙◌, subst}
use Rattle.std.specs.Prelude.{map, unwrap_or}
use Rattle.jm_values.specs.Shape.{Among}
use Rattle.jm_values.specs.Rename.{rename, stack_shape}
use Rattle.jm_values.specs.Objects.{refs_of}
use Rattle.jm_values.specs.Reach.{Reach, root, field}
use Rattle.jm_values.specs.Content.{Content, AllResident, Reached, serial_at, object_at, name_of}
use Rattle.jm_values.proofs.Among.{among_map, among_mapped}
use Rattle.jm_values.proofs.Reaching.{reach_within}
use Rattle.jm_heap.specs.declared.class_id.ClassId.{ClassId}
use Rattle.jm_heap.proofs.SoundLemmas.{refs_renamed}
use Rattle.jm_blocks.specs.Objects.{Object}
use Rattle.jm_copy.specs.Image.{bare_at}
use Rattle.jm_gen_heap.specs.Residents.{serial_of}
use Rattle.jm_gen_heap.proofs.Showing.{Shows}

-- the object of a serial
pub behind : (o : Option Object) (k : ℕ) → serial_of o ≡ Some k → (a : Object) × (o ≡ Some a) × (a.serial ≡ k)
behind None k e = cc
behind (Some a) k e = (a, refl, cc)

-- an object lies at a place
abbrev pub LiesAt : (ℕ → Option Object) → ℕ → Type 0
LiesAt f p = (a : Object) × (f p ≡ Some a)

-- each reference is the place of an object
abbrev pub IsClosed : (ℕ → Option Object) → Type 0
IsClosed f = (p q : ℕ) (a : Object) → f p ≡ Some a → Among q (stack_shape.refs a.values) → LiesAt f q

-- what lies at places, and the content that shows it
module _ {f : ℕ → Option Object} {c : Content ClassId} (s : Shows f c) where
  pub at_place : (p k : ℕ) → serial_at c p ≡ Some k → (a : Object) × (f p ≡ Some a) × (a.serial ≡ k)
  at_place p k e = behind (f p) k (sym (s.serials p) ∙ e)

  pub serial_is : (p : ℕ) (a : Object) → f p ≡ Some a → serial_at c p ≡ Some a.serial
  serial_is p a e = s.serials p ∙ ap serial_of e

  pub name_is : (p : ℕ) (a : Object) → f p ≡ Some a → name_of c p ≡ a.serial
  unfolding name_of
  name_is p a e = ap (λ o. unwrap_or o 0) (serial_is p a e)

  pub resident_lies : (ps : List ℕ) → AllResident c ps → (p : ℕ) → Among p ps → LiesAt f p
  resident_lies ps r p a = let t = r p a in let x = at_place p t.0 t.1 in (x.0, x.1)

  pub lying_resident : (ps : List ℕ) → ((p : ℕ) → Among p ps → LiesAt f p) → AllResident c ps
  lying_resident ps h p a = let x = h p a in (x.0.serial, serial_is p x.0 x.1)

  -- the references of a resident are the serials of those of the object that lies
  pub named_refs : (p k : ℕ) (a : Object) → f p ≡ Some a → Among k (refs_of (object_at c a.serial)) → (q : ℕ) × Among q (stack_shape.refs a.values) × (k ≡ name_of c q)
  named_refs p k a e m =
      let here : Among k (stack_shape.refs (map (rename (name_of c)) a.values)) = subst (λ o. Among k (refs_of o)) (s.objects p a e) m in
      among_mapped (name_of c) k (stack_shape.refs a.values) (subst (λ l. Among k l) (refs_renamed (name_of c) a.values) here)

  pub refs_named : (p q : ℕ) (a : Object) → f p ≡ Some a → Among q (stack_shape.refs a.values) → Among (name_of c q) (refs_of (object_at c a.serial))
  refs_named p q a e m =
      subst (λ o. Among (name_of c q) (refs_of o)) (sym (s.objects p a e)) (subst (λ l. Among (name_of c q) l) (sym (refs_renamed (name_of c) a.values)) (among_map (name_of c) q (stack_shape.refs a.values) m))

  -- an object of this serial lies at a place that has a property
  pub record LiesWith (S : ℕ → Type 0) (k : ℕ) : Type 0 where
    pub place : ℕ
    pub has : S place
    pub object : Object
    pub lies : f place ≡ Some object
    pub serial : object.serial ≡ k

  -- what holds of the roots and goes over references holds of the place of what is reached
  pub reached_lies : (S : ℕ → Type 0) (roots : List ℕ) → ((p : ℕ) → Among p roots → S p) → ((p q : ℕ) (a : Object) → S p → f p ≡ Some a → Among q (stack_shape.refs a.values) → S q) → ((p : ℕ) → S p → LiesAt f p) → (k : ℕ) → Reached c roots k → LiesWith S k
  reached_lies S roots at_roots over lies = reach_within (LiesWith S) first next
    where
      here : (p k : ℕ) → S p → k ≡ name_of c p → LiesWith S k
      here p k h e = let x = lies p h in record { place = p; has = h; object = x.0; lies = x.1; serial = sym (e ∙ name_is p x.0 x.1) }

      first : (k : ℕ) → Among k (map (name_of c) roots) → LiesWith S k
      first k m = let t = among_mapped (name_of c) k roots m in here t.0 k (at_roots t.0 t.1) t.2

      next : (j k : ℕ) → LiesWith S j → Among k (refs_of (object_at c j)) → LiesWith S k
      next j k x m =
          let t = named_refs x.place k x.object x.lies (subst (λ n. Among k (refs_of (object_at c n))) (sym x.serial) m) in
          here t.0 k (over x.place t.0 x.object x.has x.lies t.1) t.2

  -- a place with an object, whose serial is reached
  abbrev NamedAt : List ℕ → ℕ → Type 0
  NamedAt roots p = LiesAt f p × Reached c roots (name_of c p)

  pub reached_name : (roots : List ℕ) → IsClosed f → ((p : ℕ) → Among p roots → LiesAt f p) → (p : ℕ) → Reach (bare_at f) roots p → Reached c roots (name_of c p)
  reached_name roots closed at_roots p h = (reach_within (NamedAt roots) first next p h).1
    where
      first : (q : ℕ) → Among q roots → NamedAt roots q
      first q a = (at_roots q a, root (name_of c q) (among_map (name_of c) q roots a))

      next : (j k : ℕ) → NamedAt roots j → Among k (refs_of (bare_at f j)) → NamedAt roots k
      next j k x m =
          let o = x.0.0 in
          let refs : Among k (stack_shape.refs o.values) = subst (λ y. Among k (refs_of (bare_at (λ n. y) j))) x.0.1 m in
          let number : o.serial ≡ name_of c j = sym (name_is j o x.0.1) in (
            closed j k o x.0.1 refs,
            field (name_of c j) (name_of c k) x.1 (subst (λ n. Among (name_of c k) (refs_of (object_at c n))) number (refs_named j k o x.0.1 refs)),
          )
