-- What a sound content has at each place.
use Rattle.std.proofs.Common.{◌≡◌, ◌≢◌, ◌⊎◌, ℕ, ◌<◌, List, [], ◌∷◌, Option, Some, Bool, true, false, refl, sym, ap, ◌∙◌, subst, inl, inr}
use Rattle.std.specs.Prelude.{nat_eq, unwrap_or}
use Rattle.jm_program.proofs.Numbers.{equal, found_equal}
use Rattle.jm_values.specs.Shape.{Among, IsOneToOne}
use Rattle.jm_values.specs.Reach.{AllDistinct}
use Rattle.jm_values.specs.Objects.{ObjectOf}
use Rattle.jm_values.specs.Content.{Content, Resident, IsSound, AllResident, serials_of, serial_in, object_in, serial_at, object_at, name_of}

serial_listed : {T : Type 0} (rs : List (Resident T)) (p k : ℕ) → serial_in rs p ≡ Some k → Among k (serials_of rs)
serial_listed [] p k e = cc
serial_listed (r ∷ rs) p k e = by (nat_eq p r.place) (serial_listed rs p k) e
  where
    by : (b : Bool) → (serial_in rs p ≡ Some k → Among k (serials_of rs)) → (elim b as (λ _. Option ℕ) [ true ↦ Some r.serial | false ↦ serial_in rs p ]) ≡ Some k → (k ≡ r.serial) ⊎ Among k (serials_of rs)
    by true later h = inl cc
    by false later h = inr (later h)

one_place : {T : Type 0} (rs : List (Resident T)) (p q k : ℕ) → AllDistinct (serials_of rs) → serial_in rs p ≡ Some k → serial_in rs q ≡ Some k → p ≡ q
one_place [] p q k d e f = cc
one_place (r ∷ rs) p q k d e f = by (one_place rs p q k d.1) (nat_eq p r.place) refl (nat_eq q r.place) refl e f
  where
    twice : (n : ℕ) → Some r.serial ≡ Some k → serial_in rs n ≡ Some k → ⊥
    twice n g h = let same : k ≡ r.serial = cc in d.0 (subst (λ j. Among j (serials_of rs)) same (serial_listed rs n k h))

    by : (serial_in rs p ≡ Some k → serial_in rs q ≡ Some k → p ≡ q) → (a : Bool) → nat_eq p r.place ≡ a → (b : Bool) → nat_eq q r.place ≡ b → (elim a as (λ _. Option ℕ) [ true ↦ Some r.serial | false ↦ serial_in rs p ]) ≡ Some k → (elim b as (λ _. Option ℕ) [ true ↦ Some r.serial | false ↦ serial_in rs q ]) ≡ Some k → p ≡ q
    by later true at_p true at_q g h = equal p r.place at_p ∙ sym (equal q r.place at_q)
    by later true at_p false at_q g h = absurd (twice q g h)
    by later false at_p true at_q g h = absurd (twice p h g)
    by later false at_p false at_q g h = later g h

some_object : {T : Type 0} (rs : List (Resident T)) (p k : ℕ) → serial_in rs p ≡ Some k → (o : ObjectOf T) × (object_in rs k ≡ Some o)
some_object [] p k e = cc
some_object {T = T} (r ∷ rs) p k e = by (some_object rs p k) (nat_eq p r.place) e (nat_eq k r.serial) refl
  where
    by : (serial_in rs p ≡ Some k → (o : ObjectOf T) × (object_in rs k ≡ Some o)) → (a : Bool) → (elim a as (λ _. Option ℕ) [ true ↦ Some r.serial | false ↦ serial_in rs p ]) ≡ Some k → (b : Bool) → nat_eq k r.serial ≡ b → (o : ObjectOf T) × ((elim b as (λ _. Option (ObjectOf T)) [ true ↦ Some r.object | false ↦ object_in rs k ]) ≡ Some o)
    by later a h true n = (r.object, refl)
    by later true h false n = let same : k ≡ r.serial = cc in let is = found_equal k r.serial same in cc
    by later false h false n = later h

-- no two places have one serial
pub place_of_serial : {T : Type 0} (c : Content T) → IsSound c → (p q k : ℕ) → serial_at c p ≡ Some k → serial_at c q ≡ Some k → p ≡ q
unfolding serial_at
place_of_serial c s p q k e f = one_place c.residents p q k s.serials e f

-- the serial of a place is below the next one
pub serial_below : {T : Type 0} (c : Content T) → IsSound c → (p k : ℕ) → serial_at c p ≡ Some k → k < c.next
unfolding serial_at
serial_below c s p k e = s.below k (serial_listed c.residents p k e)

pub object_listed : {T : Type 0} (rs : List (Resident T)) (k : ℕ) (o : ObjectOf T) → object_in rs k ≡ Some o → Among k (serials_of rs)
object_listed [] k o e = cc
object_listed {T = T} (r ∷ rs) k o e = by (nat_eq k r.serial) refl (object_listed rs k o) e
  where
    by : (b : Bool) → nat_eq k r.serial ≡ b → (object_in rs k ≡ Some o → Among k (serials_of rs))
        → (elim b as (λ _. Option (ObjectOf T)) [ true ↦ Some r.object | false ↦ object_in rs k ]) ≡ Some o → (k ≡ r.serial) ⊎ Among k (serials_of rs)
    by true same later h = inl (equal k r.serial same)
    by false same later h = inr (later h)

-- the serial of an object is below the next one
pub object_below : {T : Type 0} (c : Content T) → IsSound c → (k : ℕ) (o : ObjectOf T) → object_at c k ≡ Some o → k < c.next
unfolding object_at
object_below c s k o e = s.below k (object_listed c.residents k o e)

-- each place with a serial has an object
pub object_of_place : {T : Type 0} (c : Content T) (p k : ℕ) → serial_at c p ≡ Some k → (o : ObjectOf T) × (object_at c k ≡ Some o)
unfolding serial_at object_at
object_of_place c p k e = some_object c.residents p k e

-- what its serial is names it
pub name_is : {T : Type 0} (c : Content T) (p k : ℕ) → serial_at c p ≡ Some k → name_of c p ≡ k
unfolding name_of
name_is c p k e = ap (λ o. unwrap_or o 0) e

-- places of objects have names of their own
pub resident_one_to_one : {T : Type 0} (c : Content T) (ns : List ℕ) → IsSound c → AllResident c ns → IsOneToOne (name_of c) ns
resident_one_to_one c ns s r p q a b e =
    let i = r p a in
    let j = r q b in
    let same : i.0 ≡ j.0 = sym (name_is c p i.0 i.1) ∙ e ∙ name_is c q j.0 j.1 in
    place_of_serial c s p q i.0 i.1 (subst (λ k. serial_at c q ≡ Some k) (sym same) j.1)
