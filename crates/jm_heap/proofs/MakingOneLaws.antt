-- Making a list of one object is making that object.
use Rattle.std.proofs.Common.{◌≡◌, ◌≢◌, ◌⊎◌, ℕ, zero, suc, ◌+◌, ◌<◌, List, [], ◌∷◌, Option, Some, true, false, refl, sym, subst, inl, inr, arith}
use Rattle.std.specs.Prelude.{nat_eq, slice_get, sum_by}
use Rattle.std.proofs.lemmas.Bool.Decides.{eqb_tells}
use Rattle.std.proofs.lemmas.List.Sums.{sum_by-cons}
use Rattle.jm_values.specs.Objects.{ObjectOf, size_by}
use Rattle.jm_values.specs.Content.{Content, Resident, IsSound, Made, MadeAll, object_in, object_at, serial_at, serials_of}
use Rattle.jm_values.specs.Shape.{Among}
use Rattle.jm_heap.specs.Cells.{class_size}
use Rattle.jm_heap.specs.MakingOne.{OneIsMade, OneIsRefused, OneIsAsBefore}
use Rattle.jm_heap.specs.declared.class_id.ClassId.{ClassId}
use Rattle.jm_heap.specs.declared.fault.HeapFault.TheVariants.{OutOfMemory, HeapFull, SerialsEnd}

cells_of_one : (o : ObjectOf ClassId) → sum_by (size_by class_size) (o ∷ []) ≡ size_by class_size o
cells_of_one o = let sum = sum_by-cons (size_by class_size) o [] in omega (arith, sum)

module _ (old new : Content ClassId) (roots moved : List ℕ) (place : ℕ) (o : ObjectOf ClassId) where
  zeroth : old.next + 0 ≡ old.next
  zeroth = omega arith

  as_one : MadeAll class_size old roots new moved (place ∷ []) (o ∷ []) → Made class_size old roots new moved place o
  as_one m = record {
    kept = m.kept;
    next = m.next;
    placed = subst (λ n. serial_at new place ≡ Some n) zeroth (m.placed zero place refl);
    filled = subst (λ n. object_at new n ≡ Some o) zeroth (m.filled zero o refl);
    fits = let fits = m.fits in let cells = cells_of_one o in omega (arith, fits, cells);
    lasts = let lasts = m.lasts in omega (arith, lasts);
  }

  as_list : Made class_size old roots new moved place o → MadeAll class_size old roots new moved (place ∷ []) (o ∷ [])
  as_list m = record {
    kept = m.kept;
    next = m.next;
    many = refl;
    placed = placed;
    filled = filled;
    fits = let fits = m.fits in let cells = cells_of_one o in omega (arith, fits, cells);
    lasts = let lasts = m.lasts in omega (arith, lasts);
  }
    where
      placed : (i p : ℕ) → slice_get (place ∷ []) i ≡ Some p → serial_at new p ≡ Some (old.next + i)
      placed zero p e = let same : place ≡ p = cc in subst (λ n. serial_at new p ≡ Some n) (sym zeroth) (subst (λ q. serial_at new q ≡ Some old.next) same m.placed)
      placed (suc i) p e = absurd (cc)

      filled : (i : ℕ) (x : ObjectOf ClassId) → slice_get (o ∷ []) i ≡ Some x → object_at new (old.next + i) ≡ Some x
      filled zero x e = let same : o ≡ x = cc in subst (λ n. object_at new n ≡ Some x) (sym zeroth) (subst (λ y. object_at new old.next ≡ Some y) same m.filled)
      filled (suc i) x e = absurd (cc)

pub one_is_made : OneIsMade
one_is_made old new roots moved place o = (as_one old new roots moved place o, as_list old new roots moved place o)

pub one_is_refused : OneIsRefused
one_is_refused c roots o OutOfMemory = (λ h. tt, λ h. tt)
one_is_refused c roots o HeapFull = let cells = cells_of_one o in (λ h. omega (arith, h, cells), λ h. omega (arith, h, cells))
one_is_refused c roots o SerialsEnd =
    let cells = cells_of_one o in
    (λ h. (let room = h.0 in omega (arith, room, cells), let last = h.1 in omega (arith, last)), λ h. (let room = h.0 in omega (arith, room, cells), let last = h.1 in omega (arith, last)))

-- the serial of an object is among those of the residents
among_serials : (rs : List (Resident ClassId)) (k : ℕ) (o : ObjectOf ClassId) → object_in rs k ≡ Some o → Among k (serials_of rs)
among_serials [] k o e = absurd (cc)
among_serials (r ∷ rs) k o e = by (among_serials rs k o) (eqb_tells k r.serial)
  where
    by : (object_in rs k ≡ Some o → Among k (serials_of rs)) → ((nat_eq k r.serial ≡ true) × (k ≡ r.serial)) ⊎ ((nat_eq k r.serial ≡ false) × (k ≢ r.serial)) → Among k (serials_of (r ∷ rs))
    by later (inl t) = inl t.1
    by later (inr t) = inr (later (subst (λ b. elim b as (λ _. Option (ObjectOf ClassId)) [ true ↦ Some r.object | false ↦ object_in rs k ] ≡ Some o) t.0 e))

object_below : (c : Content ClassId) → IsSound c → (k : ℕ) (o : ObjectOf ClassId) → object_at c k ≡ Some o → k < c.next
unfolding object_at
object_below c s k o e = s.below k (among_serials c.residents k o e)

pub one_is_as_before : OneIsAsBefore
one_is_as_before old new s next = (
  λ h k o n e. h k o (let low = object_below new s k o e in omega (arith, low, next, n)) e,
  λ h k o l e. h k o (λ same. let is : k ≡ old.next = same in omega (arith, l, is)) e,
)
