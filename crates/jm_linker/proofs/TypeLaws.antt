-- Types that are one.
use Rattle.std.proofs.Common.{◌≡◌, ◌≢◌, Bool, true, false, ◌&&◌, List, [], ◌∷◌, length, get_or, refl, sym, ◌∙◌, arith, eqb}
use Rattle.std.proofs.lemmas.Bool.Decides.{nat_tests}
use Rattle.jm_program.specs.declared.descriptor.FieldType.{FieldType}
use Rattle.jm_program.proofs.Truths.{and_false}
use Rattle.jm_world.specs.Types.{same_type, same_types}

and_true : (b : Bool) → (b && true) ≡ b
and_true true = refl
and_true false = refl

-- a list of one type, and of none
pub same_types_one : (ts : List FieldType) (t d : FieldType) → same_types ts (t ∷ []) ≡ (eqb (length ts) 1 && same_type (get_or ts 0 d) t)
same_types_one [] t d = refl
same_types_one (a ∷ []) t d = and_true (same_type a t)
same_types_one (a ∷ b ∷ ts) t d =
    let longer : eqb (length (a ∷ b ∷ ts)) 1 ≡ false = grind (arith, nat_tests) in
    and_false (same_type a t) ∙ rw longer refl

pub same_types_none : (ts : List FieldType) → same_types ts [] ≡ eqb (length ts) 0
same_types_none [] = refl
same_types_none (t ∷ ts) =
    let filled : eqb (length (t ∷ ts)) 0 ≡ false = grind (arith, nat_tests) in
    sym filled

pub not_one : (ts : List FieldType) (t : FieldType) → length ts ≢ 1 → eqb (length ts) 1 ≡ same_types ts (t ∷ [])
not_one [] t ne = refl
not_one (a ∷ []) t ne = absurd (ne refl)
not_one (a ∷ b ∷ ts) t ne = sym (and_false (same_type a t) ∙ sym (longer))
  where
    longer : eqb (length (a ∷ b ∷ ts)) 1 ≡ false
    longer = grind (arith, nat_tests)
