-- The constants with which static fields begin.
use Rattle.std.proofs.Common.{◌≡◌, ℕ, ◌+◌, ◌<◌, zero, suc, List, [], ◌∷◌, ◌++◌, Option, Some, length, get_or, take, refl, sym, subst}
use Rattle.std.specs.Prelude.{slice_get}
use Rattle.std.proofs.lemmas.List.{take_more}
use Rattle.jm_program.specs.declared.class.ClassParts.{ClassParts}
use Rattle.jm_program.specs.declared.class.Field.{Field}
use Rattle.jm_linked.specs.Tables.{AreConstants, HaveConstants, IsConstantOf, static_constant}
use Rattle.jm_linked.specs.declared.method.LinkedConstant.{LinkedConstant}

-- one more field
are_more : (program : List ClassParts) (xs : List (Option LinkedConstant)) (fs : List Field) (x : Option LinkedConstant) (f : Field) → AreConstants program xs fs
    → IsConstantOf program x (static_constant f) → AreConstants program (xs ++ x ∷ []) (fs ++ f ∷ [])
are_more program [] [] x f a h = (h, tt)
are_more program [] (g ∷ gs) x f a h = absurd a
are_more program (y ∷ ys) [] x f a h = absurd a
are_more program (y ∷ ys) (g ∷ gs) x f a h = (a.0, are_more program ys gs x f a.1 h)

pub constants_more : (program : List ClassParts) (xs ys : List (Option LinkedConstant)) (fields : List Field) (n : ℕ) (x : Option LinkedConstant) (f : Field)
    → n < length fields → f ≡ get_or fields n f → ys ≡ xs ++ x ∷ [] → AreConstants program xs (take n fields) → IsConstantOf program x (static_constant f)
    → AreConstants program ys (take (n + 1) fields)
constants_more program xs ys fields n x f within at e a h =
    let more : take (n + 1) fields ≡ take n fields ++ f ∷ [] = rw (take_more fields n f within, ← at) refl in
    subst (λ zs. AreConstants program zs (take (n + 1) fields)) (sym e)
    (subst (λ gs. AreConstants program (xs ++ x ∷ []) gs) (sym more) (are_more program xs (take n fields) x f a h))

-- those of classes, one after the other
abbrev pub AreOfClasses : List ClassParts → List (List (Option LinkedConstant)) → List ClassParts → Type 0
AreOfClasses program [] [] = Unit {0}
AreOfClasses program (x ∷ xs) (c ∷ cs) = AreConstants program x c.fields × AreOfClasses program xs cs
AreOfClasses program [] (c ∷ cs) = ⊥
AreOfClasses program (x ∷ xs) [] = ⊥

of_classes_more : (program : List ClassParts) (xs : List (List (Option LinkedConstant))) (cs : List ClassParts) (x : List (Option LinkedConstant)) (c : ClassParts)
    → AreOfClasses program xs cs → AreConstants program x c.fields → AreOfClasses program (xs ++ x ∷ []) (cs ++ c ∷ [])
of_classes_more program [] [] x c a h = (h, tt)
of_classes_more program [] (d ∷ ds) x c a h = absurd a
of_classes_more program (y ∷ ys) [] x c a h = absurd a
of_classes_more program (y ∷ ys) (d ∷ ds) x c a h = (a.0, of_classes_more program ys ds x c a.1 h)

pub classes_more : (program : List ClassParts) (xs ys : List (List (Option LinkedConstant))) (cs : List ClassParts) (n : ℕ) (x : List (Option LinkedConstant))
    (c : ClassParts)
    → n < length cs → c ≡ get_or cs n c → ys ≡ xs ++ x ∷ [] → AreOfClasses program xs (take n cs) → AreConstants program x c.fields
    → AreOfClasses program ys (take (n + 1) cs)
classes_more program xs ys cs n x c within at e a h =
    let more : take (n + 1) cs ≡ take n cs ++ c ∷ [] = rw (take_more cs n c within, ← at) refl in
    subst (λ zs. AreOfClasses program zs (take (n + 1) cs)) (sym e)
    (subst (λ ds. AreOfClasses program (xs ++ x ∷ []) ds) (sym more) (of_classes_more program xs (take n cs) x c a h))

-- each class has its own at its number
of_class_at : (program : List ClassParts) (table : List (List (Option LinkedConstant))) (cs : List ClassParts) → AreOfClasses program table cs → (n : ℕ)
    (c : ClassParts)
    → slice_get cs n ≡ Some c → (constants : List (Option LinkedConstant)) × (slice_get table n ≡ Some constants) × AreConstants program constants c.fields
of_class_at program [] [] a n c at = cc
of_class_at program [] (d ∷ ds) a n c at = absurd a
of_class_at program (x ∷ xs) [] a n c at = absurd a
of_class_at program (x ∷ xs) (d ∷ ds) a zero c at =
    let same : d ≡ c = cc in (x, refl, subst (λ (e : ClassParts). AreConstants program x e.fields) same a.0)
of_class_at program (x ∷ xs) (d ∷ ds) a (suc n) c at = of_class_at program xs ds a.1 n c at

pub have_constants : (program : List ClassParts) (table : List (List (Option LinkedConstant))) → AreOfClasses program table program → HaveConstants program table
have_constants program table a = of_class_at program table program a
