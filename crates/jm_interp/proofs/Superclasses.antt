-- The superclasses of a program's classes, by number.
use Rattle.std.proofs.Common.{◌≡◌, ℕ, zero, suc, ◌+◌, ◌<◌, List, [], ◌∷◌, ◌++◌, Option, Some, None, Bool, true, false, length, refl, ap, ◌∙◌, subst}
use Rattle.std.proofs.Common.{arith, length-append}
use Rattle.std.specs.Prelude.{map, slice_get, slice_index_or, is_some, SomeIff, IfSome}
use Rattle.std.proofs.lemmas.List.{length-map}
use Rattle.jm_program.specs.Names.{same_text}
use Rattle.jm_program.specs.declared.class.ClassParts.{ClassParts}
use Rattle.jm_program.proofs.Texts.{text_itself}
use Rattle.jm_builtins.specs.List.{the_builtins}
use Rattle.jm_builtins.specs.Numbers.{built_in_names}
use Rattle.jm_builtins.specs.declared.built_in.BuiltIn.{BuiltIn}
use Rattle.jm_world.specs.Classes.{as_class, built_in_named}
use Rattle.jm_linked.specs.Links.{class_numbered}
use Rattle.jm_linked.specs.Tables.{all_names, IsSuperclass}
use Rattle.jm_state.specs.Parts.{program_class_name, name_in_program}
use Rattle.jm_interp.specs.Initializing.{IsOwnSuperclass}

pub get_past : {A : Type 0} (xs ys : List A) (n k : ℕ) → n ≡ k + length xs → slice_get (xs ++ ys) n ≡ slice_get ys k
get_past [] ys n k e = let same : n ≡ k = omega arith in ap (slice_get ys) same
get_past (x ∷ xs) ys zero k e = absurd (omega arith)
get_past (x ∷ xs) ys (suc n) k e = get_past xs ys n k (omega arith)

index_past : (xs ys : List (List ℕ)) (n k : ℕ) → n ≡ k + length xs → slice_index_or (xs ++ ys) n [] ≡ slice_index_or ys k []
index_past [] ys n k e = let same : n ≡ k = omega arith in ap (λ i. slice_index_or ys i []) same
index_past (x ∷ xs) ys zero k e = absurd (omega arith)
index_past (x ∷ xs) ys (suc n) k e = index_past xs ys n k (omega arith)

-- a class of the program, by its number among all
pub own_numbered : (program : List ClassParts) (n k : ℕ) (c : ClassParts) → n ≡ k + length the_builtins → slice_get program k ≡ Some c
    → class_numbered program n ≡ Some c
own_numbered program n k c e at = get_past (map as_class the_builtins) program n k e ∙ at

pub all_numbered : (program : List ClassParts) (k : ℕ) (o : Option ℕ) (P : Type 0) (n : ℕ) → SomeIff o P n → n ≡ k + length the_builtins
    → IfSome o (λ number. (c : ClassParts) → slice_get program k ≡ Some c → class_numbered program number ≡ Some c)
all_numbered program k o P n found e = by o found
  where
    by : (x : Option ℕ) → SomeIff x P n → IfSome x (λ number. (c : ClassParts) → slice_get program k ≡ Some c → class_numbered program number ≡ Some c)
    by None h = tt
    by (Some number) h = λ c at. own_numbered program number k c (h.1 ∙ e) at

own_name : (program : List ClassParts) (k : ℕ) → slice_index_or (map (λ (c : ClassParts). c.name) program) k [] ≡ name_in_program (slice_get program k)
own_name [] k = refl
own_name (c ∷ cs) zero = refl
own_name (c ∷ cs) (suc k) = own_name cs k

-- the name of a built-in class by its number is known
pub known : (bs : List BuiltIn) (rest : List (List ℕ)) (n : ℕ) → n < length bs
    → is_some (built_in_named bs (slice_index_or (map (λ (b : BuiltIn). b.name) bs ++ rest) n [])) ≡ true
known [] rest n lt = absurd (omega arith)
known (b ∷ bs) rest zero lt =
    ap (λ t. is_some (elim t as (λ _. Option ClassParts) [ true ↦ Some (as_class b) | false ↦ built_in_named bs b.name ])) (text_itself b.name)
known (b ∷ bs) rest (suc n) lt =
    let name = slice_index_or (map (λ (b : BuiltIn). b.name) bs ++ rest) n [] in
    by (same_text b.name name) (known bs rest n (omega arith))
  where
    by : (t : Bool) → is_some (built_in_named bs (slice_index_or (map (λ (b : BuiltIn). b.name) bs ++ rest) n [])) ≡ true → is_some
        (elim t as (λ _. Option ClassParts)
        [ true ↦ Some (as_class b) | false ↦ built_in_named bs (slice_index_or (map (λ (b : BuiltIn). b.name) bs ++ rest) n []) ]) ≡ true
    by true e = refl
    by false e = e

module _ {program : List ClassParts} {superclass : Option (List ℕ)} where
  pub built_in_superclass : {n : ℕ} → IsSuperclass program superclass (Some n) → n < length the_builtins → IsOwnSuperclass program superclass None
  unfolding all_names
  built_in_superclass {n} is few =
      subst (λ s. IsOwnSuperclass program s None) is.named (known the_builtins (map (λ (c : ClassParts). c.name) program) n few)

  pub own_superclass : {n : ℕ} (k : ℕ) → IsSuperclass program superclass (Some n) → n ≡ k + length the_builtins → IsOwnSuperclass program superclass (Some k)
  unfolding all_names program_class_name
  own_superclass {n} k is e =
      let own = map (λ (c : ClassParts). c.name) program in
      let many : length (built_in_names ++ own) ≡ length the_builtins + length program =
      length-append built_in_names own ∙ ap (λ i. length built_in_names + i) (length-map program (λ c. c.name)) in
      let within : n < length (built_in_names ++ own) = is.within in
      subst (λ s. IsOwnSuperclass program s (Some k)) is.named (index_past built_in_names own n k e ∙ own_name program k, omega arith)
