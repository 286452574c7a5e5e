-- Which types can be held by a variable of another, by numbers.
use Rattle.std.proofs.Common.{◌≡◌, ℕ, zero, suc, ◌<◌, List, [], ◌∷◌, Some, false, refl, sym, ap, ◌∙◌, length, arith}
use Rattle.std.specs.Prelude.{nat_eq, slice_get, slice_index_or, ◌||◌}
use Rattle.jm_program.specs.Names.{same_text}
use Rattle.jm_program.specs.declared.class.ClassParts.{ClassParts}
use Rattle.jm_program.specs.declared.descriptor.ElementType.{ElementType}
use Rattle.jm_program.specs.declared.descriptor.ElementType.TheVariants.{Class}
use Rattle.jm_builtins.specs.Numbers.{number_of}
use Rattle.jm_builtins.specs.Numbers as built_in
use Rattle.jm_builtins.specs.declared.built_in_class.BuiltInClass.TheVariants.{Object, Cloneable, Serializable}
use Rattle.jm_world.specs.Hierarchy.{dimensions_assignable, element_assignable, is_above_arrays, is_subclass}
use Rattle.jm_world.specs.Loads.{Loads}
use Rattle.jm_tables.specs.Hierarchies.{is_above}
use Rattle.jm_tables.specs.Numbering.{name_of}
use Rattle.jm_linked.specs.Links.{LinkedView, IsLinked, NamesClass, class_names}
use Rattle.jm_linked.specs.Tables.{all_names}
use Rattle.jm_linked.proofs.Names.{are_names}

pub at_is : (xs : List (List ℕ)) (n : ℕ) (x : List ℕ) → slice_get xs n ≡ Some x → (slice_index_or xs n [] ≡ x) × (n < length xs)
at_is [] n x e = cc
at_is (y ∷ ys) zero x e = let same : y ≡ x = cc in (same, omega arith)
at_is (y ∷ ys) (suc n) x e = let rest = at_is ys n x e in let within = rest.1 in (rest.0, omega (arith, within))

-- a number that names a class is one of all classes, and the class has the name
pub named_at : (program : List ClassParts) (n : ℕ) (name : List ℕ) → NamesClass program n name
    → (name_of (all_names program) n ≡ name) × (n < length (all_names program))
unfolding all_names
named_at program n name e = at_is (class_names program) n name e

-- what the hierarchy says of two classes
pub subclass_is : (l : LinkedView) (is : IsLinked l) (n above : ℕ) (name other : List ℕ) → NamesClass l.program n name → NamesClass l.program above other
    → is_above l.tables.hierarchy n above ≡ is_subclass l.program name other
subclass_is l is n above name other a b =
    let own = named_at l.program n name a in
    let upper = named_at l.program above other b in
    is.tables.hierarchy n above own.1 upper.1
    ∙ ap (λ x. is_subclass l.program x (name_of (all_names l.program) above)) own.0
    ∙ ap (is_subclass l.program name) upper.0

-- a class has a built-in one's name just where it has its number
pub same_as : (program : List ClassParts) → Loads program → (n k : ℕ) (name other : List ℕ) → NamesClass program n name → NamesClass program k other
    → same_text name other ≡ nat_eq n k
same_as program loads n k name other a b =
    let own = named_at program n name a in
    let upper = named_at program k other b in
    ap (λ x. same_text x other) (sym own.0)
    ∙ ap (same_text (name_of (all_names program) n)) (sym upper.0)
    ∙ (are_names program loads).apart n k own.1 upper.1

pub above_arrays : (program : List ClassParts) → Loads program → (n : ℕ) (name : List ℕ) → NamesClass program n name
    → (nat_eq n (number_of Object) || nat_eq n (number_of Cloneable) || nat_eq n (number_of Serializable)) ≡ is_above_arrays (Class name)
above_arrays program loads n name named =
    let object = same_as program loads n (number_of Object) name (built_in.name_of Object) named refl in
    let cloneable = same_as program loads n (number_of Cloneable) name (built_in.name_of Cloneable) named refl in
    let serializable = same_as program loads n (number_of Serializable) name (built_in.name_of Serializable) named refl in
    ap (λ b. b || nat_eq n (number_of Cloneable) || nat_eq n (number_of Serializable)) (sym object)
    ∙ ap (λ b. same_text name (built_in.name_of Object) || b || nat_eq n (number_of Serializable)) (sym cloneable)
    ∙ ap (λ b. same_text name (built_in.name_of Object) || same_text name (built_in.name_of Cloneable) || b) (sym serializable)

-- as many dimensions, more, and fewer
pub same_dimensions : (program : List ClassParts) (a b : ElementType) (m n : ℕ) → m ≡ n → dimensions_assignable program a b m n ≡ element_assignable program a b
same_dimensions program a b zero zero e = refl
same_dimensions program a b zero (suc n) e = cc
same_dimensions program a b (suc m) zero e = cc
same_dimensions program a b (suc m) (suc n) e = same_dimensions program a b m n (omega arith)

pub more_dimensions : (program : List ClassParts) (a b : ElementType) (m n : ℕ) → n < m → dimensions_assignable program a b m n ≡ is_above_arrays b
more_dimensions program a b zero n e = absurd (omega arith)
more_dimensions program a b (suc m) zero e = refl
more_dimensions program a b (suc m) (suc n) e = more_dimensions program a b m n (omega arith)

pub fewer_dimensions : (program : List ClassParts) (a b : ElementType) (m n : ℕ) → m < n → dimensions_assignable program a b m n ≡ false
fewer_dimensions program a b m zero e = absurd (omega arith)
fewer_dimensions program a b zero (suc n) e = refl
fewer_dimensions program a b (suc m) (suc n) e = fewer_dimensions program a b m n (omega arith)
