-- Whether there is a class of a name.
use Rattle.std.proofs.Common.{◌≡◌, ℕ, List, [], ◌∷◌, Bool, true, false, ◌||◌, Option, Some, refl, ap, ◌∙◌}
use Rattle.std.specs.Prelude.{is_some}
use Rattle.std.specs.List.{list_any}
use Rattle.jm_program.specs.Names.{same_text}
use Rattle.jm_program.specs.declared.class.ClassParts.{ClassParts}
use Rattle.jm_builtins.specs.List.{the_builtins}
use Rattle.jm_builtins.specs.declared.built_in.BuiltIn.{BuiltIn}
use Rattle.jm_world.specs.Classes.{as_class, class_named, class_among, built_in_named}

found_or : (is : Bool) (c : ClassParts) (o : Option ClassParts) → is_some (elim is as (λ _. Option ClassParts) [ true ↦ Some c | false ↦ o ]) ≡ (is || is_some o)
found_or true c o = refl
found_or false c o = refl

or_assoc : (a b c : Bool) → (a || (b || c)) ≡ ((a || b) || c)
or_assoc true b c = refl
or_assoc false b c = refl

built_ins : (bs : List BuiltIn) (name : List ℕ) → is_some (built_in_named bs name) ≡ list_any (λ (x : BuiltIn). same_text x.name name) bs
built_ins [] name = refl
built_ins (b ∷ bs) name = found_or (same_text b.name name) (as_class b) (built_in_named bs name) ∙ ap (λ t. same_text b.name name || t) (built_ins bs name)

abbrev of_program : List ClassParts → List ℕ → Bool
of_program program name = list_any (λ (c : ClassParts). same_text c.name name) program

abbrev built_in : List ℕ → Bool
built_in name = list_any (λ (b : BuiltIn). same_text b.name name) the_builtins

among : (cs : List ClassParts) (name : List ℕ) → is_some (class_among cs name) ≡ (of_program cs name || built_in name)
among [] name = built_ins the_builtins name
among (c ∷ cs) name =
    found_or (same_text c.name name) c (class_among cs name)
    ∙ ap (λ t. same_text c.name name || t) (among cs name)
    ∙ or_assoc (same_text c.name name) (of_program cs name) (built_in name)

-- one of the program, or a built-in one
pub is_class_named : (program : List ClassParts) (name : List ℕ) → is_some (class_named program name)
    ≡ (list_any (λ (c : ClassParts). same_text c.name name) program || list_any (λ (b : BuiltIn). same_text b.name name) the_builtins)
unfolding class_named
is_class_named program name = among program name
