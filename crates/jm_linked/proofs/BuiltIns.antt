-- No class of a program that loads has the name of a built-in one.
use Rattle.std.proofs.Common.{◌≡◌, ℕ, List, [], ◌∷◌, Option, Some, None, Bool, true, false, refl, sym, ap, ◌∙◌}
use Rattle.std.specs.Prelude.{◌||◌, is_some}
use Rattle.std.specs.List.{AllByRecursion}
use Rattle.std.specs.Cmp.Lexicographic as texts
use Rattle.jm_program.specs.Names.{same_text}
use Rattle.jm_program.specs.declared.class.ClassParts.{ClassParts}
use Rattle.jm_builtins.specs.List.{the_builtins}
use Rattle.jm_world.specs.Classes.{built_in_named, class_among, class_named}
use Rattle.jm_world.specs.Loads.{Loads, refusal, duplicates}
use Rattle.jm_world.proofs.Refusing.{not_refused, first_none, second_none}
use Rattle.jm_world.proofs.FoundAgain.{not_built_in}

no_built_ins : (seen cs : List ClassParts) → duplicates seen cs ≡ None → AllByRecursion (λ c. is_some (built_in_named the_builtins c.name) ≡ false) cs
no_built_ins seen [] e = tt
no_built_ins seen (c ∷ cs) e = (not_built_in seen c.name (not_refused _ _ (first_none _ _ e)), no_built_ins (c ∷ seen) cs (second_none _ _ e))

-- no class of the program has the name
abbrev pub AreOthers : List ℕ → List ClassParts → Type 0
AreOthers text = AllByRecursion (λ c. same_text c.name text ≡ false)

others_from : (text : List ℕ) → is_some (built_in_named the_builtins text) ≡ true → (cs : List ClassParts) → AllByRecursion
    (λ c. is_some (built_in_named the_builtins c.name) ≡ false) cs → AreOthers text cs
others_from text e [] h = tt
others_from text e (c ∷ cs) h = (by (same_text c.name text) refl, others_from text e cs h.1)
  where
    by : (b : Bool) → same_text c.name text ≡ b → same_text c.name text ≡ false
    by false t = t
    by true t =
        let is : c.name ≡ text = texts.same_text c.name text (sym t) in
        let bad : false ≡ true = sym h.0 ∙ ap (λ n. is_some (built_in_named the_builtins n)) is ∙ e in
        cc

pub others : (program : List ClassParts) → Loads program → (text : List ℕ) → is_some (built_in_named the_builtins text) ≡ true → AreOthers text program
unfolding refusal
others program loads text e = others_from text e program (no_built_ins [] program (first_none _ _ loads))

-- a built-in class is found under its name
pub found_built_in : (cs : List ClassParts) (text : List ℕ) → AreOthers text cs → class_among cs text ≡ built_in_named the_builtins text
found_built_in [] text h = refl
found_built_in (c ∷ cs) text h = ap (λ b. elim b as (λ _. Option ClassParts) [ true ↦ Some c | false ↦ class_among cs text ]) h.0 ∙ found_built_in cs text h.1

pub built_in_class : (program : List ClassParts) → Loads program → (text : List ℕ) → is_some (built_in_named the_builtins text) ≡ true → class_named program
    text ≡ built_in_named the_builtins text
unfolding class_named
built_in_class program loads text e = found_built_in program text (others program loads text e)
