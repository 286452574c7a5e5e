-- A search before its first step, and behind one.
use Rattle.std.proofs.Common.{◌≡◌, ℕ, ◌+◌, ◌<◌, List, [], ◌∷◌, ◌++◌, length, take, Option, Some, None, refl, sym, ap, ap₂, subst, ◌∙◌, append-nil}
use Rattle.std.specs.Prelude.{option_map, IsSome}
use Rattle.std.specs.List.{flat_map}
use Rattle.std.proofs.lemmas.List.Concat.{flat_map-append}
use Rattle.jm_program.specs.declared.class.ClassParts.{ClassParts}
use Rattle.jm_class_path.specs.Search.{Leads, Search, Step, begun, built_in_names, looked_for, names_of, next_name, with_names}
use Rattle.jm_class_path.specs.Uses.{Name, uses}
use Rattle.jm_class_path.proofs.Known.{AreKnown, at_first, front_at_first, front_stays, front_with_next, next_within, with_more, with_next}

-- what one class more uses
uses_of_more : (classes : List ClassParts) (class : ClassParts) → flat_map uses (classes ++ class ∷ []) ≡ flat_map uses classes ++ uses class
uses_of_more classes class = flat_map-append uses classes (class ∷ []) ∙ ap (λ more. flat_map uses classes ++ more) (append-nil (uses class))

-- before the first step
pub begins : (classes given again : List ClassParts) → given ≡ classes → again ≡ classes → (names all : List Name) (known : ℕ)
    → names ≡ with_names [] (built_in_names ++ names_of given) → known ≡ length names → all ≡ with_names names (flat_map uses again)
    → (record { classes = classes; known = take known all } ≡ begun classes) × AreKnown all known (flat_map uses classes)
begins classes given again first second names all known named count used =
    let all_is : all ≡ with_names names (flat_map uses classes) = used ∙ ap (λ (cs : List ClassParts). with_names names (flat_map uses cs)) second in
    let front : take known all ≡ with_names [] (built_in_names ++ names_of classes) =
    ap₂ (λ (n : ℕ) (list : List Name). take n list) count all_is
    ∙ front_at_first names (flat_map uses classes)
    ∙ named ∙ ap (λ (cs : List ClassParts). with_names [] (built_in_names ++ names_of cs)) first in (
      ap (λ (known_names : List Name). record { classes = classes; known = known_names }) front,
      subst (λ (n : ℕ). AreKnown all n (flat_map uses classes)) (sym count)
          (subst (λ (list : List Name). AreKnown list (length names) (flat_map uses classes)) (sym all_is) (at_first names (flat_map uses classes))),
    )

there_is : (o : Option Name) → IsSome o → (name : Name) × (o ≡ Some name)
there_is None none = cc
there_is (Some name) some = (name, refl)

module _ (names : List Name) (known : ℕ) (classes : List ClassParts) (are : AreKnown names known (flat_map uses classes)) where
  abbrev at : Search
  at = record { classes = classes; known = take known names }

  module _ (name : Name) (next : next_name at ≡ Some name) (more_known : ℕ) (one_more : known < length names → more_known ≡ known + 1) where
    counted : more_known ≡ known + 1
    counted = one_more (next_within names (flat_map uses classes) known are name next)

    front : take more_known names ≡ take known names ++ name ∷ []
    front = ap (λ n. take n names) counted ∙ front_with_next names (flat_map uses classes) known are name next

    keeps : AreKnown names more_known (flat_map uses classes)
    keeps = subst (λ n. AreKnown names n (flat_map uses classes)) (sym counted) (with_next names (flat_map uses classes) known are name next)

  -- no class was found for the next name
  pub none_found : (s : Search) → at ≡ s → IsSome (next_name s) → (more_known : ℕ) → (known < length names → more_known ≡ known + 1)
      → (option_map (λ name. looked_for s name None) (next_name s) ≡ Some (record { classes = classes; known = take more_known names })) × AreKnown names more_known (flat_map uses classes)
  none_found s is some more_known one_more =
      let there = there_is (next_name s) some in
      let next : next_name at ≡ Some there.0 = ap next_name is ∙ there.1 in (
        ap (option_map (λ name. looked_for s name None)) there.1
            ∙ ap (λ (s : Search). Some (looked_for s there.0 None)) (sym is)
            ∙ ap (λ all. Some (record { classes = classes; known = all })) (sym (front there.0 next more_known one_more)),
        keeps there.0 next more_known one_more,
      )

  -- the class of the next name was found
  pub one_found : (s : Search) → at ≡ s → (class : ClassParts) → next_name s ≡ Some class.name → (more_known : ℕ) → (known < length names → more_known ≡ known + 1)
      → (all : List Name) → all ≡ with_names names (uses class) → (others : List ClassParts) → others ≡ classes ++ class ∷ []
      → (record { classes = others; known = take more_known all } ≡ looked_for s class.name (Some class)) × AreKnown all more_known (flat_map uses others)
  one_found s is class next_is more_known one_more all used others one =
      let next : next_name at ≡ Some class.name = ap next_name is ∙ next_is in
      let before = keeps class.name next more_known one_more in
      let behind : AreKnown all more_known (flat_map uses others) =
      subst (λ list. AreKnown list more_known (flat_map uses others)) (sym used)
      (subst (λ list. AreKnown (with_names names (uses class)) more_known list) (sym (ap (flat_map uses) one ∙ uses_of_more classes class))
      (with_more names (flat_map uses classes) more_known before (uses class))) in
      let known_now : take more_known all ≡ take known names ++ class.name ∷ [] =
      ap (λ list. take more_known list) used ∙ front_stays names (flat_map uses classes) more_known before (uses class) ∙ front class.name next more_known one_more in (
        ap₂ (λ (cs : List ClassParts) (ns : List Name). record { classes = cs; known = ns }) one known_now
            ∙ ap (λ (s : Search). looked_for s class.name (Some class)) is,
        behind,
      )

-- one step more
pub one_step_more : (s t : Search) (steps : List Step) (name : Name) (found : Option ClassParts) → Leads s steps t → next_name t ≡ Some name
    → Leads s (steps ++ (name, found) ∷ []) (looked_for t name found)
one_step_more s t [] name found led next = (ap next_name (sym led) ∙ next, ap (λ (from : Search). looked_for from name found) led)
one_step_more s t (step ∷ steps) name found led next = (led.0, one_step_more (looked_for s step.0 step.1) t steps name found led.1 next)
