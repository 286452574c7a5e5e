-- The file of the main class in front of the others.
use Rattle.std.proofs.Common.{◌≡◌, ℕ, ◌<◌, List, [], ◌∷◌, ◌++◌, length, get_or, take, drop, Option, Some, None, sym, ap, ◌∙◌}
use Rattle.std.proofs.lemmas.List.{drop_more}
use Rattle.std.specs.List.{remove}
use Rattle.std.specs.Prelude.{map, option_map}
use Rattle.jm_program.specs.declared.class.ClassParts.{ClassParts}
use Rattle.jm_class_path.specs.Files.{FileFacts}
use Rattle.jm_class_path.specs.Programs.{main_at, with_front, with_main}
use Rattle.jm_class_path.specs.Uses.{Name}

-- the one of a number, and behind it the others
pub in_front : {F : Type 0} (files : List F) (n : ℕ) (file : F) → n < length files → file ≡ get_or files n file → file ∷ remove files n ≡ with_front n files
in_front files n file lt is =
    let one : take 1 (drop n files) ≡ file ∷ [] = ap (λ rest. take 1 rest) (drop_more files n file lt) ∙ ap (λ f. f ∷ []) (sym is) in
    ap (λ front. front ++ remove files n) (sym one)

pub named_so : {T : Type 0} (name_of : T → Name) (main : Option T) (text : T) (name : Name) → main ≡ Some text → name ≡ name_of text → option_map name_of main ≡ Some name
named_so name_of main text name is named = ap (λ o. option_map name_of o) is ∙ ap (λ n. Some n) (sym named)

module _ {F : Type 0} (facts : FileFacts F) (main : Option Name) (name : Name) (named : main ≡ Some name) (files : List F) (again : List F) (same : again ≡ files) (classes : List (Option ClassParts)) (held : classes ≡ map facts.class_in again) where
  main_is_at : with_main facts main files ≡ option_map (λ n. with_front n files) (main_at name classes)
  main_is_at =
      ap (λ o. with_main facts o files) named
      ∙ ap (λ fs. option_map (λ n. with_front n files) (main_at name (map facts.class_in fs))) (sym same)
      ∙ ap (λ cs. option_map (λ n. with_front n files) (main_at name cs)) (sym held)

  module _ (seen : List (Option ClassParts)) (seen_is : seen ≡ classes) where
    -- some file can be that of the main class
    pub with_main_there : (n : ℕ) (all : List F) → Some n ≡ main_at name seen → all ≡ with_front n files → with_main facts main files ≡ Some all
    with_main_there n all at front =
        main_is_at ∙ ap (λ cs. option_map (λ n. with_front n files) (main_at name cs)) (sym seen_is)
        ∙ ap (λ o. option_map (λ n. with_front n files) o) (sym at) ∙ ap (λ fs. Some fs) (sym front)

    -- none can
    pub without_main : None ≡ main_at name seen → with_main facts main files ≡ None
    without_main at =
        main_is_at ∙ ap (λ cs. option_map (λ n. with_front n files) (main_at name cs)) (sym seen_is)
        ∙ ap (λ o. option_map (λ n. with_front n files) o) (sym at)
