-- Names, each once: those that are put behind others, along lists.
use Rattle.std.proofs.Common.{◌≡◌, ℕ, ◌+◌, ◌<◌, List, ◌++◌, length, get_or, drop, ap, ◌∙◌}
use Rattle.std.proofs.lemmas.List.{drop_more}
use Rattle.std.proofs.lemmas.List.Sums.{fold-append}
use Rattle.std.specs.List.{flat_map}
use Rattle.std.specs.Prelude.{map}
use Rattle.jm_class_path.specs.Search.{with_name, with_names}
use Rattle.jm_class_path.specs.Uses.{Name}

-- some names, and then some more
pub with_both : (names a b : List Name) → with_names names (a ++ b) ≡ with_names (with_names names a) b
with_both names a b = fold-append with_name names a b

module _ {A : Type 0} (uses : A → List Name) (names : List Name) (xs : List A) (i : ℕ) (x : A) (lt : i < length xs) where
  -- what one of a list uses, and then what those behind it use
  pub uses_of_one : with_names names (flat_map uses (drop i xs)) ≡ with_names (with_names names (uses (get_or xs i x))) (flat_map uses (drop (i + 1) xs))
  uses_of_one =
      ap (λ ys. with_names names (flat_map uses ys)) (drop_more xs i x lt)
      ∙ with_both names (uses (get_or xs i x)) (flat_map uses (drop (i + 1) xs))

module _ {A : Type 0} (named : A → Name) (names : List Name) (xs : List A) (i : ℕ) (x : A) (lt : i < length xs) where
  -- the name of one of a list, and then those of the ones behind it
  pub name_of_one : with_names names (map named (drop i xs)) ≡ with_names (with_name names (named (get_or xs i x))) (map named (drop (i + 1) xs))
  name_of_one = ap (λ ys. with_names names (map named ys)) (drop_more xs i x lt)
