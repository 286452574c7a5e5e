-- The texts of literals by number (JVMS 4.4.3, 5.1).
use Rattle.std.specs.Prelude.{◌≡◌, ℕ, ◌+◌, List, [], ◌∷◌, ◌++◌, Option, Some, None, true, false}
use Rattle.std.specs.Borrow.{Bor}
use Rattle.std.specs.BTreeMap.{BTreeMap, get}
use Rattle.std.specs.Cmp.Lexicographic.{slice_cmp}
use Rattle.std.specs.declared.cmp.Ordering.{Ordering}
use Rattle.std.specs.Ordering.{nat_cmp}
use Rattle.jm_program.specs.Names.{same_text}
use Rattle.jm_world.specs.Loading.{has_text}

-- where a text stands first, from 0
abbrev pub number_of_text : List (List ℕ) → List ℕ → Option ℕ
number_of_text [] text = None
number_of_text (t ∷ ts) text = elim (same_text t text) [
  | true ↦ Some 0
  | false ↦ elim (number_of_text ts text) [ None ↦ None | Some n ↦ Some (n + 1) ]
]

-- one more text, unless it is there
abbrev pub with_text : List (List ℕ) → List ℕ → List (List ℕ)
with_text texts t = elim (has_text t texts) [ true ↦ texts | false ↦ texts ++ t ∷ [] ]

abbrev pub with_texts : List (List ℕ) → List (List ℕ) → List (List ℕ)
with_texts texts [] = texts
with_texts texts (t ∷ ts) = with_texts (with_text texts t) ts

-- texts in the order of their code units
abbrev pub by_units : Bor (List ℕ) → Bor (List ℕ) → Ordering
by_units x y = slice_cmp nat_cmp x.now y.now

-- the table has the number of each of the texts, and no others
abbrev pub HasNumbers : BTreeMap (Bor (List ℕ)) ℕ → List (List ℕ) → Type 0
HasNumbers table texts = (text : Bor (List ℕ)) → get by_units table text ≡ number_of_text texts text.now
