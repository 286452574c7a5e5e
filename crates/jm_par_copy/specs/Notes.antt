-- Which of the old objects that are scanned point to young ones: of its own store each copier lists them, and of a block
-- that was moved they are listed with the block.
use Rattle.std.specs.Prelude.{◌≡◌, ℕ, List, [], ◌∷◌, ◌++◌, Option, Some, None, nat_eq, nat_lt, slice_get, if◌then◌else◌}
use Rattle.jm_blocks.specs.Objects.{Object}
use Rattle.jm_blocks.specs.Places.{index_of}
use Rattle.jm_copy.specs.Pointing.{IsListed, ListsPointers}
use Rattle.jm_copy.specs.declared.copies.Copies.{Copies}
use Rattle.jm_par_copy.specs.Pieces.{objects_of}
use Rattle.jm_par_copy.specs.declared.piece.Piece.{Piece}
use Rattle.jm_par_copy.specs.declared.copier.Copier.{Copier}

-- the objects of a block that are scanned, if it is an old one
unfoldable pub scanned_in : Piece → ℕ → Option Object
scanned_in x n = if nat_eq x.lane 1 then None else (if nat_lt (index_of n) x.mark then objects_of x n else None)

-- those of them that point to a young one are listed
abbrev pub IsNoted : Piece → Type 0
IsNoted x = ListsPointers 1 (scanned_in x) x.pointing.items

abbrev pub AreNoted : List Piece → Type 0
AreNoted xs = (i : ℕ) (x : Piece) → slice_get xs i ≡ Some x → IsNoted x

-- a copier has listed those of its own store as far as its mark, and of each block that it was given those are listed
pub record IsNoting (c : Copier) : Type 0 where
  pub young : c.own.to.young.lane ≡ 1
  pub own : IsListed 1 c.own.to.tenured c.own.to.kept c.marks.tenured c.pointing.items
  pub given : AreNoted c.given.items

-- so has each, and of the blocks that are set aside those are listed
abbrev pub AllNote : List Copier → List Piece → Type 0
AllNote [] aside = AreNoted aside
AllNote (c ∷ cs) aside = IsNoting c × AllNote cs aside

-- what was listed of the old store as far as a mark is listed still
abbrev pub KeepsListedTo : Option ℕ → Copies → Copies → Type 0
KeepsListedTo mark c d = (lane : ℕ) (places : List ℕ) → IsListed lane c.tenured c.kept mark places → IsListed lane d.tenured d.kept mark places

-- whatever the mark is
abbrev pub KeepsListed : Copies → Copies → Type 0
KeepsListed c d = (lane : ℕ) (mark : Option ℕ) (places : List ℕ) → IsListed lane c.tenured c.kept mark places → IsListed lane d.tenured d.kept mark places

-- all places that are listed, with blocks and by copiers
abbrev pub listed_with : List Piece → List ℕ
listed_with [] = []
listed_with (x ∷ xs) = x.pointing.items ++ listed_with xs

abbrev pub all_listed : List Copier → List Piece → List ℕ
all_listed [] aside = listed_with aside
all_listed (c ∷ cs) aside = c.pointing.items ++ listed_with c.given.items ++ all_listed cs aside
