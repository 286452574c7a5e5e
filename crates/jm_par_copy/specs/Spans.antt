-- A large array of references, alone in its block, that all copiers scan together: each forwards a span of it.
use Rattle.std.specs.Prelude.{◌≡◌, ◌⊎◌, ℕ, ◌<◌, List, [], ◌∷◌, ◌++◌, Some, length, map, slice_get}
use Rattle.jm_heap.specs.Packing.{reference}
use Rattle.jm_blocks.specs.Objects.{object_of}
use Rattle.jm_blocks.specs.Stores.{Blocks}
use Rattle.jm_blocks.specs.declared.header.Header.{Header}
use Rattle.jm_copy.specs.Condemned.{objects_at}
use Rattle.jm_copy.specs.Copying.{Forwarded}
use Rattle.jm_forward.specs.Hands.{all_known}
use Rattle.jm_par_copy.specs.Copiers.{NoneRefused, hands}
use Rattle.jm_par_copy.specs.Notes.{IsNoted}
use Rattle.jm_par_copy.specs.Round.{AreRound}
use Rattle.jm_par_copy.specs.Working.{Pairs}
use Rattle.jm_par_copy.specs.declared.piece.Piece.{Piece}
use Rattle.jm_par_copy.specs.declared.copier.Copier.{Copier}

-- none is null where there was none
abbrev pub NoneIsNull : List ℕ → List ℕ → Type 0
NoneIsNull rs qs = (i p q : ℕ) → slice_get rs i ≡ Some p → slice_get qs i ≡ Some q → 0 < p → 0 < q

-- references, each a place or null as 0, became others, one by one; null stays, since no object lies at 0
pub record AreForwardedReferences (stores : List Blocks) (known : List (ℕ × ℕ)) (rs qs : List ℕ) : Type 0 where
  pub many : length qs ≡ length rs
  pub each : (i p q : ℕ) → slice_get rs i ≡ Some p → slice_get qs i ≡ Some q → Forwarded (objects_at stores) (Pairs stores known) p q
  pub some : NoneIsNull rs qs

-- an array of these references is all that is in a block
abbrev pub IsArray : Piece → Header → List ℕ → Type 0
IsArray x h rs = x.block ≡ object_of h (map reference rs) ∷ []

-- nothing of it is scanned; others are put in their place, and all is
pub record IsPutLarge (x y : Piece) (rs qs : List ℕ) : Type 0 where
  pub header : Header
  pub was : IsArray x header rs
  pub unscanned : x.mark ≡ 0
  pub is : IsArray y header qs
  pub scanned : y.mark ≡ 1
  pub lane : y.lane ≡ x.lane
  pub number : y.number ≡ x.number
  pub noted : IsNoted x → IsNoted y

-- each copier has the new references of its span, which lie one behind the other
abbrev pub AreSpans : List Blocks → List ℕ → List Copier → Type 0
AreSpans stores rs [] = rs ≡ []
AreSpans stores rs (c ∷ cs) = (own : List ℕ) × (rest : List ℕ) × (rs ≡ own ++ rest) × AreForwardedReferences stores c.own.seat.hand.known own c.span.items × AreSpans stores rest cs

-- what they have together
abbrev pub spans_of : List Copier → List ℕ
spans_of [] = []
spans_of (c ∷ cs) = c.span.items ++ spans_of cs

-- a block is no such array, and nothing has changed; or all copiers made a round, and others are in the place of its references
abbrev pub IsScannedJointly : List Blocks → List ℕ → List Copier → List Copier → Piece → Piece → Type 0
IsScannedJointly stores roots cs ds x y =
    ((ds ≡ cs) × (y ≡ x))
    ⊎ (AreRound stores roots cs ds × NoneRefused ds × ((rs : List ℕ) × (qs : List ℕ) × IsPutLarge x y rs qs × AreForwardedReferences stores (all_known (hands ds)) rs qs))
