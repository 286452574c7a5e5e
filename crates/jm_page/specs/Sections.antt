-- Views, and what leads from one to the next.
use Rattle.std.specs.Prelude.{◌≡◌, ℕ, List, [], ◌∷◌, ◌++◌, Option, Some, None, Bool, true, false, not, map, is_some, if◌then◌else◌}
use Rattle.std.specs.List.{filter, list_any}
use Rattle.std.specs.Str.{bytes_eq}

-- a part of what is shown: its key, and its lines, each ended by a line feed
pub record Part : Type 0 where
  pub key : List ℕ
  pub text : List ℕ

-- what a view shows under a key
abbrev pub shown_at : List Part → List ℕ → Option (List ℕ)
shown_at [] key = None
shown_at (p ∷ ps) key = if bytes_eq p.key key then Some p.text else shown_at ps key

-- two views show the same
abbrev pub IsSameView : List Part → List Part → Type 0
IsSameView view other = (key : List ℕ) → shown_at view key ≡ shown_at other key

-- the parts that changed, and the keys that are gone
pub record Change : Type 0 where
  pub set : List Part
  pub gone : List (List ℕ)

-- the same is shown
abbrev pub same_text : Option (List ℕ) → Option (List ℕ) → Bool
same_text None None = true
same_text None (Some text) = false
same_text (Some text) None = false
same_text (Some text) (Some other) = bytes_eq text other

-- what is shown under a key is other than it was
abbrev pub has_changed : List Part → List Part → List ℕ → Bool
has_changed old new key = not (same_text (shown_at old key) (shown_at new key))

abbrev pub is_gone : List Part → List ℕ → Bool
is_gone new key = not (is_some (shown_at new key))

abbrev pub key_of : Part → List ℕ
key_of p = p.key

-- what leads from a view to the next one
unfoldable pub delta : List Part → List Part → Change
delta old new = record { set = filter (λ p. has_changed old new p.key) new; gone = filter (is_gone new) (map key_of old) }

abbrev pub is_among : List (List ℕ) → List ℕ → Bool
is_among keys key = list_any (λ k. bytes_eq k key) keys

-- a view with a change made to it
unfoldable pub apply : List Part → Change → List Part
apply view change = change.set ++ filter (λ p. not (is_among change.gone p.key)) view
