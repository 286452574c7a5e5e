-- Which bytes spell which value: the ways to put a spelling together.
use Rattle.std.specs.Prelude.{◌≡◌, ℕ, ℤ, ◌+◌, ◌<◌, List, [], ◌∷◌, ◌++◌, length, Option, Some, Result, Ok}
use Rattle.std.specs.Int.{Width, byte_len, from_be_bytes, cast_signed}

-- no bytes, for this value alone
abbrev pub IsDone : {A : Type 0} → A → List ℕ → A → Type 0
IsDone v bytes w = (bytes ≡ []) × (v ≡ w)

-- no bytes, for the value that is there
abbrev pub IsGiven : {A : Type 0} → Option A → List ℕ → A → Type 0
IsGiven o bytes v = (bytes ≡ []) × (o ≡ Some v)

-- no bytes, for the value that a look-up came to
abbrev pub IsOutcome : {F A : Type 0} → Result A F → List ℕ → A → Type 0
IsOutcome r bytes v = (bytes ≡ []) × (r ≡ Ok v)

-- the number that the bytes write, high byte first (JVMS 4: multibyte data items are big-endian)
abbrev pub IsNumber : Width → List ℕ → ℕ → Type 0
IsNumber w bytes n = (length bytes ≡ byte_len w) × (from_be_bytes w bytes ≡ n)

-- the same number in two's complement
abbrev pub IsSigned : Width → List ℕ → ℤ → Type 0
IsSigned w bytes z = (length bytes ≡ byte_len w) × (cast_signed w (from_be_bytes w bytes) ≡ z)

-- so many bytes, whichever they are
abbrev pub AreBytes : ℕ → List ℕ → List ℕ → Type 0
AreBytes n bytes v = (length bytes ≡ n) × (bytes ≡ v)

-- one part, and then another that may depend on the first one's value
pub record IsThen {A B : Type 0} (First : List ℕ → A → Type 0) (Second : A → List ℕ → B → Type 0) (bytes : List ℕ) (v : B) : Type 0 where
  pub front : List ℕ
  pub back : List ℕ
  pub value : A
  pub parts : bytes ≡ front ++ back
  pub first : First front value
  pub second : Second value back v

-- so many bytes, that spell the value as a whole
abbrev pub IsWithin : {A : Type 0} → ℕ → (List ℕ → A → Type 0) → List ℕ → A → Type 0
IsWithin n Spells bytes v = (length bytes ≡ n) × Spells bytes v

-- a value that stands for one that the bytes spell
abbrev pub IsMapped : {F A B : Type 0} → (List ℕ → A → Type 0) → (A → Result B F) → List ℕ → B → Type 0
IsMapped {A = A} Spells f bytes v = (x : A) × Spells bytes x × (f x ≡ Ok v)

-- one after the other from an offset on, to the end, where each may depend on its offset
abbrev pub IsRun : {A : Type 0} → (ℕ → List ℕ → A → Type 0) → ℕ → List A → List ℕ → Type 0
IsRun Spells at [] bytes = bytes ≡ []
IsRun Spells at (x ∷ xs) bytes = (front : List ℕ) × (back : List ℕ) × (bytes ≡ front ++ back) × Spells at front x × IsRun Spells (at + length front) xs back

-- what has a spelling at an offset takes at least one byte
pub record IsFilled {A : Type 0} (Spells : ℕ → List ℕ → A → Type 0) : Type 0 where
  pub filled : (at : ℕ) (bytes : List ℕ) (x : A) → Spells at bytes x → 0 < length bytes
