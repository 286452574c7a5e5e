-- A format: which bytes spell which value, with the reading that this determines and the two laws that join them.
-- A fault is the answer where no value stands there; which one comes is part of the reading, and the laws speak of values alone.
use Rattle.std.specs.Prelude.{ℕ, ℤ, zero, suc, Bool, if◌then◌else◌, List, [], ◌∷◌, Option, Some, None, Result, Ok}
use Rattle.std.specs.Option.{ok_or}
use Rattle.std.specs.Int.{Width, w8, w16, w32, w64}
use Rattle.jm_bytes.specs.Spelling.{IsDone, IsGiven, IsOutcome, IsNumber, IsSigned, AreBytes, IsThen, IsWithin, IsMapped, IsRun, IsFilled}
use Rattle.jm_bytes.specs.Reading.{fault_as, number_at, signed_at, bytes_at, outcome_at, then_at, whole, within_at, mapped_by, run}
use Rattle.jm_bytes.specs.Laws.{Sound, Complete, SoundAll, CompleteAll, done_sound, done_complete, outcome_sound, outcome_complete, given_sound, given_complete, bytes_sound, bytes_complete, number_sound, number_complete, signed_sound, signed_complete, then_sound, then_complete, whole_sound, whole_complete, within_sound, within_complete, mapped_sound, mapped_complete, fault_as_sound, fault_as_complete, fault_as_sound_all, fault_as_complete_all, run_sound, run_complete}

-- of a value that other bytes may follow
pub record Format (F A : Type 0) : Type 1 where
  pub Spells : List ℕ → A → Type 0
  pub read : List ℕ → Result (A × List ℕ) F
  pub sound : Sound Spells read
  pub complete : Complete Spells read

-- of a value that takes all of the bytes
pub record Whole (F A : Type 0) : Type 1 where
  pub Spells : List ℕ → A → Type 0
  pub read : List ℕ → Result A F
  pub sound : SoundAll Spells read
  pub complete : CompleteAll Spells read

-- ---- no bytes

abbrev pub done : {F A : Type 0} → A → Format F A
done v = record { Spells = IsDone v; read = λ bytes. Ok (v, bytes); sound = done_sound v; complete = done_complete v }

-- the value that a look-up or a test came to, or its own fault
abbrev pub outcome : {F A : Type 0} → Result A F → Format F A
outcome r = record { Spells = IsOutcome r; read = outcome_at r; sound = outcome_sound r; complete = outcome_complete r }

-- the value, or the fault where there is none
abbrev pub given : {F A : Type 0} → F → Option A → Format F A
given e o = record { Spells = IsGiven o; read = outcome_at (ok_or o e); sound = given_sound e o; complete = given_complete e o }

-- only where the test holds
abbrev pub guard : {F : Type 0} → F → Bool → Format F (Unit {0})
guard e b = given e (if b then Some tt else None)

-- no value at all
abbrev pub nothing : {F A : Type 0} → F → Format F A
nothing e = given e None

-- ---- numbers and bytes, with the fault where the bytes end too early

abbrev pub number : {F : Type 0} → F → Width → Format F ℕ
number e w = record { Spells = IsNumber w; read = λ bytes. ok_or (number_at w bytes) e; sound = number_sound e w; complete = number_complete e w }

abbrev pub signed : {F : Type 0} → F → Width → Format F ℤ
signed e w = record { Spells = IsSigned w; read = λ bytes. ok_or (signed_at w bytes) e; sound = signed_sound e w; complete = signed_complete e w }

abbrev pub u1 : {F : Type 0} → F → Format F ℕ
u1 e = number e w8

abbrev pub u2 : {F : Type 0} → F → Format F ℕ
u2 e = number e w16

abbrev pub u4 : {F : Type 0} → F → Format F ℕ
u4 e = number e w32

abbrev pub u8 : {F : Type 0} → F → Format F ℕ
u8 e = number e w64

abbrev pub s1 : {F : Type 0} → F → Format F ℤ
s1 e = signed e w8

abbrev pub s2 : {F : Type 0} → F → Format F ℤ
s2 e = signed e w16

abbrev pub s4 : {F : Type 0} → F → Format F ℤ
s4 e = signed e w32

abbrev pub s8 : {F : Type 0} → F → Format F ℤ
s8 e = signed e w64

abbrev pub some_bytes : {F : Type 0} → F → ℕ → Format F (List ℕ)
some_bytes e n = record { Spells = AreBytes n; read = λ bytes. ok_or (bytes_at n bytes) e; sound = bytes_sound e n; complete = bytes_complete e n }

-- ---- parts and wholes

infixl 10 ◌>>=◌
abbrev pub ◌>>=◌ : {F A B : Type 0} → Format F A → (A → Format F B) → Format F B
f >>= g = record {
  Spells = IsThen f.Spells (λ x. (g x).Spells);
  read = then_at f.read (λ x. (g x).read);
  sound = then_sound f.Spells f.read (λ x. (g x).Spells) (λ x. (g x).read) f.sound (λ x. (g x).sound);
  complete = then_complete f.Spells f.read (λ x. (g x).Spells) (λ x. (g x).read) f.complete (λ x. (g x).complete);
}

-- all of the bytes, with the fault where some follow
abbrev pub all_of : {F A : Type 0} → F → Format F A → Whole F A
all_of e f = record { Spells = f.Spells; read = whole e f.read; sound = whole_sound e f.Spells f.read f.sound; complete = whole_complete e f.Spells f.read f.complete }

-- so many bytes, with the fault where there are fewer, that spell the value as a whole
abbrev pub within : {F A : Type 0} → F → ℕ → Whole F A → Format F A
within e n f = record { Spells = IsWithin n f.Spells; read = within_at e n f.read; sound = within_sound e n f.Spells f.read f.sound; complete = within_complete e n f.Spells f.read f.complete }

-- a value that stands for the one that the bytes spell
abbrev pub mapped : {F A B : Type 0} → Whole F A → (A → Result B F) → Whole F B
mapped f to = record { Spells = IsMapped f.Spells to; read = mapped_by f.read to; sound = mapped_sound f.Spells f.read to f.sound; complete = mapped_complete f.Spells f.read to f.complete }

-- ---- one after the other

-- so many
unfoldable pub many : {F A : Type 0} → ℕ → Format F A → Format F (List A)
many zero f = done []
many (suc n) f = do
  x ← f
  xs ← many n f
  done (x ∷ xs)

-- so many, each taking on the state that the one before left
unfoldable pub repeated : {F S : Type 0} → ℕ → (S → Format F S) → S → Format F S
repeated zero f s = done s
repeated (suc n) f s = f s >>= repeated n f

-- to the end of the bytes, each knowing its offset
unfoldable pub read_to_end : {F A : Type 0} → (ℕ → Format F A) → ℕ → List ℕ → Result (List A) F
read_to_end f at = run (λ n. (f n).read) at

pub to_end_sound : {F A : Type 0} (f : ℕ → Format F A) → IsFilled (λ at. (f at).Spells) → (at : ℕ) → SoundAll (λ bytes xs. IsRun (λ n. (f n).Spells) at xs bytes) (read_to_end f at)
unfolding read_to_end
to_end_sound f filled at = run_sound (λ n. (f n).Spells) (λ n. (f n).read) (λ n. (f n).sound) filled at

pub to_end_complete : {F A : Type 0} (f : ℕ → Format F A) → IsFilled (λ at. (f at).Spells) → (at : ℕ) → CompleteAll (λ bytes xs. IsRun (λ n. (f n).Spells) at xs bytes) (read_to_end f at)
unfolding read_to_end
to_end_complete f filled at = run_complete (λ n. (f n).Spells) (λ n. (f n).read) (λ n. (f n).complete) filled at

abbrev pub each_to_end : {F A : Type 0} (f : ℕ → Format F A) → IsFilled (λ at. (f at).Spells) → ℕ → Whole F (List A)
each_to_end f filled at = record { Spells = λ bytes xs. IsRun (λ n. (f n).Spells) at xs bytes; read = read_to_end f at; sound = to_end_sound f filled at; complete = to_end_complete f filled at }

-- ---- the same bytes and values, the faults as another layer sees them

abbrev pub with_fault : {F G A : Type 0} → (F → G) → Format F A → Format G A
with_fault g f = record { Spells = f.Spells; read = λ bytes. fault_as g (f.read bytes); sound = fault_as_sound g f.Spells f.read f.sound; complete = fault_as_complete g f.Spells f.read f.complete }

abbrev pub with_fault_all : {F G A : Type 0} → (F → G) → Whole F A → Whole G A
with_fault_all g f = record { Spells = f.Spells; read = λ bytes. fault_as g (f.read bytes); sound = fault_as_sound_all g f.Spells f.read f.sound; complete = fault_as_complete_all g f.Spells f.read f.complete }
