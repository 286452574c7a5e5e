-- How the spelling of a whole follows from the spellings of its parts: a writer puts out the text of a value, and these say that it spells it.
use Rattle.std.proofs.Common.{◌≡◌, ℕ, zero, suc, ◌+◌, ◌^◌, ◌<◌, Bool, true, false, List, [], ◌∷◌, ◌++◌, length, Option, Some, Result, Ok, Fits, refl, sym, ap, ◌∙◌, arith}
use Rattle.std.specs.Prelude.{ℤ, FitsSigned}
use Rattle.std.specs.List.{flat_map}
use Rattle.std.specs.Int.{Width, w8, w16, w32, w64, to_be_bytes, cast_signed, cast_unsigned}
use Rattle.std.proofs.Math.Facts.{to_z-of_z, Fits-of_z}
use Rattle.std.proofs.lemmas.Nat.{from_be_bytes-to_be_bytes_2, from_be_bytes-to_be_bytes_4, from_be_bytes-to_be_bytes_8}
use Rattle.std.proofs.lemmas.List.{append-nil}
use Rattle.jm_bytes.specs.Spelling.{IsDone, IsNumber, IsSigned, IsRun}
use Rattle.jm_bytes.specs.Format.{Format, Whole, outcome, given, guard, some_bytes, ◌>>=◌, all_of, within, mapped, many, repeated, with_fault, with_fault_all}
use Rattle.jm_bytes.specs.Writing.{signed_bytes, run_text, EachSpells}

-- ---- numbers: `number e w` and `signed e w` spell by `IsNumber w` and `IsSigned w`, whatever the fault

pub u1_text : (n : ℕ) → n < 2 ^ 8 → IsNumber w8 (to_be_bytes w8 n) n
u1_text n lt = (refl, omega arith)

pub u2_text : (n : ℕ) → n < 2 ^ 16 → IsNumber w16 (to_be_bytes w16 n) n
u2_text n lt = (refl, from_be_bytes-to_be_bytes_2 n lt)

pub u4_text : (n : ℕ) → n < 2 ^ 32 → IsNumber w32 (to_be_bytes w32 n) n
u4_text n lt = (refl, from_be_bytes-to_be_bytes_4 n lt)

pub u8_text : (n : ℕ) → n < 2 ^ 64 → IsNumber w64 (to_be_bytes w64 n) n
u8_text n lt = (refl, from_be_bytes-to_be_bytes_8 n lt)

signed_text : (w : Width) (z : ℤ) → FitsSigned w z → IsNumber w (signed_bytes w z) (cast_unsigned w z) → IsSigned w (signed_bytes w z) z
signed_text w z fits h = (h.0, ap (cast_signed w) h.1 ∙ to_z-of_z fits)

pub s1_text : (z : ℤ) → FitsSigned w8 z → IsSigned w8 (signed_bytes w8 z) z
s1_text z fits = signed_text w8 z fits (u1_text (cast_unsigned w8 z) (let f : Fits w8 (cast_unsigned w8 z) = Fits-of_z fits in omega (arith, f)))

pub s2_text : (z : ℤ) → FitsSigned w16 z → IsSigned w16 (signed_bytes w16 z) z
s2_text z fits = signed_text w16 z fits (u2_text (cast_unsigned w16 z) (let f : Fits w16 (cast_unsigned w16 z) = Fits-of_z fits in omega (arith, f)))

pub s4_text : (z : ℤ) → FitsSigned w32 z → IsSigned w32 (signed_bytes w32 z) z
s4_text z fits = signed_text w32 z fits (u4_text (cast_unsigned w32 z) (let f : Fits w32 (cast_unsigned w32 z) = Fits-of_z fits in omega (arith, f)))

pub s8_text : (z : ℤ) → FitsSigned w64 z → IsSigned w64 (signed_bytes w64 z) z
s8_text z fits = signed_text w64 z fits (u8_text (cast_unsigned w64 z) (let f : Fits w64 (cast_unsigned w64 z) = Fits-of_z fits in omega (arith, f)))

-- ---- no bytes

pub done_text : {A : Type 0} (v : A) → IsDone v [] v
done_text v = (refl, refl)

pub outcome_text : {F A : Type 0} (r : Result A F) (v : A) → r ≡ Ok v → (outcome r).Spells [] v
outcome_text r v h = (refl, h)

pub given_text : {F A : Type 0} (e : F) (o : Option A) (v : A) → o ≡ Some v → (given e o).Spells [] v
given_text e o v h = (refl, h)

pub guard_text : {F : Type 0} (e : F) (b : Bool) → b ≡ true → (guard e b).Spells [] tt
guard_text e true h = (refl, refl)
guard_text e false h = absurd cc

-- ---- parts and wholes

pub bytes_text : {F : Type 0} (e : F) (n : ℕ) (bytes : List ℕ) → length bytes ≡ n → (some_bytes e n).Spells bytes bytes
bytes_text e n bytes h = (h, refl)

pub then_text : {F A B : Type 0} (f : Format F A) (g : A → Format F B) (a b : List ℕ) (x : A) (y : B) → f.Spells a x → (g x).Spells b y → (f >>= g).Spells (a ++ b) y
then_text f g a b x y h k = record { front = a; back = b; value = x; parts = refl; first = h; second = k }

pub all_of_text : {F A : Type 0} (e : F) (f : Format F A) (text : List ℕ) (v : A) → f.Spells text v → (all_of e f).Spells text v
all_of_text e f text v h = h

pub within_text : {F A : Type 0} (e : F) (n : ℕ) (f : Whole F A) (text : List ℕ) (v : A) → length text ≡ n → f.Spells text v → (within e n f).Spells text v
within_text e n f text v len h = (len, h)

pub mapped_text : {F A B : Type 0} (f : Whole F A) (to : A → Result B F) (text : List ℕ) (x : A) (y : B) → f.Spells text x → to x ≡ Ok y → (mapped f to).Spells text y
mapped_text f to text x y h k = (x, h, k)

pub with_fault_text : {F G A : Type 0} (g : F → G) (f : Format F A) (text : List ℕ) (v : A) → f.Spells text v → (with_fault g f).Spells text v
with_fault_text g f text v h = h

pub with_fault_all_text : {F G A : Type 0} (g : F → G) (f : Whole F A) (text : List ℕ) (v : A) → f.Spells text v → (with_fault_all g f).Spells text v
with_fault_all_text g f text v h = h

-- ---- one after the other

pub many_text : {F A : Type 0} (f : Format F A) (text : A → List ℕ) (xs : List A) → EachSpells f.Spells text xs → (many (length xs) f).Spells (flat_map text xs) xs
unfolding many
many_text f text [] h = (refl, refl)
many_text f text (x ∷ xs) h =
    record {
      front = text x;
      back = flat_map text xs;
      value = x;
      parts = refl;
      first = h.0;
      second = record { front = flat_map text xs; back = []; value = xs; parts = sym (append-nil (flat_map text xs)); first = many_text f text xs h.1; second = (refl, refl) };
    }

-- the text of one step, and that of the steps after it
pub repeated_text : {F S : Type 0} (n : ℕ) (f : S → Format F S) (s t u : S) (a b : List ℕ) → (f s).Spells a t → (repeated n f t).Spells b u → (repeated (suc n) f s).Spells (a ++ b) u
unfolding repeated
repeated_text n f s t u a b h k = record { front = a; back = b; value = t; parts = refl; first = h; second = k }

pub repeated_none_text : {F S : Type 0} (f : S → Format F S) (s : S) → (repeated zero f s).Spells [] s
unfolding repeated
repeated_none_text f s = (refl, refl)

-- where the bytes of each spell it at its offset
pub run_text_spells : {F A : Type 0} (f : ℕ → Format F A) (text : ℕ → A → List ℕ) (at : ℕ) (xs : List A) → ((n : ℕ) (x : A) → (f n).Spells (text n x) x) → IsRun (λ n. (f n).Spells) at xs (run_text text at xs)
run_text_spells f text at [] h = refl
run_text_spells f text at (x ∷ xs) h = (text at x, run_text text (at + length (text at x)) xs, refl, h at x, run_text_spells f text (at + length (text at x)) xs h)
