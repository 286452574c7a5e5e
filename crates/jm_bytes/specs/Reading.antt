-- Readings from the front of the bytes: the value and the bytes after it, or the fault that ends the reading.
use Rattle.std.specs.Prelude.{◌≡◌, ℕ, ℤ, zero, suc, ◌+◌, ◌-◌, List, [], ◌∷◌, length, take, drop, Option, Some, None, Result, Ok, Err, nat_lt, ◌==◌, if◌then◌else◌}
use Rattle.std.specs.Option.{ok_or}
use Rattle.std.specs.Int.{Width, byte_len, from_be_bytes, cast_signed}

-- the next step, where the one before did not fail
abbrev pub and_then : {F A B : Type 0} → Result A F → (A → Result B F) → Result B F
and_then (Ok x) f = f x
and_then (Err e) f = Err e

-- the same outcome, its fault as another layer sees it
abbrev pub fault_as : {F G A : Type 0} → (F → G) → Result A F → Result A G
fault_as g (Ok x) = Ok x
fault_as g (Err e) = Err (g e)

-- ---- what stands at the front of the bytes; none where the bytes end too early

-- what the first so many bytes stand for, and what follows them
abbrev pub front_at : {A : Type 0} → ℕ → (List ℕ → A) → List ℕ → Option (A × List ℕ)
front_at n value bytes = if nat_lt (length bytes) n then None else Some (value (take n bytes), drop n bytes)

-- a number, high byte first
unfoldable pub number_at : Width → List ℕ → Option (ℕ × List ℕ)
number_at w bytes = front_at (byte_len w) (from_be_bytes w) bytes

-- a number in two's complement
unfoldable pub signed_at : Width → List ℕ → Option (ℤ × List ℕ)
signed_at w bytes = front_at (byte_len w) (λ front. cast_signed w (from_be_bytes w front)) bytes

-- so many bytes, whichever they are
unfoldable pub bytes_at : ℕ → List ℕ → Option (List ℕ × List ℕ)
bytes_at n bytes = front_at n (λ front. front) bytes

-- ---- the readings of the formats

abbrev pub outcome_at : {F A : Type 0} → Result A F → List ℕ → Result (A × List ℕ) F
outcome_at r bytes = and_then r (λ v. Ok (v, bytes))

abbrev pub then_at : {F A B : Type 0} → (List ℕ → Result (A × List ℕ) F) → (A → List ℕ → Result (B × List ℕ) F) → List ℕ → Result (B × List ℕ) F
then_at first second bytes = and_then (first bytes) (λ x. second x.0 x.1)

-- all of the bytes, with the fault where some are left
abbrev pub whole : {F A : Type 0} → F → (List ℕ → Result (A × List ℕ) F) → List ℕ → Result A F
whole e read bytes = and_then (read bytes) (λ x. if length x.1 == 0 then Ok x.0 else Err e)

-- so many bytes, with the fault where there are fewer
abbrev pub within_at : {F A : Type 0} → F → ℕ → (List ℕ → Result A F) → List ℕ → Result (A × List ℕ) F
within_at e n read bytes = and_then (ok_or (bytes_at n bytes) e) (λ x. and_then (read x.0) (λ v. Ok (v, x.1)))

abbrev pub mapped_by : {F A B : Type 0} → (List ℕ → Result A F) → (A → Result B F) → List ℕ → Result B F
mapped_by read f bytes = and_then (read bytes) f

-- One after the other to the end, for at most so many bytes. With one for each byte the first line is never reached with bytes left,
-- where each value takes at least one.
unfoldable pub run_at : {F A : Type 0} → (ℕ → List ℕ → Result (A × List ℕ) F) → ℕ → ℕ → List ℕ → Result (List A) F
run_at read zero at bytes = Ok []
run_at read (suc most) at [] = Ok []
run_at read (suc most) at (b ∷ bytes) = and_then (read at (b ∷ bytes)) (λ x. and_then (run_at read most (at + (length (b ∷ bytes) - length x.1)) x.1) (λ xs. Ok (x.0 ∷ xs)))

unfoldable pub run : {F A : Type 0} → (ℕ → List ℕ → Result (A × List ℕ) F) → ℕ → List ℕ → Result (List A) F
run read at bytes = run_at read (length bytes) at bytes

-- what becomes of each, or the first fault
unfoldable pub each : {F A B : Type 0} → (A → Result B F) → List A → Result (List B) F
each f [] = Ok []
each f (x ∷ xs) = and_then (f x) (λ y. and_then (each f xs) (λ ys. Ok (y ∷ ys)))

-- ---- what a call gave

-- What a call gave, seen by view, and the bytes it left are the reading's, and so is its fault, but for want of memory.
abbrev pub Gives : {X Y E : Type 0} → (X → Y) → E → Result X E → List ℕ → Result (Y × List ℕ) E → Type 0
Gives view memory (Ok x) rest read = read ≡ Ok (view x, rest)
Gives view memory (Err e) rest read = ¬ (e ≡ memory) → read ≡ Err e

-- the same of a call that uses all of its bytes
abbrev pub GivesAll : {X Y E : Type 0} → (X → Y) → E → Result X E → Result Y E → Type 0
GivesAll view memory (Ok x) read = read ≡ Ok (view x)
GivesAll view memory (Err e) read = ¬ (e ≡ memory) → read ≡ Err e

-- a call that takes no memory
abbrev pub Takes : {X E : Type 0} → Result X E → List ℕ → Result (X × List ℕ) E → Type 0
Takes (Ok x) rest read = read ≡ Ok (x, rest)
Takes (Err e) rest read = read ≡ Err e

-- the same where what it gave is seen by view
abbrev pub TakesAs : {X Y E : Type 0} → (X → Y) → Result X E → List ℕ → Result (Y × List ℕ) E → Type 0
TakesAs view (Ok x) rest read = read ≡ Ok (view x, rest)
TakesAs view (Err e) rest read = read ≡ Err e

-- a call that takes no memory and uses all of its bytes
abbrev pub TakesAll : {X Y E : Type 0} → (X → Y) → Result X E → Result Y E → Type 0
TakesAll view (Ok x) read = read ≡ Ok (view x)
TakesAll view (Err e) read = read ≡ Err e

-- a call whose one fault is that the bytes end too early
abbrev pub Finds : {X E : Type 0} → Result X E → List ℕ → Option (X × List ℕ) → Type 0
Finds (Ok x) rest front = front ≡ Some (x, rest)
Finds (Err e) rest front = front ≡ None

-- the same where what it gave is seen by view
abbrev pub FindsAs : {X Y E : Type 0} → (X → Y) → Result X E → List ℕ → Option (Y × List ℕ) → Type 0
FindsAs view (Ok x) rest front = front ≡ Some (view x, rest)
FindsAs view (Err e) rest front = front ≡ None
