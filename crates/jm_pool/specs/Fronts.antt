-- What a call gave of the front of some bytes, when it tells how many bytes it took.
use Rattle.std.specs.Prelude.{◌≡◌, ℕ, ◌≤◌, List, length, drop, Result, Ok, Err}

-- The value is the reading's, and the bytes after those that it took are those that the reading leaves; so is the fault, but for
-- want of memory.
abbrev pub GivesFront : {X E : Type 0} → E → Result (X × ℕ) E → List ℕ → Result (X × List ℕ) E → Type 0
GivesFront memory (Ok x) bytes read = (x.1 ≤ length bytes) × (read ≡ Ok (x.0, drop x.1 bytes))
GivesFront memory (Err e) bytes read = ¬ (e ≡ memory) → read ≡ Err e
