-- What a watched reader or writer is, and what stands in a watched writer after a call.
use Rattle.std.specs.Prelude.{◌≡◌, ◌⊎◌, ℕ, ◌<◌, List, [], ◌++◌, length, Option, Bool, true, false, Result, MatchResult, refl}
use Rattle.std.specs.Coded.{Coded, code_by, coded×, coded_bool}
use Rattle.std.specs.Fmt.{WritesInCalls}
use Rattle.std.specs.Io.KnownBytes.{Appends, Consumes}
use Rattle.jm_execute.specs.CallEnds.{CallEnd, took, refused, flush_refused}

-- a reader or a writer, and whether it has failed
pub record Watch (T : Type 0) : Type 0 where
  pub inner : T
  pub failed : Bool

-- it is stored as the pair of its fields
abbrev pub watch_code : {T : Type 0} → Coded T → Coded (Watch T)
watch_code {T} c = code_by (T × Bool) (coded× c coded_bool) (λ w. (w.inner, w.failed)) (λ p. record { inner = p.0; failed = p.1 }) (λ _. refl)

-- one that has not failed
abbrev pub fresh : {T : Type 0} → T → Watch T
fresh inner = record { inner = inner; failed = false }

-- ---- readers

-- what a reader says of itself: the bytes that it still has to give, where they are known, and between which states of it a call fails
pub record Reads (R : Type 0) : Type 1 where
  pub remaining : R → Option (List ℕ)
  pub fails : R → R → Type 0

abbrev pub reads : {R : Type 0} → (R → Option (List ℕ)) → (R → R → Type 0) → Reads R
reads remaining fails = record { remaining = remaining; fails = fails }

-- these bytes were read, and no call failed
pub record HasRead {R : Type 0} (says : Reads R) (text : List ℕ) (old new : Watch R) : Type 0 where
  pub bytes : Consumes (says.remaining old.inner) (says.remaining new.inner) text
  pub same : new.failed ≡ old.failed

-- these bytes were read, and then a call failed
pub record ReadingBroke {R : Type 0} (says : Reads R) (text : List ℕ) (old new : Watch R) : Type 0 where
  pub bytes : Consumes (says.remaining old.inner) (says.remaining new.inner) text
  pub before : R
  pub call : says.fails before new.inner
  pub failed : new.failed ≡ true

-- ---- writers

-- what a writer says of itself: the bytes that it holds, where they are known, and which ends a call has from one state of it to another
pub record Words (W : Type 0) : Type 1 where
  pub contents : W → Option (List ℕ)
  pub ends : W → CallEnd → W → Type 0

abbrev pub words : {W : Type 0} → (W → Option (List ℕ)) → (W → CallEnd → W → Type 0) → Words W
words contents ends = record { contents = contents; ends = ends }

-- calls, one after the other, took the bytes
abbrev pub Taken : {W : Type 0} → Words W → W → List ℕ → W → Type 0
Taken says old text new = WritesInCalls (λ before bytes behind. says.ends before (took bytes) behind) old text new

-- all the bytes were written
pub record AllWritten {W : Type 0} (says : Words W) (old new : Watch W) (text : List ℕ) : Type 0 where
  pub bytes : Appends (says.contents old.inner) (says.contents new.inner) text
  pub taken : Taken says old.inner text new.inner
  pub same : new.failed ≡ old.failed

-- a beginning of the bytes was written, and then a call for those that were left failed
pub record Broken {W : Type 0} (says : Words W) (old new : Watch W) (text : List ℕ) : Type 0 where
  pub front : List ℕ
  pub rest : List ℕ
  pub whole : text ≡ front ++ rest
  pub left : 0 < length rest
  pub bytes : Appends (says.contents old.inner) (says.contents new.inner) front
  pub before : W
  pub taken : Taken says old.inner front before
  pub call : says.ends before (refused rest) new.inner
  pub failed : new.failed ≡ true

-- the answer to a write of some bytes
abbrev pub Writes : {A E W : Type 0} → Words W → Result A E → Watch W → Watch W → List ℕ → Type 0
Writes says result old new text = MatchResult result (λ _. AllWritten says old new text) (λ _. Broken says old new text)

-- the bytes were written, and then a call to flush failed
pub record Unflushed {W : Type 0} (says : Words W) (old new : Watch W) (text : List ℕ) : Type 0 where
  pub bytes : Appends (says.contents old.inner) (says.contents new.inner) text
  pub before : W
  pub taken : Taken says old.inner text before
  pub call : says.ends before flush_refused new.inner
  pub failed : new.failed ≡ true

-- a call failed for some of the bytes, or behind them all
abbrev pub BreaksOff : {W : Type 0} → Words W → Watch W → Watch W → List ℕ → Type 0
BreaksOff says old new text = Broken says old new text ⊎ Unflushed says old new text

-- the answer to a flush
abbrev pub Flushes : {A E W : Type 0} → Words W → Result A E → Watch W → Watch W → Type 0
Flushes says result old new = MatchResult result (λ _. AllWritten says old new []) (λ _. Unflushed says old new [])

-- all of the bytes were written, or, where the writer has failed, a beginning of them
abbrev pub WrittenIf : {W : Type 0} → Bool → Words W → Watch W → Watch W → List ℕ → Type 0
WrittenIf false says old new text = AllWritten says old new text
WrittenIf true says old new text = Broken says old new text
