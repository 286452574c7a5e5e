-- What a session of the debugger answers to the lines of a reader, and how it ends.
use Rattle.std.specs.Prelude.{◌≡◌, ◌⊎◌, ◌≤◌, ℕ, List, [], ◌∷◌, ◌++◌, length, map, Option, Some, None, Result, Ok, Err, Bool, true, false, ⊤, if◌then◌else◌}
use Rattle.std.specs.Io.KnownBytes.{IsAtEnd}
use Rattle.std.specs.Str.{is_utf8}
use Rattle.jm_program.specs.Texts.{utf16_of}
use Rattle.jm_debug.specs.Answering.{DebuggerView, IsSession}
use Rattle.jm_debug.specs.Session.{Session, Shown, printed, refuses, shown}
use Rattle.jm_debug.specs.declared.fault.DebugFault.{DebugFault}
use Rattle.jm_debug.specs.declared.fault.DebugFault.TheVariants.{BadCommand, NoSuch, OutOfMemory}
use Rattle.jm_execute.specs.Lines.{lines_in}
use Rattle.jm_execute.specs.Written.{Watch, Reads, HasRead, ReadingBroke, Words, AllWritten, BreaksOff}
use Rattle.jm_explain.specs.declared.status.Status.{Status}
use Rattle.jm_explain.specs.declared.status.Status.TheVariants as ends

-- ---- lines

-- the text that a line spells in UTF-8, in UTF-16 code units, if it is one
abbrev pub text_in : List ℕ → Option (List ℕ)
text_in line = if is_utf8 line then Some (utf16_of line) else None

-- the lines that some bytes spell
abbrev pub lines_of : List ℕ → List (Option (List ℕ))
lines_of bytes = map text_in (lines_in bytes)

-- ---- their answers

-- what a line makes of a session: one that is no text is no command
abbrev pub shown_for : Session → Option (List ℕ) → Shown
shown_for s None = refuses BadCommand s
shown_for s (Some text) = shown s text

-- what is printed for some lines, one after the other
abbrev pub printed_for : Session → List (Option (List ℕ)) → List ℕ
printed_for s [] = []
printed_for s (line ∷ lines) = let here : Shown = shown_for s line in printed here.answer ++ printed_for here.next lines

-- the session behind them
abbrev pub session_behind : Session → List (Option (List ℕ)) → Session
session_behind s [] = s
session_behind s (line ∷ lines) = session_behind (shown_for s line).next lines

-- ---- ends

-- how a session ends
pub data Close : Type 0 where
  -- with its input
  input_ended : Close
  -- memory was refused
  memory_refused : Close
  -- a call of the reader failed, or one of the writer
  call_failed : Close

-- a session, the lines that were answered, and how it ended
pub record Talk : Type 0 where
  pub first : Session
  pub lines : List (Option (List ℕ))
  pub close : Close

abbrev pub talk : Session → List (Option (List ℕ)) → Close → Talk
talk s lines close = record { first = s; lines = lines; close = close }

abbrev pub last_words : Close → List ℕ
last_words input_ended = []
last_words memory_refused = printed (Err OutOfMemory)
last_words call_failed = []

-- what is written in it
abbrev pub talk_output : Talk → List ℕ
talk_output t = printed_for t.first t.lines ++ last_words t.close

abbrev pub close_status : Close → Status
close_status input_ended = ends.Done
close_status memory_refused = ends.OutOfMemory
close_status call_failed = ends.Files

-- it is written, and the status is that of its end; or a call for it failed, and the status says so
abbrev pub TalkLeftIf : {O : Type 0} → Bool → Words O → Talk → Status → Watch O → Watch O → Type 0
TalkLeftIf false says t status out new_out = AllWritten says out new_out (talk_output t) × (status ≡ close_status t.close)
TalkLeftIf true says t status out new_out = BreaksOff says out new_out (talk_output t) × (status ≡ ends.Files)

abbrev pub TalkLeft : {O : Type 0} → Words O → Talk → Status → Watch O → Watch O → Type 0
TalkLeft says t status out new_out = TalkLeftIf new_out.failed says t status out new_out

-- ---- what was read

-- At the end of the input all lines were answered. Where the reader failed, those that were whole: at most the beginning of one is left.
abbrev pub ClosesBy : {R : Type 0} → Reads R → Bool → Close → List ℕ → List (Option (List ℕ)) → Watch R → Watch R → Type 0
ClosesBy says out_failed input_ended bytes rest old new = HasRead says bytes old new × (rest ≡ []) × IsAtEnd (says.remaining new.inner)
ClosesBy says out_failed memory_refused bytes rest old new = HasRead says bytes old new
ClosesBy says true call_failed bytes rest old new = HasRead says bytes old new
ClosesBy says false call_failed bytes rest old new = ReadingBroke says bytes old new × (length rest ≤ 1)

-- The lines that were answered are the first of those that the bytes spell that were read.
pub record Heard {R : Type 0} (says : Reads R) (out_failed : Bool) (t : Talk) (old new : Watch R) : Type 0 where
  pub bytes : List ℕ
  pub rest : List (Option (List ℕ))
  pub lines : lines_of bytes ≡ t.lines ++ rest
  pub close : ClosesBy says out_failed t.close bytes rest old new

-- the session that begins so was held: what was read, and what is left
abbrev pub IsHeld : {R O : Type 0} → Reads R → Words O → Session → Status → Watch R → Watch R → Watch O → Watch O → Type 0
IsHeld r o s status reader new_reader out new_out = (t : Talk) × (t.first ≡ s) × Heard r new_out.failed t reader new_reader × TalkLeft o t status out new_out

-- ---- one line

-- the debugger's answer to a line; want of memory says nothing
abbrev pub AnswersLine : {H : Type 0} → {X : Type 0} → (X → List ℕ) → DebuggerView H → Shown → Result X DebugFault → Type 0
AnswersLine bytes d here (Ok answer) = (here.answer ≡ Ok (bytes answer)) × IsSession d here.next
AnswersLine bytes d here (Err BadCommand) = (here.answer ≡ Err BadCommand) × IsSession d here.next
AnswersLine bytes d here (Err NoSuch) = (here.answer ≡ Err NoSuch) × IsSession d here.next
AnswersLine bytes d here (Err OutOfMemory) = ⊤

-- a session is broken off at some lines: memory was refused, or a call for an answer failed
abbrev pub BreaksBy : Close → Bool → Type 0
BreaksBy input_ended out_failed = ⊥
BreaksBy memory_refused out_failed = ⊤
BreaksBy call_failed out_failed = out_failed ≡ true

pub record BrokenOff {O : Type 0} (says : Words O) (s : Session) (all : List (Option (List ℕ))) (status : Status) (out new_out : Watch O) : Type 0 where
  pub lines : List (Option (List ℕ))
  pub rest : List (Option (List ℕ))
  pub whole : all ≡ lines ++ rest
  pub close : Close
  pub breaks : BreaksBy close new_out.failed
  pub left : TalkLeft says (talk s lines close) status out new_out

-- a line is answered, or the session is broken off at it
abbrev pub Answered : {H : Type 0} → {O : Type 0} → Words O → DebuggerView H → Session → Option (List ℕ) → Result (Unit {0}) Status → Watch O → Watch O → Type 0
Answered says d s line (Ok done) out new_out = AllWritten says out new_out (printed (shown_for s line).answer) × IsSession d (shown_for s line).next
Answered says d s line (Err status) out new_out = BrokenOff says s (line ∷ []) status out new_out

-- the last lines are answered, or the session is broken off at them
abbrev pub Finishes : {O : Type 0} → Words O → Session → List (Option (List ℕ)) → Status → Watch O → Watch O → Type 0
Finishes says s lines status out new_out = TalkLeft says (talk s lines input_ended) status out new_out ⊎ BrokenOff says s lines status out new_out
