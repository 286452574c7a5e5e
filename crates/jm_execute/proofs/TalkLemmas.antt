-- A session of the debugger, some lines more.
use Rattle.std.proofs.Common.{◌≡◌, ◌==◌, ℕ, ◌≤◌, List, [], ◌∷◌, ◌++◌, inl, inr, refl, sym, ap, subst, ◌∙◌, arith, append_assoc, append-nil, length, map, Option, Some, None, Result, Ok, Err, Bool, true, false}
use Rattle.std.specs.Prelude.{MatchResult, IfErr, if◌then◌else◌}
use Rattle.std.proofs.lemmas.List.{map-append}
use Rattle.std.proofs.Math.Dec.{eqb-suc-zero}
use Rattle.jm_debug.specs.Answering.{Answers, DebuggerView, IsSession}
use Rattle.jm_debug.specs.Session.{Session, answers, printed, shown}
use Rattle.std.specs.List.{concat}
use Rattle.jm_debug.specs.declared.fault.DebugFault.{DebugFault}
use Rattle.jm_debug.specs.declared.fault.DebugFault.TheVariants.{BadCommand, NoSuch, OutOfMemory}
use Rattle.jm_execute.proofs.StayingSessions.{refused_stays}
use Rattle.jm_execute.proofs.Texts.{no_text}
use Rattle.jm_program.specs.Texts.{utf16_of}
use Rattle.std.proofs.lemmas.Str.{is_utf8-from_IsUtf8}
use Rattle.std.specs.Str.{IsUtf8, is_utf8}
use Rattle.jm_execute.specs.LineReading.{ReadsLine}
use Rattle.jm_execute.specs.Lines.{IsWithinLine, lines_in}
use Rattle.jm_execute.specs.Talks.{Answered, AnswersLine, BreaksBy, BrokenOff, Close, ClosesBy, Finishes, IsHeld, Talk, TalkLeft, TalkLeftIf, call_failed, close_status, input_ended, last_words, lines_of, memory_refused, printed_for, session_behind, shown_for, talk, talk_output, text_in}
use Rattle.jm_execute.specs.Written.{AllWritten, BreaksOff, HasRead, Reads, Watch, Words}
use Rattle.jm_execute.specs.declared.lines.LineFault.TheVariants as fault
use Rattle.jm_execute.specs.declared.lines.NextLine.TheVariants.{Line, End}
use Rattle.jm_explain.specs.declared.status.Status.{Status}
use Rattle.jm_explain.specs.declared.status.Status.TheVariants as ends
use Rattle.jm_execute.proofs.LineLemmas.{broke_then, last_line, line_more, nothing_read, read_then}
use Rattle.jm_execute.proofs.Writing.{breaks_after, nothing_written, written_then}
use Rattle.std.specs.declared.alloc.Global.{Global}
use Rattle.std.specs.Prelude.{Vec}

-- ---- what is printed

pub printed_append : (s : Session) (xs ys : List (Option (List ℕ))) → printed_for s (xs ++ ys) ≡ printed_for s xs ++ printed_for (session_behind s xs) ys
printed_append s [] ys = refl
printed_append s (x ∷ xs) ys =
    let here : List ℕ = printed (shown_for s x).answer in
    ap (λ rest. here ++ rest) (printed_append (shown_for s x).next xs ys) ∙ sym (append_assoc here (printed_for (shown_for s x).next xs) (printed_for (session_behind (shown_for s x).next xs) ys))

pub behind_append : (s : Session) (xs ys : List (Option (List ℕ))) → session_behind s (xs ++ ys) ≡ session_behind (session_behind s xs) ys
behind_append s [] ys = refl
behind_append s (x ∷ xs) ys = behind_append (shown_for s x).next xs ys

output_of_one : (s : Session) (line : Option (List ℕ)) → printed_for s (line ∷ []) ++ [] ≡ printed (shown_for s line).answer
output_of_one s line = append-nil (printed_for s (line ∷ [])) ∙ append-nil (printed (shown_for s line).answer)

-- the answers to texts
pub texts_answered : (s : Session) (texts : List (List ℕ)) → printed_for s (map (λ text. Some text) texts) ≡ concat (answers s texts)
texts_answered s [] = refl
texts_answered s (text ∷ texts) = ap (λ rest. printed (shown s text).answer ++ rest) (texts_answered (shown s text).next texts)

-- ---- what the debugger says

text_is : (line : List ℕ) (b : Bool) → is_utf8 line ≡ b → text_in line ≡ (if b then Some (utf16_of line) else None)
text_is line b is = ap (λ (t : Bool). if t then Some (utf16_of line) else None) is

says_of : {H : Type 0} (d : DebuggerView H) (s : Session) (text : List ℕ) (r : Result (Vec ℕ Global) DebugFault) → Answers (λ v. v.items) d s text r → AnswersLine (λ v. v.items) d (shown s text) r
says_of d s text (Ok v) h = h
says_of d s text (Err BadCommand) h = (h.0, subst (IsSession d) (sym (refused_stays s text BadCommand h.0)) h.1)
says_of d s text (Err NoSuch) h = (h.0, subst (IsSession d) (sym (refused_stays s text NoSuch h.0)) h.1)
says_of d s text (Err OutOfMemory) h = tt

pub says_of_text : {H : Type 0} (d : DebuggerView H) (s : Session) (line : List ℕ) (r : Result (Vec ℕ Global) DebugFault) → IsUtf8 line → Answers (λ v. v.items) d s (utf16_of line) r
    → AnswersLine (λ v. v.items) d (shown_for s (text_in line)) r
says_of_text d s line r text h =
    subst (λ (t : Option (List ℕ)). AnswersLine (λ (v : Vec ℕ Global). v.items) d (shown_for s t) r) (sym (text_is line true (is_utf8-from_IsUtf8 line text))) (says_of d s (utf16_of line) r h)

pub says_of_no_text : {H : Type 0} (d : DebuggerView H) (s : Session) (line : List ℕ) → ¬ (IsUtf8 line) → IsSession d s → AnswersLine (λ (v : Vec ℕ Global). v.items) d (shown_for s (text_in line)) (Err BadCommand)
says_of_no_text d s line none session =
    subst (λ (t : Option (List ℕ)). AnswersLine (λ (v : Vec ℕ Global). v.items) d (shown_for s t) (Err BadCommand)) (sym (text_is line false (no_text line none))) (refl, session)

-- ---- bytes, or none

pub is_some : (line : List ℕ) → false ≡ (length line == 0) → line ≡ [] → ⊥
is_some [] h e = cc
is_some (b ∷ line) h e = cc

pub is_none : (line : List ℕ) → true ≡ (length line == 0) → line ≡ []
is_none [] h = refl
is_none (b ∷ line) h = let wrong : (length (b ∷ line) == 0) ≡ false = eqb-suc-zero (length line) in absurd cc

-- ---- what is left

breaks_failed : {O : Type 0} (says : Words O) (a b : Watch O) (text : List ℕ) → BreaksOff says a b text → b.failed ≡ true
breaks_failed says a b text h = elim h [ inl broken ↦ broken.failed | inr unflushed ↦ unflushed.failed ]

module _ {O : Type 0} (says : Words O) where
  pub talk_told : (t : Talk) (status : Status) (a b : Watch O) → a.failed ≡ false → AllWritten says a b (talk_output t) → status ≡ close_status t.close → TalkLeft says t status a b
  talk_told t status a b fresh written is = subst (λ f. TalkLeftIf f says t status a b) (sym (written.same ∙ fresh)) (written, is)

  pub talk_broken : (t : Talk) (status : Status) (a b : Watch O) → BreaksOff says a b (talk_output t) → status ≡ ends.Files → TalkLeft says t status a b
  talk_broken t status a b broken is = subst (λ f. TalkLeftIf f says t status a b) (sym (breaks_failed says a b (talk_output t) broken)) (broken, is)

  more_output : (s : Session) (done lines : List (Option (List ℕ))) (close : Close)
      → talk_output (talk s (done ++ lines) close) ≡ printed_for s done ++ talk_output (talk (session_behind s done) lines close)
  more_output s done lines close =
      ap (λ front. front ++ last_words close) (printed_append s done lines) ∙ append_assoc (printed_for s done) (printed_for (session_behind s done) lines) (last_words close)

  talk_then_if : (f : Bool) (s : Session) (done lines : List (Option (List ℕ))) (close : Close) (status : Status) (a b c : Watch O) → AllWritten says a b (printed_for s done)
      → TalkLeftIf f says (talk (session_behind s done) lines close) status b c → TalkLeftIf f says (talk s (done ++ lines) close) status a c
  talk_then_if false s done lines close status a b c before left = (subst (AllWritten says a c) (sym (more_output s done lines close)) (written_then says a b c _ _ before left.0), left.1)
  talk_then_if true s done lines close status a b c before left = (subst (BreaksOff says a c) (sym (more_output s done lines close)) (breaks_after says a b c _ _ before left.0), left.1)

  -- behind what was answered before
  pub talk_then : (s : Session) (done lines : List (Option (List ℕ))) (close : Close) (status : Status) (a b c : Watch O) → AllWritten says a b (printed_for s done)
      → TalkLeft says (talk (session_behind s done) lines close) status b c → TalkLeft says (talk s (done ++ lines) close) status a c
  talk_then s done lines close status a b c before left = talk_then_if c.failed s done lines close status a b c before left

  -- ---- one line

  pub line_answered : {H : Type 0} (d : DebuggerView H) (s : Session) (line : Option (List ℕ)) (r : Result (Unit {0}) Status) (answer : List ℕ) (a b : Watch O) → printed (shown_for s line).answer ≡ answer
      → IsSession d (shown_for s line).next → MatchResult r (λ _. AllWritten says a b answer) (λ _. BreaksOff says a b answer) → IfErr r (λ status. status ≡ ends.Files)
      → Answered says d s line r a b
  line_answered d s line (Ok x) answer a b is session written status = (subst (AllWritten says a b) (sym is) written, session)
  line_answered d s line (Err e) answer a b is session broken status = record {
    lines = line ∷ [];
    rest = [];
    whole = refl;
    close = call_failed;
    breaks = breaks_failed says a b answer broken;
    left = talk_broken (talk s (line ∷ []) call_failed) e a b (subst (BreaksOff says a b) (sym (output_of_one s line ∙ is)) broken) status;
  }

  pub line_refused_for_memory : {H : Type 0} (d : DebuggerView H) (s : Session) (line : Option (List ℕ)) (status : Status) (a b : Watch O) → TalkLeft says (talk s [] memory_refused) status a b
      → Answered says d s line (Err status) a b
  line_refused_for_memory d s line status a b left = record { lines = []; rest = line ∷ []; whole = refl; close = memory_refused; breaks = tt; left = left }

  -- ---- the last line

  pub one_line : (line : List ℕ) → (line ≡ [] → ⊥) → IsWithinLine line → lines_of line ≡ text_in line ∷ []
  one_line [] some within = absurd (some refl)
  one_line (b ∷ line) some within = ap (map text_in) (last_line b line within)

  pub no_last_line : (s : Session) (line : List ℕ) (status : Status) (a : Watch O) → line ≡ [] → a.failed ≡ false → status ≡ ends.Done → Finishes says s (lines_of line) status a a
  no_last_line s line status a none fresh is =
      inl (talk_told (talk s (lines_of line) input_ended) status a a fresh (subst (λ bytes. AllWritten says a a (talk_output (talk s (lines_of bytes) input_ended))) (sym none) (nothing_written says a)) is)

  pub last_answered : {H : Type 0} (d : DebuggerView H) (s : Session) (line : List ℕ) (status : Status) (a b : Watch O) → (line ≡ [] → ⊥) → IsWithinLine line → a.failed ≡ false → (done : Unit {0})
      → Answered says d s (text_in line) (Ok done) a b → status ≡ ends.Done → Finishes says s (lines_of line) status a b
  last_answered d s line status a b some within fresh done answered is =
      let whole = subst (AllWritten says a b) (sym (output_of_one s (text_in line))) answered.0 in
      subst (λ lines. Finishes says s lines status a b) (sym (one_line line some within)) (inl (talk_told (talk s (text_in line ∷ []) input_ended) status a b fresh whole is))

  pub last_broken_off : {H : Type 0} (d : DebuggerView H) (s : Session) (line : List ℕ) (status : Status) (a b : Watch O) → (line ≡ [] → ⊥) → IsWithinLine line
      → Answered says d s (text_in line) (Err status) a b → Finishes says s (lines_of line) status a b
  last_broken_off d s line status a b some within broken = subst (λ lines. Finishes says s lines status a b) (sym (one_line line some within)) (inr broken)

-- ---- what was read and answered so far

pub record SoFar {H : Type 0} {R O : Type 0} (r : Reads R) (o : Words O) (s : Session) (d : DebuggerView H) (unread : List ℕ) (reader new_reader : Watch R) (out new_out : Watch O) : Type 0 where
  pub bytes : List ℕ
  pub before : List (List ℕ)
  pub read : HasRead r bytes reader new_reader
  pub lines : (more : List ℕ) → lines_in (bytes ++ more) ≡ before ++ lines_in (unread ++ more)
  pub session : IsSession d (session_behind s (map text_in before))
  pub written : AllWritten o out new_out (printed_for s (map text_in before))

at_most_one : (line : List ℕ) → IsWithinLine line → length (lines_of line) ≤ 1
at_most_one [] within = omega arith
at_most_one (b ∷ line) within = let one : length (lines_of (b ∷ line)) ≡ 1 = ap (λ lines. length (map text_in lines)) (last_line b line within) in omega (arith, one)

module _ {R O : Type 0} (r : Reads R) (o : Words O) (s : Session) where
  pub begun : {H : Type 0} (d : DebuggerView H) (unread : List ℕ) (reader : Watch R) (out : Watch O) → unread ≡ [] → IsSession d s → SoFar r o s d unread reader reader out out
  begun d unread reader out none session = record {
    bytes = [];
    before = [];
    read = nothing_read r reader;
    lines = λ more. ap (λ bytes. lines_in (bytes ++ more)) (sym none);
    session = session;
    written = nothing_written o out;
  }

  module _ {H : Type 0} (d : DebuggerView H) (unread : List ℕ) (reader mid_reader : Watch R) (out mid_out : Watch O) (so_far : SoFar r o s d unread reader mid_reader out mid_out) where
    abbrev done : List (Option (List ℕ))
    done = map text_in so_far.before

    -- the session in which the next line is answered
    abbrev pub here : Session
    here = session_behind s (map text_in so_far.before)

    pub one_more : (line : Vec ℕ Global) (rest : List ℕ) (next : DebuggerView H) (new_reader : Watch R) (new_out : Watch O) (x : Unit {0}) → ReadsLine r (Ok (Line line)) unread rest mid_reader new_reader
        → Answered o next here (text_in line.items) (Ok x) mid_out new_out → SoFar r o s next rest reader new_reader out new_out
    one_more line rest next new_reader new_out x (more, read, within, whole) (written, session) =
        let lines : map text_in (so_far.before ++ line.items ∷ []) ≡ done ++ text_in line.items ∷ [] = map-append text_in so_far.before (line.items ∷ []) in
        let text : printed_for s (done ++ text_in line.items ∷ []) ≡ printed_for s done ++ printed (shown_for here (text_in line.items)).answer =
        printed_append s done (text_in line.items ∷ []) ∙ ap (λ answer. printed_for s done ++ answer) (append-nil (printed (shown_for here (text_in line.items)).answer)) in
        record {
          bytes = so_far.bytes ++ more;
          before = so_far.before ++ line.items ∷ [];
          read = read_then r reader mid_reader new_reader so_far.bytes more so_far.read read;
          lines = line_more so_far.bytes unread rest more line.items so_far.before so_far.lines whole within;
          session = subst (IsSession next) (sym (ap (session_behind s) lines ∙ behind_append s done (text_in line.items ∷ []))) session;
          written = subst (AllWritten o out new_out) (sym (ap (printed_for s) lines ∙ text)) (written_then o out mid_out new_out _ _ so_far.written written);
        }

    lines_so_far : (more : List ℕ) → lines_of (so_far.bytes ++ more) ≡ done ++ lines_of (unread ++ more)
    lines_so_far more = ap (map text_in) (so_far.lines more) ∙ map-append text_in so_far.before (lines_in (unread ++ more))

    closes : (close : Close) (failed : Bool) (bytes : List ℕ) (rest : List (Option (List ℕ))) (new_reader : Watch R) → BreaksBy close failed → HasRead r bytes reader new_reader
        → ClosesBy r failed close bytes rest reader new_reader
    closes input_ended failed bytes rest new_reader breaks read = absurd breaks
    closes memory_refused failed bytes rest new_reader breaks read = read
    closes call_failed failed bytes rest new_reader breaks read = subst (λ f. ClosesBy r f call_failed bytes rest reader new_reader) (sym breaks) read

    -- a session that is broken off at some lines, behind which there may be others
    broken_off : (all behind : List (Option (List ℕ))) (more : List ℕ) (status : Status) (new_reader : Watch R) (new_out : Watch O) → HasRead r more mid_reader new_reader
        → lines_of (so_far.bytes ++ more) ≡ done ++ (all ++ behind) → BrokenOff o here all status mid_out new_out → IsHeld r o s status reader new_reader out new_out
    broken_off all behind more status new_reader new_out read lines off =
        let rest : List (Option (List ℕ)) = off.rest ++ behind in
        let parts : done ++ (all ++ behind) ≡ (done ++ off.lines) ++ rest =
        ap (λ here. done ++ (here ++ behind)) off.whole ∙ ap (λ here. done ++ here) (append_assoc off.lines off.rest behind) ∙ sym (append_assoc done off.lines rest) in (
          talk s (done ++ off.lines) off.close,
          refl,
          record {
            bytes = so_far.bytes ++ more;
            rest = rest;
            lines = lines ∙ parts;
            close = closes off.close new_out.failed (so_far.bytes ++ more) rest new_reader off.breaks (read_then r reader mid_reader new_reader so_far.bytes more so_far.read read);
          },
          talk_then o s done off.lines off.close status out mid_out new_out so_far.written off.left,
        )

    pub broken_off_at_line : (line : Vec ℕ Global) (rest : List ℕ) (next : DebuggerView H) (status : Status) (new_reader : Watch R) (new_out : Watch O)
        → ReadsLine r (Ok (Line line)) unread rest mid_reader new_reader → Answered o next here (text_in line.items) (Err status) mid_out new_out → IsHeld r o s status reader new_reader out new_out
    broken_off_at_line line rest next status new_reader new_out (more, read, within, whole) off =
        let lines = line_more so_far.bytes unread rest more line.items so_far.before so_far.lines whole within [] in
        let whole_lines : lines_of (so_far.bytes ++ more) ≡ done ++ (text_in line.items ∷ lines_of (rest ++ [])) =
        ap lines_of (sym (append-nil (so_far.bytes ++ more)))
        ∙ ap (map text_in) lines
        ∙ ap (map text_in) (append_assoc so_far.before (line.items ∷ []) (lines_in (rest ++ [])))
        ∙ map-append text_in so_far.before (line.items ∷ lines_in (rest ++ [])) in
        broken_off (text_in line.items ∷ []) (lines_of (rest ++ [])) more status new_reader new_out read whole_lines off

    pub finished : (line : Vec ℕ Global) (rest : List ℕ) (status : Status) (new_reader : Watch R) (new_out : Watch O) → ReadsLine r (Ok (End line)) unread rest mid_reader new_reader
        → Finishes o here (lines_of line.items) status mid_out new_out → IsHeld r o s status reader new_reader out new_out
    finished line rest status new_reader new_out (more, read, within, whole, at_end) finishes =
        let lines : lines_of (so_far.bytes ++ more) ≡ done ++ lines_of line.items = lines_so_far more ∙ ap (λ bytes. done ++ lines_of bytes) whole in
        elim finishes [
          | inl left ↦ (
            talk s (done ++ lines_of line.items) input_ended,
            refl,
            record {
              bytes = so_far.bytes ++ more;
              rest = [];
              lines = lines ∙ sym (append-nil (done ++ lines_of line.items));
              close = (read_then r reader mid_reader new_reader so_far.bytes more so_far.read read, refl, at_end);
            },
            talk_then o s done (lines_of line.items) input_ended status out mid_out new_out so_far.written left,
          )
          | inr off ↦ broken_off (lines_of line.items) [] more status new_reader new_out read (lines ∙ ap (λ all. done ++ all) (sym (append-nil (lines_of line.items)))) off
        ]

    pub refused_for_memory : (rest : List ℕ) (status : Status) (new_reader : Watch R) (new_out : Watch O) → ReadsLine r (Err fault.OutOfMemory) unread rest mid_reader new_reader
        → TalkLeft o (talk here [] memory_refused) status mid_out new_out → IsHeld r o s status reader new_reader out new_out
    refused_for_memory rest status new_reader new_out (more, read) left =
        broken_off [] (lines_of (unread ++ more)) more status new_reader new_out read (lines_so_far more) (record { lines = []; rest = []; whole = refl; close = memory_refused; breaks = tt; left = left })

    pub left_unread : (rest : List ℕ) (status : Status) (new_reader : Watch R) → ReadsLine r (Err fault.ReadFailed) unread rest mid_reader new_reader → out.failed ≡ false → status ≡ ends.Files
        → IsHeld r o s status reader new_reader out mid_out
    left_unread rest status new_reader (more, broke, within) fresh is =
        let silent : mid_out.failed ≡ false = so_far.written.same ∙ fresh in (
          talk s done call_failed,
          refl,
          record {
            bytes = so_far.bytes ++ more;
            rest = lines_of (unread ++ more);
            lines = lines_so_far more;
            close = subst (λ f. ClosesBy r f call_failed (so_far.bytes ++ more) (lines_of (unread ++ more)) reader new_reader) (sym silent)
                (broke_then r reader mid_reader new_reader so_far.bytes more so_far.read broke, at_most_one (unread ++ more) within);
          },
          talk_told o (talk s done call_failed) status out mid_out fresh (subst (AllWritten o out mid_out) (sym (append-nil (printed_for s done))) so_far.written) is,
        )
