-- What is told of an ending.
use Rattle.std.proofs.Common.{◌≡◌, ℕ, List, [], inl, inr, refl, sym, subst, ◌∙◌, true, Bool, Some, Result, Ok, Err, false}
use Rattle.jm_execute.specs.Written.{Watch, Words, AllWritten, Broken, Reads, Writes}
use Rattle.jm_world.specs.World.{World}
use Rattle.jm_choice.specs.Choices.{Choice, RunEnds, all_made}
use Rattle.jm_choice.proofs.Ends.{makes_some}
use Rattle.jm_execute.specs.Endings.{Ending, completed, interrupted, differed, explored, assembled, disassembled, answered, exhausted, turned_away, Ends, EndsIn, FailureTold, Hears, IsDone, IsDoneUnread, IsTalk, Leaves, LeavesIf, LinesTold, Tells, lines_at_failure, output_of}
use Rattle.jm_execute.specs.Talks.{Talk, TalkLeft, TalkLeftIf}
use Rattle.jm_execute.specs.Verdicts.{Verdict}
use Rattle.jm_explain.specs.declared.status.Status.{Status}
use Rattle.jm_explain.specs.declared.status.Status.TheVariants as ends
use Rattle.jm_execute.proofs.Writing.{nothing_written}

module _ {W : Type 0} (says : Words W) where
  -- the same lines
  pub lines_said : (text said : List ℕ) (failed : Bool) (old new : Watch W) → text ≡ said → LinesTold says (Some text) failed old new → LinesTold says (Some said) failed old new
  lines_said text said failed old new is told = subst (λ (t : List ℕ). LinesTold says (Some t) failed old new) is told

  pub lines_told : {A E : Type 0} (r : Result A E) (old new : Watch W) (text : List ℕ) → old.failed ≡ false → Writes says r old new text → LinesTold says (Some text) new.failed old new
  lines_told (Ok x) old new text fresh h = subst (λ b. LinesTold says (Some text) b old new) (sym (h.same ∙ fresh)) h
  lines_told (Err e) old new text fresh h = subst (λ b. LinesTold says (Some text) b old new) (sym h.failed) h

  pub no_lines_told : (old : Watch W) → old.failed ≡ false → LinesTold says (Some []) old.failed old old
  no_lines_told old fresh = subst (λ b. LinesTold says (Some []) b old old) (sym fresh) (nothing_written says old)

module _ {O E : Type 0} (o : Words O) (w : Words E) where
  pub whole_told : (e : Ending) (status : Status) (out new_out : Watch O) (err new_err : Watch E) → out.failed ≡ false → AllWritten o out new_out (output_of e) → Tells w e status err new_err
      → Leaves o w e status out new_out err new_err
  whole_told e status out new_out err new_err fresh written told = subst (λ b. LeavesIf b o w e status out new_out err new_err) (sym (written.same ∙ fresh)) (written, told)

  -- where there is nothing to write
  pub untouched_told : (e : Ending) (status : Status) (out : Watch O) (err new_err : Watch E) → out.failed ≡ false → output_of e ≡ [] → Tells w e status err new_err
      → Leaves o w e status out out err new_err
  untouched_told e status out err new_err fresh none told = whole_told e status out out err new_err fresh (subst (AllWritten o out out) (sym none) (nothing_written o out)) told

  -- where a call for the output failed, of an ending that is no session's
  pub broken_told : (e : Ending) (out new_out : Watch O) (err new_err : Watch E) → Broken o out new_out (output_of e) → LinesTold w (lines_at_failure e) new_err.failed err new_err
      → Leaves o w e ends.Files out new_out err new_err
  broken_told e out new_out err new_err broken told = subst (λ b. LeavesIf b o w e ends.Files out new_out err new_err) (sym broken.failed) (inl broken, refl, told)

  -- where the output has not failed, the status is the ending's, and the lines are told
  pub told_whole : (e : Ending) (status : Status) (out new_out : Watch O) (err new_err : Watch E) → new_out.failed ≡ false → Leaves o w e status out new_out err new_err → Tells w e status err new_err
  told_whole e status out new_out err new_err whole leaves = (subst (λ b. LeavesIf b o w e status out new_out err new_err) whole leaves).1

  -- what a session leaves, of which nothing is told but that its output could not be written whole
  session_told_if : (b : Bool) (t : Talk) (status : Status) (out new_out : Watch O) (err new_err : Watch E) → err.failed ≡ false → TalkLeftIf b o t status out new_out
      → FailureTold w b err new_err → LeavesIf b o w (answered t) status out new_out err new_err
  session_told_if false t status out new_out err new_err fresh left told =
      (left.0, (left.1, subst (λ e. LinesTold w (Some []) e.failed err e) (sym told) (no_lines_told w err fresh)))
  session_told_if true t status out new_out err new_err fresh left told =
      (elim left.0 [ inl broken ↦ inl broken | inr unflushed ↦ inr (tt, unflushed) ], left.1, told)

  pub session_told : (t : Talk) (status : Status) (out new_out : Watch O) (err new_err : Watch E) → err.failed ≡ false → TalkLeft o t status out new_out
      → FailureTold w new_out.failed err new_err → Leaves o w (answered t) status out new_out err new_err
  session_told t status out new_out err new_err fresh left told = session_told_if new_out.failed t status out new_out err new_err fresh left told

-- ---- where nothing is read

pub unheard : {R : Type 0} (r : Reads R) (failed : Bool) (e : Ending) (reader : Watch R) → (IsTalk e → ⊥) → Hears r failed e reader reader
unheard r failed (completed shows w) reader silent = refl
unheard r failed (interrupted w) reader silent = refl
unheard r failed (differed line w) reader silent = refl
unheard r failed (explored b found wanted) reader silent = refl
unheard r failed (assembled bytes) reader silent = refl
unheard r failed (disassembled name commented class) reader silent = refl
unheard r failed (answered t) reader silent = absurd (silent tt)
unheard r failed exhausted reader silent = refl
unheard r failed (turned_away reason) reader silent = refl

-- the endings of a run whose events were all made
pub ends_in : (shows : Bool) (first : World) (choice : Choice) (last : World) → RunEnds first choice (all_made last) → (e : Ending) → EndsIn shows last e → Ends shows first choice e
ends_in shows first choice last ends (completed shown w) (same, is) = (same, (ends.0, ends.1, is ∙ ends.2))
ends_in shows first choice last ends (interrupted w) is = (ends.0, makes_some first choice ends.0 ends.1, is ∙ ends.2)
ends_in shows first choice last ends (differed line w) h = absurd h
ends_in shows first choice last ends (explored b found wanted) h = absurd h
ends_in shows first choice last ends (assembled bytes) h = absurd h
ends_in shows first choice last ends (disassembled name commented class) h = absurd h
ends_in shows first choice last ends (answered t) h = absurd h
ends_in shows first choice made makes exhausted h = absurd h
ends_in shows first choice last ends (turned_away reason) h = absurd h

-- a run is no session
pub no_talk : (shows : Bool) (first : World) (choice : Choice) (e : Ending) → Ends shows first choice e → IsTalk e → ⊥
no_talk shows first choice (completed shown w) ends talk = talk
no_talk shows first choice (interrupted w) ends talk = talk
no_talk shows first choice (differed line w) ends talk = talk
no_talk shows first choice (explored b found wanted) ends talk = talk
no_talk shows first choice (assembled bytes) ends talk = talk
no_talk shows first choice (disassembled name commented class) ends talk = talk
no_talk shows first choice (answered t) ends talk = ends
no_talk shows first choice exhausted ends talk = talk
no_talk shows first choice (turned_away reason) ends talk = talk

pub done_unread : {R O E : Type 0} (r : Reads R) (o : Words O) (w : Words E) (v : Verdict) (status : Status) (reader : Watch R) (out new_out : Watch O) (err new_err : Watch E)
    → IsDoneUnread o w v status out new_out err new_err → IsDone r o w v status reader reader out new_out err new_err
done_unread r o w v status reader out new_out err new_err (e, allows, silent, leaves) = (e, allows, unheard r new_out.failed e reader silent, leaves)
