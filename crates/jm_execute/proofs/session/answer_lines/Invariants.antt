-- What was read and answered so far.
use Rattle.std.proofs.Common.{◌≡◌, false}
use Rattle.jm_debug.specs.Answering.{IsSession}
use Rattle.jm_debug.specs.Session.{Session}
use Rattle.jm_execute.specs.Written.{reads, words}
use Rattle.jm_execute.proofs.TalkLemmas.{SoFar}
use Rattle.jm_execute.proofs.session.answer_lines.Given as goal

abbrev pub invariant-lines : goal.invariant-lines
invariant-lines g l = record {
  fresh : l.out.failed ≡ false;
  so_far : (s : Session) → IsSession l.initial.debugger s
      → SoFar (reads g.R.Read.remaining g.R.Readable.fails) (words g.O.Write.contents g.O.Watchable.ends) s l.debugger l.unread l.initial.reader l.reader l.initial.out l.out;
}
