-- What was unread and what was read are the line so far and what is unread now. Each turn makes the line longer, but the first, which may
-- begin with nothing unread.
use Rattle.std.proofs.Common.{◌≡◌, ◌-◌, ◌+◌, ◌*◌, ◌^◌, ℕ, List, ◌++◌, length, min, vec_len}
use Rattle.jm_execute.specs.Lines.{IsWithinLine}
use Rattle.jm_execute.specs.Written.{HasRead, reads}
use Rattle.jm_execute.proofs.lines.Unread.next_line.Given as goal

abbrev pub invariant-loop-line : goal.invariant-loop-line
invariant-loop-line g l = record {
  bytes : List ℕ;
  read : HasRead (reads g.R.Read.remaining g.R.Readable.fails) bytes l.initial.reader l.reader;
  whole : l.initial.self ++ bytes ≡ l.line.items ++ l.self;
  within : IsWithinLine l.line.items;
}

abbrev pub decreases-loop-line : goal.decreases-loop-line
decreases-loop-line g l = 2 ^ 64 - (2 * vec_len l.line + min 1 (length l.self))
