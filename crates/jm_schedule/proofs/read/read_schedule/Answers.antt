-- Each turn takes a line off the front of what is left.
use Rattle.std.proofs.Common.{sym, ap, ◌∙◌, arith}
use Rattle.std.specs.Option.{option_copied}
use Rattle.jm_schedule.specs.Lines.{line_of, spelled_of}
use Rattle.jm_schedule.proofs.RunLemmas.{length-repeated}
use Rattle.jm_schedule.proofs.Reading.{first_line, no_line, silent_line, strange_line, event_line, line_past, fewer_left}
use Rattle.jm_schedule.proofs.read.read_schedule.Goals as goal

pub loop-rest-init : goal.loop-rest-init
loop-rest-init c = record {
  so_far = rw c.new-schedule.ensures (first_line c.args.bytes.now);
  few = rw c.new-schedule.ensures (omega arith);
  lines = omega arith;
}

pub returns-in-Strange-clause-reads : goal.returns-in-Strange-clause-reads
returns-in-Strange-clause-reads c =
    let left = rw c.in-Some.is at c.loop-rest.invariant.so_far in
    left ∙ strange_line _ _ _ _ (option_copied c.cut_at.result.1) c.cut_at.ensures.parts (sym c.read_line.ensures ∙ ap spelled_of c.in-Strange.is)

pub returns-then-len-from-gt-MAX_EVENTS-clause-reads : goal.returns-then-len-from-gt-MAX_EVENTS-clause-reads
returns-then-len-from-gt-MAX_EVENTS-clause-reads c =
    let left = rw c.in-Some.is at c.loop-rest.invariant.so_far in
    let over = rw (c.len.ensures, c.from.ensures) at c.if-len-from-gt-MAX_EVENTS.true in
    left ∙ line_past _ _ _ _ (option_copied c.cut_at.result.1) (line_of c.in-Spells.line) c.cut_at.ensures.parts (sym c.read_line.ensures ∙ ap spelled_of c.in-Spells.is) over

pub loop-rest-preserved-in-Silent : goal.loop-rest-preserved-in-Silent
loop-rest-preserved-in-Silent c =
    let left = rw c.in-Some.is at c.loop-rest.invariant.so_far in
    let lines = rw c.in-Some.is at c.loop-rest.invariant.lines in
    record {
      so_far = left ∙ silent_line _ _ _ _ _ c.cut_at.ensures.parts (sym c.read_line.ensures ∙ ap spelled_of c.in-Silent.is);
      few = c.loop-rest.invariant.few;
      lines = fewer_left _ _ _ _ c.cut_at.ensures.shorter lines;
    }

pub loop-rest-preserved : goal.loop-rest-preserved
loop-rest-preserved c =
    let left = rw c.in-Some.is at c.loop-rest.invariant.so_far in
    let lines = rw c.in-Some.is at c.loop-rest.invariant.lines in
    let within = rw (c.len.ensures, c.from.ensures) at c.if-len-from-gt-MAX_EVENTS.false in
    let pushed = rw c.in_ok-push-in-Spells.was at c.push.ensures.ok in
    record {
      so_far = rw pushed (left ∙ event_line _ _ _ _ _ (line_of c.in-Spells.line) c.cut_at.ensures.parts (sym c.read_line.ensures ∙ ap spelled_of c.in-Spells.is) within);
      few = rw (pushed, length-repeated) within;
      lines = fewer_left _ _ _ _ c.cut_at.ensures.shorter lines;
    }

pub returns-clause-reads : goal.returns-clause-reads
returns-clause-reads c = rw c.in_default.is at c.loop-rest.invariant.so_far ∙ no_line _ _
