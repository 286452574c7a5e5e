-- One move and one read more.
use Rattle.std.proofs.Common.{◌+◌, ◌++◌, ap, arith, length, length-append, sym, ◌∙◌}
use Rattle.jm_execute.proofs.LineLemmas.{line_broken, moved_whole, nearer, read_behind, read_then}
use Rattle.jm_execute.proofs.lines.Unread.next_line.Goals as goal

pub loop-line-preserved : goal.loop-line-preserved
loop-line-preserved g c =
    let i = c.loop-line.invariant in
    let moved = rw c.in-Ok-false.field-0-test at c.in-Ok-false.ensures in
    let more = rw c.in-Ok-true-read_more.field-0-test at c.in-Ok-true-read_more.ensures in
    let so_far = moved_whole _ i.bytes _ _ _ _ i.whole moved i.within in
    record {
      bytes = i.bytes ++ c.read_more.new.self;
      read = read_then _ _ _ _ i.bytes c.read_more.new.self i.read more.1;
      whole = read_behind _ i.bytes _ c.read_more.new.self so_far.0;
      within = so_far.1;
    }

pub loop-line-smaller : goal.loop-line-smaller
loop-line-smaller g c =
    let old = c.loop-line.line.ok in
    let small = c.loop-line.line.small in
    let new = c.move_line.new.line.ok in
    let moved = rw c.in-Ok-false.field-0-test at c.in-Ok-false.ensures in
    let more = rw c.in-Ok-true-read_more.field-0-test at c.in-Ok-true-read_more.ensures in
    let longer = new.0 ∙ ap length moved.2 ∙ length-append c.loop-line.line.items c.loop-line.self ∙ ap (λ n. n + length c.loop-line.self) (sym old.0) in
    nearer _ _ _ _ longer more.0 (omega (arith, old.1, small))

pub returns-in-Err-read_more : goal.returns-in-Err-read_more
returns-in-Err-read_more g c =
    let i = c.loop-line.invariant in
    let moved = rw c.in-Ok-false.field-0-test at c.in-Ok-false.ensures in
    let so_far = moved_whole _ i.bytes _ _ _ _ i.whole moved i.within in
    line_broken _ c.in-Err-read_more.fault _ i.bytes _ _ _ _ _ i.read c.in-Err-read_more.ensures so_far.0 so_far.1
