use Rattle.std.proofs.Common.{◌+◌, ◌∙◌, ap, cond, length}
use Rattle.jm_machine.proofs.Marked.{marks_now, marks_before}
use Rattle.jm_machine.proofs.reached.mark_place.Goals as goal

pub returns-in_ok-push : goal.returns-in_ok-push
returns-in_ok-push g c =
    let insert = c.in_ok-insert.ensures in
    let long = insert.len ∙ ap (λ b. length c.args.seen.now.entries + cond b 0 1) c.if-is_none.ensures in
    rw c.in_ok-push.ensures.items (marks_now _ c.args.place c.serial.ensures insert.entries long insert.ordered)

pub returns-else-is_none : goal.returns-else-is_none
returns-else-is_none g c =
    let insert = c.in_ok-insert.ensures in
    marks_before _ c.args.place c.serial.ensures insert.entries (insert.keys_stay c.if-is_none.ensures)
