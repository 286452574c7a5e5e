use Rattle.std.proofs.Common.{◌≡◌, ◌∙◌, ◌+◌, cond, length, sym, subst, ap}
use Rattle.std.specs.Bool.{OnFalse}
use Rattle.std.specs.Ordering.{nat_cmp}
use Rattle.std.specs.BTreeSet.{insert_key}
use Rattle.std.specs.List.Sorted.{IsStrictlySortedBy}
use Rattle.jm_values.proofs.Marking.{marked_now, marked_before}
use Rattle.jm_state.proofs.reach.mark_place.Goals as goal

pub returns-in_ok-push : goal.returns-in_ok-push
returns-in_ok-push g c =
    let seen = c.args.seen.now.keys in
    let keys = c.in_ok-insert.ensures.keys in
    let long : length (insert_key nat_cmp seen c.serial.result) ≡ length seen + 1 =
    sym (ap length keys) ∙ c.in_ok-insert.ensures.len ∙ ap (λ b. length seen + cond b 1 0) c.if-branch.true in
    rw (keys, c.in_ok-push.ensures.items) (marked_now c.args.place c.serial.ensures long
    (subst (IsStrictlySortedBy nat_cmp) keys c.in_ok-insert.ensures.ordered))

pub returns-else-branch : goal.returns-else-branch
returns-else-branch g c =
    let seen = c.args.seen.now.keys in
    let same : c.insert.new.self.keys ≡ seen = subst (λ b. OnFalse b (c.insert.new.self.keys ≡ seen)) c.if-branch.false c.in_ok-insert.ensures.unchanged in
    rw same (marked_before c.args.place c.serial.ensures (sym c.in_ok-insert.ensures.keys ∙ same))
