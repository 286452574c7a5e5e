use Rattle.std.proofs.Common.{◌≡◌, ◌-◌}
use Rattle.jm_jasmin.specs.Lines.{taken_on}
use Rattle.jm_jasmin.specs.Items.{in_body, next_item, items_of}
use Rattle.jm_jasmin.proofs.body.items_of.Given as goal

abbrev pub invariant-loop : goal.invariant-loop
invariant-loop l = taken_on in_body (next_item l.method) (l.count - l.counter) l.body.items.items l.lines ≡ items_of l.method l.fn.lines
