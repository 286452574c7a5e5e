-- The first list has no kinds.
use Rattle.jm_tables.proofs.KindRowLaws.{first_has}
use Rattle.jm_tables.proofs.field_kinds.first_list.Goals as goal

pub returns : goal.returns
returns c = first_has c.new-lists.result.items c.push.new.self.items _ c.in_ok-push.ensures.items c.new-lists.ensures.items
