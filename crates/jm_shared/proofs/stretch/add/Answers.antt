-- The turns make the last stretch longer, or begin a new one.
use Rattle.jm_shared.proofs.Stretches.{some_more, still_rises, some_new, new_rises}
use Rattle.jm_shared.proofs.stretch.add.Goals as goal

pub returns-then-not-is_like-clause-entries : goal.returns-then-not-is_like-clause-entries
returns-then-not-is_like-clause-entries c = some_new _ _ _ _ _ c.push_reserved.ensures.items c.requires.next

pub returns-then-not-is_like-clause-rises : goal.returns-then-not-is_like-clause-rises
returns-then-not-is_like-clause-rises c = new_rises _ _ _ _ _ c.push_reserved.ensures.items c.requires.rises c.requires.next

pub returns-else-not-is_like-clause-entries : goal.returns-else-not-is_like-clause-entries
returns-else-not-is_like-clause-entries c = some_more _ _ _ _ c.requires.rises (c.is_like.ensures c.if-not-is_like.false) c.requires.next

pub returns-else-not-is_like-clause-rises : goal.returns-else-not-is_like-clause-rises
returns-else-not-is_like-clause-rises c = still_rises _ _ _ _ c.requires.rises c.requires.next
