use Rattle.std.proofs.Common.{refl}
use Rattle.jm_blocks.proofs.block.open_with_copy.Goals as goal

pub returns-clause-ok : goal.returns-clause-ok
returns-clause-ok c o e = rw (c.push_reserved.ensures.items, c.reserve_exact.ensures.items, c.requires.none, c.in_ok-bump_copy.ensures.ok o e, c.reserve_like.ensures, c.new-first.ensures) refl
