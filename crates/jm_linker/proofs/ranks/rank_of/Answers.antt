-- By the number of the class.
use Rattle.std.proofs.Common.{sym, ◌∙◌, arith}
use Rattle.jm_linker.proofs.RankLaws.{ranked, not_numbered}
use Rattle.jm_linker.proofs.ranks.rank_of.Goals as goal

pub returns-in-Some-get-clause-value : goal.returns-in-Some-get-clause-value
returns-in-Some-get-clause-value c = c.from.ensures ∙ ranked _ _ _ _ _ (sym c.in-Some.ensures) (c.in-Some-get.ensures.lookup.3.1 0)

pub returns-in-None-get-clause-value : goal.returns-in-None-get-clause-value
returns-in-None-get-clause-value c = ranked _ _ _ _ _ (sym c.in-Some.ensures) (c.in-None-get.ensures.lookup.4 (omega arith) 0)

pub returns-in-None-clause-value : goal.returns-in-None-clause-value
returns-in-None-clause-value c = not_numbered _ _ _ (sym c.in-None.ensures)
