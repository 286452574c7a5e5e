-- What is left decides.
use Rattle.std.proofs.Common.{◌≡◌, drop}
use Rattle.std.specs.List.{list_all}
use Rattle.jm_linker.specs.Ranks.{is_under}
use Rattle.jm_linker.proofs.ranks.are_under.Given as goal

abbrev pub invariant-loop-name : goal.invariant-loop-name
invariant-loop-name l = list_all (is_under l.classes.program.now l.ranks l.rank) l.names ≡ list_all (is_under l.classes.program.now l.ranks l.rank) (drop l.name-index l.names)
