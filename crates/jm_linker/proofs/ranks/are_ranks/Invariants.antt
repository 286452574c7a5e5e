-- What is left decides.
use Rattle.std.proofs.Common.{◌≡◌, drop}
use Rattle.std.specs.List.{list_all}
use Rattle.jm_linker.specs.Ranks.{are_parents_under, has_none_over}
use Rattle.jm_linker.specs.declared.members.Members.{Members}
use Rattle.jm_linker.proofs.ranks.are_ranks.Given as goal

abbrev pub invariant-loop-class : goal.invariant-loop-class
invariant-loop-class l = list_all (has_none_over l.classes.program.now l.ranks) l.classes.program.now ≡ list_all (has_none_over l.classes.program.now l.ranks) (drop l.class-index l.classes.program.now)

abbrev pub invariant-loop-members : goal.invariant-loop-members
invariant-loop-members l = list_all (λ (m : Members). are_parents_under l.classes.program.now l.ranks 1 m.class.now) l.built_ins ≡ list_all (λ (m : Members). are_parents_under l.classes.program.now l.ranks 1 m.class.now) (drop l.members-index l.built_ins)
