-- What is left decides.
use Rattle.std.proofs.Common.{◌≡◌, drop}
use Rattle.jm_world.specs.Loads.{parents_refusal, first_of_all}
use Rattle.jm_linker.proofs.linking.check_all_parents.Given as goal

abbrev pub invariant-loop-class : goal.invariant-loop-class
invariant-loop-class l = first_of_all (parents_refusal l.classes.program.now) l.class-items ≡ first_of_all (parents_refusal l.classes.program.now) (drop l.class-index l.class-items)
