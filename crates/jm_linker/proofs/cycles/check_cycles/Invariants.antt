-- What is left decides.
use Rattle.std.proofs.Common.{◌≡◌, drop}
use Rattle.jm_world.specs.Loads.{cycle_refusal, first_of_all}
use Rattle.jm_linker.proofs.cycles.check_cycles.Given as goal

abbrev pub invariant-loop-class : goal.invariant-loop-class
invariant-loop-class l = first_of_all (cycle_refusal l.classes.program.now) l.class-items ≡ first_of_all (cycle_refusal l.classes.program.now) (drop l.class-index l.class-items)
