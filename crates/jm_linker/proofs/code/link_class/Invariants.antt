-- The methods so far are linked, and what is left decides.
use Rattle.std.proofs.Common.{◌≡◌, drop}
use Rattle.jm_world.specs.Loads.{method_code_refusal, first_of_all}
use Rattle.jm_linker.proofs.MethodLaws.{LinksSoFar}
use Rattle.jm_linker.proofs.code.link_class.Given as goal

abbrev pub invariant-loop-index : goal.invariant-loop-index
invariant-loop-index l =
    (first_of_all (method_code_refusal l.classes.program.now) l.methods ≡ first_of_all (method_code_refusal l.classes.program.now) (drop l.index l.methods))
    × LinksSoFar l.classes.program.now l.number l.methods l.index l.initial.linked.items l.linked.items
