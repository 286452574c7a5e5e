-- The instructions so far are linked, and what is left decides.
use Rattle.std.proofs.Common.{◌≡◌, take, drop}
use Rattle.jm_world.specs.Loads.{instruction_refusal, first_of_all}
use Rattle.jm_linked.specs.Links.{AllLinkIn}
use Rattle.jm_linker.proofs.code.link_instructions.Given as goal

abbrev pub invariant-loop-instruction : goal.invariant-loop-instruction
invariant-loop-instruction l =
    (first_of_all (instruction_refusal l.classes.program.now) l.instructions ≡ first_of_all (instruction_refusal l.classes.program.now)
    (drop l.instruction-index l.instructions))
    × AllLinkIn l.classes.program.now l.caller l.linked.items (take l.instruction-index l.instructions)
