-- What was noted, and what is left to be noted.
use Rattle.std.proofs.Common.{◌≡◌, ℕ, ◌++◌, drop}
use Rattle.jm_program.specs.declared.instruction.symbolic.Instr.{Instr}
use Rattle.jm_world.specs.Loads.{instruction_refusal}
use Rattle.jm_linker.specs.declared.finding.Site.TheVariants as site
use Rattle.jm_linker.specs.Findings.{each, found}
use Rattle.jm_linker.proofs.checking.note_instructions.Given as goal

abbrev pub invariant-loop-number : goal.invariant-loop-number
invariant-loop-number l =
    let tell = λ (i : ℕ) (instruction : Instr). found (site.Instruction l.class l.method i) (instruction_refusal l.classes.program.now instruction) in
    l.findings.items ++ each tell l.number (drop l.number l.instructions) ≡ l.initial.findings.items ++ each tell 0 l.instructions
