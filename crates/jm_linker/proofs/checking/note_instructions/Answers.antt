-- One more is noted, and then all are.
use Rattle.std.proofs.Common.{ℕ, ◌++◌, arith}
use Rattle.jm_program.specs.declared.instruction.symbolic.Instr.{Instr}
use Rattle.jm_world.specs.Loads.{instruction_refusal}
use Rattle.jm_linker.specs.declared.finding.Site.TheVariants as site
use Rattle.jm_linker.specs.Findings.{each, found}
use Rattle.jm_linker.proofs.FindingLaws.{each_ends, each_goes_on}
use Rattle.jm_linker.proofs.checking.note_instructions.Goals as goal

pub loop-number-preserved : goal.loop-number-preserved
loop-number-preserved c =
    let program = c.args.classes.now.program.now in
    let xs = c.args.instructions.now in
    let i = c.loop-number.number in
    let x = c.index-instructions-number.result in
    let now = c.loop-number.findings.items in
    each_goes_on (λ (k : ℕ) (y : Instr). found (site.Instruction c.args.class c.args.method k) (instruction_refusal program y)) xs i x now (c.note.new.findings.items) (c.args.findings.now.items ++ each (λ (k : ℕ) (y : Instr). found (site.Instruction c.args.class c.args.method k) (instruction_refusal program y)) 0 xs)
    (omega arith) c.index-instructions-number.is (c.in_ok-note.ensures (instruction_refusal program x) c.check_instruction.ensures) c.loop-number.invariant

pub returns : goal.returns
returns c =
    let program = c.args.classes.now.program.now in
    let xs = c.args.instructions.now in
    each_ends (λ (k : ℕ) (y : Instr). found (site.Instruction c.args.class c.args.method k) (instruction_refusal program y)) xs c.loop-number.number (c.loop-number.findings.items) (c.args.findings.now.items ++ each (λ (k : ℕ) (y : Instr). found (site.Instruction c.args.class c.args.method k) (instruction_refusal program y)) 0 xs) (omega arith) c.loop-number.invariant
