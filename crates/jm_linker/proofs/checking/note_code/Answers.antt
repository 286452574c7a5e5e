-- The instructions, and behind them the exception table.
use Rattle.std.proofs.Common.{ℕ, ◌++◌, ap, append_assoc, ◌∙◌}
use Rattle.jm_program.specs.declared.code.Handler.{Handler}
use Rattle.jm_program.specs.declared.instruction.symbolic.Instr.{Instr}
use Rattle.jm_world.specs.Loads.{catch_refusal, instruction_refusal}
use Rattle.jm_linker.specs.declared.finding.Site.TheVariants as site
use Rattle.jm_linker.specs.Findings.{each, found}
use Rattle.jm_linker.proofs.checking.note_code.Goals as goal

pub returns : goal.returns
returns c =
    let program = c.args.classes.now.program.now in
    let code = c.args.code.now in
    let instruction = λ (i : ℕ) (x : Instr). found (site.Instruction c.args.class c.args.method i) (instruction_refusal program x) in
    let handler = λ (h : ℕ) (x : Handler). found (site.Handler c.args.class c.args.method h) (catch_refusal program x) in
    let old = c.args.findings.now.items in
    c.in_ok-note_handlers.ensures
    ∙ ap (λ hs. c.note_instructions.new.findings.items ++ each handler 0 hs) c.as_slice-handlers.ensures
    ∙ ap (λ t. t ++ each handler 0 code.handlers) (c.in_ok-note_instructions.ensures ∙ ap (λ is. old ++ each instruction 0 is) c.as_slice-instructions.ensures)
    ∙ append_assoc old (each instruction 0 code.instructions) (each handler 0 code.handlers)
