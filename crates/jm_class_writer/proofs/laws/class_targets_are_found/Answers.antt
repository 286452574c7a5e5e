use Rattle.std.proofs.Common.{length}
use Rattle.std.specs.Prelude.{◌&&◌, nat_le, nat_lt}
use Rattle.std.specs.List.{list_all}
use Rattle.jm_program.specs.Instructions.{instr_fits}
use Rattle.jm_program.specs.Codes.{handler_fits, line_fits}
use Rattle.jm_program.proofs.Truths.{both_true}
use Rattle.jm_class_writer.proofs.TargetLaws.{no_bad_target}
use Rattle.jm_class_writer.proofs.PlaceLaws.{places_found}
use Rattle.jm_class_writer.proofs.laws.class_targets_are_found.Goals as goal

pub returns-clause-targets : goal.returns-clause-targets
returns-clause-targets g slots c before after all fits h =
    let lines = both_true (nat_le slots c.max_locals && nat_lt 0 (length c.instructions) && list_all (instr_fits (length c.instructions)) c.instructions && list_all (handler_fits (length c.instructions)) c.handlers) (list_all (line_fits (length c.instructions)) c.lines) fits in
    let handlers = both_true (nat_le slots c.max_locals && nat_lt 0 (length c.instructions) && list_all (instr_fits (length c.instructions)) c.instructions) (list_all (handler_fits (length c.instructions)) c.handlers) lines.0 in
    let instrs = both_true (nat_le slots c.max_locals && nat_lt 0 (length c.instructions)) (list_all (instr_fits (length c.instructions)) c.instructions) handlers.0 in
    no_bad_target c.instructions before all after instrs.1 h

pub returns-clause-places : goal.returns-clause-places
returns-clause-places g slots c before after e fits h =
    let lines = both_true (nat_le slots c.max_locals && nat_lt 0 (length c.instructions) && list_all (instr_fits (length c.instructions)) c.instructions && list_all (handler_fits (length c.instructions)) c.handlers) (list_all (line_fits (length c.instructions)) c.lines) fits in
    let handlers = both_true (nat_le slots c.max_locals && nat_lt 0 (length c.instructions) && list_all (instr_fits (length c.instructions)) c.instructions) (list_all (handler_fits (length c.instructions)) c.handlers) lines.0 in
    let instrs = both_true (nat_le slots c.max_locals && nat_lt 0 (length c.instructions)) (list_all (instr_fits (length c.instructions)) c.instructions) handlers.0 in
    places_found c before e after instrs.1 handlers.1 lines.1 h
