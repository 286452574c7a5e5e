-- Which code a method can have (JVMS 4.7.3, 4.7.12, 4.9.1).
use Rattle.std.specs.Prelude.{ℕ, Bool, true, ◌&&◌, nat_lt, nat_le, length, Option, Some, None}
use Rattle.std.specs.List.{list_all}
use Rattle.jm_program.specs.Names.{is_class_name}
use Rattle.jm_program.specs.Instructions.{instr_fits}
use Rattle.jm_program.specs.declared.code.Handler.{Handler}
use Rattle.jm_program.specs.declared.code.LineNumber.{LineNumber}
use Rattle.jm_program.specs.declared.code.Code.{Code}
use Rattle.std.specs.Prelude.{List}

abbrev pub catch_type_fits : Option (List ℕ) → Bool
catch_type_fits None = true
catch_type_fits (Some name) = is_class_name name

-- the range is not empty and lies in the code, and so does the handler (JVMS 4.7.3)
abbrev pub handler_fits : ℕ → Handler → Bool
handler_fits count h = nat_lt h.start h.end && nat_le h.end count && nat_lt h.target count && catch_type_fits h.catch_type

-- the line begins at an instruction (JVMS 4.7.12)
abbrev pub line_fits : ℕ → LineNumber → Bool
line_fits count l = nat_lt l.start count

-- the code of a method whose arguments, its receiver included, take so many slots
abbrev pub code_fits : ℕ → Code → Bool
code_fits slots c =
    nat_le slots c.max_locals
    && nat_lt 0 (length c.instructions)
    && list_all (instr_fits (length c.instructions)) c.instructions
    && list_all (handler_fits (length c.instructions)) c.handlers
    && list_all (line_fits (length c.instructions)) c.lines
