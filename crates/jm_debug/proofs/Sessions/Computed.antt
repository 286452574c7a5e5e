-- What a session of a written program prints.
use Rattle.std.specs.Prelude.{◌≡◌, ℕ, List, map}
use Rattle.std.specs.Fmt.{digits}
use Rattle.std.specs.Char.{encode_utf8}
use Rattle.jm_program.specs.DescriptorReading.{base_of, class_at, letter_at, element_at, field_at, parameters_at, whole_field, whole_return, whole_method, whole_descriptor}
use Rattle.jm_program.specs.JasminUnits.{escape_text, unit_text, pair_text, lone_text, after_text, step_text, text_from}
use Rattle.jm_program.specs.JasminTypes.{element_line, type_line, return_line, method_line}
use Rattle.jm_program.specs.declared.class.ClassParts.{ClassParts}
use Rattle.jm_values.specs.Reach.{reached, reached_cells}
use Rattle.jm_world.specs.Classes.{class_named}
use Rattle.jm_world.specs.Hierarchy.{chain, is_subclass}
use Rattle.jm_world.specs.Resolution.{resolve_field, resolve_method, select, select_special}
use Rattle.jm_world.specs.Objects.{instance_fields, size_of}
use Rattle.jm_world.specs.World.{reach, reach_cells}
use Rattle.jm_world.specs.Loading.{loaded_world}
use Rattle.jm_world.specs.Run.{after}
use Rattle.jm_debug.specs.Commands.{command}
use Rattle.jm_debug.specs.Texts.{reference_text, value_text, object_type_text, place_text, line_text, stage_text, frame_text, kind_text}
use Rattle.jm_debug.specs.Views.{where_lines, locals_lines, stack_lines, static_text, statics_lines, field_text, object_text, header_text, object_lines_of, object_lines, heap_text, heap_lines, monitor_text, monitor_lines}
use Rattle.jm_debug.specs.Session.{session_of, continue_from, obeyed, shown, answers}

-- the answers to lines, one after the other, from the load of a program on with so many cells; its name
-- opens every word that a session computes with
unfoldable pub answers_within : ℕ → List ClassParts → List (List ℕ) → List (List ℕ)
unfolding command digits encode_utf8 base_of class_at letter_at element_at field_at parameters_at whole_field whole_return whole_method whole_descriptor escape_text unit_text pair_text lone_text after_text step_text text_from element_line type_line return_line method_line reached reached_cells class_named chain is_subclass resolve_field resolve_method select select_special instance_fields size_of reach reach_cells loaded_world after reference_text value_text object_type_text place_text line_text stage_text frame_text kind_text where_lines locals_lines stack_lines static_text statics_lines field_text object_text header_text object_lines_of object_lines heap_text heap_lines monitor_text monitor_lines continue_from obeyed shown
answers_within limit program lines = answers (session_of (loaded_world program limit)) lines

-- a line, and what is printed for it
abbrev pub Exchange : Type 0
Exchange = List ℕ × List ℕ

-- a session goes as it is written
abbrev pub GoesWithin : ℕ → List ClassParts → List Exchange → Type 0
GoesWithin limit program exchanges = answers_within limit program (map (λ e. e.0) exchanges) ≡ map (λ e. e.1) exchanges

abbrev pub Goes : List ClassParts → List Exchange → Type 0
Goes = GoesWithin 65536
