-- What is written of a run of a written program, by computation.
use Rattle.std.specs.Prelude.{◌≡◌, ℕ, List, [], ◌∷◌, ◌++◌, codes, refl}
use Rattle.std.specs.Fmt.{digits}
use Rattle.std.specs.Char.{encode_utf8}
use Rattle.jm_program.specs.JasminUnits.{escape_text, unit_text, pair_text, lone_text, after_text, step_text, text_from}
use Rattle.jm_program.specs.JasminTypes.{element_line, type_line, return_line, method_line}
use Rattle.jm_program.specs.declared.class.ClassParts.{ClassParts}
use Rattle.jm_program.specs.declared.instruction.operation.SmallInt.TheVariants as small
use Rattle.jm_values.specs.Reach.{reached, reached_cells}
use Rattle.jm_world.specs.Classes.{class_named}
use Rattle.jm_world.specs.Hierarchy.{chain, is_subclass}
use Rattle.jm_world.specs.Resolution.{resolve_field, resolve_method, select, select_special}
use Rattle.jm_world.specs.Objects.{instance_fields, size_of}
use Rattle.jm_world.specs.World.{World, reach, reach_cells}
use Rattle.jm_world.specs.Loading.{loaded_world}
use Rattle.jm_world.specs.Run.{after}
use Rattle.jm_world.specs.Written.{main, iconst, pop, return}
use Rattle.jm_world.specs.declared.event.Event.{Event}
use Rattle.jm_world.specs.declared.event.Event.TheVariants.{Step}
use Rattle.jm_debug.specs.Texts.{reference_text, value_text, object_type_text, place_text, line_text, stage_text, frame_text, kind_text}
use Rattle.jm_debug.specs.Views.{static_text, field_text, object_text, header_text, heap_text, monitor_text, monitor_lines}
use Rattle.jm_page.specs.Escapes.{escaped_byte, joined_byte}
use Rattle.jm_page.specs.Sections.{delta}
use Rattle.jm_page.specs.Data.{line_of, part_text, change_text, output_text, head_text, view_text}
use Rattle.jm_page.specs.Filming.{all_told}
use Rattle.jm_film.specs.Shown.{view}
use Rattle.jm_film.specs.Runs.{begun, moments_from}

abbrev data_from : World → List Event → List ℕ
data_from w events = view_text (codes "0") (view w []) ++ all_told (begun w []).film (moments_from w [] events)

-- the data of a program's events from its load on; its name opens every word that they are computed with
unfoldable pub data_of : List ClassParts → List Event → List ℕ
unfolding digits encode_utf8 escape_text unit_text pair_text lone_text after_text step_text text_from element_line type_line return_line method_line reached reached_cells class_named chain is_subclass resolve_field resolve_method select select_special instance_fields size_of reach reach_cells loaded_world after reference_text value_text object_type_text place_text line_text stage_text frame_text kind_text static_text field_text object_text header_text heap_text monitor_text monitor_lines escaped_byte joined_byte delta line_of part_text change_text output_text head_text view
data_of program events = data_from (loaded_world program 65536) events

abbrev takes_two_away : ClassParts
takes_two_away = main (iconst small.Two ∷ pop ∷ return ∷ [])

-- the load, and the first step of its class's initialization
a_class_begins : data_of (takes_two_away ∷ []) (Step 1 ∷ [])
    ≡ codes "V0\n+w 1 1\tinit Main begin\t\n+w 1 0\tMain.main([Ljava/lang/String;)V:0\t\n+l 1 0\t0 = #1\t\n"
    ++ codes "+c java/lang/System\tout Ljava/io/PrintStream; = #0\t\n+h\treachable 2 objects 5 cells limit 65536\t\n"
    ++ codes "+#0\tjava/io/PrintStream 2 cells\t\n+#1\t[Ljava/lang/String; 3 cells\t\n"
    ++ codes "E1 done\n+w 1 1\tinit Main super\t\n"
unfolding data_of
a_class_begins = refl
