-- main, by its name and type (JVMS 5.2).
use Rattle.std.specs.Prelude.{Bool, ◌&&◌, codes}
use Rattle.jm_program.specs.Names.{same_text}
use Rattle.jm_program.specs.declared.class.Method.{Method}
use Rattle.jm_world.specs.Loading.{main_type}
use Rattle.jm_world.specs.Types.{same_method_type}

abbrev pub is_main_method : Method → Bool
is_main_method m = same_text m.name (codes "main") && same_method_type m.descriptor main_type
