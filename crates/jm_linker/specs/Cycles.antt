-- A class above itself.
use Rattle.std.specs.Prelude.{List, Some, Bool}
use Rattle.jm_program.specs.declared.class.ClassParts.{ClassParts}
use Rattle.jm_world.specs.Classes.{height}
use Rattle.jm_world.specs.Hierarchy.{parents, holds_of_any, is_below}

abbrev pub is_above_itself : List ClassParts → ClassParts → Bool
is_above_itself program c = holds_of_any (λ parent. is_below (height program) program parent c.name) (parents (Some c))
