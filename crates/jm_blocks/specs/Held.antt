-- Which objects a block holds.
use Rattle.std.specs.Prelude.{List, [], ◌∷◌}
use Rattle.jm_blocks.specs.Objects.{Object}

-- those of its contents, of which there is one or none
abbrev pub objects_held : List (List Object) → List Object
objects_held [] = []
objects_held (contents ∷ rest) = contents
