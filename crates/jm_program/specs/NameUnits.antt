-- The code units of a name, wherever they stand.
use Rattle.std.specs.Prelude.{ℕ, List}
use Rattle.jm_program.specs.declared.name.Units.{Units}
use Rattle.jm_program.specs.declared.name.Units.TheVariants.{Own, Shared}

abbrev pub units_of : Units → List ℕ
units_of (Own units) = units.items
units_of (Shared units) = units
