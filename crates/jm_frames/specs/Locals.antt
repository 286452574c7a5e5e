-- What a local variable holds (JVMS 2.6.1), by what is kept of it.
use Rattle.std.specs.Prelude.{Option, Some, None}
use Rattle.jm_values.specs.declared.value.Value.{Value}
use Rattle.jm_values.specs.declared.value.Value.TheVariants as value
use Rattle.jm_frames.specs.declared.local.Kept.{Kept}
use Rattle.jm_frames.specs.declared.local.Kept.TheVariants as Kept

abbrev pub kept_of : Kept → Option Value
kept_of Kept.Unset = None
kept_of (Kept.Int n) = Some (value.Int n)
kept_of (Kept.Long n) = Some (value.Long n)
kept_of Kept.Null = Some value.Null
kept_of (Kept.Reference p) = Some (value.Ref p)
