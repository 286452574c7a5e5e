-- By the model's number, and by the list.
use Rattle.std.proofs.Common.{◌≡◌, ◌∙◌, ℕ, Option, Some, None, sym, ap}
use Rattle.std.specs.Prelude.{option_map}
use Rattle.jm_world.specs.Fields.{name_of_field}
use Rattle.jm_world.specs.Objects.{place_of_field}
use Rattle.jm_tables.specs.declared.layout.FieldSlot.TheVariants.{Static}
use Rattle.jm_tables.specs.Layouts.{static_fields}
use Rattle.jm_tables.proofs.laws.statics_by_number.Goals as goal

number_of : (o : Option ℕ) (n : ℕ) → option_map Static o ≡ Some (Static n) → o ≡ Some n
number_of None n h = cc
number_of (Some k) n h = let same : Some (Static k) ≡ Some (Static n) = h in let number : k ≡ n = cc in ap Some number

pub returns : goal.returns
returns c = λ program names layout class field n found is at static. (
  λ place. (is.listed class field n).0 (is.numbers class field found at static ∙ ap (option_map Static) place),
  λ listed. number_of (place_of_field (static_fields program) (name_of_field found)) n
      (sym (is.numbers class field found at static) ∙ (is.listed class field n).1 listed),
)
