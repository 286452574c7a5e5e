-- The instance fields of a program's classes, by number.
use Rattle.std.specs.Prelude.{◌≡◌, ℕ, List, Some, not}
use Rattle.std.specs.List.{filter}
use Rattle.jm_program.specs.Flags.{is_static}
use Rattle.jm_program.specs.declared.class.ClassParts.{ClassParts}
use Rattle.jm_program.specs.declared.class.Field.{Field}
use Rattle.jm_linked.specs.Links.{class_numbered}
use Rattle.jm_machine.specs.declared.instance_fields.ClassFields.{ClassFields}

-- those among fields that are not static
abbrev pub not_static : List Field → List Field
not_static fs = filter (λ f. not (is_static f.flags)) fs

-- the fields are those that the class of a number declares
pub record AreFieldsOf (program : List ClassParts) (class : ℕ) (d : ClassFields) : Type 0 where
  pub declaring : ClassParts
  pub numbered : class_numbered program class ≡ Some declaring
  pub name : d.class.now ≡ declaring.name
  pub fields : d.fields.now ≡ declaring.fields
