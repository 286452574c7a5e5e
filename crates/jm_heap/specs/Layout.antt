-- How an object lies in a slot.
use Rattle.std.specs.Prelude.{ℕ, List, [], ◌∷◌, Option, Some, None}
use Rattle.jm_values.specs.declared.value.Value.{Value}
use Rattle.jm_heap.specs.Slots.{Object}
use Rattle.jm_heap.specs.declared.class_id.ClassId.{ClassId}
use Rattle.jm_heap.specs.declared.class_id.ClassId.TheVariants as type
use Rattle.jm_heap.specs.declared.class_id.Element.{Element}
use Rattle.jm_heap.specs.declared.class_id.Element.TheVariants.{Base, Class}
use Rattle.jm_heap.specs.declared.form.Form.{Form}
use Rattle.jm_heap.specs.declared.form.Form.TheVariants.{Instance, BaseArray, ClassArray}
use Rattle.jm_heap.specs.declared.slot.State.{State}
use Rattle.jm_heap.specs.declared.slot.State.TheVariants.{Free}
use Rattle.jm_heap.specs.declared.slot.State.TheVariants as state
use Rattle.jm_heap.specs.declared.slot.Values.{Values}
use Rattle.jm_heap.specs.declared.slot.Values.TheVariants.{One, Many}

-- the type of a form, with the number of the class that it names
abbrev pub type_of_form : Form → ℕ → ClassId
type_of_form Instance number = type.Instance number
type_of_form (BaseArray dimensions base) number = type.Array (record { dimensions = dimensions; element = Base base })
type_of_form (ClassArray dimensions) number = type.Array (record { dimensions = dimensions; element = Class number })

abbrev pub element_number : Element → ℕ
element_number (Base base) = 0
element_number (Class number) = number

-- the number of the class that a type names, 0 for none
abbrev pub number_of : ClassId → ℕ
number_of (type.Instance number) = number
number_of (type.Array component) = element_number component.element

abbrev pub all_values : Values → List Value
all_values (One value) = value ∷ []
all_values (Many values) = values.items

-- what lies in a slot
abbrev pub object_in_state : State → Option Object
object_in_state (Free next) = None
object_in_state (state.One form number serial value) = Some (record { serial = serial; class = type_of_form form number; values = value ∷ [] })
object_in_state (state.Many form number serial values) = Some (record { serial = serial; class = type_of_form form number; values = values.items })
