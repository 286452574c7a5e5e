-- Static fields, and values that are pushed, as the machine finds them.
use Rattle.std.specs.Prelude.{◌≡◌, ◌<◌, Some, Result, Ok, Err, drop, vec_len}
use Rattle.jm_values.specs.Content.{Content, name_of}
use Rattle.jm_values.specs.Rename.{rename}
use Rattle.jm_values.specs.declared.value.Value.{Value}
use Rattle.jm_world.specs.Here.{Here, push, go_on_in}
use Rattle.jm_world.specs.Next.{Next}
use Rattle.jm_world.specs.Objects.{FieldName, place_of_field}
use Rattle.jm_world.specs.World.{set_static_in}
use Rattle.jm_tables.specs.Layouts.{static_fields}
use Rattle.jm_heap.specs.declared.class_id.ClassId.{ClassId}
use Rattle.jm_state.specs.declared.state.State.{State}
use Rattle.jm_interp.specs.declared.at.At.{At}
use Rattle.jm_interp.specs.declared.static_fields.NewStatic.{NewStatic}
use Rattle.jm_interp.specs.declared.top_object.Refusal.{Refusal}
use Rattle.jm_interp.specs.At.{Holds}
use Rattle.jm_interp.specs.TopObject.{StepIs, IsRefused}

-- the row pushes a value that the machine holds
pub record PushesHeld {H : Type 0} (content : H → Content ClassId) (at : At) (s : State H) (v : Value) : Type 0 where
  pub step : StepIs content at s (λ here. push here (rename (name_of (content s.heap)) v) here.frame.stack)
  pub held : Holds content at s v

-- the model's row: the value goes into a static field, the operand on top is dropped, and it goes on
abbrev pub puts_static : FieldName → Value → Here → Next
puts_static field v here =
    go_on_in here (record here.world { statics = set_static_in here.world.statics field v }) (drop 1 here.frame.stack)

-- the row puts a value that the machine holds into a static field, and drops the operand on top
pub record PutsHeld {H : Type 0} (content : H → Content ClassId) (at : At) (s : State H) (new : NewStatic) : Type 0 where
  pub field : FieldName
  pub place : place_of_field (static_fields at.linked.now.program) field ≡ Some new.number
  pub within : new.number < vec_len s.statics
  pub step : StepIs content at s (puts_static field (rename (name_of (content s.heap)) new.value))
  pub held : Holds content at s new.value

-- what the row comes to: a value in a static field, or it is refused
abbrev pub PutsTo : {H : Type 0} → (H → Content ClassId) → At → State H → Result NewStatic Refusal → Type 0
PutsTo content at s (Ok new) = PutsHeld content at s new
PutsTo content at s (Err refusal) = IsRefused content at s refusal
