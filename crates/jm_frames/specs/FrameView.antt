-- A frame as contracts see it (JVMS 2.6).
use Rattle.std.specs.Prelude.{ℕ, List, Option}
use Rattle.jm_values.specs.Activation.{Activation}
use Rattle.jm_values.specs.declared.value.Value.{Value}

-- the number of the method, the place of the object whose monitor a synchronized method entered,
-- and what the instructions touch
pub record FrameView : Type 0 where
  pub method : ℕ
  pub monitor : Option ℕ
  pub activation : Activation

-- the frame with other operands
abbrev pub with_stack : FrameView → List Value → FrameView
with_stack f s = record {
  method = f.method;
  monitor = f.monitor;
  activation = record { at = f.activation.at; max_stack = f.activation.max_stack; locals = f.activation.locals; stack = s };
}

-- the frame with other local variables
abbrev pub with_locals_of : FrameView → List (Option Value) → FrameView
with_locals_of f locals = record {
  method = f.method;
  monitor = f.monitor;
  activation = record { at = f.activation.at; max_stack = f.activation.max_stack; locals = locals; stack = f.activation.stack };
}

-- the frame at another instruction
abbrev pub gone_to : FrameView → ℕ → FrameView
gone_to f at = record {
  method = f.method;
  monitor = f.monitor;
  activation = record { at = at; max_stack = f.activation.max_stack; locals = f.activation.locals; stack = f.activation.stack };
}
