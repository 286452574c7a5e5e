-- The frame of a method that is called (JVMS 2.6).
use Rattle.std.specs.Prelude.{ℕ, ◌-◌, List, [], ◌∷◌, ◌++◌, Option, Some, None, length, replicate, reverse, take}
use Rattle.jm_values.specs.Activation.{category}
use Rattle.jm_values.specs.declared.value.Value.{Value}
use Rattle.jm_frames.specs.FrameView.{FrameView}

-- the local variables of arguments: a long takes two, of which the second is not set (JVMS 2.6.1)
abbrev pub argument_locals : Value → List (Option Value)
argument_locals v = Some v ∷ replicate (category v - 1) None

abbrev pub locals_of : List Value → List (Option Value)
locals_of [] = []
locals_of (v ∷ vs) = argument_locals v ++ locals_of vs

-- so many operands from the top, in the order in which they were pushed
abbrev pub arguments_on : ℕ → List Value → List Value
arguments_on count s = reverse (take count s)

-- the frame in which a method begins with these arguments
abbrev pub called : ℕ → ℕ → ℕ → List Value → FrameView
called method max_stack max_locals arguments = record {
  method = method;
  monitor = None;
  activation = record {
    at = 0;
    max_stack = max_stack;
    locals = locals_of arguments ++ replicate (max_locals - length (locals_of arguments)) None;
    stack = [];
  };
}
