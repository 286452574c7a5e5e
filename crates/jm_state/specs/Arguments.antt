-- The arguments of a call among the operands of the caller (JVMS 2.6.1, 6.5 invokevirtual).
use Rattle.std.specs.Prelude.{ℕ, List, [], ◌∷◌, Result, Ok, Err, true, false, take, reverse}
use Rattle.jm_program.specs.declared.instruction.operation.OperandType.{OperandType}
use Rattle.jm_frames.specs.FrameView.{FrameView}
use Rattle.jm_values.specs.Steps.{is_of}
use Rattle.jm_values.specs.declared.fault.TagFault.{TagFault}
use Rattle.jm_values.specs.declared.fault.TagFault.TheVariants.{Underflow, WrongTag}
use Rattle.jm_values.specs.declared.value.Value.{Value}
use Rattle.jm_world.specs.Invocation.{padded, locals_of}
use Rattle.jm_world.specs.Next.{Next, faults}
use Rattle.jm_state.specs.declared.arguments.Callee.{Callee}

-- the operands popped for parameters of these types, the last one first: they stand before those that
-- were popped already, and below is what is left; or the first operand that is none of its type
abbrev pub popped : List OperandType → List Value → List Value → Result (List Value × List Value) TagFault
popped [] arguments s = Ok (arguments, s)
popped (t ∷ ts) arguments [] = Err Underflow
popped (t ∷ ts) arguments (v ∷ s) = elim (is_of t v) [ true ↦ popped ts (v ∷ arguments) s | false ↦ Err WrongTag ]

-- what a rule makes of them
abbrev pub with_popped : Result (List Value × List Value) TagFault → (List Value → List Value → Next) → Next
with_popped (Ok p) go = go p.0 p.1
with_popped (Err fault) go = faults fault

-- so many operands from the top, in the order in which they were pushed
abbrev pub on_top : ℕ → List Value → List Value
on_top count s = reverse (take count s)

-- the frame in which a method begins with these arguments
abbrev pub beginning : Callee → List Value → FrameView
beginning c arguments = record {
  method = c.method;
  monitor = c.monitor;
  activation = record { at = 0; max_stack = c.max_stack; locals = padded c.max_locals (locals_of arguments); stack = [] };
}
