-- What contracts see of a method's frame that is read.
use Rattle.std.specs.Prelude.{ℕ, Option}
use Rattle.jm_program.specs.declared.class.ClassParts.{ClassParts}
use Rattle.jm_program.specs.declared.class.Method.{Method}
use Rattle.jm_values.specs.Activation.{Activation}

-- the class and its method, what the instructions touch, and the monitor's object: references are
-- numbers of objects
pub record MethodFrameView : Type 0 where
  pub class : ClassParts
  pub method : Method
  pub activation : Activation
  pub monitor : Option ℕ
