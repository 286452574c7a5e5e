-- Where a method's frame stands.
use Rattle.std.proofs.Common.{◌≡◌, ◌++◌, ℕ, Option, Some, List, ap}
use Rattle.jm_program.specs.declared.class.ClassParts.{ClassParts}
use Rattle.jm_program.specs.declared.class.Method.{Method}
use Rattle.jm_values.specs.Activation.{Activation}
use Rattle.jm_world.specs.Classes.{MethodName, method_named}
use Rattle.jm_world.specs.Frames.{method_frame}
use Rattle.jm_world.specs.Stepping.{instruction_in}
use Rattle.jm_debug.specs.Texts.{place_text, place_in, line_in, line_text, frame_text}

-- where its method is the one that the program has
pub method_place : (program : List ClassParts) (m : MethodName) (a : Activation) (monitor : Option ℕ) (method : Method) → method_named program m ≡ Some method
    → frame_text program (method_frame m a monitor) ≡ place_text (place_in m a.at) ++ line_text (line_in a.at (Some method))
unfolding frame_text
method_place program m a monitor method named = ap (λ o. place_text (place_in m a.at) ++ line_text (line_in a.at o)) named
