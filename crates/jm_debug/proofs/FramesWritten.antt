-- The line of a frame.
use Rattle.std.proofs.Common.{◌≡◌, ◌++◌, ℕ, List, Option, Some, ap, ◌∙◌}
use Rattle.std.specs.Prelude.{codes}
use Rattle.std.specs.List.{flat_map}
use Rattle.std.specs.Fmt.{decimal}
use Rattle.jm_program.specs.declared.class.ClassParts.{ClassParts}
use Rattle.jm_program.specs.declared.class.Method.{Method}
use Rattle.jm_values.specs.Activation.{Activation}
use Rattle.jm_world.specs.Classes.{MethodName, method_named}
use Rattle.jm_world.specs.Frames.{method_frame}
use Rattle.jm_debug.specs.Texts.{place_text, place_in, line_in, line_text, frame_text}
use Rattle.jm_debug.specs.Views.{frame_lines}
use Rattle.jm_debug.specs.Session.{ended}
use Rattle.jm_debug.proofs.Written.{one_line}

-- a method's frame, where its method is the one that the program has
pub method_line : (program : List ClassParts) (depth : ℕ) (m : MethodName) (a : Activation) (monitor : Option ℕ) (method : Method) → method_named program m ≡ Some method
    → flat_map ended (frame_lines program depth (method_frame m a monitor))
    ≡ (decimal depth ++ codes " " ++ (place_text (place_in m a.at) ++ line_text (line_in a.at (Some method)))) ++ codes "\n"
unfolding frame_text
method_line program depth m a monitor method named =
    one_line (decimal depth ++ codes " " ++ (place_text (place_in m a.at) ++ line_text (line_in a.at (method_named program m))))
    ∙ ap (λ o. (decimal depth ++ codes " " ++ (place_text (place_in m a.at) ++ line_text (line_in a.at o))) ++ codes "\n") named
