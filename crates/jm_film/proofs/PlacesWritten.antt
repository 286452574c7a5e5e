-- The line of where a method's frame stands.
use Rattle.std.proofs.Common.{◌≡◌, ◌++◌, ℕ, Option, Some, List, ap, ◌∙◌}
use Rattle.std.specs.Prelude.{codes}
use Rattle.std.specs.List.{flat_map}
use Rattle.jm_program.specs.declared.class.ClassParts.{ClassParts}
use Rattle.jm_program.specs.declared.class.Method.{Method}
use Rattle.jm_values.specs.Activation.{Activation}
use Rattle.jm_world.specs.Classes.{MethodName, method_named}
use Rattle.jm_world.specs.Frames.{method_frame}
use Rattle.jm_debug.specs.Texts.{place_text, place_in, line_in, line_text, frame_text}
use Rattle.jm_debug.specs.Session.{ended}
use Rattle.jm_debug.proofs.Written.{one_line}
use Rattle.jm_film.specs.Shown.{place_lines}

-- where its method is the one that the program has
pub method_place : (program : List ClassParts) (m : MethodName) (a : Activation) (monitor : Option ℕ) (method : Method) → method_named program m ≡ Some method
    → flat_map ended (place_lines program (method_frame m a monitor)) ≡ (place_text (place_in m a.at) ++ line_text (line_in a.at (Some method))) ++ codes "\n"
unfolding frame_text
method_place program m a monitor method named =
    one_line (place_text (place_in m a.at) ++ line_text (line_in a.at (method_named program m)))
    ∙ ap (λ o. (place_text (place_in m a.at) ++ line_text (line_in a.at o)) ++ codes "\n") named
