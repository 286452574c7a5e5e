-- Where a thread stands, behind a blank.
use Rattle.std.proofs.Common.{◌≡◌, ℕ, List, ◌++◌, Option, Some, sym, ap, ◌∙◌, append_assoc}
use Rattle.std.specs.Prelude.{codes}
use Rattle.jm_world.specs.Frames.{Frame}
use Rattle.jm_world.specs.World.{World}
use Rattle.jm_debug.specs.Texts.{frame_text}
use Rattle.jm_trace.specs.Doings.{standing_text}
use Rattle.jm_trace.specs.EventLines.{place_part, standing_part}

pub placed : (w : World) (top : Option Frame) (f : Frame) (out pushed : List ℕ) → top ≡ Some f → pushed ≡ out ++ codes " " → pushed ++ frame_text w.program f ≡ out ++ place_part w top
placed w top f out pushed is blank =
    ap (λ t. t ++ frame_text w.program f) blank ∙ append_assoc out (codes " ") (frame_text w.program f) ∙ ap (λ o. out ++ place_part w o) (sym is)

pub stands : (w : World) (top : Option Frame) (f : Frame) (out pushed : List ℕ) → top ≡ Some f → pushed ≡ out ++ codes " " → pushed ++ standing_text w.program f ≡ out ++ standing_part w top
stands w top f out pushed is blank =
    ap (λ t. t ++ standing_text w.program f) blank ∙ append_assoc out (codes " ") (standing_text w.program f) ∙ ap (λ o. out ++ standing_part w o) (sym is)
