-- Two texts, one behind the other.
use Rattle.std.proofs.Common.{◌≡◌, ℕ, List, ◌++◌, ap, ◌∙◌, append_assoc}
use Rattle.std.specs.Prelude.{codes}
use Rattle.std.specs.Fmt.{decimal}
use Rattle.jm_values.specs.declared.value.Value.{Value}
use Rattle.jm_world.specs.Monitors.{monitor_in}
use Rattle.jm_world.specs.World.{World}
use Rattle.jm_debug.specs.Texts.{value_text}
use Rattle.jm_why.specs.Waits.{awaited_text, owner_text}

pub awaited : (w : World) (k : ℕ) (out pushed : List ℕ) → pushed ≡ out ++ (codes ", waits for #" ++ decimal k) → pushed ++ owner_text (monitor_in w.monitors k) ≡ out ++ awaited_text w k
unfolding awaited_text
awaited w k out pushed is =
    ap (λ t. t ++ owner_text (monitor_in w.monitors k)) is ∙ append_assoc out (codes ", waits for #" ++ decimal k) (owner_text (monitor_in w.monitors k))
    ∙ ap (λ t. out ++ t) (append_assoc (codes ", waits for #") (decimal k) (owner_text (monitor_in w.monitors k)))
