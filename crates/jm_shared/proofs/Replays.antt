-- Two machines that have come to one world.
use Rattle.std.proofs.Common.{◌≡◌, sym, ◌∙◌}
use Rattle.std.specs.Prelude.{Result, Ok, Err, IfOk, OnOk, MatchResult}
use Rattle.jm_world.specs.World.{World}
use Rattle.jm_state.specs.Parts.{parts}
use Rattle.jm_machine.specs.View.{MachineView, MatchesWorld}

pub same_output : {G H : Type 0} (a : MachineView G) (b : MachineView H) (w : World) → MatchesWorld a w → MatchesWorld b w → a.state.output ≡ b.state.output
unfolding parts
same_output a b w p q = p.output ∙ sym q.output

module _ {X E : Type 0} (P : X → Type 0) (Q : E → Type 0) where
  pub if_ok : (R : X → Type 0) (r : Result X E) → MatchResult r P Q → ((x : X) → P x → R x) → IfOk r R
  if_ok R (Ok x) m f = f x m
  if_ok R (Err e) m f = tt

  pub on_ok : (R : Type 0) (r : Result X E) → MatchResult r P Q → ((x : X) → P x → R) → OnOk r R
  on_ok R (Ok x) m f = f x m
  on_ok R (Err e) m f = tt
