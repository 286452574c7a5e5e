-- The machine with which a run begins.
use Rattle.std.proofs.Common.{◌≡◌, ℕ, List, refl, sym, ap, subst, ◌∙◌}
use Rattle.jm_program.specs.declared.class.ClassParts.{ClassParts}
use Rattle.jm_values.specs.Content.{IsSound}
use Rattle.jm_world.specs.Loading.{loaded_world}
use Rattle.jm_world.specs.World.{World}
use Rattle.jm_state.specs.Parts.{parts}
use Rattle.jm_machine.specs.View.{MachineView, MatchesWorld}
use Rattle.jm_premises.specs.Beginning.{beginning}

-- a loaded world has its program and its limit
program_of : (program : List ClassParts) (limit : ℕ) → (loaded_world program limit).program ≡ program
unfolding loaded_world
program_of program limit = refl

limit_of : (program : List ClassParts) (limit : ℕ) → (loaded_world program limit).limit ≡ limit
unfolding loaded_world
limit_of program limit = refl

-- and so has the machine that matches it
same_program : {H : Type 0} (m : MachineView H) (program : List ClassParts) (limit : ℕ) → MatchesWorld m (loaded_world program limit) → m.linked.program ≡ program
unfolding parts
same_program m program limit h = h.program ∙ program_of program limit

same_limit : {H : Type 0} (m : MachineView H) (program : List ClassParts) (limit : ℕ) → MatchesWorld m (loaded_world program limit) → m.content.limit ≡ limit
unfolding parts
same_limit m program limit h = h.limit ∙ limit_of program limit

pub begins : {H : Type 0} (m : MachineView H) (program : List ClassParts) (limit : ℕ) → MatchesWorld m (loaded_world program limit) → MatchesWorld m (beginning m)
begins m program limit h =
    let same : loaded_world program limit ≡ beginning m = ap (λ p. loaded_world p limit) (sym (same_program m program limit h)) ∙ ap (loaded_world m.linked.program) (sym (same_limit m program limit h)) in
    subst (MatchesWorld m) same h

-- the heap of a machine is sound
pub is_sound : {H : Type 0} (m : MachineView H) (w : World) → MatchesWorld m w → IsSound m.content
unfolding parts
is_sound m w h = h.sound
