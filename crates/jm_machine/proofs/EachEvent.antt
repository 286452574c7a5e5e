-- Events of a machine one after the other: one event more.
use Rattle.std.proofs.Common.{ℕ, zero, suc, ◌+◌, ◌<◌, List, [], ◌∷◌, refl, sym, subst, length, take, get_or, arith, add-one}
use Rattle.jm_world.specs.declared.event.Event.{Event}
use Rattle.jm_machine.specs.Collected.{Word}
use Rattle.jm_machine.specs.EachEvent.{MakesOne, MakesEach}
use Rattle.jm_machine.specs.View.{MachineView}

module _ {H : Type 0} (leaves : Word H) (lies : ℕ → Type 0) where
  each_more : (events : List Event) (i : ℕ) (d : Event) (old mid new : MachineView H) → i < length events → MakesEach leaves lies (take i events) old mid
      → MakesOne leaves lies (get_or events i d) mid new → MakesEach leaves lies (take (suc i) events) old new
  each_more [] i d old mid new h before one = absurd (omega arith)
  each_more (x ∷ xs) zero d old mid new h same one = (new, subst (λ m. MakesOne leaves lies x m new) same one, refl)
  each_more (x ∷ xs) (suc i) d old mid new h before one = (before.0, before.1, each_more xs i d before.0 mid new (omega arith) before.2 one)

  pub one_more : (events : List Event) (i : ℕ) (d : Event) (old mid new : MachineView H) → i < length events → MakesEach leaves lies (take i events) old mid
      → MakesOne leaves lies (get_or events i d) mid new → MakesEach leaves lies (take (i + 1) events) old new
  one_more events i d old mid new h before one =
      subst (λ n. MakesEach leaves lies (take n events) old new) (sym (add-one i)) (each_more events i d old mid new h before one)
