-- The roots of one copier: of n copiers the one of number x takes the positions x, x + n, x + 2 * n ..
use Rattle.std.specs.Prelude.{◌≡◌, ℕ, ◌+◌, ◌*◌, ◌≤◌, List, [], Some, true, false, length, slice_get}
use Rattle.jm_blocks.specs.Stores.{Blocks}
use Rattle.jm_copy.specs.Copying.{Forwarded}
use Rattle.jm_copy.specs.Condemned.{objects_at}
use Rattle.jm_par_copy.specs.Working.{Pairs}
use Rattle.jm_par_copy.specs.declared.copier.Copier.{Copier}

-- the places are those that the roots of these positions became, as many as there are
pub record AreRootsOf (stores : List Blocks) (roots : List ℕ) (known : List (ℕ × ℕ)) (x n : ℕ) (places : List ℕ) : Type 0 where
  pub each : (j p q : ℕ) → slice_get roots (x + n * j) ≡ Some p → slice_get places j ≡ Some q → Forwarded (objects_at stores) (Pairs stores known) p q
  pub all : length roots ≤ x + n * length places

-- the copier has the new places of its roots
abbrev pub IsRooted : List Blocks → List ℕ → Copier → Type 0
IsRooted stores roots c = AreRootsOf stores roots c.own.seat.hand.known c.own.number c.own.seat.hand.copiers c.roots.items

-- a copier has the new places of none of its roots, or of all
pub record RootsStand (stores : List Blocks) (roots : List ℕ) (c : Copier) : Type 0 where
  pub none : c.rooted ≡ false → c.roots.items ≡ []
  pub all : c.rooted ≡ true → IsRooted stores roots c
