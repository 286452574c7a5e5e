-- The collector of a job's heap.
use Rattle.std.specs.Prelude.{◌≡◌, ◌<◌, ℕ}
use Rattle.jm_execute.specs.declared.copiers.JobCollector.{JobCollector}
use Rattle.jm_execute.specs.declared.copiers.JobCollector.TheVariants.{OneCopier, SideBySide}

-- one copier collects by itself, and so many side by side where they are more
abbrev pub IsCollectorOf : {R : Type 0} → ℕ → JobCollector R → Type 0
IsCollectorOf copiers OneCopier = copiers ≡ 1
IsCollectorOf copiers (SideBySide several) = (several ≡ copiers) × (1 < copiers)
