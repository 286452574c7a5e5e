-- The entries so far are those of both.
use Rattle.std.proofs.Common.{◌≡◌, ℕ, ◌-◌, ◌<◌, length, get_or}
use Rattle.jm_tables.specs.Nodes.{IsThere, IsLonger, found_from, or_entry}
use Rattle.jm_tables.proofs.node.+merge.Given as goal

abbrev pub decreases-merge : goal.decreases-merge
decreases-merge l = l.levels

abbrev pub invariant-loop-digit : goal.invariant-loop-digit
invariant-loop-digit l =
    IsLonger l.fn.nodes.items l.nodes.items
    × ((d : ℕ) → d < l.digit → IsThere l.nodes.items (l.levels - 1) (get_or l.both d 0))
    × ((d : ℕ) → d < l.digit → (k : ℕ)
    → found_from l.nodes.items (l.levels - 1) (get_or l.both d 0) k ≡ or_entry (found_from l.fn.nodes.items (l.levels - 1) (get_or l.above d 0) k)
    (found_from l.fn.nodes.items (l.levels - 1) (get_or l.below d 0) k))
    × (length l.both ≡ 16)
