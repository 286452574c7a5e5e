use Rattle.std.proofs.Common.{◌≡◌, take, length}
use Rattle.jm_builtins.proofs.text.name_of.Given as goal

-- as many units as bytes, of which those so far are the bytes
abbrev pub invariant-loop-index : goal.invariant-loop-index
invariant-loop-index l = (length l.units.items ≡ length l.bytes) × (take l.index l.units.items ≡ take l.index l.bytes)
