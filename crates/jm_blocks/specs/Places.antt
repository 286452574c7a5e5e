-- A place as a number: the lane and number of a block, and the number of an object in it.
use Rattle.std.specs.Prelude.{ℕ, ◌+◌, ◌*◌, ◌/◌, ◌%◌}

abbrev pub place_at : ℕ → ℕ → ℕ → ℕ
place_at lane block index = (block * 64 + lane) * 256 + index

-- the parts of a place
abbrev pub lane_of : ℕ → ℕ
lane_of p = p / 256 % 64

abbrev pub block_of : ℕ → ℕ
block_of p = p / 16384

abbrev pub index_of : ℕ → ℕ
index_of p = p % 256
