-- What a block keeps of an object: its header, and where its values lie in the list of their kind.
use Rattle.std.specs.Prelude.{ℕ}
use Rattle.jm_blocks.specs.declared.header.Header.{Header}

pub record Entry : Type 0 where
  pub header : Header
  pub start : ℕ
  pub length : ℕ

-- the entry of a copy, of that age, whose values begin elsewhere
abbrev pub copied : Entry → ℕ → ℕ → Entry
copied e age start = record { header = record { serial = e.header.serial; class = e.header.class; age = age }; start = start; length = e.length }
