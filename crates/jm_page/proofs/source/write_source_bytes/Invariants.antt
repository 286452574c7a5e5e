-- What was written, and what is left to be written.
use Rattle.std.proofs.Common.{◌≡◌, ◌++◌, drop}
use Rattle.std.specs.List.{flat_map}
use Rattle.jm_page.specs.Listings.{source_byte}
use Rattle.jm_page.proofs.source.write_source_bytes.Given as goal

abbrev pub invariant-loop-byte : goal.invariant-loop-byte
invariant-loop-byte l = l.out.items ++ flat_map source_byte (drop l.byte-index l.text) ≡ l.initial.out.items ++ flat_map source_byte l.text
