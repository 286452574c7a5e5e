-- The lines so far.
use Rattle.std.proofs.Common.{◌≡◌, take}
use Rattle.std.specs.String.{string_bytes}
use Rattle.jm.specs.Listing.{listed}
use Rattle.jm.proofs.listing.listed.Given as goal

abbrev pub invariant-loop-file : goal.invariant-loop-file
invariant-loop-file l = string_bytes l.text ≡ listed (take l.file-index l.files)
