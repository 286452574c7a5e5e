use Rattle.std.proofs.Common.{◌≡◌, length}
use Rattle.jm_par_copy.specs.Copiers.{AreCopying, KeepPlaced, KeepSeats}
use Rattle.jm_par_copy.proofs.jointly.scan_all_large.Given as goal

abbrev pub invariant-loop-number : goal.invariant-loop-number
invariant-loop-number g l = record {
  copying : AreCopying l.round.from.stores.now l.round.from.roots.now l.round.words.now l.copiers.items l.aside.items;
  placed : KeepPlaced l.fn.copiers.items l.copiers.items l.fn.aside.items l.aside.items;
  many : length l.aside.items ≡ l.count;
  seats : KeepSeats l.fn.copiers.items l.copiers.items;
}
