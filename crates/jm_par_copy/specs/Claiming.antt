-- What a copier needs to claim objects, and what of it goes on while it does.
use Rattle.std.specs.Prelude.{◌≡◌, List}
use Rattle.jm_blocks.specs.Stores.{Blocks}
use Rattle.jm_forward.specs.declared.rule.Hand.{Hand}
use Rattle.jm_forward.specs.Hands.{TableView}
use Rattle.jm_copy.specs.Numbers.{object_count}
use Rattle.jm_copy.specs.Copies.{Stays}
use Rattle.jm_par_copy.specs.Strides.{Goes, OwnsEnds}
use Rattle.jm_par_copy.specs.Working.{KnowsMore, WinsMore}
use Rattle.jm_par_copy.specs.declared.round.Own.{Own}

-- a copier can claim: its seat is one of the table of words, where each condemned object has a word, and its two stores
-- end in blocks of its own
pub record CanClaim (stores : List Blocks) (words : TableView) (a : Own) : Type 0 where
  pub table : a.seat.table ≡ words.table
  pub objects : words.objects ≡ object_count stores
  pub copiers : a.seat.hand.copiers ≡ words.copiers
  pub ends : OwnsEnds a.seat.hand.copier a.seat.hand.copiers a.to

-- that goes on, also where a growth was refused: the number is the same, the seat is still one of that table, of the same
-- copier of as many; what lay in its stores stays there, and what was made lies in its own blocks
pub record KeepsClaiming (a b : Own) : Type 0 where
  pub number : b.number ≡ a.number
  pub stays : Stays a.to b.to
  pub goes : Goes a.seat.hand.copier a.seat.hand.copiers a.to b.to
  pub table : b.seat.table ≡ a.seat.table
  pub copier : b.seat.hand.copier ≡ a.seat.hand.copier
  pub copiers : b.seat.hand.copiers ≡ a.seat.hand.copiers

-- where no growth was refused: the copier knows what it knew, and has won what it had, and maybe more
pub record LearnsMore (h h' : Hand) : Type 0 where
  pub knows : KnowsMore h h'
  pub wins : WinsMore h h'
