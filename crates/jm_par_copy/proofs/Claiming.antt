-- A copier that claims goes on: one step after another, and none.
use Rattle.std.proofs.Common.{◌≡◌, ◌∙◌, ℕ, List, refl, sym, ap, subst}
use Rattle.jm_blocks.specs.Stores.{Blocks}
use Rattle.jm_forward.specs.declared.rule.Hand.{Hand}
use Rattle.jm_forward.specs.Hands.{SeatView, TableView, knowing, winning}
use Rattle.jm_copy.specs.Copies.{Stays}
use Rattle.jm_copy.specs.declared.copies.Copies.{Copies}
use Rattle.jm_copy.proofs.Making.{stays_more, stays_refl}
use Rattle.jm_par_copy.specs.Claiming.{CanClaim, KeepsClaiming, LearnsMore}
use Rattle.jm_par_copy.specs.Strides.{Goes, IsNewOf, Opened, owner_of}
use Rattle.jm_par_copy.specs.declared.round.Own.{Own}
use Rattle.jm_par_copy.specs.Working.{IsNew, KnowsMore}
use Rattle.jm_par_copy.proofs.Strides.{ends_on, goes_on, goes_refl, new_before, opened_goes, opened_stays}
use Rattle.jm_par_copy.proofs.Working.{known_more, wins_more, wins_seen, wins_stay, wins_won}

pub claiming_refl : (a : Own) → KeepsClaiming a a
claiming_refl a = record { number = refl; stays = stays_refl a.to; goes = goes_refl a.seat.hand.copier a.seat.hand.copiers a.to; table = refl; copier = refl; copiers = refl }

pub claiming_more : (a b c : Own) → KeepsClaiming a b → KeepsClaiming b c → KeepsClaiming a c
claiming_more a b c f g = record {
  number = g.number ∙ f.number;
  stays = stays_more a.to b.to c.to f.stays g.stays;
  goes = goes_on a.seat.hand.copier a.seat.hand.copiers b.seat.hand.copier b.seat.hand.copiers a.to b.to c.to f.copier f.copiers f.stays f.goes g.goes;
  table = g.table ∙ f.table;
  copier = g.copier ∙ f.copier;
  copiers = g.copiers ∙ f.copiers;
}

-- what is new was new before
pub claiming_new : (a b : Own) (n : ℕ) → KeepsClaiming a b → IsNew b.seat.hand b.to n → IsNew a.seat.hand a.to n
claiming_new a b n f new = new_before a.seat.hand.copier a.seat.hand.copiers a.to b.to n f.stays f.goes (subst (λ x. IsNewOf x a.seat.hand.copiers b.to n) f.copier (subst (λ m. IsNewOf b.seat.hand.copier m b.to n) f.copiers new))

-- it can claim again
pub claims_still : (stores : List Blocks) (words : TableView) (a b : Own) → KeepsClaiming a b → CanClaim stores words a → CanClaim stores words b
claims_still stores words a b f g = record {
  table = f.table ∙ g.table;
  objects = g.objects;
  copiers = f.copiers ∙ g.copiers;
  ends = ends_on a.seat.hand.copier a.seat.hand.copiers b.seat.hand.copier b.seat.hand.copiers a.to b.to f.copier f.copiers f.goes g.ends;
}

-- its hand is another, of the same copier of as many
pub claiming_by : (a b : Own) → b.number ≡ a.number → b.seat.table ≡ a.seat.table → LearnsMore a.seat.hand b.seat.hand → Stays a.to b.to → Goes a.seat.hand.copier a.seat.hand.copiers a.to b.to → KeepsClaiming a b
claiming_by a b number table learns stays goes = record { number = number; stays = stays; goes = goes; table = table; copier = learns.wins.copier; copiers = learns.wins.copiers }

-- the same with other stores
abbrev pub with_stores : Own → Copies → Own
with_stores a d = record { number = a.number; claims = a.claims; seat = a.seat; to = d }

-- or with another seat
abbrev pub with_seat : Own → SeatView → Own
with_seat a s = record { number = a.number; claims = a.claims; seat = s; to = a.to }

-- blocks are opened
pub claiming_opened : (n : ℕ) (a : Own) (d : Copies) → n ≡ a.seat.hand.copiers → Opened n a.to d → KeepsClaiming a (with_stores a d)
claiming_opened n a d many o = record {
  number = refl;
  stays = opened_stays n a.to d o;
  goes = subst (λ k. Goes a.seat.hand.copier k a.to d) many (opened_goes n a.to d o a.seat.hand.copier);
  table = refl;
  copier = refl;
  copiers = refl;
}

pub learns_refl : (h : Hand) → LearnsMore h h
learns_refl h = record { knows = λ i n k. k; wins = wins_stay h }

pub learns_more : (h h' h'' : Hand) → LearnsMore h h' → LearnsMore h' h'' → LearnsMore h h''
learns_more h h' h'' f g = record { knows = λ i n k. g.knows i n (f.knows i n k); wins = wins_more h h' h'' f.wins g.wins }

-- a place is seen, or won
pub learns_seen : (h h' : Hand) (i q : ℕ) → h' ≡ knowing h i q → LearnsMore h h'
learns_seen h h' i q e = record { knows = subst (λ k. KnowsMore h k) (sym e) (known_more h i q); wins = wins_seen h h' i q e }

pub learns_won : (h h' : Hand) (i q : ℕ) → h' ≡ winning h i q → owner_of h.copiers q ≡ h.copier → LearnsMore h h'
learns_won h h' i q e own = record { knows = subst (λ k. KnowsMore h k) (sym e) (known_more h i q); wins = wins_won h h' i q e own }

-- the same seat
pub seat_same : (s t : SeatView) → t.table ≡ s.table → t.hand ≡ s.hand → t ≡ s
seat_same s t e f = ap (λ k. record { table = k; hand = t.hand }) e ∙ ap (λ h. record { table = s.table; hand = h }) f
