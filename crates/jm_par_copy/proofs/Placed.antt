-- Where the objects lie that copiers fill in, no step changes.
use Rattle.std.proofs.Common.{◌≡◌, ◌⊎◌, ℕ, ◌<◌, ◌≤◌, ◌%◌, List, [], ◌∷◌, Option, Some, None, true, false, sym, ap, ◌∙◌, subst, inl, inr, length, arith}
use Rattle.std.proofs.lemmas.Bool.{lt-ltb, cases_lt}
use Rattle.jm_blocks.specs.Places.{block_of, lane_of}
use Rattle.jm_blocks.specs.Stores.{Blocks, objects_in}
use Rattle.jm_forward.specs.declared.rule.Hand.{Hand}
use Rattle.jm_forward.specs.Hands.{SeatView, TableView, all_known, all_wins}
use Rattle.jm_copy.specs.Copies.{HasMade, is_above}
use Rattle.jm_copy.specs.declared.copies.Copies.{Copies}
use Rattle.jm_par_copy.specs.Copiers.{AllFill, AreBack, ArePlaced, AreSeated, BackKeepsPlaced, IsBack, IsFilling, IsFreeBlock, IsFrom, IsPlaced, IsSeated, KeepPlaced, KeepsSeat, RoundKeepsPlaced, all_pieces, contents, hands, share}
use Rattle.jm_par_copy.specs.Dealing.{AreSameCopiers, DealKeepsPlaced, IsSameCopier}
use Rattle.jm_par_copy.specs.Giving.{IsBeyond, IsOwnBlock}
use Rattle.jm_par_copy.specs.Holding.{IsInOne}
use Rattle.jm_par_copy.specs.Round.{AreRound}
use Rattle.jm_par_copy.specs.Strides.{IsNewOf, owner_of}
use Rattle.jm_par_copy.specs.Together.{of_share}
use Rattle.jm_par_copy.specs.Working.{IsNew}
use Rattle.jm_par_copy.specs.declared.piece.Piece.{Piece}
use Rattle.jm_par_copy.specs.declared.copier.Copier.{Copier}
use Rattle.jm_par_copy.proofs.Copiers.{AllBegin, AreDone, FromOwn, HoldsBy, all_begin, back_all, begin_of, step_all, where_from}
use Rattle.jm_par_copy.proofs.Listing.{Has}
use Rattle.jm_par_copy.proofs.Reordering.{covers_one, one_covers}

-- the copier keeps its lanes and the objects from before, and the old store gets no shorter
record IsLonger (c d : Copier) : Type 0 where
  seat : KeepsSeat c d
  longer : length c.own.to.tenured.lists ≤ length d.own.to.tenured.lists
  below : (n : ℕ) → is_above c.own.to.kept n ≡ false → objects_in d.own.to.tenured n ≡ objects_in c.own.to.tenured n

abbrev AreLonger : List Copier → List Copier → Type 0
AreLonger [] [] = Unit {0}
AreLonger [] (d ∷ ds) = ⊥
AreLonger (c ∷ cs) [] = ⊥
AreLonger (c ∷ cs) (d ∷ ds) = IsLonger c d × AreLonger cs ds

round_longer : (stores : List Blocks) (roots : List ℕ) (cs ds : List Copier) → AreRound stores roots cs ds → AreLonger cs ds
round_longer stores roots [] [] r = tt
round_longer stores roots [] (d ∷ ds) r = absurd r
round_longer stores roots (c ∷ cs) [] r = absurd r
round_longer stores roots (c ∷ cs) (d ∷ ds) r = (
  record {
    seat = record { number = r.0.on.number; table = r.0.on.table; copier = r.0.on.copier; copiers = r.0.on.copiers; young_lane = r.0.on.stays.young_lane; old_lane = r.0.on.stays.old_lane; kept = r.0.on.stays.kept };
    longer = r.0.on.goes.old.longer;
    below = r.0.on.stays.below;
  },
  round_longer stores roots cs ds r.1,
)

module _ (stores : List Blocks) (roots : List ℕ) (known wins : List (ℕ × ℕ)) (words : TableView) (pieces : List Piece) where
  back_one : (c d : Copier) → IsSeated stores words pieces c → HoldsBy stores roots known wins c c → IsBack c d → IsLonger c d
  back_one c d s h b =
      let hand : d.own.seat.hand ≡ c.own.seat.hand = ap (λ (x : SeatView). x.hand) b.seat in
      let many = b.same.old in
      record {
        seat = record {
          number = b.number;
          table = ap (λ (x : SeatView). x.table) b.seat;
          copier = ap (λ (x : Hand). x.copier) hand;
          copiers = ap (λ (x : Hand). x.copiers) hand;
          young_lane = b.same.young_lane;
          old_lane = b.same.old_lane;
          kept = b.same.kept;
        };
        longer = omega (arith, many);
        below = (b.holds stores roots known (of_share (share (contents c)) wins) (length c.own.seat.hand.wins) c.own.seat.hand s.given s.marks h).3.below;
      }

  back_longer : (cs ds : List Copier) → AreSeated stores words pieces cs → AllBegin stores roots known wins cs → AreBack cs ds → AreLonger cs ds
  back_longer [] [] s h r = tt
  back_longer [] (d ∷ ds) s h r = absurd r
  back_longer (c ∷ cs) [] s h r = absurd r
  back_longer (c ∷ cs) (d ∷ ds) s h r = (back_one c d s.0 h.0 r.0, back_longer cs ds s.1 h.1 r.1)

-- what is not above a mark lies at it or below it
pub not_past : (mark : Option ℕ) (n b : ℕ) → is_above mark n ≡ false → IsBeyond mark b → block_of n < b
not_past None n b e h = let two : true ≡ false = e in cc
not_past (Some k) n b e h = by (cases_lt k n)
  where
    by : (k < n) ⊎ (n ≤ k) → block_of n < b
    by (inl l) = let two : true ≡ false = sym (lt-ltb k n l) ∙ e in cc
    by (inr l) = let low : block_of k < b = h in omega (arith, l, low)

module _ (young : ℕ) (before : Blocks) where
  new_is_from : (x k : ℕ) (c : Copier) (n : ℕ) (f : IsFilling young before c) → IsNewOf x k c.own.to n → IsFrom young before.lane f.first n
  new_is_from x k c n f (inl h) = inl (h.0 ∙ f.young_lane)
  new_is_from x k c n f (inr h) = let next = f.next in let past = h.2 in inr (h.0 ∙ f.old_lane, omega (arith, next, past))

  filling_on : (c d : Copier) → IsLonger c d → ((n : ℕ) → HasMade d.own.to n → HasMade c.own.to n ⊎ IsNew c.own.seat.hand c.own.to n) → IsFilling young before c → IsFilling young before d
  filling_on c d l m f = record {
    young_lane = l.seat.young_lane ∙ f.young_lane;
    old_lane = l.seat.old_lane ∙ f.old_lane;
    first = f.first;
    own = ap (λ k. f.first % k) l.seat.copiers ∙ f.own ∙ sym l.seat.copier;
    next = let next = f.next in let longer = l.longer in omega (arith, next, longer);
    made = λ n h. by n (m n h);
    below = λ n o e g. f.below n o e (ap (λ k. owner_of k n) (sym l.seat.copiers) ∙ g ∙ l.seat.copier);
    kept = λ n o e g. let was = not_above n g in f.kept n o (sym (l.below n was) ∙ e) was;
    there = λ n o e g. let t = f.there n o e g in (l.below n t.1 ∙ t.0, ap (λ k. is_above k n) l.seat.kept ∙ t.1);
  }
    where
      not_above : (n : ℕ) → is_above d.own.to.kept n ≡ false → is_above c.own.to.kept n ≡ false
      not_above n g = ap (λ k. is_above k n) (sym l.seat.kept) ∙ g

      by : (n : ℕ) → HasMade c.own.to n ⊎ IsNew c.own.seat.hand c.own.to n → IsFrom young before.lane f.first n
      by n (inl h) = f.made n h
      by n (inr h) = new_is_from c.own.seat.hand.copier c.own.seat.hand.copiers c n f h

  -- a copier of all, with its seat and where it fills
  record IsOneOf (stores : List Blocks) (words : TableView) (pieces : List Piece) (c : Copier) : Type 0 where
    filling : IsFilling young before c
    seated : IsSeated stores words pieces c

  one_of : (stores : List Blocks) (words : TableView) (pieces : List Piece) (cs : List Copier) (c : Copier) → AllFill young before cs → AreSeated stores words pieces cs → Has cs c → IsOneOf stores words pieces c
  one_of stores words pieces [] c f s h = absurd h
  one_of stores words pieces (b ∷ cs) c f s (inl e) = subst (λ z. IsOneOf stores words pieces z) e (record { filling = f.0; seated = s.0 })
  one_of stores words pieces (b ∷ cs) c f s (inr h) = one_of stores words pieces cs c f.1 s.1 h

  -- above the block in which a copier went on the old store has nothing in the copier's blocks
  own_is_placed : (stores : List Blocks) (words : TableView) (pieces : List Piece) (c : Copier) (n : ℕ) → IsOneOf stores words pieces c → IsOwnBlock c.own.to n → IsPlaced young before n
  own_is_placed stores words pieces c n o own = by (o.filling.made own.0 own.1)
    where
      free : lane_of n ≡ before.lane → o.filling.first ≤ block_of own.0 → IsFreeBlock before n
      free lane low m a e same =
          let here : owner_of c.own.seat.hand.copiers m ≡ c.own.seat.hand.copier =
          ap (λ b. b % c.own.seat.hand.copiers) (same ∙ sym own.3) ∙ ap (λ k. owner_of k own.0) o.seated.copiers ∙ o.seated.own own.0 own.1 in
          let block = own.3 in
          let high = o.filling.below m a e here in
          let at = o.filling.there m a e (omega (arith, low, high, same, block)) in
          let less = not_past c.own.to.kept m (block_of n) at.1 (own.4 (lane ∙ sym o.filling.old_lane)) in
          absurd (omega (arith, less, same))

      by : IsFrom young before.lane o.filling.first own.0 → IsPlaced young before n
      by (inl h) = inl (sym own.2 ∙ h)
      by (inr h) = let lane : lane_of n ≡ before.lane = sym own.2 ∙ h.0 in inr (lane, free lane h.1)

  module _ (stores : List Blocks) (roots : List ℕ) (known wins : List (ℕ × ℕ)) where
    all_fill_on : (cs ds : List Copier) → AreLonger cs ds → AreDone stores roots known wins cs ds → AllFill young before cs → AllFill young before ds
    all_fill_on [] [] l d f = tt
    all_fill_on [] (e ∷ ds) l d f = absurd l
    all_fill_on (c ∷ cs) [] l d f = absurd l
    all_fill_on (c ∷ cs) (e ∷ ds) l d f = (filling_on c e l.0 d.0.made f.0, all_fill_on cs ds l.1 d.1 f.1)

    placed_on : (words : TableView) (pieces : List Piece) (cs ds : List Copier) (aside : List Piece) → AreSeated stores words pieces cs → AreLonger cs ds → AreDone stores roots known wins cs ds → ArePlaced young before cs aside → ArePlaced young before ds aside
    placed_on words pieces cs ds aside s l d p = record {
      own = all_fill_on cs ds l d p.own;
      pieces = λ n i. by n (where_from stores roots known wins cs ds aside d n i);
    }
      where
        by : (n : ℕ) → IsInOne (all_pieces cs aside) n ⊎ FromOwn cs ds n → IsPlaced young before n
        by n (inl h) = p.pieces n h
        by n (inr w) = own_is_placed stores words pieces w.c n (one_of stores words pieces cs w.c p.own s w.c_is) w.own

  filling_same : (c d : Copier) → IsSameCopier c d → IsFilling young before c → IsFilling young before d
  filling_same c d s f = filling_on c d (record {
    seat = record {
      number = s.number;
      table = ap (λ (x : SeatView). x.table) s.seat;
      copier = ap (λ (x : SeatView). x.hand.copier) s.seat;
      copiers = ap (λ (x : SeatView). x.hand.copiers) s.seat;
      young_lane = ap (λ (t : Copies). t.young.lane) s.to;
      old_lane = ap (λ (t : Copies). t.tenured.lane) s.to;
      kept = ap (λ (t : Copies). t.kept) s.to;
    };
    longer = let many = ap (λ (t : Copies). length t.tenured.lists) s.to in omega (arith, many);
    below = λ n e. ap (λ (t : Copies). objects_in t.tenured n) s.to;
  }) (λ n h. inl (subst (λ (t : Copies). HasMade t n) s.to h)) f

  all_fill_same : (cs ds : List Copier) → AreSameCopiers cs ds → AllFill young before cs → AllFill young before ds
  all_fill_same [] [] s f = tt
  all_fill_same [] (d ∷ ds) s f = absurd s
  all_fill_same (c ∷ cs) [] s f = absurd s
  all_fill_same (c ∷ cs) (d ∷ ds) s f = (filling_same c d s.0 f.0, all_fill_same cs ds s.1 f.1)

pub round_keeps_placed : RoundKeepsPlaced
round_keeps_placed stores roots words cs ds aside c r f young before p =
    let known = all_known (hands cs) in
    let wins = all_wins (hands cs) in
    let begin = all_begin stores roots known wins words (all_pieces cs aside) cs aside c.seated (begin_of stores roots words cs aside c) in
    placed_on young before stores roots known wins words (all_pieces cs aside) cs ds aside c.seated (round_longer stores roots cs ds r) (step_all stores roots words (all_pieces cs aside) known wins cs ds c.seated begin r f) p

pub back_keeps_placed : BackKeepsPlaced
back_keeps_placed stores roots words cs ds aside c r young before p =
    let known = all_known (hands cs) in
    let wins = all_wins (hands cs) in
    let begin = all_begin stores roots known wins words (all_pieces cs aside) cs aside c.seated (begin_of stores roots words cs aside c) in
    placed_on young before stores roots known wins words (all_pieces cs aside) cs ds aside c.seated (back_longer stores roots known wins words (all_pieces cs aside) cs ds c.seated begin r) (back_all stores roots words (all_pieces cs aside) known wins cs ds c.seated begin r) p

pub deal_keeps_placed : DealKeepsPlaced
deal_keeps_placed cs ds aside rest d young before p = record {
  own = all_fill_same young before cs ds d.same p.own;
  pieces = λ n i. p.pieces n (covers_one (all_pieces cs aside) n (subst (λ k. 1 ≤ k) (d.pieces.covers n) (one_covers (all_pieces ds rest) n i)));
}

pub placed_then : (cs ds es : List Copier) (xs ys zs : List Piece) → KeepPlaced cs ds xs ys → KeepPlaced ds es ys zs → KeepPlaced cs es xs zs
placed_then cs ds es xs ys zs f g = λ young before p. g young before (f young before p)
