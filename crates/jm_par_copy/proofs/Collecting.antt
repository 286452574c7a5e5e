-- The end of a collection is what a collector promises.
use Rattle.std.proofs.Common.{◌≡◌, ◌≢◌, ◌⊎◌, ℕ, List, [], ◌∷◌, Option, Some, None, true, false, cond, refl, sym, ap, ◌∙◌, inl, inr, subst, eq-eqb, arith}
use Rattle.std.specs.Prelude.{slice_get, nat_eq}
use Rattle.std.proofs.lemmas.Bool.Decides.{eqb_tells}
use Rattle.jm_program.proofs.Numbers.{found_unequal}
use Rattle.jm_blocks.specs.Objects.{Object}
use Rattle.jm_blocks.specs.Places.{lane_of}
use Rattle.jm_blocks.specs.Stores.{Blocks, objects_in}
use Rattle.jm_blocks.proofs.Placing.{elsewhere, lane_put, lies_in}
use Rattle.jm_forward.specs.Hands.{TableView, all_wins}
use Rattle.jm_copy.specs.Collected.{fresh, promoted_in, survivors}
use Rattle.jm_copy.specs.Condemned.{objects_at}
use Rattle.jm_copy.specs.Image.{IsImage}
use Rattle.jm_copy.specs.Pointing.{ListsPointers}
use Rattle.jm_copy.proofs.Images.{image_same}
use Rattle.jm_par_copy.specs.Copiers.{AllFill, AreApartGiven, AreDifferent, AreInLanes, ArePlaced, AreSeated, IsPlaced, all_pieces, hands, parts}
use Rattle.jm_par_copy.specs.Ending.{AllLoads, AreLoads, EndIsCollected, HeldIsLoads, stocks, stored}
use Rattle.jm_par_copy.specs.Holding.{AreApartPieces, IsInOne}
use Rattle.jm_par_copy.specs.Merging.{GoesOver}
use Rattle.jm_par_copy.specs.Notes.{all_listed}
use Rattle.jm_par_copy.specs.Pieces.{IsPiece, place_in}
use Rattle.jm_par_copy.specs.Together.{AreApart, joint, moved_by_wins}
use Rattle.jm_par_copy.specs.declared.piece.Piece.{Piece}
use Rattle.jm_par_copy.specs.declared.copier.Copier.{Copier}
use Rattle.jm_par_copy.proofs.Copiers.{apart_of, one_left, one_right}
use Rattle.jm_par_copy.proofs.Ends.{ages_are_by_lane, end_is_image}
use Rattle.jm_par_copy.proofs.Noted.{all_list, lists_same, old_is, old_only}
use Rattle.jm_par_copy.proofs.Pieces.{in_here}
use Rattle.jm_par_copy.proofs.Reordering.{get_one}
use Rattle.jm_par_copy.proofs.Sharing.{both_left, both_right}
use Rattle.jm_par_copy.proofs.Stocks.{joint_clear, never_clear, own_once, stock_once, stocks_joint, stocks_over, stored_old, stored_young}

module _ (young : ℕ) (before : Blocks) where
  filled_in_lanes : (cs : List Copier) → AllFill young before cs → AreInLanes young before.lane cs
  filled_in_lanes [] f = tt
  filled_in_lanes (c ∷ cs) f = (f.0.young_lane, f.0.old_lane, filled_in_lanes cs f.1)

  -- a block has the lane of its places
  lane_is : (x : Piece) → IsPiece x → IsPlaced young before (place_in x 0) → (x.lane ≡ young) ⊎ (x.lane ≡ before.lane)
  lane_is x p (inl e) = inl (sym (lane_put x.lane x.number 0 p.lane (omega arith)) ∙ e)
  lane_is x p (inr e) = inr (sym (lane_put x.lane x.number 0 p.lane (omega arith)) ∙ e.0)

  are_loads : (xs : List Piece) → ((i : ℕ) (x : Piece) → slice_get xs i ≡ Some x → IsPiece x) → AreApartPieces xs → ((n : ℕ) → IsInOne xs n → IsPlaced young before n) → AreLoads young before.lane xs
  are_loads xs pieces apart placed = record {
    pieces = pieces;
    lanes = λ i x e. let p = pieces i x e in lane_is x p (placed (place_in x 0) (get_one xs i x (place_in x 0) e (in_here x 0 p.lane (omega arith))));
    apart = apart;
  }

  aside_apart : (cs : List Copier) (aside : List Piece) → AreApartGiven cs aside → AreApartPieces aside
  aside_apart [] aside g = g
  aside_apart (c ∷ cs) aside g = aside_apart cs aside g.1

  all_loads : before.lane ≢ young → (stores : List Blocks) (words : TableView) (pieces : List Piece) (cs : List Copier) (aside : List Piece) → AreSeated stores words pieces cs → AreDifferent cs → AllFill young before cs → AreApart (parts cs aside) → ((n : ℕ) → IsInOne (all_pieces cs aside) n → IsPlaced young before n) → AreLoads young before.lane aside → AllLoads young before.lane cs aside
  all_loads other stores words pieces [] aside s d f p h l = l
  all_loads other stores words pieces (c ∷ cs) aside s d f p h l = (
    record {
      young_lane = f.0.young_lane;
      old_lane = f.0.old_lane;
      given = are_loads c.given.items s.0.given.pieces s.0.given.apart (λ n i. h n (one_left c.given.items (all_pieces cs aside) n i));
      once = λ n a e. own_once young before other stores words pieces c n a f.0 s.0 (λ i. h n (one_left c.given.items (all_pieces cs aside) n i)) e;
    },
    (λ n a e. stock_once young before other stores words pieces c cs aside n a f s d.0 (h n) (p.0 n) e),
    all_loads other stores words pieces cs aside s.1 d.1 f.1 p.1 (λ n i. h n (one_right c.given.items (all_pieces cs aside) n i)) l,
  )

  aside_placed : (cs : List Copier) (aside : List Piece) → ((n : ℕ) → IsInOne (all_pieces cs aside) n → IsPlaced young before n) → (n : ℕ) → IsInOne aside n → IsPlaced young before n
  aside_placed [] aside h n i = h n i
  aside_placed (c ∷ cs) aside h n i = aside_placed cs aside (λ m j. h m (one_right c.given.items (all_pieces cs aside) m j)) n i

pub held_is_loads : HeldIsLoads
held_is_loads stores roots words cs aside young before c other p =
    let loads = are_loads young before aside c.pieces (aside_apart young before cs aside c.given) (aside_placed young before cs aside p.pieces) in
    all_loads young before other stores words (all_pieces cs aside) cs aside c.seated c.different p.own (apart_of stores roots words cs aside c) p.pieces loads

module _ (cs : List Copier) (aside : List Piece) (before young promoted : Blocks) (other : before.lane ≢ 1) (young_lane : young.lane ≡ 1) (promoted_lane : promoted.lane ≡ before.lane) (all : (n : ℕ) → stored young promoted n ≡ stocks cs aside n) where
  promoted_away : (n : ℕ) (a : Object) → objects_in promoted n ≡ Some a → lane_of n ≢ young.lane
  promoted_away n a e h = let at = lies_in promoted n a e in other (sym promoted_lane ∙ sym at.lane ∙ h ∙ young_lane)

  promoted_stock : (n : ℕ) (a : Object) → objects_in promoted n ≡ Some a → stocks cs aside n ≡ Some a
  promoted_stock n a e = sym (all n) ∙ stored_old young promoted n (promoted_away n a e) ∙ e

  was_away : (n : ℕ) (o : Object) → objects_in before n ≡ Some o → lane_of n ≢ young.lane
  was_away n o e h = let at = lies_in before n o e in other (sym at.lane ∙ h ∙ young_lane)

  -- where the promoted lie in a block of the old store they have its objects
  pub promoted_over : (stores : List Blocks) (words : TableView) (pieces : List Piece) → AreSeated stores words pieces cs → ArePlaced 1 before cs aside → GoesOver promoted before
  promoted_over stores words pieces seated placed n z e m h same =
      let at = lies_in promoted m h.0 h.1 in
      sym (stored_old young promoted n (was_away n z e)) ∙ all n ∙ stocks_over 1 before other stores words pieces cs aside placed.own seated placed.pieces m n h.0 z (at.lane ∙ promoted_lane) (promoted_stock m h.0 h.1) e same

pub end_is_collected : EndIsCollected
unfolding survivors
end_is_collected stores roots new_roots words cs aside before young promoted tenured c ended agree all many forwarded other placed t = record {
  image = image;
  collected = record {
    moved = moved_by_wins stores (all_wins (hands cs));
    image = image;
    first_survival = λ n a e.
        let at = lies_in young n a e in
        let lane : lane_of n ≡ 1 = at.lane ∙ t.young_lane in
        (aged n a (sym (stocks_are n (nothing_young n lane)) ∙ sym (t.all n) ∙ stored_young young promoted n at.lane ∙ e)).0 ∙ ap (λ b. cond b 1 2) (eq-eqb (lane_of n) 1 lane);
    promoted = λ n a e f.
        let here = came n a e f in
        let lane : lane_of n ≢ 1 = λ h. away n a here (h ∙ sym t.young_lane) in
        (aged n a (sym (stocks_are n e) ∙ old_stock n a here)).0 ∙ ap (λ b. cond b 1 2) (found_unequal (lane_of n) 1 lane);
    kept = λ n o e. t.old n ∙ both_left (objects_in before) (objects_in promoted) n o e;
    young_lane = t.young_lane;
    tenured_lane = t.tenured_lane;
    pointers = pointers;
  };
}
  where
    lanes : AreInLanes 1 before.lane cs
    lanes = filled_in_lanes 1 before cs placed.own

    aged : (n : ℕ) (a : Object) → joint (parts cs aside) n ≡ Some a → (a.age ≡ cond (nat_eq (lane_of n) 1) 1 2) × ((lane_of n ≡ 1) ⊎ (lane_of n ≡ before.lane))
    aged = ages_are_by_lane stores roots words cs aside 1 before.lane c lanes

    away : (n : ℕ) (a : Object) → objects_in promoted n ≡ Some a → lane_of n ≢ young.lane
    away = promoted_away cs aside before young promoted other t.young_lane t.promoted_lane t.all

    old_stock : (n : ℕ) (a : Object) → objects_in promoted n ≡ Some a → stocks cs aside n ≡ Some a
    old_stock = promoted_stock cs aside before young promoted other t.young_lane t.promoted_lane t.all

    stocks_are : (n : ℕ) → objects_in before n ≡ None → stocks cs aside n ≡ joint (parts cs aside) n
    stocks_are = stocks_joint 1 before other stores words (all_pieces cs aside) cs aside placed.own c.seated placed.pieces

    nothing_young : (n : ℕ) → lane_of n ≡ 1 → objects_in before n ≡ None
    nothing_young n l = elsewhere before n (λ e. other (sym e ∙ l))

    came : (n : ℕ) (a : Object) → objects_in before n ≡ None → objects_in tenured n ≡ Some a → objects_in promoted n ≡ Some a
    came n a e f = sym (both_right (objects_in before) (objects_in promoted) n e) ∙ sym (t.old n) ∙ f

    -- where the old store had one nothing is held
    nothing_held : (n : ℕ) (o : Object) → objects_in before n ≡ Some o → (x : Option Object) → joint (parts cs aside) n ≡ x → joint (parts cs aside) n ≡ None
    nothing_held n o e None h = h
    nothing_held n o e (Some a) h = absurd (never_clear 1 before other n o (joint_clear 1 before other stores words (all_pieces cs aside) cs aside n a placed.own c.seated (placed.pieces n) h) e)

    -- what is new in the old store is what they held
    added : (n : ℕ) → lane_of n ≢ young.lane → (x : Option Object) → objects_in before n ≡ x → joint (parts cs aside) n ≡ fresh (objects_in before n) (objects_in tenured n)
    added n l None e = sym (ap (λ x. fresh x (objects_in tenured n)) e ∙ t.old n ∙ both_right (objects_in before) (objects_in promoted) n e ∙ sym (stored_old young promoted n l) ∙ t.all n ∙ stocks_are n e)
    added n l (Some o) e = nothing_held n o e (joint (parts cs aside) n) refl ∙ sym (ap (λ x. fresh x (objects_in tenured n)) e)

    same : (n : ℕ) → joint (parts cs aside) n ≡ survivors young before tenured n
    same n = by (eqb_tells (lane_of n) young.lane)
      where
        by : ((nat_eq (lane_of n) young.lane ≡ true) × (lane_of n ≡ young.lane)) ⊎ ((nat_eq (lane_of n) young.lane ≡ false) × (lane_of n ≢ young.lane)) → joint (parts cs aside) n ≡ cond (nat_eq (lane_of n) young.lane) (objects_in young n) (fresh (objects_in before n) (objects_in tenured n))
        by (inl h) = sym (stocks_are n (nothing_young n (h.1 ∙ t.young_lane))) ∙ sym (t.all n) ∙ stored_young young promoted n h.1 ∙ sym (ap (λ b. cond b (objects_in young n) (fresh (objects_in before n) (objects_in tenured n))) h.0)
        by (inr h) = added n h.1 (objects_in before n) refl ∙ sym (ap (λ b. cond b (objects_in young n) (fresh (objects_in before n) (objects_in tenured n))) h.0)

    image : IsImage (objects_at stores) roots (survivors young before tenured) new_roots (moved_by_wins stores (all_wins (hands cs)))
    image = image_same (joint (parts cs aside)) (survivors young before tenured) (end_is_image stores roots new_roots words cs aside c ended agree all many forwarded) same

    old_are : (n : ℕ) → old_only (joint (parts cs aside)) n ≡ promoted_in before tenured n
    old_are n = by (eqb_tells (lane_of n) 1)
      where
        by : ((nat_eq (lane_of n) 1 ≡ true) × (lane_of n ≡ 1)) ⊎ ((nat_eq (lane_of n) 1 ≡ false) × (lane_of n ≢ 1)) → old_only (joint (parts cs aside)) n ≡ promoted_in before tenured n
        by (inl h) =
            let none = elsewhere tenured n (λ e. other (sym t.tenured_lane ∙ sym e ∙ h.1)) in
            ap (λ b. cond b None (joint (parts cs aside) n)) h.0 ∙ sym (ap (λ x. fresh x (objects_in tenured n)) (nothing_young n h.1) ∙ none)
        by (inr h) = old_is (joint (parts cs aside)) n h.1 ∙ added n (λ e. h.1 (e ∙ t.young_lane)) (objects_in before n) refl

    pointers : ListsPointers young.lane (promoted_in before tenured) (all_listed cs aside)
    pointers = subst (λ l. ListsPointers l (promoted_in before tenured) (all_listed cs aside)) (sym t.young_lane)
        (lists_same (old_only (joint (parts cs aside))) (promoted_in before tenured) (all_listed cs aside)
        (all_list stores words (all_pieces cs aside) cs aside c.seated c.given (apart_of stores roots words cs aside c) c.noting ended) old_are)
