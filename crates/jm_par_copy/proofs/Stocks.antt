-- What copiers have at the end: what they hold, and what the old store has where they went on.
use Rattle.std.proofs.Common.{◌≡◌, ◌≢◌, ◌⊎◌, ℕ, ◌≤◌, ◌%◌, List, [], ◌∷◌, Option, Some, None, Bool, true, false, refl, sym, ap, ◌∙◌, subst, inl, inr, arith}
use Rattle.std.specs.Prelude.{nat_eq}
use Rattle.std.proofs.lemmas.Bool.Decides.{eqb_tells}
use Rattle.jm_blocks.specs.Objects.{Object}
use Rattle.jm_blocks.specs.Places.{block_of, lane_of}
use Rattle.jm_blocks.specs.Stores.{Blocks, objects_in}
use Rattle.jm_blocks.proofs.Placing.{lies_in}
use Rattle.jm_forward.specs.Hands.{TableView}
use Rattle.jm_copy.specs.Copies.{HasMade, is_above, made}
use Rattle.jm_copy.proofs.Making.{LiesOld, LiesYoung, made_above, made_where, made_young}
use Rattle.jm_par_copy.specs.Copiers.{AllFill, AreOthers, AreSeated, IsFilling, IsFrom, IsPlaced, IsSeated, all_pieces, contents, parts}
use Rattle.jm_par_copy.specs.Ending.{stock, stocks, stored}
use Rattle.jm_par_copy.specs.Holding.{IsInOne, held_objects}
use Rattle.jm_par_copy.specs.Strides.{owner_of}
use Rattle.jm_par_copy.specs.Together.{joint}
use Rattle.jm_par_copy.specs.Working.{both}
use Rattle.jm_par_copy.specs.declared.piece.Piece.{Piece}
use Rattle.jm_par_copy.specs.declared.copier.Copier.{Copier}
use Rattle.jm_par_copy.proofs.Copiers.{MadeBy, contents_where, joint_where, one_held, one_left, one_right}
use Rattle.jm_par_copy.proofs.Listing.{Has}
use Rattle.jm_par_copy.proofs.Sharing.{both_left, both_right, both_where}

-- what two stores have
pub stored_young : (young old : Blocks) (n : ℕ) → lane_of n ≡ young.lane → stored young old n ≡ objects_in young n
stored_young young old n e = made_young young old None n e

pub stored_old : (young old : Blocks) (n : ℕ) → lane_of n ≢ young.lane → stored young old n ≡ objects_in old n
stored_old young old n e = made_above young old None n e refl

-- where two together have none, neither has one
both_nones : (f g : ℕ → Option Object) (n : ℕ) → both f g n ≡ None → (f n ≡ None) × (g n ≡ None)
both_nones f g n e = by (f n) refl
  where
    by : (x : Option Object) → f n ≡ x → (f n ≡ None) × (g n ≡ None)
    by None t = (t, sym (both_right f g n t) ∙ e)
    by (Some a) t = let two : None ≡ Some a = sym e ∙ both_left f g n a t in cc

-- what was made is stored
made_stored : (c : Copier) (n : ℕ) (a : Object) → made c.own.to n ≡ Some a → stored c.own.to.young c.own.to.tenured n ≡ Some a
made_stored c n a e = by (made_where c.own.to n a e)
  where
    by : LiesYoung c.own.to n a ⊎ LiesOld c.own.to n a → stored c.own.to.young c.own.to.tenured n ≡ Some a
    by (inl h) = stored_young c.own.to.young c.own.to.tenured n h.lane ∙ h.there
    by (inr h) = stored_old c.own.to.young c.own.to.tenured n h.lane ∙ h.there

made_none : (c : Copier) (n : ℕ) → stored c.own.to.young c.own.to.tenured n ≡ None → made c.own.to n ≡ None
made_none c n e = by (made c.own.to n) refl
  where
    by : (x : Option Object) → made c.own.to n ≡ x → made c.own.to n ≡ None
    by None t = t
    by (Some a) t = let two : None ≡ Some a = sym e ∙ made_stored c n a t in cc

contents_none : (c : Copier) (n : ℕ) → stock c n ≡ None → contents c n ≡ None
contents_none c n e =
    let none = both_nones (stored c.own.to.young c.own.to.tenured) (held_objects c.given.items) n e in
    both_right (made c.own.to) (held_objects c.given.items) n (made_none c n none.0) ∙ none.1

joint_none : (cs : List Copier) (aside : List Piece) (n : ℕ) → stocks cs aside n ≡ None → joint (parts cs aside) n ≡ None
joint_none [] aside n e = both_right (held_objects aside) (joint []) n e
joint_none (c ∷ cs) aside n e =
    let none = both_nones (stock c) (stocks cs aside) n e in
    both_right (contents c) (joint (parts cs aside)) n (contents_none c n none.0) ∙ joint_none cs aside n none.1

stored_none : (cs : List Copier) (aside : List Piece) (n : ℕ) (c : Copier) → Has cs c → stocks cs aside n ≡ None → stored c.own.to.young c.own.to.tenured n ≡ None
stored_none [] aside n c h e = absurd h
stored_none (b ∷ cs) aside n c (inl t) e = subst (λ (z : Copier). stored z.own.to.young z.own.to.tenured n ≡ None) t (both_nones (stored b.own.to.young b.own.to.tenured) (held_objects b.given.items) n (both_nones (stock b) (stocks cs aside) n e).0).0
stored_none (b ∷ cs) aside n c (inr h) e = stored_none cs aside n c h (both_nones (stock b) (stocks cs aside) n e).1

-- a copier that has an object at a place of its own stores
pub record IsStoredBy (cs : List Copier) (n : ℕ) (a : Object) : Type 0 where
  pub c : Copier
  pub c_is : Has cs c
  pub there : stored c.own.to.young c.own.to.tenured n ≡ Some a

stored_or_moved : (cs : List Copier) (aside : List Piece) (n : ℕ) (a : Object) → stocks cs aside n ≡ Some a → IsStoredBy cs n a ⊎ IsInOne (all_pieces cs aside) n
stored_or_moved [] aside n a e = inr (one_held aside n a e)
stored_or_moved (c ∷ cs) aside n a e = by (stored_or_moved cs aside n a) (both_where (stock c) (stocks cs aside) n a e)
  where
    own : (stored c.own.to.young c.own.to.tenured n ≡ Some a) ⊎ ((stored c.own.to.young c.own.to.tenured n ≡ None) × (held_objects c.given.items n ≡ Some a)) → IsStoredBy (c ∷ cs) n a ⊎ IsInOne (all_pieces (c ∷ cs) aside) n
    own (inl h) = inl (record { c = c; c_is = inl refl; there = h })
    own (inr h) = inr (one_left c.given.items (all_pieces cs aside) n (one_held c.given.items n a h.1))

    rest : IsStoredBy cs n a ⊎ IsInOne (all_pieces cs aside) n → IsStoredBy (c ∷ cs) n a ⊎ IsInOne (all_pieces (c ∷ cs) aside) n
    rest (inl h) = inl (record { c = h.c; c_is = inr h.c_is; there = h.there })
    rest (inr h) = inr (one_right c.given.items (all_pieces cs aside) n h)

    by : (stocks cs aside n ≡ Some a → IsStoredBy cs n a ⊎ IsInOne (all_pieces cs aside) n) → (stock c n ≡ Some a) ⊎ ((stock c n ≡ None) × (stocks cs aside n ≡ Some a)) → IsStoredBy (c ∷ cs) n a ⊎ IsInOne (all_pieces (c ∷ cs) aside) n
    by more (inl h) = own (both_where (stored c.own.to.young c.own.to.tenured) (held_objects c.given.items) n a h)
    by more (inr h) = rest (more h.1)

module _ (young : ℕ) (before : Blocks) (other : before.lane ≢ young) where
  pub made_or_kept : (c : Copier) (n : ℕ) (a : Object) → IsFilling young before c → stored c.own.to.young c.own.to.tenured n ≡ Some a → (made c.own.to n ≡ Some a) ⊎ ((objects_in before n ≡ Some a) × (owner_of c.own.seat.hand.copiers n ≡ c.own.seat.hand.copier))
  made_or_kept c n a f e = by (eqb_tells (lane_of n) c.own.to.young.lane)
    where
      old : lane_of n ≢ c.own.to.young.lane → objects_in c.own.to.tenured n ≡ Some a → (t : Bool) → is_above c.own.to.kept n ≡ t → (made c.own.to n ≡ Some a) ⊎ ((objects_in before n ≡ Some a) × (owner_of c.own.seat.hand.copiers n ≡ c.own.seat.hand.copier))
      old l g true t = inl (made_above c.own.to.young c.own.to.tenured c.own.to.kept n l t ∙ g)
      old l g false t = let k = f.kept n a g t in inr (k.0, ap (λ b. b % c.own.seat.hand.copiers) k.1 ∙ f.own)

      by : ((nat_eq (lane_of n) c.own.to.young.lane ≡ true) × (lane_of n ≡ c.own.to.young.lane)) ⊎ ((nat_eq (lane_of n) c.own.to.young.lane ≡ false) × (lane_of n ≢ c.own.to.young.lane)) → (made c.own.to n ≡ Some a) ⊎ ((objects_in before n ≡ Some a) × (owner_of c.own.seat.hand.copiers n ≡ c.own.seat.hand.copier))
      by (inl h) = inl (made_young c.own.to.young c.own.to.tenured c.own.to.kept n h.1 ∙ sym (stored_young c.own.to.young c.own.to.tenured n h.1) ∙ e)
      by (inr h) = old h.1 (sym (stored_old c.own.to.young c.own.to.tenured n h.1) ∙ e) (is_above c.own.to.kept n) refl

  -- the old store has no object there
  abbrev pub IsClear : ℕ → Type 0
  IsClear n = (lane_of n ≡ young) ⊎ ((lane_of n ≡ before.lane) × (objects_in before n ≡ None))

  pub never_clear : (n : ℕ) (o : Object) → IsClear n → objects_in before n ≡ Some o → ⊥
  never_clear n o (inl h) e = let at = lies_in before n o e in other (sym at.lane ∙ h)
  never_clear n o (inr h) e = let two : None ≡ Some o = sym h.1 ∙ e in cc

  placed_clear : (n : ℕ) → IsPlaced young before n → IsClear n
  placed_clear n (inl h) = inl h
  placed_clear n (inr h) = inr (h.0, none (objects_in before n) refl)
    where
      none : (x : Option Object) → objects_in before n ≡ x → objects_in before n ≡ None
      none None e = e
      none (Some o) e = absurd (h.1 n o e refl)

  module _ (stores : List Blocks) (words : TableView) (pieces : List Piece) where
    made_clear : (c : Copier) (n : ℕ) → IsFilling young before c → IsSeated stores words pieces c → HasMade c.own.to n → IsClear n
    made_clear c n f s h = by (f.made n h)
      where
        above : LiesYoung c.own.to n h.0 ⊎ LiesOld c.own.to n h.0 → lane_of n ≡ before.lane → is_above c.own.to.kept n ≡ true
        above (inl t) l = absurd (other (sym l ∙ t.lane ∙ f.young_lane))
        above (inr t) l = t.above

        none : lane_of n ≡ before.lane → f.first ≤ block_of n → (x : Option Object) → objects_in before n ≡ x → objects_in before n ≡ None
        none l low None e = e
        none l low (Some o) e =
            let own : owner_of c.own.seat.hand.copiers n ≡ c.own.seat.hand.copier = ap (λ k. owner_of k n) s.copiers ∙ s.own n h in
            let high = f.below n o e own in
            let there = f.there n o e (omega (arith, low, high)) in
            let two : true ≡ false = sym (above (made_where c.own.to n h.0 h.1) l) ∙ there.1 in
            cc

        by : IsFrom young before.lane f.first n → IsClear n
        by (inl t) = inl t
        by (inr t) = inr (t.0, none t.0 t.1 (objects_in before n) refl)

    made_by_clear : (cs : List Copier) (n : ℕ) → AllFill young before cs → AreSeated stores words pieces cs → MadeBy cs n → IsClear n
    made_by_clear [] n f s h = absurd h
    made_by_clear (c ∷ cs) n f s (inl h) = made_clear c n f.0 s.0 h
    made_by_clear (c ∷ cs) n f s (inr h) = made_by_clear cs n f.1 s.1 h

    pub joint_clear : (cs : List Copier) (aside : List Piece) (n : ℕ) (a : Object) → AllFill young before cs → AreSeated stores words pieces cs → (IsInOne (all_pieces cs aside) n → IsPlaced young before n) → joint (parts cs aside) n ≡ Some a → IsClear n
    joint_clear cs aside n a f s p e = by (joint_where cs aside n a e)
      where
        by : MadeBy cs n ⊎ IsInOne (all_pieces cs aside) n → IsClear n
        by (inl h) = made_by_clear cs n f s h
        by (inr h) = placed_clear n (p h)

    contents_clear : (c : Copier) (n : ℕ) (a : Object) → IsFilling young before c → IsSeated stores words pieces c → (IsInOne c.given.items n → IsPlaced young before n) → contents c n ≡ Some a → IsClear n
    contents_clear c n a f s p e = by (contents_where c n a e)
      where
        by : HasMade c.own.to n ⊎ IsInOne c.given.items n → IsClear n
        by (inl h) = made_clear c n f s h
        by (inr h) = placed_clear n (p h)

    -- what a copier has it holds, or keeps
    abbrev pub Keeps : Copier → ℕ → Object → Type 0
    Keeps c n a = (objects_in before n ≡ Some a) × (owner_of words.copiers n ≡ c.own.seat.hand.copier)

    stock_where : (c : Copier) (n : ℕ) (a : Object) → IsFilling young before c → IsSeated stores words pieces c → stock c n ≡ Some a → (contents c n ≡ Some a) ⊎ Keeps c n a
    stock_where c n a f s e = by (both_where (stored c.own.to.young c.own.to.tenured) (held_objects c.given.items) n a e)
      where
        own : (made c.own.to n ≡ Some a) ⊎ ((objects_in before n ≡ Some a) × (owner_of c.own.seat.hand.copiers n ≡ c.own.seat.hand.copier)) → (contents c n ≡ Some a) ⊎ Keeps c n a
        own (inl h) = inl (both_left (made c.own.to) (held_objects c.given.items) n a h)
        own (inr h) = inr (h.0, ap (λ k. owner_of k n) (sym s.copiers) ∙ h.1)

        by : (stored c.own.to.young c.own.to.tenured n ≡ Some a) ⊎ ((stored c.own.to.young c.own.to.tenured n ≡ None) × (held_objects c.given.items n ≡ Some a)) → (contents c n ≡ Some a) ⊎ Keeps c n a
        by (inl h) = own (made_or_kept c n a f h)
        by (inr h) = inl (both_right (made c.own.to) (held_objects c.given.items) n (made_none c n h.0) ∙ h.1)

    abbrev KeptBy : List Copier → ℕ → Object → Type 0
    KeptBy [] n a = ⊥
    KeptBy (c ∷ cs) n a = Keeps c n a ⊎ KeptBy cs n a

    stocks_where : (cs : List Copier) (aside : List Piece) (n : ℕ) (a : Object) → AllFill young before cs → AreSeated stores words pieces cs → stocks cs aside n ≡ Some a → (joint (parts cs aside) n ≡ Some a) ⊎ KeptBy cs n a
    stocks_where [] aside n a f s e = inl (both_left (held_objects aside) (joint []) n a e)
    stocks_where (c ∷ cs) aside n a f s e = by (stocks_where cs aside n a f.1 s.1) (both_where (stock c) (stocks cs aside) n a e)
      where
        first : (contents c n ≡ Some a) ⊎ Keeps c n a → (joint (parts (c ∷ cs) aside) n ≡ Some a) ⊎ KeptBy (c ∷ cs) n a
        first (inl h) = inl (both_left (contents c) (joint (parts cs aside)) n a h)
        first (inr h) = inr (inl h)

        rest : stock c n ≡ None → (joint (parts cs aside) n ≡ Some a) ⊎ KeptBy cs n a → (joint (parts (c ∷ cs) aside) n ≡ Some a) ⊎ KeptBy (c ∷ cs) n a
        rest none (inl h) = inl (both_right (contents c) (joint (parts cs aside)) n (contents_none c n none) ∙ h)
        rest none (inr h) = inr (inr h)

        by : (stocks cs aside n ≡ Some a → (joint (parts cs aside) n ≡ Some a) ⊎ KeptBy cs n a) → (stock c n ≡ Some a) ⊎ ((stock c n ≡ None) × (stocks cs aside n ≡ Some a)) → (joint (parts (c ∷ cs) aside) n ≡ Some a) ⊎ KeptBy (c ∷ cs) n a
        by more (inl h) = first (stock_where c n a f.0 s.0 h)
        by more (inr h) = rest h.0 (more h.1)

    kept_was : (cs : List Copier) (n : ℕ) (a : Object) → KeptBy cs n a → objects_in before n ≡ Some a
    kept_was [] n a h = absurd h
    kept_was (c ∷ cs) n a (inl h) = h.0
    kept_was (c ∷ cs) n a (inr h) = kept_was cs n a h

    kept_other : (x : ℕ) (cs : List Copier) (n : ℕ) (a : Object) → AreOthers x cs → owner_of words.copiers n ≡ x → KeptBy cs n a → ⊥
    kept_other x [] n a o e h = h
    kept_other x (c ∷ cs) n a o e (inl h) = o.0 (sym h.1 ∙ e)
    kept_other x (c ∷ cs) n a o e (inr h) = kept_other x cs n a o.1 e h

    -- no place is held or kept twice
    pub own_once : (c : Copier) (n : ℕ) (a : Object) → IsFilling young before c → IsSeated stores words pieces c → (IsInOne c.given.items n → IsPlaced young before n) → stored c.own.to.young c.own.to.tenured n ≡ Some a → held_objects c.given.items n ≡ None
    own_once c n a f s p e = by (made_or_kept c n a f e)
      where
        none : objects_in before n ≡ Some a → (x : Option Object) → held_objects c.given.items n ≡ x → held_objects c.given.items n ≡ None
        none was None t = t
        none was (Some b) t = absurd (never_clear n a (placed_clear n (p (one_held c.given.items n b t))) was)

        by : (made c.own.to n ≡ Some a) ⊎ ((objects_in before n ≡ Some a) × (owner_of c.own.seat.hand.copiers n ≡ c.own.seat.hand.copier)) → held_objects c.given.items n ≡ None
        by (inl h) = s.local.once n a h
        by (inr h) = none h.0 (held_objects c.given.items n) refl

    pub stock_once : (c : Copier) (cs : List Copier) (aside : List Piece) (n : ℕ) (a : Object) → AllFill young before (c ∷ cs) → AreSeated stores words pieces (c ∷ cs) → AreOthers c.own.seat.hand.copier cs → (IsInOne (all_pieces (c ∷ cs) aside) n → IsPlaced young before n) → ((b : Object) → contents c n ≡ Some b → joint (parts cs aside) n ≡ None) → stock c n ≡ Some a → stocks cs aside n ≡ None
    stock_once c cs aside n a f s o p apart e = by (stocks cs aside n) refl
      where
        never : (b : Object) → (contents c n ≡ Some a) ⊎ Keeps c n a → (joint (parts cs aside) n ≡ Some b) ⊎ KeptBy cs n b → ⊥
        never b (inl h) (inl g) = let two : None ≡ Some b = sym (apart a h) ∙ g in cc
        never b (inl h) (inr g) = never_clear n b (contents_clear c n a f.0 s.0 (λ i. p (one_left c.given.items (all_pieces cs aside) n i)) h) (kept_was cs n b g)
        never b (inr h) (inl g) = never_clear n a (joint_clear cs aside n b f.1 s.1 (λ i. p (one_right c.given.items (all_pieces cs aside) n i)) g) h.0
        never b (inr h) (inr g) = kept_other c.own.seat.hand.copier cs n b o h.1 g

        by : (x : Option Object) → stocks cs aside n ≡ x → stocks cs aside n ≡ None
        by None t = t
        by (Some b) t = absurd (never b (stock_where c n a f.0 s.0 e) (stocks_where cs aside n b f.1 s.1 t))

    module _ (cs : List Copier) (aside : List Piece) (fill : AllFill young before cs) (seated : AreSeated stores words pieces cs) (placed : (n : ℕ) → IsInOne (all_pieces cs aside) n → IsPlaced young before n) where
      -- where the old store has none, what they have is what they hold
      pub stocks_joint : (n : ℕ) → objects_in before n ≡ None → stocks cs aside n ≡ joint (parts cs aside) n
      stocks_joint n none = by (stocks cs aside n) refl
        where
          held : (a : Object) → (joint (parts cs aside) n ≡ Some a) ⊎ KeptBy cs n a → joint (parts cs aside) n ≡ Some a
          held a (inl h) = h
          held a (inr h) = let two : None ≡ Some a = sym none ∙ kept_was cs n a h in cc

          by : (x : Option Object) → stocks cs aside n ≡ x → stocks cs aside n ≡ joint (parts cs aside) n
          by None t = t ∙ sym (joint_none cs aside n t)
          by (Some a) t = t ∙ sym (held a (stocks_where cs aside n a fill seated t))

      -- and where it has one they have that, or none
      pub stocks_was : (n : ℕ) (o a : Object) → objects_in before n ≡ Some o → stocks cs aside n ≡ Some a → a ≡ o
      stocks_was n o a e t = by (stocks_where cs aside n a fill seated t)
        where
          by : (joint (parts cs aside) n ≡ Some a) ⊎ KeptBy cs n a → a ≡ o
          by (inl h) = absurd (never_clear n o (joint_clear cs aside n a fill seated (placed n) h) e)
          by (inr h) = let two : Some a ≡ Some o = sym (kept_was cs n a h) ∙ e in cc

      -- in a block in which they have an object they have those of the old store
      fill_has : (ds : List Copier) (c : Copier) → AllFill young before ds → AreSeated stores words pieces ds → Has ds c → IsFilling young before c × IsSeated stores words pieces c
      fill_has [] c f s h = absurd h
      fill_has (b ∷ ds) c f s (inl e) = subst (λ z. IsFilling young before z × IsSeated stores words pieces z) e (f.0, s.0)
      fill_has (b ∷ ds) c f s (inr h) = fill_has ds c f.1 s.1 h

      own_over : (c : Copier) (m n : ℕ) (a z : Object) → IsFilling young before c → IsSeated stores words pieces c → lane_of m ≡ before.lane → stored c.own.to.young c.own.to.tenured m ≡ Some a → objects_in before n ≡ Some z → block_of m ≡ block_of n → stored c.own.to.young c.own.to.tenured n ≡ Some z
      own_over c m n a z f s lane e g same =
          let own = by (made_or_kept c m a f e) in
          let here : owner_of c.own.seat.hand.copiers n ≡ c.own.seat.hand.copier = ap (λ b. b % c.own.seat.hand.copiers) (sym same) ∙ own.0 in
          let high = f.below n z g here in
          let low = own.1 in
          let at = lies_in before n z g in
          stored_old c.own.to.young c.own.to.tenured n (λ l. other (sym at.lane ∙ l ∙ f.young_lane)) ∙ (f.there n z g (omega (arith, high, low, same))).0
        where
          from : IsFrom young before.lane f.first m → f.first ≤ block_of m
          from (inl l) = absurd (other (sym lane ∙ l))
          from (inr h) = h.1

          by : (made c.own.to m ≡ Some a) ⊎ ((objects_in before m ≡ Some a) × (owner_of c.own.seat.hand.copiers m ≡ c.own.seat.hand.copier)) → (owner_of c.own.seat.hand.copiers m ≡ c.own.seat.hand.copier) × (f.first ≤ block_of m)
          by (inl h) = (ap (λ k. owner_of k m) s.copiers ∙ s.own m (a, h), from (f.made m (a, h)))
          by (inr h) = (h.1, kept (is_above c.own.to.kept m) refl)
            where
              away : lane_of m ≢ c.own.to.young.lane
              away l = other (sym lane ∙ l ∙ f.young_lane)

              kept : (t : Bool) → is_above c.own.to.kept m ≡ t → f.first ≤ block_of m
              kept true t = from (f.made m (a, made_above c.own.to.young c.own.to.tenured c.own.to.kept m away t ∙ sym (stored_old c.own.to.young c.own.to.tenured m away) ∙ e))
              kept false t = let k = (f.kept m a (sym (stored_old c.own.to.young c.own.to.tenured m away) ∙ e) t).1 in omega (arith, k)

      pub stocks_over : (m n : ℕ) (a z : Object) → lane_of m ≡ before.lane → stocks cs aside m ≡ Some a → objects_in before n ≡ Some z → block_of m ≡ block_of n → stocks cs aside n ≡ Some z
      stocks_over m n a z lane e g same = by (stored_or_moved cs aside m a e)
        where
          has : IsStoredBy cs m a → (x : Option Object) → stocks cs aside n ≡ x → stocks cs aside n ≡ Some z
          has w None t =
              let one = fill_has cs w.c fill seated w.c_is in
              let two : None ≡ Some z = sym (stored_none cs aside n w.c w.c_is t) ∙ own_over w.c m n a z one.0 one.1 lane w.there g same in
              cc
          has w (Some b) t = t ∙ ap (λ y. Some y) (stocks_was n z b g t)

          never : IsPlaced young before m → ⊥
          never (inl l) = other (sym lane ∙ l)
          never (inr h) = h.1 n z g (sym same)

          by : IsStoredBy cs m a ⊎ IsInOne (all_pieces cs aside) m → stocks cs aside n ≡ Some z
          by (inl w) = has w (stocks cs aside n) refl
          by (inr i) = absurd (never (placed m i))
