-- The list of what points to young ones grows with the scan of a block.
use Rattle.std.proofs.Common.{◌≡◌, ◌≢◌, ◌⊎◌, ℕ, ◌+◌, ◌<◌, List, [], ◌∷◌, ◌++◌, Option, Some, None, Bool, true, false, cond, refl, sym, ap, ◌∙◌, subst, inl, inr, length, arith}
use Rattle.std.specs.Prelude.{nat_eq, nat_lt, slice_get, slice_set}
use Rattle.std.proofs.lemmas.Bool.{le-ltb, lt-ltb}
use Rattle.std.proofs.lemmas.Bool.Decides.{eqb_tells}
use Rattle.std.proofs.lemmas.Option.{slice_get_within}
use Rattle.jm_program.proofs.Sequences.{got_written, got_unwritten}
use Rattle.jm_values.specs.Shape.{Among}
use Rattle.jm_values.proofs.Among.{among_left, among_right, among_or_last}
use Rattle.jm_blocks.specs.Objects.{Object}
use Rattle.jm_blocks.specs.Places.{index_of}
use Rattle.jm_blocks.proofs.Placing.{index_put}
use Rattle.jm_copy.specs.Pointing.{ListsPointers, points_to}
use Rattle.jm_copy.proofs.Pointing.{distinct_push}
use Rattle.jm_par_copy.specs.Notes.{AreNoted, IsNoted, scanned_in}
use Rattle.jm_par_copy.specs.Pieces.{IsPiece, OthersAre, is_in, objects_of, place_in}
use Rattle.jm_par_copy.specs.declared.piece.Piece.{Piece}
use Rattle.jm_par_copy.proofs.Pieces.{in_is, object_here, objects_elsewhere, objects_in_it, place_same, same_side}

-- with one object more, which is listed if it points into the lane
pub pointers_more : (lane : ℕ) (f g : ℕ → Option Object) (q : ℕ) (o : Object) (places more : List ℕ) → ListsPointers lane f places → f q ≡ None → g q ≡ Some o → ((n : ℕ) → n ≢ q → g n ≡ f n) → more ≡ cond (points_to lane o.values) (places ++ q ∷ []) places → ListsPointers lane g more
pointers_more lane f g q o places more l none here others e = by (points_to lane o.values) refl e
  where
    apart : (p : ℕ) (a : Object) → f p ≡ Some a → p ≢ q
    apart p a h i = let two : None ≡ Some a = sym none ∙ ap f (sym i) ∙ h in cc

    old : (p : ℕ) → Among p places → (a : Object) × (g p ≡ Some a) × (points_to lane a.values ≡ true)
    old p h = let has = l.sound p h in (has.0, others p (apart p has.0 has.1) ∙ has.1, has.2)

    by : (b : Bool) → points_to lane o.values ≡ b → more ≡ cond b (places ++ q ∷ []) places → ListsPointers lane g more
    by true t e = subst (λ ps. ListsPointers lane g ps) (sym e) (record {
      sound = λ p h. new p (among_or_last p q places h);
      complete = λ p a h d. all p a h d (eqb_tells p q);
      distinct = distinct_push q places l.distinct (λ h. let has = l.sound q h in apart q has.0 has.1 refl);
    })
      where
        new : (p : ℕ) → Among p places ⊎ (p ≡ q) → (a : Object) × (g p ≡ Some a) × (points_to lane a.values ≡ true)
        new p (inl h) = old p h
        new p (inr h) = (o, ap g h ∙ here, t)

        all : (p : ℕ) (a : Object) → g p ≡ Some a → points_to lane a.values ≡ true → ((nat_eq p q ≡ true) × (p ≡ q)) ⊎ ((nat_eq p q ≡ false) × (p ≢ q)) → Among p (places ++ q ∷ [])
        all p a h d (inl i) = let last : Among p (q ∷ []) = inl i.1 in among_right p places (q ∷ []) last
        all p a h d (inr i) = among_left p places (q ∷ []) (l.complete p a (sym (others p i.1) ∙ h) d)
    by false t e = subst (λ ps. ListsPointers lane g ps) (sym e) (record {
      sound = old;
      complete = λ p a h d. all p a h d (eqb_tells p q);
      distinct = l.distinct;
    })
      where
        all : (p : ℕ) (a : Object) → g p ≡ Some a → points_to lane a.values ≡ true → ((nat_eq p q ≡ true) × (p ≡ q)) ⊎ ((nat_eq p q ≡ false) × (p ≢ q)) → Among p places
        all p a h d (inl i) =
            let two : Some o ≡ Some a = sym here ∙ ap g (sym i.1) ∙ h in
            let same : o ≡ a = cc in
            let both : true ≡ false = sym d ∙ ap (λ (x : Object). points_to lane x.values) (sym same) ∙ t in cc
        all p a h d (inr i) = l.complete p a (sym (others p i.1) ∙ h) d

-- where nothing is, nothing is listed, and what is listed there may be
none_listed : (lane : ℕ) (f g : ℕ → Option Object) (places : List ℕ) → ((n : ℕ) → f n ≡ None) → ((n : ℕ) → g n ≡ None) → ListsPointers lane f places → ListsPointers lane g places
none_listed lane f g places empty none l = record {
  sound = λ p h. let has = l.sound p h in let two : None ≡ Some has.0 = sym (empty p) ∙ has.1 in absurd cc;
  complete = λ p o h d. let two : None ≡ Some o = sym (none p) ∙ h in absurd cc;
  distinct = l.distinct;
}

-- what is scanned of a young block and of an old one
scanned_young : (x : Piece) → nat_eq x.lane 1 ≡ true → (n : ℕ) → scanned_in x n ≡ None
unfolding scanned_in
scanned_young x e n = ap (λ b. cond b None (cond (nat_lt (index_of n) x.mark) (objects_of x n) None)) e

scanned_old : (x : Piece) → nat_eq x.lane 1 ≡ false → (n : ℕ) → scanned_in x n ≡ cond (nat_lt (index_of n) x.mark) (objects_of x n) None
unfolding scanned_in
scanned_old x e n = ap (λ b. cond b None (cond (nat_lt (index_of n) x.mark) (objects_of x n) None)) e

module _ (x z : Piece) (a : Object) (piece : IsPiece x) (few : x.mark < 256) (lane : z.lane ≡ x.lane) (number : z.number ≡ x.number) (mark : z.mark ≡ x.mark + 1) (many : length z.block ≡ length x.block) (others : OthersAre x z x.mark) (there : slice_get z.block x.mark ≡ Some a) where
  abbrev pub q : ℕ
  q = place_in x x.mark

  old_z : nat_eq x.lane 1 ≡ false → nat_eq z.lane 1 ≡ false
  old_z e = ap (λ l. nat_eq l 1) lane ∙ e

  before : nat_eq x.lane 1 ≡ false → scanned_in x q ≡ None
  before e = scanned_old x e q ∙ ap (λ i. cond (nat_lt i x.mark) (objects_of x q) None) (index_put x.lane x.number x.mark few) ∙ ap (λ b. cond b (objects_of x q) None) (le-ltb x.mark x.mark (omega arith))

  place : q ≡ place_in z x.mark
  place = place_same x z x.mark (record { lane = lane; number = number; many = many })

  here : nat_eq x.lane 1 ≡ false → scanned_in z q ≡ Some a
  here e =
      let below = piece.lane in
      let within : nat_lt x.mark z.mark ≡ true = lt-ltb x.mark z.mark (omega (arith, mark)) in
      scanned_old z (old_z e) q
      ∙ ap (λ i. cond (nat_lt i z.mark) (objects_of z q) None) (index_put x.lane x.number x.mark few)
      ∙ ap (λ b. cond b (objects_of z q) None) within
      ∙ ap (objects_of z) place ∙ object_here z x.mark (omega (arith, below, lane)) few ∙ there

  same_in : (n : ℕ) → is_in z n ≡ is_in x n
  same_in n = ap (λ l. is_in (record { lane = l; number = z.number; block = z.block; mark = z.mark; pointing = z.pointing }) n) lane ∙ ap (λ b. is_in (record { lane = x.lane; number = b; block = z.block; mark = z.mark; pointing = z.pointing }) n) number

  apart : nat_eq x.lane 1 ≡ false → (n : ℕ) → n ≢ q → scanned_in z n ≡ scanned_in x n
  apart e n other = by (is_in x n) refl
    where
      by : (b : Bool) → is_in x n ≡ b → scanned_in z n ≡ scanned_in x n
      by false t =
          let z_none = objects_elsewhere z n (same_in n ∙ t) in
          let x_none = objects_elsewhere x n t in
          scanned_old z (old_z e) n ∙ none (nat_lt (index_of n) z.mark) (objects_of z n) z_none ∙ sym (scanned_old x e n ∙ none (nat_lt (index_of n) x.mark) (objects_of x n) x_none)
        where
          none : (b : Bool) (o : Option Object) → o ≡ None → cond b o None ≡ None
          none true o f = f
          none false o f = refl
      by true t =
          let away : index_of n ≢ x.mark = λ h. other (in_is x n t ∙ ap (place_in x) h) in
          let same : objects_of z n ≡ objects_of x n = objects_in_it z n (same_in n ∙ t) ∙ others (index_of n) away ∙ sym (objects_in_it x n t) in
          scanned_old z (old_z e) n
          ∙ ap (λ m. cond (nat_lt (index_of n) m) (objects_of z n) None) mark
          ∙ ap (λ b. cond b (objects_of z n) None) (sym (same_side (index_of n) x.mark away))
          ∙ ap (λ o. cond (nat_lt (index_of n) x.mark) o None) same
          ∙ sym (scanned_old x e n)

  -- the object at the mark is scanned, and listed if it is an old one that points to a young one
  pub noted_scanned : (points : Bool) → points ≡ points_to 1 a.values → (x.lane ≡ 1 → z.pointing.items ≡ x.pointing.items) → (x.lane ≢ 1 → z.pointing.items ≡ cond points (x.pointing.items ++ q ∷ []) x.pointing.items) → IsNoted x → IsNoted z
  noted_scanned points is young old l = by (eqb_tells x.lane 1)
    where
      by : ((nat_eq x.lane 1 ≡ true) × (x.lane ≡ 1)) ⊎ ((nat_eq x.lane 1 ≡ false) × (x.lane ≢ 1)) → IsNoted z
      by (inl h) = subst (λ ps. ListsPointers 1 (scanned_in z) ps) (sym (young h.1)) (none_listed 1 (scanned_in x) (scanned_in z) x.pointing.items (scanned_young x h.0) (scanned_young z (ap (λ l. nat_eq l 1) lane ∙ h.0)) l)
      by (inr h) = pointers_more 1 (scanned_in x) (scanned_in z) q a x.pointing.items z.pointing.items l (before h.0) (here h.0) (apart h.0) (old h.1 ∙ ap (λ b. cond b (x.pointing.items ++ q ∷ []) x.pointing.items) is)

-- one block of several is scanned
pub noted_set : (xs : List Piece) (n : ℕ) (x y : Piece) → slice_get xs n ≡ Some x → (IsNoted x → IsNoted y) → AreNoted xs → AreNoted (slice_set xs n y)
noted_set xs n x y at one all i z e = by (eqb_tells i n)
  where
    by : ((nat_eq i n ≡ true) × (i ≡ n)) ⊎ ((nat_eq i n ≡ false) × (i ≢ n)) → IsNoted z
    by (inl h) =
        let here : Some y ≡ Some z = sym (got_written xs n y (slice_get_within xs n x at)) ∙ ap (slice_get (slice_set xs n y)) (sym h.1) ∙ e in
        let same : y ≡ z = cc in
        subst (λ p. IsNoted p) same (one (all n x at))
    by (inr h) = all i z (sym (got_unwritten xs n i y h.1) ∙ e)
