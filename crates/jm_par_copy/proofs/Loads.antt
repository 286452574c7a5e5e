-- What copiers hold is put into two stores.
use Rattle.std.proofs.Common.{◌≡◌, ◌≢◌, ◌⊎◌, ℕ, suc, List, [], ◌∷◌, Option, Some, None, true, false, refl, sym, ap, ◌∙◌, subst, inl, inr}
use Rattle.std.specs.Prelude.{nat_eq}
use Rattle.std.proofs.lemmas.Bool.Decides.{eqb_tells}
use Rattle.jm_program.proofs.Truths.{both_true}
use Rattle.jm_program.proofs.Numbers.{equal}
use Rattle.jm_blocks.specs.Objects.{Object}
use Rattle.jm_blocks.specs.Places.{block_of, lane_of}
use Rattle.jm_blocks.specs.Stores.{Blocks, IsEmpty, objects_in}
use Rattle.jm_blocks.proofs.Placing.{elsewhere, lies_in}
use Rattle.jm_par_copy.specs.Ending.{AllLoads, AreLoads, IsBeside, IsLoad, IsLoaded, stock, stocks, stored}
use Rattle.jm_par_copy.specs.Holding.{held_objects}
use Rattle.jm_par_copy.specs.Merging.{AreBeside}
use Rattle.jm_par_copy.specs.Pieces.{objects_of}
use Rattle.jm_par_copy.specs.Working.{both, or_else}
use Rattle.jm_par_copy.specs.declared.piece.Piece.{Piece}
use Rattle.jm_par_copy.specs.declared.copier.Copier.{Copier}
use Rattle.jm_par_copy.proofs.Aside.{is_there}
use Rattle.jm_par_copy.proofs.Beside.{apart_back, held_aside}
use Rattle.jm_par_copy.proofs.Pieces.{objects_elsewhere}
use Rattle.jm_par_copy.proofs.Sharing.{both_left, both_right}
use Rattle.jm_par_copy.proofs.Stocks.{stored_old, stored_young}

-- one after the other, in whatever order
pub both_then : (f g h : ℕ → Option Object) (n : ℕ) → both (both f g) h n ≡ both f (both g h) n
unfolding both
both_then f g h n = by (f n)
  where
    by : (x : Option Object) → or_else (or_else x (g n)) (h n) ≡ or_else x (or_else (g n) (h n))
    by None = refl
    by (Some o) = refl

pub both_none : (f g : ℕ → Option Object) (n : ℕ) → g n ≡ None → both f g n ≡ f n
both_none f g n e = by (f n) refl
  where
    by : (x : Option Object) → f n ≡ x → both f g n ≡ f n
    by None t = both_right f g n t ∙ e ∙ sym t
    by (Some o) t = both_left f g n o t ∙ sym t

pub both_swap : (f g : ℕ → Option Object) (n : ℕ) → ((a : Object) → f n ≡ Some a → g n ≡ None) → both f g n ≡ both g f n
both_swap f g n h = by (f n) refl
  where
    by : (x : Option Object) → f n ≡ x → both f g n ≡ both g f n
    by None t = both_right f g n t ∙ sym (both_none g f n t)
    by (Some o) t = both_left f g n o t ∙ sym (both_right g f n (h o t) ∙ t)

first_same : (f g h : ℕ → Option Object) (n : ℕ) → f n ≡ g n → both f h n ≡ both g h n
unfolding both
first_same f g h n e = ap (λ x. or_else x (h n)) e

-- where the other has one it has none
pub none_where : (f g : ℕ → Option Object) (n : ℕ) (b : Object) → ((a : Object) → f n ≡ Some a → g n ≡ None) → g n ≡ Some b → f n ≡ None
none_where f g n b h e = by (f n) refl
  where
    by : (x : Option Object) → f n ≡ x → f n ≡ None
    by None t = t
    by (Some a) t = let two : None ≡ Some b = sym (h a t) ∙ e in cc

module _ (f g : ℕ → Option Object) (young old : Blocks) where
  pub loaded_as : (young' old' : Blocks) → ((n : ℕ) → f n ≡ g n) → IsLoaded f young old young' old' → IsLoaded g young old young' old'
  loaded_as young' old' same l = record {
    young_lane = l.young_lane;
    old_lane = l.old_lane;
    all = λ n. l.all n ∙ (let whole : f ≡ g = λ t m. same m t in ap (λ h. both (stored young old) h n) whole);
  }

  pub loaded_then : (a b a' b' : Blocks) → IsLoaded f young old a b → IsLoaded g a b a' b' → IsLoaded (both f g) young old a' b'
  loaded_then a b a' b' l m = record {
    young_lane = m.young_lane ∙ l.young_lane;
    old_lane = m.old_lane ∙ l.old_lane;
    all = λ n. m.all n ∙ (let whole : stored a b ≡ both (stored young old) f = λ t k. l.all k t in ap (λ h. both h g n) whole) ∙ both_then (stored young old) f g n;
  }

  pub beside_first : IsBeside (both f g) young old → IsBeside f young old
  beside_first h n a e = h n a (both_left f g n a e)

  pub beside_then : (a b : Blocks) → IsLoaded f young old a b → IsBeside (both f g) young old → ((n : ℕ) (c : Object) → g n ≡ Some c → f n ≡ None) → IsBeside g a b
  beside_then a b l h apart n c e =
      let none = apart n c e in
      l.all n ∙ both_none (stored young old) f n none ∙ h n c (both_right f g n none ∙ e)

module _ (f : ℕ → Option Object) (young old now : Blocks) where
  pub loaded_young : now.lane ≡ young.lane → ((n : ℕ) (a : Object) → f n ≡ Some a → lane_of n ≡ young.lane) → ((n : ℕ) → objects_in now n ≡ both (objects_in young) f n) → IsLoaded f young old now old
  loaded_young lane lies all = record { young_lane = lane; old_lane = refl; all = λ n. by n (eqb_tells (lane_of n) young.lane) }
    where
      away : (n : ℕ) → lane_of n ≢ young.lane → (x : Option Object) → f n ≡ x → f n ≡ None
      away n h None t = t
      away n h (Some a) t = absurd (h (lies n a t))

      young_is : (n : ℕ) → lane_of n ≡ young.lane → objects_in young n ≡ stored young old n
      young_is n h = sym (stored_young young old n h)

      by : (n : ℕ) → ((nat_eq (lane_of n) young.lane ≡ true) × (lane_of n ≡ young.lane)) ⊎ ((nat_eq (lane_of n) young.lane ≡ false) × (lane_of n ≢ young.lane)) → stored now old n ≡ both (stored young old) f n
      by n (inl h) = stored_young now old n (h.1 ∙ sym lane) ∙ all n ∙ first_same (objects_in young) (stored young old) f n (young_is n h.1)
      by n (inr h) = stored_old now old n (λ e. h.1 (e ∙ lane)) ∙ sym (stored_old young old n h.1) ∙ sym (both_none (stored young old) f n (away n h.1 (f n) refl))

  pub loaded_old : young.lane ≢ old.lane → now.lane ≡ old.lane → ((n : ℕ) (a : Object) → f n ≡ Some a → lane_of n ≡ old.lane) → ((n : ℕ) → objects_in now n ≡ both (objects_in old) f n) → IsLoaded f young old young now
  loaded_old other lane lies all = record { young_lane = refl; old_lane = lane; all = λ n. by n (eqb_tells (lane_of n) young.lane) }
    where
      away : (n : ℕ) → lane_of n ≡ young.lane → (x : Option Object) → f n ≡ x → f n ≡ None
      away n h None t = t
      away n h (Some a) t = absurd (other (sym h ∙ lies n a t))

      by : (n : ℕ) → ((nat_eq (lane_of n) young.lane ≡ true) × (lane_of n ≡ young.lane)) ⊎ ((nat_eq (lane_of n) young.lane ≡ false) × (lane_of n ≢ young.lane)) → stored young now n ≡ both (stored young old) f n
      by n (inl h) = stored_young young now n h.1 ∙ sym (stored_young young old n h.1) ∙ sym (both_none (stored young old) f n (away n h.1 (f n) refl))
      by n (inr h) = stored_old young now n h.1 ∙ all n ∙ first_same (objects_in old) (stored young old) f n (sym (stored_old young old n h.1))

-- a block is put into the store of its lane
piece_lies : (x : Piece) (n : ℕ) (a : Object) → objects_of x n ≡ Some a → lane_of n ≡ x.lane
piece_lies x n a e = equal (lane_of n) x.lane (both_true (nat_eq (lane_of n) x.lane) (nat_eq (block_of n) x.number) (is_there x n a e)).0

module _ (x : Piece) (young old : Blocks) (beside : IsBeside (objects_of x) young old) where
  pub young_is_free : x.lane ≡ young.lane → (n : ℕ) (a : Object) → objects_of x n ≡ Some a → objects_in young n ≡ None
  young_is_free lane n a e = sym (stored_young young old n (piece_lies x n a e ∙ lane)) ∙ beside n a e

  pub old_is_free : young.lane ≢ old.lane → x.lane ≡ old.lane → (n : ℕ) (a : Object) → objects_of x n ≡ Some a → objects_in old n ≡ None
  old_is_free other lane n a e = sym (stored_old young old n (λ h. other (sym h ∙ piece_lies x n a e ∙ lane))) ∙ beside n a e

  pub piece_young : (now : Blocks) → x.lane ≡ young.lane → now.lane ≡ young.lane → ((n : ℕ) → objects_in now n ≡ both (objects_of x) (objects_in young) n) → IsLoaded (objects_of x) young old now old
  piece_young now lane same all = loaded_young (objects_of x) young old now same (λ n a e. piece_lies x n a e ∙ lane) (λ n. all n ∙ both_swap (objects_of x) (objects_in young) n (λ a e. young_is_free lane n a e))

  pub piece_old : (now : Blocks) → young.lane ≢ old.lane → x.lane ≡ old.lane → now.lane ≡ old.lane → ((n : ℕ) → objects_in now n ≡ both (objects_of x) (objects_in old) n) → IsLoaded (objects_of x) young old young now
  piece_old now other lane same all = loaded_old (objects_of x) young old now other same (λ n a e. piece_lies x n a e ∙ lane) (λ n. all n ∙ both_swap (objects_of x) (objects_in old) n (λ a e. old_is_free other lane n a e))

-- a list of blocks, one after the other
pub record ArePut (first_young first_old : Blocks) (xs : List Piece) (young old : Blocks) (rest : List Piece) : Type 0 where
  pub young_lane : young.lane ≡ first_young.lane
  pub old_lane : old.lane ≡ first_old.lane
  pub loads : AreLoads young.lane old.lane rest
  pub beside : IsBeside (held_objects rest) young old
  pub all : (n : ℕ) → both (stored young old) (held_objects rest) n ≡ both (stored first_young first_old) (held_objects xs) n

pub loads_as : (a b a' b' : ℕ) (xs : List Piece) → a' ≡ a → b' ≡ b → AreLoads a b xs → AreLoads a' b' xs
loads_as a b a' b' xs e f l = subst (λ k. AreLoads k b' xs) (sym e) (subst (λ k. AreLoads a k xs) (sym f) l)

rest_loads : (young old : ℕ) (x : Piece) (xs : List Piece) → AreLoads young old (x ∷ xs) → AreLoads young old xs
rest_loads young old x xs l = record { pieces = λ i y e. l.pieces (suc i) y e; lanes = λ i y e. l.lanes (suc i) y e; apart = l.apart.1 }

pub none_put : (young old : Blocks) (xs : List Piece) → AreLoads young.lane old.lane xs → IsBeside (held_objects xs) young old → ArePut young old xs young old xs
none_put young old xs l h = record { young_lane = refl; old_lane = refl; loads = l; beside = h; all = λ n. refl }

pub one_put : (a b young old young' old' : Blocks) (xs rest : List Piece) (x : Piece) → ArePut a b xs young old (x ∷ rest) → IsLoaded (objects_of x) young old young' old' → ArePut a b xs young' old' rest
one_put a b young old young' old' xs rest x p l = record {
  young_lane = l.young_lane ∙ p.young_lane;
  old_lane = l.old_lane ∙ p.old_lane;
  loads = loads_as young.lane old.lane young'.lane old'.lane rest l.young_lane l.old_lane (rest_loads young.lane old.lane x rest p.loads);
  beside = beside_then (objects_of x) (held_objects rest) young old young' old' l p.beside (λ n c e. objects_elsewhere x n (held_aside rest x (λ j z f. apart_back x z (p.loads.apart.0 j z f)) n c e));
  all = λ n.
      (let whole : stored young' old' ≡ both (stored young old) (objects_of x) = λ t k. l.all k t in ap (λ h. both h (held_objects rest) n) whole)
      ∙ both_then (stored young old) (objects_of x) (held_objects rest) n
      ∙ p.all n;
}

pub all_put : (a b young old : Blocks) (xs : List Piece) → ArePut a b xs young old [] → IsLoaded (held_objects xs) a b young old
all_put a b young old xs p = record { young_lane = p.young_lane; old_lane = p.old_lane; all = λ n. sym (both_none (stored young old) (held_objects []) n refl) ∙ p.all n }

-- a copier's own stores
module _ (c : Copier) (young old : Blocks) (other : young.lane ≢ old.lane) (load : IsLoad young.lane old.lane c) where
  pub own_young_beside : IsBeside (stored c.own.to.young c.own.to.tenured) young old → AreBeside c.own.to.young young
  own_young_beside h n p q =
      let at = lies_in c.own.to.young n p.0 p.1 in
      let lane : lane_of n ≡ young.lane = at.lane ∙ load.young_lane in
      let none = h n p.0 (stored_young c.own.to.young c.own.to.tenured n at.lane ∙ p.1) in
      let two : None ≡ Some q.0 = sym none ∙ stored_young young old n lane ∙ q.1 in
      cc

  old_away : (n : ℕ) → lane_of n ≡ c.own.to.tenured.lane → lane_of n ≢ c.own.to.young.lane
  old_away n e h = other (sym load.young_lane ∙ sym h ∙ e ∙ load.old_lane)

  pub own_old_beside : IsBeside (stored c.own.to.young c.own.to.tenured) young old → AreBeside c.own.to.tenured old
  own_old_beside h n p q =
      let at = lies_in c.own.to.tenured n p.0 p.1 in
      let away = old_away n at.lane in
      let none = h n p.0 (stored_old c.own.to.young c.own.to.tenured n away ∙ p.1) in
      let two : None ≡ Some q.0 = sym none ∙ stored_old young old n (λ e. away (e ∙ sym load.young_lane)) ∙ q.1 in
      cc

  own_both : (n : ℕ) → both (objects_in c.own.to.young) (objects_in c.own.to.tenured) n ≡ stored c.own.to.young c.own.to.tenured n
  own_both n = by (eqb_tells (lane_of n) c.own.to.young.lane)
    where
      by : ((nat_eq (lane_of n) c.own.to.young.lane ≡ true) × (lane_of n ≡ c.own.to.young.lane)) ⊎ ((nat_eq (lane_of n) c.own.to.young.lane ≡ false) × (lane_of n ≢ c.own.to.young.lane)) → both (objects_in c.own.to.young) (objects_in c.own.to.tenured) n ≡ stored c.own.to.young c.own.to.tenured n
      by (inl h) = both_none (objects_in c.own.to.young) (objects_in c.own.to.tenured) n (elsewhere c.own.to.tenured n (λ e. old_away n e h.1)) ∙ sym (stored_young c.own.to.young c.own.to.tenured n h.1)
      by (inr h) = both_right (objects_in c.own.to.young) (objects_in c.own.to.tenured) n (elsewhere c.own.to.young n h.1) ∙ sym (stored_old c.own.to.young c.own.to.tenured n h.1)

  pub own_loaded : (young' old' : Blocks) → young'.lane ≡ young.lane → old'.lane ≡ old.lane → ((n : ℕ) → objects_in young' n ≡ both (objects_in young) (objects_in c.own.to.young) n) → ((n : ℕ) → objects_in old' n ≡ both (objects_in old) (objects_in c.own.to.tenured) n) → IsLoaded (stored c.own.to.young c.own.to.tenured) young old young' old'
  own_loaded young' old' e f g h =
      let first = loaded_young (objects_in c.own.to.young) young old young' e (λ n a t. let at = lies_in c.own.to.young n a t in at.lane ∙ load.young_lane) g in
      let second = loaded_old (objects_in c.own.to.tenured) young' old old' (λ t. other (sym e ∙ t)) f (λ n a t. let at = lies_in c.own.to.tenured n a t in at.lane ∙ load.old_lane) h in
      loaded_as (both (objects_in c.own.to.young) (objects_in c.own.to.tenured)) (stored c.own.to.young c.own.to.tenured) young old young' old' own_both (loaded_then (objects_in c.own.to.young) (objects_in c.own.to.tenured) young old young' old young' old' first second)

  -- and then its given blocks
  pub given_loads : (young' old' : Blocks) → IsLoaded (stored c.own.to.young c.own.to.tenured) young old young' old' → AreLoads young'.lane old'.lane c.given.items
  given_loads young' old' l = loads_as young.lane old.lane young'.lane old'.lane c.given.items l.young_lane l.old_lane load.given

  pub given_beside : (young' old' : Blocks) → IsLoaded (stored c.own.to.young c.own.to.tenured) young old young' old' → IsBeside (stock c) young old → IsBeside (held_objects c.given.items) young' old'
  given_beside young' old' l h = beside_then (stored c.own.to.young c.own.to.tenured) (held_objects c.given.items) young old young' old' l h (λ n b e. none_where (stored c.own.to.young c.own.to.tenured) (held_objects c.given.items) n b (λ a t. load.once n a t) e)

-- all copiers
pub all_loads_as : (a b a' b' : ℕ) (cs : List Copier) (aside : List Piece) → a' ≡ a → b' ≡ b → AllLoads a b cs aside → AllLoads a' b' cs aside
all_loads_as a b a' b' cs aside e f l = subst (λ k. AllLoads k b' cs aside) (sym e) (subst (λ k. AllLoads a k cs aside) (sym f) l)

module _ (c : Copier) (cs : List Copier) (aside : List Piece) (young old young' old' : Blocks) (loads : AllLoads young.lane old.lane (c ∷ cs) aside) (l : IsLoaded (stock c) young old young' old') where
  pub rest_beside : IsBeside (stocks (c ∷ cs) aside) young old → IsBeside (stocks cs aside) young' old'
  rest_beside h = beside_then (stock c) (stocks cs aside) young old young' old' l h (λ n b e. none_where (stock c) (stocks cs aside) n b (λ a t. loads.1 n a t) e)

  pub rest_all_loads : AllLoads young'.lane old'.lane cs aside
  rest_all_loads = all_loads_as young.lane old.lane young'.lane old'.lane cs aside l.young_lane l.old_lane loads.2

  pub rest_loaded : (a b : Blocks) → IsLoaded (stocks cs aside) young' old' a b → IsLoaded (stocks (c ∷ cs) aside) young old a b
  rest_loaded a b m = loaded_then (stock c) (stocks cs aside) young old young' old' a b l m

pub first_beside : (young old : Blocks) (x : Piece) (rest : List Piece) → IsBeside (held_objects (x ∷ rest)) young old → IsBeside (objects_of x) young old
first_beside young old x rest h = beside_first (objects_of x) (held_objects rest) young old h

pub other_lane : (x : Piece) (young old : Blocks) → (x.lane ≡ young.lane) ⊎ (x.lane ≡ old.lane) → x.lane ≢ young.lane → x.lane ≡ old.lane
other_lane x young old (inl e) h = absurd (h e)
other_lane x young old (inr e) h = e

-- two stores without objects
pub none_stored : (young old : Blocks) (n : ℕ) → IsEmpty young → IsEmpty old → stored young old n ≡ None
none_stored young old n e f = by (eqb_tells (lane_of n) young.lane)
  where
    by : ((nat_eq (lane_of n) young.lane ≡ true) × (lane_of n ≡ young.lane)) ⊎ ((nat_eq (lane_of n) young.lane ≡ false) × (lane_of n ≢ young.lane)) → stored young old n ≡ None
    by (inl h) = stored_young young old n h.1 ∙ e n
    by (inr h) = stored_old young old n h.1 ∙ f n

pub loaded_alone : (f : ℕ → Option Object) (young old young' old' : Blocks) → IsEmpty young → IsEmpty old → IsLoaded f young old young' old' → (n : ℕ) → stored young' old' n ≡ f n
loaded_alone f young old young' old' e g l n = l.all n ∙ both_right (stored young old) f n (none_stored young old n e g)

-- where there is no copier
pub alone_beside : (cs : List Copier) (aside : List Piece) (young old : Blocks) → cs ≡ [] → IsBeside (stocks cs aside) young old → IsBeside (held_objects aside) young old
alone_beside cs aside young old e h n a f =
    let here : stocks cs aside n ≡ Some a = ap (λ (xs : List Copier). stocks xs aside n) e ∙ f in
    h n a here

pub alone_loaded : (cs : List Copier) (aside : List Piece) (young old young' old' : Blocks) → cs ≡ [] → IsLoaded (held_objects aside) young old young' old' → IsLoaded (stocks cs aside) young old young' old'
alone_loaded cs aside young old young' old' e l = loaded_as (held_objects aside) (stocks cs aside) young old young' old' (λ n. sym (ap (λ (xs : List Copier). stocks xs aside n) e)) l
