-- What is passed over in the scan of an object: values that are no references.
use Rattle.std.proofs.Common.{◌≡◌, ◌≢◌, ◌⊎◌, ℕ, zero, suc, ◌+◌, ◌<◌, ◌≤◌, List, Option, Some, None, Bool, refl, ap, ◌∙◌, subst, inl, inr, length, take, arith}
use Rattle.std.specs.Prelude.{slice_get, slice_set, ◌||◌}
use Rattle.std.proofs.lemmas.Bool.{cases_lt}
use Rattle.std.proofs.lemmas.List.{length-set}
use Rattle.std.proofs.lemmas.Option.{slice_get_within}
use Rattle.jm_values.specs.declared.value.Value.{Value}
use Rattle.jm_values.specs.declared.value.Value.TheVariants.{Int, Long, Null, Ref}
use Rattle.jm_values.proofs.Lists.{get_there}
use Rattle.jm_blocks.specs.Objects.{Object, with_value}
use Rattle.jm_blocks.specs.Stores.{Blocks}
use Rattle.jm_forward.specs.declared.rule.Hand.{Hand}
use Rattle.jm_copy.specs.Condemned.{objects_at}
use Rattle.jm_copy.specs.Copies.{made}
use Rattle.jm_copy.specs.Copying.{ForwardedValue}
use Rattle.jm_copy.specs.Marks.{at}
use Rattle.jm_copy.specs.Naming.{NoneNamed, NamesNext}
use Rattle.jm_copy.specs.Pointing.{names_lane, points_to}
use Rattle.jm_copy.specs.declared.copies.Copies.{Copies}
use Rattle.jm_copy.specs.declared.copies.Named.{Named}
use Rattle.jm_copy.proofs.Keeping.{replaced_same}
use Rattle.jm_copy.proofs.Making.{stays_refl}
use Rattle.jm_copy.proofs.Pointing.{points_more}
use Rattle.jm_copy.proofs.Scanning.{IsHere, skipped_points}
use Rattle.jm_par_copy.specs.Pieces.{ForwardsGiven, objects_of}
use Rattle.jm_par_copy.specs.Working.{ForwardsTo, IsWorking, Pairs, both, known_to}
use Rattle.jm_par_copy.specs.declared.piece.Piece.{Piece}
use Rattle.jm_par_copy.proofs.Strides.{goes_refl}
use Rattle.jm_par_copy.proofs.Pieces.{working_given}
use Rattle.jm_par_copy.proofs.Working.{working_set}

-- what one value that is no reference leaves true, many do
passed_over : (To : ℕ → Type 0) (vs : List Value) → ((i : ℕ) (v : Value) → slice_get vs i ≡ Some v → ((q : ℕ) → v ≢ Ref q) → To i → To (i + 1)) → (k j : ℕ) → k ≤ j → j ≤ length vs → NoneNamed vs k j → To k → To j
passed_over To vs step k zero from within none t = let same : k ≡ zero = omega (arith, from) in subst To same t
passed_over To vs step k (suc i) from within none t = by (cases_lt i k) (λ le. passed_over To vs step k i le (omega (arith, within)) (λ n q h b. none n q h (omega (arith, b))) t)
  where
    by : (i < k) ⊎ (k ≤ i) → (k ≤ i → To i) → To (suc i)
    by (inl lt) before = let same : k ≡ suc i = omega (arith, from, lt) in subst To same t
    by (inr le) before =
        let got = get_there vs i (omega (arith, within)) in
        let next : i + 1 ≡ suc i = omega arith in
        subst To next (step i got.0 got.1 (λ q e. none i q le (omega arith) (got.1 ∙ ap (λ v. Some v) e)) (before le))

stays_so : (stores : List Blocks) (known : List (ℕ × ℕ)) (v : Value) → ((q : ℕ) → v ≢ Ref q) → ForwardedValue (objects_at stores) (Pairs stores known) v v
stays_so stores known (Int n) none = refl
stays_so stores known (Long n) none = refl
stays_so stores known Null none = refl
stays_so stores known (Ref q) none = absurd (none q refl)

-- of an object of the copier's own
pub skipped_own : (stores : List Blocks) (roots : List ℕ) (h h' : Hand) (b c : Copies) (p : ℕ) (a : Object) → made c p ≡ Some a → (k j : ℕ) → k ≤ j → j ≤ length a.values → NoneNamed a.values k j → ForwardsTo stores roots h h' b c p k → ForwardsTo stores roots h h' b c p j
skipped_own stores roots h h' b c p a there k j from within none f base held n rest done w =
    passed_over (λ i. IsWorking stores roots base held n rest h' c (at done p i)) a.values
    (λ i v e other now. working_set stores roots base held n rest h' c c done p i a v v now there e (stays_so stores (known_to base h') v other) (replaced_same (made c) p i a v there e) (stays_refl c) (goes_refl h'.copier h'.copiers c))
    k j from within none (f base held n rest done w)

-- and of one in a block that the copier was given
pub skipped_given : (stores : List Blocks) (roots : List ℕ) (h h' : Hand) (b c : Copies) (x y : Piece) (s : ℕ) (a : Object) → ((rest : ℕ → Option Object) → both (objects_of y) rest s ≡ Some a) → (k j : ℕ) → k ≤ j → j ≤ length a.values → NoneNamed a.values k j → ForwardsGiven stores roots h h' b c x y s 0 k → ForwardsGiven stores roots h h' b c x y s 0 j
skipped_given stores roots h h' b c x y s a there k j from within none f base held n rest done w =
    let all = both (objects_of y) rest in
    passed_over (λ i. IsWorking stores roots base held n all h' c (at done s i)) a.values
    (λ i v e other now. working_given stores roots base held n all all h' c done s i a v v now (there rest) e (stays_so stores (known_to base h') v other) (replaced_same all s i a v (there rest) e))
    k j from within none (f base held n rest done w)

-- the scan of an object as far as its value n, and whether one of these names a place of a lane
pub record UpTo (To : ℕ → Type 0) (lane : ℕ) (points : Bool) (a : Object) (n : ℕ) : Type 0 where
  pub to : To n
  pub points_is : points ≡ points_to lane (take n a.values)

-- as far as the next reference, or to its end
abbrev pub Reaches : (ℕ → Type 0) → ℕ → Bool → Object → Option Named → Type 0
Reaches To lane points a None = UpTo To lane points a (length a.values)
Reaches To lane points a (Some r) = UpTo To lane points a r.number × IsHere a r

pub reaches : (To : ℕ → Type 0) (lane : ℕ) (points : Bool) (a : Object) → ((k j : ℕ) → k ≤ j → j ≤ length a.values → NoneNamed a.values k j → To k → To j) → (k : ℕ) (r : Option Named) → k ≤ length a.values → UpTo To lane points a k → NamesNext a k r → Reaches To lane points a r
reaches To lane points a skip k None within u none = record {
  to = skip k (length a.values) within (omega arith) none u.to;
  points_is = u.points_is ∙ skipped_points lane a.values k (length a.values) within (omega arith) none;
}
reaches To lane points a skip k (Some r) within u named =
    let inside = slice_get_within a.values r.number (Ref r.place) named.here in (
      record {
        to = skip k r.number named.from_on (omega (arith, inside)) named.before u.to;
        points_is = u.points_is ∙ skipped_points lane a.values k r.number named.from_on (omega (arith, inside)) named.before;
      },
      record { here = named.here; ended = named.ended },
    )

-- a reference more is forwarded
pub reaches_more : (To After : ℕ → Type 0) (lane : ℕ) (points names : Bool) (a : Object) (v : Value) (r : Named) (next : Option Named) → ((k j : ℕ) → k ≤ j → j ≤ length (slice_set a.values r.number v) → NoneNamed (slice_set a.values r.number v) k j → After k → After j) → Reaches To lane points a (Some r) → (To r.number → After (r.number + 1)) → names ≡ names_lane lane v → NamesNext (with_value a r.number v) (r.number + 1) next → Reaches After lane (points || names) (with_value a r.number v) next
reaches_more To After lane points names a v r next skip u forwards named after =
    let inside = slice_get_within a.values r.number (Ref r.place) u.1.here in
    let many = length-set a.values r.number v in
    reaches After lane (points || names) (with_value a r.number v) skip (r.number + 1) next (omega (arith, inside, many)) (record {
      to = forwards u.0.to;
      points_is = points_more lane a.values r.number v points names inside u.0.points_is named;
    }) after

-- where the next reference is, or none
pub at_reference : (To : ℕ → Type 0) (lane : ℕ) (points : Bool) (a : Object) (r : Option Named) (n : Named) → r ≡ Some n → Reaches To lane points a r → UpTo To lane points a n.number × IsHere a n
at_reference To lane points a r n e h = subst (λ x. Reaches To lane points a x) e h

pub at_end : (To : ℕ → Type 0) (lane : ℕ) (points : Bool) (a : Object) (r : Option Named) → r ≡ None → Reaches To lane points a r → UpTo To lane points a (length a.values)
at_end To lane points a r e h = subst (λ x. Reaches To lane points a x) e h
