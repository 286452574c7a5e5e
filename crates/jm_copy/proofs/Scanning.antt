-- What is passed over in the scan of an object: values that are no references.
use Rattle.std.proofs.Common.{◌≡◌, ◌≢◌, ◌⊎◌, ℕ, zero, suc, ◌+◌, ◌-◌, ◌<◌, ◌≤◌, List, Option, Some, None, Bool, true, false, refl, sym, ap, ◌∙◌, subst, inl, inr, length, take, arith}
use Rattle.std.specs.Prelude.{slice_get, slice_set, ◌||◌, IfSome}
use Rattle.std.proofs.lemmas.Bool.{cases_lt}
use Rattle.std.proofs.lemmas.List.{length-set}
use Rattle.std.proofs.lemmas.Option.{slice_get_within}
use Rattle.jm_program.proofs.Sequences.{got_unwritten}
use Rattle.jm_heap.specs.Elements.{is_plain}
use Rattle.jm_heap.specs.Packing.{Fits, kind_of}
use Rattle.jm_heap.specs.declared.storage.Storage.{Storage as Kind}
use Rattle.jm_heap.specs.declared.storage.Storage.TheVariants as kind
use Rattle.jm_values.specs.declared.value.Value.{Value}
use Rattle.jm_values.specs.declared.value.Value.TheVariants.{Int, Long, Null, Ref}
use Rattle.jm_values.proofs.Lists.{get_there}
use Rattle.jm_blocks.specs.Objects.{Object, with_value}
use Rattle.jm_blocks.specs.Stores.{Blocks}
use Rattle.jm_copy.specs.Condemned.{objects_at}
use Rattle.jm_copy.specs.Copies.{IsCopying, made}
use Rattle.jm_copy.specs.Copying.{ForwardedValue, Moves, Progress}
use Rattle.jm_copy.specs.Marks.{at, ForwardsValue}
use Rattle.jm_copy.specs.Naming.{IsEnded, NoneNamed, NamesNext}
use Rattle.jm_copy.specs.Pointing.{names_lane, points_to}
use Rattle.jm_copy.specs.Words.{moved}
use Rattle.jm_copy.specs.declared.copies.Copies.{Copies}
use Rattle.jm_copy.specs.declared.copies.Named.{Named}
use Rattle.jm_copy.proofs.Keeping.{set_copying, replaced_same, same_value}
use Rattle.jm_copy.proofs.Making.{stays_refl}
use Rattle.jm_copy.proofs.Pointing.{points_more}

-- a reference fits where values do not lie plain
pub reference_fits : (k : Kind) → is_plain k ≡ false → (p : ℕ) → Fits k (Ref p)
reference_fits kind.Fields e p = tt
reference_fits kind.References e p = tt
reference_fits kind.Bytes e p = cc
reference_fits kind.Chars e p = cc
reference_fits kind.Shorts e p = cc
reference_fits kind.Ints e p = cc
reference_fits kind.Longs e p = cc

-- one value more that is none
pub none_more : (vs : List Value) (k j : ℕ) (v : Value) → NoneNamed vs k j → slice_get vs j ≡ Some v → ((p : ℕ) → v ≢ Ref p) → NoneNamed vs k (j + 1)
none_more vs k j v none e other i p from below h = by (cases_lt i j)
  where
    by : (i < j) ⊎ (j ≤ i) → ⊥
    by (inl lt) = none i p from lt h
    by (inr le) =
        let at : i ≡ j = omega (arith, below, le) in
        let both : Some v ≡ Some (Ref p) = sym e ∙ ap (slice_get vs) (sym at) ∙ h in
        let same : v ≡ Ref p = cc in
        other p same

-- or one value less from which on there is none
pub none_less : (vs : List Value) (k j : ℕ) (v : Value) → NoneNamed vs (k + 1) j → slice_get vs k ≡ Some v → ((p : ℕ) → v ≢ Ref p) → NoneNamed vs k j
none_less vs k j v none e other i p from below h = by (cases_lt k i)
  where
    by : (k < i) ⊎ (i ≤ k) → ⊥
    by (inl lt) = none i p (omega (arith, lt)) below h
    by (inr le) =
        let at : k ≡ i = omega (arith, from, le) in
        let both : Some v ≡ Some (Ref p) = sym e ∙ ap (slice_get vs) at ∙ h in
        let same : v ≡ Ref p = cc in
        other p same

-- how much is left from one reference on
unfoldable pub rest : Option Named → ℕ
rest None = 0
rest (Some r) = suc (r.end - r.number)

step : (k i : ℕ) → k ≤ suc i → (suc i ≡ k) ⊎ (k ≤ i)
step k i h = by (cases_lt i k)
  where
    by : (i < k) ⊎ (k ≤ i) → (suc i ≡ k) ⊎ (k ≤ i)
    by (inl lt) = inl (omega (arith, h, lt))
    by (inr le) = inr le

module _ (stores : List Blocks) (roots : List ℕ) (c : Copies) (done : Progress) (p : ℕ) (a : Object) (there : made c p ≡ Some a) where
  stays_so : (i : ℕ) (v : Value) → slice_get a.values i ≡ Some v → ((q : ℕ) → slice_get a.values i ≢ Some (Ref q)) → ForwardedValue (objects_at stores) (Moves (moved stores c.words)) v v
  stays_so i (Int n) e none = refl
  stays_so i (Long n) e none = refl
  stays_so i Null e none = refl
  stays_so i (Ref q) e none = absurd (none q e)

  pub skipped_copying : (k j : ℕ) → k ≤ j → j ≤ length a.values → NoneNamed a.values k j → IsCopying stores roots c (at done p k) → IsCopying stores roots c (at done p j)
  skipped_copying k zero from within none copying = let same : k ≡ zero = omega (arith, from) in subst (λ n. IsCopying stores roots c (at done p n)) same copying
  skipped_copying k (suc i) from within none copying = by (step k i from) (λ le. skipped_copying k i le (omega (arith, within)) (λ n q h b. none n q h (omega (arith, b))) copying)
    where
      by : (suc i ≡ k) ⊎ (k ≤ i) → (k ≤ i → IsCopying stores roots c (at done p i)) → IsCopying stores roots c (at done p (suc i))
      by (inl same) before = subst (λ n. IsCopying stores roots c (at done p n)) (sym same) copying
      by (inr le) before =
          let got = get_there a.values i (omega (arith, within)) in
          let next : i + 1 ≡ suc i = omega arith in
          subst (λ n. IsCopying stores roots c (at done p n)) next
          (set_copying stores roots c c done p i a got.0 got.0 (before le) there got.1
          (stays_so i got.0 got.1 (λ q. none i q le (omega arith))) (replaced_same (made c) p i a got.0 there got.1) (stays_refl c) refl)

-- and names no place of a lane
no_name : (lane : ℕ) (v : Value) → ((q : ℕ) → v ≢ Ref q) → false ≡ names_lane lane v
no_name lane (Int n) none = refl
no_name lane (Long n) none = refl
no_name lane Null none = refl
no_name lane (Ref q) none = absurd (none q refl)

or_false : (b : Bool) → (b || false) ≡ b
or_false true = refl
or_false false = refl

pub skipped_points : (lane : ℕ) (vs : List Value) (k j : ℕ) → k ≤ j → j ≤ length vs → NoneNamed vs k j → points_to lane (take k vs) ≡ points_to lane (take j vs)
skipped_points lane vs k zero from within none = let same : k ≡ zero = omega (arith, from) in ap (λ n. points_to lane (take n vs)) same
skipped_points lane vs k (suc i) from within none = by (step k i from) (λ le. skipped_points lane vs k i le (omega (arith, within)) (λ n q h b. none n q h (omega (arith, b))))
  where
    by : (suc i ≡ k) ⊎ (k ≤ i) → (k ≤ i → points_to lane (take k vs) ≡ points_to lane (take i vs)) → points_to lane (take k vs) ≡ points_to lane (take (suc i) vs)
    by (inl same) before = ap (λ n. points_to lane (take n vs)) (sym same)
    by (inr le) before =
        let got = get_there vs i (omega (arith, within)) in
        let next : i + 1 ≡ suc i = omega arith in
        let none_here : (q : ℕ) → got.0 ≢ Ref q = λ q e. none i q le (omega arith) (got.1 ∙ ap (λ v. Some v) e) in
        before le
        ∙ sym (or_false (points_to lane (take i vs)))
        ∙ points_more lane vs i got.0 (points_to lane (take i vs)) false (omega (arith, within)) refl (no_name lane got.0 none_here)
        ∙ ap (λ xs. points_to lane (take (i + 1) xs)) (same_value vs i got.0 got.1)
        ∙ ap (λ n. points_to lane (take n vs)) next

-- the scan of the object at p as far as its value n, from one state of the copies to another
pub record UpTo (stores : List Blocks) (roots : List ℕ) (b c : Copies) (p lane : ℕ) (points : Bool) (a : Object) (n : ℕ) : Type 0 where
  pub copying : (done : Progress) → IsCopying stores roots b (at done p 0) → IsCopying stores roots c (at done p n)
  pub points_is : points ≡ points_to lane (take n a.values)

pub record IsHere (a : Object) (r : Named) : Type 0 where
  pub here : slice_get a.values r.number ≡ Some (Ref r.place)
  pub ended : IsEnded a.values (kind_of a.class) r.number r.end

-- one value changed, the references end where they did
pub ended_set : (vs : List Value) (kind : Kind) (k end : ℕ) (v : Value) → IsEnded vs kind k end → IsEnded (slice_set vs k v) kind k end
ended_set vs kind k end v e =
    let many = length-set vs k v in
    record {
      inside = e.inside;
      within = omega (arith, many, e.within);
      none = λ i p from below h. e.none i p from (omega (arith, many, below)) (sym (got_unwritten vs k i v (let more = e.inside in omega (arith, from, more))) ∙ h);
      fits = e.fits;
    }

-- as far as the next reference, or to its end
abbrev pub Reaches : List Blocks → List ℕ → Copies → Copies → ℕ → ℕ → Bool → Object → Option Named → Type 0
Reaches stores roots b c p lane points a None = UpTo stores roots b c p lane points a (length a.values)
Reaches stores roots b c p lane points a (Some r) = UpTo stores roots b c p lane points a r.number × IsHere a r

module _ (stores : List Blocks) (roots : List ℕ) (b c : Copies) (p lane : ℕ) (points : Bool) (a : Object) where
  pub reaches : (k : ℕ) (r : Option Named) → made c p ≡ Some a → k ≤ length a.values → UpTo stores roots b c p lane points a k → NamesNext a k r → Reaches stores roots b c p lane points a r
  reaches k None there within u none = record {
    copying = λ done h. skipped_copying stores roots c done p a there k (length a.values) within (omega arith) none (u.copying done h);
    points_is = u.points_is ∙ skipped_points lane a.values k (length a.values) within (omega arith) none;
  }
  reaches k (Some r) there within u named =
      let inside = slice_get_within a.values r.number (Ref r.place) named.here in (
        record {
          copying = λ done h. skipped_copying stores roots c done p a there k r.number named.from_on (omega (arith, inside)) named.before (u.copying done h);
          points_is = u.points_is ∙ skipped_points lane a.values k r.number named.from_on (omega (arith, inside)) named.before;
        },
        record { here = named.here; ended = named.ended },
      )

-- a reference more is forwarded
pub reaches_more : (stores : List Blocks) (roots : List ℕ) (b c d : Copies) (p lane : ℕ) (points names : Bool) (a : Object) (v : Value) (r : Named) (next : Option Named) → Reaches stores roots b c p lane points a (Some r) → made d p ≡ Some (with_value a r.number v) → names ≡ names_lane lane v → ForwardsValue stores roots c d p r.number → NamesNext (with_value a r.number v) (r.number + 1) next → Reaches stores roots b d p lane (points || names) (with_value a r.number v) next
reaches_more stores roots b c d p lane points names a v r next u there named forwards after =
    let inside = slice_get_within a.values r.number (Ref r.place) u.1.here in
    let many = length-set a.values r.number v in
    reaches stores roots b d p lane (points || names) (with_value a r.number v) (r.number + 1) next there (omega (arith, inside, many)) (record {
      copying = λ done h. forwards done (u.0.copying done h);
      points_is = points_more lane a.values r.number v points names inside u.0.points_is named;
    }) after

-- and less is left
pub rest_less : (a : Object) (r : Named) (v : Value) (next : Option Named) → IsHere a r → NamesNext (with_value a r.number v) (r.number + 1) next → IfSome next (λ q. q.end ≡ r.end) → rest next < rest (Some r)
unfolding rest
rest_less a r v None h n e = let less : 0 < suc (r.end - r.number) = omega arith in less
rest_less a r v (Some q) h n e =
    let less : suc (q.end - q.number) < suc (r.end - r.number) = omega (arith, n.from_on, n.ended.inside, h.ended.inside, e) in
    less
