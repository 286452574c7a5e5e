-- What each step of a copier keeps.
use Rattle.std.proofs.Common.{◌≡◌, ◌≢◌, ◌⊎◌, ℕ, ◌+◌, List, [], ◌∷◌, ◌++◌, Option, Some, None, true, false, refl, sym, ap, ◌∙◌, subst, inl, inr, length, arith}
use Rattle.std.specs.Prelude.{drop, nat_eq, slice_get}
use Rattle.std.proofs.lemmas.Bool.Decides.{eqb_tells}
use Rattle.std.specs.List.{Contains}
use Rattle.std.proofs.lemmas.List.{append-nil, append_assoc, length-append}
use Rattle.jm_values.specs.declared.value.Value.{Value}
use Rattle.jm_values.specs.declared.value.Value.TheVariants.{Ref}
use Rattle.jm_blocks.specs.Objects.{Object, with_value}
use Rattle.jm_blocks.specs.Places.{lane_of}
use Rattle.jm_blocks.specs.Stores.{Blocks}
use Rattle.jm_forward.specs.declared.rule.Hand.{Hand}
use Rattle.jm_forward.specs.Hands.{knowing, winning, times_place}
use Rattle.jm_copy.specs.Image.{IsReached}
use Rattle.jm_copy.specs.Copying.{Copying, Forwarded, ForwardedValue, Gains, IsAdded, IsFurther, IsReplaced, IsScanned, Progress, raw_copy}
use Rattle.jm_copy.specs.Condemned.{AreLanes, objects_at}
use Rattle.jm_copy.specs.Numbers.{number_of}
use Rattle.jm_copy.specs.Copies.{made, age_at, IsMark, IsPut, IsPutYoung, IsPutOld, Stays}
use Rattle.jm_copy.specs.declared.copies.Copies.{Copies}
use Rattle.jm_copy.proofs.Steps.{copying_added, copying_at, copying_set, reached_by_scan}
use Rattle.jm_copy.specs.Marks.{at, passed, progress, AreMarks, AllPassed, IsNext}
use Rattle.jm_copy.specs.declared.scan.Marks.{Marks}
use Rattle.jm_copy.proofs.Marking.{ahead_young, ahead_old, next_made, next_same, passed_marks, passed_same, all_scanned}
use Rattle.jm_copy.proofs.Numbering.{number_apart}
use Rattle.jm_copy.proofs.Moving.{forwarded_known}
use Rattle.jm_copy.proofs.Making.{LiesYoung, LiesOld, made_where, put_added, put_stays}
use Rattle.jm_copy.proofs.Keeping.{age_same, at_here, at_other, mark_stays, put_age, added_ages}
use Rattle.jm_par_copy.specs.Strides.{Goes, Opened, owner_of}
use Rattle.jm_par_copy.proofs.Strides.{new_before, opened_made, opened_stays, opened_goes}
use Rattle.jm_par_copy.specs.Working.{Pairs, known_to, held_by, or_else, both, IsNew, IsWorking, done_by, scan_progress, IsScanning, KeepsWorking, KnowsMore, WinsMore, WinsAreOwn, IsDated}
use Rattle.jm_par_copy.proofs.Listing.{Has, has_from, contains_from, has_left, has_right, has_both, none_at, since_more}
use Rattle.jm_par_copy.proofs.Sharing.{copying_knows, pairs_more, both_left, both_right, both_where}

-- where the object more is, nothing is new
put_taken : (h : Hand) (c d : Copies) (n m : ℕ) (a : Object) → c.tenured.lane ≢ c.young.lane → Stays c d → IsPut c d n a → m ≡ n → IsNew h d m → ⊥
put_taken h c d n m a apart s put e new = by put.by_age new
  where
    by : IsPutYoung c d n a ⊎ IsPutOld c d n a → IsNew h d m → ⊥
    by (inl t) (inl h) = let below = h.1 n (a, t.put.bumped.changed.here) in absurd (omega (arith, below, e))
    by (inl t) (inr h) = apart (sym s.old_lane ∙ sym h.0 ∙ ap lane_of e ∙ t.put.lane)
    by (inr t) (inl h) = apart (sym t.put.lane ∙ ap lane_of (sym e) ∙ h.0 ∙ s.young_lane)
    by (inr t) (inr h) = let below = h.1 n (a, t.put.bumped.changed.here) in absurd (omega (arith, below, e))

pub both_same : (f g rest : ℕ → Option Object) (q : ℕ) → g q ≡ f q → both g rest q ≡ both f rest q
unfolding both
both_same f g rest q e = ap (λ x. or_else x (rest q)) e

-- the lanes are the same
pub dated_same : (c d : Copies) (n : ℕ) (o : Object) → d.young.lane ≡ c.young.lane → d.tenured.lane ≡ c.tenured.lane → IsDated c n o → IsDated d n o
dated_same c d n o young old t = record { age = t.age ∙ sym (age_same c d n young); lane = by t.lane }
  where
    by : (lane_of n ≡ c.young.lane) ⊎ (lane_of n ≡ c.tenured.lane) → (lane_of n ≡ d.young.lane) ⊎ (lane_of n ≡ d.tenured.lane)
    by (inl e) = inl (e ∙ sym young)
    by (inr e) = inr (e ∙ sym old)

put_lane : (c d : Copies) (n : ℕ) (a : Object) → IsPut c d n a → (lane_of n ≡ c.young.lane) ⊎ (lane_of n ≡ c.tenured.lane)
put_lane c d n a put = by put.by_age
  where
    by : IsPutYoung c d n a ⊎ IsPutOld c d n a → (lane_of n ≡ c.young.lane) ⊎ (lane_of n ≡ c.tenured.lane)
    by (inl t) = inl t.put.lane
    by (inr t) = inr t.put.lane

-- wins are added at the end
pub wins_stay : (h : Hand) → WinsMore h h
wins_stay h = record { copier = refl; copiers = refl; more = []; added = sym (append-nil h.wins); own = λ i n k. absurd (has_from [] (i, n) k) }

pub wins_more : (h h' h'' : Hand) → WinsMore h h' → WinsMore h' h'' → WinsMore h h''
wins_more h h' h'' f g = record {
  copier = g.copier ∙ f.copier;
  copiers = g.copiers ∙ f.copiers;
  more = f.more ++ g.more;
  added = g.added ∙ ap (λ ws. ws ++ g.more) f.added ∙ append_assoc h.wins f.more g.more;
  own = λ i n k. by i n (has_both f.more g.more (i, n) (has_from (f.more ++ g.more) (i, n) k));
}
  where
    by : (i n : ℕ) → Has f.more (i, n) ⊎ Has g.more (i, n) → owner_of h.copiers n ≡ h.copier
    by i n (inl k) = f.own i n (contains_from f.more (i, n) k)
    by i n (inr k) = ap (λ m. owner_of m n) (sym f.copiers) ∙ g.own i n (contains_from g.more (i, n) k) ∙ f.copier

pub wins_seen : (h h' : Hand) (i q : ℕ) → h' ≡ knowing h i q → WinsMore h h'
wins_seen h h' i q e = record { copier = ap (λ (x : Hand). x.copier) e; copiers = ap (λ (x : Hand). x.copiers) e; more = []; added = ap (λ (x : Hand). x.wins) e ∙ sym (append-nil h.wins); own = λ j n k. absurd (has_from [] (j, n) k) }

pub wins_won : (h h' : Hand) (i n : ℕ) → h' ≡ winning h i n → owner_of h.copiers n ≡ h.copier → WinsMore h h'
wins_won h h' i n e own = record { copier = ap (λ (x : Hand). x.copier) e; copiers = ap (λ (x : Hand). x.copiers) e; more = one; added = ap (λ (x : Hand). x.wins) e; own = λ j m k. by j m (has_from one (j, m) k) }
  where
    one : List (ℕ × ℕ)
    one = (i, n) ∷ []

    by : (j m : ℕ) → Has one (j, m) → owner_of h.copiers m ≡ h.copier
    by j m (inl k) = ap (λ (w : ℕ × ℕ). owner_of h.copiers w.1) (sym k) ∙ own
    by j m (inr k) = absurd k

-- all wins are the copier's own then
pub wins_own : (h h' : Hand) → WinsMore h h' → WinsAreOwn h.copiers h.copier h.wins → WinsAreOwn h'.copiers h'.copier h'.wins
wins_own h h' m own i n k = by (has_both h.wins m.more (i, n) (subst (λ ws. Has ws (i, n)) m.added (has_from h'.wins (i, n) k)))
  where
    is : owner_of h.copiers n ≡ h.copier → owner_of h'.copiers n ≡ h'.copier
    is e = ap (λ x. owner_of x n) m.copiers ∙ e ∙ sym m.copier

    by : Has h.wins (i, n) ⊎ Has m.more (i, n) → owner_of h'.copiers n ≡ h'.copier
    by (inl g) = is (own i n (contains_from h.wins (i, n) g))
    by (inr g) = is (m.own i n (contains_from m.more (i, n) g))

pub known_more : (h : Hand) (i r : ℕ) → KnowsMore h (knowing h i r)
known_more h i r j n c = contains_from (h.known ++ (i, r) ∷ []) (j, n) (has_left h.known ((i, r) ∷ []) (j, n) (has_from h.known (j, n) c))

pub now_known : (base : List (ℕ × ℕ)) (h : Hand) (i r : ℕ) → Contains (known_to base (knowing h i r)) (i, r)
now_known base h i r = contains_from (base ++ (h.known ++ (i, r) ∷ [])) (i, r) (has_right base (h.known ++ (i, r) ∷ []) (i, r) (has_right h.known ((i, r) ∷ []) (i, r) (inl refl)))

pub base_more : (base : List (ℕ × ℕ)) (h h' : Hand) → KnowsMore h h' → (w : ℕ × ℕ) → Contains (known_to base h) w → Contains (known_to base h') w
base_more base h h' more w c = by (has_both base h.known w (has_from (base ++ h.known) w c))
  where
    by : Has base w ⊎ Has h.known w → Contains (base ++ h'.known) w
    by (inl g) = contains_from (base ++ h'.known) w (has_left base h'.known w g)
    by (inr g) = contains_from (base ++ h'.known) w (has_right base h'.known w (has_from h'.known w (more w.0 w.1 (contains_from h.known w g))))

module _ (stores : List Blocks) (roots : List ℕ) (base held : List (ℕ × ℕ)) (k : ℕ) (rest : ℕ → Option Object) where
  -- a place is seen
  pub working_knows : (h : Hand) (c : Copies) (done : Progress) (i r : ℕ) → IsWorking stores roots base held k rest h c done → IsWorking stores roots base held k rest (knowing h i r) c done
  working_knows h c done i r f = record {
    copying = copying_knows (Pairs stores (known_to base h)) (Pairs stores (known_to base (knowing h i r))) (Pairs stores (held_by held k h)) (both (made c) rest) done (pairs_more stores (known_to base h) (known_to base (knowing h i r)) (base_more base h (knowing h i r) (known_more h i r))) f.copying;
    recent = f.recent;
    apart = f.apart;
    kept = f.kept;
    ages = f.ages;
    dated = f.dated;
    taken = f.taken;
    free = f.free;
    once = f.once;
    ahead = f.ahead;
  }

  -- the object is won, and copied
  pub working_wins : (h : Hand) (c d : Copies) (done : Progress) (p n : ℕ) (o : Object) → AreLanes stores → IsWorking stores roots base held k rest h c done → objects_at stores p ≡ Some o → IsReached (objects_at stores) roots p → IsPut c d n (raw_copy o) → IsNew h c n → Goes h.copier h.copiers c d → IsWorking stores roots base held k rest (winning h (number_of stores p) n) d done
  working_wins h c d done p n o lanes f e r put new goes =
      let i = number_of stores p in
      let stays = put_stays c d n (raw_copy o) f.kept put in
      let added = put_added c d n (raw_copy o) f.apart f.kept put in
      record {
        copying = copying_added (Pairs stores (known_to base h)) (Pairs stores (held_by held k h)) (Pairs stores (known_to base (winning h i n))) (Pairs stores (held_by held k (winning h i n))) (both (made c) rest) (both (made d) rest) done p n o f.copying e r (λ count. f.ahead n count new) (all_added added (f.free n new)) gains;
        recent = let many = length-append h.wins ((i, n) ∷ []) in omega (arith, many, f.recent);
        apart = λ t. f.apart (sym stays.old_lane ∙ t ∙ stays.young_lane);
        kept = subst (λ x. IsMark d.tenured x) (sym put.kept) (mark_stays c.tenured d.tenured c.kept stays.old_there f.kept);
        ages = added_ages c d n (raw_copy o) added (put_age c d n (raw_copy o) f.apart put) stays.young_lane f.ages;
        dated = λ q m b g t. dated q m b g stays (has_both h.wins ((i, n) ∷ []) (number_of stores q, m) (has_from (h.wins ++ (i, n) ∷ []) (number_of stores q, m) t));
        taken = λ j m t there. taken j m there stays (has_both h.wins ((i, n) ∷ []) (j, m) (has_from (h.wins ++ (i, n) ∷ []) (j, m) t));
        free = λ m t. f.free m (new_before h.copier h.copiers c d m stays goes t);
        once = λ m b t. once added (f.free n new) m b t (eqb_tells m n);
        ahead = λ m count t. f.ahead m count (new_before h.copier h.copiers c d m stays goes t);
      }
    where
      once : IsAdded (made c) (made d) n (raw_copy o) → rest n ≡ None → (m : ℕ) (b : Object) → made d m ≡ Some b → ((nat_eq m n ≡ true) × (m ≡ n)) ⊎ ((nat_eq m n ≡ false) × (m ≢ n)) → rest m ≡ None
      once added none m b t (inl g) = ap rest g.1 ∙ none
      once added none m b t (inr g) = f.once m b (sym (added.others m g.1) ∙ t)

      all_added : IsAdded (made c) (made d) n (raw_copy o) → rest n ≡ None → IsAdded (both (made c) rest) (both (made d) rest) n (raw_copy o)
      all_added t none = record {
        free = both_right (made c) rest n t.free ∙ none;
        here = both_left (made d) rest n (raw_copy o) t.here;
        others = λ q ne. both_same (made c) (made d) rest q (t.others q ne);
      }

      since : drop k (h.wins ++ (number_of stores p, n) ∷ []) ≡ drop k h.wins ++ (number_of stores p, n) ∷ []
      since = since_more k h.wins (number_of stores p, n) f.recent

      to : (w : ℕ × ℕ) → Has (held ++ (drop k h.wins ++ (number_of stores p, n) ∷ [])) w → Contains (held_by held k (winning h (number_of stores p) n)) w
      to w t = contains_from (held_by held k (winning h (number_of stores p) n)) w (subst (λ ws. Has (held ++ ws) w) (sym since) t)

      from : (w : ℕ × ℕ) → Contains (held_by held k (winning h (number_of stores p) n)) w → Has (held ++ (drop k h.wins ++ (number_of stores p, n) ∷ [])) w
      from w t = subst (λ ws. Has (held ++ ws) w) since (has_from (held_by held k (winning h (number_of stores p) n)) w t)

      longer : (w : ℕ × ℕ) → Has held w ⊎ Has (drop k h.wins) w → Has (held ++ (drop k h.wins ++ (number_of stores p, n) ∷ [])) w
      longer w (inl t) = has_left held (drop k h.wins ++ (number_of stores p, n) ∷ []) w t
      longer w (inr t) = has_right held (drop k h.wins ++ (number_of stores p, n) ∷ []) w (has_left (drop k h.wins) ((number_of stores p, n) ∷ []) w t)

      back : (q m : ℕ) → Pairs stores (held_by held k (winning h (number_of stores p) n)) q m → Has held (number_of stores q, m) ⊎ Has (drop k h.wins ++ (number_of stores p, n) ∷ []) (number_of stores q, m) → Pairs stores (held_by held k h) q m ⊎ ((q ≡ p) × (m ≡ n))
      back q m t (inl g) = inl (t.0, t.1, contains_from (held_by held k h) (number_of stores q, m) (has_left held (drop k h.wins) (number_of stores q, m) g))
      back q m t (inr g) = last (has_both (drop k h.wins) ((number_of stores p, n) ∷ []) (number_of stores q, m) g)
        where
          last : Has (drop k h.wins) (number_of stores q, m) ⊎ Has {X = ℕ × ℕ} ((number_of stores p, n) ∷ []) (number_of stores q, m) → Pairs stores (held_by held k h) q m ⊎ ((q ≡ p) × (m ≡ n))
          last (inl s) = inl (t.0, t.1, contains_from (held_by held k h) (number_of stores q, m) (has_right held (drop k h.wins) (number_of stores q, m) s))
          last (inr (inl s)) = inr (number_apart stores q p t.0 o lanes t.1 e (sym (ap (λ (x : ℕ × ℕ). x.0) s)), sym (ap (λ (x : ℕ × ℕ). x.1) s))
          last (inr (inr s)) = absurd s

      gains : Gains (Pairs stores (known_to base h)) (Pairs stores (held_by held k h)) (Pairs stores (known_to base (winning h (number_of stores p) n))) (Pairs stores (held_by held k (winning h (number_of stores p) n))) p n
      gains = record {
        knows = pairs_more stores (known_to base h) (known_to base (winning h (number_of stores p) n)) (base_more base h (winning h (number_of stores p) n) (known_more h (number_of stores p) n));
        keeps = pairs_more stores (held_by held k h) (held_by held k (winning h (number_of stores p) n)) (λ w t. to w (longer w (has_both held (drop k h.wins) w (has_from (held ++ drop k h.wins) w t))));
        here = (o, e, to (number_of stores p, n) (has_right held (drop k h.wins ++ (number_of stores p, n) ∷ []) (number_of stores p, n) (has_right (drop k h.wins) ((number_of stores p, n) ∷ []) (number_of stores p, n) (inl refl))));
        only = λ q m t. back q m t (has_both held (drop k h.wins ++ (number_of stores p, n) ∷ []) (number_of stores q, m) (from (number_of stores q, m) t.2));
      }

      dated : (q m : ℕ) (b : Object) → objects_at stores q ≡ Some b → Stays c d → Has h.wins (number_of stores q, m) ⊎ Has {X = ℕ × ℕ} ((number_of stores p, n) ∷ []) (number_of stores q, m) → IsDated d m b
      dated q m b g stays (inl t) = dated_same c d m b stays.young_lane stays.old_lane (f.dated q m b g (contains_from h.wins (number_of stores q, m) t))
      dated q m b g stays (inr (inl t)) =
          let there : q ≡ p = number_apart stores q p b o lanes g e (sym (ap (λ (x : ℕ × ℕ). x.0) t)) in
          let both_ : Some b ≡ Some o = sym g ∙ ap (objects_at stores) there ∙ e in
          let same : b ≡ o = cc in
          subst (λ (x : Object). IsDated d m x) (sym same) (subst (λ k. IsDated d k o) (ap (λ (x : ℕ × ℕ). x.1) t) (dated_same c d n o stays.young_lane stays.old_lane (record { age = put_age c d n (raw_copy o) f.apart put; lane = put_lane c d n (raw_copy o) put })))
      dated q m b g stays (inr (inr t)) = absurd t

      taken : (j m : ℕ) → IsNew (winning h (number_of stores p) n) d m → Stays c d → Has h.wins (j, m) ⊎ Has {X = ℕ × ℕ} ((number_of stores p, n) ∷ []) (j, m) → ⊥
      taken j m there stays (inl t) = f.taken j m (contains_from h.wins (j, m) t) (new_before h.copier h.copiers c d m stays goes there)
      taken j m there stays (inr (inl t)) = put_taken h c d n m (raw_copy o) f.apart stays put (sym (ap (λ (x : ℕ × ℕ). x.1) t)) there
      taken j m there stays (inr (inr t)) = t

  -- a reserved place is of no win
  pub new_place : (h : Hand) (c : Copies) (done : Progress) (n : ℕ) → IsWorking stores roots base held k rest h c done → IsNew h c n → times_place n h.wins ≡ 0
  new_place h c done n f new = none_at h.wins n (λ i m t e. f.taken i m (contains_from h.wins (i, m) t) (subst (λ x. IsNew h c x) (sym e) new))

-- what one step does: the place is forwarded, and the invariant stays
pub record Stepped (stores : List Blocks) (roots : List ℕ) (h : Hand) (c : Copies) (h' : Hand) (d : Copies) (p q : ℕ) : Type 0 where
  pub forwarded : (base : List (ℕ × ℕ)) → Forwarded (objects_at stores) (Pairs stores (known_to base h')) p q
  pub working : KeepsWorking stores roots h h' c d

-- blocks are opened: what a copier keeps goes over
pub working_opened : (stores : List Blocks) (roots : List ℕ) (n : ℕ) (h : Hand) (c d : Copies) → n ≡ h.copiers → Opened n c d → KeepsWorking stores roots h h c d
working_opened stores roots n h c d many o = λ base held k rest done f. record {
  copying = subst (λ g. Copying (objects_at stores) roots (Pairs stores (known_to base h)) (Pairs stores (held_by held k h)) (both g rest) done) all f.copying;
  recent = f.recent;
  apart = λ t. f.apart (sym o.old.lane ∙ t ∙ o.young.lane);
  kept = subst (λ x. IsMark d.tenured x) (sym o.kept) (mark_stays c.tenured d.tenured c.kept (opened_stays n c d o).old_there f.kept);
  ages = λ m a t. f.ages m a (sym (opened_made n c d o m) ∙ t) ∙ sym (age_same c d m o.young.lane);
  dated = λ p m b g t. dated_same c d m b o.young.lane o.old.lane (f.dated p m b g t);
  taken = λ i m t there. f.taken i m t (new_before h.copier h.copiers c d m (opened_stays n c d o) goes there);
  free = λ m t. f.free m (new_before h.copier h.copiers c d m (opened_stays n c d o) goes t);
  once = λ m a t. f.once m a (sym (opened_made n c d o m) ∙ t);
  ahead = λ m count t. f.ahead m count (new_before h.copier h.copiers c d m (opened_stays n c d o) goes t);
}
  where
    all : made c ≡ made d
    all = λ t m. sym (opened_made n c d o m) t

    goes : Goes h.copier h.copiers c d
    goes = subst (λ k. Goes h.copier k c d) many (opened_goes n c d o h.copier)

-- so before a step
pub opened_first : (stores : List Blocks) (roots : List ℕ) (n : ℕ) (h h' : Hand) (c d e : Copies) (p q : ℕ) → n ≡ h.copiers → Opened n c d → Stepped stores roots h d h' e p q → Stepped stores roots h c h' e p q
opened_first stores roots n h h' c d e p q many o s = record {
  forwarded = s.forwarded;
  working = λ base held k rest done f. s.working base held k rest done (working_opened stores roots n h c d many o base held k rest done f);
}

-- and after it
pub opened_last : (stores : List Blocks) (roots : List ℕ) (n : ℕ) (h h' : Hand) (c d e : Copies) (p q : ℕ) → n ≡ h'.copiers → Opened n d e → Stepped stores roots h c h' d p q → Stepped stores roots h c h' e p q
opened_last stores roots n h h' c d e p q many o s = record {
  forwarded = s.forwarded;
  working = λ base held k rest done f. working_opened stores roots n h' d e many o base held k rest done (s.working base held k rest done f);
}

-- another's place is seen, at a look or at a claim that lost
pub seen : (stores : List Blocks) (roots : List ℕ) (h h' : Hand) (c : Copies) (p q i : ℕ) (o : Object) → objects_at stores p ≡ Some o → i ≡ number_of stores p → h' ≡ knowing h i q → Stepped stores roots h c h' c p q
seen stores roots h h' c p q i o e at hand =
    let is : knowing h (number_of stores p) q ≡ h' = ap (λ k. knowing h k q) (sym at) ∙ sym hand in
    subst (λ k. Stepped stores roots h c k c p q) is (record {
      forwarded = λ base. forwarded_known (objects_at stores) (Pairs stores (known_to base (knowing h (number_of stores p) q))) p q o e (o, e, now_known base h (number_of stores p) q);
      working = λ base held k rest done f. working_knows stores roots base held k rest h c done (number_of stores p) q f;
    })

-- the claim won, and the object is copied
pub won : (stores : List Blocks) (roots : List ℕ) (h h' : Hand) (c d : Copies) (p n i : ℕ) (o : Object) → AreLanes stores → objects_at stores p ≡ Some o → IsReached (objects_at stores) roots p → i ≡ number_of stores p → h' ≡ winning h i n → IsPut c d n (raw_copy o) → IsNew h c n → Goes h.copier h.copiers c d → Stepped stores roots h c h' d p n
won stores roots h h' c d p n i o lanes e r at hand put new goes =
    let is : winning h (number_of stores p) n ≡ h' = ap (λ k. winning h k n) (sym at) ∙ sym hand in
    subst (λ k. Stepped stores roots h c k d p n) is (record {
      forwarded = λ base. forwarded_known (objects_at stores) (Pairs stores (known_to base (winning h (number_of stores p) n))) p n o e (o, e, now_known base h (number_of stores p) n);
      working = λ base held k rest done f. working_wins stores roots base held k rest h c d done p n o lanes f e r put new goes;
    })

-- nothing new is where an object was made
new_not_made : (h : Hand) (c : Copies) (n : ℕ) (a : Object) → c.tenured.lane ≢ c.young.lane → made c n ≡ Some a → IsNew h c n → ⊥
new_not_made h c n a apart e new = by (made_where c n a e) new
  where
    by : LiesYoung c n a ⊎ LiesOld c n a → IsNew h c n → ⊥
    by (inl t) (inl h) = let below = h.1 n (a, t.there) in absurd (omega (arith, below))
    by (inl t) (inr h) = apart (sym h.0 ∙ t.lane)
    by (inr t) (inl h) = t.lane h.0
    by (inr t) (inr h) = let below = h.1 n (a, t.there) in absurd (omega (arith, below))

module _ (stores : List Blocks) (roots : List ℕ) (base held : List (ℕ × ℕ)) (k : ℕ) (rest : ℕ → Option Object) where
  -- a value of an object of the copier's own is forwarded
  pub working_set : (h : Hand) (c d : Copies) (done : Progress) (s j : ℕ) (a : Object) (v w : Value) → IsWorking stores roots base held k rest h c (at done s j) → made c s ≡ Some a → slice_get a.values j ≡ Some v → ForwardedValue (objects_at stores) (Pairs stores (known_to base h)) v w → IsReplaced (made c) (made d) s (with_value a j w) → Stays c d → Goes h.copier h.copiers c d → IsWorking stores roots base held k rest h d (at done s (j + 1))
  working_set h c d done s j a v w f e g fw t stays goes = record {
    copying = copying_set (Pairs stores (known_to base h)) (Pairs stores (held_by held k h)) (both (made c) rest) (both (made d) rest) (at done s j) (at done s (j + 1)) s j a v w f.copying (both_left (made c) rest s a e) g fw all_replaced further;
    recent = f.recent;
    apart = λ t. f.apart (sym stays.old_lane ∙ t ∙ stays.young_lane);
    kept = subst (λ x. IsMark d.tenured x) (sym stays.kept) (mark_stays c.tenured d.tenured c.kept stays.old_there f.kept);
    ages = λ n b t. ages n b t (eqb_tells n s);
    dated = λ p m b g t. dated_same c d m b stays.young_lane stays.old_lane (f.dated p m b g t);
    taken = λ i m t there. f.taken i m t (new_before h.copier h.copiers c d m stays goes there);
    free = λ m t. f.free m (new_before h.copier h.copiers c d m stays goes t);
    once = λ n b t. once n b t (eqb_tells n s);
    ahead = λ m count t. ahead m count (new_before h.copier h.copiers c d m stays goes t) (eqb_tells m s);
  }
    where
      all_replaced : IsReplaced (both (made c) rest) (both (made d) rest) s (with_value a j w)
      all_replaced = record { here = both_left (made d) rest s (with_value a j w) t.here; others = λ q ne. both_same (made c) (made d) rest q (t.others q ne) }

      further : IsFurther (at done s j) (at done s (j + 1)) s (length a.values) j
      further = record { here = (at_here done s j (length a.values), at_here done s (j + 1) (length a.values)); others = λ n i h. at_other done s (j + 1) n i h ∙ sym (at_other done s j n i h) }

      ages : (n : ℕ) (b : Object) → made d n ≡ Some b → ((nat_eq n s ≡ true) × (n ≡ s)) ⊎ ((nat_eq n s ≡ false) × (n ≢ s)) → b.age ≡ age_at d n
      ages n b h (inl i) =
          let two : Some (with_value a j w) ≡ Some b = sym t.here ∙ ap (made d) (sym i.1) ∙ h in
          let is : with_value a j w ≡ b = cc in
          ap (λ x. x.age) (sym is) ∙ f.ages s a e ∙ ap (age_at c) (sym i.1) ∙ sym (age_same c d n stays.young_lane)
      ages n b h (inr i) = f.ages n b (sym (t.others n i.1) ∙ h) ∙ sym (age_same c d n stays.young_lane)

      once : (n : ℕ) (b : Object) → made d n ≡ Some b → ((nat_eq n s ≡ true) × (n ≡ s)) ⊎ ((nat_eq n s ≡ false) × (n ≢ s)) → rest n ≡ None
      once n b h (inl i) = ap rest i.1 ∙ f.once s a e
      once n b h (inr i) = f.once n b (sym (t.others n i.1) ∙ h)

      ahead : (m count : ℕ) → IsNew h c m → ((nat_eq m s ≡ true) × (m ≡ s)) ⊎ ((nat_eq m s ≡ false) × (m ≢ s)) → at done s (j + 1) m count ≡ 0
      ahead m count new (inl i) = absurd (new_not_made h c s a f.apart e (subst (λ x. IsNew h c x) i.1 new))
      ahead m count new (inr i) = at_other done s (j + 1) m count i.1 ∙ sym (at_other done s j m count i.1) ∙ f.ahead m count new

  -- another progress that says the same of all objects
  pub working_at : (h : Hand) (c : Copies) (done done' : Progress) → IsWorking stores roots base held k rest h c done → ((n : ℕ) (a : Object) → both (made c) rest n ≡ Some a → done n (length a.values) ≡ done' n (length a.values)) → ((n count : ℕ) → IsNew h c n → done' n count ≡ 0) → IsWorking stores roots base held k rest h c done'
  working_at h c done done' f same ahead = record {
    copying = copying_at (Pairs stores (known_to base h)) (Pairs stores (held_by held k h)) (both (made c) rest) done done' f.copying same;
    recent = f.recent;
    apart = f.apart;
    kept = f.kept;
    ages = f.ages;
    dated = f.dated;
    taken = f.taken;
    free = f.free;
    once = f.once;
    ahead = ahead;
  }

  -- what a value of an object of the copier's own names is reached
  pub working_reached : (h : Hand) (c : Copies) (done : Progress) (s j p : ℕ) (a b : Object) → IsWorking stores roots base held k rest h c (at done s j) → made c s ≡ Some a → slice_get a.values j ≡ Some (Ref p) → objects_at stores p ≡ Some b → IsReached (objects_at stores) roots p
  working_reached h c done s j p a b f e g t = reached_by_scan (Pairs stores (known_to base h)) (Pairs stores (held_by held k h)) (both (made c) rest) (at done s j) s j p a b f.copying (at_here done s j (length a.values)) (both_left (made c) rest s a e) g t

  module _ (rest_done : Progress) where
    pub mine : (lane : ℕ) (m : Marks) (n count : ℕ) → rest n ≡ None → scan_progress lane m rest rest_done n count ≡ progress lane m n count
    unfolding scan_progress
    mine lane m n count e = ap (λ x. done_by x (rest_done n count) (progress lane m n count)) e

    others : (lane : ℕ) (m : Marks) (n count : ℕ) (a : Object) → rest n ≡ Some a → scan_progress lane m rest rest_done n count ≡ rest_done n count
    unfolding scan_progress
    others lane m n count a e = ap (λ x. done_by x (rest_done n count) (progress lane m n count)) e

    -- nothing new is scanned
    scan_ahead : (h : Hand) (c : Copies) (m : Marks) (done : Progress) → IsWorking stores roots base held k rest h c done → AreMarks c m → (n count : ℕ) → IsNew h c n → scan_progress c.young.lane m rest rest_done n count ≡ 0
    scan_ahead h c m done f marks n count new = mine c.young.lane m n count (f.free n new) ∙ by new
      where
        by : IsNew h c n → progress c.young.lane m n count ≡ 0
        by (inl t) = ahead_young c m marks.young n count t.0 t.1
        by (inr t) = ahead_old c m f.apart marks.tenured n count t.0 t.1

    -- an object comes under the scan
    pub next_scanning : (h : Hand) (c : Copies) (m : Marks) (s : ℕ) → IsScanning stores roots base held k rest rest_done h c m → AreMarks c m → IsNext c m s → IsWorking stores roots base held k rest h c (at (scan_progress c.young.lane (passed c.young.lane m s) rest rest_done) s 0)
    next_scanning h c m s f marks next = working_at h c (scan_progress c.young.lane m rest rest_done) (at (scan_progress c.young.lane (passed c.young.lane m s) rest rest_done) s 0) f (λ n a e. same n a (both_where (made c) rest n a e)) (λ n count new. ahead n count new (eqb_tells n s))
      where
        lane : ℕ
        lane = c.young.lane

        m' : Marks
        m' = passed c.young.lane m s

        there : (a : Object) × (made c s ≡ Some a)
        there = next_made c m s marks next

        ahead : (n count : ℕ) → IsNew h c n → ((nat_eq n s ≡ true) × (n ≡ s)) ⊎ ((nat_eq n s ≡ false) × (n ≢ s)) → at (scan_progress lane m' rest rest_done) s 0 n count ≡ 0
        ahead n count new (inl i) = absurd (new_not_made h c s there.0 f.apart there.1 (subst (λ x. IsNew h c x) i.1 new))
        ahead n count new (inr i) = at_other (scan_progress lane m' rest rest_done) s 0 n count i.1 ∙ scan_ahead h c m' (scan_progress lane m rest rest_done) f (passed_marks c m s marks next) n count new

        same : (n : ℕ) (a : Object) → (made c n ≡ Some a) ⊎ ((made c n ≡ None) × (rest n ≡ Some a)) → scan_progress lane m rest rest_done n (length a.values) ≡ at (scan_progress lane m' rest rest_done) s 0 n (length a.values)
        same n a (inl e) = mine lane m n (length a.values) (f.once n a e) ∙ next_same c m s next n a e ∙ by (eqb_tells n s)
          where
            by : ((nat_eq n s ≡ true) × (n ≡ s)) ⊎ ((nat_eq n s ≡ false) × (n ≢ s)) → at (progress lane m') s 0 n (length a.values) ≡ at (scan_progress lane m' rest rest_done) s 0 n (length a.values)
            by (inl i) = subst (λ x. at (progress lane m') s 0 x (length a.values) ≡ at (scan_progress lane m' rest rest_done) s 0 x (length a.values)) (sym i.1) (at_here (progress lane m') s 0 (length a.values) ∙ sym (at_here (scan_progress lane m' rest rest_done) s 0 (length a.values)))
            by (inr i) = at_other (progress lane m') s 0 n (length a.values) i.1 ∙ sym (mine lane m' n (length a.values) (f.once n a e)) ∙ sym (at_other (scan_progress lane m' rest rest_done) s 0 n (length a.values) i.1)
        same n a (inr e) =
            let away : n ≢ s = λ i. let two : None ≡ Some there.0 = sym e.0 ∙ ap (made c) i ∙ there.1 in cc in
            others lane m n (length a.values) a e.1 ∙ sym (others lane m' n (length a.values) a e.1) ∙ sym (at_other (scan_progress lane m' rest rest_done) s 0 n (length a.values) away)

    -- an object is scanned
    pub passed_scanning : (h : Hand) (d : Copies) (m : Marks) (s : ℕ) (a : Object) → IsWorking stores roots base held k rest h d (at (scan_progress d.young.lane (passed d.young.lane m s) rest rest_done) s (length a.values)) → made d s ≡ Some a → AreMarks d (passed d.young.lane m s) → IsScanning stores roots base held k rest rest_done h d (passed d.young.lane m s)
    passed_scanning h d m s a f e marks = working_at h d (at (scan_progress d.young.lane (passed d.young.lane m s) rest rest_done) s (length a.values)) (scan_progress d.young.lane (passed d.young.lane m s) rest rest_done) f (λ n b t. same n b (both_where (made d) rest n b t)) (scan_ahead h d (passed d.young.lane m s) (at (scan_progress d.young.lane (passed d.young.lane m s) rest rest_done) s (length a.values)) f marks)
      where
        lane : ℕ
        lane = d.young.lane

        m' : Marks
        m' = passed d.young.lane m s

        same : (n : ℕ) (b : Object) → (made d n ≡ Some b) ⊎ ((made d n ≡ None) × (rest n ≡ Some b)) → at (scan_progress lane m' rest rest_done) s (length a.values) n (length b.values) ≡ scan_progress lane m' rest rest_done n (length b.values)
        same n b (inl t) = by (eqb_tells n s) ∙ passed_same d m s a e n b t ∙ sym (mine lane m' n (length b.values) (f.once n b t))
          where
            by : ((nat_eq n s ≡ true) × (n ≡ s)) ⊎ ((nat_eq n s ≡ false) × (n ≢ s)) → at (scan_progress lane m' rest rest_done) s (length a.values) n (length b.values) ≡ at (progress lane m') s (length a.values) n (length b.values)
            by (inl i) = subst (λ x. at (scan_progress lane m' rest rest_done) s (length a.values) x (length b.values) ≡ at (progress lane m') s (length a.values) x (length b.values)) (sym i.1) (at_here (scan_progress lane m' rest rest_done) s (length a.values) (length b.values) ∙ sym (at_here (progress lane m') s (length a.values) (length b.values)))
            by (inr i) = at_other (scan_progress lane m' rest rest_done) s (length a.values) n (length b.values) i.1 ∙ mine lane m' n (length b.values) (f.once n b t) ∙ sym (at_other (progress lane m') s (length a.values) n (length b.values) i.1)
        same n b (inr t) =
            let away : n ≢ s = λ i. let two : None ≡ Some a = sym t.0 ∙ ap (made d) i ∙ e in cc in
            at_other (scan_progress lane m' rest rest_done) s (length a.values) n (length b.values) away

    -- nothing of the copier's own is left to scan
    pub own_scanned : (h : Hand) (c : Copies) (m : Marks) → IsScanning stores roots base held k rest rest_done h c m → AllPassed c m → IsScanned rest rest_done → IsScanned (both (made c) rest) (scan_progress c.young.lane m rest rest_done)
    own_scanned h c m f passed done n a e = by (both_where (made c) rest n a e)
      where
        by : (made c n ≡ Some a) ⊎ ((made c n ≡ None) × (rest n ≡ Some a)) → scan_progress c.young.lane m rest rest_done n (length a.values) ≡ length a.values
        by (inl t) = mine c.young.lane m n (length a.values) (f.once n a t) ∙ all_scanned c m passed n a t
        by (inr t) = others c.young.lane m n (length a.values) a t.1 ∙ done n a t.1
