-- The machine that has all objects matches its world.
use Rattle.std.proofs.Common.{◌≡◌, ◌≢◌, ℕ, zero, suc, ◌+◌, ◌<◌, ◌≤◌, List, [], ◌∷◌, ◌++◌, Option, Some, None, Bool, true, false, refl, sym, ap, ◌∙◌, subst, inl, inr, ◌⊎◌, length, arith}
use Rattle.std.specs.Prelude.{map, slice_get, option_map, unwrap_or, nat_eq}
use Rattle.std.proofs.lemmas.Bool.Decides.{eqb_tells}
use Rattle.jm_values.specs.Shape.{Among, Shape, IsShape, list_shape}
use Rattle.jm_values.proofs.Among.{among_left, among_right, among_mapped}
use Rattle.jm_values.proofs.Shapes.{list_is_shape}
use Rattle.jm_world.specs.Objects.{Object}
use Rattle.jm_world.specs.World.{World, roots}
use Rattle.jm_values.specs.Reach.{AllDistinct}
use Rattle.jm_values.specs.Content.{places_of, serials_of, serial_in, object_in, serial_at, object_at, name_of, AllResident, IsSound}
use Rattle.jm_world.specs.Renaming.{thread_shape, static_shape, monitor_shape, literal_shape}
use Rattle.jm_world.specs.Matches.{places, as_named, Matches}
use Rattle.jm_world.specs.Matched.{residents_from, whole_content, place_of, whole_machine, WorldsAreMatched}
use Rattle.jm_world.specs.WellFormed.{IsWellFormed}
use Rattle.jm_world.proofs.ShapesOfParts.{thread_is_shape, static_is_shape, monitor_is_shape, literal_is_shape}
use Rattle.jm_world.proofs.Matching.{join, listed}
use Rattle.jm_world.proofs.LoadsWellFormed.{among_roots, bounded}

serial_there : (b : ℕ) (os : List Object) (k : ℕ) → b ≤ k → k < b + length os → serial_in (residents_from b os) (k + 1) ≡ Some k
serial_there b [] k l h = absurd (omega (arith, l, h))
serial_there b (o ∷ os) k l h = by (nat_eq (k + 1) (b + 1)) refl (eqb_tells (k + 1) (b + 1)) (serial_there (b + 1) os k)
  where
    by : (c : Bool) → nat_eq (k + 1) (b + 1) ≡ c → ((nat_eq (k + 1) (b + 1) ≡ true) × (k + 1 ≡ b + 1)) ⊎ ((nat_eq (k + 1) (b + 1) ≡ false) × (k + 1 ≢ b + 1)) → (b + 1 ≤ k → k < b + 1 + length os → serial_in (residents_from (b + 1) os) (k + 1) ≡ Some k) → (elim c as (λ _. Option ℕ) [ true ↦ Some b | false ↦ serial_in (residents_from (b + 1) os) (k + 1) ]) ≡ Some k
    by true e (inl t) ih = ap Some (omega (arith, t.1))
    by true e (inr t) ih = cc
    by false e (inl t) ih = cc
    by false e (inr t) ih = ih (omega (arith, l, t.1)) (omega (arith, h))

-- the places and serials of a part of the heap rise from its first object's
place_above : (b : ℕ) (os : List Object) (p : ℕ) → Among p (places_of (residents_from b os)) → b < p
place_above b [] p a = absurd a
place_above b (o ∷ os) p (inl e) = omega (arith, e)
place_above b (o ∷ os) p (inr a) = let above = place_above (b + 1) os p a in omega (arith, above)

serial_within : (b : ℕ) (os : List Object) (k : ℕ) → Among k (serials_of (residents_from b os)) → (b ≤ k) × (k < b + length os)
serial_within b [] k a = absurd a
serial_within b (o ∷ os) k (inl e) = (omega (arith, e), omega (arith, e))
serial_within b (o ∷ os) k (inr a) = let within = serial_within (b + 1) os k a in (omega (arith, within.0), omega (arith, within.1))

places_distinct : (b : ℕ) (os : List Object) → AllDistinct (places_of (residents_from b os))
places_distinct b [] = tt
places_distinct b (o ∷ os) = (λ a. let above = place_above (b + 1) os (b + 1) a in omega (arith, above), places_distinct (b + 1) os)

serials_distinct : (b : ℕ) (os : List Object) → AllDistinct (serials_of (residents_from b os))
serials_distinct b [] = tt
serials_distinct b (o ∷ os) = (λ a. let within = serial_within (b + 1) os b a in omega (arith, within.0), serials_distinct (b + 1) os)

object_there : (b : ℕ) (os : List Object) (i : ℕ) → object_in (residents_from b os) (b + i) ≡ slice_get os i
object_there b [] i = refl
object_there b (o ∷ os) zero = by (nat_eq (b + 0) b) refl (eqb_tells (b + 0) b)
  where
    by : (c : Bool) → nat_eq (b + 0) b ≡ c → ((nat_eq (b + 0) b ≡ true) × (b + 0 ≡ b)) ⊎ ((nat_eq (b + 0) b ≡ false) × (b + 0 ≢ b)) → (elim c as (λ _. Option Object) [ true ↦ Some o | false ↦ object_in (residents_from (b + 1) os) (b + 0) ]) ≡ Some o
    by true e t = refl
    by false e (inl t) = cc
    by false e (inr t) = absurd (t.1 (omega arith))
object_there b (o ∷ os) (suc i) = by (nat_eq (b + suc i) b) refl (eqb_tells (b + suc i) b) (object_there (b + 1) os i)
  where
    by : (c : Bool) → nat_eq (b + suc i) b ≡ c → ((nat_eq (b + suc i) b ≡ true) × (b + suc i ≡ b)) ⊎ ((nat_eq (b + suc i) b ≡ false) × (b + suc i ≢ b)) → object_in (residents_from (b + 1) os) (b + 1 + i) ≡ slice_get os i → (elim c as (λ _. Option Object) [ true ↦ Some o | false ↦ object_in (residents_from (b + 1) os) (b + suc i) ]) ≡ slice_get os i
    by true e (inl t) ih = absurd (let bad : b + suc i ≡ b = t.1 in omega (arith, bad))
    by true e (inr t) ih = cc
    by false e t ih = subst (λ n. object_in (residents_from (b + 1) os) n ≡ slice_get os i) (omega arith) ih

module _ (w : World) (f : IsWellFormed w) where
  named : (k : ℕ) → k < length w.heap → name_of (whole_content w) (place_of k) ≡ k
  unfolding name_of serial_at
  named k l = ap (λ o. unwrap_or o 0) (serial_there 0 w.heap k (omega arith) (omega (arith, l)))

  objects_are : (k : ℕ) → object_at (whole_content w) k ≡ slice_get w.heap k
  unfolding object_at
  objects_are k = subst (λ n. object_in (residents_from 0 w.heap) n ≡ slice_get w.heap k) (omega arith) (object_there 0 w.heap k)

  back : {A : Type 0} (s : Shape A) → IsShape A s → (xs : List A) → ((k : ℕ) → Among k ((list_shape s).refs xs) → k < length w.heap) → (list_shape s).rename (name_of (whole_content w)) ((list_shape s).rename place_of xs) ≡ xs
  back s l xs b =
      let laws = list_is_shape s l xs in
      laws.composes (name_of (whole_content w)) place_of ∙ laws.agrees (λ p. name_of (whole_content w) (place_of p)) (λ p. p) (λ k a. named k (b k a)) ∙ laws.keeps

  sound : IsSound (whole_content w)
  sound = record {
    places = places_distinct 0 w.heap;
    serials = serials_distinct 0 w.heap;
    below = λ k a. omega (arith, (serial_within 0 w.heap k a).1);
  }

  places_are : map place_of (roots w) ≡ places (whole_machine w)
  places_are = join place_of
      ((list_shape thread_shape).refs w.threads) ((list_shape static_shape).refs w.statics) ((list_shape monitor_shape).refs w.monitors) ((list_shape literal_shape).refs w.literals)
      ((list_shape thread_shape).refs ((list_shape thread_shape).rename place_of w.threads)) ((list_shape static_shape).refs ((list_shape static_shape).rename place_of w.statics)) ((list_shape monitor_shape).refs ((list_shape monitor_shape).rename place_of w.monitors)) ((list_shape literal_shape).refs ((list_shape literal_shape).rename place_of w.literals))
      (listed thread_shape thread_is_shape place_of w.threads ((list_shape thread_shape).rename place_of w.threads) refl)
      (listed static_shape static_is_shape place_of w.statics ((list_shape static_shape).rename place_of w.statics) refl)
      (listed monitor_shape monitor_is_shape place_of w.monitors ((list_shape monitor_shape).rename place_of w.monitors) refl)
      (listed literal_shape literal_is_shape place_of w.literals ((list_shape literal_shape).rename place_of w.literals) refl)

  resident : AllResident (whole_content w) (places (whole_machine w))
  unfolding serial_at
  resident p a =
      let found = among_mapped place_of p (roots w) (subst (Among p) (sym places_are) a) in
      (found.0, subst (λ q. serial_in (residents_from 0 w.heap) q ≡ Some found.0) (sym found.2) (serial_there 0 w.heap found.0 (omega arith) (omega (arith, among_roots w f found.0 found.1))))

  same_object : (o : Option Object) → option_map (as_named (λ t. t)) o ≡ o
  same_object None = refl
  same_object (Some o) = refl

  in_threads : (k : ℕ) → Among k ((list_shape thread_shape).refs w.threads) → k < length w.heap
  in_threads k a = among_roots w f k (among_left k (((list_shape thread_shape).refs w.threads ++ (list_shape static_shape).refs w.statics) ++ (list_shape monitor_shape).refs w.monitors) ((list_shape literal_shape).refs w.literals)
      (among_left k ((list_shape thread_shape).refs w.threads ++ (list_shape static_shape).refs w.statics) ((list_shape monitor_shape).refs w.monitors)
      (among_left k ((list_shape thread_shape).refs w.threads) ((list_shape static_shape).refs w.statics) a)))

  in_statics : (k : ℕ) → Among k ((list_shape static_shape).refs w.statics) → k < length w.heap
  in_statics k a = among_roots w f k (among_left k (((list_shape thread_shape).refs w.threads ++ (list_shape static_shape).refs w.statics) ++ (list_shape monitor_shape).refs w.monitors) ((list_shape literal_shape).refs w.literals)
      (among_left k ((list_shape thread_shape).refs w.threads ++ (list_shape static_shape).refs w.statics) ((list_shape monitor_shape).refs w.monitors)
      (among_right k ((list_shape thread_shape).refs w.threads) ((list_shape static_shape).refs w.statics) a)))

  in_monitors : (k : ℕ) → Among k ((list_shape monitor_shape).refs w.monitors) → k < length w.heap
  in_monitors k a = among_roots w f k (among_left k (((list_shape thread_shape).refs w.threads ++ (list_shape static_shape).refs w.statics) ++ (list_shape monitor_shape).refs w.monitors) ((list_shape literal_shape).refs w.literals)
      (among_right k ((list_shape thread_shape).refs w.threads ++ (list_shape static_shape).refs w.statics) ((list_shape monitor_shape).refs w.monitors) a))

  in_literals : (k : ℕ) → Among k ((list_shape literal_shape).refs w.literals) → k < length w.heap
  in_literals k a = among_roots w f k (among_right k (((list_shape thread_shape).refs w.threads ++ (list_shape static_shape).refs w.statics) ++ (list_shape monitor_shape).refs w.monitors) ((list_shape literal_shape).refs w.literals) a)

  pub whole_matches : Matches (whole_machine w) w
  whole_matches = record {
    sound = sound;
    resident = resident;
    limit = refl;
    next = refl;
    bound = bounded w f;
    objects = λ k r. ap (option_map (as_named (λ t. t))) (objects_are k) ∙ same_object (slice_get w.heap k);
    threads = back thread_shape thread_is_shape w.threads in_threads;
    statics = back static_shape static_is_shape w.statics in_statics;
    monitors = back monitor_shape monitor_is_shape w.monitors in_monitors;
    monitor_serials = refl;
    thread_serials = refl;
    literals = back literal_shape literal_is_shape w.literals in_literals;
    program = refl;
    classes = refl;
    output = refl;
    stop = refl;
  }

pub worlds_are_matched : WorldsAreMatched
worlds_are_matched w f = whole_matches w f
