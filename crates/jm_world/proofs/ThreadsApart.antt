-- A frame rule: a step of a thread does not look at another thread, but for its object and for what it reaches.
use Rattle.std.proofs.Common.{◌≡◌, ℕ, zero, suc, ◌+◌, ◌<◌, List, [], ◌∷◌, ◌++◌, Option, Some, None, Bool, true, false, refl, sym, ap, subst, ◌∙◌, length, inl, inr, arith}
use Rattle.std.specs.Prelude.{◌-◌, slice_get, slice_set}
use Rattle.jm_program.proofs.Sequences.{length_written}
use Rattle.jm_values.specs.declared.value.Value.{Value}
use Rattle.jm_values.specs.declared.value.Value.TheVariants.{Ref}
use Rattle.jm_world.specs.Objects.{Object}
use Rattle.jm_world.specs.Frames.{Frame}
use Rattle.jm_world.specs.World.{World, Thread, Monitor, Ending, reach_cells, thread_at, with_thread}
use Rattle.jm_world.specs.Monitors.{recounted, without_monitor}
use Rattle.jm_world.specs.Next.{Next, goes, with_objects}
use Rattle.jm_world.specs.BuiltInMethods.{is_object_of, was_started, new_thread, with_new_thread}
use Rattle.jm_world.specs.Here.{Here}
use Rattle.jm_world.specs.Throwing.{unwind}
use Rattle.jm_world.specs.Stepping.{from_outcome, instruction_at, step_frame, step_thread}
use Rattle.jm_world.specs.SideBySide.{Values, ints, longs, nulls, refs, Lists, none, more, Options, neither, both, Objects, objects, acts, Frames, methods, initializations, entries}
use Rattle.jm_world.specs.TwoWorlds.{Two}
use Rattle.jm_world.proofs.WhatComes.{Alike, Grown, Locks, stay, entered, again, left_one, left_last, Changes, same, stored, sets, locks, states, begins, writes, Comes, stopped, blocked, Turned, went, makes, fails, starts}
use Rattle.jm_world.specs.declared.class_state.ClassState.{ClassState}
use Rattle.jm_world.specs.declared.class_state.ClassState.TheVariants.{Failed}
use Rattle.jm_world.specs.TwoThreads.{put_in, StepsAreApart, IsPlain, PlainStepsCommute}
use Rattle.std.proofs.lemmas.Option.{slice_get_within}
use Rattle.jm_world.proofs.StepsSideBySide.{step_both}
use Rattle.jm_world.proofs.BesideItself.{Same, half_of, twin, twin_alike, running_itself}
use Rattle.jm_world.specs.NamesOfRuns.{SameNames}
use Rattle.jm_world.proofs.KeptByEvents.{Behind}
use Rattle.jm_world.proofs.KeepingNames.{step_keeps}

-- what is alike by equal numbers is equal
module _ (R : ℕ → ℕ → Type 0) (is : (k j : ℕ) → R k j → k ≡ j) where
  value_is : (v u : Value) → Values R v u → v ≡ u
  value_is _ _ ints = refl
  value_is _ _ longs = refl
  value_is _ _ nulls = refl
  value_is _ _ (refs r) = ap Ref (is _ _ r)

  list_is : {A : Type 0} (P : A → A → Type 0) → ((x y : A) → P x y → x ≡ y) → (xs ys : List A) → Lists P xs ys → xs ≡ ys
  list_is P f _ _ none = refl
  list_is P f _ _ (more a l) = cc (f _ _ a, list_is P f _ _ l)

  option_is : {A : Type 0} (P : A → A → Type 0) → ((x y : A) → P x y → x ≡ y) → (o p : Option A) → Options P o p → o ≡ p
  option_is P f _ _ neither = refl
  option_is P f _ _ (both a) = ap Some (f _ _ a)

  frame_is : (f g : Frame) → Frames R f g → f ≡ g
  frame_is _ _ (methods (acts ls s) o) = cc (list_is (Options (Values R)) (option_is (Values R) value_is) _ _ ls, list_is (Values R) value_is _ _ s, option_is R is _ _ o)
  frame_is _ _ initializations = refl
  frame_is _ _ entries = refl

  object_is : (o b : Object) → Objects R o b → o ≡ b
  object_is _ _ (objects l) = cc (list_is (Values R) value_is _ _ l)

  made_of : Option ℕ → List Frame → Option ℕ → Ending → Thread
  made_of o fs p e = record { object = o; frames = fs; pending = p; ending = e }

  pub thread_is : (p : Two) (n : ℕ) (c : Option (List ℕ × ClassState)) (t s r : Thread) → Turned R p n t t c s r → s ≡ r
  unfolding made_of
  thread_is p n c t s r x =
      ap (λ o. made_of o s.frames s.pending s.ending) (x.object ∙ sym x.other)
      ∙ ap (λ fs. made_of r.object fs s.pending s.ending) (list_is (Frames R) frame_is _ _ x.frames)
      ∙ ap (λ p. made_of r.object r.frames p s.ending) (option_is R is _ _ x.pending)
      ∙ ap (λ e. made_of r.object r.frames r.pending e) x.ending

-- lists
set_swap : {A : Type 0} (xs : List A) (i j : ℕ) (x y : A) → (i ≡ j → ⊥) → slice_set (slice_set xs i x) j y ≡ slice_set (slice_set xs j y) i x
set_swap [] i j x y e = refl
set_swap (z ∷ xs) zero zero x y e = absurd (e refl)
set_swap (z ∷ xs) zero (suc j) x y e = refl
set_swap (z ∷ xs) (suc i) zero x y e = refl
set_swap (z ∷ xs) (suc i) (suc j) x y e = ap (λ l. z ∷ l) (set_swap xs i j x y (λ d. e (ap suc d)))

set_front : {A : Type 0} (xs ys : List A) (i : ℕ) (x : A) → i < length xs → slice_set (xs ++ ys) i x ≡ slice_set xs i x ++ ys
set_front [] ys i x l = absurd (omega arith)
set_front (z ∷ xs) ys zero x l = refl
set_front (z ∷ xs) ys (suc i) x l = ap (λ l. z ∷ l) (set_front xs ys i x (omega (arith, l)))

started_apart : (ts : List Thread) (i : ℕ) (s r : Thread) (k : ℕ) → slice_get ts i ≡ Some s → s.object ≡ r.object → was_started k ts ≡ was_started k (slice_set ts i r)
started_apart [] i s r k e f = refl
started_apart (t ∷ ts) zero s r k e f = let h : t ≡ s = cc in ap (λ o. elim (is_object_of k o) as (λ _. Bool) [ true ↦ true | false ↦ was_started k ts ]) (ap (λ (x : Thread). x.object) h ∙ f)
started_apart (t ∷ ts) (suc i) s r k e f = ap (λ b. elim (is_object_of k t.object) as (λ _. Bool) [ true ↦ true | false ↦ b ]) (started_apart ts i s r k e f)

-- a world beside the same with another thread changed
abbrev pub beside : World → ℕ → Thread → Two
beside w m r = record (twin w) { other = record (half_of w) { threads = slice_set w.threads (m - 1) r } }

module _ (w : World) (n m : ℕ) (t s r : Thread) (there : slice_get w.threads (m - 1) ≡ Some s) (within : m - 1 < length w.threads) (object : s.object ≡ r.object) (cells : reach_cells w ≡ reach_cells (with_thread w m r)) (apart : n - 1 ≡ m - 1 → ⊥) where
  p : Two
  p = beside w m r

  p_alike : Alike Same (beside w m r)
  p_alike = let a = twin_alike w in record {
    cells = cells;
    made = refl;
    objects = a.objects;
    literals = a.literals;
    statics = a.statics;
    held = a.held;
    started = λ k j e. subst (λ j. was_started k w.threads ≡ was_started j (slice_set w.threads (m - 1) r)) e (started_apart w.threads (m - 1) s r k there object);
    plain = a.plain;
  }

  locks_are : (ms ns : List Monitor) → Locks Same (beside w m r) n ms ns → ms ≡ ns
  locks_are _ _ stay = refl
  locks_are _ _ (entered e f g) = cc
  locks_are _ _ (again {m = x} e f g h) = ap (λ k. recounted w.monitors k (x.count + 1)) e
  locks_are _ _ (left_one {m = x} e f g h) = ap (λ k. recounted w.monitors k (x.count - 1)) e
  locks_are _ _ (left_last e f g h) = ap (without_monitor w.monitors) e

  changes_are : (c : Option (List ℕ × ClassState)) (v u : World) → Changes Same (beside w m r) n c v u → u ≡ with_thread v m r
  changes_are _ _ _ same = refl
  changes_are _ _ _ (stored i e f g x a) = cc (object_is Same (λ k j e. e) _ _ x, value_is Same (λ k j e. e) _ _ a)
  changes_are _ _ _ (sets f a) = cc (value_is Same (λ k j e. e) _ _ a)
  changes_are _ _ _ (locks x) = cc (locks_are _ _ x)
  changes_are _ _ _ (states class state) = refl
  changes_are _ _ _ (begins class) = refl
  changes_are _ _ _ (writes bytes) = refl

  swapped : (v : World) (x y : Thread) → x ≡ y → with_thread (with_thread v m r) n y ≡ with_thread (with_thread v n x) m r
  swapped v x y e = ap (λ y. with_thread (with_thread v m r) n y) (sym e) ∙ ap (λ ts. record v { threads = ts }) (set_swap v.threads (m - 1) (n - 1) r x (λ d. apart (sym d)))

  grown_is : (c k j : ℕ) → Grown Same (beside w m r) c k j → k ≡ j
  grown_is c k j (inl e) = e
  grown_is c k j (inr q) = q.0

  comes_are : (x y : Next) → Comes Same (beside w m r) n t t x y → y ≡ put_in m r x
  comes_are _ _ stopped = refl
  comes_are _ _ (blocked x) = refl
  comes_are _ _ (went {w = v} {v = u} {s = a} {r = b} d c x y) = ap (λ v. goes (with_thread v n b)) (changes_are d v u c) ∙ ap goes (swapped v a b (thread_is Same (λ k j e. e) (beside w m r) n d t a b x))
  comes_are _ _ (makes os {s = a} {r = b} q x y) = ap goes (swapped (with_objects w os) a b (thread_is (Grown Same (beside w m r) (length os)) (grown_is (length os)) (beside w m r) n None t a b x))
  comes_are _ _ (fails class os {s = a} {r = b} q x y) = ap goes (swapped _ a b (thread_is (Grown Same (beside w m r) (length os)) (grown_is (length os)) (beside w m r) n (Some (class, Failed)) t a b x))
  comes_are _ _ (starts {k = k} {j = j} {s = a} {r = b} e x y) =
      ap (λ v. goes (with_new_thread v (new_thread j))) (swapped w a b (thread_is Same (λ k j e. e) (beside w m r) n None t a b x))
      ∙ ap (λ j. goes (with_new_thread (with_thread (with_thread w n a) m r) (new_thread j))) (sym e)
      ∙ ap (λ ts. goes (record w { threads = ts })) (sym (set_front (slice_set w.threads (n - 1) a) (new_thread k ∷ []) (m - 1) r (omega (arith, within, length_written w.threads (n - 1) a))))

  -- the frame rule
  pub step_apart : step_thread (with_thread w m r) n t ≡ put_in m r (step_thread w n t)
  step_apart = comes_are _ _ (step_both Same (record { worlds = beside w m r; number = n; thread = t; thread' = t; alike = p_alike; running = running_itself t }))

-- a plain instruction that goes on looks at its own frame alone
plain_goes : (w : World) (m : ℕ) (s r : Thread) → IsPlain w.program s r → step_thread w m s ≡ goes (with_thread w m r)
plain_goes w m s r x =
    ap (λ o. elim o as (λ _. Next) [ Some k ↦ unwind w m s k | None ↦ step_frame w m s s.frames ]) x.ready
    ∙ ap (step_frame w m s) x.stands
    ∙ ap (instruction_at here) x.found
    ∙ ap (from_outcome here) x.goes_on
    ∙ ap (λ r. goes (with_thread w m r)) (sym x.becomes)
  where
    here : Here
    here = record { world = w; number = m; thread = s; method = x.method; monitor = x.monitor; frame = x.before; below = x.below }

-- two threads of a world by their numbers
number_apart : (w : World) (n m : ℕ) (t s : Thread) → thread_at w n ≡ Some t → thread_at w m ≡ Some s → (n ≡ m → ⊥) → n - 1 ≡ m - 1 → ⊥
number_apart w zero m t s a b e f = cc
number_apart w (suc n) zero t s a b e f = cc
number_apart w (suc n) (suc m) t s a b e f = e (omega (arith, f))

slice_of : (w : World) (m : ℕ) (s : Thread) → thread_at w m ≡ Some s → slice_get w.threads (m - 1) ≡ Some s
slice_of w zero s e = cc
slice_of w (suc m) s e = let d : suc m - 1 ≡ m = omega arith in subst (λ i. slice_get w.threads i ≡ Some s) (sym d) e

pub steps_are_apart : StepsAreApart
steps_are_apart w n m t s r a b e object cells = let f = slice_of w m s b in step_apart w n m t s r f (slice_get_within w.threads (m - 1) s f) object cells (number_apart w n m t s a b e)

pub plain_steps_commute : PlainStepsCommute
plain_steps_commute w v n m t s r a b e x cells c = (
  plain_goes w m s r x,
  steps_are_apart w n m t s r a b e (ap (λ (y : Thread). y.object) (sym x.becomes)) cells ∙ ap (put_in m r) c,
  plain_goes v m s r (subst (λ program. IsPlain program s r) (sym (subst (Behind (SameNames w)) c (step_keeps w n t)).0) x),
)
