-- Which threads can go, and what an event of one that cannot leaves.
use Rattle.std.proofs.Common.{◌≡◌, ◌≢◌, ◌⊎◌, ℕ, zero, suc, ◌≤◌, ◌<◌, Bool, true, false, Option, Some, None, is_some, length, nat_eq, refl, sym, ap, subst, ◌∙◌, arith, true≢false, inl, inr}
use Rattle.std.proofs.lemmas.Bool.{false≢true}
use Rattle.std.proofs.lemmas.Option.{slice_get_past}
use Rattle.jm_program.proofs.Numbers.{found_itself}
use Rattle.jm_world.specs.World.{World, Thread, is_running, thread_at}
use Rattle.jm_world.specs.Next.{Next, goes, stops, blocks}
use Rattle.jm_world.specs.Stepping.{step_thread}
use Rattle.jm_world.specs.Run.{After, after, after_step, after_thread, answered}
use Rattle.jm_world.specs.declared.event.Event.TheVariants.{Step}
use Rattle.jm_world.specs.declared.reply.ReplyKind.TheVariants as kind
use Rattle.jm_world.specs.declared.stop.Stop.{Stop}
use Rattle.jm_machine.specs.Threads.{is_live, is_live_thread}
use Rattle.jm_machine.specs.View.{MachineView, MatchesWorld}
use Rattle.jm_explore.specs.Branches.{WentIf}
use Rattle.jm_explore.specs.Switches.{can_go, is_going, other_than}

abbrev after_of : World → ℕ → Option Stop → Option Thread → After
after_of w t None o = after_thread w t o
after_of w t (Some s) o = answered kind.Stopped w

abbrev goes_of : World → ℕ → Option Stop → Option Thread → Bool
goes_of w t None o = is_going (after_of w t None o).reply.kind
goes_of w t (Some s) o = false

-- ---- a thread that can go lives

running : (w : World) (t : ℕ) (th : Thread) (b : Bool) → is_going (elim b as (λ _. After) [ true ↦ after_step w (step_thread w t th) | false ↦ answered kind.Ended w ]).reply.kind ≡ true → b ≡ true
running w t th true h = refl
running w t th false h = h

lives : (w : World) (t : ℕ) (s : Option Stop) (o : Option Thread) → goes_of w t s o ≡ true → is_live_thread o ≡ true
lives w t (Some s) o h = absurd (false≢true h)
lives w t None None h = h
lives w t None (Some th) h = running w t th (is_running th.ending) h

opened : (w : World) (t : ℕ) (s : Option Stop) → w.stop ≡ s → can_go w t ≡ goes_of w t s (thread_at w t)
unfolding can_go after
opened w t s e = subst (λ x. can_go w t ≡ goes_of w t x (thread_at w t)) e (by w.stop)
  where
    by : (x : Option Stop) → elim x as (λ _. Bool) [ Some s ↦ false | None ↦ is_going (elim x as (λ _. After) [ Some s ↦ answered kind.Stopped w | None ↦ after_thread w t (thread_at w t) ]).reply.kind ] ≡ goes_of w t x (thread_at w t)
    by None = refl
    by (Some s) = refl

pub going_lives : (w : World) (t : ℕ) → can_go w t ≡ true → is_live w t ≡ true
going_lives w t h = lives w t w.stop (thread_at w t) (sym (opened w t w.stop refl) ∙ h)

-- a live thread has a number from 1 to the number of threads
pub live_within : (w : World) (t : ℕ) → is_live w t ≡ true → (0 < t) × (t ≤ length w.threads)
live_within w zero h = absurd (false≢true h)
live_within w (suc n) h = (omega arith, elim (small n (length w.threads)) [ inl low ↦ omega (arith, low) | inr high ↦ absurd (false≢true (ap is_live_thread (sym (slice_get_past w.threads n high)) ∙ h)) ])
  where
    small : (k l : ℕ) → (k < l) ⊎ (l ≤ k)
    small k l = grind arith

pub nobody_goes : (w : World) → can_go w 0 ≡ false
nobody_goes w = opened w 0 w.stop refl ∙ by w.stop
  where
    by : (s : Option Stop) → goes_of w 0 s None ≡ false
    by None = refl
    by (Some s) = refl

-- ---- an event that does not go leaves the world

pub stays_step : (w : World) (n : Next) → is_going (after_step w n).reply.kind ≡ false → (after_step w n).world ≡ w
stays_step w (goes v) h = absurd (true≢false h)
stays_step w (stops s) h = absurd (true≢false h)
stays_step w blocks h = refl

pub stays_running : (w : World) (t : ℕ) (th : Thread) (b : Bool) → is_going (elim b as (λ _. After) [ true ↦ after_step w (step_thread w t th) | false ↦ answered kind.Ended w ]).reply.kind ≡ false
    → (elim b as (λ _. After) [ true ↦ after_step w (step_thread w t th) | false ↦ answered kind.Ended w ]).world ≡ w
stays_running w t th true h = stays_step w (step_thread w t th) h
stays_running w t th false h = refl

stays_of : (w : World) (t : ℕ) (s : Option Stop) (o : Option Thread) → is_going (after_of w t s o).reply.kind ≡ false → (after_of w t s o).world ≡ w
stays_of w t (Some s) o h = refl
stays_of w t None None h = refl
stays_of w t None (Some th) h = stays_running w t th (is_running th.ending) h

pub after_is : (w : World) (t : ℕ) → after w (Step t) ≡ after_of w t w.stop (thread_at w t)
unfolding after
after_is w t = by w.stop
  where
    by : (x : Option Stop) → elim x as (λ _. After) [ Some s ↦ answered kind.Stopped w | None ↦ after_thread w t (thread_at w t) ] ≡ after_of w t x (thread_at w t)
    by None = refl
    by (Some s) = refl

pub stays : (w : World) (t : ℕ) → is_going (after w (Step t)).reply.kind ≡ false → (after w (Step t)).world ≡ w
stays w t h = subst (λ a. is_going a.reply.kind ≡ false → a.world ≡ w) (sym (after_is w t)) (stays_of w t w.stop (thread_at w t)) h

-- ---- what a call tells

pub stopped_stays : (w : World) (t : ℕ) → is_some w.stop ≡ true → can_go w t ≡ false
stopped_stays w t h = opened w t w.stop refl ∙ by w.stop h
  where
    by : (s : Option Stop) → is_some s ≡ true → goes_of w t s (thread_at w t) ≡ false
    by None h = absurd (false≢true h)
    by (Some s) h = refl

pub reply_tells : (w : World) (t : ℕ) → is_some w.stop ≡ false → is_going (after w (Step t)).reply.kind ≡ can_go w t
reply_tells w t h = ap (λ (a : After). is_going a.reply.kind) (after_is w t) ∙ by w.stop h ∙ sym (opened w t w.stop refl)
  where
    by : (s : Option Stop) → is_some s ≡ false → is_going (after_of w t s (thread_at w t)).reply.kind ≡ goes_of w t s (thread_at w t)
    by None h = refl
    by (Some s) h = absurd (true≢false h)

pub went_if : {H : Type 0} (b : Bool) (w : World) (t : ℕ) (m : MachineView H) → MatchesWorld m (after w (Step t)).world → (b ≡ false → (after w (Step t)).world ≡ w) → WentIf b w t m
went_if true w t m is same = is
went_if false w t m is same = subst (MatchesWorld m) (same refl) is

-- ---- switches

pub other_same : (t : ℕ) → other_than t t ≡ 0
other_same t = by (nat_eq t t) (found_itself t)
  where
    by : (a : Bool) → a ≡ true → elim a as (λ _. ℕ) [ true ↦ 0 | false ↦ 1 ] ≡ 0
    by true h = refl
    by false h = absurd (false≢true h)

other_number : (n t : ℕ) → t ≢ n → nat_eq n t ≡ false
other_number n t other = grind (arith, other)

pub other_one : (n t : ℕ) → t ≢ n → other_than n t ≡ 1
other_one n t other = by (nat_eq n t) (other_number n t other)
  where
    by : (a : Bool) → a ≡ false → elim a as (λ _. ℕ) [ true ↦ 0 | false ↦ 1 ] ≡ 1
    by true e = absurd (true≢false e)
    by false e = refl
