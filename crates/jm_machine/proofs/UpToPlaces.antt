-- One step more of a thread, up to a place.
use Rattle.std.proofs.Common.{◌≡◌, ℕ, zero, suc, ◌+◌, ◌-◌, ◌≤◌, ◌<◌, List, false, subst, arith, inl, inr, ◌⊎◌}
use Rattle.std.proofs.lemmas.Bool.{cases_lt}
use Rattle.jm_world.specs.World.{World}
use Rattle.jm_world.specs.Run.{after, run_from}
use Rattle.jm_world.specs.declared.event.Event.TheVariants.{Step}
use Rattle.jm_world.specs.declared.reply.Reply.{Reply}
use Rattle.jm_linked.specs.Links.{LinkedView}
use Rattle.jm_interp.specs.PlainRuns.{MakesDone}
use Rattle.jm_interp.proofs.MethodRuns.{run_more}
use Rattle.jm_machine.specs.Answered.{MayWantMemory}
use Rattle.jm_machine.specs.CodePlaces.{AreFree, Stands, top_stands_at}
use Rattle.jm_machine.specs.ManySteps.{AreSteps, steps_of}
use Rattle.jm_machine.specs.UpToPlaces.{EndApart, EndAtPlace, StandApart}
use Rattle.jm_machine.specs.View.{MachineView, MatchesWorld, machine_parts}
use Rattle.jm_machine.specs.declared.code_place.CodePlace.{CodePlace}
use Rattle.jm_machine.specs.declared.steps.StepsEnd.TheVariants.{AllMade, Other, OutOfMemory}
use Rattle.jm_machine.proofs.CodePlaces.{stands_apart, stands_there, stays_apart}
use Rattle.jm_machine.proofs.ManySteps.{AreAlike, all_made, done_alike, more_alike, one_alike, other_made, step_refused}

-- so many steps were alike, and none of them began at a place
pub record AlikeApart {H : Type 0} (l : LinkedView) (places : List CodePlace) (w : World) (thread : ℕ) (now : MachineView H) (n : ℕ) (r : Reply) : Type 0 where
  pub alike : AreAlike w thread now n r
  pub apart : StandApart l places w thread n

-- so many, and then some more
apart_after : (l : LinkedView) (places : List CodePlace) (w : World) (thread n k : ℕ) → StandApart l places w thread n
    → StandApart l places (run_from w (steps_of thread n)) thread k → StandApart l places w thread (n + k)
apart_after l places w thread n k before more = λ i below. by i below (cases_lt i n)
  where
    by : (i : ℕ) → i < n + k → (i < n) ⊎ (n ≤ i) → Stands l places false (top_stands_at (run_from w (steps_of thread i)) thread)
    by i below (inl early) = before i early
    by i below (inr late) =
        let split : i ≡ n + (i - n) = omega arith in
        subst (λ v. Stands l places false (top_stands_at v thread)) (run_more w (Step thread) i n (i - n) split) (more (i - n) (omega arith))

-- a run of so many steps, of which so many were free, begins apart from places; and so does one step behind it
run_apart : {H : Type 0} (l : LinkedView) (places : List CodePlace) (v : World) (thread free run count : ℕ) (new : MachineView H)
    → AreFree l places free (top_stands_at v thread) → MakesDone (machine_parts new) thread run v
    → count ≤ free → count ≤ run + 1 → StandApart l places v thread count
run_apart l places v thread free run count new are made few many zero below = stands_apart l places free _ are (omega arith)
run_apart l places v thread free run count new are made few many (suc k) below =
    stays_apart l places free v (run_from v (steps_of thread (suc k))) thread are (omega arith) (made.stays (suc k) (omega arith))

module _ {H : Type 0} {l : LinkedView} {places : List CodePlace} {w : World} {thread n : ℕ} {now : MachineView H} {r : Reply} (a : AlikeApart l places w thread now n r)
    (same : now.linked ≡ l) (free : ℕ) (are : AreFree now.linked places free (top_stands_at (run_from w (steps_of thread n)) thread)) where
  here : AreFree l places free (top_stands_at (run_from w (steps_of thread n)) thread)
  here = subst (λ x. AreFree x places free (top_stands_at (run_from w (steps_of thread n)) thread)) same are

  -- no step may be made
  pub at_place : free ≡ 0 → EndAtPlace l places w thread now n
  at_place none = record {
    steps = subst (λ (x : Reply). AreSteps w thread now (record { alike = n; reply = x; end = AllMade })) a.alike.reply (all_made a.alike now a.alike.world);
    apart = a.apart;
    there = stands_there l places free _ here none;
  }

  -- a run was made
  module _ (run : ℕ) (new : MachineView H) (made : MakesDone (machine_parts new) thread run (run_from w (steps_of thread n))) where
    pub run_made : run ≤ free → AlikeApart l places w thread new (n + run) r
    run_made few = record {
      alike = more_alike a.alike new _ (done_alike new made);
      apart = apart_after l places w thread n run a.apart (run_apart l places _ thread free run run new here made few (omega arith));
    }

    -- and one step behind it
    module _ (behind : run < free) (last : MachineView H) where
      one_apart : StandApart l places w thread (n + run + 1)
      one_apart =
          let whole : n + (run + 1) ≡ n + run + 1 = omega arith in
          subst (StandApart l places w thread) whole
          (apart_after l places w thread n (run + 1) a.apart (run_apart l places _ thread free run (run + 1) new here made (omega arith) (omega arith)))

      module _ (other : Reply) (m : MatchesWorld last (after (run_from w (steps_of thread (n + run))) (Step thread)).world)
          (is : other ≡ (after (run_from w (steps_of thread (n + run))) (Step thread)).reply) where
        pub step_alike : other ≡ r → AlikeApart l places w thread last (n + run + 1) r
        step_alike same = record { alike = one_alike (more_alike a.alike new _ (done_alike new made)) last other m is same; apart = one_apart }

        pub step_other : EndApart l places w thread last (record { alike = n + run; reply = r; end = Other other })
        step_other = record { steps = other_made (more_alike a.alike new _ (done_alike new made)) last other m is; apart = one_apart; wants = tt }

      pub step_none : MatchesWorld last (run_from w (steps_of thread (n + run))) → MayWantMemory (run_from w (steps_of thread (n + run))) (Step thread)
          → EndApart l places w thread last (record { alike = n + run; reply = r; end = OutOfMemory })
      step_none m wants = record {
        steps = step_refused (more_alike a.alike new _ (done_alike new made)) last m;
        apart = λ k below. one_apart k (omega arith);
        wants = wants;
      }

-- none was made yet
pub none_apart : (l : LinkedView) (places : List CodePlace) (w : World) (thread : ℕ) → StandApart l places w thread 0
none_apart l places w thread = λ k below. absurd (omega arith)
