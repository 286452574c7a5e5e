-- The events of a schedule: what is left of a run, and the runs behind it.
use Rattle.std.proofs.Common.{◌≡◌, ℕ, suc, ◌+◌, ◌-◌, ◌≤◌, ◌<◌, List, [], ◌∷◌, ◌++◌, Some, length, drop, get_or, replicate, slice_get, sym, ap, ◌∙◌, append_assoc, arith}
use Rattle.std.specs.Prelude.{Bool, ⊤}
use Rattle.std.specs.List.{flat_map}
use Rattle.std.proofs.lemmas.List.{drop_all, replicate-append-replicate}
use Rattle.std.proofs.lemmas.Option.{slice_get-get_or}
use Rattle.jm_program.proofs.Sequences.{first_left as next}
use Rattle.jm_world.specs.World.{World}
use Rattle.jm_world.specs.declared.event.Event.{Event}
use Rattle.jm_schedule.specs.Runs.{repeats_of, events_of}
use Rattle.jm_schedule.specs.declared.schedule.Run.{Run}
use Rattle.jm_schedule.proofs.RunLemmas.{no_run}
use Rattle.jm_events.specs.Due.{IsNext, scheduled_behind, scheduled_due}
use Rattle.jm_events.specs.declared.scheduled.Scheduled.{Scheduled}

-- the next run begins
begun : (runs : List Run) (i : ℕ) (run : Run) → slice_get runs i ≡ Some run → events_of (drop i runs) ≡ repeats_of run ++ events_of (drop (i + 1) runs)
unfolding events_of
begun runs i run is = ap (flat_map repeats_of) (next runs i run is)

pub begins : (s : Scheduled) (d : Run) → s.run.count ≡ 0 → s.begun < length s.runs.now
    → scheduled_due (record s { run = get_or s.runs.now s.begun d; begun = s.begun + 1 }) ≡ scheduled_due s
begins s d none more =
    sym (ap (λ n. replicate n s.run.event ++ events_of (drop s.begun s.runs.now)) none
    ∙ begun s.runs.now s.begun (get_or s.runs.now s.begun d) (slice_get-get_or s.runs.now s.begun d more))

pub none_left : (s : Scheduled) → s.run.count ≡ 0 → length s.runs.now ≤ s.begun → scheduled_due s ≡ []
none_left s none past =
    ap (λ n. replicate n s.run.event ++ events_of (drop s.begun s.runs.now)) none ∙ ap events_of (drop_all s.begun s.runs.now past) ∙ no_run

-- of some events there is one more behind so many
pub repeated : (count k : ℕ) (e : Event) (rest : List Event) → k < count → replicate count e ++ rest ≡ replicate k e ++ e ∷ (replicate (count - 1 - k) e ++ rest)
repeated count k e rest few =
    let all : count ≡ k + suc (count - 1 - k) = omega arith in
    ap (λ n. replicate n e ++ rest) all
    ∙ ap (λ (es : List Event). es ++ rest) (sym (replicate-append-replicate k (suc (count - 1 - k)) e))
    ∙ append_assoc (replicate k e) (replicate (suc (count - 1 - k)) e) rest

-- ---- the event that is due

pub is_next : (old s : Scheduled) (w : World) → scheduled_due s ≡ scheduled_due old → 0 < s.run.count
    → IsNext (λ (x : Scheduled) (v : World). scheduled_due x) (λ (x : Scheduled) (v : World). ⊤) (λ (x : Scheduled) (b : Bool). x) scheduled_behind old w
    (record { event = s.run.event; most = s.run.count }) (record s { run = record { event = s.run.event; count = s.run.count - 1 } })
is_next old s w same some =
    let rest = events_of (drop s.begun s.runs.now) in
    let all : s.run.count - 1 - 0 ≡ s.run.count - 1 = omega arith in
    record {
      one = sym same ∙ repeated s.run.count 0 s.run.event rest some ∙ ap (λ n. s.run.event ∷ (replicate n s.run.event ++ rest)) all;
      kept = tt;
      some = some;
      many = λ thread k step few said. (
        sym same ∙ repeated s.run.count k s.run.event rest few
            ∙ ap (λ (e : Event). replicate k e ++ e ∷ (replicate (s.run.count - 1 - k) s.run.event ++ rest)) step,
        tt,
      );
    }
