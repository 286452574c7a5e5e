-- A journal with one entry more.
use Rattle.std.proofs.Common.{◌≡◌, ℕ, zero, suc, ◌+◌, ◌<◌, ◌≤◌, List, [], ◌∷◌, ◌++◌, refl, sym, ap, ◌∙◌, subst, length, replicate, arith}
use Rattle.std.specs.Prelude.{map}
use Rattle.std.proofs.lemmas.List.{map-append, replicate-append-replicate}
use Rattle.jm_world.specs.World.{World}
use Rattle.jm_world.specs.Run.{after, reply, replies_from, run_from}
use Rattle.jm_world.specs.declared.event.Event.{Event}
use Rattle.jm_world.specs.declared.event.Event.TheVariants.{Step}
use Rattle.jm_world.specs.declared.reply.Reply.{Reply}
use Rattle.jm_world.specs.declared.reply.ReplyKind.TheVariants.{Done}
use Rattle.jm_machine.specs.View.{MachineView, MatchesWorld}
use Rattle.jm_machine.specs.ManySteps.{AreSteps, EndsBy, EndsFor, made_of_steps, other_replies, replies_of_steps, steps_of}
use Rattle.jm_machine.specs.declared.steps.Steps.{Steps}
use Rattle.jm_machine.specs.declared.steps.StepsEnd.{StepsEnd}
use Rattle.jm_machine.specs.declared.steps.StepsEnd.TheVariants.{AllMade, Other, OutOfMemory}
use Rattle.jm_shared.specs.declared.entry.Entry.{Entry}
use Rattle.jm_shared.specs.declared.entry.Receipts.{Receipts}
use Rattle.jm_shared.specs.Legal.{IsLegal, entry_of, reply_of, events_of, world_after}
use Rattle.jm_shared.specs.ManyTurns.{entries_of_turns}

-- a journal without entries
pub begun : {H : Type 0} (first : World) (es : List Entry) (m : MachineView H) → es ≡ [] → MatchesWorld m first → IsLegal first es × MatchesWorld m (world_after first es)
begun first es m none matches = subst (λ xs. IsLegal first xs × MatchesWorld m (world_after first xs)) (sym none) (refl, matches)

-- entries behind those that there are
legal_append : (w : World) (es fs : List Entry) → IsLegal w es → IsLegal (world_after w es) fs → IsLegal w (es ++ fs)
legal_append w [] fs l more = more
legal_append w (x ∷ xs) fs l more =
    let first : reply_of x ≡ (after w x.event).reply = cc in
    let rest : map reply_of xs ≡ replies_from (after w x.event).world (events_of xs) = cc in
    let all : map reply_of (xs ++ fs) ≡ replies_from (after w x.event).world (events_of (xs ++ fs)) = legal_append (after w x.event).world xs fs rest more in
    λ i. first i ∷ all i

world_append : (w : World) (es fs : List Entry) → world_after w (es ++ fs) ≡ world_after (world_after w es) fs
world_append w [] fs = refl
world_append w (x ∷ xs) fs = world_append (after w x.event).world xs fs

legal_more : (w : World) (es : List Entry) (e : Entry) → IsLegal w es → reply_of e ≡ (after (world_after w es) e.event).reply → IsLegal w (es ++ e ∷ [])
legal_more w es e l r = legal_append w es (e ∷ []) l (ap (λ x. x ∷ []) r)

world_more : (w : World) (es : List Entry) (e : Entry) → world_after w (es ++ e ∷ []) ≡ (after (world_after w es) e.event).world
world_more w es e = world_append w es (e ∷ [])

-- the journal stays legal, and the machine matches where it leads
pub turned : {H : Type 0} (first : World) (es kept fs : List Entry) (e : Entry) (m : MachineView H) → IsLegal first es → MatchesWorld m (after (world_after first es) e.event).world → reply_of e ≡ (after (world_after first es) e.event).reply
    → fs ≡ kept ++ e ∷ [] → kept ≡ es → IsLegal first fs × MatchesWorld m (world_after first fs)
turned first es kept fs e m l w r is same =
    let more : fs ≡ es ++ e ∷ [] = is ∙ ap (λ xs. xs ++ e ∷ []) same in
    subst (λ xs. IsLegal first xs × MatchesWorld m (world_after first xs)) (sym more) (legal_more first es e l r, subst (MatchesWorld m) (sym (world_more first es e)) w)

-- ---- several turns

pub events_replicate : (n : ℕ) (e : Entry) → events_of (replicate n e) ≡ replicate n e.event
events_replicate zero e = refl
events_replicate (suc n) e = ap (λ es. e.event ∷ es) (events_replicate n e)

pub replies_replicate : (n : ℕ) (e : Entry) → map reply_of (replicate n e) ≡ replicate n (reply_of e)
replies_replicate zero e = refl
replies_replicate (suc n) e = ap (λ es. reply_of e ∷ es) (replies_replicate n e)

pub events_told : (seat : ℕ) (event : Event) (rs : List Reply) → events_of (map (entry_of seat event) rs) ≡ replicate (length rs) event
events_told seat event [] = refl
events_told seat event (r ∷ rs) = ap (λ es. event ∷ es) (events_told seat event rs)

pub replies_told : (seat : ℕ) (event : Event) (rs : List Reply) → map reply_of (map (entry_of seat event) rs) ≡ rs
replies_told seat event [] = refl
replies_told seat event (r ∷ rs) = ap (λ es. r ∷ es) (replies_told seat event rs)

module _ (t : Receipts) where
  abbrev turn_entry : Reply → Entry
  turn_entry = entry_of t.seat (Step t.thread)

  events_made : events_of (entries_of_turns t) ≡ steps_of t.thread (made_of_steps t.steps)
  events_made =
      map-append (λ (e : Entry). e.event) (replicate t.steps.alike (turn_entry t.steps.reply)) (map turn_entry (other_replies t.steps.end))
      ∙ (λ i. events_replicate t.steps.alike (turn_entry t.steps.reply) i ++ events_told t.seat (Step t.thread) (other_replies t.steps.end) i)
      ∙ replicate-append-replicate t.steps.alike (length (other_replies t.steps.end)) (Step t.thread)

  replies_made : map reply_of (entries_of_turns t) ≡ replies_of_steps t.steps
  replies_made =
      map-append reply_of (replicate t.steps.alike (turn_entry t.steps.reply)) (map turn_entry (other_replies t.steps.end))
      ∙ (λ i. replies_replicate t.steps.alike (turn_entry t.steps.reply) i ++ replies_told t.seat (Step t.thread) (other_replies t.steps.end) i)

  -- the journal stays legal, and the machine matches where it leads
  pub all_turned : {H : Type 0} (first : World) (es kept fs : List Entry) (m : MachineView H) → IsLegal first es → AreSteps (world_after first es) t.thread m t.steps
      → fs ≡ kept ++ entries_of_turns t → kept ≡ es → IsLegal first fs × MatchesWorld m (world_after first fs)
  all_turned first es kept fs m l s is same =
      let w = world_after first es in
      let more : fs ≡ es ++ entries_of_turns t = is ∙ ap (λ xs. xs ++ entries_of_turns t) same in
      let legal : IsLegal w (entries_of_turns t) = replies_made ∙ s.replies ∙ ap (replies_from w) (sym events_made) in
      let there : MatchesWorld m (world_after w (entries_of_turns t)) = subst (λ events. MatchesWorld m (run_from w events)) (sym events_made) s.world in
      subst (λ xs. IsLegal first xs × MatchesWorld m (world_after first xs)) (sym more)
      (legal_append first es (entries_of_turns t) l legal, subst (MatchesWorld m) (sym (world_append first es (entries_of_turns t))) there)

-- no more are made than were asked for
pub made_within : (most : ℕ) (s : Steps) → EndsBy most s → made_of_steps s ≤ most
made_within most s ends = by s.end ends
  where
    by : (end : StepsEnd) → EndsFor most s end → s.alike + length (other_replies end) ≤ most
    by AllMade e = omega arith
    by (Other r) e = let low = e.0 in omega arith
    by OutOfMemory e = omega arith

-- none is made
pub none_made : (s : Steps) (most : ℕ) → 0 < most → s.alike ≡ 0 → s.end ≡ OutOfMemory → EndsBy most s
none_made s most some none end = subst (EndsFor most s) (sym end) (omega arith)

pub no_steps_made : {H : Type 0} (w : World) (thread : ℕ) (m : MachineView H) (s : Steps) → MatchesWorld m w → s.alike ≡ 0 → s.end ≡ OutOfMemory → s.reply ≡ reply Done w
    → AreSteps w thread m s
no_steps_made w thread m s matches none end is =
    subst (AreSteps w thread m) (λ i. record { alike = sym none i; reply = s.reply; end = sym end i })
    (record { world = matches; replies = refl; reply = is })
