-- A journal with more of the events that are due by a source.
use Rattle.std.proofs.Common.{◌≡◌, ℕ, zero, suc, ◌+◌, ◌-◌, ◌<◌, List, [], ◌∷◌, ◌++◌, Option, Some, None, Bool, true, false, Result, Ok, Err, refl, sym, ap, subst, ◌∙◌, length, map, replicate, arith, append_assoc, append-nil, inl, inr}
use Rattle.std.specs.Prelude.{MatchResult, OnOk}
use Rattle.std.specs.List.{All}
use Rattle.std.proofs.lemmas.List.{map-append, replicate-append-replicate}
use Rattle.std.proofs.lemmas.List.Elements.{All-append, All-cons, All-nil, All-weaker}
use Rattle.jm_heap.specs.declared.heap.Kind.{Kind}
use Rattle.jm_world.specs.RoundRobin.{is_blocked}
use Rattle.jm_world.specs.Run.{after, replies_from, reply, run_from}
use Rattle.jm_world.specs.World.{World}
use Rattle.jm_world.specs.declared.event.Event.{Event}
use Rattle.jm_world.specs.declared.event.Event.TheVariants.{Step}
use Rattle.jm_world.specs.declared.reply.Reply.{Reply}
use Rattle.jm_world.specs.declared.reply.ReplyKind.TheVariants.{Done}
use Rattle.jm_world.proofs.RunsOn.{run_append}
use Rattle.jm_machine.specs.BetweenEvents.{collection_of}
use Rattle.jm_machine.specs.ManySteps.{AreSteps, EndsBy, EndsFor, done_reply, made_of_steps, other_replies, replies_of_steps, steps_of}
use Rattle.jm_machine.specs.View.{MatchesWorld}
use Rattle.jm_machine.specs.declared.steps.Steps.{Steps}
use Rattle.jm_machine.specs.declared.steps.StepsEnd.{StepsEnd}
use Rattle.jm_machine.specs.declared.steps.StepsEnd.TheVariants.{AllMade, Other, OutOfMemory}
use Rattle.jm_choice.specs.Choices.{RunEnds, all_made, cut_short, listed}
use Rattle.jm_shared.specs.Book.{Book}
use Rattle.jm_shared.specs.Legal.{IsLegal, entry_of, events_of, world_after}
use Rattle.jm_shared.specs.ManyTurns.{entries_of_turns}
use Rattle.jm_shared.specs.declared.entry.Entry.{Entry}
use Rattle.jm_shared.specs.declared.entry.Receipts.{Receipts}
use Rattle.jm_shared.proofs.SeatLists.{turns_of_seat}
use Rattle.jm_shared.proofs.Turns.{events_replicate, events_told}
use Rattle.jm_events.specs.Due.{IsNext}
use Rattle.jm_events.specs.declared.due.DueEvent.{DueEvent}
use Rattle.jm_execute.specs.Collecting.{IsCollection, IsOwnOrCollects, own_seat, with_collections, woven}
use Rattle.jm_execute.specs.KeptRecords.{IsJournal}
use Rattle.jm_execute.specs.Making.{HasMade, HasMadeSome, IsDue, Stands}
use Rattle.jm_execute.proofs.Woven.{is_collection, none_woven, still, woven_last, woven_one, woven_part, woven_runs}

-- ---- a journal with more entries

turns_made : (t : Receipts) → events_of (entries_of_turns t) ≡ steps_of t.thread (made_of_steps t.steps)
turns_made t =
    let one = entry_of t.seat (Step t.thread) in
    let others = other_replies t.steps.end in
    map-append (λ (e : Entry). e.event) (replicate t.steps.alike (one t.steps.reply)) (map one others)
    ∙ (λ i. events_replicate t.steps.alike (one t.steps.reply) i ++ events_told t.seat (Step t.thread) others i)
    ∙ replicate-append-replicate t.steps.alike (length others) (Step t.thread)

module _ {H : Type 0} (first : World) (stress : Option Kind) where
  pub begun : (b : Book H) → b.entries ≡ [] → MatchesWorld b.machine first → HasMade first stress false [] b
  begun b none matches = record {
    known = subst (All (IsOwnOrCollects (own_seat stress))) (sym none) (All-nil (IsOwnOrCollects (own_seat stress)));
    events = ap events_of none ∙ none_woven stress;
    matches = matches;
  }

  -- no entry more
  pub unchanged : (collected : Bool) (made : List Event) (old new : Book H) → new.entries ≡ old.entries → MatchesWorld new.machine (run_from first made)
      → HasMade first stress collected made old → HasMade first stress collected made new
  unchanged collected made old new same matches has = record {
    known = subst (All (IsOwnOrCollects (own_seat stress))) (sym same) has.known;
    events = ap events_of same ∙ has.events;
    matches = matches;
  }

  -- where there are no collections
  pub none_collected : (made : List Event) (b : Book H) → stress ≡ None → HasMade first stress false made b → HasMade first stress true made b
  none_collected made b none has = record {
    known = has.known;
    events = has.events ∙ ap (λ s. woven s false made) none ∙ sym (ap (λ s. woven s true made) none);
    matches = has.matches;
  }

  -- a collection more
  pub collected_more : (k : Kind) (made : List Event) (x : Entry) (old new : Book H) → stress ≡ Some k → x.seat ≡ 0 → x.event ≡ collection_of k
      → new.entries ≡ old.entries ++ x ∷ [] → MatchesWorld new.machine (after (run_from first made) x.event).world
      → HasMade first stress false made old → HasMade first stress true made new
  collected_more k made x old new is seat kind more matches has =
      let P = IsOwnOrCollects (own_seat stress) in
      let one : own_seat stress ≡ 1 = ap own_seat is in
      let low : x.seat < own_seat stress = omega (arith, seat, one) in
      record {
        known = subst (All P) (sym more)
            (All-append P old.entries (x ∷ []) has.known (All-cons P x [] (inr (low, subst IsCollection (sym kind) (is_collection k))) (All-nil P)));
        events = ap events_of more ∙ map-append (λ (e : Entry). e.event) old.entries (x ∷ []) ∙ (λ i. has.events i ++ kind i ∷ [])
            ∙ ap (λ s. woven s false made ++ collection_of k ∷ []) is ∙ woven_last k made ∙ sym (ap (λ s. woven s true made) is);
        matches = subst (MatchesWorld new.machine) (ap (λ (e : Event). (after (run_from first made) e).world) kind ∙ still (run_from first made) k) matches;
      }

  -- an event more
  pub one_more : (made : List Event) (x : Entry) (old new : Book H) → x.seat ≡ own_seat stress
      → new.entries ≡ old.entries ++ x ∷ [] → MatchesWorld new.machine (after (run_from first made) x.event).world
      → HasMade first stress true made old → HasMade first stress false (made ++ x.event ∷ []) new
  one_more made x old new own more matches has =
      let P = IsOwnOrCollects (own_seat stress) in
      record {
        known = subst (All P) (sym more) (All-append P old.entries (x ∷ []) has.known (All-cons P x [] (inl own) (All-nil P)));
        events = ap events_of more ∙ map-append (λ (e : Entry). e.event) old.entries (x ∷ []) ∙ ap (λ (es : List Event). es ++ x.event ∷ []) has.events
            ∙ woven_one stress made x.event;
        matches = subst (MatchesWorld new.machine) (sym (run_append first made (x.event ∷ []))) matches;
      }

  -- steps of a thread more, where there are no collections
  pub steps_more : (made : List Event) (t : Receipts) (old new : Book H) → stress ≡ None → t.seat ≡ 0
      → new.entries ≡ old.entries ++ entries_of_turns t → MatchesWorld new.machine (run_from (run_from first made) (steps_of t.thread (made_of_steps t.steps)))
      → HasMade first stress false made old → HasMade first stress false (made ++ steps_of t.thread (made_of_steps t.steps)) new
  steps_more made t old new none seat more matches has =
      let P = IsOwnOrCollects (own_seat stress) in
      let own : t.seat ≡ own_seat stress = seat ∙ sym (ap own_seat none) in
      let steps = steps_of t.thread (made_of_steps t.steps) in
      record {
        known = subst (All P) (sym more)
            (All-append P old.entries (entries_of_turns t) has.known (All-weaker (λ (x : Entry). x.seat ≡ t.seat) P (λ e same. inl (same ∙ own)) (entries_of_turns t) (turns_of_seat t)));
        events = ap events_of more ∙ map-append (λ (x : Entry). x.event) old.entries (entries_of_turns t) ∙ (λ i. has.events i ++ turns_made t i)
            ∙ ap (λ s. woven s false made ++ steps) none ∙ sym (ap (λ s. woven s false (made ++ steps)) none);
        matches = subst (MatchesWorld new.machine) (sym (run_append first made steps)) matches;
      }

-- ---- steps that answer alike

alike : (k n : ℕ) (w : World) (r : Reply) (rest : List Reply) (more : List Event) → replicate k r ++ rest ≡ replies_from w (steps_of n k ++ more)
    → (replies_from w (steps_of n k) ≡ replicate k r) × (rest ≡ replies_from (run_from w (steps_of n k)) more)
alike zero n w r rest more is = (refl, is)
alike (suc k) n w r rest more is =
    let v = (after w (Step n)).world in
    let here : r ≡ (after w (Step n)).reply = cc in
    let there : replicate k r ++ rest ≡ replies_from v (steps_of n k ++ more) = cc in
    let later = alike k n v r rest more there in
    ((λ i. sym here i ∷ later.0 i), later.1)

-- the first of them, and the one behind
one_behind : (k n : ℕ) (w : World) (r last : Reply) → replicate k r ++ last ∷ [] ≡ replies_from w (steps_of n (k + 1))
    → (replies_from w (steps_of n k) ≡ replicate k r) × (last ≡ (after (run_from w (steps_of n k)) (Step n)).reply)
one_behind k n w r last is =
    let parts = alike k n w r (last ∷ []) (Step n ∷ []) (is ∙ ap (replies_from w) (sym (replicate-append-replicate k 1 (Step n)))) in
    let behind = parts.1 in
    (parts.0, cc)

-- ---- what stands behind an event, or behind steps

module _ {S H : Type 0} (due : S → World → List Event) (knows : S → World → Type 0) (seen : S → Bool → S) (behind : S → ℕ → S)
    (first : World) (stress : Option Kind) (events : List Event) (d : DueEvent) (source : S) (old : Book H) (is : IsDue due knows seen behind first stress events d source old) where
  abbrev now : World
  now = run_from first is.made

  -- a growth was refused before it was made
  pub none_made : (collected : Bool) (new : Book H) → HasMade first stress collected is.made new → HasMadeSome first stress events new
  none_made collected new has = record { made = is.made; rest = due is.before now; whole = is.whole; collected = collected; has = has }

  pub one_made : (left : S) (new : Book H) (blocked : Bool) → blocked ≡ is_blocked (after now d.event).reply.kind → left ≡ seen source blocked
      → HasMade first stress false (is.made ++ d.event ∷ []) new → Stands due knows first stress events left new
  one_made left new blocked kind sees has =
      let state : seen source (is_blocked (after now d.event).reply.kind) ≡ left = sym (sees ∙ ap (seen source) kind) in
      let there : (after now d.event).world ≡ run_from first (is.made ++ d.event ∷ []) = sym (run_append first is.made (d.event ∷ [])) in
      record {
        made = is.made ++ d.event ∷ [];
        has = has;
        whole = is.whole ∙ ap (λ (es : List Event). is.made ++ es) (is.next.one ∙ (λ i. d.event ∷ due (state i) (there i)))
            ∙ sym (append_assoc is.made (d.event ∷ []) (due left (run_from first (is.made ++ d.event ∷ []))));
        kept = subst (λ s. knows s (run_from first (is.made ++ d.event ∷ []))) state (subst (knows (seen source (is_blocked (after now d.event).reply.kind))) there is.next.kept);
      }

  module _ (thread k : ℕ) (step : d.event ≡ Step thread) (few : k < d.most) (all : replies_from now (steps_of thread k) ≡ replicate k (done_reply now)) where
    abbrev behind_them : World
    behind_them = run_from now (steps_of thread k)

    -- a growth was refused behind them
    pub some_made : (new : Book H) → HasMade first stress false (is.made ++ steps_of thread k) new → HasMadeSome first stress events new
    some_made new has =
        let next = is.next.many thread k step few all in
        record {
          made = is.made ++ steps_of thread k;
          rest = _;
          whole = is.whole ∙ ap (λ (es : List Event). is.made ++ es) next.0 ∙ sym (append_assoc is.made (steps_of thread k) _);
          collected = false;
          has = has;
        }

    -- one more was made, which answered so
    pub steps_made : (left : S) (new : Book H) (blocked : Bool) → blocked ≡ is_blocked (after behind_them (Step thread)).reply.kind → left ≡ seen (behind source k) blocked
        → HasMade first stress false (is.made ++ steps_of thread (k + 1)) new → Stands due knows first stress events left new
    steps_made left new blocked kind sees has =
        let next = is.next.many thread k step few all in
        let v = (after behind_them (Step thread)).world in
        let last = seen (behind source k) (is_blocked (after behind_them (Step thread)).reply.kind) in
        let state : last ≡ left = sym (sees ∙ ap (seen (behind source k)) kind) in
        let sum : steps_of thread k ++ Step thread ∷ [] ≡ steps_of thread (k + 1) = replicate-append-replicate k 1 (Step thread) in
        let there : v ≡ run_from first (is.made ++ steps_of thread (k + 1)) =
        sym (run_append now (steps_of thread k) (Step thread ∷ [])) ∙ ap (run_from now) sum ∙ sym (run_append first is.made (steps_of thread (k + 1))) in
        record {
          made = is.made ++ steps_of thread (k + 1);
          has = has;
          whole = is.whole
              ∙ ap (λ (es : List Event). is.made ++ es)
              (next.0 ∙ (λ i. steps_of thread k ++ Step thread ∷ due (state i) (there i))
              ∙ sym (append_assoc (steps_of thread k) (Step thread ∷ []) (due left (run_from first (is.made ++ steps_of thread (k + 1)))))
              ∙ ap (λ (es : List Event). es ++ due left (run_from first (is.made ++ steps_of thread (k + 1)))) sum)
              ∙ sym (append_assoc is.made (steps_of thread (k + 1)) (due left (run_from first (is.made ++ steps_of thread (k + 1)))));
          kept = subst (λ s. knows s (run_from first (is.made ++ steps_of thread (k + 1)))) state (subst (knows last) there next.1);
        }

-- ---- where a journal stands between events

module _ {S H : Type 0} (due : S → World → List Event) (knows : S → World → Type 0) (first : World) (stress : Option Kind) (events : List Event) (source : S) (b : Book H)
    (so_far : Stands due knows first stress events source b) where
  -- before the next one, or where a growth was refused to its choice
  pub is_due : (seen : S → Bool → S) (behind : S → ℕ → S) (d : DueEvent) (new : S) → IsNext due knows seen behind source (run_from first so_far.made) d new
      → IsDue due knows seen behind first stress events d new b
  is_due seen behind d new next = record { made = so_far.made; has = so_far.has; before = source; whole = so_far.whole; next = next }

  pub broken_off : HasMadeSome first stress events b
  broken_off = record { made = so_far.made; rest = due source (run_from first so_far.made); whole = so_far.whole; collected = false; has = so_far.has }

  -- behind the last one
  pub ended : {T E : Type 0} (r : Result T E) (new : Book H) → due source (run_from first so_far.made) ≡ []
      → MatchResult r (λ _. HasMade first stress true so_far.made new) (λ _. HasMade first stress false so_far.made new)
      → MatchResult r (λ _. HasMade first stress true events new) (λ _. HasMadeSome first stress events new)
  ended (Ok x) new none has =
      let whole : events ≡ so_far.made = so_far.whole ∙ ap (λ (es : List Event). so_far.made ++ es) none ∙ append-nil so_far.made in
      subst (λ es. HasMade first stress true es new) (sym whole) has
  ended (Err e) new none has = record { made = so_far.made; rest = due source (run_from first so_far.made); whole = so_far.whole; collected = false; has = has }

-- ---- what steps of the thread came to

module _ {S H : Type 0} (due : S → World → List Event) (knows : S → World → Type 0) (seen : S → Bool → S) (behind : S → ℕ → S)
    (first : World) (stress : Option Kind) (events : List Event) (d : DueEvent) (source : S) (old new : Book H) (is : IsDue due knows seen behind first stress events d source old)
    (none : stress ≡ None) (thread : ℕ) (step : d.event ≡ Step thread) (t : Receipts) (seat : t.seat ≡ 0) (same : t.thread ≡ thread) (more : new.entries ≡ old.entries ++ entries_of_turns t)
    (are : AreSteps (run_from first is.made) thread new.machine t.steps) (ends : EndsBy d.most t.steps) where
  made_so : (n : ℕ) → made_of_steps t.steps ≡ n → HasMade first stress false (is.made ++ steps_of thread n) new
  made_so n count =
      subst (λ m. HasMade first stress false (is.made ++ steps_of thread m) new) count
      (subst (λ s. HasMade first stress false (is.made ++ steps_of s (made_of_steps t.steps)) new) same
      (steps_more first stress is.made t old new none seat more (subst (λ s. MatchesWorld new.machine (run_from (run_from first is.made) (steps_of s (made_of_steps t.steps)))) (sym same) are.world) is.has))

  replied : (end : StepsEnd) → t.steps.end ≡ end
      → replicate t.steps.alike (done_reply (run_from first is.made)) ++ other_replies end ≡ replies_from (run_from first is.made) (steps_of thread (t.steps.alike + length (other_replies end)))
  replied end so =
      subst (λ e. replicate t.steps.alike (done_reply (run_from first is.made)) ++ other_replies e ≡ replies_from (run_from first is.made) (steps_of thread (t.steps.alike + length (other_replies e)))) so
      (ap (λ r. replicate t.steps.alike r ++ other_replies t.steps.end) (sym are.reply) ∙ are.replies)

  counted : (end : StepsEnd) → t.steps.end ≡ end → made_of_steps t.steps ≡ t.steps.alike + length (other_replies end)
  counted end so = ap (λ e. t.steps.alike + length (other_replies e)) so

  pub all_stands : (left : S) → t.steps.end ≡ AllMade → 0 < d.most → left ≡ seen (behind source (d.most - 1)) false → Stands due knows first stress events left new
  all_stands left so some sees =
      let k = d.most - 1 in
      let done = done_reply (run_from first is.made) in
      let whole : t.steps.alike ≡ d.most = subst (EndsFor d.most t.steps) so ends in
      let sum : t.steps.alike + 0 ≡ k + 1 = omega (arith, whole, some) in
      let count : t.steps.alike ≡ k + 1 = omega (arith, whole, some) in
      let told : replicate k done ++ done ∷ [] ≡ replies_from (run_from first is.made) (steps_of thread (k + 1)) =
      replicate-append-replicate k 1 done ∙ ap (λ n. replicate n done) (sym count) ∙ sym (append-nil (replicate t.steps.alike done)) ∙ replied AllMade so ∙ ap (λ n. replies_from (run_from first is.made) (steps_of thread n)) sum in
      let parts = one_behind k thread (run_from first is.made) done done told in
      steps_made due knows seen behind first stress events d source old is thread k step (omega (arith, some)) parts.0 left new false (ap (λ (r : Reply). is_blocked r.kind) parts.1) sees
      (made_so (k + 1) (counted AllMade so ∙ sum))

  pub other_stands : (left : S) (r : Reply) (count : ℕ) (blocked : Bool) → t.steps.end ≡ Other r → count ≡ t.steps.alike → blocked ≡ is_blocked r.kind
      → left ≡ seen (behind source count) blocked → Stands due knows first stress events left new
  other_stands left r count blocked so cast kind sees =
      let k = t.steps.alike in
      let few : k < d.most = (subst (EndsFor d.most t.steps) so ends).0 in
      let parts = one_behind k thread (run_from first is.made) (done_reply (run_from first is.made)) r (replied (Other r) so) in
      steps_made due knows seen behind first stress events d source old is thread k step few parts.0 left new blocked (kind ∙ ap (λ (x : Reply). is_blocked x.kind) parts.1)
      (sees ∙ ap (λ n. seen (behind source n) blocked) cast) (made_so (k + 1) (counted (Other r) so))

  pub short_stands : t.steps.end ≡ OutOfMemory → HasMadeSome first stress events new
  short_stands so =
      let k = t.steps.alike in
      let few : k < d.most = subst (EndsFor d.most t.steps) so ends in
      let sum : k + 0 ≡ k = omega arith in
      let told : replicate k (done_reply (run_from first is.made)) ++ [] ≡ replies_from (run_from first is.made) (steps_of thread k ++ []) =
      replied OutOfMemory so ∙ ap (λ n. replies_from (run_from first is.made) (steps_of thread n)) sum ∙ ap (replies_from (run_from first is.made)) (sym (append-nil (steps_of thread k))) in
      let parts = alike k thread (run_from first is.made) (done_reply (run_from first is.made)) [] [] told in
      some_made due knows seen behind first stress events d source old is thread k step few parts.0 new (made_so k (counted OutOfMemory so ∙ sum))

-- ---- the journal of a run

-- the collections change no world
leads : {H : Type 0} (first : World) (stress : Option Kind) (b : Book H) (collected : Bool) (made : List Event) → HasMade first stress collected made b
    → world_after first b.entries ≡ run_from first made
leads first stress b collected made has = ap (run_from first) has.events ∙ woven_runs stress collected first made

module _ {H T E : Type 0} (first : World) (stress : Option Kind) (events : List Event) (b : Book H) where
  -- it has all events, with the collections between them, or the first of these
  pub journal_made : (r : Result T E) → MatchResult r (λ _. HasMade first stress true events b) (λ _. HasMadeSome first stress events b)
      → MatchResult r (λ _. events_of b.entries ≡ with_collections stress events) (λ _. (rest : List Event) × (with_collections stress events ≡ events_of b.entries ++ rest))
  journal_made (Ok x) has = has.events
  journal_made (Err e) some =
      let (more, is) = woven_part stress some.collected some.made some.rest in
      (more, ap (woven stress true) some.whole ∙ is ∙ ap (λ (es : List Event). es ++ more) (sym some.has.events))

  pub journal_ends : (r : Result T E) → MatchResult r (λ _. HasMade first stress true events b) (λ _. HasMadeSome first stress events b)
      → MatchResult r (λ _. RunEnds first (listed events) (all_made (world_after first b.entries))) (λ _. RunEnds first (listed events) (cut_short (world_after first b.entries)))
  journal_ends (Ok x) has = (events, refl, leads first stress b true events has)
  journal_ends (Err e) some = (some.made, (some.rest, some.whole), leads first stress b some.collected some.made some.has)

  pub journal_kept : (r : Result T E) → IsLegal first b.entries → MatchResult r (λ _. HasMade first stress true events b) (λ _. HasMadeSome first stress events b)
      → OnOk r (IsJournal stress first (listed events) b.entries)
  journal_kept (Ok x) legal has = (legal, has.known, has.events)
  journal_kept (Err e) legal some = tt
