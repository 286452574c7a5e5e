-- How runs end.
use Rattle.std.proofs.Common.{◌≡◌, ◌++◌, ℕ, List, [], Option, Some, None, Result, Ok, Err, Bool, true, false, refl, sym, append-nil, ◌∙◌}
use Rattle.jm_world.specs.Run.{run_from}
use Rattle.jm_world.specs.Schedules as model
use Rattle.jm_world.specs.World.{World}
use Rattle.jm_world.specs.declared.event.Event.{Event}
use Rattle.jm_machine.specs.View.{MachineView, MatchesWorld}
use Rattle.jm_machine.specs.declared.fault.OutOfMemory.{OutOfMemory}
use Rattle.jm_choice.specs.Replays.{Replays, events_in}
use Rattle.jm_choice.specs.Choices.{Choice, Makes, MakesSome, MadeBy, RunEnds, all_made, by_workers, cut_short, listed, made_end, recorded, replay_end}

-- all are some
pub makes_some : (first : World) (c : Choice) (made : List Event) → Makes first c made → MakesSome first c made
makes_some first (listed events) made m = ([], sym m ∙ sym (append-nil made))
makes_some first (by_workers n steps) made m = (m.0, m.1, m.3)
makes_some first (recorded entries) made m = (entries, [], sym (append-nil entries), m.0, m.1)

-- a growth may be refused behind the last event too: where the heap is viewed, or the record is written down
pub ends_short : (first : World) (c : Choice) (w : World) → RunEnds first c (all_made w) → RunEnds first c (cut_short w)
ends_short first c w e = (e.0, makes_some first c e.0 e.1, e.2)

-- the end of a run whose events were made, or some of them
pub ends_by : (first : World) (c : Choice) (made : List Event) (short : Bool) → MadeBy first c made short → RunEnds first c (made_end short (run_from first made))
ends_by first c made false m = (made, m, refl)
ends_by first c made true m = (made, m, refl)

-- of a list these are the list, and a beginning of it
pub ends_by_list : (first : World) (events : List Event) → RunEnds first (listed events) (all_made (run_from first events))
ends_by_list first events = (events, refl, refl)

pub ends_within_list : (first : World) (events made rest : List Event) → events ≡ made ++ rest → RunEnds first (listed events) (cut_short (run_from first made))
ends_within_list first events made rest whole = (made, (rest, whole), refl)

-- the end of a record that was replayed
pub ends_by_replay : {H : Type 0} → (first : World) (entries : List model.Entry) (m : MachineView H) (r : Result (Option ℕ) OutOfMemory) → Replays first entries m r
    → (w : World) × RunEnds first (recorded entries) (replay_end w r) × MatchesWorld m w
ends_by_replay first entries m (Ok None) so = (run_from first (events_in entries), (events_in entries, (so.0, refl), refl), so.1)
ends_by_replay first entries m (Ok (Some line)) so = (so.0, so.1, so.2)
ends_by_replay first entries m (Err fault) so =
    let s = so.1 in
    (so.0, (events_in s.made, (s.made, s.rest, s.whole, s.agrees, refl), s.world_is), so.2)
