-- A thread that stands apart from the breaks by number.
use Rattle.std.proofs.Common.{◌≡◌, ℕ, List, [], ◌∷◌, Option, Some, None, false, refl, sym, ap, subst, ◌∙◌}
use Rattle.std.specs.Prelude.{option_map, slice_get, if◌then◌else◌}
use Rattle.jm_world.specs.Frames.{Frame, method_frame, initialization_frame, entry_frame}
use Rattle.jm_world.specs.Run.{run_from}
use Rattle.jm_world.specs.World.{Thread, thread_at}
use Rattle.jm_linked.specs.Links.{LinkedView}
use Rattle.jm_machine.specs.CodePlaces.{Instruction, Stands, stands_at, top_stands_at}
use Rattle.jm_machine.specs.ManySteps.{steps_of}
use Rattle.jm_machine.specs.Readers.{frame_at}
use Rattle.jm_machine.specs.UpToPlaces.{StandApart}
use Rattle.jm_machine.specs.declared.code_place.CodePlace.{CodePlace}
use Rattle.jm_debug.specs.Answering.{AreMarks, DebuggerView, IsMarked, IsSession, StaysMarked}
use Rattle.jm_debug.specs.Session.{Session, break_at, holds_break, place_of_frames, place_of_thread}
use Rattle.jm_debug.specs.Texts.{place_in}
use Rattle.jm_debug.specs.declared.place.Place.{Place}
use Rattle.jm_debug.proofs.LongTurns.{Passes, turns, turns_breaks, turns_run}

-- the breaks by number of a debugger are those of one that has the same code and the same breaks
pub stays_marked : {H : Type 0} {old new : DebuggerView H} (marks : List CodePlace) → StaysMarked old new → IsMarked old marks → IsMarked new marks
stays_marked {old} {new} marks same are =
    subst (λ l. AreMarks l new.breaks marks) (sym same.linked) (subst (λ breaks. AreMarks old.machine.linked breaks marks) (sym same.breaks) are)

-- a break is set where a frame's instruction is one of them
place_stood : (o : Option Thread) → place_of_thread o ≡ option_map (λ (i : Instruction). place_in i.method i.at) (stands_at (frame_at o 0))
place_stood None = refl
place_stood (Some t) = by t.frames
  where
    by : (fs : List Frame) → place_of_frames fs ≡ option_map (λ (i : Instruction). place_in i.method i.at) (stands_at (slice_get fs 0))
    by [] = refl
    by (method_frame m a monitor ∷ below) = refl
    by (initialization_frame class stage ∷ below) = refl
    by (entry_frame ∷ below) = refl

no_break : (l : LinkedView) (breaks : List Place) (marks : List CodePlace) → AreMarks l breaks marks → (i : Option Instruction) → Stands l marks false i
    → break_at breaks (option_map (λ (x : Instruction). place_in x.method x.at) i) ≡ None
no_break l breaks marks are None apart = refl
no_break l breaks marks are (Some i) apart =
    ap (λ b. if b then Some (place_in i.method i.at) else None)
    (ap (λ m. holds_break breaks (place_in m i.at)) (sym apart.named) ∙ sym (are apart.number i.at apart.within) ∙ apart.place)

-- turns of a thread that stands apart from them pass no break
pub passes : {H : Type 0} {d : DebuggerView H} {s : Session} (marks : List CodePlace) (n count : ℕ) → IsSession d s → IsMarked d marks
    → StandApart d.machine.linked marks s.world n count → Passes s n count
passes {d} {s} marks n count at are apart = λ k below.
    ap (λ breaks. break_at breaks (place_of_thread (thread_at (turns k n s).world n))) (turns_breaks k n s ∙ sym at.breaks)
    ∙ ap (λ w. break_at d.breaks (place_of_thread (thread_at w n))) (turns_run k n s)
    ∙ ap (break_at d.breaks) (place_stood (thread_at (run_from s.world (steps_of n k)) n))
    ∙ no_break d.machine.linked d.breaks marks are (top_stands_at (run_from s.world (steps_of n k)) n) (apart k below)
