-- The lines of a run, one event more.
use Rattle.std.proofs.Common.{◌≡◌, ℕ, ◌+◌, ◌-◌, List, [], ◌∷◌, ◌++◌, Bool, refl, sym, ap, ◌∙◌, append_assoc, append-nil}
use Rattle.std.specs.Prelude.{if◌then◌else◌, Err}
use Rattle.jm_page.specs.Writing.{Puts}
use Rattle.jm_page.specs.declared.writer.PageFault.{PageFault}
use Rattle.jm_page.proofs.Pieces.{put_text, put_short, put_then}
use Rattle.jm_world.specs.World.{World}
use Rattle.jm_world.specs.Run.{after, run_from}
use Rattle.jm_world.specs.declared.event.Event.{Event}
use Rattle.jm_trace.specs.EventLines.{event_line}
use Rattle.jm_trace.specs.Traces.{is_shown, told, left_behind, trace_from}
use Rattle.jm_trace.specs.declared.shown.Shown.{Shown}

-- the line of an event that is shown or not
pub told_if : (number : ℕ) (w : World) (e : Event) (shown : Bool) → List ℕ
told_if number w e shown = if shown then event_line number w e (after w e).reply.kind else []

-- an event is due
pub one_more : (shown : Shown) (number left more : ℕ) (is_told : Bool) (w : World) (due rest : List Event) (e : Event) → is_told ≡ is_shown shown number left e
    → more ≡ (if is_told then left - 1 else left) → due ≡ e ∷ rest
    → trace_from shown number left w due
    ≡ (if is_told then event_line number w e (after w e).reply.kind else []) ++ trace_from shown (number + 1) more (after w e).world rest
one_more shown number left more is_told w due rest e told_is more_is is =
    ap (trace_from shown number left w) is
    ∙ ap (λ (b : Bool). (if b then event_line number w e (after w e).reply.kind else []) ++ trace_from shown (number + 1) (if b then left - 1 else left) (after w e).world rest) (sym told_is)
    ∙ ap (λ (l : ℕ). (if is_told then event_line number w e (after w e).reply.kind else []) ++ trace_from shown (number + 1) l (after w e).world rest) (sym more_is)

-- behind what was written
pub written_more : (done line rest all total : List ℕ) → all ≡ line ++ rest → total ≡ done ++ all → total ≡ (done ++ line) ++ rest
written_more done line rest all total is so_far = so_far ∙ ap (λ t. done ++ t) is ∙ sym (append_assoc done line rest)

-- none is due
pub none_due : (shown : Shown) (number left : ℕ) (w : World) (due : List Event) (done total : List ℕ) → due ≡ [] → total ≡ done ++ trace_from shown number left w due → done ≡ total
none_due shown number left w due done total none so_far = sym (so_far ∙ ap (λ es. done ++ trace_from shown number left w es) none ∙ append-nil done)

pub none_made : (w end : World) (due : List Event) → due ≡ [] → end ≡ run_from w due → w ≡ end
none_made w end due none so_far = sym (so_far ∙ ap (run_from w) none)

-- a fault behind what was written, before the rest of the lines
module _ {W : Type 0} (wrote broke : W → List ℕ → W → Type 0) (more : (a b c : W) (front rest : List ℕ) → wrote a front b → wrote b rest c → wrote a (front ++ rest) c) (behind : (a b c : W) (front rest : List ℕ) → wrote a front b → broke b rest c → broke a (front ++ rest) c) where
  pub fault_told : (A B : Type 0) (fault : PageFault) (a b c : W) (done text rest total : List ℕ) → total ≡ done ++ (text ++ rest) → wrote a done b
      → Puts {A = A} wrote broke (Err fault) b text c → Puts {A = B} wrote broke (Err fault) a total c
  fault_told A B fault a b c done text rest total whole before put =
      put_text wrote broke {A = B} (Err fault) a c (done ++ (text ++ rest)) total (sym whole)
      (put_then wrote broke more behind {A = B} (Err fault) a b c done (text ++ rest) before (put_short wrote broke A B fault b c text rest put))
