-- What keeps a thread back is what is told of it.
use Rattle.std.proofs.Common.{◌≡◌, ℕ, List, [], ◌∷◌, ◌++◌, Option, Some, None, refl, ap, subst}
use Rattle.std.specs.Prelude.{codes, option_map, slice_get}
use Rattle.std.specs.Fmt.{decimal}
use Rattle.jm_program.specs.JasminUnits.{name_text}
use Rattle.jm_world.specs.Frames.{Frame, method_frame, initialization_frame, entry_frame}
use Rattle.jm_world.specs.Classes.{method_named}
use Rattle.jm_world.specs.Stepping.{instruction_in}
use Rattle.jm_world.specs.World.{World, Thread}
use Rattle.jm_blocked_threads.specs.Asked.{Need, entering, initializing, asked_by_instruction, asked_by_top}
use Rattle.jm_blocked_threads.specs.Waits.{Stands, Waits, told_of}
use Rattle.jm_why.specs.Waits.{WaitsTold, awaited_text, need_told, object_text, owner_text, told_at, top_waits}

object_told : (w : World) (n : ℕ) (o : Option ℕ) (need : Need) (stands : Stands w n need) → option_map entering o ≡ Some need → object_text w o ≡ need_told w n need stands
unfolding awaited_text
object_told w n None need stands asked = absurd cc
object_told w n (Some k) need stands asked =
    let same : entering k ≡ need = cc in
    subst (λ x. (s : Stands w n x) → object_text w (Some k) ≡ need_told w n x s) same
    (λ held. ap (λ m. codes ", waits for #" ++ decimal k ++ owner_text m) held.held) stands

class_told : (w : World) (n : ℕ) (class : List ℕ) (need : Need) (stands : Stands w n need) → Some (initializing class) ≡ Some need
    → codes ", waits for class " ++ name_text class ≡ need_told w n need stands
class_told w n class need stands asked =
    let same : initializing class ≡ need = cc in
    subst (λ x. (s : Stands w n x) → codes ", waits for class " ++ name_text class ≡ need_told w n x s) same (λ begun. refl) stands

frames_told : (w : World) (n : ℕ) (frames : List Frame) (need : Need) (stands : Stands w n need) → asked_by_top w.program frames ≡ told_of frames need
    → top_waits w (slice_get frames 0) ≡ told_at w n frames need stands
frames_told w n [] need stands asked = absurd cc
frames_told w n (method_frame m a monitor ∷ fs) need stands asked =
    object_told w n (asked_by_instruction a.stack (instruction_in (method_named w.program m) a.at)) need stands asked
frames_told w n (initialization_frame class stage ∷ fs) need stands asked = class_told w n class need stands asked
frames_told w n (entry_frame ∷ fs) need stands asked = refl

pub waits_told : (w : World) (n : ℕ) (t : Thread) → Waits w n t → WaitsTold w n t
waits_told w n t waits = record { need = waits.need; in_way = waits.in_way; told = frames_told w n t.frames waits.need waits.in_way waits.told }
