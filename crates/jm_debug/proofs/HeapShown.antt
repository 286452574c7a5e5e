-- The lines of all that is reachable, and of monitors.
use Rattle.std.proofs.Common.{◌≡◌, ℕ, ◌+◌, ◌++◌, List, [], ◌∷◌, Bool, true, false, Some, Result, Ok, Err, OnOk, length, refl, sym, ap, ◌∙◌, append_assoc}
use Rattle.std.specs.Prelude.{codes, if◌then◌else◌}
use Rattle.std.specs.List.{flat_map}
use Rattle.std.specs.Result.{is_ok}
use Rattle.jm_values.specs.Reach.{is_among}
use Rattle.jm_world.specs.Types.{ObjectType}
use Rattle.jm_world.specs.Objects.{Object}
use Rattle.jm_world.specs.World.{World, reach, reach_cells}
use Rattle.jm_state.specs.Parts.{parts}
use Rattle.jm_machine.specs.View.{MachineView, MatchesWorld}
use Rattle.jm_machine.specs.ReachedObjects.{ObjectsView, TellsReached, numbered_among, numbered_cells}
use Rattle.jm_debug.specs.Texts.{reference_text, object_type_text}
use Rattle.jm_debug.specs.Views.{lines_from, object_text, heap_text, heap_lines, reached_lines, numbered_lines}
use Rattle.jm_debug.specs.Session.{ended, bytes_of}

-- a line, in three steps
pub line_written : (k : ℕ) (o : Object) (t : ObjectType) (before a b c : List ℕ) → a ≡ before ++ (reference_text k ++ codes " ") → t ≡ o.type → b ≡ a ++ object_type_text t
    → c ≡ b ++ codes "\n" → c ≡ before ++ ended (object_text k o)
unfolding object_text
line_written k o t before a b c first type second third =
    let typed : b ≡ (before ++ (reference_text k ++ codes " ")) ++ object_type_text o.type = rw (first, type) at second in
    let all : c ≡ ((before ++ (reference_text k ++ codes " ")) ++ object_type_text o.type) ++ codes "\n" = rw typed at third in
    all ∙ simp append_assoc

-- where what was written last fits
pub on_ok_if : {T E : Type 0} (r : Result T E) (P : Type 0) (c x y : List ℕ) → (c ≡ x → P) → c ≡ (if is_ok r then x else y) → OnOk r P
on_ok_if (Ok t) P c x y makes is = makes is
on_ok_if (Err e) P c x y makes is = tt

-- the limit of a machine's heap is the world's
pub limit_is : {H : Type 0} (m : MachineView H) (w : World) → MatchesWorld m w → m.content.limit ≡ w.limit
unfolding parts
limit_is m w is = is.limit

-- the lines of the objects among some numbers are those of the objects that have them
of_numbered : (numbers : List ℕ) (k index : ℕ) (os : List Object) → lines_from (reached_lines numbers) k os ≡ lines_from numbered_lines index (numbered_among numbers k os)
of_numbered numbers k index [] = refl
of_numbered numbers k index (o ∷ os) = by (is_among k numbers) (of_numbered numbers (k + 1) (index + 1) os) (of_numbered numbers (k + 1) index os)
  where
    by : (is : Bool) → lines_from (reached_lines numbers) (k + 1) os ≡ lines_from numbered_lines (index + 1) (numbered_among numbers (k + 1) os)
        → lines_from (reached_lines numbers) (k + 1) os ≡ lines_from numbered_lines index (numbered_among numbers (k + 1) os)
        → (if is then object_text k o ∷ [] else []) ++ lines_from (reached_lines numbers) (k + 1) os
        ≡ lines_from numbered_lines index (if is then (k, o) ∷ numbered_among numbers (k + 1) os else numbered_among numbers (k + 1) os)
    by true there passed = ap (λ ls. object_text k o ∷ ls) there
    by false there passed = passed

pub heap_shown : (w : World) (v : ObjectsView) (objects cells limit : ℕ) (a text : List ℕ) → TellsReached w v → objects ≡ length v.objects → cells ≡ numbered_cells v.objects → limit ≡ w.limit
    → a ≡ ended (heap_text objects cells limit) → text ≡ a ++ flat_map ended (lines_from numbered_lines 0 v.objects) → Some (bytes_of (heap_lines w)) ≡ Some text
unfolding heap_lines
heap_shown w v objects cells limit a text tells many size most first rest =
    let head : a ≡ ended (heap_text (length (reach w)) (reach_cells w) w.limit) = rw (many ∙ tells.many, size ∙ tells.cells, most) at first in
    let lines : lines_from numbered_lines 0 v.objects ≡ lines_from (reached_lines (reach w)) 0 w.heap =
    ap (lines_from numbered_lines 0) tells.objects ∙ sym (of_numbered (reach w) 0 0 w.heap) in
    ap Some (sym (rest ∙ ap (λ t. t ++ flat_map ended (lines_from numbered_lines 0 v.objects)) head
    ∙ ap (λ ls. ended (heap_text (length (reach w)) (reach_cells w) w.limit) ++ flat_map ended ls) lines))
