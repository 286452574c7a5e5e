-- A list of bytes that has room for a text, or for the output of an ending, does not fail at it.
use Rattle.std.proofs.Common.{◌≡◌, ℕ, ◌+◌, ◌≤◌, inl, inr, List, [], ◌∷◌, ◌++◌, ◌∙◌, ap, subst, length, length-append, arith, Option, Some, Bool, true, false, refl}
use Rattle.std.specs.List.{FoldsTo, concat}
use Rattle.std.specs.Prelude.{Vec, vec_len, vec_capacity}
use Rattle.jm_execute.specs.CallEnds.{took, vec_ends}
use Rattle.jm_execute.specs.Endings.{Ending, Leaves, LeavesIf, LinesTold, lines_after, output_of}
use Rattle.jm_execute.specs.Written.{Watch, Words, Broken, words}
use Rattle.jm_explain.specs.declared.status.Status.{Status}
use Rattle.jm_execute.proofs.Telling.{told_whole}

-- calls that took parts made it longer by them, and lost no room
abbrev Grown : {A : Type 0} → Vec ℕ A → ℕ → Vec ℕ A → Type 0
Grown old more new = (vec_len new ≡ vec_len old + more) × (vec_capacity old ≤ vec_capacity new)

grown_by_parts : {A : Type 0} (old new : Vec ℕ A) (parts : List (List ℕ)) → FoldsTo (λ a bytes b. vec_ends a (took bytes) b) old parts new → Grown old (length (concat parts)) new
grown_by_parts old new [] h = subst (Grown old 0) h (omega arith, omega arith)
grown_by_parts old new (part ∷ parts) (next, (len, room), rest) =
    let (lens, rooms) = grown_by_parts next new parts rest in
    let whole : length (part ++ concat parts) ≡ length part + length (concat parts) = length-append part (concat parts) in
    (omega (arith, len, lens, whole), omega (arith, room, rooms))

pub room_for : {A : Type 0} (contents : Vec ℕ A → Option (List ℕ)) (old new : Watch (Vec ℕ A)) (text : List ℕ) → vec_len old.inner + length text ≤ vec_capacity old.inner
    → Broken (words contents vec_ends) old new text → ⊥
room_for contents old new text room broken =
    let grown = grown_by_parts old.inner broken.before broken.taken.parts broken.taken.calls in
    let front : length (concat broken.taken.parts) ≡ length broken.front = ap length broken.taken.whole in
    let whole : length text ≡ length broken.front + length broken.rest = ap length broken.whole ∙ length-append broken.front broken.rest in
    let call = broken.call in
    let (len, more) = grown in
    absurd (omega (arith, room, front, whole, call, len, more))

false_where_not_true : (b : Bool) → (b ≡ true → ⊥) → b ≡ false
false_where_not_true true h = absurd (h refl)
false_where_not_true false h = refl

pub does_not_fail : {A E : Type 0} (contents : Vec ℕ A → Option (List ℕ)) (says : Words E) (e : Ending) (ended : Status) (out new_out : Watch (Vec ℕ A)) (err new_err : Watch E)
    → vec_len out.inner + length (output_of e) ≤ vec_capacity out.inner → Leaves (words contents vec_ends) says e ended out new_out err new_err → new_out.failed ≡ false
does_not_fail contents says e ended out new_out err new_err room leaves =
    let fails : new_out.failed ≡ true → ⊥ = λ failed.
    let told = subst (λ b. LeavesIf b (words contents vec_ends) says e ended out new_out err new_err) failed leaves in
    elim told.0 [ inl broken ↦ room_for contents out new_out (output_of e) room broken | inr flushed ↦ flushed.1.call ] in
    false_where_not_true new_out.failed fails

-- the lines behind an output that was written
pub lines_do_not_fail : {A O : Type 0} (contents : Vec ℕ A → Option (List ℕ)) (says : Words O) (e : Ending) (ended : Status) (out new_out : Watch O) (err new_err : Watch (Vec ℕ A))
    → new_out.failed ≡ false → vec_len err.inner + length (lines_after e) ≤ vec_capacity err.inner → Leaves says (words contents vec_ends) e ended out new_out err new_err
    → new_err.failed ≡ false
lines_do_not_fail contents says e ended out new_out err new_err whole room leaves =
    let w = words contents vec_ends in
    let told = told_whole says w e ended out new_out err new_err whole leaves in
    let fails : new_err.failed ≡ true → ⊥ = λ failed.
    let broken = subst (λ b. LinesTold w (Some (lines_after e)) b err new_err) failed told.1 in
    room_for contents err new_err (lines_after e) room broken in
    false_where_not_true new_err.failed fails
