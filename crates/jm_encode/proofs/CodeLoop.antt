-- What the loop over the instructions of a code keeps.
use Rattle.std.proofs.Common.{◌≡◌, ℕ, ◌+◌, ◌<◌, ◌≤◌, List, length, get_or, drop, Ok, Err, sym, ap, subst, ◌∙◌, arith}
use Rattle.jm_bytes.proofs.Loops.{with_front_all}
use Rattle.jm_class_format.specs.declared.instruction.IndexedInstr.{IndexedInstr}
use Rattle.jm_class_format.specs.declared.instruction.PlacedInstr.{PlacedInstr}
use Rattle.jm_encode.specs.declared.fault.EncodeFault.{EncodeFault}
use Rattle.jm_encode.specs.Encoding.{size_at, placed_from, starts_from, end_from, texts, text_at, placed_text}
use Rattle.jm_encode.proofs.Targets.{offset_in}
use Rattle.jm_encode.proofs.Codes.{placed_there, placed_count, room_there}
use Rattle.jm_encode.proofs.Appending.{texts_next, texts_fault, texts_done}

abbrev pub placed_as : ℕ → IndexedInstr → PlacedInstr
placed_as at instr = record { offset = at; instr = instr }

placed_item : (starts : List ℕ) (instrs : List IndexedInstr) (i : ℕ) (x : IndexedInstr) → i < length instrs → starts ≡ starts_from 0 instrs → x ≡ get_or instrs i x → placed_as (offset_in starts i) x ≡ get_or (placed_from 0 instrs) i (placed_as (offset_in starts i) x)
placed_item starts instrs i x lt from is =
    ap (λ (s : List ℕ). placed_as (offset_in s i) x) from ∙ ap (placed_as (offset_in (starts_from 0 instrs) i)) is ∙ sym (placed_there 0 instrs i (placed_as (offset_in starts i) x) x lt)

pub code_next : (starts : List ℕ) (instrs : List IndexedInstr) (front new : List ℕ) (i : ℕ) (x : IndexedInstr) → i < length instrs → starts ≡ starts_from 0 instrs → x ≡ get_or instrs i x → with_front_all front (text_at starts (offset_in starts i) x) ≡ Ok new
    → with_front_all front (texts (placed_text starts) (drop i (placed_from 0 instrs))) ≡ with_front_all new (texts (placed_text starts) (drop (i + 1) (placed_from 0 instrs)))
code_next starts instrs front new i x lt from is h =
    let p : PlacedInstr = placed_as (offset_in starts i) x in
    texts_next (placed_text starts) front new (placed_from 0 instrs) i p p (omega (arith, placed_count 0 instrs)) (placed_item starts instrs i x lt from is) h

pub code_fault : (starts : List ℕ) (instrs : List IndexedInstr) (front : List ℕ) (i : ℕ) (x : IndexedInstr) (e : EncodeFault) → i < length instrs → starts ≡ starts_from 0 instrs → x ≡ get_or instrs i x → with_front_all front (text_at starts (offset_in starts i) x) ≡ Err e
    → with_front_all front (texts (placed_text starts) (drop i (placed_from 0 instrs))) ≡ Err e
code_fault starts instrs front i x e lt from is h =
    let p : PlacedInstr = placed_as (offset_in starts i) x in
    texts_fault (placed_text starts) front (placed_from 0 instrs) i p p e (omega (arith, placed_count 0 instrs)) (placed_item starts instrs i x lt from is) h

pub code_done : (starts : List ℕ) (instrs : List IndexedInstr) (front : List ℕ) (i : ℕ) → length instrs ≤ i → with_front_all front (texts (placed_text starts) (drop i (placed_from 0 instrs))) ≡ Ok front
code_done starts instrs front i le = texts_done (placed_text starts) front (placed_from 0 instrs) i (omega (arith, placed_count 0 instrs))

pub code_room : (starts : List ℕ) (instrs : List IndexedInstr) (i : ℕ) (x : IndexedInstr) → i < length instrs → starts ≡ starts_from 0 instrs → x ≡ get_or instrs i x → end_from 0 instrs ≤ 65535 → offset_in starts i + size_at (offset_in starts i) x ≤ 65535
code_room starts instrs i x lt from is short =
    let at : ℕ = offset_in (starts_from 0 instrs) i in
    let here : at + size_at at (get_or instrs i x) ≤ 65535 = omega (arith, room_there 0 instrs i x lt) in
    let same : at + size_at at x ≤ 65535 = subst (λ (y : IndexedInstr). at + size_at at y ≤ 65535) (sym is) here in
    subst (λ (s : List ℕ). offset_in s i + size_at (offset_in s i) x ≤ 65535) (sym from) same
