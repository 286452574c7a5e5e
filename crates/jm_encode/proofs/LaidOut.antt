-- What the loop over the sizes of instructions keeps: the starts so far in front of those that are left, and the one end.
use Rattle.std.proofs.Common.{◌≡◌, ℕ, suc, ◌+◌, ◌<◌, ◌≤◌, List, [], ◌∷◌, ◌++◌, length, get_or, drop, drop-cons, add-one, Ok, Err, refl, sym, ap, ◌∙◌, append_assoc, arith, length-drop}
use Rattle.std.proofs.lemmas.List.{append-nil, nil_from_length}
use Rattle.std.proofs.lemmas.Bool.{lt-ltb, le-ltb}
use Rattle.jm_class_format.specs.declared.instruction.IndexedInstr.{IndexedInstr}
use Rattle.jm_encode.specs.declared.fault.EncodeFault.TheVariants as fault
use Rattle.jm_encode.specs.Encoding.{size_at, starts_from, end_from, all_starts}
use Rattle.jm_encode.proofs.Codes.{end_above}

at_front : (xs : List IndexedInstr) (i : ℕ) (x d : IndexedInstr) → i < length xs → x ≡ get_or xs i d → drop i xs ≡ x ∷ drop (i + 1) xs
at_front xs i x d lt is = drop-cons xs i d lt ∙ rw add-one (ap (λ (z : IndexedInstr). z ∷ drop (suc i) xs) (sym is))

-- the code so far, of so many instructions, takes at bytes
pub record IsLaidOut (instrs : List IndexedInstr) (i at : ℕ) (starts : List ℕ) : Type 0 where
  pub starts_so_far : starts ++ starts_from at (drop i instrs) ≡ starts_from 0 instrs
  pub one_end : end_from at (drop i instrs) ≡ end_from 0 instrs
  pub room : at ≤ 65535

pub laid_out_none : (instrs : List IndexedInstr) → IsLaidOut instrs 0 0 []
laid_out_none instrs = record { starts_so_far = refl; one_end = refl; room = omega arith }

pub laid_out_more : (instrs : List IndexedInstr) (i at : ℕ) (starts : List ℕ) (x d : IndexedInstr) → IsLaidOut instrs i at starts → i < length instrs → x ≡ get_or instrs i d → at + size_at at x ≤ 65535 → IsLaidOut instrs (i + 1) (at + size_at at x) (starts ++ at ∷ [])
unfolding starts_from end_from
laid_out_more instrs i at starts x d laid lt is room =
    let front = at_front instrs i x d lt is in
    let next : ℕ = at + size_at at x in
    let s : (starts ++ at ∷ []) ++ starts_from next (drop (i + 1) instrs) ≡ starts ++ starts_from at (drop i instrs) = append_assoc starts (at ∷ []) (starts_from next (drop (i + 1) instrs)) ∙ ap (λ (ys : List IndexedInstr). starts ++ starts_from at ys) (sym front) in
    record { starts_so_far = s ∙ laid.starts_so_far; one_end = ap (end_from at) (sym front) ∙ laid.one_end; room = room }

pub laid_out_too_long : (instrs : List IndexedInstr) (i at : ℕ) (starts : List ℕ) (x d : IndexedInstr) → IsLaidOut instrs i at starts → i < length instrs → x ≡ get_or instrs i d → 65535 < at + size_at at x → all_starts instrs ≡ Err fault.CodeTooLong
unfolding end_from all_starts
laid_out_too_long instrs i at starts x d laid lt is long =
    let front = at_front instrs i x d lt is in
    let one_end : end_from (at + size_at at x) (drop (i + 1) instrs) ≡ end_from 0 instrs = ap (end_from at) (sym front) ∙ laid.one_end in
    let past : 65535 < end_from 0 instrs = omega (arith, end_above (at + size_at at x) (drop (i + 1) instrs)) in
    rw (lt-ltb 65535 (end_from 0 instrs) past) refl

pub laid_out_all : (instrs : List IndexedInstr) (i at : ℕ) (starts : List ℕ) → IsLaidOut instrs i at starts → length instrs ≤ i → all_starts instrs ≡ Ok starts
unfolding starts_from end_from all_starts
laid_out_all instrs i at starts laid le =
    let none : drop i instrs ≡ [] = nil_from_length (drop i instrs) (omega (arith, length-drop i instrs)) in
    let all : starts_from 0 instrs ≡ starts = sym laid.starts_so_far ∙ ap (λ (ys : List IndexedInstr). starts ++ starts_from at ys) none ∙ append-nil starts in
    let short : end_from 0 instrs ≤ 65535 = omega (arith, laid.room, sym laid.one_end ∙ ap (end_from at) none) in
    rw (le-ltb 65535 (end_from 0 instrs) short, all) refl

pub ruleset layout_steps = (laid_out_none, laid_out_more, laid_out_too_long, laid_out_all)
