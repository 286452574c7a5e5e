-- One more instruction whose targets are marked.
use Rattle.std.proofs.Common.{◌≡◌, ℕ, ◌+◌, ◌<◌, Bool, true, List, [], ◌∷◌, ◌++◌, length, get_or, drop, refl, sym, ap, ◌∙◌, add-one, drop-cons}
use Rattle.std.specs.Prelude.{set}
use Rattle.std.specs.List.{flat_map}
use Rattle.jm_program.specs.declared.instruction.symbolic.Instr.{Instr}
use Rattle.jm_disassembler.specs.Labels.{instr_targets, marked}

marked_then : (marks : List Bool) (xs ys : List ℕ) → marked marks (xs ++ ys) ≡ marked (marked marks xs) ys
marked_then marks [] ys = refl
marked_then marks (x ∷ xs) ys = marked_then (set marks x true) xs ys

pub next_marked : (marks new total : List Bool) (is : List Instr) (i : ℕ) (x d : Instr) → i < length is → x ≡ get_or is i d → new ≡ marked marks (instr_targets x)
    → marked marks (flat_map instr_targets (drop i is)) ≡ total → marked new (flat_map instr_targets (drop (i + 1) is)) ≡ total
next_marked marks new total is i x d lt at e h =
    let here : drop i is ≡ x ∷ drop (i + 1) is = drop-cons is i d lt ∙ rw (add-one, at) refl in
    let rest : List ℕ = flat_map instr_targets (drop (i + 1) is) in
    ap (λ (m : List Bool). marked m rest) e ∙ sym (marked_then marks (instr_targets x) rest) ∙ ap (λ (l : List Instr). marked marks (flat_map instr_targets l)) (sym here) ∙ h
