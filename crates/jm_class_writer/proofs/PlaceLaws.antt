-- Each range, handler and line of a class's code begins at an instruction of that code or ends behind one, so that none lacks its offset.
use Rattle.std.proofs.Common.{◌≡◌, ℕ, ◌<◌, ◌≤◌, Bool, true, false, cond, List, [], ◌∷◌, length, Ok, refl, sym, ap, ◌∙◌, arith}
use Rattle.std.specs.Prelude.{◌&&◌, ◌==◌, nat_le, nat_lt}
use Rattle.std.specs.List.{All, list_all}
use Rattle.std.specs.Result.{IsOk}
use Rattle.std.proofs.lemmas.Bool.{leb-true, ltb-true}
use Rattle.std.proofs.lemmas.Bool.Decides.{nat_tests}
use Rattle.std.proofs.lemmas.List.Elements.{All-nil, All-cons}
use Rattle.std.proofs.lemmas.Option.{slice_get-get_or}
use Rattle.jm_bytes.specs.Laws.{and_then_ok, ok_pair_parts, fault_as_ok}
use Rattle.jm_bytes.specs.Reading.{fault_as}
use Rattle.jm_program.specs.Instructions.{instr_fits}
use Rattle.jm_program.specs.Codes.{catch_type_fits, handler_fits, line_fits}
use Rattle.jm_program.specs.declared.code.Code.{Code}
use Rattle.jm_program.specs.declared.code.Handler.{Handler}
use Rattle.jm_program.specs.declared.instruction.symbolic.Instr.{Instr}
use Rattle.jm_program.proofs.Truths.{both_true}
use Rattle.jm_encode.specs.declared.encoded.EncodedCode.{EncodedCode}
use Rattle.jm_encode.specs.Encoding.{starts_from, encoded}
use Rattle.jm_encode.proofs.Codes.{starts_length, encoded_ok}
use Rattle.jm_class_writer.specs.declared.fault.WriteFault.{WriteFault}
use Rattle.jm_class_writer.specs.Drafts as drafts
use Rattle.jm_class_writer.specs.Drafts.{DraftParts, each_of}
use Rattle.jm_class_writer.specs.Faults.{of_encode}
use Rattle.jm_class_writer.specs.CodeParts.{instr_indexed, start_of, end_of, code_encoded}
use Rattle.jm_class_writer.specs.Places.{PlacesFound}
use Rattle.jm_class_writer.proofs.Growth.{step_ok}
use Rattle.jm_class_writer.proofs.TargetLaws.{all_kept}

places_count : (is : List Instr) (a : DraftParts) (e : EncodedCode) (b : DraftParts) → list_all (instr_fits (length is)) is ≡ true → code_encoded is a ≡ Ok (e, b) → length e.starts ≡ length is
unfolding code_encoded
places_count is a e b fits h =
    let p = step_ok (each_of instr_indexed is) (λ all. drafts.outcome (fault_as of_encode (encoded all))) a (e, b) h in
    let q = and_then_ok (fault_as of_encode (encoded p.0.0)) (λ v. Ok (v, p.0.1)) (e, b) p.2 in
    let made : encoded p.0.0 ≡ Ok q.0 = fault_as_ok of_encode (encoded p.0.0) q.0 q.1 in
    let same : q.0 ≡ e = (ok_pair_parts {F = WriteFault} q.0 e p.0.1 b q.2).0 in
    let starts : starts_from 0 p.0.0 ≡ e.starts = (encoded_ok p.0.0 q.0 made).1 ∙ ap (λ (code : EncodedCode). code.starts) same in
    let counted = all_kept (length is) is a p.0 fits p.1 in
    sym (ap (λ (ns : List ℕ). length ns) starts) ∙ starts_length 0 p.0.0 ∙ counted.1

start_found : (e : EncodedCode) (n : ℕ) → n < length e.starts → IsOk (start_of e n)
unfolding start_of
start_found e n lt = rw (slice_get-get_or e.starts n 0 lt) refl

end_or_start : (b : Bool) (e : EncodedCode) (n : ℕ) → (b ≡ false → n < length e.starts) → IsOk (cond b (Ok (length e.bytes)) (start_of e n))
end_or_start true e n h = refl
end_or_start false e n h = start_found e n (h refl)

end_found : (e : EncodedCode) (n : ℕ) → n ≤ length e.starts → IsOk (end_of e n)
unfolding end_of
end_found e n le = end_or_start (n == length e.starts) e n (λ not. let other : n < length e.starts = grind (arith, nat_tests) in other)

handler_found : (e : EncodedCode) (count : ℕ) (h : Handler) → length e.starts ≡ count → handler_fits count h ≡ true → IsOk (start_of e h.start) × IsOk (end_of e h.end) × IsOk (start_of e h.target)
handler_found e count h same fits =
    let caught = both_true (nat_lt h.start h.end && nat_le h.end count && nat_lt h.target count) (catch_type_fits h.catch_type) fits in
    let target = both_true (nat_lt h.start h.end && nat_le h.end count) (nat_lt h.target count) caught.0 in
    let range = both_true (nat_lt h.start h.end) (nat_le h.end count) target.0 in
    let before : h.start < h.end = ltb-true h.start h.end range.0 in
    let within : h.end ≤ count = leb-true h.end count range.1 in
    let at : h.target < count = ltb-true h.target count target.1 in
    (start_found e h.start (omega (arith, before, within, same)), end_found e h.end (omega (arith, within, same)), start_found e h.target (omega (arith, at, same)))

-- what a test finds of all of them
pub all_found : {A : Type 0} (p : A → Bool) (P : A → Type 0) → ((x : A) → p x ≡ true → P x) → (xs : List A) → list_all p xs ≡ true → All P xs
all_found p P one [] h = All-nil P
all_found p P one (x ∷ xs) h =
    let both = both_true (p x) (list_all p xs) h in
    All-cons P x xs (one x both.0) (all_found p P one xs both.1)

pub places_found : (c : Code) (a : DraftParts) (e : EncodedCode) (b : DraftParts) → list_all (instr_fits (length c.instructions)) c.instructions ≡ true → list_all (handler_fits (length c.instructions)) c.handlers ≡ true → list_all (line_fits (length c.instructions)) c.lines ≡ true
    → code_encoded c.instructions a ≡ Ok (e, b) → PlacesFound e c
places_found c a e b instrs handlers lines h =
    let count = places_count c.instructions a e b instrs h in (
      all_found (handler_fits (length c.instructions)) _ (λ row fits. handler_found e (length c.instructions) row count fits) c.handlers handlers,
      all_found (line_fits (length c.instructions)) _ (λ row fits. start_found e row.start (let below : row.start < length c.instructions = ltb-true row.start (length c.instructions) fits in omega (arith, below, count))) c.lines lines,
    )
