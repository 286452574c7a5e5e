-- The code that bytes spell keeps the rules of a code (JVMS 4.7.3, 4.7.12, 4.9.1).
use Rattle.std.proofs.Common.{◌≡◌, ℕ, zero, suc, Bool, true, false, ◌&&◌, ◌==◌, nat_lt, nat_le, List, [], ◌∷◌, ◌++◌, length, Option, Some, None, Result, Ok, refl, sym, ap, subst, ◌∙◌, arith}
use Rattle.std.specs.Prelude.{if◌then◌else◌, codes}
use Rattle.std.specs.List.{list_all, position}
use Rattle.std.proofs.lemmas.Bool.{and_from}
use Rattle.jm_bytes.specs.Reading.{each}
use Rattle.jm_bytes.specs.Laws.{and_then_ok, ok_or_ok, same_Ok}
use Rattle.jm_program.specs.Names.{same_text}
use Rattle.jm_program.specs.Instructions.{instr_fits}
use Rattle.jm_program.specs.Codes.{catch_type_fits, handler_fits, line_fits, code_fits}
use Rattle.jm_program.specs.declared.code.Code.{Code}
use Rattle.jm_program.specs.declared.code.Handler.{Handler}
use Rattle.jm_program.specs.declared.code.LineNumber.{LineNumber}
use Rattle.jm_program.specs.declared.instruction.symbolic.Instr.{Instr}
use Rattle.jm_program.proofs.Truths.{all_pass}
use Rattle.jm_class_format.specs.declared.constant_pool.Entry.{Entry}
use Rattle.jm_class_format.specs.declared.instruction.PlacedInstr.{PlacedInstr}
use Rattle.jm_class_format.specs.declared.read_fault.ReadFault.{ReadFault}
use Rattle.jm_class_format.specs.declared.read_fault.ReadFault.TheVariants as fault
use Rattle.jm_class_format.specs.NamedCode.{class_name_at, placed_named}
use Rattle.jm_class_format.specs.CodeAttribute.{Places, number_at, end_at, catch_type, handler_places, handler, handlers, line_number, line_numbers, whole_info, code_attribute_info, code_attribute, code_attributes, limits, places_of, code_tables, code_body}
use Rattle.jm_class_format.proofs.Kept.{guard_held, position_within, many_keep, repeated_keeps, each_keep}
use Rattle.jm_class_format.proofs.InstructionsFit.{indexed_fits, as_many, code_kept, class_name_kept, named_fits}

-- ---- offsets

number_kept : (starts : List ℕ) (offset n : ℕ) → number_at starts offset ≡ Ok n → nat_lt n (length starts) ≡ true
unfolding number_at
number_kept starts offset n h =
    position_within (λ start. start == offset) starts n (ok_or_ok (position (λ start. start == offset) starts) fault.BadAttribute n h)

same_at_most : (count n : ℕ) → count ≡ n → nat_le n count ≡ true
same_at_most count n h = grind (arith)

less_at_most : (n count : ℕ) → nat_lt n count ≡ true → nat_le n count ≡ true
less_at_most n count h = grind (arith)

end_by : (b : Bool) (count : ℕ) (starts : List ℕ) (offset n : ℕ) → ◌≡◌ {A = Result ℕ ReadFault} (if b then Ok count else number_at starts offset) (Ok n) → length starts ≡ count → nat_le n count ≡ true
end_by true count starts offset n h long = same_at_most count n (same_Ok {F = ReadFault} count n h)
end_by false count starts offset n h long = less_at_most n count (subst (λ (m : ℕ). nat_lt n m ≡ true) long (number_kept starts offset n h))

end_kept : (places : Places) (offset n : ℕ) → end_at places offset ≡ Ok n → nat_le n (length places.starts) ≡ true
unfolding end_at
end_kept places offset n h = end_by (offset == places.size) (length places.starts) places.starts offset n h refl

-- ---- the exception table

catch_type_kept : (es : List Entry) (index : ℕ) (caught : Option (List ℕ)) → catch_type es index ≡ Ok caught → catch_type_fits caught ≡ true
unfolding catch_type
catch_type_kept es zero caught h = let all : Option (List ℕ) = None in subst (λ (o : Option (List ℕ)). catch_type_fits o ≡ true) (same_Ok {F = ReadFault} all caught h) refl
catch_type_kept es (suc i) caught h =
    let a = and_then_ok (class_name_at es (suc i)) _ caught h in
    subst (λ (o : Option (List ℕ)). catch_type_fits o ≡ true) (same_Ok {F = ReadFault} (Some a.0) caught a.2) (class_name_kept es (suc i) a.0 a.1)

abbrev RangeFits : ℕ → ℕ × ℕ × ℕ → Type 0
RangeFits count range = (nat_lt range.0 range.1 && nat_le range.1 count && nat_lt range.2 count) ≡ true

range_kept : (places : Places) (bytes : List ℕ) (range : ℕ × ℕ × ℕ) → (handler_places places).Spells bytes range → RangeFits (length places.starts) range
unfolding handler_places
range_kept places bytes range h =
    let count : ℕ = length places.starts in
    let after = h.second.second.second in
    let start : ℕ = after.value in
    let end : ℕ = after.second.value in
    let target : ℕ = after.second.second.value in
    let most = end_kept places h.second.value end after.second.first.1 in
    let within = number_kept places.starts h.second.second.value target after.second.second.first.1 in
    let rises : nat_lt start end ≡ true = guard_held (nat_lt start end) after.second.second.second.first.1 in
    subst (RangeFits count) after.second.second.second.second.1
    (and_from (nat_lt start end && nat_le end count) (nat_lt target count) (and_from (nat_lt start end) (nat_le end count) rises most) within)

handler_kept : (es : List Entry) (places : Places) (bytes : List ℕ) (x : Handler) → (handler es places).Spells bytes x → handler_fits (length places.starts) x ≡ true
unfolding handler
handler_kept es places bytes x h =
    let count : ℕ = length places.starts in
    let range = h.value in
    let caught : Option (List ℕ) = h.second.second.value in
    let placed = range_kept places h.front range h.first in
    let named = catch_type_kept es h.second.value caught h.second.second.first.1 in
    subst (λ (y : Handler). handler_fits count y ≡ true) h.second.second.second.1
    (and_from (nat_lt range.0 range.1 && nat_le range.1 count && nat_lt range.2 count) (catch_type_fits caught) placed named)

handlers_kept : (es : List Entry) (places : Places) (bytes : List ℕ) (xs : List Handler) → (handlers es places).Spells bytes xs → list_all (handler_fits (length places.starts)) xs ≡ true
unfolding handlers
handlers_kept es places bytes xs h = many_keep (handler_fits (length places.starts)) (handler es places) (handler_kept es places) h.value h.back xs h.second

-- ---- line numbers

line_kept : (places : Places) (bytes : List ℕ) (l : LineNumber) → (line_number places).Spells bytes l → line_fits (length places.starts) l ≡ true
unfolding line_number
line_kept places bytes l h =
    subst (λ (x : LineNumber). line_fits (length places.starts) x ≡ true) h.second.second.second.1 (number_kept places.starts h.value h.second.value h.second.first.1)

lines_kept : (places : Places) (bytes : List ℕ) (ls : List LineNumber) → (line_numbers places).Spells bytes ls → list_all (line_fits (length places.starts)) ls ≡ true
unfolding line_numbers
lines_kept places bytes ls h = many_keep (line_fits (length places.starts)) (line_number places) (line_kept places) h.value h.back ls h.second

abbrev LinesFit : Places → List LineNumber → Type 0
LinesFit places ls = list_all (line_fits (length places.starts)) ls ≡ true

attribute_info_kept : (places : Places) (lines : List LineNumber) (b : Bool) (bytes : List ℕ) (ls : List LineNumber) → LinesFit places lines → (code_attribute_info places lines b).Spells bytes ls → LinesFit places ls
unfolding code_attribute_info whole_info
attribute_info_kept places lines true bytes ls fit h =
    subst (LinesFit places) h.second.1 (all_pass (line_fits (length places.starts)) lines h.value fit (lines_kept places h.first.back h.value h.first.second.1))
attribute_info_kept places lines false bytes ls fit h = subst (LinesFit places) h.second.1 fit

attribute_kept : (es : List Entry) (places : Places) (lines : List LineNumber) (bytes : List ℕ) (ls : List LineNumber) → LinesFit places lines → (code_attribute es places lines).Spells bytes ls → LinesFit places ls
unfolding code_attribute
attribute_kept es places lines bytes ls fit h = attribute_info_kept places lines (same_text h.value (codes "LineNumberTable")) h.back ls fit h.second

attributes_kept : (es : List Entry) (places : Places) (bytes : List ℕ) (ls : List LineNumber) → (code_attributes es places).Spells bytes ls → LinesFit places ls
unfolding code_attributes
attributes_kept es places bytes ls h = repeated_keeps (LinesFit places) (code_attribute es places) (attribute_kept es places) h.value [] h.back ls refl h.second

-- ---- the code

limits_kept : (slots : ℕ) (bytes : List ℕ) (limit : ℕ × ℕ) → (limits slots).Spells bytes limit → nat_le slots limit.1 ≡ true
unfolding limits
limits_kept slots bytes limit h =
    let held : nat_le slots h.second.value ≡ true = guard_held (nat_le slots h.second.value) h.second.second.first.1 in
    subst (λ (l : ℕ × ℕ). nat_le slots l.1 ≡ true) h.second.second.second.1 held

abbrev TablesFit : ℕ → List Handler × List LineNumber → Type 0
TablesFit count tables = (list_all (handler_fits count) tables.0 ≡ true) × (list_all (line_fits count) tables.1 ≡ true)

tables_kept : (es : List Entry) (places : Places) (bytes : List ℕ) (tables : List Handler × List LineNumber) → (code_tables es places).Spells bytes tables → TablesFit (length places.starts) tables
unfolding code_tables
tables_kept es places bytes tables h =
    subst (TablesFit (length places.starts)) h.second.second.1 (handlers_kept es places h.front h.value h.first, attributes_kept es places h.second.front h.second.value h.second.first)

abbrev InstructionsFit : List Instr → Type 0
InstructionsFit is = (nat_lt 0 (length is) ≡ true) × (list_all (instr_fits (length is)) is ≡ true)

named_kept : (es : List Entry) (ps : List PlacedInstr) (is : List Instr) → (nat_lt 0 (length ps) ≡ true) × (list_all (λ (p : PlacedInstr). indexed_fits (length ps) p.instr) ps ≡ true) → each (placed_named es) ps ≡ Ok is → InstructionsFit is × (length ps ≡ length is)
named_kept es ps is kept h =
    let count : ℕ = length ps in
    let all = each_keep (λ (p : PlacedInstr). indexed_fits count p.instr) (instr_fits count) (placed_named es) (λ p i fits k. named_fits es count p.instr i fits k) ps is kept.1 h in
    let fits : InstructionsFit is = (sym (ap (nat_lt 0) all.1) ∙ kept.0, subst (λ (n : ℕ). list_all (instr_fits n) is ≡ true) all.1 all.0) in
    (fits, all.1)

pub code_body_fits : (es : List Entry) (slots : ℕ) (bytes : List ℕ) (c : Code) → (code_body es slots).Spells bytes c → code_fits slots c ≡ true
unfolding code_body
code_body_fits es slots bytes c h =
    let limit : ℕ × ℕ = h.value in
    let size : ℕ = h.second.value in
    let code = h.second.second in
    let placed : List PlacedInstr = code.value in
    let is : List Instr = code.second.value in
    let places : Places = places_of size placed in
    let table = code.second.second in
    let held = limits_kept slots h.front limit h.first in
    let named = named_kept es placed is (code_kept code.front placed code.first.1) code.second.first.1 in
    let same : length places.starts ≡ length is = as_many placed ∙ named.1 in
    let tables = subst (λ (n : ℕ). TablesFit n table.value) same (tables_kept es places table.front table.value table.first) in
    let n : ℕ = length is in
    subst (λ (x : Code). code_fits slots x ≡ true) table.second.1
    (and_from (nat_le slots limit.1 && nat_lt 0 n && list_all (instr_fits n) is && list_all (handler_fits n) table.value.0) (list_all (line_fits n) table.value.1)
    (and_from (nat_le slots limit.1 && nat_lt 0 n && list_all (instr_fits n) is) (list_all (handler_fits n) table.value.0)
    (and_from (nat_le slots limit.1 && nat_lt 0 n) (list_all (instr_fits n) is) (and_from (nat_le slots limit.1) (nat_lt 0 n) held named.0.0) named.0.1) tables.0) tables.1)
