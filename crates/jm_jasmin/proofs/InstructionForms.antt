-- The line of an instruction is read as its form says.
use Rattle.std.proofs.Common.{◌≡◌, ℕ, suc, ◌+◌, List, [], ◌∷◌, length, Option, Some, None, Result, Ok, Err, refl, arith, eq-eqb, position}
use Rattle.std.specs.Prelude.{ℤ, pos, nat_lt, nat_le, true}
use Rattle.std.proofs.lemmas.Bool.Decides.{nat_tests}
use Rattle.jm_bytes.specs.Reading.{and_then, fault_as}
use Rattle.jm_program.specs.Texts.{utf16_of}
use Rattle.jm_program.specs.Descriptors.{argument_slots}
use Rattle.jm_program.specs.Instructions.{has_dimensions}
use Rattle.jm_program.specs.declared.reference.ClassRef.{ClassRef}
use Rattle.jm_program.specs.declared.reference.ClassRef.TheVariants as class_ref_is
use Rattle.jm_program.specs.declared.reference.MethodRef.{MethodRef}
use Rattle.jm_program.specs.declared.instruction.operation.InvokeOp.{InvokeOp}
use Rattle.jm_program.specs.declared.instruction.symbolic.Instr.{Instr}
use Rattle.jm_program.proofs.Truths.{both_true}
use Rattle.jm_class_format.specs.Instructions.{natural}
use Rattle.jm_class_format.specs.declared.read_fault.ReadFault.{ReadFault}
use Rattle.jm_class_format.specs.declared.opcode.Opcode.{Opcode}
use Rattle.jm_class_format.specs.Symbols.{dimensioned_ref, method_ref_of}
use Rattle.jm_jasmin_lex.specs.Integers.{integer_of}
use Rattle.jm_jasmin_lex.specs.Token.{TokenParts}
use Rattle.jm_jasmin_ops.specs.Faults.{of_read}
use Rattle.jm_jasmin_ops.specs.Words.{word, label}
use Rattle.jm_jasmin_ops.specs.Operands.{integer, ranged, natural_within, loaded, loaded_long, element_type, units, class_name, class_ref, dimensions}
use Rattle.jm_jasmin_ops.specs.Operands.{field_named, field_typed, method, counted, member, parted_at, method_at, is_parenthesis}
use Rattle.jm_jasmin_ops.specs.Instruction.{named_instr, operands, instruction_in}
use Rattle.jm_jasmin_ops.specs.Label.{LabelParts}
use Rattle.jm_jasmin_ops.specs.declared.labelled.LabelledPair.{LabelledPair}
use Rattle.jm_jasmin_ops.specs.declared.labelled.LabelledInstr.{LabelledInstr}
use Rattle.jm_jasmin_ops.specs.declared.labelled.LabelledInstr.TheVariants as labelled
use Rattle.jm_jasmin_ops.specs.declared.fault.AsmFault.{AsmFault}
use Rattle.jm_jasmin.specs.WordForms.{Word, bare}
use Rattle.jm_jasmin.specs.WordForms.{Line as Words}
use Rattle.jm_jasmin.specs.InstructionForms.{IsBetween, IsUpTo, Element, Operands, InstructionLine}
use Rattle.jm_jasmin.specs.InstructionForms.Element.{boolean, char, byte, short, int, long}
use Rattle.jm_jasmin.specs.InstructionForms.Operands.{simple, on_array, return, throw, monitor, push_byte, push_short, load_int, load_string}
use Rattle.jm_jasmin.specs.InstructionForms.Operands.{load_int_wide, load_string_wide, load_long, load, store, increment, field, invoke_method}
use Rattle.jm_jasmin.specs.InstructionForms.Operands.{invoke_interface, new, new_array, type, new_arrays}
use Rattle.jm_jasmin.specs.InstructionForms.InstructionLine.{named, branch, branch_wide}
use Rattle.jm_jasmin.proofs.WordForms.{token_in, standing}

-- ---- operands

ranged_is : (low high n : ℤ) (text : List ℕ) → IsBetween low high text n → (number start : ℕ) → ranged low high (token_in number start (bare text)) ≡ Ok n
unfolding ranged integer word
ranged_is low high n text h number start = rw (h.value, h.fits) refl

natural_is : (most n : ℕ) (text : List ℕ) → IsUpTo most text n → (number start : ℕ) → natural_within most (token_in number start (bare text)) ≡ Ok n
unfolding natural_within integer word natural
natural_is most n text h number start = rw (h.value, h.fits) refl

-- a fault's line does not matter where there is none
parted_any : (line : ℕ) (us : List ℕ) (at : Option ℕ) (names : List ℕ × List ℕ) → parted_at 0 us at ≡ Ok names → parted_at line us at ≡ Ok names
parted_any line us None names h = absurd cc
parted_any line us (Some at) names h = h

member_any : (line : ℕ) (us : List ℕ) (names : List ℕ × List ℕ) → member 0 us ≡ Ok names → member line us ≡ Ok names
unfolding member
member_any line us names h = parted_any line us _ names h

fault_any : {A : Type 0} (line : ℕ) (r : Result A ReadFault) (x : A) → fault_as (of_read 0) r ≡ Ok x → fault_as (of_read line) r ≡ Ok x
fault_any line (Ok y) x h = cc
fault_any line (Err e) x h = absurd cc

after_member : (line : ℕ) (op : InvokeOp) (types : List ℕ) (m : MethodRef) (r s : Result (List ℕ × List ℕ) AsmFault)
    → ((names : List ℕ × List ℕ) → r ≡ Ok names → s ≡ Ok names)
    → and_then r (λ names. fault_as (of_read 0) (method_ref_of op (names.0, names.1, types))) ≡ Ok m
    → and_then s (λ names. fault_as (of_read line) (method_ref_of op (names.0, names.1, types))) ≡ Ok m
after_member line op types m (Ok names) s f h = rw (f names refl) (fault_any line (method_ref_of op (names.0, names.1, types)) m h)
after_member line op types m (Err e) s f h = absurd cc

method_any : (line : ℕ) (op : InvokeOp) (us : List ℕ) (at : Option ℕ) (m : MethodRef) → method_at 0 op us at ≡ Ok m → method_at line op us at ≡ Ok m
method_any line op us None m h = absurd cc
method_any line op us (Some at) m h = after_member line op _ m _ _ (λ names k. member_any line _ names k) h

method_is : (op : InvokeOp) (text : List ℕ) (m : MethodRef) → method_at 0 op (utf16_of text) (position is_parenthesis (utf16_of text)) ≡ Ok m
    → (number start : ℕ) → method op (token_in number start (bare text)) ≡ Ok m
unfolding method units word
method_is op text m h number start = method_any number op (utf16_of text) (position is_parenthesis (utf16_of text)) m h

abbrev Reads : Opcode → Words → Instr → Type 0
Reads op ws i = (number : ℕ) (at : ℕ → ℕ) (below : List TokenParts) → operands number op (standing number at ws) below ≡ Ok
    (record { instruction = labelled.Named i; used = length (standing number at ws) + 1 })

element_reads : (text : List ℕ) (t : _) → Element text t → (number start : ℕ) → element_type (token_in number start (bare text)) ≡ Ok t
unfolding element_type word
element_reads text t boolean number start = refl
element_reads text t char number start = refl
element_reads text t byte number start = refl
element_reads text t short number start = refl
element_reads text t int number start = refl
element_reads text t long number start = refl

-- what has dimensions has one
one_dimension : (class : ClassRef) (d : ℕ) → has_dimensions class d ≡ true → dimensioned_ref 1 class ≡ Ok class
unfolding dimensioned_ref
one_dimension (class_ref_is.Class name) d h = absurd cc
one_dimension (class_ref_is.Array t) d h =
    let p = both_true (nat_lt 0 d) (nat_le d t.dimensions) h in
    let few = p.0 in
    let most = p.1 in
    let one : nat_le 1 t.dimensions ≡ true = grind (arith, nat_tests) in
    rw one refl

dimensions_is : (class : ClassRef) (d : ℕ) (count : List ℕ) → has_dimensions class d ≡ true → integer_of count ≡ Some (pos d) → (number start : ℕ) → dimensions class (token_in number start (bare count)) ≡ Ok d
unfolding dimensions integer word natural
dimensions_is class d count h n number start = rw (n, h) refl

operands_read : (op : Opcode) (ws : Words) (i : Instr) → Operands op ws i → Reads op ws i
unfolding operands named_instr loaded loaded_long class_name class_ref field_named field_typed counted units word integer
operands_read op ws i (simple o) number at below = refl
operands_read op ws i (on_array o) number at below = refl
operands_read op ws i (return o) number at below = refl
operands_read op ws i throw number at below = refl
operands_read op ws i (monitor o) number at below = refl
operands_read op ws i (push_byte text n h) number at below = rw (ranged_is _ _ n text h number (at 0)) refl
operands_read op ws i (push_short text n h) number at below = rw (ranged_is _ _ n text h number (at 0)) refl
operands_read op ws i (load_int text n h r k) number at below = rw (r, k, ranged_is _ _ n text h number (at 0)) refl
operands_read op ws i (load_string text) number at below = refl
operands_read op ws i (load_int_wide text n h r k) number at below = rw (r, k, ranged_is _ _ n text h number (at 0)) refl
operands_read op ws i (load_string_wide text) number at below = refl
operands_read op ws i (load_long text n h r) number at below = rw (r, h) refl
operands_read op ws i (load t text n h) number at below = rw (natural_is 65535 n text h number (at 0)) refl
operands_read op ws i (store t text n h) number at below = rw (natural_is 65535 n text h number (at 0)) refl
operands_read op ws i (increment text added n by h k) number at below = rw (natural_is 65535 n text h number (at 0), ranged_is _ _ by added k number (at 1))
    refl
operands_read op ws i (field o text t names pair d h k r) number at below = rw (member_any number (utf16_of text) names h, k, r) refl
operands_read op ws i (invoke_method o text m h) number at below = rw (method_is o text m h number (at 0)) refl
operands_read op ws i (invoke_interface text count m h k) number at below =
    rw (
      method_is _ text m h number (at 0),
      natural_is 255 (argument_slots m.descriptor + 1) count k number (at 1),
      eq-eqb (argument_slots m.descriptor + 1)
          (argument_slots m.descriptor + 1) refl,
    ) refl
operands_read op ws i (new text name h) number at below = rw h refl
operands_read op ws i (new_array text t h) number at below = rw (element_reads text t h number (at 0)) refl
operands_read op ws i (type o text c class h k) number at below = rw (h, k) refl
operands_read op ws i (new_arrays text count d class h k n) number at below = rw (h, one_dimension class d k, dimensions_is class d count k n number (at 1)) refl

-- ---- the line

-- the label in that line
abbrev pub label_in : ℕ → LabelParts → LabelParts
label_in number l = record { name = l.name; line = number }

abbrev pub labels_in : ℕ → List LabelParts → List LabelParts
labels_in number [] = []
labels_in number (l ∷ ls) = label_in number l ∷ labels_in number ls

abbrev pub pairs_in : ℕ → List LabelledPair → List LabelledPair
pairs_in number [] = []
pairs_in number (p ∷ ps) = record { key = p.key; target = label_in number p.target } ∷ pairs_in number ps

-- the instruction whose labels stand in that line
abbrev pub in_line : ℕ → LabelledInstr → LabelledInstr
in_line number (labelled.Named i) = labelled.Named i
in_line number (labelled.Branch op l) = labelled.Branch op (label_in number l)
in_line number (labelled.TableSwitch t) = labelled.TableSwitch (record { low = t.low; targets = labels_in number t.targets; default = label_in number t.default })
in_line number (labelled.LookupSwitch l) = labelled.LookupSwitch (record { pairs = pairs_in number l.pairs; default = label_in number l.default })

pub instruction_reads : (t : Word) (ws : Words) (i : LabelledInstr) → InstructionLine (t ∷ ws) i → (number : ℕ) (at : ℕ → ℕ) (below : List TokenParts)
    → instruction_in (standing number at (t ∷ ws)) below ≡ Ok
    (record { instruction = in_line number i; used = length (standing number (λ k. at (suc k)) ws) + 1 })
unfolding instruction_in word operands label
instruction_reads t ws i (named text op words x names h) number at below = rw names (operands_read op words x h number (λ k. at (suc k)) below)
instruction_reads t ws i (branch text target op names h) number at below = rw (names, h.no_offset, h.no_colon) refl
instruction_reads t ws i (branch_wide text target op names h) number at below = rw (names, h.no_offset, h.no_colon) refl
