-- Neither a label's line nor an instruction's begins with a directive, and no mnemonic ends with a colon.
use Rattle.std.proofs.Common.{◌≡◌, ℕ, Bool, true, false, not, List, [], ◌∷◌, Option, Some, None, refl, ap, sym, subst, is_some}
use Rattle.std.specs.Prelude.{codes, if◌then◌else◌}
use Rattle.std.specs.List.{list_all}
use Rattle.jm_program.specs.Names.{same_text}
use Rattle.jm_program.specs.Mnemonics.{operand_letter, integral_letter, index_digit, small_int_digit, small_long_digit, stack_mnemonic, arithmetic_name}
use Rattle.jm_program.specs.Mnemonics.{shift_name, bitwise_name, conversion_mnemonic, comparison_name, equality_name, null_mnemonic, branch_mnemonic}
use Rattle.jm_program.specs.Mnemonics.{array_letter, array_line, return_mnemonic, monitor_mnemonic, field_mnemonic, invoke_mnemonic, type_mnemonic}
use Rattle.jm_program.specs.JasminInstructions.{simple_line}
use Rattle.jm_program.proofs.Truths.{both_true, not_true}
use Rattle.jm_program.proofs.Texts.{text_is}
use Rattle.jm_class_format.specs.Mnemonics.{left_out_mnemonic}
use Rattle.jm_class_format.specs.Opcodes.{constants, loads, stores, stack, math, conversions, comparisons, control, references, extended}
use Rattle.jm_class_format.specs.Symbols.{or_else}
use Rattle.jm_class_format.specs.declared.opcode.Opcode.{Opcode}
use Rattle.jm_jasmin_ops.specs.Mnemonics.{mnemonic, in_rows, opcode_named}
use Rattle.jm_jasmin.specs.Items.{ends_with_colon}

-- two texts of which one passes a test and the other does not
pub other_text : (test : List ℕ → Bool) (a b : List ℕ) → test a ≡ true → test b ≡ false → same_text a b ≡ false
other_text test a b h k = by (same_text a b) refl
  where
    by : (same : Bool) → same_text a b ≡ same → same ≡ false
    by true e = let same : test a ≡ test b = ap test (text_is a b e) in absurd cc
    by false e = refl

-- no directive of a body, nor of its end
pub record NoDirective (text : List ℕ) : Type 0 where
  pub limit : same_text text (codes ".limit") ≡ false
  pub line : same_text text (codes ".line") ≡ false
  pub var : same_text text (codes ".var") ≡ false
  pub throws : same_text text (codes ".throws") ≡ false
  pub catch : same_text text (codes ".catch") ≡ false
  pub end : same_text text (codes ".end") ≡ false

pub label_text : (text : List ℕ) → ends_with_colon text ≡ true → NoDirective text
label_text text h = record {
  limit = other_text ends_with_colon text (codes ".limit") h refl;
  line = other_text ends_with_colon text (codes ".line") h refl;
  var = other_text ends_with_colon text (codes ".var") h refl;
  throws = other_text ends_with_colon text (codes ".throws") h refl;
  catch = other_text ends_with_colon text (codes ".catch") h refl;
  end = other_text ends_with_colon text (codes ".end") h refl;
}

abbrev is_mnemonic : List ℕ → Bool
is_mnemonic text = is_some (opcode_named text)

no_mnemonics : (is_mnemonic (codes ".limit") ≡ false) × (is_mnemonic (codes ".line") ≡ false) × (is_mnemonic (codes ".var") ≡ false)
    × (is_mnemonic (codes ".throws") ≡ false) × (is_mnemonic (codes ".catch") ≡ false) × (is_mnemonic (codes ".end") ≡ false)
unfolding opcode_named in_rows mnemonic left_out_mnemonic simple_line operand_letter integral_letter index_digit small_int_digit
    small_long_digit stack_mnemonic arithmetic_name shift_name bitwise_name conversion_mnemonic comparison_name equality_name null_mnemonic
    branch_mnemonic array_letter array_line return_mnemonic monitor_mnemonic field_mnemonic invoke_mnemonic type_mnemonic constants loads
    stores stack math conversions comparisons control references extended
no_mnemonics = (refl, refl, refl, refl, refl, refl)

pub mnemonic_text : (text : List ℕ) (op : Opcode) → opcode_named text ≡ Some op → NoDirective text
mnemonic_text text op h =
    let named : is_mnemonic text ≡ true = ap is_some h in
    record {
      limit = other_text is_mnemonic text (codes ".limit") named no_mnemonics.0;
      line = other_text is_mnemonic text (codes ".line") named no_mnemonics.1;
      var = other_text is_mnemonic text (codes ".var") named no_mnemonics.2;
      throws = other_text is_mnemonic text (codes ".throws") named no_mnemonics.3;
      catch = other_text is_mnemonic text (codes ".catch") named no_mnemonics.4;
      end = other_text is_mnemonic text (codes ".end") named no_mnemonics.5;
    }

-- ---- no mnemonic ends with a colon

abbrev no_colon : ℕ × Opcode → Bool
no_colon row = not (ends_with_colon (mnemonic row.1))

abbrev HaveNoColon : List (ℕ × Opcode) → Type 0
HaveNoColon rows = list_all no_colon rows ≡ true

no_colons : HaveNoColon constants × HaveNoColon loads × HaveNoColon stores × HaveNoColon stack × HaveNoColon math
    × HaveNoColon conversions × HaveNoColon comparisons × HaveNoColon control × HaveNoColon references × HaveNoColon extended
unfolding opcode_named in_rows mnemonic left_out_mnemonic simple_line operand_letter integral_letter index_digit small_int_digit
    small_long_digit stack_mnemonic arithmetic_name shift_name bitwise_name conversion_mnemonic comparison_name equality_name null_mnemonic
    branch_mnemonic array_letter array_line return_mnemonic monitor_mnemonic field_mnemonic invoke_mnemonic type_mnemonic constants loads
    stores stack math conversions comparisons control references extended
no_colons = (refl, refl, refl, refl, refl, refl, refl, refl, refl, refl)

by_row : (b : Bool) (x op : Opcode) (rest : Option Opcode) (Q : Type 0) → (if b then Some x else rest) ≡ Some op → (b ≡ true → Q) → (rest ≡ Some op → Q) → Q
by_row true x op rest Q h here others = here refl
by_row false x op rest Q h here others = others h

in_rows_no_colon : (rows : List (ℕ × Opcode)) (text : List ℕ) (op : Opcode) → HaveNoColon rows → in_rows rows text ≡ Some op → ends_with_colon text ≡ false
unfolding in_rows
in_rows_no_colon [] text op are h = absurd cc
in_rows_no_colon (row ∷ rows) text op are h =
    let p = both_true (no_colon row) (list_all no_colon rows) are in
    by_row (same_text (mnemonic row.1) text) row.1 op (in_rows rows text) (ends_with_colon text ≡ false) h
    (λ same. subst (λ (w : List ℕ). ends_with_colon w ≡ false) (text_is (mnemonic row.1) text same) (not_true (ends_with_colon (mnemonic row.1)) p.0))
    (λ there. in_rows_no_colon rows text op p.1 there)

by_group : (Q : Type 0) (o p : Option Opcode) (op : Opcode) → (o ≡ Some op → Q) → (p ≡ Some op → Q) → or_else o p ≡ Some op → Q
by_group Q None p op f g h = g h
by_group Q (Some x) p op f g h = f h

pub mnemonic_no_colon : (text : List ℕ) (op : Opcode) → opcode_named text ≡ Some op → ends_with_colon text ≡ false
unfolding opcode_named
mnemonic_no_colon text op h =
    let Q : Type 0 = ends_with_colon text ≡ false in
    by_row (same_text text (codes "invokenonvirtual")) _ op _ Q h
    (λ same. subst (λ (w : List ℕ). ends_with_colon w ≡ false) (sym (text_is text (codes "invokenonvirtual") same)) refl)
    (by_group Q (in_rows constants text) _ op (in_rows_no_colon constants text op no_colons.0)
    (by_group Q (in_rows loads text) _ op (in_rows_no_colon loads text op no_colons.1)
    (by_group Q (in_rows stores text) _ op (in_rows_no_colon stores text op no_colons.2)
    (by_group Q (in_rows stack text) _ op (in_rows_no_colon stack text op no_colons.3)
    (by_group Q (in_rows math text) _ op (in_rows_no_colon math text op no_colons.4)
    (by_group Q (in_rows conversions text) _ op (in_rows_no_colon conversions text op no_colons.5)
    (by_group Q (in_rows comparisons text) _ op (in_rows_no_colon comparisons text op no_colons.6)
    (by_group Q (in_rows control text) _ op (in_rows_no_colon control text op no_colons.7)
    (by_group Q (in_rows references text) (in_rows extended text) op
    (in_rows_no_colon references text op no_colons.8) (in_rows_no_colon extended text op no_colons.9))))))))))
