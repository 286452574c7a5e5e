-- What a line declares of a method keeps the rules of a method (JVMS 4.6).
use Rattle.std.proofs.Common.{◌≡◌, ℕ, ◌-◌, ◌==◌, Bool, true, false, not, ◌&&◌, ◌||◌, List, [], ◌∷◌, Option, Some, None, Result, Ok, Err, refl, subst, ap, ◌∙◌, length, take, drop}
use Rattle.std.specs.Prelude.{if◌then◌else◌, codes, bit_and, bit_or}
use Rattle.std.specs.List.{position}
use Rattle.std.proofs.lemmas.Nat.{and_or_apart}
use Rattle.std.proofs.lemmas.Option.{same_Some}
use Rattle.jm_bytes.specs.Laws.{and_then_ok, same_Ok, fault_as_ok}
use Rattle.jm_program.specs.Flags.{is_abstract, is_static, is_native, is_synchronized}
use Rattle.jm_program.specs.Names.{is_method_name, is_init, is_clinit, same_text}
use Rattle.jm_program.specs.Fits.{is_class_initializer, is_finalizer}
use Rattle.jm_program.specs.declared.flags.AccessFlags.{AccessFlags}
use Rattle.jm_program.specs.declared.class.Method.{Method}
use Rattle.jm_class_format.specs.Members.{own_receiver}
use Rattle.jm_class_format.specs.Symbols.{method_type_of}
use Rattle.jm_class_format.specs.declared.read_fault.LeftOutPart.{LeftOutPart}
use Rattle.jm_jasmin_lex.specs.Token.{TokenParts}
use Rattle.jm_jasmin_ops.specs.Faults.{of_read}
use Rattle.jm_jasmin_ops.specs.declared.fault.AsmFault.{AsmFault}
use Rattle.jm_jasmin_ops.specs.declared.fault.AsmFault.TheVariants as fault
use Rattle.jm_class_format.proofs.SymbolsFit.{MethodKept, method_type_kept}
use Rattle.jm_jasmin.specs.Lines.{line_number}
use Rattle.jm_jasmin.specs.Words.{word_text, with_length_from, flag_named, not_a_flag, flag_or, flag_of, flags_from, flags_before}
use Rattle.jm_jasmin.specs.Symbols.{method_name, method_type, units_at}
use Rattle.jm_jasmin.specs.MethodHeader.{is_misplaced_abstract, left_out_method, unless_left_out, declarable, named_method, parted_method, method_line}
use Rattle.jm_jasmin.proofs.HeaderFits.{method_name_kept}

-- ---- no flag word is that of a native method

abbrev Apart : ℕ → Type 0
Apart mask = bit_and mask 256 ≡ 0

mask_by : (b : Bool) (m mask : ℕ) (rest : Option ℕ) → (if b then Some m else rest) ≡ Some mask → Apart m → (rest ≡ Some mask → Apart mask) → Apart mask
mask_by true m mask rest h here next = subst Apart (same_Some m mask h) here
mask_by false m mask rest h here next = next h

flag_apart : (word : List ℕ) (mask : ℕ) → flag_named word ≡ Some mask → Apart mask
unfolding flag_named
flag_apart word mask h =
    mask_by (same_text word (codes "public")) 0x0001 mask _ h refl (λ h. mask_by (same_text word (codes "private")) 0x0002 mask _ h refl (λ h. mask_by (same_text word (codes "protected")) 0x0004 mask _ h refl
    (λ h. mask_by (same_text word (codes "static")) 0x0008 mask _ h refl (λ h. mask_by (same_text word (codes "final")) 0x0010 mask _ h refl (λ h. mask_by (same_text word (codes "synchronized")) 0x0020 mask _ h refl
    (λ h. mask_by (same_text word (codes "volatile")) 0x0040 mask _ h refl (λ h. mask_by (same_text word (codes "transient")) 0x0080 mask _ h refl (λ h. mask_by (same_text word (codes "abstract")) 0x0400 mask None h refl
    (λ h. absurd cc)))))))))

flag_or_is : (e : AsmFault) (o : Option ℕ) (mask : ℕ) → flag_or e o ≡ Ok mask → o ≡ Some mask
flag_or_is e (Some m) mask h = cc
flag_or_is e None mask h = absurd cc

token_apart : (t : TokenParts) (mask : ℕ) → flag_of t ≡ Ok mask → Apart mask
unfolding flag_of
token_apart t mask h =
    let a = and_then_ok (word_text t) (λ word. flag_or (not_a_flag t.line word) (flag_named word)) mask h in
    flag_apart a.0 mask (flag_or_is (not_a_flag t.line a.0) (flag_named a.0) mask a.2)

flags_apart : (bits : ℕ) (ts : List TokenParts) (all : ℕ) → Apart bits → flags_from bits ts ≡ Ok all → Apart all
unfolding flags_from
flags_apart bits [] all apart h = subst Apart (same_Ok {F = AsmFault} bits all h) apart
flags_apart bits (t ∷ ts) all apart h =
    let a = and_then_ok (flag_of t) (λ mask. flags_from (bit_or bits mask) ts) all h in
    flags_apart (bit_or bits a.0) ts all (and_or_apart 256 bits a.0 (token_apart t a.0 a.1) ∙ apart) a.2

line_apart : (line : List TokenParts) (index all : ℕ) → flags_before 0 line index ≡ Ok all → Apart all
unfolding flags_before
line_apart line index all h = flags_apart 0 (drop 1 (take index line)) all refl h

not_native : (bits : ℕ) → Apart bits → (bit_and bits 256 == 256) ≡ false
not_native bits apart = ap (λ (n : ℕ). n == 256) apart

-- ---- the name and the type

-- flags that are not native, a method's name, and its type with its receiver
abbrev pub Named : Method → Type 0
Named m = (is_native m.flags ≡ false) × (is_method_name m.name ≡ true) × MethodKept (own_receiver m.flags) m.descriptor

named_kept : (line flags : ℕ) (us : List ℕ) (at : ℕ) (m : Method) → Apart flags → named_method line flags us at ≡ Ok m → Named m
unfolding named_method method_type
named_kept line flags us at m apart h =
    let access : AccessFlags = record { bits = flags } in
    let a = and_then_ok (method_name line (take at us)) _ m h in
    let b = and_then_ok (method_type line (own_receiver access) (drop at us)) _ m a.2 in
    let type = method_type_kept (own_receiver access) (drop at us) b.0 (fault_as_ok (of_read line) (method_type_of (own_receiver access) (drop at us)) b.0 b.1) in
    subst Named (same_Ok {F = AsmFault} _ m b.2) (not_native flags apart, method_name_kept line (take at us) a.0 a.1, type)

parted_kept : (line flags : ℕ) (us : List ℕ) (at : Option ℕ) (m : Method) → Apart flags → parted_method line flags us at ≡ Ok m → Named m
parted_kept line flags us None m apart h = absurd cc
parted_kept line flags us (Some at) m apart h = named_kept line flags us at m apart h

-- ---- what is left out

misplaced_by : (b : Bool) (e : AsmFault) (r : Result Method AsmFault) (m : Method) → (if b then Err e else r) ≡ Ok m → (b ≡ false) × (r ≡ Ok m)
misplaced_by true e r m h = absurd cc
misplaced_by false e r m h = (refl, h)

unless_is : (line : ℕ) (o : Option LeftOutPart) (m n : Method) → unless_left_out line m o ≡ Ok n → (o ≡ None) × (m ≡ n)
unless_is line None m n h = (refl, same_Ok {F = AsmFault} m n h)
unless_is line (Some p) m n h = absurd cc

-- what a line declares in a class or in an interface
abbrev pub Declares : Bool → Method → Type 0
Declares in_interface m = Named m × (is_misplaced_abstract m ≡ false) × (left_out_method in_interface m ≡ None)

declared_kept : (in_interface : Bool) (line : ℕ) (m n : Method) → Named m → declarable in_interface line m ≡ Ok n → Declares in_interface n
unfolding declarable
declared_kept in_interface line m n named h =
    let a = misplaced_by (is_misplaced_abstract m) (fault.Syntax line) (unless_left_out line m (left_out_method in_interface m)) n h in
    let b = unless_is line (left_out_method in_interface m) m n a.1 in
    subst (Declares in_interface) b.1 (named, a.0, b.0)

pub method_line_kept : (in_interface : Bool) (line : List TokenParts) (m : Method) → method_line in_interface line ≡ Ok m → Declares in_interface m
unfolding method_line
method_line_kept in_interface line m h =
    let number : ℕ = line_number line in
    let a = and_then_ok (with_length_from line 2) _ m h in
    let b = and_then_ok (flags_before 0 line (length line - 1)) _ m a.2 in
    let c = and_then_ok (units_at line (length line - 1)) _ m b.2 in
    let d = and_then_ok (parted_method number b.0 c.0 (position (λ (u : ℕ). u == 40) c.0)) (declarable in_interface number) m c.2 in
    declared_kept in_interface number d.0 m (parted_kept number b.0 c.0 (position (λ (u : ℕ). u == 40) c.0) d.0 (line_apart line (length line - 1) b.0 b.1) d.1) d.2

-- ---- as tests

left_by : (b : Bool) (p : LeftOutPart) (rest : Option LeftOutPart) → (if b then Some p else rest) ≡ None → (b ≡ false) × (rest ≡ None)
left_by true p rest h = absurd cc
left_by false p rest h = (refl, h)

-- not static and synchronized, no finalizer, and in an interface abstract or its initializer
abbrev pub Kept : Bool → Method → Type 0
Kept in_interface m = ((is_static m.flags && is_synchronized m.flags) ≡ false) × (is_finalizer m ≡ false) × ((in_interface && not (is_abstract m.flags) && not (is_class_initializer m)) ≡ false)

pub kept_of : (in_interface : Bool) (m : Method) → left_out_method in_interface m ≡ None → Kept in_interface m
unfolding left_out_method
kept_of in_interface m h =
    let a = left_by (is_static m.flags && is_synchronized m.flags) _ _ h in
    let b = left_by (is_finalizer m) _ _ a.1 in
    let c = left_by (in_interface && not (is_abstract m.flags) && not (is_class_initializer m)) _ _ b.1 in
    (a.0, b.0, c.0)

abstract_by : (a s i c : Bool) → a ≡ true → (a && (s || i || c)) ≡ false → (a && not s && not i && not c) ≡ true
abstract_by false s i c is h = absurd cc
abstract_by true true i c is h = absurd cc
abstract_by true false true c is h = absurd cc
abstract_by true false false true is h = absurd cc
abstract_by true false false false is h = refl

pub abstract_kept : (m : Method) → is_abstract m.flags ≡ true → is_misplaced_abstract m ≡ false → (is_abstract m.flags && not (is_static m.flags) && not (is_init m.name) && not (is_clinit m.name)) ≡ true
unfolding is_misplaced_abstract
abstract_kept m is h = abstract_by (is_abstract m.flags) (is_static m.flags) (is_init m.name) (is_clinit m.name) is h

pub code_by : (a i k c : Bool) → a ≡ false → (i && not a && not k) ≡ false → c ≡ true → (not a && (not i || k) && c) ≡ true
code_by true i k c is h fits = absurd cc
code_by false true true c is h fits = fits
code_by false true false c is h fits = absurd cc
code_by false false k c is h fits = fits
