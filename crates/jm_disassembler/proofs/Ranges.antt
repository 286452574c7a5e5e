-- What is said has numbers of its types.
use Rattle.std.proofs.Common.{◌≡◌, ℕ, ◌<◌, ◌^◌, Bool, true, false, not, ◌&&◌, List, [], ◌∷◌, Option, Some, None, refl}
use Rattle.std.proofs.Common.{arith, nat_le}
use Rattle.std.specs.Prelude.{ℤ, pos, negsuc, int_le, FitsSigned, All}
use Rattle.std.specs.Int.{w8, w16, w32, w64}
use Rattle.std.specs.List.{list_all}
use Rattle.std.proofs.lemmas.Int.{ints}
use Rattle.std.proofs.lemmas.List.Elements.{All-cons, All-nil}
use Rattle.std.proofs.lemmas.Bool.Decides.{nat_tests}
use Rattle.jm_program.specs.JasminUnits.{is_escaped}
use Rattle.jm_program.specs.Surrogates.{is_high, is_low}
use Rattle.jm_program.specs.declared.jasmin.units.Context.TheVariants.{InName}
use Rattle.jm_program.specs.declared.code.Code.{Code}
use Rattle.jm_program.specs.declared.code.Handler.{Handler}
use Rattle.jm_program.specs.declared.code.LineNumber.{LineNumber}
use Rattle.jm_program.specs.declared.constant.Constant.{Constant}
use Rattle.jm_program.specs.declared.constant.Constant.TheVariants as constant
use Rattle.jm_program.specs.declared.descriptor.ElementType.{ElementType}
use Rattle.jm_program.specs.declared.descriptor.ElementType.TheVariants.{Base, Class}
use Rattle.jm_program.specs.declared.descriptor.FieldType.{FieldType}
use Rattle.jm_program.specs.declared.descriptor.MethodDescriptor.{MethodDescriptor}
use Rattle.jm_program.specs.declared.reference.ClassRef.{ClassRef}
use Rattle.jm_program.specs.declared.reference.ClassRef.TheVariants as class_ref
use Rattle.jm_program.specs.declared.instruction.plain.SwitchPair.{SwitchPair}
use Rattle.jm_program.specs.declared.instruction.plain.Plain.{Plain}
use Rattle.jm_program.specs.declared.instruction.plain.Plain.TheVariants as plain
use Rattle.jm_program.specs.declared.instruction.symbolic.Instr.{Instr}
use Rattle.jm_program.specs.declared.instruction.symbolic.Instr.TheVariants as instr
use Rattle.jm_program.proofs.Truths.{both_true}
use Rattle.jm_class_writer.specs.Ranges.{OfSome, UnitsInRange, ConstantInRange, ElementInRange, TypeInRange, MethodTypeInRange, ClassRefInRange, InstrInRange, HandlerInRange}
use Rattle.jm_disassembler.specs.Names.{is_unit, is_plain_unit, plain_from, is_plain, is_sayable, begins_with_quote, is_plain_element, is_plain_type, is_plain_return, is_plain_method_type, is_sayable_class}
use Rattle.jm_disassembler.specs.Said.{no_parenthesis, class_no_parenthesis, is_within, is_int, is_long, is_short, key_said, plain_said, constant_said, instr_said}
use Rattle.jm_disassembler.specs.Bodies.{caught_said, handler_said, row_said, lines_said, code_said}
use Rattle.jm_disassembler.proofs.Spelled.{first_of_two, second_of_two}
use Rattle.jm_disassembler.proofs.Bodies.{EachOf, LineInRange}
use Rattle.jm_disassembler.proofs.Methods.{CodeNumbers, said_of_code}

Unit16 : ℕ → Type 0
Unit16 u = u < 2 ^ 16

unit_small : (u : ℕ) → is_unit u ≡ true → u < 2 ^ 16
unit_small u h = grind (arith, nat_tests)

high_small : (u : ℕ) → is_high u ≡ true → u < 2 ^ 16
high_small u h = grind (arith, nat_tests)

low_small : (u : ℕ) → is_low u ≡ true → u < 2 ^ 16
low_small u h = grind (arith, nat_tests)

units_more : (u : ℕ) (us : List ℕ) → u < 2 ^ 16 → UnitsInRange us → UnitsInRange (u ∷ us)
units_more u us lt h = All-cons (λ (x : ℕ). x < 2 ^ 16) u us lt h

abbrev Ranged : Bool → List ℕ → Type 0
Ranged waiting us = plain_from waiting us ≡ true → UnitsInRange us

none_range : (u : ℕ) (us : List ℕ) → Ranged false us → Ranged true us → (b : Bool) → is_high u ≡ b → Ranged false (u ∷ us)
none_range u us f t true e h =
    units_more u us (high_small u e) (t (first_of_two (is_high u) (plain_from true us) (is_plain_unit u && plain_from false us) e h))
none_range u us f t false e h =
    let p = both_true (is_plain_unit u) (plain_from false us) (second_of_two (is_high u) (plain_from true us) (is_plain_unit u && plain_from false us) e h) in
    units_more u us (unit_small u (both_true (not (is_escaped InName u)) (is_unit u) p.0).1) (f p.1)

both_ranges : (us : List ℕ) → Ranged false us × Ranged true us
both_ranges [] = (λ h. All-nil (λ (x : ℕ). x < 2 ^ 16), λ h. All-nil (λ (x : ℕ). x < 2 ^ 16))
both_ranges (u ∷ us) =
    let r = both_ranges us in (
      none_range u us r.0 r.1 (is_high u) refl,
      λ h. let p = both_true (is_low u) (plain_from false us) h in units_more u us (low_small u p.0) (r.0 p.1),
    )

pub plain_range : (name : List ℕ) → is_plain name ≡ true → UnitsInRange name
plain_range name h = (both_ranges name).0 h

pub name_range : (name : List ℕ) → is_sayable name ≡ true → UnitsInRange name
name_range name h = plain_range name (both_true (not (begins_with_quote name)) (is_plain name) h).1

units_range : (us : List ℕ) → list_all is_unit us ≡ true → UnitsInRange us
units_range [] h = All-nil (λ (x : ℕ). x < 2 ^ 16)
units_range (u ∷ us) h =
    let p = both_true (is_unit u) (list_all is_unit us) h in
    units_more u us (unit_small u p.0) (units_range us p.1)

-- ---- types

element_range : (e : ElementType) → is_plain_element e ≡ true → ElementInRange e
element_range (Base b) h = tt
element_range (Class name) h = plain_range name h

pub type_range : (t : FieldType) → is_plain_type t ≡ true → TypeInRange t
type_range t h = element_range t.element h

types_range : (ts : List FieldType) → list_all is_plain_type ts ≡ true → All TypeInRange ts
types_range [] h = All-nil TypeInRange
types_range (t ∷ ts) h =
    let p = both_true (is_plain_type t) (list_all is_plain_type ts) h in
    All-cons TypeInRange t ts (type_range t p.0) (types_range ts p.1)

return_range : (r : Option FieldType) → is_plain_return r ≡ true → OfSome TypeInRange r
return_range None h = tt
return_range (Some t) h = type_range t h

pub method_type_range : (d : MethodDescriptor) → is_plain_method_type d ≡ true → MethodTypeInRange d
method_type_range d h =
    let p = both_true (list_all is_plain_type d.parameters) (is_plain_return d.return_type) h in
    (types_range d.parameters p.0, return_range d.return_type p.1)

class_range : (c : ClassRef) → is_sayable_class c ≡ true → ClassRefInRange c
class_range (class_ref.Class name) h = name_range name h
class_range (class_ref.Array t) h = type_range t h

-- ---- numbers

fits_8 : (z : ℤ) → is_within (negsuc 127) (pos 127) z ≡ true → FitsSigned w8 z
fits_8 z h =
    let p = both_true (int_le (negsuc 127) z) (int_le z (pos 127)) h in
    by z p.0 p.1
  where
    by : (z : ℤ) → int_le (negsuc 127) z ≡ true → int_le z (pos 127) ≡ true → FitsSigned w8 z
    by z a b = grind (arith, ints)

fits_16 : (z : ℤ) → is_within (negsuc 32767) (pos 32767) z ≡ true → FitsSigned w16 z
fits_16 z h =
    let p = both_true (int_le (negsuc 32767) z) (int_le z (pos 32767)) h in
    by z p.0 p.1
  where
    by : (z : ℤ) → int_le (negsuc 32767) z ≡ true → int_le z (pos 32767) ≡ true → FitsSigned w16 z
    by z a b = grind (arith, ints)

fits_32 : (z : ℤ) → is_int z ≡ true → FitsSigned w32 z
fits_32 z h =
    let p = both_true (int_le (negsuc 2147483647) z) (int_le z (pos 2147483647)) h in
    by z p.0 p.1
  where
    by : (z : ℤ) → int_le (negsuc 2147483647) z ≡ true → int_le z (pos 2147483647) ≡ true → FitsSigned w32 z
    by z a b = grind (arith, ints)

fits_64 : (z : ℤ) → is_long z ≡ true → FitsSigned w64 z
fits_64 z h =
    let p = both_true (int_le (negsuc 9223372036854775807) z) (int_le z (pos 9223372036854775807)) h in
    by z p.0 p.1
  where
    by : (z : ℤ) → int_le (negsuc 9223372036854775807) z ≡ true → int_le z (pos 9223372036854775807) ≡ true → FitsSigned w64 z
    by z a b = grind (arith, ints)

pub constant_range : (c : Constant) → constant_said c ≡ true → ConstantInRange c
constant_range (constant.Int n) h = fits_32 n h
constant_range (constant.Long n) h = fits_64 n h
constant_range (constant.String units) h = units_range units h

pub short_range : (n : ℕ) → is_short n ≡ true → n < 2 ^ 16
short_range n h = grind (arith, nat_tests)

keys_range : (ps : List SwitchPair) → list_all key_said ps ≡ true → All (λ (p : SwitchPair). FitsSigned w32 p.key) ps
keys_range [] h = All-nil (λ (p : SwitchPair). FitsSigned w32 p.key)
keys_range (p ∷ ps) h =
    let q = both_true (key_said p) (list_all key_said ps) h in
    All-cons (λ (p : SwitchPair). FitsSigned w32 p.key) p ps (fits_32 p.key q.0) (keys_range ps q.1)

plain_in_range : (p : Plain) → plain_said p ≡ true → InstrInRange (instr.Plain p)
plain_in_range (plain.Simple op) h = tt
plain_in_range (plain.PushByte n) h = fits_8 n h
plain_in_range (plain.PushShort n) h = fits_16 n h
plain_in_range (plain.Load t n) h = short_range n h
plain_in_range (plain.Store t n) h = short_range n h
plain_in_range (plain.Increment n by) h =
    let p = both_true (is_short n) (is_within (negsuc 32767) (pos 32767) by) h in
    (short_range n p.0, fits_16 by p.1)
plain_in_range (plain.Branch op t) h = tt
plain_in_range (plain.TableSwitch t) h = fits_32 t.low h
plain_in_range (plain.LookupSwitch l) h = keys_range l.pairs h

instr_range : (i : Instr) → instr_said i ≡ true → InstrInRange i
instr_range (instr.Plain p) h = plain_in_range p h
instr_range (instr.Array op) h = tt
instr_range (instr.Return op) h = tt
instr_range instr.Throw h = tt
instr_range (instr.Monitor op) h = tt
instr_range (instr.Constant c) h = constant_range c h
instr_range (instr.Field op f) h =
    let p = both_true (is_sayable_class f.class && is_plain f.name) (is_plain_type f.descriptor) h in
    let q = both_true (is_sayable_class f.class) (is_plain f.name) p.0 in
    (class_range f.class q.0, plain_range f.name q.1, type_range f.descriptor p.1)
instr_range (instr.Invoke op m) h =
    let a = both_true (is_sayable_class m.class && class_no_parenthesis m.class && is_plain m.name && no_parenthesis m.name) (is_plain_method_type m.descriptor) h in
    let b = both_true (is_sayable_class m.class && class_no_parenthesis m.class && is_plain m.name) (no_parenthesis m.name) a.0 in
    let c = both_true (is_sayable_class m.class && class_no_parenthesis m.class) (is_plain m.name) b.0 in
    let d = both_true (is_sayable_class m.class) (class_no_parenthesis m.class) c.0 in
    (class_range m.class d.0, plain_range m.name c.1, method_type_range m.descriptor a.1)
instr_range (instr.New name) h = name_range name h
instr_range (instr.Type op c) h = class_range c h

instrs_range : (is : List Instr) → list_all instr_said is ≡ true → All InstrInRange is
instrs_range [] h = All-nil InstrInRange
instrs_range (i ∷ is) h =
    let p = both_true (instr_said i) (list_all instr_said is) h in
    All-cons InstrInRange i is (instr_range i p.0) (instrs_range is p.1)

caught_range : (o : Option (List ℕ)) → caught_said o ≡ true → OfSome UnitsInRange o
caught_range None h = tt
caught_range (Some name) h = name_range name (both_true (is_sayable name) _ h).0

handlers_range : (hs : List Handler) → list_all handler_said hs ≡ true → All HandlerInRange hs
handlers_range [] h = All-nil HandlerInRange
handlers_range (x ∷ hs) h =
    let p = both_true (handler_said x) (list_all handler_said hs) h in
    All-cons HandlerInRange x hs (caught_range x.catch_type p.0) (handlers_range hs p.1)

lines_range : (least : ℕ) (ls : List LineNumber) → lines_said least ls ≡ true → EachOf LineInRange ls
lines_range least [] h = tt
lines_range least (l ∷ ls) h =
    let p = both_true (row_said least l) (lines_said l.start ls) h in
    (short_range l.line (both_true (nat_le least l.start) (is_short l.line) p.0).1, lines_range l.start ls p.1)

pub code_numbers : (c : Code) → code_said c ≡ true → CodeNumbers c
code_numbers c h =
    let p = said_of_code c h in
    record {
      stack = short_range c.max_stack p.0;
      locals = short_range c.max_locals p.1;
      lines = lines_range 0 c.lines p.5;
      instructions = instrs_range c.instructions p.4;
      handlers = handlers_range c.handlers p.3;
    }
