-- The flags that words name are said by words.
use Rattle.std.proofs.Common.{◌≡◌, ℕ, zero, suc, ◌<◌, ◌^◌, Bool, true, false, ◌&&◌, ◌==◌, List, [], ◌∷◌, Option, Some, None, Ok, refl, sym, subst, ◌∙◌, arith, take, drop}
use Rattle.std.specs.Prelude.{if◌then◌else◌, nat_lt, bit_and, bit_or, codes}
use Rattle.std.proofs.lemmas.Nat.{or_lt, and_or_self, and_or_apart}
use Rattle.std.proofs.lemmas.Option.{same_Some}
use Rattle.std.proofs.lemmas.Bool.{eq-eqb, and_from, ltb-true, ltb-false}
use Rattle.jm_bytes.specs.Laws.{and_then_ok, same_Ok}
use Rattle.jm_program.specs.Names.{same_text}
use Rattle.jm_program.proofs.Truths.{both_true}
use Rattle.jm_jasmin_lex.specs.Token.{TokenParts}
use Rattle.jm_jasmin_ops.specs.declared.fault.AsmFault.{AsmFault}
use Rattle.jm_jasmin.specs.Words.{word_text, flag_named, not_a_flag, flag_or, flag_of, flags_from, flags_before}
use Rattle.jm_disassembler.specs.Flags.{member_rows, flags_said, class_flags_said}

-- ---- the flag of a word

abbrev Keeps : ℕ → ℕ → Type 0
Keeps flag mask = (all : ℕ) → bit_and all flag ≡ flag → bit_and (bit_or all mask) flag ≡ flag

-- it is small, it is neither of two others, and it takes none of three away
pub record IsWordFlag (mask : ℕ) : Type 0 where
  pub small : mask < 2 ^ 11
  pub no_native : bit_and mask 0x0100 ≡ 0
  pub no_interface : bit_and mask 0x0200 ≡ 0
  pub keeps_super : Keeps 0x0020 mask
  pub keeps_abstract : Keeps 0x0400 mask

itself : (flag : ℕ) → Keeps flag flag
itself flag all h = and_or_self flag all

other : (flag mask : ℕ) → bit_and mask flag ≡ 0 → Keeps flag mask
other flag mask apart all h = and_or_apart flag all mask apart ∙ h

plain : (mask : ℕ) → mask < 2 ^ 11 → bit_and mask 0x0100 ≡ 0 → bit_and mask 0x0200 ≡ 0 → bit_and mask 0x0020 ≡ 0 → bit_and mask 0x0400 ≡ 0 → IsWordFlag mask
plain mask small native interface super abstract = record {
  small = small;
  no_native = native;
  no_interface = interface;
  keeps_super = other 0x0020 mask super;
  keeps_abstract = other 0x0400 mask abstract;
}

synchronized_flag : IsWordFlag 0x0020
synchronized_flag = record {
  small = omega arith;
  no_native = refl;
  no_interface = refl;
  keeps_super = itself 0x0020;
  keeps_abstract = other 0x0400 0x0020 refl;
}

abstract_flag : IsWordFlag 0x0400
abstract_flag = record {
  small = omega arith;
  no_native = refl;
  no_interface = refl;
  keeps_super = other 0x0020 0x0400 refl;
  keeps_abstract = itself 0x0400;
}

mask_by : (b : Bool) (m mask : ℕ) (rest : Option ℕ) → (if b then Some m else rest) ≡ Some mask → IsWordFlag m → (rest ≡ Some mask → IsWordFlag mask) → IsWordFlag mask
mask_by true m mask rest h here next = subst IsWordFlag (same_Some m mask h) here
mask_by false m mask rest h here next = next h

word_flag : (word : List ℕ) (mask : ℕ) → flag_named word ≡ Some mask → IsWordFlag mask
unfolding flag_named
word_flag word mask h =
    mask_by (same_text word (codes "public")) 0x0001 mask _ h (plain 0x0001 (omega arith) refl refl refl refl)
    (λ h. mask_by (same_text word (codes "private")) 0x0002 mask _ h (plain 0x0002 (omega arith) refl refl refl refl)
    (λ h. mask_by (same_text word (codes "protected")) 0x0004 mask _ h (plain 0x0004 (omega arith) refl refl refl refl)
    (λ h. mask_by (same_text word (codes "static")) 0x0008 mask _ h (plain 0x0008 (omega arith) refl refl refl refl)
    (λ h. mask_by (same_text word (codes "final")) 0x0010 mask _ h (plain 0x0010 (omega arith) refl refl refl refl)
    (λ h. mask_by (same_text word (codes "synchronized")) 0x0020 mask _ h synchronized_flag
    (λ h. mask_by (same_text word (codes "volatile")) 0x0040 mask _ h (plain 0x0040 (omega arith) refl refl refl refl)
    (λ h. mask_by (same_text word (codes "transient")) 0x0080 mask _ h (plain 0x0080 (omega arith) refl refl refl refl)
    (λ h. mask_by (same_text word (codes "abstract")) 0x0400 mask None h abstract_flag (λ h. absurd cc)))))))))

flag_or_is : (e : AsmFault) (o : Option ℕ) (mask : ℕ) → flag_or e o ≡ Ok mask → o ≡ Some mask
flag_or_is e (Some m) mask h = cc
flag_or_is e None mask h = absurd cc

token_flag : (t : TokenParts) (mask : ℕ) → flag_of t ≡ Ok mask → IsWordFlag mask
unfolding flag_of
token_flag t mask h =
    let a = and_then_ok (word_text t) (λ word. flag_or (not_a_flag t.line word) (flag_named word)) mask h in
    word_flag a.0 mask (flag_or_is (not_a_flag t.line a.0) (flag_named a.0) mask a.2)

-- ---- of several words

-- what the flags of any words keep
abbrev IsKept : (ℕ → Type 0) → Type 0
IsKept P = (all mask : ℕ) → IsWordFlag mask → P all → P (bit_or all mask)

flags_keep : (P : ℕ → Type 0) → IsKept P → (bits : ℕ) (ts : List TokenParts) (all : ℕ) → P bits → flags_from bits ts ≡ Ok all → P all
unfolding flags_from
flags_keep P keeps bits [] all p h = subst P (same_Ok {F = AsmFault} bits all h) p
flags_keep P keeps bits (t ∷ ts) all p h =
    let a = and_then_ok (flag_of t) (λ mask. flags_from (bit_or bits mask) ts) all h in
    flags_keep P keeps (bit_or bits a.0) ts all (keeps bits a.0 (token_flag t a.0 a.1) p) a.2

-- of a member: small, and neither of the two without a word
abbrev MemberBits : ℕ → Type 0
MemberBits all = (all < 2 ^ 11) × (bit_and all 0x0100 ≡ 0) × (bit_and all 0x0200 ≡ 0)

member_bits : IsKept MemberBits
member_bits all mask m p = (or_lt 11 all mask p.0 m.small, and_or_apart 0x0100 all mask m.no_native ∙ p.1, and_or_apart 0x0200 all mask m.no_interface ∙ p.2)

-- of a class: ACC_SUPER besides
abbrev ClassBits : ℕ → Type 0
ClassBits all = MemberBits all × (bit_and all 0x0020 ≡ 0x0020)

class_bits : IsKept ClassBits
class_bits all mask m p = (member_bits all mask m p.0, m.keeps_super all p.1)

-- of an interface: ACC_INTERFACE and ACC_ABSTRACT
abbrev InterfaceBits : ℕ → Type 0
InterfaceBits all = (all < 2 ^ 11) × (bit_and all 0x0100 ≡ 0) × (bit_and all 0x0200 ≡ 0x0200) × (bit_and all 0x0400 ≡ 0x0400)

interface_bits : IsKept InterfaceBits
interface_bits all mask m p =
    (or_lt 11 all mask p.0 m.small, and_or_apart 0x0100 all mask m.no_native ∙ p.1, and_or_apart 0x0200 all mask m.no_interface ∙ p.2, m.keeps_abstract all p.3)

-- ---- each such number is said

abbrev all_below : (ℕ → Bool) → ℕ → Bool
all_below test zero = true
all_below test (suc n) = test n && all_below test n

last_by : (test : ℕ → Bool) (n k : ℕ) (b : Bool) → nat_lt k n ≡ b → k < suc n → test n ≡ true → (k < n → test k ≡ true) → test k ≡ true
last_by test n k true e lt here below = below (ltb-true k n e)
last_by test n k false e lt here below = let last : k ≡ n = omega (arith, ltb-false k n e) in subst (λ (m : ℕ). test m ≡ true) (sym last) here

below_is : (test : ℕ → Bool) (n k : ℕ) → all_below test n ≡ true → k < n → test k ≡ true
below_is test zero k h lt = absurd (omega arith)
below_is test (suc n) k h lt =
    let parts = both_true (test n) (all_below test n) h in
    last_by test n k (nat_lt k n) refl lt parts.0 (below_is test n k parts.1)

abbrev when : Bool → Bool → Bool
when true b = b
when false b = true

when_is : (a b : Bool) → when a b ≡ true → a ≡ true → b ≡ true
when_is true b h k = h
when_is false b h k = absurd cc

abbrev member_test : ℕ → Bool
member_test n = when (bit_and n 0x0100 == 0 && bit_and n 0x0200 == 0) (flags_said 0 n member_rows)

abbrev class_test : ℕ → Bool
class_test n = when (bit_and n 0x0100 == 0 && bit_and n 0x0200 == 0 && bit_and n 0x0020 == 0x0020) (class_flags_said (record { bits = n }))

abbrev interface_test : ℕ → Bool
interface_test n = when (bit_and n 0x0100 == 0 && bit_and n 0x0200 == 0x0200 && bit_and n 0x0400 == 0x0400) (class_flags_said (record { bits = n }))

member_tests : all_below member_test 2048 ≡ true
member_tests = refl

class_tests : all_below class_test 2048 ≡ true
class_tests = refl

interface_tests : all_below interface_test 2048 ≡ true
interface_tests = refl

-- ---- the flags of a line

pub member_said : (line : List TokenParts) (index all : ℕ) → flags_before 0 line index ≡ Ok all → flags_said 0 all member_rows ≡ true
unfolding flags_before
member_said line index all h =
    let p : MemberBits all = flags_keep MemberBits member_bits 0 (drop 1 (take index line)) all (omega arith, refl, refl) h in
    when_is (bit_and all 0x0100 == 0 && bit_and all 0x0200 == 0) (flags_said 0 all member_rows) (below_is member_test 2048 all member_tests p.0)
    (and_from (bit_and all 0x0100 == 0) (bit_and all 0x0200 == 0) (eq-eqb _ _ p.1) (eq-eqb _ _ p.2))

pub class_said : (line : List TokenParts) (index all : ℕ) → flags_before 0x0020 line index ≡ Ok all → class_flags_said (record { bits = all }) ≡ true
unfolding flags_before
class_said line index all h =
    let p : ClassBits all = flags_keep ClassBits class_bits 0x0020 (drop 1 (take index line)) all ((omega arith, refl, refl), refl) h in
    let native : Bool = bit_and all 0x0100 == 0 in
    let interface : Bool = bit_and all 0x0200 == 0 in
    let super : Bool = bit_and all 0x0020 == 0x0020 in
    when_is (native && interface && super) (class_flags_said (record { bits = all })) (below_is class_test 2048 all class_tests p.0.0)
    (and_from (native && interface) super (and_from native interface (eq-eqb _ _ p.0.1) (eq-eqb _ _ p.0.2)) (eq-eqb _ _ p.1))

pub interface_said : (line : List TokenParts) (index all : ℕ) → flags_before 0x0600 line index ≡ Ok all → class_flags_said (record { bits = all }) ≡ true
unfolding flags_before
interface_said line index all h =
    let p : InterfaceBits all = flags_keep InterfaceBits interface_bits 0x0600 (drop 1 (take index line)) all (omega arith, refl, refl, refl) h in
    let native : Bool = bit_and all 0x0100 == 0 in
    let interface : Bool = bit_and all 0x0200 == 0x0200 in
    let abstract : Bool = bit_and all 0x0400 == 0x0400 in
    when_is (native && interface && abstract) (class_flags_said (record { bits = all })) (below_is interface_test 2048 all interface_tests p.0)
    (and_from (native && interface) abstract (and_from native interface (eq-eqb _ _ p.1) (eq-eqb _ _ p.2)) (eq-eqb _ _ p.3))
