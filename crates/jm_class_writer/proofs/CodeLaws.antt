-- What is written of a code is spelled: what instructions name, the exception table, line numbers and the whole (JVMS 4.7.3, 4.7.12).
use Rattle.std.proofs.Common.{◌≡◌, ℕ, ◌+◌, ◌^◌, ◌<◌, true, ◌&&◌, eqb, leb, ltb, List, Some, None, Result, Ok, refl, ap, subst, ◌∙◌, arith}
use Rattle.std.specs.List.{list_all}
use Rattle.std.proofs.lemmas.Bool.Decides.{nat_tests}
use Rattle.jm_bytes.specs.Laws.{and_then_ok, same_Ok}
use Rattle.jm_bytes.specs.Reading.{and_then}
use Rattle.jm_program.specs.Names.{is_class_name, is_unqualified, is_invoked_name}
use Rattle.jm_program.specs.Descriptors.{field_text, method_text, argument_slots, is_method_type, is_kept_method_type}
use Rattle.jm_program.specs.References.{type_fits, class_ref_fits, field_ref_fits, method_ref_fits, receiver_slots}
use Rattle.jm_program.specs.Instructions.{instr_fits, plain_fits, has_high, keys_rise, type_op_fits, has_dimensions}
use Rattle.jm_program.specs.declared.constant.Constant.{Constant}
use Rattle.jm_program.specs.declared.constant.Constant.TheVariants as constant
use Rattle.jm_program.specs.declared.reference.ClassRef.{ClassRef}
use Rattle.jm_program.specs.declared.reference.FieldRef.{FieldRef}
use Rattle.jm_program.specs.declared.reference.MethodRef.{MethodRef}
use Rattle.jm_program.specs.declared.instruction.operation.InvokeOp.{InvokeOp}
use Rattle.jm_program.specs.declared.instruction.operation.InvokeOp.TheVariants as invoke
use Rattle.jm_program.specs.declared.instruction.operation.TypeOp.{TypeOp}
use Rattle.jm_program.specs.declared.instruction.operation.FieldOp.{FieldOp}
use Rattle.jm_program.specs.declared.instruction.plain.Plain.{Plain}
use Rattle.jm_program.specs.declared.instruction.plain.Plain.TheVariants as plain
use Rattle.jm_program.specs.declared.instruction.plain.SwitchPair.{SwitchPair}
use Rattle.jm_class_writer.proofs.Fitting.{slots_fit}
use Rattle.jm_program.specs.declared.instruction.operation.TypeOp.TheVariants as type
use Rattle.jm_program.specs.declared.instruction.symbolic.Instr.{Instr}
use Rattle.jm_program.specs.declared.instruction.symbolic.Instr.TheVariants as instr
use Rattle.jm_program.proofs.Truths.{both_true}
use Rattle.jm_class_format.specs.declared.constant_pool.Entry.{Entry}
use Rattle.jm_class_format.specs.declared.constant_pool.Entry.TheVariants as entry
use Rattle.jm_class_format.specs.declared.instruction.IndexedInstr.{IndexedInstr}
use Rattle.jm_class_format.specs.declared.instruction.IndexedInstr.TheVariants as indexed
use Rattle.jm_class_format.specs.PoolLookups.{entry_at, text_at, long_at, name_and_type_at, member_at, field_at, method_at, interface_method_at}
use Rattle.jm_class_format.specs.Symbols.{field_ref_of, method_ref_of}
use Rattle.jm_class_format.specs.NamedCode.{loaded, loaded_long, class_method, counted, interface_method, class_ref_at, type_operand, named}
use Rattle.jm_pool.specs.declared.constant.Constant.{Constant as PoolConstant}
use Rattle.jm_pool.specs.declared.constant.Constant.TheVariants as pool
use Rattle.jm_pool.specs.Building.{entry_for, Begins, Stands, Sound}
use Rattle.jm_encode.specs.Encoding.{has_bytes}
use Rattle.jm_encode.specs.Ranges as ranges
use Rattle.jm_class_writer.specs.declared.fault.WriteFault.{WriteFault}
use Rattle.jm_class_writer.specs.Drafts.{DraftParts, Drafting}
use Rattle.jm_class_writer.specs.PoolUse.{entry_index, class_index, constant_index, name_and_type_index, class_text, class_ref_index, field_ref_index, method_entry, method_ref_index}
use Rattle.jm_class_writer.specs.CodeParts.{load_of, invoke_of, instr_indexed}
use Rattle.jm_class_writer.specs.Ranges.{UnitsInRange, FieldRefInRange, MethodRefInRange, InstrInRange}
use Rattle.jm_class_writer.proofs.Growth.{step_ok, begins_on, begins_same, Grows, grows_on, grows_same}
use Rattle.jm_class_writer.proofs.PoolLaws.{Indexed, entry_indexed, IsClass, class_indexed, class_named, IsConstant, constant_indexed, IsPair, pair_indexed}
use Rattle.jm_class_writer.proofs.TextRanges.{type_in_range, method_type_in_range, class_text_in_range}
use Rattle.jm_class_writer.proofs.Symbols.{field_name_read, invoked_name_read, field_type_read, method_type_read, class_ref_read, class_of_type, operand_ref_read, few_dimensions}
use Rattle.jm_class_writer.proofs.ClassLaws.{class_name_named}

-- ---- members

-- a class, and a name with the text of a type
record IsMember (entry : ℕ → ℕ → Entry) (class name descriptor : List ℕ) (final : List Entry) (i : ℕ) : Type 0 where
  first : ℕ
  second : ℕ
  here : entry_at final i ≡ Some (entry first second)
  class_there : IsClass class final first
  pair_there : IsPair name descriptor final second

member_texts : (make : ℕ → ℕ → Entry) (class name descriptor : List ℕ) (final : List Entry) (i : ℕ) (h : IsMember make class name descriptor final i) → member_at final h.first h.second ≡ Some (class, name, descriptor)
unfolding member_at name_and_type_at text_at
member_texts make class name descriptor final i h =
    let pair = h.pair_there in
    rw (class_named class final h.first h.class_there) (rw pair.1 (rw pair.2 (rw pair.3 refl)))

-- the index of a member, from those of its parts
member_indexed : (constant : ℕ → ℕ → PoolConstant) (make : ℕ → ℕ → Entry) → ((i j : ℕ) → entry_for (constant i j) ≡ make i j)
    → ((entries : List Entry) (i j : ℕ) → (name : ℕ) × (entry_at entries i ≡ Some (entry.Class name)) → (n : ℕ × ℕ) × (entry_at entries j ≡ Some (entry.NameAndType n.0 n.1)) → Stands entries (constant i j))
    → (class name descriptor : List ℕ) (a : DraftParts) (p q x : ℕ × DraftParts) → UnitsInRange class → UnitsInRange name → UnitsInRange descriptor
    → class_index class a ≡ Ok p → name_and_type_index name descriptor p.1 ≡ Ok q → entry_index (constant p.0 q.0) q.1 ≡ Ok x → Indexed (IsMember make class name descriptor) a x
member_indexed constant make is stands class name descriptor a p q x r s t h1 h2 h3 =
    let c = class_indexed class a p r h1 in
    let n = pair_indexed name descriptor p.1 q s t h2 in
    let there = c.names q.1.entries n.grows.begins in
    let pair = n.names q.1.entries (begins_same q.1.entries) in
    let e = entry_indexed (constant p.0 q.0) q.1 x (stands q.1.entries p.0 q.0 (there.0, there.1) (pair.0, pair.1)) h3 in
    let later : (final : List Entry) → Begins x.1.entries final → Begins q.1.entries final = λ final b. begins_on q.1.entries x.1.entries final e.grows.begins b in
    record {
      same = e.same ∙ n.same ∙ c.same;
      grows = grows_on a p.1 x.1 c.grows (grows_on p.1 q.1 x.1 n.grows e.grows);
      names = λ final b. record {
        first = p.0;
        second = q.0;
        here = e.names final b ∙ ap (λ (y : Entry). Some y) (is p.0 q.0);
        class_there = c.names final (begins_on p.1.entries q.1.entries final n.grows.begins (later final b));
        pair_there = n.names final (later final b);
      };
      small = λ s. e.small (n.grows.sound (c.grows.sound s));
    }

field_indexed : (f : FieldRef) (a : DraftParts) (x : ℕ × DraftParts) → FieldRefInRange f → field_ref_index f a ≡ Ok x → Indexed (IsMember entry.Fieldref (class_text f.class) f.name (field_text f.descriptor)) a x
unfolding field_ref_index class_ref_index entry_for
field_indexed f a x r h =
    let p = step_ok (class_index (class_text f.class)) (λ i draft. and_then (name_and_type_index f.name (field_text f.descriptor) draft) (λ y. entry_index (pool.Fieldref i y.0) y.1)) a x h in
    let q = step_ok (name_and_type_index f.name (field_text f.descriptor)) (λ j. entry_index (pool.Fieldref p.0.0 j)) p.0.1 x p.2 in
    member_indexed pool.Fieldref entry.Fieldref (λ i j. refl) (λ entries i j c n. (c, n)) (class_text f.class) f.name (field_text f.descriptor) a p.0 q.0 x
    (class_text_in_range f.class r.0) r.1 (type_in_range f.descriptor r.2) p.1 q.1 q.2

field_named : (f : FieldRef) → field_ref_fits f ≡ true → field_ref_of (class_text f.class, f.name, field_text f.descriptor) ≡ Ok f
unfolding field_ref_of
field_named f h =
    let typed = both_true (class_ref_fits f.class && is_unqualified f.name) (type_fits f.descriptor) h in
    let named = both_true (class_ref_fits f.class) (is_unqualified f.name) typed.0 in
    rw (class_ref_read f.class named.0) (rw (field_name_read f.name named.1) (rw (field_type_read f.descriptor typed.1) refl))

-- the entry of a method
abbrev method_made : InvokeOp → ℕ → ℕ → Entry
method_made invoke.Interface i j = entry.InterfaceMethodref i j
method_made op i j = entry.Methodref i j

method_is : (op : InvokeOp) (i j : ℕ) → entry_for (method_entry op i j) ≡ method_made op i j
unfolding entry_for
method_is invoke.Interface i j = refl
method_is invoke.Virtual i j = refl
method_is invoke.Special i j = refl
method_is invoke.Static i j = refl

method_stands : (op : InvokeOp) (entries : List Entry) (i j : ℕ) → (name : ℕ) × (entry_at entries i ≡ Some (entry.Class name)) → (n : ℕ × ℕ) × (entry_at entries j ≡ Some (entry.NameAndType n.0 n.1)) → Stands entries (method_entry op i j)
method_stands invoke.Interface entries i j c n = (c, n)
method_stands invoke.Virtual entries i j c n = (c, n)
method_stands invoke.Special entries i j c n = (c, n)
method_stands invoke.Static entries i j c n = (c, n)

method_indexed : (op : InvokeOp) (m : MethodRef) (a : DraftParts) (x : ℕ × DraftParts) → MethodRefInRange m → method_ref_index op m a ≡ Ok x → Indexed (IsMember (method_made op) (class_text m.class) m.name (method_text m.descriptor)) a x
unfolding method_ref_index class_ref_index
method_indexed op m a x r h =
    let p = step_ok (class_index (class_text m.class)) (λ i draft. and_then (name_and_type_index m.name (method_text m.descriptor) draft) (λ y. entry_index (method_entry op i y.0) y.1)) a x h in
    let q = step_ok (name_and_type_index m.name (method_text m.descriptor)) (λ j. entry_index (method_entry op p.0.0 j)) p.0.1 x p.2 in
    member_indexed (method_entry op) (method_made op) (method_is op) (method_stands op) (class_text m.class) m.name (method_text m.descriptor) a p.0 q.0 x
    (class_text_in_range m.class r.0) r.1 (method_type_in_range m.descriptor r.2) p.1 q.1 q.2

method_named : (op : InvokeOp) (m : MethodRef) → method_ref_fits op m ≡ true → method_ref_of op (class_text m.class, m.name, method_text m.descriptor) ≡ Ok m
unfolding method_ref_of
method_named op m h =
    let few = both_true (class_ref_fits m.class && is_invoked_name m.name && is_method_type m.descriptor && is_kept_method_type m.descriptor) (leb (argument_slots m.descriptor + receiver_slots op) 255) h in
    let kept = both_true (class_ref_fits m.class && is_invoked_name m.name && is_method_type m.descriptor) (is_kept_method_type m.descriptor) few.0 in
    let typed = both_true (class_ref_fits m.class && is_invoked_name m.name) (is_method_type m.descriptor) kept.0 in
    let named = both_true (class_ref_fits m.class) (is_invoked_name m.name) typed.0 in
    rw (class_ref_read m.class named.0) (rw (invoked_name_read m.name named.1) (rw (method_type_read (receiver_slots op) m.descriptor typed.1 kept.1 few.1) refl))

field_texts : (f : FieldRef) (final : List Entry) (i : ℕ) → IsMember entry.Fieldref (class_text f.class) f.name (field_text f.descriptor) final i → field_at final i ≡ Some (class_text f.class, f.name, field_text f.descriptor)
unfolding field_at
field_texts f final i h = rw h.here (member_texts entry.Fieldref (class_text f.class) f.name (field_text f.descriptor) final i h)

-- ---- instructions

-- how an instruction with its index was made from one by name
pub record InstrIndexed (i : Instr) (a : DraftParts) (x : IndexedInstr × DraftParts) : Type 0 where
  pub same : x.1.written ≡ a.written
  pub grows : Grows a x.1
  pub names : (final : List Entry) → Begins x.1.entries final → named final x.0 ≡ Ok i
  pub range : Sound a.entries → ranges.InRange x.0
  pub ruled : has_bytes x.0 ≡ true

-- no entry is used
no_entry : (i : Instr) (j : IndexedInstr) (a : DraftParts) (x : IndexedInstr × DraftParts) → ((final : List Entry) → named final j ≡ Ok i) → ranges.InRange j → has_bytes j ≡ true → ◌≡◌ {A = Result (IndexedInstr × DraftParts) WriteFault} (Ok (j, a)) (Ok x) → InstrIndexed i a x
no_entry i j a x is range rule h =
    subst (λ (y : IndexedInstr × DraftParts). InstrIndexed i a y) (same_Ok {F = WriteFault} (j, a) x h)
    (record { same = refl; grows = grows_same a a refl; names = λ final b. is final; range = λ s. range; ruled = rule })

-- one entry is
one_entry : (Names : List Entry → ℕ → Type 0) (i : Instr) (make : ℕ → IndexedInstr) (index : Drafting ℕ) (a : DraftParts) (x : IndexedInstr × DraftParts)
    → ((p : ℕ × DraftParts) → index a ≡ Ok p → Indexed Names a p) → ((final : List Entry) (n : ℕ) → Names final n → named final (make n) ≡ Ok i) → ((n : ℕ) → n < 2 ^ 16 → ranges.InRange (make n)) → ((n : ℕ) → has_bytes (make n) ≡ true)
    → and_then (index a) (λ p. Ok (make p.0, p.1)) ≡ Ok x → InstrIndexed i a x
one_entry Names i make index a x law is range rule h =
    let p = and_then_ok (index a) (λ p. Ok (make p.0, p.1)) x h in
    let e = law p.0 p.1 in
    subst (λ (y : IndexedInstr × DraftParts). InstrIndexed i a y) (same_Ok {F = WriteFault} (make p.0.0, p.0.1) x p.2)
    (record { same = e.same; grows = e.grows; names = λ final b. is final p.0.0 (e.names final b); range = λ s. range p.0.0 (e.small s); ruled = rule p.0.0 })

constant_loaded : (c : Constant) (final : List Entry) (n : ℕ) → IsConstant c final n → named final (load_of c n) ≡ Ok (instr.Constant c)
unfolding named loaded loaded_long text_at long_at
constant_loaded (constant.Int z) final n h = rw h refl
constant_loaded (constant.Long z) final n h = rw h refl
constant_loaded (constant.String units) final n h = rw h.1 (rw h.2 refl)

field_loaded : (op : FieldOp) (f : FieldRef) → field_ref_fits f ≡ true → (final : List Entry) (n : ℕ) → IsMember entry.Fieldref (class_text f.class) f.name (field_text f.descriptor) final n → named final (indexed.Field op n) ≡ Ok (instr.Field op f)
unfolding named
field_loaded op f fits final n h = rw (field_texts f final n h) (rw (field_named f fits) refl)

class_method_loaded : (op : InvokeOp) (m : MethodRef) → method_ref_fits op m ≡ true → (final : List Entry) (n : ℕ) → IsMember entry.Methodref (class_text m.class) m.name (method_text m.descriptor) final n → class_method final op n ≡ Ok m
unfolding class_method interface_method_at method_at
class_method_loaded invoke.Virtual m fits final n h = rw h.here (rw (member_texts entry.Methodref (class_text m.class) m.name (method_text m.descriptor) final n h) (method_named invoke.Virtual m fits))
class_method_loaded invoke.Special m fits final n h = rw h.here (rw (member_texts entry.Methodref (class_text m.class) m.name (method_text m.descriptor) final n h) (method_named invoke.Special m fits))
class_method_loaded invoke.Static m fits final n h = rw h.here (rw (member_texts entry.Methodref (class_text m.class) m.name (method_text m.descriptor) final n h) (method_named invoke.Static m fits))
class_method_loaded invoke.Interface m fits final n h = rw h.here (rw (member_texts entry.Methodref (class_text m.class) m.name (method_text m.descriptor) final n h) (method_named invoke.Interface m fits))

eqb_same : (n : ℕ) → eqb n n ≡ true
eqb_same n = grind (arith, nat_tests)

interface_loaded : (m : MethodRef) → method_ref_fits invoke.Interface m ≡ true → (final : List Entry) (n : ℕ) → IsMember entry.InterfaceMethodref (class_text m.class) m.name (method_text m.descriptor) final n
    → interface_method final n (argument_slots m.descriptor + 1) 0 ≡ Ok m
unfolding interface_method interface_method_at counted
interface_loaded m fits final n h =
    rw h.here (rw (member_texts entry.InterfaceMethodref (class_text m.class) m.name (method_text m.descriptor) final n h) (rw (method_named invoke.Interface m fits) (rw (eqb_same (argument_slots m.descriptor + 1)) refl)))

invoke_loaded : (op : InvokeOp) (m : MethodRef) → method_ref_fits op m ≡ true → (final : List Entry) (n : ℕ) → IsMember (method_made op) (class_text m.class) m.name (method_text m.descriptor) final n → named final (invoke_of op m n) ≡ Ok (instr.Invoke op m)
unfolding named
invoke_loaded invoke.Virtual m fits final n h = rw (class_method_loaded invoke.Virtual m fits final n (record { first = h.first; second = h.second; here = h.here; class_there = h.class_there; pair_there = h.pair_there })) refl
invoke_loaded invoke.Special m fits final n h = rw (class_method_loaded invoke.Special m fits final n (record { first = h.first; second = h.second; here = h.here; class_there = h.class_there; pair_there = h.pair_there })) refl
invoke_loaded invoke.Static m fits final n h = rw (class_method_loaded invoke.Static m fits final n (record { first = h.first; second = h.second; here = h.here; class_there = h.class_there; pair_there = h.pair_there })) refl
invoke_loaded invoke.Interface m fits final n h = rw (interface_loaded m fits final n (record { first = h.first; second = h.second; here = h.here; class_there = h.class_there; pair_there = h.pair_there })) refl

new_loaded : (name : List ℕ) → is_class_name name ≡ true → (final : List Entry) (n : ℕ) → IsClass name final n → named final (indexed.New n) ≡ Ok (instr.New name)
unfolding named
new_loaded name fits final n h = rw (class_name_named name fits final n h) refl

type_loaded : (op : TypeOp) (c : ClassRef) → type_op_fits op c ≡ true → (final : List Entry) (n : ℕ) → IsClass (class_text c) final n → named final (indexed.Type op n) ≡ Ok (instr.Type op c)
unfolding named type_operand class_ref_at
type_loaded op c fits final n h = rw (class_named (class_text c) final n h) (rw (class_ref_read c (class_of_type op c fits)) (rw (operand_ref_read op c fits) refl))

plain_named : (p : Plain) (final : List Entry) → named final (indexed.Plain p) ≡ Ok (instr.Plain p)
unfolding named
plain_named p final = refl

plain_ruled : (count : ℕ) (p : Plain) → plain_fits count p ≡ true → has_bytes (indexed.Plain p) ≡ true
unfolding has_bytes
plain_ruled count (plain.TableSwitch t) h =
    let targets = both_true (has_high t && list_all (λ target. ltb target count) t.targets) (ltb t.default count) h in
    (both_true (has_high t) (list_all (λ target. ltb target count) t.targets) targets.0).0
plain_ruled count (plain.LookupSwitch l) h =
    let targets = both_true (keys_rise None l.pairs && list_all (λ (pair : SwitchPair). ltb pair.target count) l.pairs) (ltb l.default count) h in
    (both_true (keys_rise None l.pairs) (list_all (λ (pair : SwitchPair). ltb pair.target count) l.pairs) targets.0).0
plain_ruled count (plain.Simple s) h = refl
plain_ruled count (plain.PushByte n) h = refl
plain_ruled count (plain.PushShort n) h = refl
plain_ruled count (plain.Load kind local) h = refl
plain_ruled count (plain.Store kind local) h = refl
plain_ruled count (plain.Increment local n) h = refl
plain_ruled count (plain.Branch branch target) h = refl

load_range : (c : Constant) (n : ℕ) → n < 2 ^ 16 → ranges.InRange (load_of c n)
load_range (constant.Int z) n lt = lt
load_range (constant.Long z) n lt = lt
load_range (constant.String units) n lt = lt

load_ruled : (c : Constant) (n : ℕ) → has_bytes (load_of c n) ≡ true
unfolding has_bytes
load_ruled (constant.Int z) n = refl
load_ruled (constant.Long z) n = refl
load_ruled (constant.String units) n = refl

invoke_range : (op : InvokeOp) (m : MethodRef) → method_ref_fits op m ≡ true → (n : ℕ) → n < 2 ^ 16 → ranges.InRange (invoke_of op m n)
invoke_range invoke.Virtual m fits n lt = lt
invoke_range invoke.Special m fits n lt = lt
invoke_range invoke.Static m fits n lt = lt
invoke_range invoke.Interface m fits n lt = let few : argument_slots m.descriptor < 255 = slots_fit m fits in (lt, omega (arith, few), omega arith)

type_range : (op : TypeOp) (c : ClassRef) → type_op_fits op c ≡ true → (n : ℕ) → n < 2 ^ 16 → ranges.InRange (indexed.Type op n)
type_range type.NewArray c fits n lt = lt
type_range (type.NewArrays d) c fits n lt = let parts = both_true (class_ref_fits c) (has_dimensions c d) fits in (lt, few_dimensions c d parts.0 parts.1)
type_range type.CheckCast c fits n lt = lt
type_range type.InstanceOf c fits n lt = lt

invoke_ruled : (op : InvokeOp) (m : MethodRef) (n : ℕ) → has_bytes (invoke_of op m n) ≡ true
unfolding has_bytes
invoke_ruled invoke.Virtual m n = refl
invoke_ruled invoke.Special m n = refl
invoke_ruled invoke.Static m n = refl
invoke_ruled invoke.Interface m n = refl

pub instr_law : (count : ℕ) (i : Instr) (a : DraftParts) (x : IndexedInstr × DraftParts) → InstrInRange i → instr_fits count i ≡ true → instr_indexed i a ≡ Ok x → InstrIndexed i a x
unfolding instr_indexed class_ref_index named has_bytes
instr_law count (instr.Plain p) a x r fits h = no_entry (instr.Plain p) (indexed.Plain p) a x (λ final. refl) r (plain_ruled count p fits) h
instr_law count (instr.Array op) a x r fits h = no_entry (instr.Array op) (indexed.Array op) a x (λ final. refl) tt refl h
instr_law count (instr.Return op) a x r fits h = no_entry (instr.Return op) (indexed.Return op) a x (λ final. refl) tt refl h
instr_law count instr.Throw a x r fits h = no_entry instr.Throw indexed.Throw a x (λ final. refl) tt refl h
instr_law count (instr.Monitor op) a x r fits h = no_entry (instr.Monitor op) (indexed.Monitor op) a x (λ final. refl) tt refl h
instr_law count (instr.Constant c) a x r fits h = one_entry (IsConstant c) (instr.Constant c) (load_of c) (constant_index c) a x (λ p k. constant_indexed c a p r k) (constant_loaded c) (load_range c) (load_ruled c) h
instr_law count (instr.Field op f) a x r fits h =
    one_entry (IsMember entry.Fieldref (class_text f.class) f.name (field_text f.descriptor)) (instr.Field op f) (indexed.Field op) (field_ref_index f) a x (λ p k. field_indexed f a p r k) (field_loaded op f fits) (λ n lt. lt) (λ n. refl) h
instr_law count (instr.Invoke op m) a x r fits h =
    one_entry (IsMember (method_made op) (class_text m.class) m.name (method_text m.descriptor)) (instr.Invoke op m) (invoke_of op m) (method_ref_index op m) a x (λ p k. method_indexed op m a p r k) (invoke_loaded op m fits) (invoke_range op m fits) (invoke_ruled op m) h
instr_law count (instr.New name) a x r fits h = one_entry (IsClass name) (instr.New name) indexed.New (class_index name) a x (λ p k. class_indexed name a p r k) (new_loaded name fits) (λ n lt. lt) (λ n. refl) h
instr_law count (instr.Type op c) a x r fits h =
    one_entry (IsClass (class_text c)) (instr.Type op c) (indexed.Type op) (class_index (class_text c)) a x (λ p k. class_indexed (class_text c) a p (class_text_in_range c r) k) (type_loaded op c fits) (type_range op c fits) (λ n. refl) h
