-- What the indexes of a draft name, in every pool that begins with the entries then.
use Rattle.std.proofs.Common.{◌≡◌, ℕ, zero, suc, ◌^◌, ◌<◌, List, [], ◌∷◌, ◌++◌, length, Option, Some, Result, Ok, refl, ap, subst, ◌∙◌, arith}
use Rattle.std.specs.Prelude.{slice_index}
use Rattle.jm_bytes.specs.Laws.{and_then_ok, same_Ok, fault_as_ok}
use Rattle.jm_bytes.specs.Reading.{and_then, fault_as}
use Rattle.jm_bytes.specs.Format.{Format, ◌>>=◌, outcome, given, u2}
use Rattle.jm_program.specs.declared.constant.Constant.{Constant}
use Rattle.jm_program.specs.declared.constant.Constant.TheVariants as constant
use Rattle.jm_class_format.specs.declared.constant_pool.Entry.{Entry}
use Rattle.jm_class_format.specs.declared.constant_pool.Entry.TheVariants as entry
use Rattle.jm_class_format.specs.declared.read_fault.ReadFault.{ReadFault}
use Rattle.jm_class_format.specs.PoolLookups.{entry_at, text_at, class_at}
use Rattle.jm_pool.specs.declared.constant.Constant.{Constant as PoolConstant}
use Rattle.jm_pool.specs.declared.constant.Constant.TheVariants as pool
use Rattle.jm_pool.specs.Building.{entry_for, interned, Begins, Stands, Sound}
use Rattle.jm_pool.proofs.BuildingLaws.{interned_names, interned_begins, begins_keeps, interned_sound, named_index}
use Rattle.jm_class_writer.specs.declared.fault.WriteFault.{WriteFault}
use Rattle.jm_class_writer.specs.Drafts.{DraftParts, put_u2}
use Rattle.jm_class_writer.specs.Faults.{of_builder}
use Rattle.jm_class_writer.specs.PoolUse.{entry_index, text_index, class_index, string_index, constant_index, name_and_type_index}
use Rattle.jm_class_writer.specs.Ranges.{UnitsInRange, ConstantInRange}
use Rattle.jm_class_writer.proofs.Growth.{Grows, grows_on, begins_on, begins_same, step_ok, Writes, writes_then, writes_outcome, writes_given, writes_u2}

-- ---- an index, and what it names

pub record Indexed (Names : List Entry → ℕ → Type 0) (a : DraftParts) (x : ℕ × DraftParts) : Type 0 where
  pub same : x.1.written ≡ a.written
  pub grows : Grows a x.1
  pub names : (final : List Entry) → Begins x.1.entries final → Names final x.0
  pub small : Sound a.entries → x.0 < 2 ^ 16

pub entry_indexed : (c : PoolConstant) (a : DraftParts) (x : ℕ × DraftParts) → Stands a.entries c → entry_index c a ≡ Ok x → Indexed (λ final i. entry_at final i ≡ Some (entry_for c)) a x
unfolding entry_index
entry_indexed c a x stands h =
    let made : ℕ × List Entry → ℕ × DraftParts = λ y. (y.0, record { entries = y.1; written = a.written }) in
    let p = and_then_ok (fault_as of_builder (interned a.entries c)) (λ y. Ok (made y)) x h in
    let q : interned a.entries c ≡ Ok (p.0.0, p.0.1) = fault_as_ok of_builder (interned a.entries c) p.0 p.1 in
    subst (λ (y : ℕ × DraftParts). Indexed (λ final i. entry_at final i ≡ Some (entry_for c)) a y) (same_Ok {F = WriteFault} (made p.0) x p.2)
    (record {
      same = refl;
      grows = record { begins = interned_begins a.entries c p.0.0 p.0.1 q; sound = λ s. interned_sound a.entries c p.0.0 p.0.1 s stands q };
      names = λ final b. begins_keeps p.0.1 final b p.0.0 (entry_for c) (interned_names a.entries c p.0.0 p.0.1 q);
      small = λ s. (named_index p.0.1 (interned_sound a.entries c p.0.0 p.0.1 s stands q) p.0.0 (entry_for c) (interned_names a.entries c p.0.0 p.0.1 q)).1;
    })

-- what follows an index
pub writes_after : {A : Type 0} (Names : List Entry → ℕ → Type 0) (f : List Entry → Format ReadFault A) (v : A) (a : DraftParts) (x : ℕ × DraftParts) (b : DraftParts) → Indexed Names a x → Writes f v x.1 b → Writes f v a b
writes_after Names f v a x b i w = record {
  text = w.text;
  bytes = w.bytes ∙ ap (λ (t : List ℕ). t ++ w.text) i.same;
  grows = grows_on a x.1 b i.grows w.grows;
  spells = w.spells;
}

-- an index that is put, and what it names
pub writes_index : {A : Type 0} (Names : List Entry → ℕ → Type 0) (e : ReadFault) (r : List Entry → ℕ → Result A ReadFault) (v : A) (a : DraftParts) (x : ℕ × DraftParts) (z : Unit {0} × DraftParts)
    → Indexed Names a x → put_u2 x.0 x.1 ≡ Ok z → ((final : List Entry) (i : ℕ) → Names final i → r final i ≡ Ok v) → Writes (λ es. u2 e >>= (λ i. outcome (r es i))) v a z.1
writes_index Names e r v a x z i h named =
    let put : Writes (λ es. u2 e) x.0 a z.1 = writes_after Names (λ es. u2 e) x.0 a x z.1 i (writes_u2 e x.0 x.1 z h) in
    let begins : Begins x.1.entries z.1.entries = (writes_u2 e x.0 x.1 z h).grows.begins in
    writes_then (λ es. u2 e) (λ es j. outcome (r es j)) x.0 v a z.1 z.1 put
    (writes_outcome (λ es. r es x.0) v z.1 (λ final b. named final x.0 (i.names final (begins_on x.1.entries z.1.entries final begins b))))

-- the same where there is only none for a fault
pub writes_lookup : {A : Type 0} (Names : List Entry → ℕ → Type 0) (e : ReadFault) (d : ℕ → ReadFault) (o : List Entry → ℕ → Option A) (v : A) (a : DraftParts) (x : ℕ × DraftParts) (z : Unit {0} × DraftParts)
    → Indexed Names a x → put_u2 x.0 x.1 ≡ Ok z → ((final : List Entry) (i : ℕ) → Names final i → o final i ≡ Some v) → Writes (λ es. u2 e >>= (λ i. given (d i) (o es i))) v a z.1
writes_lookup Names e d o v a x z i h named =
    let put : Writes (λ es. u2 e) x.0 a z.1 = writes_after Names (λ es. u2 e) x.0 a x z.1 i (writes_u2 e x.0 x.1 z h) in
    let begins : Begins x.1.entries z.1.entries = (writes_u2 e x.0 x.1 z h).grows.begins in
    writes_then (λ es. u2 e) (λ es j. given (d j) (o es j)) x.0 v a z.1 z.1 put
    (writes_given (d x.0) (λ es. o es x.0) v z.1 (λ final b. named final x.0 (i.names final (begins_on x.1.entries z.1.entries final begins b))))

-- ---- texts

abbrev pub IsText : List ℕ → List Entry → ℕ → Type 0
IsText units final i = entry_at final i ≡ Some (entry.Utf8 units)

-- past the end stands a zero
units_small : (units : List ℕ) → UnitsInRange units → (i : ℕ) → slice_index units i < 2 ^ 16
units_small [] r i = omega arith
units_small (u ∷ units) r zero = let first : u < 2 ^ 16 = r 0 0 (omega arith) in first
units_small (u ∷ units) r (suc i) = units_small units (λ k d lt. let later : suc k < length (u ∷ units) = omega arith in r (suc k) d later) i

pub text_indexed : (units : List ℕ) (a : DraftParts) (x : ℕ × DraftParts) → UnitsInRange units → text_index units a ≡ Ok x → Indexed (IsText units) a x
unfolding entry_for
text_indexed units a x r h = entry_indexed (pool.Utf8 units) a x (units_small units r) h

pub text_named : (units : List ℕ) (final : List Entry) (i : ℕ) → IsText units final i → text_at final i ≡ Some units
unfolding text_at
text_named units final i h = rw h refl

-- ---- classes

abbrev pub IsClass : List ℕ → List Entry → ℕ → Type 0
IsClass name final i = (j : ℕ) × (entry_at final i ≡ Some (entry.Class j)) × IsText name final j

pub class_indexed : (name : List ℕ) (a : DraftParts) (x : ℕ × DraftParts) → UnitsInRange name → class_index name a ≡ Ok x → Indexed (IsClass name) a x
unfolding class_index entry_for
class_indexed name a x r h =
    let p = step_ok (text_index name) (λ j. entry_index (pool.Class j)) a x h in
    let t = text_indexed name a p.0 r p.1 in
    let e = entry_indexed (pool.Class p.0.0) p.0.1 x (name, t.names p.0.1.entries (begins_same p.0.1.entries)) p.2 in
    record {
      same = e.same ∙ t.same;
      grows = grows_on a p.0.1 x.1 t.grows e.grows;
      names = λ final b. (p.0.0, e.names final b, t.names final (begins_on p.0.1.entries x.1.entries final e.grows.begins b));
      small = λ s. e.small (t.grows.sound s);
    }

pub class_named : (name : List ℕ) (final : List Entry) (i : ℕ) → IsClass name final i → class_at final i ≡ Some name
unfolding class_at text_at
class_named name final i h = rw h.1 (rw h.2 refl)

-- ---- constants

abbrev pub IsString : List ℕ → List Entry → ℕ → Type 0
IsString units final i = (j : ℕ) × (entry_at final i ≡ Some (entry.String j)) × IsText units final j

abbrev pub IsConstant : Constant → List Entry → ℕ → Type 0
IsConstant (constant.Int n) final i = entry_at final i ≡ Some (entry.Integer n)
IsConstant (constant.Long n) final i = entry_at final i ≡ Some (entry.Long n)
IsConstant (constant.String units) final i = IsString units final i

string_indexed : (units : List ℕ) (a : DraftParts) (x : ℕ × DraftParts) → UnitsInRange units → string_index units a ≡ Ok x → Indexed (IsString units) a x
unfolding string_index entry_for
string_indexed units a x r h =
    let p = step_ok (text_index units) (λ j. entry_index (pool.String j)) a x h in
    let t = text_indexed units a p.0 r p.1 in
    let e = entry_indexed (pool.String p.0.0) p.0.1 x (units, t.names p.0.1.entries (begins_same p.0.1.entries)) p.2 in
    record {
      same = e.same ∙ t.same;
      grows = grows_on a p.0.1 x.1 t.grows e.grows;
      names = λ final b. (p.0.0, e.names final b, t.names final (begins_on p.0.1.entries x.1.entries final e.grows.begins b));
      small = λ s. e.small (t.grows.sound s);
    }

pub constant_indexed : (c : Constant) (a : DraftParts) (x : ℕ × DraftParts) → ConstantInRange c → constant_index c a ≡ Ok x → Indexed (IsConstant c) a x
unfolding constant_index entry_for
constant_indexed (constant.Int n) a x r h = entry_indexed (pool.Integer n) a x r h
constant_indexed (constant.Long n) a x r h = entry_indexed (pool.Long n) a x r h
constant_indexed (constant.String units) a x r h = string_indexed units a x r h

-- ---- members

abbrev pub IsPair : List ℕ → List ℕ → List Entry → ℕ → Type 0
IsPair name descriptor final i = (j : ℕ × ℕ) × (entry_at final i ≡ Some (entry.NameAndType j.0 j.1)) × IsText name final j.0 × IsText descriptor final j.1

pub pair_indexed : (name descriptor : List ℕ) (a : DraftParts) (x : ℕ × DraftParts) → UnitsInRange name → UnitsInRange descriptor → name_and_type_index name descriptor a ≡ Ok x → Indexed (IsPair name descriptor) a x
unfolding name_and_type_index entry_for
pair_indexed name descriptor a x r s h =
    let p = step_ok (text_index name) (λ i draft. and_then (text_index descriptor draft) (λ y. entry_index (pool.NameAndType i y.0) y.1)) a x h in
    let q = step_ok (text_index descriptor) (λ j. entry_index (pool.NameAndType p.0.0 j)) p.0.1 x p.2 in
    let t = text_indexed name a p.0 r p.1 in
    let u = text_indexed descriptor p.0.1 q.0 s q.1 in
    let first = t.names q.0.1.entries u.grows.begins in
    let second = u.names q.0.1.entries (begins_same q.0.1.entries) in
    let e = entry_indexed (pool.NameAndType p.0.0 q.0.0) q.0.1 x ((name, first), (descriptor, second)) q.2 in
    let later : (final : List Entry) → Begins x.1.entries final → Begins q.0.1.entries final = λ final b. begins_on q.0.1.entries x.1.entries final e.grows.begins b in
    record {
      same = e.same ∙ u.same ∙ t.same;
      grows = grows_on a p.0.1 x.1 t.grows (grows_on p.0.1 q.0.1 x.1 u.grows e.grows);
      names = λ final b. ((p.0.0, q.0.0), e.names final b, t.names final (begins_on p.0.1.entries q.0.1.entries final u.grows.begins (later final b)), u.names final (later final b));
      small = λ s. e.small (u.grows.sound (t.grows.sound s));
    }
