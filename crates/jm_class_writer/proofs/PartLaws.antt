-- The parts that several structures have: names, lists with their count, and what stands behind its length.
use Rattle.std.proofs.Common.{◌≡◌, ℕ, suc, ◌<◌, ltb, List, [], ◌∷◌, ◌++◌, length, Result, Ok, refl, sym, subst, append_assoc, arith}
use Rattle.std.specs.Int.{w32, to_be_bytes}
use Rattle.std.specs.List.{All}
use Rattle.std.proofs.lemmas.Bool.{ltb-true}
use Rattle.jm_bytes.specs.Laws.{and_then_ok, same_Ok}
use Rattle.jm_bytes.specs.Reading.{and_then}
use Rattle.jm_bytes.specs.Format.{Format, ◌>>=◌, done, outcome, u2, u4, many, within, all_of}
use Rattle.jm_bytes.proofs.Spelled.{u4_text, then_text}
use Rattle.jm_class_format.specs.declared.constant_pool.Entry.{Entry}
use Rattle.jm_class_format.specs.declared.read_fault.ReadFault.{ReadFault}
use Rattle.jm_class_format.specs.declared.read_fault.ReadFault.TheVariants as read
use Rattle.jm_class_format.specs.FileFaults.{bad_index}
use Rattle.jm_class_format.specs.PoolLookups.{text_at}
use Rattle.jm_class_format.specs.CodeAttribute.{attribute_name, whole_info}
use Rattle.jm_class_format.specs.Members.{text}
use Rattle.jm_pool.specs.Building.{Sound}
use Rattle.jm_class_writer.specs.declared.fault.WriteFault.{WriteFault}
use Rattle.jm_class_writer.specs.declared.fault.WriteFault.TheVariants as fault
use Rattle.jm_class_writer.specs.Drafts as drafts
use Rattle.jm_class_writer.specs.Drafts.{DraftParts, Drafting, put_u2, opened, closed, with_length}
use Rattle.jm_class_writer.specs.PoolUse.{text_index}
use Rattle.jm_class_writer.specs.CodeParts.{put_name}
use Rattle.jm_class_writer.specs.Ranges.{UnitsInRange}
use Rattle.jm_class_writer.proofs.Growth.{step_ok, only_put, Writes, writes_then, writes_done, writes_outcome, writes_last, writes_u2}
use Rattle.jm_class_writer.proofs.PoolLaws.{IsText, text_indexed, text_named, writes_lookup}

-- ---- names

pub name_writes : (cut : ReadFault) (units : List ℕ) (a : DraftParts) (z : Unit {0} × DraftParts) → UnitsInRange units → put_name units a ≡ Ok z → Writes (attribute_name cut) units a z.1
unfolding put_name attribute_name
name_writes cut units a z r h =
    let p = step_ok (text_index units) put_u2 a z h in
    writes_lookup (IsText units) cut bad_index text_at units a p.0 z (text_indexed units a p.0 r p.1) p.2 (text_named units)

pub text_writes : (units : List ℕ) (a : DraftParts) (z : Unit {0} × DraftParts) → UnitsInRange units → put_name units a ≡ Ok z → Writes text units a z.1
unfolding text attribute_name
text_writes units a z r h = name_writes read.Cut units a z r h

-- a text, and what it is the text of
pub read_writes : {A : Type 0} (r : List ℕ → Result A ReadFault) (units : List ℕ) (v : A) (a : DraftParts) (z : Unit {0} × DraftParts) → UnitsInRange units → r units ≡ Ok v → put_name units a ≡ Ok z
    → Writes (λ es. text es >>= (λ units. outcome (r units))) v a z.1
read_writes r units v a z range h put =
    writes_then text (λ es units. outcome (r units)) units v a z.1 z.1 (text_writes units a z range put) (writes_outcome (λ es. r units) v z.1 (λ final b. h))

-- ---- lists

pub all_tail : {A : Type 0} (P : A → Type 0) (x : A) (xs : List A) → All P (x ∷ xs) → All P xs
all_tail P x xs h = λ k d lt. let later : suc k < length (x ∷ xs) = omega arith in h (suc k) d later

pub all_head : {A : Type 0} (P : A → Type 0) (x : A) (xs : List A) → All P (x ∷ xs) → P x
all_head P x xs h = let first : 0 < length (x ∷ xs) = omega arith in h 0 x first

pub list_writes : {A : Type 0} (f : A → Drafting (Unit {0})) (format : List Entry → Format ReadFault A) (P : A → Type 0) → ((x : A) (a : DraftParts) (z : Unit {0} × DraftParts) → P x → f x a ≡ Ok z → Writes format x a z.1)
    → (xs : List A) (a : DraftParts) (z : Unit {0} × DraftParts) → All P xs → drafts.all_of f xs a ≡ Ok z → Writes (λ es. many (length xs) (format es)) xs a z.1
unfolding drafts.all_of many
list_writes {A} f format P law [] a z r h =
    subst (λ (x : Unit {0} × DraftParts). Writes {A = List A} (λ es. done []) [] a x.1) (same_Ok {F = WriteFault} (tt, a) z h) (writes_done {A = List A} [] a)
list_writes {A} f format P law (x ∷ xs) a z r h =
    let p = step_ok (f x) (λ _. drafts.all_of f xs) a z h in
    let rest = list_writes f format P law xs p.0.1 z (all_tail P x xs r) p.2 in
    writes_then format (λ es y. many (length xs) (format es) >>= (λ ys. done (y ∷ ys))) x (x ∷ xs) a p.0.1 z.1 (law x a p.0 (all_head P x xs r) p.1)
    (writes_last (λ es. many (length xs) (format es)) (λ ys. x ∷ ys) xs p.0.1 z.1 rest)

-- a list behind its count
pub count_writes : {A : Type 0} (e : ReadFault) (f : A → Drafting (Unit {0})) (format : List Entry → Format ReadFault A) (P : A → Type 0) → ((x : A) (a : DraftParts) (z : Unit {0} × DraftParts) → P x → f x a ≡ Ok z → Writes format x a z.1)
    → (xs : List A) (a : DraftParts) (z : Unit {0} × DraftParts) → All P xs → and_then (put_u2 (length xs) a) (λ x. drafts.all_of f xs x.1) ≡ Ok z → Writes (λ es. u2 e >>= (λ count. many count (format es))) xs a z.1
count_writes e f format P law xs a z r h =
    let p = step_ok (put_u2 (length xs)) (λ _. drafts.all_of f xs) a z h in
    writes_then (λ es. u2 e) (λ es count. many count (format es)) (length xs) xs a p.0.1 z.1 (writes_u2 e (length xs) a p.0 p.1) (list_writes f format P law xs p.0.1 z r p.2)

-- the same where a step needs that the pool grew from nothing
list_writes_sound : {A : Type 0} (f : A → Drafting (Unit {0})) (format : List Entry → Format ReadFault A) (P : A → Type 0) → ((x : A) (a : DraftParts) (z : Unit {0} × DraftParts) → Sound a.entries → P x → f x a ≡ Ok z → Writes format x a z.1)
    → (xs : List A) (a : DraftParts) (z : Unit {0} × DraftParts) → Sound a.entries → All P xs → drafts.all_of f xs a ≡ Ok z → Writes (λ es. many (length xs) (format es)) xs a z.1
unfolding drafts.all_of many
list_writes_sound {A} f format P law [] a z s r h =
    subst (λ (x : Unit {0} × DraftParts). Writes {A = List A} (λ es. done []) [] a x.1) (same_Ok {F = WriteFault} (tt, a) z h) (writes_done {A = List A} [] a)
list_writes_sound {A} f format P law (x ∷ xs) a z s r h =
    let p = step_ok (f x) (λ _. drafts.all_of f xs) a z h in
    let first = law x a p.0 s (all_head P x xs r) p.1 in
    let rest = list_writes_sound f format P law xs p.0.1 z (first.grows.sound s) (all_tail P x xs r) p.2 in
    writes_then format (λ es y. many (length xs) (format es) >>= (λ ys. done (y ∷ ys))) x (x ∷ xs) a p.0.1 z.1 first
    (writes_last (λ es. many (length xs) (format es)) (λ ys. x ∷ ys) xs p.0.1 z.1 rest)

pub count_writes_sound : {A : Type 0} (e : ReadFault) (f : A → Drafting (Unit {0})) (format : List Entry → Format ReadFault A) (P : A → Type 0) → ((x : A) (a : DraftParts) (z : Unit {0} × DraftParts) → Sound a.entries → P x → f x a ≡ Ok z → Writes format x a z.1)
    → (xs : List A) (a : DraftParts) (z : Unit {0} × DraftParts) → Sound a.entries → All P xs → and_then (put_u2 (length xs) a) (λ x. drafts.all_of f xs x.1) ≡ Ok z → Writes (λ es. u2 e >>= (λ count. many count (format es))) xs a z.1
count_writes_sound e f format P law xs a z s r h =
    let p = step_ok (put_u2 (length xs)) (λ _. drafts.all_of f xs) a z h in
    let count = writes_u2 e (length xs) a p.0 p.1 in
    writes_then (λ es. u2 e) (λ es count. many count (format es)) (length xs) xs a p.0.1 z.1 count (list_writes_sound f format P law xs p.0.1 z (count.grows.sound s) r p.2)

-- ---- what stands behind its length

pub length_writes : {A : Type 0} (cut : ReadFault) (format : List Entry → Format ReadFault A) (v : A) (body : Drafting (Unit {0})) (a : DraftParts) (z : Unit {0} × DraftParts)
    → ((x : Unit {0} × DraftParts) → body (opened a) ≡ Ok x → Writes format v (opened a) x.1) → with_length body a ≡ Ok z → Writes (λ es. whole_info cut (format es)) v a z.1
unfolding with_length closed whole_info
length_writes {A} cut format v body a z law h =
    let p = and_then_ok (body (opened a)) (λ x. closed a.written x.1) z h in
    let inner : List ℕ = p.0.1.written in
    let size : List ℕ = to_be_bytes w32 (length inner) in
    let after : DraftParts = record { entries = p.0.1.entries; written = a.written ++ size ++ inner } in
    let g = only_put (ltb (length inner) 4294967296) after z p.2 in
    let w = law p.0 p.1 in
    let same : w.text ≡ inner = sym w.bytes in
    subst (λ (d : DraftParts). Writes (λ es. whole_info cut (format es)) v a d) g.1
    (record {
      text = size ++ inner;
      bytes = append_assoc a.written size inner;
      grows = record { begins = w.grows.begins; sound = w.grows.sound };
      spells = λ final b.
          then_text (u4 cut) (λ n. within cut n (all_of read.BadAttribute (format final))) size inner (length inner) v
          (u4_text (length inner) (omega (arith, ltb-true (length inner) 4294967296 g.0)))
          (refl, subst (λ (t : List ℕ). (format final).Spells t v) same (w.spells final b));
    })
