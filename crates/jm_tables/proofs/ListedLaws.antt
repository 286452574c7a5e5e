-- The list of static fields and their slots correspond.
use Rattle.std.proofs.Common.{◌≡◌, ℕ, zero, suc, ◌+◌, ◌-◌, ◌<◌, ◌≤◌, ◌⊎◌, inl, inr, List, [], ◌∷◌, ◌++◌, Option, Some, None, Bool, true, false, cond, length}
use Rattle.std.proofs.Common.{take}
use Rattle.std.proofs.Common.{refl, sym, ◌∙◌, ap, subst, arith, slice_get, length-append}
use Rattle.std.proofs.lemmas.Bool.{cases_lt}
use Rattle.std.specs.List.{filter}
use Rattle.jm_program.specs.Flags.{is_static}
use Rattle.jm_program.specs.declared.class.Field.{Field}
use Rattle.jm_tables.specs.declared.extent.DeclaredFields.{DeclaredFields}
use Rattle.jm_tables.specs.declared.layout.FieldNumber.{FieldNumber}
use Rattle.jm_tables.specs.declared.layout.FieldSlot.{FieldSlot}
use Rattle.jm_tables.specs.declared.layout.FieldSlot.TheVariants.{Instance, Static}
use Rattle.jm_tables.specs.Layouts.{slots_from, statics_among, statics_of}
use Rattle.jm_tables.proofs.SlotLaws.{statics_counted}

abbrev count : List Field → ℕ
count fs = length (filter (λ f. is_static f.flags) fs)

got_left : (xs ys : List FieldNumber) (n : ℕ) → n < length xs → slice_get (xs ++ ys) n ≡ slice_get xs n
got_left [] ys n h = absurd (omega (arith, h))
got_left (x ∷ xs) ys zero h = refl
got_left (x ∷ xs) ys (suc n) h = got_left xs ys n (omega (arith, h))

got_right : (xs ys : List FieldNumber) (n : ℕ) → slice_get (xs ++ ys) (length xs + n) ≡ slice_get ys n
got_right [] ys n = let same : 0 + n ≡ n = omega arith in ap (slice_get ys) same
got_right (x ∷ xs) ys n = let same : suc (length xs) + n ≡ suc (length xs + n) = omega arith in
    ap (slice_get (x ∷ (xs ++ ys))) same ∙ got_right xs ys n

-- a static field stands behind those before it
among_at : (class k : ℕ) (fs : List Field) (i : ℕ) (f : Field) → slice_get fs i ≡ Some f → is_static f.flags ≡ true
    → slice_get (statics_among class k fs) (count (take i fs)) ≡ Some (record { class = class; field = k + i })
among_at class k [] i f e t = cc
among_at class k (g ∷ fs) zero f e t =
    let same : g ≡ f = (let some : Some g ≡ Some f = e in cc) in
    let first : k ≡ k + 0 = omega arith in
    ap (λ b. slice_get (elim b as (λ _. List FieldNumber) [
      | true ↦ record { class = class; field = k } ∷ statics_among class (k + 1) fs
      | false ↦ statics_among class (k + 1) fs
    ]) 0) (ap (λ (x : Field). is_static x.flags) same ∙ t)
    ∙ ap (λ n. Some (record { class = class; field = n })) first
among_at class k (g ∷ fs) (suc i) f e t =
    by (is_static g.flags) (among_at class (k + 1) fs i f e t
    ∙ (let next : k + 1 + i ≡ k + suc i = omega arith in ap (λ n. Some (record { class = class; field = n })) next))
  where
    by : (b : Bool) → slice_get (statics_among class (k + 1) fs) (count (take i fs)) ≡ Some (record { class = class; field = k + suc i })
        → slice_get (elim b as (λ _. List FieldNumber) [
          | true ↦ record { class = class; field = k } ∷ statics_among class (k + 1) fs
          | false ↦ statics_among class (k + 1) fs
        ])
        (length (cond b (g ∷ filter (λ f. is_static f.flags) (take i fs)) (filter (λ f. is_static f.flags) (take i fs))))
        ≡ Some (record { class = class; field = k + suc i })
    by true h = h
    by false h = h

count_within : (fs : List Field) (i : ℕ) (f : Field) → slice_get fs i ≡ Some f → is_static f.flags ≡ true → count (take i fs) < count fs
count_within [] i f e t = cc
count_within (g ∷ fs) zero f e t =
    let same : g ≡ f = (let some : Some g ≡ Some f = e in cc) in
    by (is_static g.flags) (ap (λ (x : Field). is_static x.flags) same ∙ t)
  where
    by : (b : Bool) → b ≡ true → 0 < length (cond b (g ∷ filter (λ f. is_static f.flags) fs) (filter (λ f. is_static f.flags) fs))
    by true h = omega arith
    by false h = cc
count_within (g ∷ fs) (suc i) f e t = by (is_static g.flags) (count_within fs i f e t)
  where
    by : (b : Bool) → count (take i fs) < count fs
        → length (cond b (g ∷ filter (λ f. is_static f.flags) (take i fs)) (filter (λ f. is_static f.flags) (take i fs)))
        < length (cond b (g ∷ filter (λ f. is_static f.flags) fs) (filter (λ f. is_static f.flags) fs))
    by true h = omega (arith, h)
    by false h = h

pub listed_at : (b : ℕ) (ds : List DeclaredFields) (k : ℕ) (d : DeclaredFields) (i : ℕ) (f : Field) → slice_get ds k ≡ Some d
    → slice_get d.fields.now i ≡ Some f
    → is_static f.flags ≡ true
    → slice_get (statics_of b ds) (length (statics_of b (take k ds)) + count (take i d.fields.now)) ≡ Some (record { class = b + k; field = i })
listed_at b [] k d i f e at t = cc
listed_at b (x ∷ ds) zero d i f e at t =
    let same : x ≡ d = (let some : Some x ≡ Some d = e in cc) in
    let own : slice_get x.fields.now i ≡ Some f = ap (λ (y : DeclaredFields). slice_get y.fields.now i) same ∙ at in
    let start : 0 + count (take i d.fields.now) ≡ count (take i x.fields.now) =
    (let h = ap (λ (y : DeclaredFields). count (take i y.fields.now)) same in omega (arith, h)) in
    let first : b ≡ b + 0 = omega arith in
    ap (slice_get (statics_among b 0 x.fields.now ++ statics_of (b + 1) ds)) start
    ∙ got_left (statics_among b 0 x.fields.now) (statics_of (b + 1) ds) (count (take i x.fields.now))
    (omega (arith, statics_counted b 0 x.fields.now, count_within x.fields.now i f own t))
    ∙ among_at b 0 x.fields.now i f own t
    ∙ (let zero_is : 0 + i ≡ i = omega arith in ap (λ n. Some (record { class = b; field = n })) zero_is)
    ∙ ap (λ n. Some (record { class = n; field = i })) first
listed_at b (x ∷ ds) (suc k) d i f e at t =
    let behind : length (statics_among b 0 x.fields.now ++ statics_of (b + 1) (take k ds)) + count (take i d.fields.now)
    ≡ length (statics_among b 0 x.fields.now) + (length (statics_of (b + 1) (take k ds)) + count (take i d.fields.now)) =
    omega (arith, length-append (statics_among b 0 x.fields.now) (statics_of (b + 1) (take k ds))) in
    let next : b + 1 + k ≡ b + suc k = omega arith in
    ap (slice_get (statics_among b 0 x.fields.now ++ statics_of (b + 1) ds)) behind
    ∙ got_right (statics_among b 0 x.fields.now) (statics_of (b + 1) ds) (length (statics_of (b + 1) (take k ds)) + count (take i d.fields.now))
    ∙ listed_at (b + 1) ds k d i f e at t ∙ ap (λ n. Some (record { class = n; field = i })) next

-- the static field that stands under a number
pub record IsListed (b : ℕ) (ds : List DeclaredFields) (n : ℕ) (m : FieldNumber) : Type 0 where
  pub k : ℕ
  pub class_is : m.class ≡ b + k
  pub declared : DeclaredFields
  pub declared_is : slice_get ds k ≡ Some declared
  pub field : Field
  pub field_is : slice_get declared.fields.now m.field ≡ Some field
  pub static : is_static field.flags ≡ true
  pub number : n ≡ length (statics_of b (take k ds)) + count (take m.field declared.fields.now)

record IsAmong (class k : ℕ) (fs : List Field) (n : ℕ) (m : FieldNumber) : Type 0 where
  i : ℕ
  class_is : m.class ≡ class
  field_is : m.field ≡ k + i
  field : Field
  at : slice_get fs i ≡ Some field
  static : is_static field.flags ≡ true
  number : n ≡ count (take i fs)

among_found : (class k : ℕ) (fs : List Field) (n : ℕ) (m : FieldNumber) → slice_get (statics_among class k fs) n ≡ Some m → IsAmong class k fs n m
among_found class k [] n m e = cc
among_found class k (f ∷ fs) n m e = by (λ j h. among_found class (k + 1) fs j m h) n (is_static f.flags) refl e
  where
    further : (b : Bool) (n j : ℕ) → is_static f.flags ≡ b → n ≡ cond b 1 0 + j → IsAmong class (k + 1) fs j m → IsAmong class k (f ∷ fs) n m
    further b n j t at a = record {
      i = suc a.i;
      class_is = a.class_is;
      field_is = (let h = a.field_is in omega (arith, h));
      field = a.field;
      at = a.at;
      static = a.static;
      number = more b t at;
    }
      where
        more : (b : Bool) → is_static f.flags ≡ b → n ≡ cond b 1 0 + j → n ≡ count (f ∷ take a.i fs)
        more true t at = (let h = a.number in let sum : n ≡ suc (count (take a.i fs)) = omega (arith, at, h) in sum)
            ∙ sym (ap (λ u. length (cond u (f ∷ filter (λ f. is_static f.flags) (take a.i fs)) (filter (λ f. is_static f.flags) (take a.i fs)))) t)
        more false t at = (let h = a.number in let sum : n ≡ count (take a.i fs) = omega (arith, at, h) in sum)
            ∙ sym (ap (λ u. length (cond u (f ∷ filter (λ f. is_static f.flags) (take a.i fs)) (filter (λ f. is_static f.flags) (take a.i fs)))) t)

    by : ((j : ℕ) → slice_get (statics_among class (k + 1) fs) j ≡ Some m → IsAmong class (k + 1) fs j m) → (n : ℕ) → (b : Bool) → is_static f.flags ≡ b
        → slice_get (elim b as (λ _. List FieldNumber) [
          | true ↦ record { class = class; field = k } ∷ statics_among class (k + 1) fs
          | false ↦ statics_among class (k + 1) fs
        ]) n
        ≡ Some m → IsAmong class k (f ∷ fs) n m
    by later n false t h = further false n n t (omega arith) (later n h)
    by later (suc n) true t h = further true (suc n) n t (omega arith) (later n h)
    by later zero true t h =
        let same : ◌≡◌ {A = FieldNumber} (record { class = class; field = k }) m = (let some : ◌≡◌ {A = Option FieldNumber} (Some
        (record { class = class; field = k })) (Some m) = h in cc) in
        record {
          i = 0;
          class_is = sym (ap (λ (x : FieldNumber). x.class) same);
          field_is = (let h = sym (ap (λ (x : FieldNumber). x.field) same) in omega (arith, h));
          field = f;
          at = refl;
          static = t;
          number = refl;
        }

pub listed_found : (b : ℕ) (ds : List DeclaredFields) (n : ℕ) (m : FieldNumber) → slice_get (statics_of b ds) n ≡ Some m → IsListed b ds n m
listed_found b [] n m e = cc
listed_found b (x ∷ ds) n m e = by (cases_lt n (length (statics_among b 0 x.fields.now))) (λ j h. listed_found (b + 1) ds j m h)
  where
    by : (n < length (statics_among b 0 x.fields.now)) ⊎ (length (statics_among b 0 x.fields.now) ≤ n)
        → ((j : ℕ) → slice_get (statics_of (b + 1) ds) j ≡ Some m → IsListed (b + 1) ds j m) → IsListed b (x ∷ ds) n m
    by (inl less) later =
        let a = among_found b 0 x.fields.now n m (sym (got_left (statics_among b 0 x.fields.now) (statics_of (b + 1) ds) n less) ∙ e) in
        let at : a.i ≡ m.field = (let h = a.field_is in omega (arith, h)) in
        record {
          k = 0;
          class_is = (let h = a.class_is in omega (arith, h));
          declared = x;
          declared_is = refl;
          field = a.field;
          field_is = ap (slice_get x.fields.now) (sym at) ∙ a.at;
          static = a.static;
          number = a.number ∙ ap (λ i. count (take i x.fields.now)) at
              ∙ (let same : count (take m.field x.fields.now) ≡ 0 + count (take m.field x.fields.now) = omega arith in same);
        }
    by (inr more) later =
        let whole : n ≡ length (statics_among b 0 x.fields.now) + (n - length (statics_among b 0 x.fields.now)) = omega (arith, more) in
        let a = later (n - length (statics_among b 0 x.fields.now))
        (sym (ap (slice_get (statics_among b 0 x.fields.now ++ statics_of (b + 1) ds)) whole
        ∙ got_right (statics_among b 0 x.fields.now) (statics_of (b + 1) ds) (n - length (statics_among b 0 x.fields.now))) ∙ e) in
        record {
          k = suc a.k;
          class_is = (let h = a.class_is in omega (arith, h));
          declared = a.declared;
          declared_is = a.declared_is;
          field = a.field;
          field_is = a.field_is;
          static = a.static;
          number = (let h = a.number in omega (arith, whole, h, length-append (statics_among b 0 x.fields.now) (statics_of (b + 1) (take a.k ds))));
        }

pub slots_long : (place number : ℕ) (fs : List Field) → length (slots_from place number fs) ≡ length fs
slots_long place number [] = refl
slots_long place number (f ∷ fs) = by (is_static f.flags) (slots_long place (number + 1) fs) (slots_long (place + 1) number fs)
  where
    by : (b : Bool) → length (slots_from place (number + 1) fs) ≡ length fs → length (slots_from (place + 1) number fs) ≡ length fs
        → length (elim b as (λ _. List FieldSlot) [
          | true ↦ Static number ∷ slots_from place (number + 1) fs
          | false ↦ Instance place ∷ slots_from (place + 1) number fs
        ])
        ≡ suc (length fs)
    by true e h = ap suc e
    by false e h = ap suc h
