-- The text of a String, in the heap and in every world.
use Rattle.std.proofs.Common.{◌≡◌, ℕ, zero, suc, ◌≤◌, ◌%◌, ◌^◌, List, [], ◌∷◌, ◌++◌, Option, Some, None, Bool, true, false, refl, sym, ap, ◌∙◌, subst}
use Rattle.std.proofs.Common.{◌⊎◌, inl, inr, length, take, append_assoc, arith}
use Rattle.std.specs.Prelude.{slice_get, unwrap_or, option_map, nat_eq, ℤ}
use Rattle.std.proofs.Math.Seq.{take-append_seam}
use Rattle.std.proofs.lemmas.Bool.{eqb-true}
use Rattle.std.specs.Int.{w32, cast_unsigned}
use Rattle.jm_program.specs.Names.{same_text}
use Rattle.jm_program.specs.declared.class.ClassParts.{ClassParts}
use Rattle.jm_builtins.specs.Numbers.{number_of}
use Rattle.jm_builtins.specs.declared.built_in_class.BuiltInClass.TheVariants.{String}
use Rattle.jm_values.specs.Content.{Content, HasValue, AllResident, name_of, serial_at, object_at}
use Rattle.jm_values.specs.Objects.{ObjectOf, refs_of}
use Rattle.jm_values.specs.Reach.{Reach, field}
use Rattle.jm_values.specs.Rename.{rename, stack_shape}
use Rattle.jm_values.specs.Shape.{Among}
use Rattle.jm_values.specs.declared.fault.TagFault.TheVariants.{WrongKind}
use Rattle.jm_values.specs.declared.value.Value.{Value}
use Rattle.jm_values.specs.declared.value.Value.TheVariants.{Int, Long, Null, Ref}
use Rattle.jm_values.proofs.SoundContents.{object_of_place, name_is}
use Rattle.jm_world.specs.BuiltInMethods.{chars_in, chars_of_type, with_chars}
use Rattle.jm_world.specs.Classes.{string_class}
use Rattle.jm_world.specs.Here.{Here}
use Rattle.jm_world.specs.Loads.{Loads}
use Rattle.jm_world.specs.Matches.{Matches, places, as_named}
use Rattle.jm_world.specs.Next.{Next, faults, stops}
use Rattle.jm_world.specs.Objects.{Object}
use Rattle.jm_world.specs.Text.{utf8_text, utf8_after, units_of}
use Rattle.jm_world.specs.World.{World, roots}
use Rattle.jm_world.specs.declared.stop.Stop.{Stop}
use Rattle.jm_heap.specs.declared.class_id.ClassId.{ClassId}
use Rattle.jm_heap.specs.declared.class_id.ClassId.TheVariants.{Instance, Array}
use Rattle.jm_linked.specs.Links.{class_name_of, class_names}
use Rattle.jm_linked.proofs.HeldTypes.{same_as}
use Rattle.jm_state.specs.Parts.{named_type, parts}
use Rattle.jm_state.specs.declared.halt.Halt.TheVariants.{Stopped}
use Rattle.jm_state.specs.declared.state.State.{State}
use Rattle.jm_interp.specs.declared.at.At.{At}
use Rattle.jm_interp.specs.declared.print_operands.Text.{Text}
use Rattle.jm_interp.specs.declared.print_operands.Text.TheVariants as text
use Rattle.jm_interp.specs.At.{parts_at, InMethod}
use Rattle.jm_interp.specs.Characters.{Continues, WritesUnits}
use Rattle.jm_interp.specs.Printing.{string_in, with_bytes, TextAmong, TextLies, TextGives, TextHalts}
use Rattle.jm_interp.specs.Strings.{is_string, chars_of, first_named, TextOf}
use Rattle.jm_interp.proofs.Objects.{IsObject, object_of, lies}

-- the chars of an object, as the code finds them
module _ (o : ObjectOf ClassId) {id : ClassId} (told : id ≡ o.type) {test : Bool} (is : test ≡ is_string id) where
  by_type : {b : Bool} → test ≡ b → chars_of o ≡ (elim b as (λ _. Option ℕ) [ true ↦ first_named o.values | false ↦ None ])
  by_type e = ap (λ b. elim b as (λ _. Option ℕ) [ true ↦ first_named o.values | false ↦ None ]) (ap is_string (sym told) ∙ sym is ∙ e)

  pub other_chars : test ≡ false → chars_of o ≡ None
  other_chars e = by_type e

  pub no_chars : test ≡ true → length o.values ≡ 0 → chars_of o ≡ None
  no_chars e none = by_type e ∙ by o.values none
    where
      by : (vs : List Value) → length vs ≡ 0 → first_named vs ≡ None
      by [] e = refl
      by (v ∷ vs) e = absurd (omega (arith, e))

  pub first_chars_are : test ≡ true → {v : Value} → slice_get o.values 0 ≡ Some v → chars_of o ≡ first_named (v ∷ [])
  first_chars_are e {v} at = by_type e ∙ by o.values at
    where
      by : (vs : List Value) → slice_get vs 0 ≡ Some v → first_named vs ≡ first_named (v ∷ [])
      by [] e = cc
      by (u ∷ vs) e = let same : u ≡ v = cc in first v same
        where
          alone : (x : Value) → first_named (x ∷ vs) ≡ first_named (x ∷ [])
          alone (Int n) = refl
          alone (Long n) = refl
          alone Null = refl
          alone (Ref k) = refl

          first : (x : Value) → u ≡ x → first_named (u ∷ vs) ≡ first_named (x ∷ [])
          first x e = ap (λ (z : Value). first_named (z ∷ vs)) e ∙ alone x

-- a value has the same code units under another name of its reference
pub units_named : (f : ℕ → ℕ) (v : Value) → units_of (rename f v ∷ []) ≡ units_of (v ∷ [])
units_named f (Int n) = refl
units_named f (Long n) = refl
units_named f Null = refl
units_named f (Ref p) = refl

-- the name of the array, by the value that was read
abbrev pub chars_named : (ℕ → ℕ) → Value → Option ℕ
chars_named f (Ref p) = Some (f p)
chars_named f _ = None

pub named_chars : (f : ℕ → ℕ) {v u : Value} → v ≡ u → first_named (rename f v ∷ []) ≡ chars_named f u
named_chars f {v} {u} e = ap (λ x. first_named (rename f x ∷ [])) e ∙ by u
  where
    by : (u : Value) → first_named (rename f u ∷ []) ≡ chars_named f u
    by (Int n) = refl
    by (Long n) = refl
    by Null = refl
    by (Ref p) = refl

pub names_none : (f : ℕ → ℕ) (v : Value) → ((n : ℤ) × (v ≡ Int n)) ⊎ (((n : ℤ) × (v ≡ Long n)) ⊎ (v ≡ Null)) → chars_named f v ≡ None
names_none f v (inl e) = ap (chars_named f) e.1
names_none f v (inr (inl e)) = ap (chars_named f) e.1
names_none f v (inr (inr e)) = ap (chars_named f) e

-- the value of a number of the object at a place
pub value_of : (c : Content ClassId) (p : ℕ) {i : ℕ} {v : Value} → HasValue c p i v → (k : ℕ) (o : ObjectOf ClassId) → serial_at c p ≡ Some k
    → object_at c k ≡ Some o → slice_get o.values i ≡ Some v
value_of c p {i} {v} got k o serial is =
    let serials : Some got.0 ≡ Some k = sym got.2 ∙ serial in
    let same_serial : got.0 ≡ k = cc in
    let objects : Some got.1 ≡ Some o = sym got.3 ∙ ap (object_at c) same_serial ∙ is in
    let same : got.1 ≡ o = cc in
    ap (λ (x : ObjectOf ClassId). slice_get x.values i) (sym same) ∙ got.4

-- the code units of the first values, by one more
pub units_one_more : (vs : List Value) (i : ℕ) {v : Value} → slice_get vs i ≡ Some v → units_of (take (suc i) vs) ≡ units_of (take i vs) ++ units_of (v ∷ [])
units_one_more [] i e = cc
units_one_more (u ∷ vs) zero {v} e = let same : u ≡ v = cc in ap (λ x. units_of (x ∷ [])) same
units_one_more (Int n ∷ vs) (suc i) e = ap (λ us. cast_unsigned w32 n % 2 ^ 16 ∷ us) (units_one_more vs i e)
units_one_more (Long n ∷ vs) (suc i) e = units_one_more vs i e
units_one_more (Null ∷ vs) (suc i) e = units_one_more vs i e
units_one_more (Ref k ∷ vs) (suc i) e = units_one_more vs i e

-- what was written before stays in front of what two calls write
pub further : (old mid new : List ℕ) → Continues old mid → Continues mid new → Continues old new
further old mid new first second = (first.0 ++ second.0, second.1 ∙ ap (λ bytes. bytes ++ second.0) first.1 ∙ append_assoc old first.0 second.0)

-- and is what is left where they are cut off
pub cut_back : (old new : List ℕ) {n : ℕ} → Continues old new → n ≡ length old → take n new ≡ old
cut_back old new h e = ap (λ k. take k new) e ∙ ap (take (length old)) h.1 ∙ take-append_seam old h.0

-- the code units that two calls write
pub more_units : (old us vs mid new : List ℕ) (before half waits : Option ℕ) → WritesUnits old before us mid half
    → WritesUnits mid half vs new waits → WritesUnits old before (us ++ vs) new waits
more_units old us vs mid new before half waits first second rest =
    second rest ∙ first (vs ++ rest) ∙ ap (λ units. old ++ utf8_after before units) (sym (append_assoc us vs rest))

pub all_taken : (vs : List Value) (n : ℕ) → length vs ≤ n → take n vs ≡ vs
all_taken [] zero e = refl
all_taken [] (suc n) e = refl
all_taken (v ∷ vs) zero e = absurd (omega (arith, e))
all_taken (v ∷ vs) (suc n) e = ap (λ xs. v ∷ xs) (all_taken vs n (omega (arith, e)))

-- a class has the name of another just where it has its number
class_test : (program : List ClassParts) → Loads program → (n k : ℕ) (name : List ℕ) → slice_get (class_names program) k ≡ Some name → same_text [] name ≡ false
    → same_text (class_name_of program n) name ≡ nat_eq n k
unfolding class_name_of
class_test program loads n k name named some = by (slice_get (class_names program) n) refl
  where
    other : (b : Bool) → nat_eq n k ≡ b → slice_get (class_names program) n ≡ None → false ≡ b
    other false e none = refl
    other true e none =
        let bad : Some name ≡ None = sym named ∙ sym (ap (slice_get (class_names program)) (eqb-true n k e)) ∙ none in cc

    by : (o : Option (List ℕ)) → slice_get (class_names program) n ≡ o → same_text (unwrap_or o []) name ≡ nat_eq n k
    by (Some own) e = same_as program loads n k own name e named
    by None e = some ∙ other (nat_eq n k) refl e

-- String
string_name : (program : List ClassParts) → Loads program → (n : ℕ) → same_text (class_name_of program n) string_class ≡ nat_eq n (number_of String)
string_name program loads n = class_test program loads n (number_of String) string_class refl refl

-- the model's test of an object is that of its mark
abbrev when_string : World → List Value → Bool → Option (List Value)
when_string w vs b = elim b [ true ↦ chars_in w vs | false ↦ None ]

type_test : (program : List ClassParts) → Loads program → (w : World) (o : Object) (id : ClassId)
    → chars_of_type w o (named_type program id) ≡ when_string w o.values (is_string id)
unfolding named_type
type_test program loads w o (Instance n) = ap (when_string w o.values) (string_name program loads n)
type_test program loads w o (Array component) = refl

-- what the first value names
first_chars : World → Option ℕ → Option (List Value)
first_chars w None = None
first_chars w (Some k) = elim (slice_get w.heap k) [ None ↦ None | Some o ↦ Some o.values ]

in_first : (w : World) (vs : List Value) → chars_in w vs ≡ first_chars w (first_named vs)
unfolding first_chars
in_first w [] = refl
in_first w (Int n ∷ vs) = refl
in_first w (Long n ∷ vs) = refl
in_first w (Null ∷ vs) = refl
in_first w (Ref k ∷ vs) = refl

by_mark : (w : World) (vs : List Value) (b : Bool) → when_string w vs b ≡ first_chars w (elim b as (λ _. Option ℕ) [ true ↦ first_named vs | false ↦ None ])
unfolding first_chars
by_mark w vs true = in_first w vs
by_mark w vs false = refl

-- the first value is among the references
first_among : (vs : List Value) (k : ℕ) → first_named vs ≡ Some k → Among k (stack_shape.refs vs)
first_among [] k e = cc
first_among (Int n ∷ vs) k e = cc
first_among (Long n ∷ vs) k e = cc
first_among (Null ∷ vs) k e = cc
first_among (Ref j ∷ vs) k e = let same : j ≡ k = cc in inl (sym same)

named_first : (o : ObjectOf ClassId) (k : ℕ) → chars_of o ≡ Some k → first_named o.values ≡ Some k
named_first o k e = by (is_string o.type) e
  where
    by : (b : Bool) → (elim b as (λ _. Option ℕ) [ true ↦ first_named o.values | false ↦ None ]) ≡ Some k → first_named o.values ≡ Some k
    by true e = e
    by false e = cc

module _ {H : Type 0} {content : H → Content ClassId} {at : At} {old : State H} (h : InMethod content at old) where
  -- the object of a String
  module _ (string : ℕ) (inside : Among string (places (parts_at content at old))) where
    abbrev pub it : IsObject h.on string
    it = object_of h.on string inside

    -- the model's chars, by the array that the String names
    chars_are : (here : Here) (go : List Value → Next) → Matches (parts_at content at old) here.world
        → with_chars here (name_of (content old.heap) string) go
        ≡ (elim (first_chars here.world (chars_of it.object)) as (λ _. Next) [ None ↦ faults WrongKind | Some chars ↦ go chars ])
    unfolding parts
    chars_are here go m =
        let program = at.linked.now.program in
        let w = here.world in
        let named = as_named (named_type program) it.object in
        let finish : Option (List Value) → Next = λ x. elim x [ None ↦ faults WrongKind | Some chars ↦ go chars ] in
        ap (λ x. elim x as (λ _. Next) [ None ↦ faults WrongKind | Some o ↦ finish (chars_of_type w o o.type) ]) (it.in_world w m)
        ∙ ap finish (type_test program h.on.beside.linked.loads w named it.object.type)
        ∙ ap finish (by_mark w it.object.values (is_string it.object.type))

    pub no_string : chars_of it.object ≡ None → (here : Here) (go : List Value → Next) → Matches (parts_at content at old) here.world
        → with_chars here (name_of (content old.heap) string) go ≡ faults WrongKind
    unfolding first_chars
    no_string none here go m =
        chars_are here go m
        ∙ ap (λ x. elim (first_chars here.world x) as (λ _. Next) [ None ↦ faults WrongKind | Some chars ↦ go chars ]) none

    -- the array of its chars, in every world
    module _ {chars : ℕ} (is : chars_of it.object ≡ Some chars) where
      array_reached : (w : World) → Matches (parts_at content at old) w → Reach (slice_get w.heap) (roots w) chars
      array_reached w m =
          field (name_of (content old.heap) string) chars (it.reached w m)
          (subst (λ x. Among chars (refs_of x)) (sym (it.in_world w m)) (first_among it.object.values chars (named_first it.object chars is)))

      pub has_chars : {array : ObjectOf ClassId} → object_at (content old.heap) chars ≡ Some array → (here : Here) (go : List Value → Next)
          → Matches (parts_at content at old) here.world → with_chars here (name_of (content old.heap) string) go ≡ go array.values
      unfolding parts first_chars
      has_chars there here go m =
          let w = here.world in
          let named = as_named (named_type at.linked.now.program) in
          let finish : Option (List Value) → Next = λ x. elim x [ None ↦ faults WrongKind | Some vs ↦ go vs ] in
          chars_are here go m
          ∙ ap (λ x. finish (first_chars w x)) is
          ∙ ap (λ x. finish (elim x as (λ _. Option (List Value)) [ None ↦ None | Some o ↦ Some o.values ]))
          (sym (m.objects chars (array_reached w m)) ∙ ap (option_map named) there)

    -- the object of the array, where the code found its place
    pub array_object : (array : ℕ) → chars_of it.object ≡ Some (name_of (content old.heap) array) → AllResident (content old.heap) (array ∷ [])
        → IsObject h.on array
    unfolding parts
    array_object array is resident =
        let c = content old.heap in
        let named = as_named (named_type at.linked.now.program) in
        let k = resident array (inl refl) in
        let o = object_of_place c array k.0 k.1 in
        record {
          serial = k.0;
          object = o.0;
          serial_is = k.1;
          object_is = o.1;
          reached = array_reached is;
          in_world = λ w m.
              sym (m.objects (name_of c array) (array_reached is w m))
              ∙ ap (λ j. option_map named (object_at c j)) (name_is c array k.0 k.1)
              ∙ ap (option_map named) o.1;
        }

    is_text : {bytes : List ℕ} → TextOf (content old.heap) it.object bytes → (here : Here) (go : List ℕ → Next)
        → Matches (parts_at content at old) here.world
        → with_chars here (name_of (content old.heap) string) (λ chars. go (utf8_text (units_of chars))) ≡ go bytes
    is_text t here go m = has_chars t.chars_are t.array_is here (λ chars. go (utf8_text (units_of chars))) m ∙ ap go (sym t.bytes_are)

  -- the argument of a method of a print stream
  pub text_lies : (t : Text) → TextAmong (places (parts_at content at old)) t → TextLies (content old.heap) (string_in t)
  text_lies (text.Int n) inside = tt
  text_lies (text.Long n) inside = tt
  text_lies (text.Char n) inside = tt
  text_lies (text.String None) inside = tt
  text_lies (text.String (Some p)) inside = lies h.on (object_of h.on p inside)
  text_lies text.Nothing inside = tt

  pub text_told : (t : Text) → TextAmong (places (parts_at content at old)) t → {bytes : List ℕ} → TextGives (content old.heap) t (string_in t) bytes
      → (here : Here) (go : List ℕ → Next) → Matches (parts_at content at old) here.world → with_bytes here (name_of (content old.heap)) t go ≡ go bytes
  text_told (text.Int n) inside gives here go m = ap go (sym gives)
  text_told (text.Long n) inside gives here go m = ap go (sym gives)
  text_told (text.Char n) inside gives here go m = ap go (sym gives)
  text_told (text.String None) inside gives here go m = ap go (sym gives)
  text_told (text.String (Some p)) inside gives here go m =
      let o = object_of h.on p inside in is_text p inside (gives o.serial o.object o.serial_is o.object_is) here go m
  text_told text.Nothing inside gives here go m = ap go (sym gives)

  pub text_untold : (t : Text) → TextAmong (places (parts_at content at old)) t → {stop : Stop} → TextHalts (content old.heap) (string_in t) (Stopped stop)
      → (here : Here) (go : List ℕ → Next) → Matches (parts_at content at old) here.world → with_bytes here (name_of (content old.heap)) t go ≡ stops stop
  text_untold (text.Int n) inside halts here go m = absurd halts
  text_untold (text.Long n) inside halts here go m = absurd halts
  text_untold (text.Char n) inside halts here go m = absurd halts
  text_untold (text.String None) inside halts here go m = absurd halts
  text_untold (text.String (Some p)) inside halts here go m =
      let o = object_of h.on p inside in
      no_string p inside (halts.1 o.serial o.object o.serial_is o.object_is) here (λ chars. go (utf8_text (units_of chars))) m
      ∙ ap stops (sym halts.0)
  text_untold text.Nothing inside halts here go m = absurd halts
