-- Objects that are made one after the other.
use Rattle.std.proofs.Common.{◌≡◌, ℕ, ◌+◌, ◌-◌, ◌<◌, ◌≤◌, ◌^◌, List, [], ◌∷◌, ◌++◌, Some, refl, sym, ap, ◌∙◌, subst, inl, inr, length, take, get_or}
use Rattle.std.proofs.Common.{arith, length-append, append_assoc}
use Rattle.std.specs.Prelude.{Result, Ok, Err, OnOk, pos, slice_get}
use Rattle.std.proofs.lemmas.List.{length-map}
use Rattle.jm_program.specs.declared.descriptor.BaseType.TheVariants as base
use Rattle.jm_program.proofs.Sequences.{got_last}
use Rattle.jm_builtins.specs.Numbers.{number_of}
use Rattle.jm_builtins.specs.declared.built_in_class.BuiltInClass.TheVariants.{String}
use Rattle.jm_values.specs.declared.value.Value.{Value}
use Rattle.jm_values.specs.declared.value.Value.TheVariants.{Int, Null, Ref}
use Rattle.jm_values.specs.Objects.{ObjectOf, copies, size_by}
use Rattle.jm_values.specs.Content.{Content, AllResident, HasValue, IsSet, name_of, serial_at, object_at}
use Rattle.jm_values.proofs.SoundContents.{name_is}
use Rattle.jm_values.proofs.ArraysOfArrays.{copies_many}
use Rattle.jm_heap.specs.Cells.{class_size}
use Rattle.jm_heap.specs.Packing.{Fits, kind_of}
use Rattle.jm_heap.specs.declared.class_id.ClassId.{ClassId}
use Rattle.jm_heap.specs.declared.class_id.ClassId.TheVariants.{Instance, Array}
use Rattle.jm_heap.specs.declared.class_id.Element.TheVariants.{Base}
use Rattle.jm_machine.specs.declared.fault.OutOfMemory.{OutOfMemory}
use Rattle.jm_machine.specs.Start.{IsEmpty}
use Rattle.jm_machine.specs.FirstObjects.{Holds, HasRoomFor, HasLast, Adds, Turns, cells_of_all, stream, arguments, char_array, blank_chars}
use Rattle.jm_machine.specs.FirstObjects.{string_of, literal_objects, first_objects}
use Rattle.jm_machine.proofs.Counting.{first_more, next_fits, both_fit}
use Rattle.jm_machine.proofs.Holding.{last_set, holds_none, empty_sound, only_object}

cells_append : (xs ys : List (ObjectOf ClassId)) → cells_of_all (xs ++ ys) ≡ cells_of_all xs + cells_of_all ys
cells_append [] ys = omega arith
cells_append (x ∷ xs) ys = let rest = cells_append xs ys in omega (arith, rest)

-- there is room for what takes no more
pub room_for_less : (c : Content ClassId) (roots : List ℕ) (xs ys : List (ObjectOf ClassId)) → cells_of_all ys ≤ cells_of_all xs
    → HasRoomFor c roots xs → HasRoomFor c roots ys
room_for_less c roots xs ys less room = record { objects = room.objects; holds = room.holds; fits = let f = room.fits in omega arith; small = room.small }

-- and for what is left once the first have been made
pub room_left : (old new : Content ClassId) (r0 r1 : List ℕ) (xs ys zs : List (ObjectOf ClassId))
    → cells_of_all xs + cells_of_all ys ≤ cells_of_all zs → HasRoomFor old r0 zs → Adds old r0 new r1 xs → HasRoomFor new r1 ys
room_left old new r0 r1 xs ys zs less room a = record {
  objects = room.objects ++ xs;
  holds = a.holds room.objects room.holds;
  fits = let f = room.fits in let both = cells_append room.objects xs in let same = a.limit in omega arith;
  small = let s = room.small in let same = a.limit in omega arith;
}

pub last_of : (old new : Content ClassId) (r0 r1 : List ℕ) (x : ObjectOf ClassId) (zs : List (ObjectOf ClassId)) → HasRoomFor old r0 zs
    → Adds old r0 new r1 (x ∷ []) → HasLast new r1 x
last_of old new r0 r1 x zs room a = record { front = room.objects; holds = a.holds room.objects room.holds }

pub turned : (old mid new : Content ClassId) (r0 r1 : List ℕ) (x y : ObjectOf ClassId) → Adds old r0 mid r1 (x ∷ []) → Turns mid new r1 x y
    → Adds old r0 new r1 (y ∷ [])
turned old mid new r0 r1 x y a t = record { limit = t.limit ∙ a.limit; holds = λ objects h. t.holds objects (a.holds objects h) }

-- the array of a literal
abbrev pub blank_of : ℕ → ObjectOf ClassId
blank_of n = record { type = Array (record { dimensions = 0; element = Base base.Char }); values = copies n (Int (pos 0)) }

module _ (text : List ℕ) (n : ℕ) (long : n ≡ length text) where
  blank_size : size_by class_size (blank_of n) ≡ size_by class_size (char_array text)
  blank_size = ap (class_size (char_array text).type) (copies_many n (Int (pos 0)) ∙ long ∙ sym (length-map text (λ u. Int (pos u))))

  pub room_for_blank : (c : Content ClassId) (roots : List ℕ) → HasRoomFor c roots (char_array text ∷ []) → HasRoomFor c roots (blank_of n ∷ [])
  room_for_blank c roots = room_for_less c roots (char_array text ∷ []) (blank_of n ∷ []) (let same = blank_size in omega arith)

  pub blank_added : (old new : Content ClassId) (r0 r1 : List ℕ) → Adds old r0 new r1 (blank_of n ∷ []) → Adds old r0 new r1 (blank_chars text ∷ [])
  blank_added old new r0 r1 = subst (λ k. Adds old r0 new r1 (blank_of k ∷ [])) long

-- the String of the array that was made last
abbrev pub blank_string : ObjectOf ClassId
blank_string = record { type = Instance (number_of String); values = Null ∷ [] }

module _ (old mid : Content ClassId) (r0 r1 : List ℕ) (some : 0 < length r0) (room : HasRoomFor old r0 (string_of 0 ∷ []))
    (a : Adds old r0 mid r1 (blank_string ∷ [])) where
  made : Holds mid r1 (room.objects ++ blank_string ∷ [])
  made = a.holds room.objects room.holds

  as_many : length r1 ≡ length r0 + 1
  as_many = made.many ∙ length-append room.objects (blank_string ∷ []) ∙ ap (λ n. n + 1) (sym room.holds.many)

  module _ (many last chars place : ℕ) (count : many ≡ length r1) (before : last ≡ length r0 - 1) (at_chars : slice_get r1 last ≡ Some chars)
      (at_place : slice_get r1 (many - 1) ≡ Some place) where
    string_at : (objects : List (ObjectOf ClassId)) → Holds old r0 objects → slice_get r1 (length objects) ≡ Some place
    string_at objects h =
        let same : many - 1 ≡ length objects = (let more = as_many in let few = h.many in omega arith) in
        subst (λ k. slice_get r1 k ≡ Some place) same at_place

    pub field_there : (v : Value) × HasValue mid place 0 v
    field_there =
        let lies = made.places (length room.objects) place (string_at room.objects room.holds) in
        let is = made.objects_are (length room.objects) blank_string (got_last room.objects blank_string) in
        (Null, (length room.objects, blank_string, lies, is, refl))

    pub field_fits : (v : Value) (k : ℕ) (o : ObjectOf ClassId) → serial_at mid place ≡ Some k → object_at mid k ≡ Some o → Fits (kind_of o.type) v
    unfolding field_there
    field_fits v k o lies is =
        let there = field_there.1 in
        let same = only_object mid place there.0 k there.1 o there.2 there.3 lies is in
        subst (λ x. Fits (kind_of x.type) v) (sym same) tt

    pub chars_there : AllResident mid (chars ∷ [])
    chars_there p (inl e) = (last, made.places last p (at_chars ∙ ap Some (sym e)))
    chars_there p (inr a) = absurd a

    pub string_made : (new : Content ClassId) → IsSet mid new place 0 (Ref chars) → Adds old r0 new r1 (string_of (length r0 - 1) ∷ [])
    string_made new s = record {
      limit = s.limit ∙ a.limit;
      holds = λ objects h.
          let now = a.holds objects h in
          let named : name_of mid chars ≡ length r0 - 1 = name_is mid chars last (now.places last chars at_chars) ∙ before in
          let set = last_set mid new r1 objects blank_string place 0 (Ref chars) now (string_at objects h) s in
          subst (λ k. Holds new r1 (objects ++ string_of k ∷ [])) named set;
    }

-- both of a literal
literal_made : (old mid new : Content ClassId) (r0 r1 r2 text : List ℕ) → Adds old r0 mid r1 (char_array text ∷ [])
    → Adds mid r1 new r2 (string_of (length r1 - 1) ∷ []) → Adds old r0 new r2 (literal_objects (length r0) text)
literal_made old mid new r0 r1 r2 text a b = record {
  limit = b.limit ∙ a.limit;
  holds = λ objects h.
      let first = a.holds objects h in
      let both = b.holds (objects ++ char_array text ∷ []) first in
      let many = first.many ∙ length-append objects (char_array text ∷ []) in
      let before = h.many in
      let number : length r1 - 1 ≡ length r0 = omega arith in
      let joined = append_assoc objects (char_array text ∷ []) (string_of (length r1 - 1) ∷ []) in
      subst (λ k. Holds new r2 (objects ++ char_array text ∷ string_of k ∷ [])) number (subst (Holds new r2) joined both);
}

pub literal_told : (r : Result (Unit {0}) OutOfMemory) (old mid new : Content ClassId) (r0 r1 r2 text : List ℕ)
    → Adds old r0 mid r1 (char_array text ∷ []) → OnOk r (Adds mid r1 new r2 (string_of (length r1 - 1) ∷ []))
    → OnOk r (Adds old r0 new r2 (literal_objects (length r0) text))
literal_told (Ok x) old mid new r0 r1 r2 text a b = literal_made old mid new r0 r1 r2 text a b
literal_told (Err e) old mid new r0 r1 r2 text a b = tt

-- the first two
module _ (c : Content ClassId) (literals : List (List ℕ)) (empty : IsEmpty c) (fits : cells_of_all (first_objects literals) ≤ c.limit)
    (small : c.limit < 2 ^ 64) (roots : List ℕ) (none : roots ≡ []) where
  nothing_held : Holds c roots []
  nothing_held = subst (λ r. Holds c r []) (sym none) (holds_none c (empty_sound c empty) empty)

  pub room_for_both : HasRoomFor c roots (first_objects [])
  room_for_both = record { objects = []; holds = nothing_held; fits = let both = both_fit literals c.limit fits in omega (arith, both); small = small }

  pub both_held : (mid new : Content ClassId) (r1 r2 : List ℕ) → Adds c roots mid r1 (stream ∷ []) → Adds mid r1 new r2 (arguments ∷ [])
      → Holds new r2 (first_objects [])
  both_held mid new r1 r2 a b = b.holds (stream ∷ []) (a.holds [] nothing_held)

-- a literal more
module _ (literals : List (List ℕ)) (now : Content ClassId) (roots : List ℕ) (i : ℕ) (t : List ℕ) (within : i < length literals)
    (is : t ≡ get_or literals i t) (h : Holds now roots (first_objects (take i literals))) where
  pub room_for_next : (limit : ℕ) → now.limit ≡ limit → cells_of_all (first_objects literals) ≤ limit → limit < 2 ^ 64
      → HasRoomFor now roots (literal_objects 0 t)
  room_for_next limit same fits small = record {
    objects = first_objects (take i literals);
    holds = h;
    fits = let next = next_fits literals i limit t within is fits in omega (arith, next, same);
    small = omega (arith, small, same);
  }

  pub next_held : (new : Content ClassId) (moved : List ℕ) → Adds now roots new moved (literal_objects (length roots) t)
      → Holds new moved (first_objects (take (i + 1) literals))
  next_held new moved a =
      subst (Holds new moved) (ap (λ k. first_objects (take i literals) ++ literal_objects k t) h.many
      ∙ first_more literals i t within is) (a.holds (first_objects (take i literals)) h)
