-- The first objects beside those of the loaded world.
use Rattle.std.proofs.Common.{◌≡◌, ℕ, suc, ◌+◌, ◌*◌, ◌≤◌, List, [], ◌∷◌, ◌++◌, Some, Bool, false, refl, sym, ap, ◌∙◌, subst, inl, inr, length, arith}
use Rattle.std.specs.Prelude.{map, nat_lt, slice_get, option_map}
use Rattle.std.proofs.lemmas.Bool.{ltb-false}
use Rattle.std.proofs.lemmas.List.{length-map}
use Rattle.std.proofs.lemmas.Option.{slice_get-map}
use Rattle.jm_program.specs.declared.class.ClassParts.{ClassParts}
use Rattle.jm_values.specs.Shape.{list_shape}
use Rattle.jm_values.specs.Objects.{ObjectOf}
use Rattle.jm_values.specs.Content.{Content, AllResident, name_of, serial_at, object_at}
use Rattle.jm_values.proofs.SoundContents.{name_is}
use Rattle.jm_world.specs.Classes.{print_stream_class, string_class}
use Rattle.jm_world.specs.Loading as model
use Rattle.jm_world.specs.Loading.{literal_texts, literals_from, is_too_small}
use Rattle.jm_world.specs.Matches.{as_named}
use Rattle.jm_world.specs.Objects as world
use Rattle.jm_world.specs.Objects.{new_array}
use Rattle.jm_world.specs.Renaming.{literal_shape}
use Rattle.jm_world.specs.Types.{class_type, instance_of}
use Rattle.jm_world.specs.World.{Literal}
use Rattle.jm_heap.specs.declared.class_id.ClassId.{ClassId}
use Rattle.jm_linked.specs.Links.{class_name_of}
use Rattle.jm_linked.specs.Named.{named_literals}
use Rattle.jm_state.specs.Parts.{named_type}
use Rattle.jm_state.proofs.Sizes.{sizes_alike}
use Rattle.jm_machine.specs.FirstObjects.{Holds, AreStrings, objects_from, first_objects, cells_of_all}
use Rattle.jm_machine.proofs.Holding.{among_index, object_is}

-- the first objects, where the print stream, main's array and the Strings lie
pub record HasFirst (c : Content ClassId) (texts : List (List ℕ)) (out array : ℕ) (strings : List ℕ) : Type 0 where
  pub roots : List ℕ
  pub holds : Holds c roots (first_objects texts)
  pub out_at : slice_get roots 0 ≡ Some out
  pub array_at : slice_get roots 1 ≡ Some array
  pub strings_are : AreStrings roots strings

-- each literal has two objects
two_each : (k : ℕ) (ts : List (List ℕ)) → length (objects_from k ts) ≡ 2 * length ts
two_each k [] = refl
two_each k (t ∷ ts) = let rest = two_each (k + 2) ts in omega arith

as_many_strings : (roots strings : List ℕ) (texts : List (List ℕ)) → length roots ≡ length (first_objects texts) → AreStrings roots strings
    → length strings ≡ length texts
as_many_strings roots strings texts many s = let all = two_each 2 texts in let half = s.many in omega arith

pub first_of : (c : Content ClassId) (texts them : List (List ℕ)) (roots : List ℕ) (out array : ℕ) (strings : List ℕ) → them ≡ texts
    → Holds c roots (first_objects them) → slice_get roots 0 ≡ Some out → slice_get roots 1 ≡ Some array
    → AreStrings roots strings → HasFirst c texts out array strings × (length strings ≡ length texts)
first_of c texts them roots out array strings same holds out_at array_at s =
    let here = subst (λ ts. Holds c roots (first_objects ts)) same holds in
    (record { roots = roots; holds = here; out_at = out_at; array_at = array_at; strings_are = s }, as_many_strings roots strings texts here.many s)

-- the first objects with their types by name
objects_named : (program : List ClassParts) (k : ℕ) (ts : List (List ℕ)) → map (as_named (named_type program)) (objects_from k ts) ≡ model.objects_from k ts
unfolding named_type class_name_of
objects_named program k [] = refl
objects_named program k (t ∷ ts) = ap (λ os. model.literal_objects k t ++ os) (objects_named program (k + 2) ts)

first_objects_named : (program : List ClassParts) → map (as_named (named_type program)) (first_objects (literal_texts program)) ≡ model.first_objects program
unfolding named_type class_name_of
first_objects_named program =
    ap (λ os. record { type = instance_of print_stream_class; values = [] } ∷ new_array (class_type string_class) 0 ∷ os)
    (objects_named program 2 (literal_texts program))

-- their cells are those of the world's
cells_named : (program : List ClassParts) (os : List (ObjectOf ClassId)) → world.cells_of_all (map (as_named (named_type program)) os) ≡ cells_of_all os
cells_named program [] = refl
cells_named program (o ∷ os) =
    let one = sizes_alike program o.type (length o.values) in
    let rest = cells_named program os in
    omega (arith, one, rest)

first_cells_named : (program : List ClassParts) → world.cells_of_all (model.first_objects program) ≡ cells_of_all (first_objects (literal_texts program))
first_cells_named program = ap world.cells_of_all (sym (first_objects_named program)) ∙ cells_named program (first_objects (literal_texts program))

-- where they are too small for a heap
pub too_small : (program : List ClassParts) (texts : List (List ℕ)) (limit : ℕ) (passed : Bool)
    → passed ≡ nat_lt limit (cells_of_all (first_objects texts)) → texts ≡ literal_texts program → passed ≡ is_too_small program limit
too_small program texts limit passed e same =
    e ∙ ap (λ ts. nat_lt limit (cells_of_all (first_objects ts))) same ∙ ap (nat_lt limit) (sym (first_cells_named program))

pub has_room : (program : List ClassParts) (texts : List (List ℕ)) (limit : ℕ) → texts ≡ literal_texts program → is_too_small program limit ≡ false
    → cells_of_all (first_objects texts) ≤ limit
has_room program texts limit same e =
    subst (λ ts. cells_of_all (first_objects ts) ≤ limit) (sym same)
    (ltb-false limit (cells_of_all (first_objects (literal_texts program))) (ap (nat_lt limit) (sym (first_cells_named program)) ∙ e))

-- literals with the Strings' places, and with their numbers
pub literals_refs : (ts : List (List ℕ)) (ps : List ℕ) → length ps ≡ length ts → (list_shape literal_shape).refs (named_literals ts ps) ≡ ps
literals_refs [] [] e = refl
literals_refs [] (p ∷ ps) e = absurd (omega arith)
literals_refs (t ∷ ts) [] e = absurd (omega arith)
literals_refs (t ∷ ts) (p ∷ ps) e = ap (λ qs. p ∷ qs) (literals_refs ts ps (omega arith))

literals_renamed : (f : ℕ → ℕ) (k : ℕ) (ts : List (List ℕ)) (ps : List ℕ) → length ps ≡ length ts
    → ((i p : ℕ) → slice_get ps i ≡ Some p → f p ≡ 2 * i + (k + 1))
    → (list_shape literal_shape).rename f (named_literals ts ps) ≡ literals_from k ts
literals_renamed f k [] [] e h = refl
literals_renamed f k [] (p ∷ ps) e h = absurd (omega arith)
literals_renamed f k (t ∷ ts) [] e h = absurd (omega arith)
literals_renamed f k (t ∷ ts) (p ∷ ps) e h =
    let first : f p ≡ k + 1 = h 0 p refl ∙ omega arith in
    let rest = literals_renamed f (k + 2) ts ps (omega arith) (λ i q g. h (suc i) q g ∙ omega arith) in
    (λ j. (let x : Literal = record { units = t; string = first j } in x) ∷ rest j)

module _ (c : Content ClassId) (texts : List (List ℕ)) (out array : ℕ) (strings : List ℕ) (first : HasFirst c texts out array strings) where
  pub out_named : name_of c out ≡ 0
  out_named = name_is c out 0 (first.holds.places 0 out first.out_at)

  pub array_named : name_of c array ≡ 1
  array_named = name_is c array 1 (first.holds.places 1 array first.array_at)

  string_lies : (i p : ℕ) → slice_get strings i ≡ Some p → serial_at c p ≡ Some (2 * i + 3)
  string_lies i p e = first.holds.places (2 * i + 3) p (first.strings_are.places i p e)

  -- what the state holds has its objects
  pub all_there : AllResident c (array ∷ out ∷ strings)
  all_there p (inl e) = (1, ap (serial_at c) e ∙ first.holds.places 1 array first.array_at)
  all_there p (inr (inl e)) = (0, ap (serial_at c) e ∙ first.holds.places 0 out first.out_at)
  all_there p (inr (inr a)) = let t = among_index p strings a in (2 * t.0 + 3, string_lies t.0 p t.1)

  pub literals_are : (list_shape literal_shape).rename (name_of c) (named_literals texts strings) ≡ literals_from 2 texts
  literals_are =
      let count = as_many_strings first.roots strings texts first.holds.many first.strings_are in
      literals_renamed (name_of c) 2 texts strings count (λ i p e. name_is c p (2 * i + 3) (string_lies i p e))

module _ (program : List ClassParts) (c : Content ClassId) (out array : ℕ) (strings : List ℕ)
    (first : HasFirst c (literal_texts program) out array strings) where
  pub next_is : c.next ≡ length (model.first_objects program)
  next_is =
      first.holds.next
      ∙ sym (length-map (first_objects (literal_texts program)) (as_named (named_type program)))
      ∙ ap length (first_objects_named program)

  pub objects_are : (k : ℕ) → option_map (as_named (named_type program)) (object_at c k) ≡ slice_get (model.first_objects program) k
  objects_are k =
      ap (option_map (as_named (named_type program))) (object_is c first.roots (first_objects (literal_texts program)) first.holds k)
      ∙ sym (slice_get-map (as_named (named_type program)) (first_objects (literal_texts program)) k)
      ∙ ap (λ os. slice_get os k) (first_objects_named program)
