-- The constants with which static fields begin, in the state and in every world beside it.
use Rattle.std.proofs.Common.{◌≡◌, ℕ, zero, suc, ◌+◌, ◌<◌, ◌≤◌, List, [], ◌∷◌, Option, Some, None, Bool, true, false, refl, sym, ap, ◌∙◌, subst, length}
use Rattle.std.proofs.Common.{arith, take}
use Rattle.std.proofs.lemmas.List.{length-map, take_all}
use Rattle.std.proofs.lemmas.Option.{slice_get-get_or}
use Rattle.std.specs.Prelude.{slice_get, slice_index_or, vec_len, Ok}
use Rattle.jm_program.specs.Flags.{is_static}
use Rattle.jm_program.specs.declared.class.ClassParts.{ClassParts}
use Rattle.jm_program.specs.declared.class.Field.{Field}
use Rattle.jm_program.specs.declared.constant.Constant.{Constant}
use Rattle.jm_values.specs.Content.{Content, name_of}
use Rattle.jm_values.specs.Rename.{rename, refs}
use Rattle.jm_values.specs.Shape.{Among}
use Rattle.jm_values.specs.declared.value.Value.{Value}
use Rattle.jm_values.specs.declared.value.Value.TheVariants.{Null, Ref}
use Rattle.jm_values.proofs.Lists.{get_at, get_there, got_within}
use Rattle.jm_world.specs.Classes.{FoundField, class_named}
use Rattle.jm_world.specs.Fields.{name_of_field}
use Rattle.jm_world.specs.Initialization.{constant_value, constants_of, with_constant, with_constants}
use Rattle.jm_world.specs.Loading.{first_statics, literal_texts}
use Rattle.jm_world.specs.Matches.{Matches}
use Rattle.jm_world.specs.Next.{goes}
use Rattle.jm_world.specs.Objects.{FieldName, place_of_field, same_field}
use Rattle.jm_world.specs.Types.{array_of, narrow}
use Rattle.jm_world.specs.World.{World, Static, Literal, literal_in, set_static_in}
use Rattle.jm_world.proofs.FoundAgain.{place_within}
use Rattle.jm_heap.specs.declared.class_id.ClassId.{ClassId}
use Rattle.jm_tables.specs.Layouts.{static_fields}
use Rattle.jm_linked.specs.Links.{LinkedView, IsLinked, IsFieldOf}
use Rattle.jm_linked.specs.Named.{named_statics}
use Rattle.jm_linked.specs.Tables.{AreConstants, IsConstant, IsConstantOf, static_constant}
use Rattle.jm_linked.specs.declared.method.LinkedConstant.{LinkedConstant}
use Rattle.jm_linked.specs.declared.method.LinkedConstant.TheVariants as linked
use Rattle.jm_state.specs.Parts.{parts, program_class_name}
use Rattle.jm_state.specs.declared.halt.StepEnd.TheVariants.{Done}
use Rattle.jm_state.specs.declared.state.State.{State}
use Rattle.jm_interp.specs.declared.at.At.{At}
use Rattle.jm_interp.specs.At.{parts_at, Holds, OnFrames, Does}
use Rattle.jm_interp.specs.ConstantValues.{HasString, IsConstantValue, HasNumbers, BeginsWith, gives_constant, gives_constants}
use Rattle.jm_interp.proofs.ArrayStores.{narrowed_renamed, narrowed_refs}
use Rattle.jm_interp.proofs.After.{seen_after, then_does}
use Rattle.jm_interp.proofs.Initialized.{has_class}
use Rattle.jm_interp.proofs.LiteralRow.{literal_held, literal_is, text_found}
use Rattle.jm_interp.proofs.OnThread.{model, thread_there, does, does_as}
use Rattle.jm_interp.proofs.StaticStored.{fields, renamed, mid, mid_matches, mid_runs}

-- the value of a string's constant, by what is found of its literal
abbrev found : Option ℕ → Value
found o = elim o as (λ _. Value) [ None ↦ Null | Some k ↦ Ref k ]

-- the constants of a class of the program
module _ (l : LinkedView) (is : IsLinked l) (class : ℕ) (lt : class < length l.program) {table : List (List (Option LinkedConstant))}
    (table_is : table ≡ l.tables.constants) where
  pub constants_within : class < length table
  constants_within =
      let c = get_there l.program class lt in
      let row = is.tables.constants class c.0 c.1 in
      let within = got_within l.tables.constants class row.0 row.1 in
      subst (λ t. class < length t) (sym table_is) within

  pub constants_there : {row xs : List (Option LinkedConstant)} → row ≡ slice_index_or table class row → xs ≡ row → (c : ClassParts)
      → slice_get l.program class ≡ Some c → AreConstants l.program xs c.fields
  constants_there {row} {xs} read given c at =
      let known = is.tables.constants class c at in
      let there : slice_get l.tables.constants class ≡ Some row =
      subst (λ t. slice_get t class ≡ Some row) table_is (get_at table class row constants_within read) in
      let same : Some known.0 ≡ Some row = sym known.1 ∙ there in
      let it : known.0 ≡ row = cc in
      subst (λ r. AreConstants l.program r c.fields) (it ∙ sym given) known.2

-- a constant that is linked is a static field's
record IsKnown (program : List ClassParts) (x : LinkedConstant) (f : Field) : Type 0 where
  static : is_static f.flags ≡ true
  value : Constant
  value_is : f.constant ≡ Some value
  constant_is : IsConstant program x value

is_known : (program : List ClassParts) (x : LinkedConstant) (f : Field) → IsConstantOf program (Some x) (static_constant f) → IsKnown program x f
is_known program x f is = by (is_static f.flags) refl f.constant refl is
  where
    by : (b : Bool) → is_static f.flags ≡ b → (o : Option Constant) → f.constant ≡ o
        → IsConstantOf program (Some x) (elim b as (λ _. Option Constant) [ true ↦ o | false ↦ None ]) → IsKnown program x f
    by true s None e k = absurd k
    by true s (Some v) e k = record { static = s; value = v; value_is = e; constant_is = k }
    by false s o e k = absurd k

-- without one, nothing changes
without : (program : List ClassParts) (literals : List Literal) (c : ClassParts) (f : Field) (statics : List Static)
    → IsConstantOf program None (static_constant f) → with_constant literals c f f.constant statics ≡ statics
without program literals c f statics is = by (is_static f.flags) refl f.constant is
  where
    by : (b : Bool) → is_static f.flags ≡ b → (o : Option Constant)
        → IsConstantOf program None (elim b as (λ _. Option Constant) [ true ↦ o | false ↦ None ]) → with_constant literals c f o statics ≡ statics
    by b e None k = refl
    by true e (Some v) k = absurd k
    by false e (Some v) k = ap (λ b. elim b as (λ _. List Static) [
      | true ↦ set_static_in statics (record { class = c.name; name = f.name; type = f.descriptor }) (narrow f.descriptor (constant_value literals v))
      | false ↦ statics
    ]) e

-- a static field that is none of all stays nowhere
set_nowhere : (f : ℕ → ℕ) (ss : List Static) (vs : List Value) (sought : FieldName) (v : Value) → place_of_field (fields ss) sought ≡ None
    → set_static_in (renamed f (named_statics ss vs)) sought v ≡ renamed f (named_statics ss vs)
set_nowhere f [] vs sought v e = refl
set_nowhere f (s ∷ ss) [] sought v e = refl
set_nowhere f (s ∷ ss) (u ∷ vs) sought v e = by (set_nowhere f ss vs sought v) (same_field s.field sought) (place_of_field (fields ss) sought) refl e
  where
    by : (place_of_field (fields ss) sought ≡ None → set_static_in (renamed f (named_statics ss vs)) sought v ≡ renamed f (named_statics ss vs))
        → (b : Bool) (o : Option ℕ) → place_of_field (fields ss) sought ≡ o
        → (elim b as (λ _. Option ℕ) [ true ↦ Some 0 | false ↦ elim o [ None ↦ None | Some i ↦ Some (i + 1) ] ]) ≡ None
        → (elim b as (λ _. List Static) [
          | true ↦ record { field = s.field; value = v } ∷ renamed f (named_statics ss vs)
          | false ↦ record { field = s.field; value = rename f u } ∷ set_static_in (renamed f (named_statics ss vs)) sought v
        ]) ≡ renamed f (named_statics (s ∷ ss) (u ∷ vs))
    by rest true o is h = cc
    by rest false None is h = ap (λ x. let first : Static = record { field = s.field; value = rename f u } in first ∷ x) (rest is)
    by rest false (Some i) is h = cc

-- constants of fields up to one more
constants_more : (literals : List Literal) (c : ClassParts) (fs : List Field) (i : ℕ) (f : Field) (statics : List Static) → slice_get fs i ≡ Some f
    → with_constants literals c (take (suc i) fs) statics ≡ with_constant literals c f f.constant (with_constants literals c (take i fs) statics)
constants_more literals c [] i f statics at = cc
constants_more literals c (g ∷ fs) zero f statics at =
    let same : g ≡ f = cc in ap (λ (x : Field). with_constant literals c x x.constant statics) same
constants_more literals c (g ∷ fs) (suc i) f statics at = constants_more literals c fs i f (with_constant literals c g g.constant statics) at

constants_next : (literals : List Literal) (c : ClassParts) (fs : List Field) (i : ℕ) (f : Field) (statics : List Static) → slice_get fs i ≡ Some f
    → with_constants literals c (take (i + 1) fs) statics ≡ with_constant literals c f f.constant (with_constants literals c (take i fs) statics)
constants_next literals c fs i f statics at =
    let one : i + 1 ≡ suc i = omega arith in
    ap (λ k. with_constants literals c (take k fs) statics) one ∙ constants_more literals c fs i f statics at

-- fields and their constants, in their order
pub many_constants : (program : List ClassParts) (xs : List (Option LinkedConstant)) (fs : List Field) → AreConstants program xs fs → length xs ≡ length fs
many_constants program [] [] is = refl
many_constants program (x ∷ xs) (f ∷ fs) is = ap suc (many_constants program xs fs is.1)
many_constants program [] (f ∷ fs) is = absurd is
many_constants program (x ∷ xs) [] is = absurd is

constant_at : (program : List ClassParts) (xs : List (Option LinkedConstant)) (fs : List Field) → AreConstants program xs fs
    → (i : ℕ) (x : Option LinkedConstant)
    → slice_get xs i ≡ Some x → (f : Field) × (slice_get fs i ≡ Some f) × IsConstantOf program x (static_constant f)
constant_at program [] fs is i x at = cc
constant_at program (y ∷ xs) [] is i x at = absurd is
constant_at program (y ∷ xs) (f ∷ fs) is zero x at =
    let same : y ≡ x = cc in (f, refl, subst (λ z. IsConstantOf program z (static_constant f)) same is.0)
constant_at program (y ∷ xs) (f ∷ fs) is (suc i) x at = constant_at program xs fs is.1 i x at

-- a field of a class, and its constant
module _ {H : Type 0} {content : H → Content ClassId} {at : At} {old : State H} (h : OnFrames content at old) {class number field : ℕ}
    {c : ClassParts} {f : Field} where
  -- none changes nothing
  pub none_given : {x : Option LinkedConstant} → x ≡ None → BeginsWith at.linked.now.program class number field x c f
      → Does content at old (Ok Done) old (gives_constant c f)
  unfolding parts
  none_given {x} none begins = does h.on h.on.beside.runs (λ w m.
      let is = subst (λ y. IsConstantOf at.linked.now.program y (static_constant f)) none begins.constant_is in
      subst (λ ss. Matches (parts_at content at old) (record w { statics = ss })) (sym (without at.linked.now.program w.literals c f w.statics is)) m)

  module _ {x : LinkedConstant} (begins : BeginsWith at.linked.now.program class number field (Some x) c f) where
    known : IsKnown at.linked.now.program x f
    known = is_known at.linked.now.program x f begins.constant_is

    -- its number among the static fields of all classes
    abbrev pub found_field : FoundField
    found_field = record { class = c; field = f }

    pub is_numbered : IsFieldOf at.linked.now.program (record { class = number; member = field }) found_field
    is_numbered = record { class = begins.class_is.among_all; field = begins.field_is }

    pub static_there : is_static f.flags ≡ true
    static_there = known.static

    pub place_within_all : {n : ℕ} → Some n ≡ place_of_field (static_fields at.linked.now.program) (name_of_field found_field) → n < vec_len old.statics
    place_within_all {n} place =
        let below = place_within (static_fields at.linked.now.program) (name_of_field found_field) n (sym place) in
        let named = length-map (first_statics at.linked.now.program) (λ (s : Static). s.field) in
        let many = h.on.beside.runs.statics in
        let items = old.statics.ok.0 in
        omega arith

    pub has_string : HasString old.literals.items x
    has_string = by x known.constant_is
      where
        by : (y : LinkedConstant) → IsConstant at.linked.now.program y known.value → HasString old.literals.items y
        by (linked.Int n) is = tt
        by (linked.Long n) is = tt
        by (linked.Literal n) is =
            let within = got_within (literal_texts at.linked.now.program) n is.0 is.2 in let many = h.on.beside.runs.literals in omega arith

    abbrev field_name : FieldName
    field_name = name_of_field found_field

    abbrev given : World → Value
    given w = narrow f.descriptor (constant_value w.literals known.value)

    -- what the model gives the field
    given_is : (w : World) → with_constant w.literals c f f.constant w.statics ≡ set_static_in w.statics field_name (given w)
    given_is w =
        ap (λ o. with_constant w.literals c f o w.statics) known.value_is
        ∙ ap (λ b. elim b as (λ _. List Static) [ true ↦ set_static_in w.statics field_name (given w) | false ↦ w.statics ]) known.static

    module _ (v : Value) (read : IsConstantValue old.literals.items x v) where
      value_is : (w : World) → Matches (parts_at content at old) w → rename (name_of (content old.heap)) v ≡ constant_value w.literals known.value
      unfolding parts
      value_is w m = by x known.constant_is read
        where
          by : (y : LinkedConstant) → IsConstant at.linked.now.program y known.value → IsConstantValue old.literals.items y v
              → rename (name_of (content old.heap)) v ≡ constant_value w.literals known.value
          by (linked.Int n) is r = ap (rename (name_of (content old.heap))) r ∙ sym (ap (constant_value w.literals) is)
          by (linked.Long n) is r = ap (rename (name_of (content old.heap))) r ∙ sym (ap (constant_value w.literals) is)
          by (linked.Literal n) is r =
              ap (rename (name_of (content old.heap))) r.2
              ∙ sym (ap (constant_value w.literals) is.1 ∙ ap (λ ls. found (literal_in ls is.0)) (sym m.literals)
              ∙ ap found
              (literal_is (name_of (content old.heap)) (literal_texts at.linked.now.program) old.literals.items is.0 n r.0
              (text_found at.linked.now.program n is.0 is.2) r.1))

      value_held : Holds content at old v
      value_held = by x read
        where
          by : (y : LinkedConstant) → IsConstantValue old.literals.items y v → Holds content at old v
          by (linked.Int n) r q a = absurd (subst (λ z. Among q (refs z)) r a)
          by (linked.Long n) r q a = absurd (subst (λ z. Among q (refs z)) r a)
          by (linked.Literal n) r q a = literal_held h.on n r.0 r.1 q (subst (λ z. Among q (refs z)) r.2 a)

      -- the value that the field keeps
      module _ (kept : Value) (narrowed : kept ≡ narrow f.descriptor v) where
        kept_is : (w : World) → Matches (parts_at content at old) w → rename (name_of (content old.heap)) kept ≡ given w
        kept_is w m =
            ap (rename (name_of (content old.heap))) narrowed ∙ narrowed_renamed (name_of (content old.heap)) (array_of f.descriptor) v
            ∙ ap (narrow f.descriptor) (value_is w m)

        kept_held : Holds content at old kept
        kept_held q a = value_held q (subst (Among q) (ap refs narrowed ∙ narrowed_refs (array_of f.descriptor) v) a)

        pub constant_given : {n : ℕ} → Some n ≡ place_of_field (static_fields at.linked.now.program) field_name
            → Does content at old (Ok Done) (mid h.on n kept) (gives_constant c f)
        constant_given {n} place = does h.on (mid_runs h.on n kept) (λ w m.
            subst (λ ss. Matches (parts_at content at (mid h.on n kept)) (record w { statics = ss }))
            (ap (set_static_in w.statics field_name) (kept_is w m) ∙ sym (given_is w))
            (mid_matches h.on n kept kept_held field_name (sym place) w m))

        pub nowhere_given : None ≡ place_of_field (static_fields at.linked.now.program) field_name → Does content at old (Ok Done) old (gives_constant c f)
        unfolding parts
        nowhere_given place = does h.on h.on.beside.runs (λ w m.
            let f0 = name_of (content old.heap) in
            let ss = first_statics at.linked.now.program in
            let same : set_static_in w.statics field_name (given w) ≡ w.statics =
            ap (λ x. set_static_in x field_name (given w)) (sym m.statics)
            ∙ set_nowhere f0 ss old.statics.items field_name (given w) (sym place) ∙ m.statics in
            subst (λ x. Matches (parts_at content at old) (record w { statics = x })) (sym (given_is w ∙ same)) m)

-- the first fields of a class have theirs
abbrev pub GivenFirst : {H : Type 0} → (H → Content ClassId) → At → State H → ℕ → ℕ → State H → Type 0
GivenFirst content at old class i new = (c : ClassParts) → slice_get at.linked.now.program class ≡ Some c
    → Does content at old (Ok Done) new (λ w number t. goes (record w { statics = with_constants w.literals c (take i c.fields) w.statics }))

module _ {H : Type 0} {content : H → Content ClassId} {at : At} {old : State H} (h : OnFrames content at old) (class : ℕ) where
  module _ (c : ClassParts) (is : slice_get at.linked.now.program class ≡ Some c) (cur : State H) (i : ℕ) (first : GivenFirst content at old class i cur) where
    abbrev to : World → World
    to w = record w { statics = with_constants w.literals c (take i c.fields) w.statics }

    to_matches : (w : World) → Matches (parts_at content at old) w → Matches (parts_at content at cur) (to w)
    to_matches w m = (first c is).ends w (model h.on) m (thread_there h.on w m)

    pub frames_there : OnFrames content at cur
    frames_there =
        (seen_after h.on (first c is).runs to (λ w. model h.on) to_matches (thread_there h.on) (λ w. refl) h.on.world h.on.beside.matches).here

    -- one more has its constant
    given_more : (f : Field) → slice_get c.fields i ≡ Some f → {new : State H} → Does content at cur (Ok Done) new (gives_constant c f)
        → Does content at old (Ok Done) new (λ w number t. goes (record w { statics = with_constants w.literals c (take (i + 1) c.fields) w.statics }))
    given_more f there done = then_does h.on (first c is).runs to (λ w. model h.on) to_matches (thread_there h.on)
        (λ w m. ap (λ ss. goes (record w { statics = ss })) (constants_next w.literals c c.fields i f w.statics there)) done

    -- all have theirs
    pub all_given : length c.fields ≤ i → Does content at old (Ok Done) cur (gives_constants (program_class_name at.linked.now.program class))
    unfolding parts
    all_given e = does_as h.on (λ w m. m) (λ w m.
        let d = has_class at.linked.now h.on.beside.linked class (got_within at.linked.now.program class c is) in
        let found : class_named w.program (program_class_name at.linked.now.program class) ≡ Some c =
        ap (λ p. class_named p (program_class_name at.linked.now.program class)) (sym m.program)
        ∙ ap (class_named at.linked.now.program) d.named ∙ d.is_named ∙ sym d.at ∙ is in
        let all : take i c.fields ≡ c.fields = take_all i c.fields e in
        ap (λ o. goes (record w { statics = constants_of w o })) found
        ∙ sym (ap (λ fs. goes (record w { statics = with_constants w.literals c fs w.statics })) all)) (first c is)

  -- the constant of a field of the class by its number
  module _ {number : ℕ} {c : ClassParts} (has : HasNumbers at.linked.now.program class number c) (xs : List (Option LinkedConstant))
      (known : AreConstants at.linked.now.program xs c.fields) (i : ℕ) (lt : i < length xs) where
    abbrev its : Option LinkedConstant
    its = slice_index_or xs i None

    field_there : (f : Field) × (slice_get c.fields i ≡ Some f) × IsConstantOf at.linked.now.program its (static_constant f)
    field_there = constant_at at.linked.now.program xs c.fields known i its (slice_get-get_or xs i None lt)

    its_begins : BeginsWith at.linked.now.program class number i its c field_there.0
    its_begins = record { class_is = has; field_is = field_there.1; constant_is = field_there.2 }

    pub its_constant : (d : ClassParts) × (f : Field) × BeginsWith at.linked.now.program class number i its d f
    its_constant = (c, field_there.0, its_begins)

    pub more_given : {cur new : State H} → GivenFirst content at old class i cur
        → ((d : ClassParts) (f : Field) → BeginsWith at.linked.now.program class number i its d f → Does content at cur (Ok Done) new (gives_constant d f))
        → GivenFirst content at old class (i + 1) new
    more_given {cur} {new} first done d is =
        let same : Some c ≡ Some d = sym has.own ∙ is in
        let it : c ≡ d = cc in
        subst (λ (y : ClassParts). Does content at old (Ok Done) new (λ w number t.
        goes (record w { statics = with_constants w.literals y (take (i + 1) y.fields) w.statics })))
        it (given_more c has.own cur i first field_there.0 field_there.1 (done c field_there.0 its_begins))
