-- The instance fields of a class: its own stand behind those of its superclasses.
use Rattle.std.proofs.Common.{◌≡◌, ℕ, zero, suc, ◌+◌, ◌-◌, ◌<◌, ◌≤◌, List, [], ◌∷◌, ◌++◌, Option, Some, None, false, refl, sym, ap, ◌∙◌, subst, length, arith}
use Rattle.std.proofs.Common.{length-append}
use Rattle.std.proofs.lemmas.List.{length-map}
use Rattle.std.specs.Prelude.{IfSome, ◌==◌, map, option_map, slice_get, unwrap_or}
use Rattle.jm_program.specs.declared.class.ClassParts.{ClassParts}
use Rattle.jm_program.specs.declared.class.Field.{Field}
use Rattle.jm_program.proofs.Sequences.{got_within}
use Rattle.jm_builtins.specs.List.{the_builtins}
use Rattle.jm_builtins.specs.Numbers.{built_in_names}
use Rattle.jm_world.specs.Classes.{class_named, height}
use Rattle.jm_world.specs.Hierarchy.{chain, up_from}
use Rattle.jm_world.specs.Objects.{FieldName, field_names, instance_fields, own_instance_fields}
use Rattle.jm_world.specs.Types.{instance_of}
use Rattle.jm_tables.specs.Layouts.{size_at}
use Rattle.jm_tables.specs.Numbering.{name_of}
use Rattle.jm_tables.proofs.PlaceLaws.{as_many_names, fields_are, fields_down}
use Rattle.jm_linked.specs.Links.{LinkedView, IsLinked, NamesClass, class_name_of, class_names, class_numbered}
use Rattle.jm_linked.specs.Tables.{IsSuperclass, all_names}
use Rattle.jm_linked.proofs.Names.{found_numbered, name_numbered}
use Rattle.jm_machine.specs.InstanceFields.{AreFieldsOf, not_static}
use Rattle.jm_machine.specs.Seen.{fields_of_type}
use Rattle.jm_machine.specs.declared.instance_fields.ClassFields.{ClassFields}
use Rattle.jm_machine.proofs.ClassNumbers.{in_second}

-- a class's own fields, by name
abbrev named : List ℕ → Field → FieldName
named class f = record { class = class; name = f.name; type = f.descriptor }

names_at : (c : ClassParts) (fs : List Field) (i : ℕ) → option_map (named c.name) (slice_get fs i) ≡ slice_get (field_names c fs) i
names_at c [] i = refl
names_at c (f ∷ fs) zero = refl
names_at c (f ∷ fs) (suc i) = names_at c fs i

pub own_is : (d : ClassFields) (program : List ClassParts) (class : ℕ) (are : AreFieldsOf program class d) (number : ℕ) (f : Option Field)
    → f ≡ slice_get (not_static d.fields.now) number → option_map (named d.class.now) f ≡ slice_get (own_instance_fields are.declaring) number
own_is d program class are number f e =
    ap (option_map (named d.class.now)) (e ∙ ap (λ fs. slice_get (not_static fs) number) are.fields)
    ∙ ap (λ n. option_map (named n) (slice_get (not_static are.declaring.fields) number)) are.name
    ∙ names_at are.declaring (not_static are.declaring.fields) number

-- how many classes there are
pub all_counted : (program : List ClassParts) → length (all_names program) ≡ length the_builtins + length program
unfolding all_names
all_counted program =
    length-append built_in_names (map (λ (c : ClassParts). c.name) program)
    ∙ ap (λ n. length built_in_names + n) (length-map program (λ (c : ClassParts). c.name))

-- the fields of the classes from one of a number up, over at most so many
abbrev pub fields_up : List ClassParts → ℕ → ℕ → List FieldName
fields_up program n class = fields_down (up_from n program (name_of (all_names program) class))

-- and from a superclass, if there is one
abbrev fields_above : List ClassParts → ℕ → Option ℕ → List FieldName
fields_above program n None = []
fields_above program n (Some s) = fields_up program n s

fields_are_up : (program : List ClassParts) (class : ℕ) → instance_fields program (name_of (all_names program) class) ≡ fields_up program (height program) class
unfolding instance_fields chain
fields_are_up program class = fields_are (up_from (height program) program (name_of (all_names program) class))

one_up : (l : LinkedView) → IsLinked l → (n class : ℕ) (c : ClassParts) (s : Option ℕ) → class_numbered l.program class ≡ Some c
    → option_map (name_of (all_names l.program)) s ≡ c.superclass → fields_up l.program (suc n) class ≡ fields_above l.program n s ++ own_instance_fields c
one_up l is n class c s at above =
    ap (λ o. fields_down (elim o as (λ _. List ClassParts)
    [ None ↦ [] | Some c ↦ elim c.superclass as (λ _. List ClassParts) [ None ↦ c ∷ [] | Some s ↦ c ∷ up_from n l.program s ] ]))
    (ap (class_named l.program) (name_numbered l.program class c at) ∙ found_numbered l.program is.loads class c at)
    ∙ ap (λ o. fields_down (elim o as (λ _. List ClassParts) [ None ↦ c ∷ [] | Some s ↦ c ∷ up_from n l.program s ])) (sym above)
    ∙ by s
  where
    by : (s : Option ℕ)
        → fields_down (elim (option_map (name_of (all_names l.program)) s) as (λ _. List ClassParts) [ None ↦ c ∷ [] | Some s ↦ c ∷ up_from n l.program s ])
        ≡ fields_above l.program n s ++ own_instance_fields c
    by None = refl
    by (Some s) = refl

-- the field of a number is sought among those of a class and of all above, of which there are so many
pub record Sought (program : List ClassParts) (class number left at above : ℕ) : Type 0 where
  pub within : at < length (all_names program)
  pub many : above ≡ length (fields_up program left at)
  pub rest : slice_get (instance_fields program (name_of (all_names program) class)) number ≡ slice_get (fields_up program left at) number

module _ (l : LinkedView) (is : IsLinked l) (class number : ℕ) (within : class < length (all_names l.program)) where
  sized : size_at l.tables.layout class ≡ Some (length (instance_fields l.program (name_of (all_names l.program) class)))
  sized = is.tables.layout.sizes class within

  pub has_size : size_at l.tables.layout class ≡ None → ⊥
  has_size e = let bad = sym e ∙ sized in cc

  pub sought_first : (size : ℕ) → size_at l.tables.layout class ≡ Some size → Sought l.program class number (height l.program) class size
  sought_first size e =
      let same : Some size ≡ Some (length (instance_fields l.program (name_of (all_names l.program) class))) = sym e ∙ sized in
      let many : size ≡ length (instance_fields l.program (name_of (all_names l.program) class)) = cc in
      record {
        within = within;
        many = many ∙ ap length (fields_are_up l.program class);
        rest = ap (λ xs. slice_get xs number) (fields_are_up l.program class);
      }

-- past the last class nothing is left
pub sought_last : (program : List ClassParts) (class number left at above : ℕ) → Sought program class number left at above → left ≡ 0
    → slice_get (instance_fields program (name_of (all_names program) class)) number ≡ None
sought_last program class number left at above w e = w.rest ∙ ap (λ n. slice_get (fields_up program n at) number) e

-- in a class, its own fields are passed or the field is one of them
module _ (l : LinkedView) (is : IsLinked l) {class number left at above : ℕ} (w : Sought l.program class number left at above) (more : 0 < left) {d : ClassFields}
    (are : AreFieldsOf l.program at d) {s : Option ℕ} (extends : IsSuperclass l.program are.declaring.superclass s) {count : ℕ}
    (counted : count ≡ length (not_static d.fields.now)) where
  abbrev over : List FieldName
  over = fields_above l.program (left - 1) s

  abbrev own : List FieldName
  own = own_instance_fields are.declaring

  split : fields_up l.program left at ≡ over ++ own
  split =
      let next : left ≡ suc (left - 1) = omega (arith, more) in
      ap (λ n. fields_up l.program n at) next ∙ one_up l is (left - 1) at are.declaring s are.numbered extends.named

  sum : above ≡ length over + count
  sum =
      w.many ∙ ap length split ∙ length-append over own
      ∙ ap (λ n. length over + n)
      (as_many_names are.declaring (not_static are.declaring.fields) ∙ ap (λ fs. length (not_static fs)) (sym are.fields) ∙ sym counted)

  pub enough : count ≤ above
  enough = let all = sum in omega (arith, all)

  pub own_sought : above - count ≤ number
      → slice_get (instance_fields l.program (name_of (all_names l.program) class)) number ≡ slice_get own (number - (above - count))
  own_sought past =
      let all = sum in
      w.rest ∙ ap (λ xs. slice_get xs number) split ∙ in_second over own number (number - (above - count)) (omega (arith, past, all))

  further_up : number < above - count → slice_get (instance_fields l.program (name_of (all_names l.program) class)) number ≡ slice_get over number
  further_up before =
      let all = sum in w.rest ∙ ap (λ xs. slice_get xs number) split ∙ got_within over own number (omega (arith, before, all))

  pub none_above : s ≡ None → number < above - count → slice_get (instance_fields l.program (name_of (all_names l.program) class)) number ≡ None
  none_above e before = further_up before ∙ ap (λ x. slice_get (fields_above l.program (left - 1) x) number) e

  pub sought_above : {next : ℕ} → s ≡ Some next → number < above - count → Sought l.program class number (left - 1) next (above - count)
  sought_above {next} e before =
      let all = sum in
      let many : above - count ≡ length over = omega (arith, all) in
      record {
        within = subst (λ x. IfSome x (λ n. n < length (all_names l.program))) e extends.within;
        many = many ∙ ap (λ x. length (fields_above l.program (left - 1) x)) e;
        rest = further_up before ∙ ap (λ x. slice_get (fields_above l.program (left - 1) x) number) e;
      }

-- a class that is told by a name has the number
pub names_it : (program : List ClassParts) (class : ℕ) → 0 < length (class_name_of program class) → NamesClass program class (class_name_of program class)
unfolding class_name_of
names_it program class more = by (slice_get (class_names program) class) more
  where
    by : (o : Option (List ℕ)) → 0 < length (unwrap_or o []) → o ≡ Some (unwrap_or o [])
    by None h = absurd (omega (arith, h))
    by (Some x) h = refl

pub fields_of_nameless : (program : List ClassParts) (name : List ℕ) → length name ≡ 0 → fields_of_type program (instance_of name) ≡ []
fields_of_nameless program [] e = refl
fields_of_nameless program (u ∷ us) e = absurd (omega (arith, e))

pub not_empty : (name : List ℕ) → false ≡ (length name == 0) → 0 < length name
not_empty [] e = cc
not_empty (u ∷ us) e = omega arith

pub fields_of_named : (program : List ClassParts) (name : List ℕ) → 0 < length name → fields_of_type program (instance_of name) ≡ instance_fields program name
fields_of_named program [] h = absurd (omega (arith, h))
fields_of_named program (u ∷ us) h = refl
