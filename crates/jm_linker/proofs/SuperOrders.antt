-- An order of classes in which each comes after those right above it puts each after its superclass.
use Rattle.std.proofs.Common.{◌≡◌, ℕ, zero, suc, ◌+◌, ◌<◌, List, [], ◌∷◌, Option, Some, None, length, refl, sym, ap, subst, ◌∙◌, arith}
use Rattle.std.proofs.lemmas.List.Elements.{All-nil, All-push}
use Rattle.std.proofs.lemmas.Option.{slice_get_within}
use Rattle.std.specs.Prelude.{slice_get, option_to_list, IfSome}
use Rattle.std.specs.List.{All}
use Rattle.jm_program.specs.declared.class.ClassParts.{ClassParts}
use Rattle.jm_tables.specs.Extents.{IsTopDown}
use Rattle.jm_tables.specs.Inheriting.{IsOrder, StandsBefore}
use Rattle.jm_tables.specs.declared.extent.DeclaredFields.{DeclaredFields}
use Rattle.jm_tables.specs.declared.inheritance.Declared.{Declared}
use Rattle.jm_values.proofs.Lists.{get_there}
use Rattle.jm_linker.specs.Inherited.{AreTheirFields, first_of}
use Rattle.jm_linker.specs.Selectors.{AreTheirMethods}

first_stands : (P : ℕ → Type 0) (s : Option (List ℕ)) (above : List ℕ) → All P above → IfSome (first_of s above) P
first_stands P None above all = tt
first_stands P (Some name) [] all = tt
first_stands P (Some name) (n ∷ ns) all = all 0 n (omega arith)

list_stands : (P : ℕ → Type 0) (o : Option ℕ) → IfSome o P → All P (option_to_list o)
list_stands P None h = All-nil P
list_stands P (Some n) h = All-push P [] n (All-nil P) h

same_declaration : (a b : Declared) → Some a ≡ Some b → a ≡ b
same_declaration a b e = cc

pub fields_order : (program : List ClassParts) (declarations : List Declared) (fields : List DeclaredFields) (order : List ℕ)
    → AreTheirFields program declarations (length declarations) fields → IsOrder declarations order → IsTopDown fields order
fields_order program declarations fields order are is = record {
  many = is.many ∙ sym are.length;
  all = λ class l. let long = are.length in is.all class (omega (arith, l, long));
  after = λ i class at. after i class (is.after i class at);
}
  where
    after : (i class : ℕ) → (d : Declared) × (slice_get declarations class ≡ Some d) × All (StandsBefore order i) d.above.items
        → (d : DeclaredFields) × (slice_get fields class ≡ Some d) × IfSome d.superclass (StandsBefore order i)
    after i class declaration =
        let long = are.length in
        let within = slice_get_within declarations class declaration.0 declaration.1 in
        let d = get_there fields class (omega (arith, within, long)) in
        let its = are.each class d.0 d.1 in
        let same = same_declaration declaration.0 its.declaration (sym declaration.1 ∙ its.declaration_is) in
        let above = subst (λ (h : Declared). All (StandsBefore order i) h.above.items) same declaration.2 in (
          d.0,
          d.1,
          subst (λ (o : Option ℕ). IfSome o (StandsBefore order i)) (sym its.superclass)
              (first_stands (StandsBefore order i) its.parts.superclass its.declaration.above.items above),
        )

pub methods_order : (program : List ClassParts) (declarations methods : List Declared) (order : List ℕ)
    → AreTheirMethods program declarations (length declarations) methods → IsOrder declarations order → IsOrder methods order
methods_order program declarations methods order are is = record {
  few = (let long = are.length in let few = is.few in omega (arith, long, few));
  many = is.many ∙ sym are.length;
  all = λ class l. let long = are.length in is.all class (omega (arith, l, long));
  after = λ i class at. after i class (is.after i class at);
}
  where
    after : (i class : ℕ) → (d : Declared) × (slice_get declarations class ≡ Some d) × All (StandsBefore order i) d.above.items
        → (d : Declared) × (slice_get methods class ≡ Some d) × All (StandsBefore order i) d.above.items
    after i class declaration =
        let long = are.length in
        let within = slice_get_within declarations class declaration.0 declaration.1 in
        let d = get_there methods class (omega (arith, within, long)) in
        let its = are.each class d.0 d.1 in
        let same = same_declaration declaration.0 its.declaration (sym declaration.1 ∙ its.declaration_is) in
        let above = subst (λ (h : Declared). All (StandsBefore order i) h.above.items) same declaration.2 in (
          d.0,
          d.1,
          subst (All (StandsBefore order i)) (sym its.superclass)
              (list_stands (StandsBefore order i) (first_of its.parts.superclass its.declaration.above.items)
              (first_stands (StandsBefore order i) its.parts.superclass its.declaration.above.items above)),
        )
