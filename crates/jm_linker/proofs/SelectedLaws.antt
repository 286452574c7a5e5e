-- What is gathered of each class for the table of the methods that are selected.
use Rattle.std.proofs.Common.{◌≡◌, ℕ, ◌+◌, ◌<◌, ◌^◌, ◌-◌, true, false, List, [], ◌∷◌, ◌++◌, Option, Some, None, length, length-append, get_or, take, map}
use Rattle.std.proofs.Common.{refl, sym, ap, ◌∙◌, subst, arith}
use Rattle.std.proofs.lemmas.List.{take_more}
use Rattle.std.proofs.lemmas.List.Elements.{All-nil, All-push}
use Rattle.std.proofs.lemmas.Option.{slice_get_read}
use Rattle.std.specs.Prelude.{is_some, option_map, option_to_list, slice_get, slice_index_or}
use Rattle.std.specs.List.{All}
use Rattle.jm_program.specs.declared.class.ClassParts.{ClassParts}
use Rattle.jm_program.specs.declared.class.Method.{Method}
use Rattle.jm_program.specs.declared.descriptor.MethodDescriptor.{MethodDescriptor}
use Rattle.jm_program.proofs.Sequences.{each_and_last}
use Rattle.jm_builtins.specs.List.{the_builtins}
use Rattle.jm_world.specs.Classes.{FoundMethod, as_class, class_named, height}
use Rattle.jm_world.specs.Hierarchy.{parents}
use Rattle.jm_world.specs.Loads.{Loads}
use Rattle.jm_world.specs.Resolution.{counts, resolve_method}
use Rattle.jm_world.proofs.CalledMethods.{resolved_got}
use Rattle.jm_tables.specs.declared.table.Cell.{Cell}
use Rattle.jm_tables.specs.Tables.{IsCellOf}
use Rattle.jm_tables.specs.MethodTables.{AreMethods, DeclaresMethods}
use Rattle.jm_tables.specs.Numbering.{name_of}
use Rattle.jm_tables.specs.declared.inheritance.Declared.{Declared}
use Rattle.jm_linked.specs.Links.{class_numbered}
use Rattle.jm_linked.specs.Methods.{all_methods, methods_in, selector_of}
use Rattle.jm_linked.specs.Tables.{all_names}
use Rattle.jm_linked.specs.declared.instruction.MemberNumber.{MemberNumber}
use Rattle.jm_linked.proofs.Names.{are_names, name_numbered, found_numbered}
use Rattle.jm_linker.specs.FoundNumbers.{NumbersMethod}
use Rattle.jm_linker.specs.Inherited.{AreClasses, first_of}
use Rattle.jm_linker.specs.Selectors.{AreOwn, AreOwnCells, AreTheirMethods, IsItsMethods, StandFrom}
use Rattle.jm_linker.proofs.InheritedLaws.{got, once_numbered, top_is}
use Rattle.jm_linker.proofs.MainLaws.{none_before}
use Rattle.jm_linker.proofs.SelectorLaws.{first_alike, first_there, first_within, length_to, method_is_named, method_there, no_own, own_more, own_past}

-- so many methods stand before those of the class of a number
pub methods_before : List ClassParts → ℕ → ℕ
methods_before program n = length (methods_in (take n (map as_class the_builtins ++ program)))

pub none_so_far : (program : List ClassParts) → 0 ≡ methods_before program 0
unfolding methods_before
none_so_far program = refl

pub they_stand : (program : List ClassParts) (n before : ℕ) (c : ClassParts) → class_numbered program n ≡ Some c → before ≡ methods_before program n
    → StandFrom program before c
unfolding all_methods methods_before
they_stand program n before c at is = λ i m there.
    ap (λ k. slice_get (methods_in (map as_class the_builtins ++ program)) (k + i)) is ∙ method_there (map as_class the_builtins ++ program) n i c m at there

-- a method of all has a selector
pub standing_selector : (program : List ClassParts) (n : ℕ) (found : FoundMethod) → slice_get (all_methods program) n ≡ Some found
    → is_some (selector_of program found.method.name found.method.descriptor) ≡ true
unfolding selector_of
standing_selector program n found at = first_there 0 (all_methods program) n found at

pub selector_within : (program : List ClassParts) (name : List ℕ) (t : MethodDescriptor) (n : ℕ) → selector_of program name t ≡ Some n
    → n < length (all_methods program)
unfolding selector_of
selector_within program name t n e = let within = first_within 0 (all_methods program) name t n e in omega (arith, within)

-- one more of the methods so far
to_one_more : (ms : List Method) (i : ℕ) (m : Method) → i < length ms → m ≡ get_or ms i m → take (i + 1) ms ≡ take i ms ++ m ∷ []
to_one_more ms i m l is = rw (take_more ms i m l, ← is) refl

pub cells_past : (program : List ClassParts) (c : ClassParts) (ms : List Method) (i : ℕ) (m : Method) (cells : List Cell) → i < length ms → m ≡ get_or ms i m
    → counts false m ≡ false → AreOwnCells program c (take i ms) cells → AreOwnCells program c (take (i + 1) ms) cells
cells_past program c ms i m cells l is passed h = record {
  own = λ once. subst (λ xs. AreOwn program c xs cells) (sym (to_one_more ms i m l is)) (own_past program c (take i ms) m cells passed (h.own once));
  cells = h.cells;
}

pub cells_more : (program : List ClassParts) (c : ClassParts) (i : ℕ) (m : Method) (cells : List Cell) (column number : ℕ) → i < length c.methods
    → m ≡ get_or c.methods i m → counts false m ≡ true → selector_of program m.name m.descriptor ≡ Some column → number < 2 ^ 32 - 1
    → slice_get (all_methods program) number ≡ Some (record { class = c; method = m }) → AreOwnCells program c (take i c.methods) cells
    → AreOwnCells program c (take (i + 1) c.methods) (cells ++ record { column = column; number = number } ∷ [])
cells_more program c i m cells column number l is counted selected fits there h = record {
  own = λ once. subst (λ xs. AreOwn program c xs (cells ++ record { column = column; number = number } ∷ [])) (sym (to_one_more c.methods i m l is))
      (own_more program c (take i c.methods) m cells column number counted selected there
      (none_before [] c.methods i m once (slice_get_read c.methods (length c.methods) i m refl l is)) (h.own once));
  cells = All-push (IsCellOf (length (all_methods program))) cells (record { column = column; number = number }) h.cells
      (selector_within program m.name m.descriptor column selected, fits);
}

pub no_cells : (program : List ClassParts) (c : ClassParts) → AreOwnCells program c [] []
no_cells program c = record { own = λ once. no_own program c; cells = All-nil (IsCellOf (length (all_methods program))) }

-- the method that a name and a type mean has a selector
pub found_selector : (program : List ClassParts) (class name : List ℕ) (t : MethodDescriptor) (n : MemberNumber)
    → NumbersMethod program (resolve_method program class name t) n → is_some (selector_of program name t) ≡ true
unfolding selector_of all_methods
found_selector program class name t n numbers =
    let found = numbers.found in
    let named = method_is_named found.class.methods name t found.method (resolved_got program class name t found numbers.is).1 in
    let all = map as_class the_builtins ++ program in
    ap is_some (sym (first_alike 0 (methods_in all) found.method.name name found.method.descriptor t named))
    ∙ first_there 0 (methods_in all) (length (methods_in (take n.class all)) + n.member) found
    (method_there all n.class n.member found.class found.method numbers.numbered.class numbers.numbered.method)

-- one more class
pub no_methods : (program : List ClassParts) (hs : List Declared) → AreTheirMethods program hs 0 []
no_methods program hs = record { length = refl; each = λ n d e. cc }

pub methods_more : (program : List ClassParts) (hs : List Declared) (n : ℕ) (ds : List Declared) (d : Declared) → AreTheirMethods program hs n ds
    → IsItsMethods program hs n d → AreTheirMethods program hs (n + 1) (ds ++ d ∷ [])
methods_more program hs n ds d are is = record {
  length = let many = are.length in length-append ds (d ∷ []) ∙ ap (λ k. k + 1) many;
  each = each_and_last (IsItsMethods program hs) ds d are.each (subst (λ k. IsItsMethods program hs k d) (sym are.length) is);
}

pub one_class_on : (program : List ClassParts) (n before more : ℕ) (c : ClassParts) → class_numbered program n ≡ Some c → before ≡ methods_before program n
    → more ≡ before + length c.methods → more ≡ methods_before program (n + 1)
unfolding methods_before
one_class_on program n before more c at is sum =
    sum ∙ ap (λ k. k + length c.methods) is ∙ sym (length_to (map as_class the_builtins ++ program) n c at)

-- the methods of a program that loads, for a selector
named_list : (f : ℕ → List ℕ) (o : Option ℕ) → map f (option_to_list o) ≡ option_to_list (option_map f o)
named_list f None = refl
named_list f (Some n) = refl

list_within : (bound : ℕ) (s : Option (List ℕ)) (above : List ℕ) → All (λ n. n < bound) above → All (λ n. n < bound) (option_to_list (first_of s above))
list_within bound None above h = All-nil (λ n. n < bound)
list_within bound (Some name) [] h = All-nil (λ n. n < bound)
list_within bound (Some name) (n ∷ ns) h = All-push (λ k. k < bound) [] n (All-nil (λ k. k < bound)) (h 0 n (omega arith))

pub are_methods : (program : List ClassParts) (hs ds : List Declared) → Loads program → AreClasses program (height program) hs
    → AreTheirMethods program hs (length hs) ds → (name : List ℕ) (t : MethodDescriptor) (selector : ℕ) → selector_of program name t ≡ Some selector
    → AreMethods program (all_names program) (all_methods program) selector name t ds
are_methods program hs ds loads declarations are name t selector e =
    let names = are_names program loads in
    record {
      named = names;
      many = are.length ∙ declarations.length ∙ sym names.many;
      each = λ n d at. declares n d (are.each n d at);
    }
  where
    declares : (n : ℕ) (d : Declared) → IsItsMethods program hs n d → DeclaresMethods program (all_names program) (all_methods program) selector name t n d
    declares n d is =
        let declaration = declarations.each n is.declaration is.declaration_is in
        let same : declaration.parts ≡ is.parts = cc in
        let above = declaration.above.named ∙ ap (λ (c : ClassParts). parents (Some c)) same in
        record {
          parts = is.parts;
          named = ap (class_named program) (name_numbered program n is.parts is.numbered) ∙ found_numbered program loads n is.parts is.numbered;
          above = ap (map (name_of (all_names program))) is.superclass ∙ named_list (name_of (all_names program)) (first_of is.parts.superclass is.declaration.above.items)
              ∙ ap option_to_list (top_is (name_of (all_names program)) is.parts.superclass is.parts.interfaces is.declaration.above.items above);
          within = subst (All (λ k. k < length (all_names program))) (sym is.superclass)
              (list_within (length (all_names program)) is.parts.superclass is.declaration.above.items declaration.above.within);
          own = is.own.own (once_numbered program loads n is.parts is.numbered).1 name t selector e;
        }

-- each cell is one of a table with a column for each method
pub method_cells : (program : List ClassParts) (hs : List Declared) (n : ℕ) (ds : List Declared) → AreTheirMethods program hs n ds
    → All (λ (d : Declared). All (IsCellOf (length (all_methods program))) d.own.items) ds
method_cells program hs n ds are = λ k d within. (are.each k (slice_index_or ds k d) (got ds k d within)).own.cells
