-- The literals of a program's parts are the program's.
use Rattle.std.proofs.Common.{◌≡◌, ℕ, zero, suc, Bool, true, false, List, [], ◌∷◌, ◌++◌, Some, None, refl, sym, ap, ◌∙◌}
use Rattle.std.specs.Cmp.Lexicographic as texts
use Rattle.std.specs.Prelude.{is_some, slice_get}
use Rattle.std.specs.List.{flat_map}
use Rattle.jm_program.specs.Names.{same_text}
use Rattle.jm_program.specs.declared.class.ClassParts.{ClassParts}
use Rattle.jm_program.specs.declared.class.Field.{Field}
use Rattle.jm_program.specs.declared.class.Method.{Method}
use Rattle.jm_program.specs.declared.code.Code.{Code}
use Rattle.jm_program.specs.declared.instruction.symbolic.Instr.{Instr}
use Rattle.jm_program.proofs.Texts.{text_itself, text_is}
use Rattle.jm_world.specs.Loading.{distinct_after, has_text, literal_texts, texts_of_class, texts_of_field, texts_of_instruction, texts_of_method}
use Rattle.jm_tables.specs.Texts.{number_of_text}
use Rattle.jm_tables.proofs.TextLaws.{there_by_number}
use Rattle.jm_linker.specs.Literals.{AreLiterals}

has_first : (xs ys : List (List ℕ)) (text : List ℕ) → has_text text xs ≡ true → has_text text (xs ++ ys) ≡ true
has_first [] ys text e = cc
has_first (x ∷ xs) ys text e = by (same_text x text) (has_first xs ys text) e
  where
    by : (t : Bool) → (has_text text xs ≡ true → has_text text (xs ++ ys) ≡ true)
        → (elim t as (λ _. Bool) [ true ↦ true | false ↦ has_text text xs ]) ≡ true
        → (elim t as (λ _. Bool) [ true ↦ true | false ↦ has_text text (xs ++ ys) ]) ≡ true
    by true rest g = refl
    by false rest g = rest g

has_second : (xs ys : List (List ℕ)) (text : List ℕ) → has_text text ys ≡ true → has_text text (xs ++ ys) ≡ true
has_second [] ys text e = e
has_second (x ∷ xs) ys text e = by (same_text x text) (has_second xs ys text e)
  where
    by : (t : Bool) → has_text text (xs ++ ys) ≡ true → (elim t as (λ _. Bool) [ true ↦ true | false ↦ has_text text (xs ++ ys) ]) ≡ true
    by true rest = refl
    by false rest = rest

-- what an item of a list has, the list has
has_part : {A : Type 0} (texts : A → List (List ℕ)) (xs : List A) (n : ℕ) (x : A) (text : List ℕ) → slice_get xs n ≡ Some x → has_text text (texts x) ≡ true
    → has_text text (flat_map texts xs) ≡ true
has_part texts [] n x text at e = cc
has_part texts (y ∷ ys) zero x text at e = let same : y ≡ x = cc in has_first (texts y) (flat_map texts ys) text (ap (λ z. has_text text (texts z)) same ∙ e)
has_part texts (y ∷ ys) (suc n) x text at e = has_second (texts y) (flat_map texts ys) text (has_part texts ys n x text at e)

-- the distinct ones of some texts are all of them that were not there
same_has : (a b text : List ℕ) (seen : List (List ℕ)) → same_text a text ≡ true → has_text a seen ≡ true → has_text text seen ≡ true
same_has a b text seen s e = ap (λ t. has_text t seen) (sym (text_is a text s)) ∙ e

distinct_has : (seen xs : List (List ℕ)) (text : List ℕ) → has_text text seen ≡ false → has_text text xs ≡ true → has_text text (distinct_after seen xs) ≡ true
distinct_has seen [] text new e = cc
distinct_has seen (x ∷ xs) text new e =
    by (has_text x seen) (same_text x text) refl refl e (distinct_has seen xs text new) (distinct_has (x ∷ seen) xs text)
  where
    unseen : same_text x text ≡ false → has_text text (x ∷ seen) ≡ false
    unseen s = ap (λ t. elim t as (λ _. Bool) [ true ↦ true | false ↦ has_text text seen ]) s ∙ new

    by : (h s : Bool) → has_text x seen ≡ h → same_text x text ≡ s → (elim s as (λ _. Bool) [ true ↦ true | false ↦ has_text text xs ]) ≡ true
        → (has_text text xs ≡ true → has_text text (distinct_after seen xs) ≡ true)
        → (has_text text (x ∷ seen) ≡ false → has_text text xs ≡ true → has_text text (distinct_after (x ∷ seen) xs) ≡ true)
        → has_text text (elim h as (λ _. List (List ℕ)) [ true ↦ distinct_after seen xs | false ↦ x ∷ distinct_after (x ∷ seen) xs ]) ≡ true
    by true true h s g old fresh = let there = same_has x x text seen s h in cc
    by true false h s g old fresh = old g
    by false true h s g old fresh = ap (λ t. elim t as (λ _. Bool) [ true ↦ true | false ↦ has_text text (distinct_after (x ∷ seen) xs) ]) s
    by false false h s g old fresh =
        ap (λ t. elim t as (λ _. Bool) [ true ↦ true | false ↦ has_text text (distinct_after (x ∷ seen) xs) ]) s ∙ fresh (unseen s) g

class_literals : (program : List ClassParts) (n : ℕ) (c : ClassParts) → slice_get program n ≡ Some c → AreLiterals program (texts_of_class c)
unfolding AreLiterals
class_literals program n c at = λ text has. distinct_has [] (flat_map texts_of_class program) text refl (has_part texts_of_class program n c text at has)

-- those of a method's code
pub code_literals : (program : List ClassParts) (n i : ℕ) (c : ClassParts) (m : Method) (code : Code) → slice_get program n ≡ Some c
    → slice_get c.methods i ≡ Some m → m.code ≡ Some code → AreLiterals program (flat_map texts_of_instruction code.instructions)
unfolding AreLiterals
code_literals program n i c m code class method is = λ text has.
    let own : has_text text (texts_of_method m) ≡ true =
    ap (λ o. has_text text (elim o as (λ _. List (List ℕ)) [ None ↦ [] | Some k ↦ flat_map texts_of_instruction k.instructions ])) is ∙ has in
    class_literals program n c class text
    (has_second (flat_map texts_of_field c.fields) (flat_map texts_of_method c.methods) text (has_part texts_of_method c.methods i m text method own))

-- those of a class's fields
pub class_field_literals : (program : List ClassParts) (n : ℕ) (c : ClassParts) → slice_get program n ≡ Some c
    → AreLiterals program (flat_map texts_of_field c.fields)
unfolding AreLiterals
class_field_literals program n c at = λ text has.
    class_literals program n c at text (has_first (flat_map texts_of_field c.fields) (flat_map texts_of_method c.methods) text has)

-- those of a field
pub field_literals : (program : List ClassParts) (fields : List Field) (n : ℕ) (f : Field) → AreLiterals program (flat_map texts_of_field fields)
    → slice_get fields n ≡ Some f → AreLiterals program (texts_of_field f)
unfolding AreLiterals
field_literals program fields n f all at = λ text has. all text (has_part texts_of_field fields n f text at has)

-- those of an instruction
pub instruction_literals : (program : List ClassParts) (instructions : List Instr) (n : ℕ) (i : Instr) → AreLiterals program (flat_map texts_of_instruction instructions)
    → slice_get instructions n ≡ Some i → AreLiterals program (texts_of_instruction i)
unfolding AreLiterals
instruction_literals program instructions n i all at = λ text has. all text (has_part texts_of_instruction instructions n i text at has)

pub has_number : (program : List ClassParts) (text : List ℕ) → AreLiterals program (text ∷ []) → number_of_text (literal_texts program) text ≡ None → ⊥
unfolding AreLiterals
has_number program text are none =
    let has : has_text text (text ∷ []) ≡ true = ap (λ t. elim t as (λ _. Bool) [ true ↦ true | false ↦ false ]) (text_itself text) in
    let there : has_text text (literal_texts program) ≡ true = are text has in
    let not : has_text text (literal_texts program) ≡ false = there_by_number (literal_texts program) text ∙ ap is_some none in
    let bad : true ≡ false = sym there ∙ not in cc
