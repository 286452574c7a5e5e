-- The first row with a name is the one that a search finds, and the rows of the table name what the groups do.
use Rattle.std.proofs.Common.{◌≡◌, ℕ, Bool, true, false, cond, List, [], ◌∷◌, ◌++◌, Option, Some, codes, refl, ap, ◌∙◌}
use Rattle.std.specs.Prelude.{find, map}
use Rattle.std.specs.Option.{option_map}
use Rattle.jm_program.specs.Names.{same_text}
use Rattle.jm_class_format.specs.declared.opcode.Opcode.{Opcode}
use Rattle.jm_class_format.specs.Symbols.{or_else}
use Rattle.jm_class_format.specs.Opcodes.{opcodes, constants, loads, stores, stack, math, conversions, comparisons, control, references, extended}
use Rattle.jm_jasmin_ops.specs.Mnemonics.{mnemonic, by_word, in_rows, opcode_named}

chosen : {X : Type 0} (b : Bool) (value : X → Opcode) (x : X) (o : Option Opcode) (p : Option X) → o ≡ option_map value p → cond b (Some (value x)) o ≡ option_map value (cond b (Some x) p)
chosen true value x o p h = refl
chosen false value x o p h = h

pub by_word_find : {X : Type 0} (name : X → List ℕ) (value : X → Opcode) (rows : List X) (word : List ℕ) → by_word name value rows word ≡ option_map value (find (λ (x : X). same_text (name x) word) rows)
by_word_find name value [] word = refl
by_word_find {X} name value (row ∷ rows) word = chosen (same_text (name row) word) value row (by_word name value rows word) (find (λ (x : X). same_text (name x) word) rows) (by_word_find name value rows word)

-- ---- the rows of the table

-- rows that say the same in the same order name the same
same_rows : {X : Type 0} (name : X → List ℕ) (value : X → Opcode) (xs : List X) (rows : List (ℕ × Opcode)) (word : List ℕ)
    → map name xs ≡ map mnemonic (map (λ (row : ℕ × Opcode). row.1) rows) → map value xs ≡ map (λ (row : ℕ × Opcode). row.1) rows
    → by_word name value xs word ≡ in_rows rows word
unfolding in_rows
same_rows name value [] [] word e f = refl
same_rows name value [] (row ∷ rows) word e f = cc
same_rows name value (x ∷ xs) [] word e f = cc
same_rows name value (x ∷ xs) (row ∷ rows) word e f =
    let names : name x ≡ mnemonic row.1 = cc in
    let values : value x ≡ row.1 = cc in
    let others : by_word name value xs word ≡ in_rows rows word = same_rows name value xs rows word (cc) (cc) in
    ap (λ (n : List ℕ). cond (same_text n word) (Some (value x)) (by_word name value xs word)) names
    ∙ ap (λ (v : Opcode). cond (same_text (mnemonic row.1) word) (Some v) (by_word name value xs word)) values
    ∙ ap (λ (o : Option Opcode). cond (same_text (mnemonic row.1) word) (Some row.1) o) others

chosen_else : (b : Bool) (op : Opcode) (o p q : Option Opcode) → o ≡ or_else p q → cond b (Some op) o ≡ or_else (cond b (Some op) p) q
chosen_else true op o p q h = refl
chosen_else false op o p q h = h

-- what no row of the first ones names, those behind them do
behind : (xs ys : List (ℕ × Opcode)) (word : List ℕ) → in_rows (xs ++ ys) word ≡ or_else (in_rows xs word) (in_rows ys word)
unfolding in_rows
behind [] ys word = refl
behind (x ∷ xs) ys word = chosen_else (same_text (mnemonic x.1) word) x.1 (in_rows (xs ++ ys) word) (in_rows xs word) (in_rows ys word) (behind xs ys word)

by_table : {X : Type 0} (name : X → List ℕ) (value : X → Opcode) (xs : List X) (word : List ℕ) → map value xs ≡ opcodes → map name xs ≡ map mnemonic opcodes
    → by_word name value xs word
    ≡ or_else (in_rows constants word) (or_else (in_rows loads word) (or_else (in_rows stores word) (or_else (in_rows stack word) (or_else (in_rows math word)
    (or_else (in_rows conversions word) (or_else (in_rows comparisons word) (or_else (in_rows control word) (or_else (in_rows references word) (in_rows extended word)))))))))
unfolding opcodes
by_table name value xs word values names =
    same_rows name value xs (constants ++ (loads ++ (stores ++ (stack ++ (math ++ (conversions ++ (comparisons ++ (control ++ (references ++ extended))))))))) word names values
    ∙ simp behind

otherwise : (b : Bool) (x y : Option Opcode) → false ≡ b → y ≡ cond b x y
otherwise true x y h = cc
otherwise false x y h = refl

pub named_by_table : {X : Type 0} (name : X → List ℕ) (value : X → Opcode) (xs : List X) (word : List ℕ) → map value xs ≡ opcodes → map name xs ≡ map mnemonic opcodes
    → false ≡ same_text word (codes "invokenonvirtual") → by_word name value xs word ≡ opcode_named word
unfolding opcode_named
named_by_table name value xs word values names other = by_table name value xs word values names ∙ otherwise _ _ _ other
