-- Operands popped one by one.
use Rattle.std.proofs.Common.{◌≡◌, ℕ, suc, zero, ◌+◌, ◌-◌, ◌≤◌, List, [], ◌∷◌, ◌++◌, Some, None, true, false, Bool}
use Rattle.std.proofs.Common.{refl, sym, ap, ◌∙◌, subst, length, reverse, take, drop, arith}
use Rattle.std.proofs.lemmas.List.{reverse-append, reverse-reverse, length-reverse}
use Rattle.std.specs.Prelude.{map, slice_get, Result, Err}
use Rattle.jm_program.specs.declared.descriptor.FieldType.{FieldType}
use Rattle.jm_program.specs.declared.instruction.operation.OperandType.{OperandType}
use Rattle.jm_program.proofs.Sequences.{one_more_taken}
use Rattle.jm_values.specs.Steps.{is_of}
use Rattle.jm_values.specs.declared.fault.TagFault.{TagFault}
use Rattle.jm_values.specs.declared.fault.TagFault.TheVariants.{Underflow, WrongTag}
use Rattle.jm_values.specs.declared.value.Value.{Value}
use Rattle.jm_world.specs.Here.{with_arguments}
use Rattle.jm_world.specs.Next.{Next, faults}
use Rattle.jm_world.specs.Types.{operand_of}
use Rattle.jm_state.specs.Arguments.{popped, with_popped, on_top}

pub are_popped : (types : List FieldType) (arguments s : List Value) (go : List Value → List Value → Next)
    → with_arguments types arguments s go ≡ with_popped (popped (map operand_of types) arguments s) go
are_popped [] arguments s go = refl
are_popped (t ∷ ts) arguments [] go = refl
are_popped (t ∷ ts) arguments (v ∷ s) go = by (is_of (operand_of t) v) (are_popped ts (v ∷ arguments) s go)
  where
    by : (b : Bool) → with_arguments ts (v ∷ arguments) s go ≡ with_popped (popped (map operand_of ts) (v ∷ arguments) s) go
        → (elim b as (λ _. Next) [ true ↦ with_arguments ts (v ∷ arguments) s go | false ↦ faults WrongTag ])
        ≡ with_popped (elim b as (λ _. Result (List Value × List Value) TagFault) [
          | true ↦ popped (map operand_of ts) (v ∷ arguments) s
          | false ↦ Err WrongTag
        ]) go
    by true rest = rest
    by false rest = refl

-- so many have been popped
pub record Popped (types : List OperandType) (s : List Value) (depth : ℕ) : Type 0 where
  pub within : depth ≤ length s
  pub so_far : popped types [] s ≡ popped (drop depth types) (on_top depth s) (drop depth s)

dropped_next : {X : Type 0} (xs : List X) (i : ℕ) (x : X) → slice_get xs i ≡ Some x → drop i xs ≡ x ∷ drop (suc i) xs
dropped_next [] i x e = cc
dropped_next (y ∷ ys) zero x e = let same : y ≡ x = cc in ap (λ z. z ∷ ys) same
dropped_next (y ∷ ys) (suc i) x e = dropped_next ys i x e

there : {X : Type 0} (xs : List X) (i : ℕ) (x : X) → slice_get xs i ≡ Some x → suc i ≤ length xs
there [] i x e = cc
there (y ∷ ys) zero x e = omega arith
there (y ∷ ys) (suc i) x e = let rest = there ys i x e in omega arith

-- the next type and the next operand
next_popped : (types : List OperandType) (s : List Value) (i : ℕ) (t : OperandType) (v : Value) (arguments : List Value)
    → slice_get types i ≡ Some t → slice_get s i ≡ Some v
    → popped (drop i types) arguments (drop i s)
    ≡ (elim (is_of t v) as (λ _. Result (List Value × List Value) TagFault) [
      | true ↦ popped (drop (suc i) types) (v ∷ arguments) (drop (suc i) s)
      | false ↦ Err WrongTag
    ])
next_popped types s i t v arguments e f =
    ap (λ ts. popped ts arguments (drop i s)) (dropped_next types i t e)
    ∙ ap (popped (t ∷ drop (suc i) types) arguments) (dropped_next s i v f)

pub one_popped : (types : List OperandType) (s : List Value) (i : ℕ) (t : OperandType) (v : Value) → Popped types s i
    → slice_get types i ≡ Some t → slice_get s i ≡ Some v → is_of t v ≡ true → Popped types s (i + 1)
one_popped types s i t v p e f fits =
    let next : suc i ≡ i + 1 = omega arith in
    subst (Popped types s) next (record {
      within = there s i v f;
      so_far = p.so_far
          ∙ next_popped types s i t v (on_top i s) e f
          ∙ ap (λ b. elim b as (λ _. Result (List Value × List Value) TagFault) [
            | true ↦ popped (drop (suc i) types) (v ∷ on_top i s) (drop (suc i) s)
            | false ↦ Err WrongTag
          ]) fits
          ∙ ap (λ l. popped (drop (suc i) types) l (drop (suc i) s)) (sym (ap reverse (one_more_taken s i v f) ∙ reverse-append (take i s) (v ∷ [])));
    })

pub wrong_type : (types : List OperandType) (s : List Value) (i : ℕ) (t : OperandType) (v : Value) → Popped types s i
    → slice_get types i ≡ Some t → slice_get s i ≡ Some v → is_of t v ≡ false → popped types [] s ≡ Err WrongTag
wrong_type types s i t v p e f fits =
    p.so_far
    ∙ next_popped types s i t v (on_top i s) e f
    ∙ ap (λ b. elim b as (λ _. Result (List Value × List Value) TagFault) [
      | true ↦ popped (drop (suc i) types) (v ∷ on_top i s) (drop (suc i) s)
      | false ↦ Err WrongTag
    ]) fits

past : {X : Type 0} (xs : List X) (i : ℕ) → slice_get xs i ≡ None → drop i xs ≡ []
past [] zero e = refl
past [] (suc i) e = refl
past (y ∷ ys) zero e = cc
past (y ∷ ys) (suc i) e = past ys i e

pub too_few : (types : List OperandType) (s : List Value) (i : ℕ) (t : OperandType) → Popped types s i
    → slice_get types i ≡ Some t → slice_get s i ≡ None → popped types [] s ≡ Err Underflow
too_few types s i t p e f =
    p.so_far
    ∙ ap (λ ts. popped ts (on_top i s) (drop i s)) (dropped_next types i t e)
    ∙ ap (popped (t ∷ drop (suc i) types) (on_top i s)) (past s i f)

-- so many from the top of a list that has the top last
split_at : {X : Type 0} (xs : List X) (k : ℕ) → xs ≡ take k xs ++ drop k xs
split_at [] zero = refl
split_at [] (suc k) = refl
split_at (x ∷ xs) zero = refl
split_at (x ∷ xs) (suc k) = ap (λ l. x ∷ l) (split_at xs k)

front_is : {X : Type 0} (a b : List X) → take (length a) (a ++ b) ≡ a
front_is [] b = refl
front_is (x ∷ a) b = ap (λ l. x ∷ l) (front_is a b)

reversed_length : {X : Type 0} (xs : List X) → length (reverse xs) ≡ length xs
reversed_length xs = length-reverse xs

dropped_length : {X : Type 0} (xs : List X) (k : ℕ) → k ≤ length xs → length (drop k xs) ≡ length xs - k
dropped_length [] zero e = refl
dropped_length [] (suc k) e = absurd (omega arith)
dropped_length (x ∷ xs) zero e = omega arith
dropped_length (x ∷ xs) (suc k) e = let rest = dropped_length xs k (omega arith) in omega arith

pub last_are : (operands s : List Value) (count n : ℕ) → reverse operands ≡ s → count ≤ length s → n ≡ length operands
    → drop (n - count) operands ≡ on_top count s
last_are operands s count n e within same =
    let k = length operands - count in
    let many : length (reverse operands) ≡ length operands = reversed_length operands in
    let long : length s ≡ length operands = ap length (sym e) ∙ many in
    let last = drop k operands in
    let own : length (reverse last) ≡ length last = reversed_length last in
    let has : length last ≡ length operands - k = dropped_length operands k (omega arith) in
    let size : count ≡ length (reverse last) = omega arith in
    let turned : s ≡ reverse last ++ reverse (take k operands) = sym e ∙ ap reverse (split_at operands k) ∙ reverse-append (take k operands) last in
    ap (λ m. drop (m - count) operands) same
    ∙ sym (reverse-reverse last)
    ∙ ap reverse (sym (ap (take count) turned
    ∙ ap (λ c. take c (reverse last ++ reverse (take k operands))) size
    ∙ front_is (reverse last) (reverse (take k operands))))

pub taken_all : {X : Type 0} (xs : List X) → take (length xs) xs ≡ xs
taken_all [] = refl
taken_all (x ∷ xs) = ap (λ l. x ∷ l) (taken_all xs)

pub last_taken : (operands s : List Value) (count : ℕ) → reverse operands ≡ s → count ≤ length s
    → take (length operands - (length operands - count)) (drop (length operands - count) operands) ≡ on_top count s
last_taken operands s count e within =
    let last = drop (length operands - count) operands in
    let size : length last ≡ length operands - (length operands - count) = dropped_length operands (length operands - count) (omega arith) in
    ap (λ k. take k last) (sym size) ∙ taken_all last ∙ last_are operands s count (length operands) e within refl
