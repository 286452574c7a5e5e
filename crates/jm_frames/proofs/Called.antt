-- The local variables of arguments, one after the other.
use Rattle.std.proofs.Common.{◌≡◌, ℕ, zero, suc, ◌+◌, ◌-◌, ◌<◌, ◌≤◌, List, [], ◌∷◌, ◌++◌, Option, Some, None, get_or, length, take, drop, replicate, refl, sym, ap, subst, ◌∙◌, arith}
use Rattle.std.proofs.Common.{length-append, append_assoc}
use Rattle.std.specs.Prelude.{reverse}
use Rattle.std.proofs.lemmas.List.{append-nil, length-drop, length-reverse, reverse-append, reverse-reverse, take-append-drop, take_all, take_at, take_more}
use Rattle.jm_values.specs.Activation.{category}
use Rattle.jm_values.specs.declared.value.Value.{Value}
use Rattle.jm_values.specs.declared.value.Value.TheVariants.{Int, Long, Null, Ref}
use Rattle.jm_frames.specs.Called.{argument_locals, arguments_on, called, locals_of}
use Rattle.jm_frames.specs.FrameView.{FrameView}

-- an argument takes its category of local variables
argument_length : (v : Value) → length (argument_locals v) ≡ category v
argument_length (Int n) = refl
argument_length (Long n) = refl
argument_length Null = refl
argument_length (Ref p) = refl

locals_append : (xs ys : List Value) → locals_of (xs ++ ys) ≡ locals_of xs ++ locals_of ys
locals_append [] ys = refl
locals_append (x ∷ xs) ys =
    ap (λ l. argument_locals x ++ l) (locals_append xs ys) ∙ sym (append_assoc (argument_locals x) (locals_of xs) (locals_of ys))

-- those of one argument more
pub locals_more : (vs : List Value) (i : ℕ) (v : Value) → i < length vs → v ≡ get_or vs i v
    → locals_of (take (i + 1) vs) ≡ locals_of (take i vs) ++ argument_locals v
locals_more vs i v within at =
    let more : take (i + 1) vs ≡ take i vs ++ v ∷ [] = rw (take_more vs i v within, ← at) refl in
    ap locals_of more ∙ locals_append (take i vs) (v ∷ []) ∙ ap (λ l. locals_of (take i vs) ++ l) (append-nil (argument_locals v))

-- the first arguments take no more local variables than all
taken_length : (vs : List Value) (i : ℕ) → length (locals_of (take i vs)) ≤ length (locals_of vs)
taken_length [] zero = omega arith
taken_length [] (suc i) = omega arith
taken_length (v ∷ vs) zero = omega arith
taken_length (v ∷ vs) (suc i) =
    let rest = taken_length vs i in
    omega (arith, rest, length-append (argument_locals v) (locals_of (take i vs)), length-append (argument_locals v) (locals_of vs))

-- so there is room for each
pub argument_has_room : (vs : List Value) (i : ℕ) (v : Value) → i < length vs → v ≡ get_or vs i v
    → length (locals_of (take i vs)) + category v ≤ length (locals_of vs)
argument_has_room vs i v within at =
    let more = ap length (locals_more vs i v within at) ∙ length-append (locals_of (take i vs)) (argument_locals v) in
    omega (arith, more, argument_length v, taken_length vs (i + 1))

-- so many operands of a stack that has its top last are those on top
pub last_are : (operands s : List Value) (count n : ℕ) → reverse operands ≡ s → count ≤ length s → n ≡ length operands
    → take (length operands - (n - count)) (drop (n - count) operands) ≡ arguments_on count s
last_are operands s count n is within long =
    let k = n - count in
    let last = drop k operands in
    let size = length-drop k operands in
    let turned : s ≡ reverse last ++ reverse (take k operands) =
    sym is ∙ ap reverse (sym (take-append-drop k operands)) ∙ reverse-append (take k operands) last in
    let many : length (reverse last) ≡ count = omega (arith, length-reverse last, size, ap length is, length-reverse operands, within, long) in
    take_all (length operands - k) last (omega (arith, size))
    ∙ sym (reverse-reverse last)
    ∙ ap reverse (sym (ap (take count) turned ∙ take_at (reverse last) (reverse (take k operands)) count many))

-- the frame of a method that begins, by its parts
abbrev beginning : ℕ → ℕ → List (Option Value) → List Value → FrameView
beginning method max_stack locals s = record {
  method = method;
  monitor = None;
  activation = record { at = 0; max_stack = max_stack; locals = locals; stack = reverse s };
}

pub is_called : (method max_stack max_locals : ℕ) {m n : ℕ} {arguments got none : List (Option Value)} (values : List Value) {stack : List Value}
    → m ≡ max_stack → n ≡ max_locals → none ≡ [] → got ≡ none ++ locals_of values → arguments ≡ got ++ replicate (n - length got) None → stack ≡ []
    → beginning method m arguments stack ≡ called method max_stack max_locals values
is_called method max_stack max_locals {m} {n} {arguments} {got} {none} values {stack} top locals empty is padded empty_stack =
    let own : got ≡ locals_of values = is ∙ ap (λ l. l ++ locals_of values) empty in
    let all : arguments ≡ locals_of values ++ replicate (max_locals - length (locals_of values)) None =
    padded ∙ ap (λ k. got ++ replicate (k - length got) None) locals ∙ ap (λ l. l ++ replicate (max_locals - length l) None) own in
    ap (λ k. beginning method k arguments stack) top
    ∙ ap (λ l. beginning method max_stack l stack) all
    ∙ ap (beginning method max_stack (locals_of values ++ replicate (max_locals - length (locals_of values)) None)) empty_stack
