-- The local variables of a call, argument by argument.
use Rattle.std.proofs.Common.{◌≡◌, ℕ, suc, zero, ◌+◌, ◌-◌, ◌<◌, ◌≤◌, List, [], ◌∷◌, ◌++◌, Option, Some, None, length, take}
use Rattle.std.proofs.Common.{refl, sym, ap, ◌∙◌, subst, arith}
use Rattle.std.proofs.Common.{length-append, append_assoc}
use Rattle.std.specs.Prelude.{replicate, slice_set, slice_get}
use Rattle.std.proofs.lemmas.List.{append-nil}
use Rattle.jm_program.proofs.Sequences.{one_more_taken}
use Rattle.jm_values.specs.Activation.{category}
use Rattle.jm_values.specs.declared.value.Value.{Value}
use Rattle.jm_values.specs.declared.value.Value.TheVariants.{Int, Long, Null, Ref}
use Rattle.jm_world.specs.Invocation.{argument_locals, locals_of, unset, padded}
use Rattle.jm_world.proofs.LocalsOfCalls.{unset_length}
use Rattle.jm_frames.specs.Called as of_frame
use Rattle.jm_frames.specs.FrameView.{FrameView, with_locals_of}
use Rattle.jm_state.specs.Arguments.{beginning}
use Rattle.jm_state.specs.declared.arguments.Callee.{Callee}

put_at : {X : Type 0} (xs ys : List X) (x y : X) → slice_set (xs ++ x ∷ ys) (length xs) y ≡ xs ++ y ∷ ys
put_at [] ys x y = refl
put_at (z ∷ xs) ys x y = ap (λ l. z ∷ l) (put_at xs ys x y)

padded_by : (m k : ℕ) (xs : List (Option Value)) → length xs + k ≡ m → padded m xs ≡ xs ++ unset k
padded_by m k xs e = let left : m - length xs ≡ k = omega arith in ap (λ n. xs ++ unset n) left

-- an argument that takes one local variable, and one that takes two
one_put : (m : ℕ) (xs : List (Option Value)) (v : Value) → length xs + 1 ≤ m
    → slice_set (padded m xs) (length xs) (Some v) ≡ padded m (xs ++ Some v ∷ [])
one_put m xs v room =
    let k = m - (length xs + 1) in
    let own : length xs + suc k ≡ m = omega arith in
    let both : length (xs ++ Some v ∷ []) ≡ length xs + 1 = length-append xs (Some v ∷ []) in
    let rest : length (xs ++ Some v ∷ []) + k ≡ m = omega arith in
    ap (λ l. slice_set l (length xs) (Some v)) (padded_by m (suc k) xs own)
    ∙ put_at xs (unset k) None (Some v)
    ∙ sym (append_assoc xs (Some v ∷ []) (unset k))
    ∙ sym (padded_by m k (xs ++ Some v ∷ []) rest)

two_put : (m : ℕ) (xs : List (Option Value)) (v : Value) → length xs + 2 ≤ m
    → slice_set (padded m xs) (length xs) (Some v) ≡ padded m (xs ++ Some v ∷ None ∷ [])
two_put m xs v room =
    let k = m - (length xs + 2) in
    let own : length xs + suc (suc k) ≡ m = omega arith in
    let both : length (xs ++ Some v ∷ None ∷ []) ≡ length xs + 2 = length-append xs (Some v ∷ None ∷ []) in
    let rest : length (xs ++ Some v ∷ None ∷ []) + k ≡ m = omega arith in
    ap (λ l. slice_set l (length xs) (Some v)) (padded_by m (suc (suc k)) xs own)
    ∙ put_at xs (unset (suc k)) None (Some v)
    ∙ sym (append_assoc xs (Some v ∷ None ∷ []) (unset k))
    ∙ sym (padded_by m k (xs ++ Some v ∷ None ∷ []) rest)

-- an argument takes its category of local variables
pub category_is : (v : Value) → length (argument_locals v) ≡ category v
category_is (Int n) = refl
category_is (Long n) = refl
category_is Null = refl
category_is (Ref p) = refl

argument_put : (m : ℕ) (xs : List (Option Value)) (v : Value) → length xs + category v ≤ m
    → slice_set (padded m xs) (length xs) (Some v) ≡ padded m (xs ++ argument_locals v)
argument_put m xs (Int n) room = one_put m xs (Int n) room
argument_put m xs (Long n) room = two_put m xs (Long n) room
argument_put m xs Null room = one_put m xs Null room
argument_put m xs (Ref p) room = one_put m xs (Ref p) room

locals_both : (xs ys : List Value) → locals_of (xs ++ ys) ≡ locals_of xs ++ locals_of ys
locals_both [] ys = refl
locals_both (x ∷ xs) ys = ap (λ l. argument_locals x ++ l) (locals_both xs ys) ∙ sym (append_assoc (argument_locals x) (locals_of xs) (locals_of ys))

-- the words of frames for them are the same
argument_same : (v : Value) → of_frame.argument_locals v ≡ argument_locals v
argument_same (Int n) = refl
argument_same (Long n) = refl
argument_same Null = refl
argument_same (Ref p) = refl

pub locals_same : (vs : List Value) → of_frame.locals_of vs ≡ locals_of vs
locals_same [] = refl
locals_same (v ∷ vs) = ap (λ l. l ++ of_frame.locals_of vs) (argument_same v) ∙ ap (λ l. argument_locals v ++ l) (locals_same vs)

-- a frame of the method with these local variables
abbrev pub called : Callee → List (Option Value) → FrameView
called c locals = record {
  method = c.method;
  monitor = c.monitor;
  activation = record { at = 0; max_stack = c.max_stack; locals = locals; stack = [] };
}

-- the frame has the local variables of the first so many arguments, and the next one goes to this one
pub record Handed (c : Callee) (arguments : List Value) (i local : ℕ) (frame : FrameView) : Type 0 where
  pub local_is : local ≡ length (locals_of (take i arguments))
  pub frame_is : frame ≡ called c (padded c.max_locals (locals_of (take i arguments)))

pub unset_are : (m : ℕ) → replicate m None ≡ unset m
unset_are zero = refl
unset_are (suc m) = ap (λ l. None ∷ l) (unset_are m)

-- a frame that another one calls begins as the model says
pub called_begins : (c : Callee) (arguments : List Value) → c.monitor ≡ None
    → of_frame.called c.method c.max_stack c.max_locals arguments ≡ beginning c arguments
called_begins c arguments free =
    let rest = c.max_locals - length (locals_of arguments) in
    ap (λ monitor. record {
      method = c.method;
      monitor = monitor;
      activation = (of_frame.called c.method c.max_stack c.max_locals arguments).activation;
    }) (sym free)
    ∙ ap (λ l. called c (l ++ replicate (c.max_locals - length l) None)) (locals_same arguments)
    ∙ ap (λ l. called c (locals_of arguments ++ l)) (unset_are rest)

pub none_handed : (c : Callee) (arguments : List Value) (frame : FrameView) → frame ≡ called c (replicate c.max_locals None)
    → Handed c arguments 0 0 frame
none_handed c arguments frame e = record {
  local_is = refl;
  frame_is = e ∙ ap (called c) (unset_are c.max_locals ∙ sym (padded_by c.max_locals c.max_locals [] (omega arith)));
}

next_locals : (arguments : List Value) (i : ℕ) (v : Value) → slice_get arguments i ≡ Some v
    → locals_of (take (i + 1) arguments) ≡ locals_of (take i arguments) ++ argument_locals v
next_locals arguments i v e =
    ap (λ k. locals_of (take k arguments)) (let next : i + 1 ≡ suc i = omega arith in next)
    ∙ ap locals_of (one_more_taken arguments i v e)
    ∙ locals_both (take i arguments) (v ∷ [])
    ∙ ap (λ l. locals_of (take i arguments) ++ l) (append-nil (argument_locals v))

-- what the first so many take is no more than what all take
some_locals : (arguments : List Value) (i : ℕ) → length (locals_of (take i arguments)) ≤ length (locals_of arguments)
some_locals [] zero = omega arith
some_locals [] (suc i) = omega arith
some_locals (v ∷ vs) zero = omega arith
some_locals (v ∷ vs) (suc i) =
    let rest = some_locals vs i in
    let own : length (locals_of (take (suc i) (v ∷ vs))) ≡ length (argument_locals v) + length (locals_of (take i vs)) =
    length-append (argument_locals v) (locals_of (take i vs)) in
    let all : length (locals_of (v ∷ vs)) ≡ length (argument_locals v) + length (locals_of vs) = length-append (argument_locals v) (locals_of vs) in
    omega arith

-- room for the next one
pub next_fits : (c : Callee) (arguments : List Value) (i local : ℕ) (frame : FrameView) (v : Value) → length (locals_of arguments) ≤ c.max_locals
    → Handed c arguments i local frame → slice_get arguments i ≡ Some v → local + category v ≤ c.max_locals
next_fits c arguments i local frame v room h e =
    let more = ap length (next_locals arguments i v e) ∙ length-append (locals_of (take i arguments)) (argument_locals v) in
    let most = some_locals arguments (i + 1) in
    let own = h.local_is in
    let size = category_is v in
    omega arith

category_some : (v : Value) → 1 ≤ category v
category_some (Int n) = omega arith
category_some (Long n) = omega arith
category_some Null = omega arith
category_some (Ref p) = omega arith

pub next_within : (c : Callee) (arguments : List Value) (i local : ℕ) (frame : FrameView) (v : Value) → length (locals_of arguments) ≤ c.max_locals
    → Handed c arguments i local frame → slice_get arguments i ≡ Some v → local < length frame.activation.locals
next_within c arguments i local frame v room h e =
    let fits = next_fits c arguments i local frame v room h e in
    let some = category_some v in
    let xs = locals_of (take i arguments) in
    let own = h.local_is in
    let size : length frame.activation.locals ≡ length xs + length (unset (c.max_locals - length xs)) =
    ap (λ (f : FrameView). length f.activation.locals) h.frame_is ∙ length-append xs (unset (c.max_locals - length xs)) in
    let left = unset_length (c.max_locals - length xs) in
    omega arith

pub one_handed : (c : Callee) (arguments : List Value) (i local : ℕ) (frame new : FrameView) (v : Value) → length (locals_of arguments) ≤ c.max_locals
    → Handed c arguments i local frame → slice_get arguments i ≡ Some v
    → new ≡ with_locals_of frame (slice_set frame.activation.locals local (Some v))
    → Handed c arguments (i + 1) (local + category v) new
one_handed c arguments i local frame new v room h e set =
    let fits = next_fits c arguments i local frame v room h e in
    let xs = locals_of (take i arguments) in
    let own = h.local_is in
    record {
      local_is = ap (λ n. n + category v) own ∙ ap (λ n. length xs + n) (sym (category_is v))
          ∙ sym (length-append xs (argument_locals v)) ∙ ap length (sym (next_locals arguments i v e));
      frame_is = set
          ∙ ap (λ (f : FrameView). with_locals_of f (slice_set f.activation.locals local (Some v))) h.frame_is
          ∙ ap (λ n. called c (slice_set (padded c.max_locals xs) n (Some v))) own
          ∙ ap (called c) (argument_put c.max_locals xs v (subst (λ n. n + category v ≤ c.max_locals) own fits))
          ∙ ap (λ l. called c (padded c.max_locals l)) (sym (next_locals arguments i v e));
    }
