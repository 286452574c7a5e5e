-- Main's frame, as it is made.
use Rattle.std.proofs.Common.{◌≡◌, ℕ, zero, suc, ◌-◌, List, [], ◌∷◌, Option, Some, None, refl, ap, ◌∙◌, replicate, max, get_or, arith}
use Rattle.std.specs.Prelude.{slice_get, slice_set}
use Rattle.std.proofs.lemmas.Option.{get_or_from_slice_get}
use Rattle.jm_values.specs.declared.value.Value.{Value}
use Rattle.jm_values.specs.declared.value.Value.TheVariants.{Ref}
use Rattle.jm_world.specs.Invocation.{padded, unset, locals_of}
use Rattle.jm_frames.specs.FrameView.{FrameView}
use Rattle.jm_linked.specs.declared.method.LinkedMethod.{LinkedMethod}

unset_locals : (n : ℕ) → replicate {A = Option Value} n None ≡ unset n
unset_locals zero = refl
unset_locals (suc n) = ap (λ xs. None ∷ xs) (unset_locals n)

-- the locals of a method, at least one, of which the first is set
locals_set : (n locals array : ℕ) → locals ≡ max n 1 → slice_set (replicate {A = Option Value} locals None) 0 (Some (Ref array)) ≡ padded n (locals_of (Ref array ∷ []))
locals_set zero locals array e = ap (λ k. slice_set (replicate {A = Option Value} k None) 0 (Some (Ref array))) e
locals_set (suc n) locals array e =
    let more : locals ≡ suc n = e ∙ omega arith in
    let rest : n ≡ suc n - 1 = omega arith in
    ap (λ k. slice_set (replicate {A = Option Value} k None) 0 (Some (Ref array))) more
    ∙ ap (λ xs. Some (Ref array) ∷ xs) (unset_locals n)
    ∙ ap (λ k. Some (Ref array) ∷ unset k) rest

pub method_is : (ms them : List LinkedMethod) (i number : ℕ) (x m : LinkedMethod) → x ≡ get_or ms i x → ms ≡ them → i ≡ number → slice_get them number ≡ Some m → x ≡ m
method_is ms them i number x m read same at e = read ∙ ap (λ (ys : List LinkedMethod). get_or ys i x) same ∙ ap (λ k. get_or them k x) at ∙ get_or_from_slice_get them number m x e

pub frame_is : (i number locals array : ℕ) (x m : LinkedMethod) (made frame : FrameView)
    → made ≡ record { method = i; monitor = None; activation = record { at = 0; max_stack = x.max_stack; locals = replicate locals None; stack = [] } }
    → frame ≡ record { method = made.method; monitor = made.monitor; activation = record { at = made.activation.at; max_stack = made.activation.max_stack; locals = slice_set made.activation.locals 0 (Some (Ref array)); stack = made.activation.stack } }
    → i ≡ number → locals ≡ max x.max_locals 1 → x ≡ m
    → frame ≡ record { method = number; monitor = None; activation = record { at = 0; max_stack = m.max_stack; locals = padded m.max_locals (locals_of (Ref array ∷ [])); stack = [] } }
frame_is i number locals array x m made frame is_made is_set at most same =
    is_set
    ∙ ap (λ (f : FrameView). record { method = f.method; monitor = f.monitor; activation = record { at = f.activation.at; max_stack = f.activation.max_stack; locals = slice_set f.activation.locals 0 (Some (Ref array)); stack = f.activation.stack } }) is_made
    ∙ (let now : slice_set (replicate {A = Option Value} locals None) 0 (Some (Ref array)) ≡ padded m.max_locals (locals_of (Ref array ∷ [])) = locals_set m.max_locals locals array (most ∙ ap (λ (y : LinkedMethod). max y.max_locals 1) same) in
    λ j. record { method = at j; monitor = None; activation = record { at = 0; max_stack = (same j).max_stack; locals = now j; stack = [] } })
