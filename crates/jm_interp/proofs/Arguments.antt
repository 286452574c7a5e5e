-- What a method of a print stream pops, in the model.
use Rattle.std.proofs.Common.{◌≡◌, ℕ, List, [], ◌∷◌, Option, Some, None, refl, inl, subst}
use Rattle.std.specs.Prelude.{map, option_map, reverse, Result, Ok, Err, slice_get, drop, ℤ}
use Rattle.jm_values.specs.Rename.{rename, value_shape, stack_shape}
use Rattle.jm_values.specs.Shape.{Among}
use Rattle.jm_values.specs.declared.value.Value.{Value}
use Rattle.jm_values.specs.declared.value.Value.TheVariants.{Int, Long, Null, Ref}
use Rattle.jm_values.specs.declared.fault.TagFault.{TagFault}
use Rattle.jm_values.proofs.Lists.{refs_in}
use Rattle.jm_world.specs.Here.{with_arguments, with_reference}
use Rattle.jm_world.specs.Next.{Next, faults}
use Rattle.jm_linked.specs.PrintStreams.{print_parameters, printed_type}
use Rattle.jm_linked.specs.declared.instruction.Printed.{Printed}
use Rattle.jm_linked.specs.declared.instruction.Printed.TheVariants as printed
use Rattle.jm_linked.specs.declared.instruction.PrintMethod.{PrintMethod}
use Rattle.jm_linked.specs.declared.instruction.PrintMethod.TheVariants.{Print, Println, EndLine}
use Rattle.jm_interp.specs.declared.print_operands.Printing.{Printing}
use Rattle.jm_interp.specs.declared.print_operands.Text.{Text}
use Rattle.jm_interp.specs.declared.print_operands.Text.TheVariants as text
use Rattle.jm_interp.specs.Printing.{text_of, receiver_of, printing, with_text, printing_of, left_by, arguments_of, TextAmong}

-- a text of the type, and one that the method prints
pub data IsOf : Printed → Text → Type 0 where
  int : (n : ℤ) → IsOf printed.Int (text.Int n)
  long : (n : ℤ) → IsOf printed.Long (text.Long n)
  char : (n : ℤ) → IsOf printed.Char (text.Char n)
  string : (r : Option ℕ) → IsOf printed.String (text.String r)

abbrev pub Fits : PrintMethod → Text → Type 0
Fits (Print k) t = IsOf k t
Fits (Println k) t = IsOf k t
Fits EndLine t = t ≡ text.Nothing

abbrev pub Model : Type 0
Model = Option ℕ → List Value → List Value → Next

abbrev pub received : (ℕ → ℕ) → Result Printing TagFault → List Value → Model → Next
received f (Err fault) rest go = faults fault
received f (Ok p) rest go = go (option_map f p.receiver) (arguments_of f p.text) (map (rename f) rest)

reference_taken : (f : ℕ → ℕ) (t : Text) (s : List Value) (go : Model)
    → with_reference (map (rename f) s) (λ r rest. go r (arguments_of f t) rest) ≡ received f (printing t (receiver_of (slice_get s 0))) (drop 1 s) go
reference_taken f t [] go = refl
reference_taken f t (Int n ∷ s) go = refl
reference_taken f t (Long n ∷ s) go = refl
reference_taken f t (Null ∷ s) go = refl
reference_taken f t (Ref k ∷ s) go = refl

argument_taken : (f : ℕ → ℕ) (k : Printed) (s : List Value) (go : Model)
    → with_arguments (printed_type k ∷ []) [] (map (rename f) s) (λ arguments below. with_reference below (λ r rest. go r arguments rest))
    ≡ received f (with_text (text_of k (slice_get s 0)) (slice_get s 1)) (drop 1 (drop 1 s)) go
argument_taken f printed.Int [] go = refl
argument_taken f printed.Int (Int n ∷ s) go = reference_taken f (text.Int n) s go
argument_taken f printed.Int (Long n ∷ s) go = refl
argument_taken f printed.Int (Null ∷ s) go = refl
argument_taken f printed.Int (Ref k ∷ s) go = refl
argument_taken f printed.Long [] go = refl
argument_taken f printed.Long (Int n ∷ s) go = refl
argument_taken f printed.Long (Long n ∷ s) go = reference_taken f (text.Long n) s go
argument_taken f printed.Long (Null ∷ s) go = refl
argument_taken f printed.Long (Ref k ∷ s) go = refl
argument_taken f printed.Char [] go = refl
argument_taken f printed.Char (Int n ∷ s) go = reference_taken f (text.Char n) s go
argument_taken f printed.Char (Long n ∷ s) go = refl
argument_taken f printed.Char (Null ∷ s) go = refl
argument_taken f printed.Char (Ref k ∷ s) go = refl
argument_taken f printed.String [] go = refl
argument_taken f printed.String (Int n ∷ s) go = refl
argument_taken f printed.String (Long n ∷ s) go = refl
argument_taken f printed.String (Null ∷ s) go = reference_taken f (text.String None) s go
argument_taken f printed.String (Ref k ∷ s) go = reference_taken f (text.String (Some k)) s go

pub receives : (f : ℕ → ℕ) (m : PrintMethod) (s : List Value) (go : Model)
    → with_arguments (reverse (print_parameters m)) [] (map (rename f) s) (λ arguments below. with_reference below (λ r rest. go r arguments rest))
    ≡ received f (printing_of m s) (left_by m s) go
receives f (Print k) s go = argument_taken f k s go
receives f (Println k) s go = argument_taken f k s go
receives f EndLine s go = reference_taken f text.Nothing s go

-- the text is such a one, and what it and the receiver name is among the references
abbrev pub AllFit : (Text → Type 0) → List ℕ → Result Printing TagFault → Type 0
AllFit P ns (Err fault) = Unit {0}
AllFit P ns (Ok p) = P p.text × TextAmong ns p.text × ((k : ℕ) → p.receiver ≡ Some k → Among k ns)

receiver_fits : (P : Text → Type 0) (ns : List ℕ) (t : Text) → P t → TextAmong ns t → (v : Option Value) → ((k : ℕ) → v ≡ Some (Ref k) → Among k ns)
    → AllFit P ns (printing t (receiver_of v))
receiver_fits P ns t is among None inside = tt
receiver_fits P ns t is among (Some (Int n)) inside = tt
receiver_fits P ns t is among (Some (Long n)) inside = tt
receiver_fits P ns t is among (Some Null) inside = (is, among, λ k e. cc)
receiver_fits P ns t is among (Some (Ref p)) inside =
    (is, among, λ k e. inside k (let same : p ≡ k = cc in subst (λ q. Some (Ref p) ≡ Some (Ref q)) same refl))

argument_fits : (ns : List ℕ) (k : Printed) (u v : Option Value) → ((k : ℕ) → u ≡ Some (Ref k) → Among k ns) → ((k : ℕ) → v ≡ Some (Ref k) → Among k ns)
    → AllFit (IsOf k) ns (with_text (text_of k u) v)
argument_fits ns k None v own inside = tt
argument_fits ns printed.Int (Some (Int n)) v own inside = receiver_fits (IsOf printed.Int) ns (text.Int n) (int n) tt v inside
argument_fits ns printed.Int (Some (Long n)) v own inside = tt
argument_fits ns printed.Int (Some Null) v own inside = tt
argument_fits ns printed.Int (Some (Ref p)) v own inside = tt
argument_fits ns printed.Long (Some (Int n)) v own inside = tt
argument_fits ns printed.Long (Some (Long n)) v own inside = receiver_fits (IsOf printed.Long) ns (text.Long n) (long n) tt v inside
argument_fits ns printed.Long (Some Null) v own inside = tt
argument_fits ns printed.Long (Some (Ref p)) v own inside = tt
argument_fits ns printed.Char (Some (Int n)) v own inside = receiver_fits (IsOf printed.Char) ns (text.Char n) (char n) tt v inside
argument_fits ns printed.Char (Some (Long n)) v own inside = tt
argument_fits ns printed.Char (Some Null) v own inside = tt
argument_fits ns printed.Char (Some (Ref p)) v own inside = tt
argument_fits ns printed.String (Some (Int n)) v own inside = tt
argument_fits ns printed.String (Some (Long n)) v own inside = tt
argument_fits ns printed.String (Some Null) v own inside = receiver_fits (IsOf printed.String) ns (text.String None) (string None) tt v inside
argument_fits ns printed.String (Some (Ref p)) v own inside =
    receiver_fits (IsOf printed.String) ns (text.String (Some p)) (string (Some p)) (own p refl) v inside

pub all_fit : (m : PrintMethod) (s : List Value) → AllFit (Fits m) (stack_shape.refs s) (printing_of m s)
all_fit m s = by m
  where
    inside : (i k : ℕ) → slice_get s i ≡ Some (Ref k) → Among k (stack_shape.refs s)
    inside i k e = refs_in value_shape s i (Ref k) k e (inl refl)

    by : (m : PrintMethod) → AllFit (Fits m) (stack_shape.refs s) (printing_of m s)
    by (Print k) = argument_fits (stack_shape.refs s) k (slice_get s 0) (slice_get s 1) (inside 0) (inside 1)
    by (Println k) = argument_fits (stack_shape.refs s) k (slice_get s 0) (slice_get s 1) (inside 0) (inside 1)
    by EndLine = receiver_fits (Fits EndLine) (stack_shape.refs s) text.Nothing refl tt (slice_get s 0) (inside 0)
