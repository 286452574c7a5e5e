-- Instructions with their names resolved.
use Rattle.std.proofs.Common.{◌≡◌, ℕ, ◌+◌, ◌<◌, Bool, true, false, List, [], ◌∷◌, ◌++◌, Option, Some, None, length, get_or, take, refl, sym, ap, subst, ◌∙◌}
use Rattle.std.specs.Prelude.{is_some, MatchOption, ◌&&◌}
use Rattle.std.proofs.lemmas.List.{take_more}
use Rattle.jm_program.specs.declared.class.ClassParts.{ClassParts}
use Rattle.jm_program.specs.declared.instruction.operation.FieldOp.{FieldOp}
use Rattle.jm_program.specs.declared.instruction.operation.FieldOp.TheVariants.{GetStatic, PutStatic, GetField, PutField}
use Rattle.jm_program.specs.declared.instruction.operation.InvokeOp.{InvokeOp}
use Rattle.jm_program.specs.declared.instruction.operation.InvokeOp.TheVariants.{Virtual, Special, Static, Interface}
use Rattle.jm_program.specs.declared.instruction.symbolic.Instr.{Instr}
use Rattle.jm_program.specs.declared.instruction.symbolic.Instr.TheVariants as instr
use Rattle.jm_program.specs.declared.reference.FieldRef.{FieldRef}
use Rattle.jm_program.specs.declared.reference.MethodRef.{MethodRef}
use Rattle.jm_linked.specs.declared.instruction.LinkedInstr.{LinkedInstr}
use Rattle.jm_linked.specs.declared.instruction.LinkedInstr.TheVariants as linked
use Rattle.jm_linked.specs.declared.instruction.PrintMethod.{PrintMethod}
use Rattle.jm_linked.specs.PrintStreams.{is_print, print_among, print_methods}
use Rattle.jm_linked.specs.Links.{LinksIn, CallsFrom, AllLinkIn, is_class_call, prints, reads_system_out}

-- System.out is read by getstatic
pub system_out : (program : List ClassParts) (op : FieldOp) (f : FieldRef) → reads_system_out op f ≡ true → LinksIn program linked.SystemOut (instr.Field op f)
system_out program GetStatic f e = (f, refl, e)
system_out program PutStatic f e = cc
system_out program GetField f e = cc
system_out program PutField f e = cc

-- a method that is found among those that print is the one
print_is : (ps : List PrintMethod) (m : MethodRef) (p : PrintMethod) → print_among ps m ≡ Some p → is_print m p ≡ true
print_is [] m p e = cc
print_is (q ∷ qs) m p e = by (print_is qs m p) (is_print m q) refl e
  where
    same : Some q ≡ Some p → p ≡ q
    same g = cc

    by : (print_among qs m ≡ Some p → is_print m p ≡ true) → (t : Bool) → is_print m q ≡ t → (elim t as (λ _. Option PrintMethod) [ true ↦ Some q | false ↦ print_among qs m ]) ≡ Some p → is_print m p ≡ true
    by more true is g = ap (is_print m) (same g) ∙ is
    by more false is g = more g

pub printing : (op : InvokeOp) (m : MethodRef) (o : Option PrintMethod) → is_class_call op ≡ true → o ≡ print_among print_methods m
    → MatchOption o (prints op m ≡ false) (λ p. (is_class_call op ≡ true) × (is_print m p ≡ true))
printing op m None of e = ap (λ b. b && is_some (print_among print_methods m)) of ∙ ap is_some (sym e)
printing op m (Some p) of e = (of, print_is print_methods m p (sym e))

-- one that prints is called for what it is
pub prints_alone : (program : List ClassParts) (class : List ℕ) (p : PrintMethod) (op : InvokeOp) (m : MethodRef)
    → CallsFrom program class (linked.Print p) (instr.Invoke op m)
prints_alone program class p Special m = λ here own is name named. tt
prints_alone program class p Virtual m = tt
prints_alone program class p Static m = tt
prints_alone program class p Interface m = tt

-- one more instruction that is linked
all_more : (program : List ClassParts) (class : List ℕ) (xs : List LinkedInstr) (is : List Instr) (x : LinkedInstr) (i : Instr)
    → AllLinkIn program class xs is → LinksIn program x i × CallsFrom program class x i → AllLinkIn program class (xs ++ x ∷ []) (is ++ i ∷ [])
all_more program class [] [] x i a h = (h, tt)
all_more program class [] (j ∷ js) x i a h = absurd a
all_more program class (y ∷ ys) [] x i a h = absurd a
all_more program class (y ∷ ys) (j ∷ js) x i a h = (a.0, all_more program class ys js x i a.1 h)

pub linked_more : (program : List ClassParts) (class : List ℕ) (xs ys : List LinkedInstr) (is : List Instr) (n : ℕ) (x : LinkedInstr) (i : Instr) → n < length is
    → i ≡ get_or is n i
    → ys ≡ xs ++ x ∷ [] → AllLinkIn program class xs (take n is) → LinksIn program x i × CallsFrom program class x i
    → AllLinkIn program class ys (take (n + 1) is)
linked_more program class xs ys is n x i within at e a h =
    let more : take (n + 1) is ≡ take n is ++ i ∷ [] = rw (take_more is n i within, ← at) refl in
    subst (λ zs. AllLinkIn program class zs (take (n + 1) is)) (sym e) (subst (λ js. AllLinkIn program class (xs ++ x ∷ []) js) (sym more) (all_more program class xs
    (take n is) x i a h))
