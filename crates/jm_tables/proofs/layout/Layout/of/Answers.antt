-- What is laid out is the model's.
use Rattle.std.proofs.Common.{List, Option, Some, None, Result, Ok, Err, ◌≡◌, length, subst, sym}
use Rattle.std.specs.Prelude.{IfOk, IfSome}
use Rattle.jm_tables.specs.declared.extent.Extent.{Extent}
use Rattle.jm_tables.specs.Extents.{AreExtents}
use Rattle.jm_tables.specs.Layouts.{LayoutView, IsLaidOut, IsLayout}
use Rattle.jm_tables.proofs.LayoutLaws.{is_layout}
use Rattle.jm_tables.proofs.layout.Layout.of.Goals as goal

found_then : {A E : Type 0} → (r : Result (Option A) E) (P Q : A → Type 0) → ((x : A) → P x → Q x) → IfOk r (λ o. IfSome o P) → IfOk r (λ o. IfSome o Q)
found_then (Ok (Some x)) P Q h p = h x p
found_then (Ok None) P Q h p = tt
found_then (Err e) P Q h p = tt

pub returns-clause-laid_out : goal.returns-clause-laid_out
returns-clause-laid_out c = λ program names are.
    let known : AreExtents (length c.args.classes.now) c.args.classes.now c.in-Some.extents.items = rw c.in-Some.is at c.in_ok-extents.ensures.extents in
    found_then c.lay_out.result (IsLaidOut c.args.classes.now c.deref.result.now) (IsLayout program names)
    (λ layout laid. is_layout program names c.args.classes.now are c.in-Some.extents.items layout known
    (subst (λ (extents : List (Option Extent)). IsLaidOut c.args.classes.now extents layout) c.deref.ensures.value laid))
    c.lay_out.ensures.laid_out
