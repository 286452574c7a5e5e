-- Each class in turn.
use Rattle.std.proofs.Common.{◌≡◌, ◌∙◌, ◌<◌, ℕ, List, Option, Some, None, get_or, length, length-set, refl, replicate, slice_get, sym, ap, subst, arith, rules}
use Rattle.std.specs.Prelude.{IsSome, IfSome}
use Rattle.std.proofs.lemmas.List.{length-replicate}
use Rattle.std.proofs.lemmas.Option.{slice_get-get_or, slice_get_within, IfSome_then}
use Rattle.jm_tables.specs.declared.extent.DeclaredFields.{DeclaredFields}
use Rattle.jm_tables.specs.declared.extent.Extent.{Extent}
use Rattle.jm_tables.specs.Inheriting.{StandsBefore}
use Rattle.jm_tables.specs.Extents.{AreExtents, extent_over}
use Rattle.jm_tables.proofs.ExtentLaws.{none_known, extents_more, known_more, above_is_known}
use Rattle.jm_tables.proofs.PlacingLaws.{got, same_some}
use Rattle.jm_tables.proofs.extent.extents_of.Goals as goal

pub loop-class-init : goal.loop-class-init
loop-class-init c =
    let none : c.in_ok-extents.extents.items ≡ replicate (length c.args.classes.now) None = c.in_ok-extents.ensures.items_if_clones_equal (search rules) in
    record {
      long = ap length none ∙ length-replicate (length c.args.classes.now) None;
      own = subst (AreExtents 0 c.args.classes.now) (sym none) (none_known 0 c.args.classes.now (length c.args.classes.now));
      placed = λ class before. let none = before.1 in absurd (omega (arith, none));
    }

pub loop-class-preserved : goal.loop-class-preserved
loop-class-preserved c =
    let class : ℕ = get_or c.args.order.now c.loop-class.class-index 0 in
    let is : slice_get c.args.classes.now class ≡ Some c.in-Some.declared.now = got c.args.classes.now class c.in-Some.declared.now
    c.in-Some.ensures.lookup.3.0 c.in-Some.ensures.lookup.3.1 in
    let found : extent_over c.loop-class.extents.items c.in-Some.declared.now ≡ Some c.in-Some-2.extent =
    ap (λ (extents : List (Option Extent)). extent_over extents c.in-Some.declared.now) (sym c.deref.ensures.value) ∙ sym c.in_ok-extent.ensures
    ∙ c.in-Some-2.is in
    record {
      long = length-set c.loop-class.extents.items class (Some c.in-Some-2.extent) ∙ c.loop-class.invariant.long;
      own = extents_more c.loop-class.class-index c.args.classes.now c.loop-class.extents.items class c.in-Some.declared.now c.in-Some-2.extent
          c.loop-class.invariant.long c.loop-class.invariant.own is found;
      placed = known_more c.args.order.now c.loop-class.extents.items c.loop-class.class-index class c.in-Some-2.extent
          (omega (arith, c.loop-class.invariant.long, slice_get_within c.args.classes.now class c.in-Some.declared.now is)) refl c.loop-class.invariant.placed;
    }

pub returns-clause-all : goal.returns-clause-all
returns-clause-all c = λ order class less.
    let stands = order.all class less in
    let l = stands.1 in let e = c.loop-class-test.false in c.loop-class.invariant.placed class (stands.0, omega (arith, l, e), stands.2)

pub returns-in_default-clause-made : goal.returns-in_default-clause-made
returns-in_default-clause-made c = λ order.
    let class : ℕ = get_or c.args.order.now c.loop-class.class-index 0 in
    let after = order.after c.loop-class.class-index class (slice_get-get_or c.args.order.now c.loop-class.class-index 0 c.loop-class-test.true) in
    let past = c.in_default.ensures.lookup.3 in absurd (omega (arith, past, slice_get_within c.args.classes.now class after.0 after.1))

pub returns-in_default-2-clause-made : goal.returns-in_default-2-clause-made
returns-in_default-2-clause-made c = λ order.
    let class : ℕ = get_or c.args.order.now c.loop-class.class-index 0 in
    let is : slice_get c.args.classes.now class ≡ Some c.in-Some.declared.now = got c.args.classes.now class c.in-Some.declared.now
    c.in-Some.ensures.lookup.3.0 c.in-Some.ensures.lookup.3.1 in
    let after = order.after c.loop-class.class-index class (slice_get-get_or c.args.order.now c.loop-class.class-index 0 c.loop-class-test.true) in
    let same : after.0 ≡ c.in-Some.declared.now = same_some after.0 c.in-Some.declared.now (sym after.1 ∙ is) in
    let stands : IfSome c.in-Some.declared.now.superclass (StandsBefore c.args.order.now c.loop-class.class-index) = subst
    (λ (d : DeclaredFields). IfSome d.superclass (StandsBefore c.args.order.now c.loop-class.class-index)) same after.2 in
    let none : extent_over c.loop-class.extents.items c.in-Some.declared.now ≡ None =
    ap (λ (extents : List (Option Extent)). extent_over extents c.in-Some.declared.now) (sym c.deref.ensures.value) ∙ sym c.in_ok-extent.ensures
    ∙ c.in_default-2.is in
    absurd (above_is_known c.loop-class.extents.items c.in-Some.declared.now
    (IfSome_then c.in-Some.declared.now.superclass stands (λ s before. c.loop-class.invariant.placed s before)) none)
