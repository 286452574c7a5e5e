-- A method leads itself, and one more those that are alike.
use Rattle.std.proofs.Common.{◌≡◌, ◌+◌, ◌-◌, ◌&&◌, true, Some, length, get_or, refl, sym, subst, arith}
use Rattle.std.proofs.lemmas.Option.{slice_get_read}
use Rattle.std.specs.Prelude.{slice_get}
use Rattle.jm_program.specs.Names.{same_text}
use Rattle.jm_world.specs.Types.{same_method_type}
use Rattle.jm_linker.specs.Selectors.{Leads}
use Rattle.jm_linker.specs.declared.selectors.ClassMethod.{ClassMethod}
use Rattle.jm_linker.proofs.SelectorLaws.{leads_itself, leads_more}
use Rattle.jm_linker.proofs.selectors.first_in_row.Goals as goal

abbrev IsAlike : ClassMethod → ClassMethod → Type 0
IsAlike y z = (same_text y.method.now.name z.method.now.name && same_method_type y.method.now.descriptor z.method.now.descriptor) ≡ true

pub loop-first-init : goal.loop-first-init
loop-first-init c = (omega arith, leads_itself c.args.methods.now c.args.last)

pub loop-first-preserved : goal.loop-first-preserved
loop-first-preserved c =
    let ms = c.args.methods.now in
    let first = c.loop-first.first in
    let inv = c.loop-first.invariant in
    let next : first - 1 + 1 ≡ first = omega arith in
    let one = slice_get_read ms (length ms) (first - 1) c.index-methods-before.result refl (omega (arith, inv.0, c.requires)) c.index-methods-before.is in
    let alike = subst (λ (y : ClassMethod). IsAlike y c.index-methods-first.result) (sym c.index-methods-before.is)
    (subst (IsAlike (get_or ms (first - 1) c.index-methods-before.result)) (sym c.index-methods-first.is) (c.are_alike.ensures c.if-not-are_alike.false)) in
    let other = slice_get_read ms (length ms) first c.index-methods-first.result refl (omega (arith, inv.0, c.requires)) c.index-methods-first.is in (
      omega (arith, inv.0),
      leads_more ms (first - 1) (c.args.last + 1) c.index-methods-before.result c.index-methods-first.result one
          (subst (λ k. slice_get ms k ≡ Some c.index-methods-first.result) (sym next) other) alike
          (subst (λ k. Leads ms k (c.args.last + 1)) (sym next) inv.1),
    )
