-- One more method, in front.
use Rattle.std.proofs.Common.{◌≡◌, ◌+◌, ◌-◌, length, refl, arith, subst, sym}
use Rattle.std.proofs.lemmas.Option.{slice_get_read}
use Rattle.jm_linker.specs.Keys.{IsMethodKey}
use Rattle.jm_linker.specs.Selectors.{Leads}
use Rattle.jm_linker.specs.declared.selectors.ClassMethod.{ClassMethod}
use Rattle.jm_linker.proofs.SelectorLaws.{first_in_front}
use Rattle.jm_linker.proofs.selectors.selectors_of.Goals as goal

pub loop-number-preserved : goal.loop-number-preserved
loop-number-preserved c =
    let ms = c.args.methods.now in
    let first = c.first_in_row-number.result in
    let below = c.first_in_row-number.ensures.below in
    let keyed = subst (λ (x : ClassMethod). IsMethodKey c.in_ok-key.key x.method.now.name x.method.now.descriptor) (sym c.index-methods-number.is) c.in_ok-key.ensures in
    let next : c.loop-number.number - 1 + 1 ≡ c.loop-number.number = omega arith in (
      omega (arith, below, c.loop-number.invariant.0),
      first_in_front ms first c.loop-number.number c.in-Ok.short c.index-methods-number.result c.in_ok-key.key c.loop-number.selectors c.insert.new.self
          (slice_get_read ms (length ms) first c.index-methods-number.result refl (omega (arith, below, c.loop-number.invariant.0)) c.index-methods-number.is)
          keyed c.in-Ok.ensures.1 c.in_ok-insert.ensures.updates.0 (subst (Leads ms first) next c.first_in_row-number.ensures.leads) c.loop-number.invariant.1,
    )
