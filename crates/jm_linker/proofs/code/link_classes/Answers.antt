-- One more class.
use Rattle.std.proofs.Common.{arith}
use Rattle.jm_program.specs.declared.class.ClassParts.{ClassParts}
use Rattle.jm_world.specs.Loads.{method_code_refusal, first_of_all}
use Rattle.jm_linker.proofs.MethodLaws.{classes_to}
use Rattle.jm_linker.proofs.Reasons.{first_after}
use Rattle.jm_linker.proofs.code.link_classes.Goals as goal

pub loop-index-preserved : goal.loop-index-preserved
loop-index-preserved c =
    let program = c.args.classes.now.program.now in
    let i = c.loop-index.index in
    let x = c.class-item.result in
    let inv = c.loop-index.invariant in
    let one = c.in_ok-link_class.ensures in (
      first_after (λ (d : ClassParts). first_of_all (method_code_refusal program) d.methods) program i x (omega arith) c.class-item.is one.refusal inv.0,
      classes_to program i c.in_ok-number.number x c.loop-index.linked.items c.link_class.new.linked.items
          (omega arith) c.class-item.is c.in_ok-number.ensures inv.1 one.linked.places,
      one.linked.linked inv.2,
    )
