use Rattle.std.proofs.Common.{◌-◌, ◌∙◌, ap, refl, length, arith}
use Rattle.jm_program.specs.declared.class.ClassParts.{ClassParts}
use Rattle.jm_world.specs.Classes.{as_class}
use Rattle.jm_interp.proofs.DeclaredMethods.{built_in_here, own_here}
use Rattle.jm_machine.proofs.InstanceFields.{all_counted}
use Rattle.jm_machine.proofs.instance_fields.fields_of_class.Goals as goal

pub returns-then-number-built_ins : goal.returns-then-number-built_ins
returns-then-number-built_ins c =
    let b = c.index-built_ins-number.result in
    record {
      declaring = as_class b;
      numbered = built_in_here c.args.linked.now.program c.built_ins-built_ins.result.now c.args.class c.args.class b c.built_ins-built_ins.ensures refl
          c.if-number-built_ins.true c.index-built_ins-number.is;
      name = refl;
      fields = c.as_slice.ensures;
    }

pub bounds-classes-own : goal.bounds-classes-own
bounds-classes-own c =
    let all = all_counted c.args.linked.now.program in
    let built_ins = ap length c.built_ins-built_ins.ensures in
    let own = ap length c.classes-classes.ensures.classes in
    omega (arith, c.requires, all, built_ins, own, c.if-number-built_ins.false)

pub returns : goal.returns
returns c =
    let d = c.index-classes-own.result in
    let built_ins = ap length c.built_ins-built_ins.ensures in
    let all = all_counted c.args.linked.now.program in
    let own = ap length c.classes-classes.ensures.classes in
    record {
      declaring = d;
      numbered = own_here c.args.linked.now.program c.classes-classes.result.now (c.args.class - length c.built_ins-built_ins.result.now) c.args.class d
          c.classes-classes.ensures.classes (omega (arith, built_ins, c.if-number-built_ins.false))
          (omega (arith, c.requires, all, built_ins, own, c.if-number-built_ins.false)) c.index-classes-own.is;
      name = ap (λ (x : ClassParts). x.name) c.parts-declaring.ensures.parts;
      fields = c.as_slice-2.ensures ∙ ap (λ (x : ClassParts). x.fields) c.parts-declaring.ensures.parts;
    }
