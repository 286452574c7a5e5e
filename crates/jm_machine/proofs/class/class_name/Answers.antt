use Rattle.std.proofs.Common.{ap, sym, ◌∙◌}
use Rattle.jm_builtins.specs.declared.built_in.BuiltIn.{BuiltIn}
use Rattle.jm_program.specs.declared.class.ClassParts.{ClassParts}
use Rattle.jm_machine.proofs.ClassNumbers.{built_in_name, program_name, no_name}
use Rattle.jm_machine.proofs.class.class_name.Goals as goal

pub returns-then-index-built_ins : goal.returns-then-index-built_ins
returns-then-index-built_ins c =
    c.units.ensures ∙ ap (λ (b : BuiltIn). b.name) (sym c.index-built_ins-index.is)
    ∙ built_in_name c.args.linked.now.program c.built_ins-built_ins.result.now c.args.number c.index-built_ins-index.result c.built_ins-built_ins.ensures c.if-index-built_ins.true c.index-built_ins-index.is

pub returns-then-index-classes : goal.returns-then-index-classes
returns-then-index-classes c =
    c.units-then-index-classes.ensures ∙ ap (λ (x : ClassParts). x.name) c.parts.ensures.parts
    ∙ program_name c.args.linked.now.program c.classes-classes.result.now c.built_ins-built_ins.result.now c.args.number c.index-classes-index.result c.built_ins-built_ins.ensures c.classes-classes.ensures.classes c.if-index-built_ins.false c.if-index-classes.true c.index-classes-index.is

pub returns : goal.returns
returns c =
    no_name c.args.linked.now.program c.classes-classes.result.now c.built_ins-built_ins.result.now c.args.number c.built_ins-built_ins.ensures c.classes-classes.ensures.classes c.if-index-built_ins.false c.if-index-classes.false
