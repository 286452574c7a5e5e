use Rattle.std.proofs.Common.{map}
use Rattle.jm_program.specs.declared.class.ClassParts.{ClassParts}
use Rattle.jm_world.specs.Classes.{error_class}
use Rattle.jm_interp.proofs.Unwound.{fails_so}
use Rattle.jm_interp.proofs.unwinding.fail_by.Goals as goal

pub fail-requires : goal.fail-requires
fail-requires g c = (c.requires.on, c.requires.class, c.requires.ends)

pub returns-then-is_of-clause-does : goal.returns-then-is_of-clause-does
returns-then-is_of-clause-does g c =
    let named = c.number.ensures.named (map (λ (d : ClassParts). d.name) c.args.at.linked.now.program) in
    fails_so _ _ (c.is_of.ensures error_class named) c.if-is_of.true c.fail.ensures.does

pub fail_anew-requires : goal.fail_anew-requires
fail_anew-requires g c = (c.requires.on, c.requires.class)

pub returns-clause-does : goal.returns-clause-does
returns-clause-does g c =
    let named = c.number.ensures.named (map (λ (d : ClassParts). d.name) c.args.at.linked.now.program) in
    fails_so _ _ (c.is_of.ensures error_class named) c.if-is_of.false c.fail_anew.ensures.does
