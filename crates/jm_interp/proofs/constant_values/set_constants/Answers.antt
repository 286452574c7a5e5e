use Rattle.std.proofs.Common.{◌∙◌, arith}
use Rattle.jm_interp.proofs.ConstantValues.{many_constants, frames_there, its_constant, more_given, all_given}
use Rattle.jm_interp.proofs.constant_values.set_constants.Goals as goal

pub overflow_cast-index : goal.overflow_cast-index
overflow_cast-index g c =
    let known = c.constants_of-constant-items.ensures c.requires.1 c.requires.2.own in
    let many = many_constants c.args.at.linked.now.program c.constants_of-constant-items.result.now c.requires.1.fields known in
    omega (arith, many, c.requires.3, c.loop-index-test.true)

pub begin_field-requires : goal.begin_field-requires
begin_field-requires g c =
    let known = c.constants_of-constant-items.ensures c.requires.1 c.requires.2.own in
    let items = c.constants_of-constant-items.result.now in
    let field = its_constant c.requires.0 c.args.class c.requires.2 items known c.loop-index.index c.loop-index-test.true in
    let its = frames_there c.requires.0 c.args.class c.requires.1 c.requires.2.own c.loop-index.state c.loop-index.index c.loop-index.invariant.0 in
    (its, field.0, field.1, field.2)

pub loop-index-preserved : goal.loop-index-preserved
loop-index-preserved g c =
    let known = c.constants_of-constant-items.ensures c.requires.1 c.requires.2.own in (
      more_given c.requires.0 c.args.class c.requires.2 c.constants_of-constant-items.result.now known c.loop-index.index c.loop-index-test.true
          c.loop-index.invariant.0 c.begin_field.ensures.does,
      c.begin_field.ensures.heap ∙ c.loop-index.invariant.1,
    )

pub returns-clause-does : goal.returns-clause-does
returns-clause-does g c =
    let known = c.constants_of-constant-items.ensures c.requires.1 c.requires.2.own in
    let many = many_constants c.args.at.linked.now.program c.constants_of-constant-items.result.now c.requires.1.fields known in
    all_given c.requires.0 c.args.class c.requires.1 c.requires.2.own c.loop-index.state c.loop-index.index c.loop-index.invariant.0
    (omega (arith, many, c.loop-index-test.false))
