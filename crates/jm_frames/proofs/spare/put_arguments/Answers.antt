-- One argument more has its local variables.
use Rattle.std.proofs.Common.{◌≡◌, ◌++◌, ◌∙◌, sym, ap, arith, length, length-append, append_assoc, take}
use Rattle.jm_frames.specs.Called.{argument_locals, locals_of}
use Rattle.jm_frames.proofs.Called.{argument_has_room, locals_more}
use Rattle.jm_frames.proofs.spare.put_arguments.Goals as goal

pub put_argument-requires : goal.put_argument-requires
put_argument-requires c =
    let vs = c.args.arguments.now in
    let i = c.loop-argument.argument-index in
    let room = argument_has_room vs i c.argument-item.result (omega arith) c.argument-item.is in
    let long = ap length c.loop-argument.invariant.items ∙ length-append c.args.locals.now.items (locals_of (take i vs)) in
    omega (arith, room, long, c.loop-argument.invariant.room, c.requires)

pub loop-argument-preserved : goal.loop-argument-preserved
loop-argument-preserved c =
    let vs = c.args.arguments.now in
    let i = c.loop-argument.argument-index in
    let v = c.argument-item.result in
    record {
      items = c.put_argument.ensures.items
          ∙ ap (λ l. l ++ argument_locals v) c.loop-argument.invariant.items
          ∙ append_assoc c.args.locals.now.items (locals_of (take i vs)) (argument_locals v)
          ∙ ap (λ l. c.args.locals.now.items ++ l) (sym (locals_more vs i v (omega arith) c.argument-item.is));
      room = c.put_argument.ensures.room ∙ c.loop-argument.invariant.room;
    }
