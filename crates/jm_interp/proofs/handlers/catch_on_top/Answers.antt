use Rattle.std.proofs.Common.{◌≡◌, ◌≤◌, refl}
use Rattle.jm_state.specs.declared.thread.StackFrame.TheVariants.{Method}
use Rattle.jm_interp.proofs.TopFrames.{last_is}
use Rattle.jm_interp.proofs.Caught.{no_room, room_free, room_taken, gone_there, stays_there, same_limit}
use Rattle.jm_interp.proofs.handlers.catch_on_top.Goals as goal
use Rattle.jm_interp.proofs.handlers.catch_on_top.Goals.{else-is_none-via-then-is_none+else-not-has_room, else-is_none-via-else-is_none}

pub returns-then-not-has_room : goal.returns-then-not-has_room
returns-then-not-has_room c f below r s =
    let v = c.in-Method.frame in
    let top : c.in-Some.top.now ≡ Method f = last_is c.args.thread.now (Method f) c.in-Some.top.now below r s c.in-Some.ensures.value in (
      same_limit top c.in-Method.is (λ n. n ≡ 0)
          (no_room v c.operand.ensures.value c.is_none.ensures c.if-is_none.true c.has_room.ensures c.if-not-has_room.true),
      refl,
      stays_there c.args.thread.now _ f v below r c.in-Some.top.now s top c.in-Method.is refl refl,
    )

pub returns : goal.returns
returns c f below r s =
    let v = c.in-Method.frame in
    let top : c.in-Some.top.now ≡ Method f = last_is c.args.thread.now (Method f) c.in-Some.top.now below r s c.in-Some.ensures.value in
    let room : 1 ≤ v.activation.max_stack = elim c.else-is_none.branch [
      | else-is_none-via-then-is_none+else-not-has_room w ↦ room_free v w.has_room.ensures w.if-not-has_room.false
      | else-is_none-via-else-is_none w ↦ room_taken v c.operand.ensures.value c.is_none.ensures w.if-is_none.false c.operand.ensures.room
    ] in (
      same_limit top c.in-Method.is (λ n. 1 ≤ n) room,
      gone_there c.args.thread.now _ f v c.replace.new.self c.go_to.new.self c.args.place c.args.target _ c.operands-count.result.now below r
          c.in-Some.top.now s
          top c.in-Method.is c.operands-count.ensures refl c.replace.ensures c.go_to.ensures refl refl,
    )
