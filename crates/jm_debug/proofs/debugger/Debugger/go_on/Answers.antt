-- Each turn goes on from the session that the turns before have led to.
use Rattle.std.proofs.Common.{◌≡◌, ◌-◌, ◌∙◌, Ok, true, nat_eq, sym, ap, subst, arith}
use Rattle.jm_debug.specs.Answering.{DebuggerView, IsFew, IsSession, Moves}
use Rattle.jm_debug.proofs.BreakMarks.{stays_marked}
use Rattle.jm_debug.proofs.Continues.{refused_at, over_at, goes_on, lost_at, all_made, left_at, stays}
use Rattle.jm_debug.proofs.Obeying.{want_of_memory, want_again}
use Rattle.jm_debug.proofs.debugger.Debugger.go_on.Goals as goal

pub returns-in_err-marks : goal.returns-in_err-marks
returns-in_err-marks g c = λ s at. want_of_memory _ _ s s _ _ _ c.from_residual.ensures.1 (0, omega arith, sym (stays s true 0)) at

pub returns-in_err-line : goal.returns-in_err-line
returns-in_err-line g c = λ s at.
    let on = c.loop-made.invariant.on s at in
    let moved = c.in_err-line.ensures.moves on.session on.is in
    let left = refused_at s c.loop-made.made c.loop-made.blocked c.args.most _ c.turn.new.self (omega arith) on moved.1 in
    want_again _ _ s left.0 _ _ _ _ c.from_residual-in_err-line.ensures.1 moved.0 left.1 left.2

pub returns-in_err-from_str-in-Over : goal.returns-in_err-from_str-in-Over
returns-in_err-from_str-in-Over g c = λ s at.
    let on = c.loop-made.invariant.on s at in
    let over = subst (λ m. Moves (c.args.most - c.loop-made.made) on.session (nat_eq c.loop-made.made 0) c.loop-made.blocked c.turn.new.self (Ok m))
    c.in-Over.is (c.in_ok-line.ensures.moves on.session on.is) in
    let left = lost_at s c.loop-made.made c.loop-made.blocked c.args.most _ c.turn.new.self _ c.loop-made-test.true on over in
    want_of_memory _ _ s left.0 _ _ _ c.from_residual-in_err-from_str-in-Over.ensures.1 left.1 left.2

pub returns-in-Over : goal.returns-in-Over
returns-in-Over g c = λ s at.
    let on = c.loop-made.invariant.on s at in
    let over = subst (λ m. Moves (c.args.most - c.loop-made.made) on.session (nat_eq c.loop-made.made 0) c.loop-made.blocked c.turn.new.self (Ok m))
    c.in-Over.is (c.in_ok-line.ensures.moves on.session on.is) in
    let all = over_at s c.loop-made.made c.loop-made.blocked c.args.most _ c.turn.new.self _ c.loop-made-test.true on over in
    (all.0 ∙ ap Ok (sym c.in_ok-from_str-in-Over.ensures.ok), all.1)

pub returns-in-AtBreak : goal.returns-in-AtBreak
returns-in-AtBreak g c = λ s at.
    let on = c.loop-made.invariant.on s at in
    let over = subst (λ m. Moves (c.args.most - c.loop-made.made) on.session (nat_eq c.loop-made.made 0) c.loop-made.blocked c.turn.new.self (Ok m))
    c.in-AtBreak.is (c.in_ok-line.ensures.moves on.session on.is) in
    over_at s c.loop-made.made c.loop-made.blocked c.args.most _ c.turn.new.self _ c.loop-made-test.true on over

pub returns-in_err-from_str : goal.returns-in_err-from_str
returns-in_err-from_str g c = λ s at.
    let on = c.loop-made.invariant.on s at in
    let left = left_at s c.loop-made.made c.loop-made.blocked c.args.most _ (omega arith) on in
    want_of_memory _ _ s left.0 _ _ _ c.from_residual-in_err-from_str.ensures.1 left.1 left.2

pub returns : goal.returns
returns g c = λ s at.
    let on = c.loop-made.invariant.on s at in
    let here = subst (λ (d : DebuggerView _). IsSession d on.session) (sym c.self-2.view_is) on.is in
    let all : c.loop-made.made ≡ c.args.most = omega arith in
    let line = c.last_line-line.ensures on.session (nat_eq c.loop-made.made 0) here.world here.cursor in
    all_made s c.loop-made.made c.loop-made.blocked c.args.most _ _ all on (line ∙ ap Ok (sym c.in_ok-from_str.ensures.ok))

pub loop-made-preserved : goal.loop-made-preserved
loop-made-preserved g c =
    let left = c.args.most - c.loop-made.made in
    let some = subst (λ m. IsFew left c.loop-made.blocked (Ok m)) c.in-On.is c.in_ok-line.ensures.few in
    let low = some.0 in
    let high = some.1 in
    let row = some.2 in
    record {
      within = omega (arith, high);
      few = omega (arith, low, row);
      marked = stays_marked c.in_ok-marks.marks.items c.turn.ensures.marked c.loop-made.invariant.marked;
      on = λ s at.
          let on = c.loop-made.invariant.on s at in
          let next = subst (λ m. Moves left on.session (nat_eq c.loop-made.made 0) c.loop-made.blocked c.turn.new.self (Ok m))
          c.in-On.is (c.in_ok-line.ensures.moves on.session on.is) in
          goes_on s c.loop-made.made c.loop-made.blocked c.in-On.some c.in-On.count _ c.turn.new.self on low next.0 next.1 next.2;
    }
