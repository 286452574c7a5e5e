-- The first one that is live, or none.
use Rattle.std.proofs.Common.{◌≡◌, ◌<◌, ◌+◌, length, true, sym, ◌∙◌, arith}
use Rattle.jm_machine.specs.Threads.{is_live}
use Rattle.jm_debug.proofs.LiveTurns.{nothing_between, one_more, first_live, none_live}
use Rattle.jm_debug.proofs.turn.live_behind.Goals as goal

pub loop-before-init : goal.loop-before-init
loop-before-init g c = λ w m. nothing_between w (c.args.last + 1)

pub returns-then-is_live-clause-first : goal.returns-then-is_live-clause-first
returns-then-is_live-clause-first g c = λ w m.
    let live : is_live w (c.loop-before.before + 1) ≡ true = sym (c.is_live.ensures w m) ∙ c.if-is_live.true in
    sym (first_live w (c.args.last + 1) (c.loop-before.before + 1) (omega arith) live (c.loop-before.invariant w m))

pub loop-before-preserved : goal.loop-before-preserved
loop-before-preserved g c = λ w m. one_more w (c.args.last + 1) (c.loop-before.before + 1) (c.loop-before.invariant w m) (sym (c.is_live.ensures w m) ∙ c.if-is_live.false)

pub returns-clause-first : goal.returns-clause-first
returns-clause-first g c = λ w m.
    let count = c.threads-before-end.ensures w m in
    let all : length w.threads < c.loop-before.before + 1 = omega arith in
    sym (none_live w (c.args.last + 1) (c.loop-before.before + 1) all (c.loop-before.invariant w m))
