-- One event more.
use Rattle.std.proofs.Common.{[], ◌∷◌, ◌∙◌, None, Some, ap, get_or, sym, take}
use Rattle.std.proofs.lemmas.List.{take_more}
use Rattle.jm_explore.specs.Switches.{next_turn, turn_from}
use Rattle.jm_explore.proofs.Paths.{turn_append}
use Rattle.jm_explore.proofs.turn.last_turn.Goals as goal

pub loop-thread-preserved : goal.loop-thread-preserved
loop-thread-preserved c =
    let i = c.loop-thread.thread-index in
    let made = take i c.args.path.now in
    let t = get_or c.args.path.now i 0 in
    ap (λ x. Some x) (c.next_turn.ensures ∙ ap (λ l. next_turn c.args.slice l t) c.loop-thread.invariant)
    ∙ sym (turn_append c.args.slice None made (t ∷ [])) ∙ ap (turn_from c.args.slice None) (sym (take_more c.args.path.now i 0 c.loop-thread-test.true))
