-- What stands so far, and what is told of the outcomes that are left.
use Rattle.std.proofs.Common.{◌≡◌, ◌+◌, ◌++◌, drop}
use Rattle.jm_explore.specs.ExplorationTexts.{tolds_text}
use Rattle.jm_explore.proofs.exploration_texts.add_tolds.Given as goal

abbrev pub invariant-loop-told : goal.invariant-loop-told
invariant-loop-told l =
    (l.text.items ++ tolds_text l.number (drop l.told-index l.tolds) ≡ l.initial.text.items ++ tolds_text 1 l.tolds) × (l.number ≡ l.told-index + 1)
