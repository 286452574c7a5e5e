-- Each line, and then the last.
use Rattle.std.proofs.Common.{ap, sym, subst, ◌∙◌, ◌++◌, ◌≤◌, List, ℕ, length}
use Rattle.std.specs.List.{flat_map}
use Rattle.std.proofs.lemmas.List.{take_all}
use Rattle.std.proofs.lemmas.List.Folds.{flat_map-map}
use Rattle.jm_machine.specs.EndTexts.{ended_line}
use Rattle.jm_explore.specs.Outcomes.{Thrown, thrown_of}
use Rattle.jm_explore.specs.OutcomeTexts.{last_line}
use Rattle.jm_explore.specs.declared.outcome.EndedBy.{EndedBy}
use Rattle.jm_explore.proofs.outcome_texts.outcome_lines.Goals as goal

pub returns : goal.returns
returns c =
    let all = c.args.outcome.now.ended_by.items in
    let index = c.loop-ended.ended-index in
    let none_left = subst (λ (es : List EndedBy). length es ≤ index) c.deref-ended-items.ensures.value c.loop-ended-test.false in
    let lines = c.loop-ended.invariant ∙ ap (flat_map (λ (e : EndedBy). ended_line e.thread e.class.items)) (take_all index all none_left)
    ∙ sym (flat_map-map (λ (t : Thrown). ended_line t.thread t.class) thrown_of all) in
    c.in_ok-extend_from_slice-2.ensures.items ∙ ap (λ (t : List ℕ). c.loop-ended.lines.items ++ t) (c.as_bytes-2.ensures.value ∙ c.in_ok-last.ensures)
    ∙ ap (λ (t : List ℕ). t ++ last_line c.args.outcome.now.how) lines
