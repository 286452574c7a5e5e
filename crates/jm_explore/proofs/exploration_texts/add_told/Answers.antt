-- One piece behind the other.
use Rattle.std.proofs.Common.{◌≡◌, ℕ, List, ◌++◌, ap, ◌∙◌, append_assoc, codes}
use Rattle.jm_explore.specs.Outcomes.{told_end}
use Rattle.jm_explore.specs.ExplorationTexts.{heading}
use Rattle.jm_explore.specs.Marked.{Text, marked}
use Rattle.jm_explore.specs.OutcomeTexts.{outcome_lines}
use Rattle.jm_explore.specs.ScheduleTexts.{schedule_text}
use Rattle.jm_explore.proofs.exploration_texts.add_told.Goals as goal

pieces : (old one two three four a b c d : Text) → one ≡ old ++ a → two ≡ one ++ b → three ≡ two ++ c → four ≡ three ++ d → four ≡ old ++ (a ++ (b ++ (c ++ d)))
pieces old one two three four a b c d first second third last =
    last ∙ ap (λ (t : Text). t ++ d) third ∙ append_assoc two c d ∙ ap (λ (t : Text). t ++ (c ++ d)) second ∙ append_assoc one b (c ++ d)
    ∙ ap (λ (t : Text). t ++ (b ++ (c ++ d))) first ∙ append_assoc old a (b ++ (c ++ d))

pub returns : goal.returns
returns c =
    let told = c.args.told.now in
    let one = c.extend_from_slice.new.self.items in
    let two = c.add_marked.new.text.items in
    let three = c.add_marked-2.new.text.items in
    pieces c.args.text.now.items one two three c.add_schedule.new.text.items
    (heading c.args.number told) (marked (codes "| ") told.outcome.output.items) (marked (codes "! ") (outcome_lines (told_end told.outcome))) (schedule_text told.schedule.items)
    (c.in_ok-extend_from_slice.ensures.items ∙ ap (λ (t : Text). c.args.text.now.items ++ t) (c.as_bytes.ensures.value ∙ c.in_ok-heading.ensures))
    (c.in_ok-add_marked.ensures ∙ ap (λ (t : Text). one ++ marked (codes "| ") t) c.deref.ensures.value)
    (c.in_ok-add_marked-2.ensures ∙ ap (λ (t : Text). two ++ marked (codes "! ") t) (c.deref-2.ensures.value ∙ c.in_ok-lines.ensures))
    (c.in_ok-add_schedule.ensures ∙ ap (λ (ts : List ℕ). three ++ schedule_text ts) c.deref-3.ensures.value)
