-- The lines of the pages, and of the last stretch.
use Rattle.std.proofs.Common.{ap, subst, ◌∙◌, ◌≡◌, ◌≤◌, length, List, Ok}
use Rattle.std.specs.List.{All}
use Rattle.jm_world.specs.Schedules.{record_entries}
use Rattle.jm_shared.specs.Book.{Book}
use Rattle.jm_shared.specs.Records.{numbered, record_text}
use Rattle.jm_shared.specs.declared.entry.Entry.{Entry}
use Rattle.jm_shared.proofs.Records.{all_lines, all_read}
use Rattle.jm_shared.proofs.journal.Journal.record.Goals as goal

pub returns-clause-lines : goal.returns-clause-lines
returns-clause-lines g c =
    all_lines _ _ _ _ _ _ _ _ c.new-text.ensures.0 c.new-text.ensures.1 c.in_ok-add_lines.ensures c.in_ok-add.ensures ∙ ap (λ (b : Book _). record_text b.entries) c.self.view_is

pub returns-clause-reads_back : goal.returns-clause-reads_back
returns-clause-reads_back g c =
    subst
    (λ (es : List Entry). All (λ (e : Entry). e.seat ≤ 15) es → length es ≤ 160000000 → record_entries c.add.new.self.bytes.items ≡ Ok (numbered 1 es))
    (ap (λ (b : Book _). b.entries) c.self.view_is)
    (all_read _ _ _ _ _ _ _ _ c.new-text.ensures.0 c.new-text.ensures.1 c.in_ok-add_lines.ensures c.in_ok-add.ensures)
