-- The lines of all are those of each group, one after the other.
use Rattle.jm_explain.specs.Table.{items, statuses, instructions, pools, class_files, assembler_texts, links, runs, sessions}
use Rattle.jm_explain.proofs.Lists.{first_lines, more_lines}
use Rattle.jm_explain.proofs.explaining.list.Goals as goal

pub returns : goal.returns
unfolding items
returns c =
    let one = first_lines _ statuses _ _ c.entries.ensures c.new-text.ensures.bytes c.in_ok-add_lines.ensures in
    let two = more_lines _ _ instructions _ _ c.entries-2.ensures one c.in_ok-add_lines-2.ensures in
    let three = more_lines _ _ pools _ _ c.entries-3.ensures two c.in_ok-add_lines-3.ensures in
    let four = more_lines _ _ class_files _ _ c.entries-4.ensures three c.in_ok-add_lines-4.ensures in
    let five = more_lines _ _ assembler_texts _ _ c.entries-5.ensures four c.in_ok-add_lines-5.ensures in
    let six = more_lines _ _ links _ _ c.entries-6.ensures five c.in_ok-add_lines-6.ensures in
    let seven = more_lines _ _ runs _ _ c.entries-7.ensures six c.in_ok-add_lines-7.ensures in
    more_lines _ _ sessions _ _ c.entries-8.ensures seven c.in_ok-add_lines-8.ensures
