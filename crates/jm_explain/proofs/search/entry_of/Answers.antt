-- A search among all is a search in each group, one after the other.
use Rattle.jm_explain.specs.Table.{items, statuses, instructions, pools, class_files, assembler_texts, links, runs, sessions}
use Rattle.jm_explain.specs.Asked.{is_asked}
use Rattle.jm_explain.proofs.Finding.{found_first, found_or}
use Rattle.jm_explain.proofs.search.entry_of.Goals as goal

pub returns : goal.returns
unfolding items
returns c =
    let is = is_asked c.args.asked in
    let one = found_first is _ statuses c.first_of.result c.entries.ensures c.first_of.ensures in
    let two = found_or is _ _ instructions c.first_of.result c.first_of-2.result c.or.result c.entries-2.ensures one c.first_of-2.ensures c.or.ensures in
    let three = found_or is _ _ pools c.or.result c.first_of-3.result c.or-2.result c.entries-3.ensures two c.first_of-3.ensures c.or-2.ensures in
    let four = found_or is _ _ class_files c.or-2.result c.first_of-4.result c.or-3.result c.entries-4.ensures three c.first_of-4.ensures c.or-3.ensures in
    let five = found_or is _ _ assembler_texts c.or-3.result c.first_of-5.result c.or-4.result c.entries-5.ensures four c.first_of-5.ensures c.or-4.ensures in
    let six = found_or is _ _ links c.or-4.result c.first_of-6.result c.or-5.result c.entries-6.ensures five c.first_of-6.ensures c.or-5.ensures in
    let seven = found_or is _ _ runs c.or-5.result c.first_of-7.result c.or-6.result c.entries-7.ensures six c.first_of-7.ensures c.or-6.ensures in
    found_or is _ _ sessions c.or-6.result c.first_of-8.result c.or-7.result c.entries-8.ensures seven c.first_of-8.ensures c.or-7.ensures
