use Rattle.std.proofs.Common.{arith}
use Rattle.jm_copy.proofs.Numbering.{lane_there, numbered, number_within}
use Rattle.jm_copy.proofs.source.number.Goals as goal

pub overflow_sub-starts : goal.overflow_sub-starts
overflow_sub-starts c = let there = lane_there c.args.stores.now c.args.place c.requires.there.0 c.requires.lanes c.requires.there.1 in omega (arith, there.0, c.of-position.ensures.lane)

pub bounds-numbers-position : goal.bounds-numbers-position
bounds-numbers-position c = let there = lane_there c.args.stores.now c.args.place c.requires.there.0 c.requires.lanes c.requires.there.1 in omega (arith, there.0, there.1, c.of-position.ensures.lane, c.requires.numbers.many)

pub get-requires : goal.get-requires
get-requires c = (numbered c.args.stores.now c.args.numbers.now c.args.place c.of-position.result.lane c.of-position.result.block c.of-position.result.index c.requires.there.0 c.index-numbers-position.result c.requires.lanes c.requires.numbers c.requires.there.1 c.of-position.ensures.lane c.of-position.ensures.block c.of-position.ensures.index c.index-numbers-position.is).0

pub returns-clause-value : goal.returns-clause-value
returns-clause-value c =
    let is = numbered c.args.stores.now c.args.numbers.now c.args.place c.of-position.result.lane c.of-position.result.block c.of-position.result.index c.requires.there.0 c.index-numbers-position.result c.requires.lanes c.requires.numbers c.requires.there.1 c.of-position.ensures.lane c.of-position.ensures.block c.of-position.ensures.index c.index-numbers-position.is in
    omega (arith, is.1, c.get.ensures)

pub overflow_add-result : goal.overflow_add-result
overflow_add-result c =
    let is = numbered c.args.stores.now c.args.numbers.now c.args.place c.of-position.result.lane c.of-position.result.block c.of-position.result.index c.requires.there.0 c.index-numbers-position.result c.requires.lanes c.requires.numbers c.requires.there.1 c.of-position.ensures.lane c.of-position.ensures.block c.of-position.ensures.index c.index-numbers-position.is in
    let within = number_within c.args.stores.now c.args.place c.requires.there.0 c.requires.there.1 in
    omega (arith, is.1, c.get.ensures, within, c.requires.few)

pub returns-clause-within : goal.returns-clause-within
returns-clause-within c =
    let is = numbered c.args.stores.now c.args.numbers.now c.args.place c.of-position.result.lane c.of-position.result.block c.of-position.result.index c.requires.there.0 c.index-numbers-position.result c.requires.lanes c.requires.numbers c.requires.there.1 c.of-position.ensures.lane c.of-position.ensures.block c.of-position.ensures.index c.index-numbers-position.is in
    let within = number_within c.args.stores.now c.args.place c.requires.there.0 c.requires.there.1 in
    omega (arith, is.1, c.get.ensures, within)
