use Rattle.std.proofs.Common.{refl, length}
use Rattle.std.proofs.lemmas.Option.{slice_get_read}
use Rattle.jm_par_copy.proofs.Redealing.{seats_set, taken_is_gathered}
use Rattle.jm_par_copy.proofs.dealing.take_from.Goals as goal

pub returns-clause-dealt : goal.returns-clause-dealt
returns-clause-dealt c =
    let cs = c.args.copiers.now.items in
    let at = slice_get_read cs (length cs) c.args.number c.index_mut.result.now refl c.requires c.index_mut.ensures.value in
    taken_is_gathered cs c.args.number c.index_mut.result.now c.take_given.new.copier c.args.all.now.items c.take_given.new.all.items at c.in_ok-take_given.ensures.taken

pub returns-clause-seats : goal.returns-clause-seats
returns-clause-seats c =
    let cs = c.args.copiers.now.items in
    let at = slice_get_read cs (length cs) c.args.number c.index_mut.result.now refl c.requires c.index_mut.ensures.value in
    seats_set cs c.args.number c.index_mut.result.now c.take_given.new.copier at c.take_given.ensures.seat

pub returns-in_err-take_given-clause-seats : goal.returns-in_err-take_given-clause-seats
returns-in_err-take_given-clause-seats c =
    let cs = c.args.copiers.now.items in
    let at = slice_get_read cs (length cs) c.args.number c.index_mut.result.now refl c.requires c.index_mut.ensures.value in
    seats_set cs c.args.number c.index_mut.result.now c.take_given.new.copier at c.take_given.ensures.seat
