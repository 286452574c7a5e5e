use Rattle.std.proofs.Common.{refl, length}
use Rattle.std.proofs.lemmas.Option.{slice_get_read}
use Rattle.jm_par_copy.proofs.Redealing.{one_is_dealt, seats_set}
use Rattle.jm_par_copy.proofs.dealing.add.Goals as goal

pub returns-clause-dealt : goal.returns-clause-dealt
returns-clause-dealt c =
    let cs = c.args.copiers.now.items in
    let at = slice_get_read cs (length cs) c.args.number c.index_mut.result.now refl c.requires c.index_mut.ensures.value in
    one_is_dealt cs c.args.number c.index_mut.result.now c.give_one.new.copier c.args.piece at c.in_ok-give_one.ensures.given

pub returns-clause-seats : goal.returns-clause-seats
returns-clause-seats c =
    let cs = c.args.copiers.now.items in
    let at = slice_get_read cs (length cs) c.args.number c.index_mut.result.now refl c.requires c.index_mut.ensures.value in
    seats_set cs c.args.number c.index_mut.result.now c.give_one.new.copier at c.give_one.ensures.seat

pub returns-in_err-give_one-clause-seats : goal.returns-in_err-give_one-clause-seats
returns-in_err-give_one-clause-seats c =
    let cs = c.args.copiers.now.items in
    let at = slice_get_read cs (length cs) c.args.number c.index_mut.result.now refl c.requires c.index_mut.ensures.value in
    seats_set cs c.args.number c.index_mut.result.now c.give_one.new.copier at c.give_one.ensures.seat
