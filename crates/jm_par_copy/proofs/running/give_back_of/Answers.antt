use Rattle.std.proofs.Common.{refl, length}
use Rattle.std.proofs.lemmas.Option.{slice_get_read}
use Rattle.jm_par_copy.proofs.Redealing.{seats_set}
use Rattle.jm_par_copy.proofs.GivingBack.{back_set}
use Rattle.jm_par_copy.proofs.running.give_back_of.Goals as goal

pub returns-clause-back : goal.returns-clause-back
returns-clause-back c =
    let cs = c.args.copiers.now.items in
    let at = slice_get_read cs (length cs) c.args.number c.index_mut.result.now refl c.requires c.index_mut.ensures.value in
    back_set cs c.args.number c.index_mut.result.now c.give_one_back.new.copier at c.in_ok-give_one_back.ensures.back

pub returns-clause-seats : goal.returns-clause-seats
returns-clause-seats c =
    let cs = c.args.copiers.now.items in
    let at = slice_get_read cs (length cs) c.args.number c.index_mut.result.now refl c.requires c.index_mut.ensures.value in
    seats_set cs c.args.number c.index_mut.result.now c.give_one_back.new.copier at c.give_one_back.ensures.seat

pub returns-in_err-give_one_back-clause-seats : goal.returns-in_err-give_one_back-clause-seats
returns-in_err-give_one_back-clause-seats c =
    let cs = c.args.copiers.now.items in
    let at = slice_get_read cs (length cs) c.args.number c.index_mut.result.now refl c.requires c.index_mut.ensures.value in
    seats_set cs c.args.number c.index_mut.result.now c.give_one_back.new.copier at c.give_one_back.ensures.seat
