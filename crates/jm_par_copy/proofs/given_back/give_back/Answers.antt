use Rattle.jm_par_copy.proofs.Giving.{gives_more, still_more}
use Rattle.jm_par_copy.proofs.Noting.{listed_then}
use Rattle.jm_par_copy.proofs.given_back.give_back.Goals as goal

pub returns-in_err-give_young-clause-holds : goal.returns-in_err-give_young-clause-holds
returns-in_err-give_young-clause-holds c = still_more c.args.to.now c.loop-number.to c.give_young.new.to c.args.marks.now c.args.given.now.items c.loop-number.given.items c.give_young.new.given.items c.loop-number.invariant.holds c.give_young.ensures.holds

pub returns-in_err-give_young-clause-listed : goal.returns-in_err-give_young-clause-listed
returns-in_err-give_young-clause-listed c = listed_then c.args.marks.now.tenured c.args.to.now c.loop-number.to c.give_young.new.to c.loop-number.invariant.listed c.give_young.ensures.listed

pub returns-in_err-give_young-clause-noted : goal.returns-in_err-give_young-clause-noted
returns-in_err-give_young-clause-noted c all = c.give_young.ensures.noted (c.loop-number.invariant.noted all)

pub returns-in_err-give_old-clause-holds : goal.returns-in_err-give_old-clause-holds
returns-in_err-give_old-clause-holds c = still_more c.args.to.now c.loop-number-2.to c.give_old.new.to c.args.marks.now c.args.given.now.items c.loop-number-2.given.items c.give_old.new.given.items c.loop-number-2.invariant.holds c.give_old.ensures.holds

pub returns-in_err-give_old-clause-listed : goal.returns-in_err-give_old-clause-listed
returns-in_err-give_old-clause-listed c = listed_then c.args.marks.now.tenured c.args.to.now c.loop-number-2.to c.give_old.new.to c.loop-number-2.invariant.listed c.give_old.ensures.listed

pub returns-in_err-give_old-clause-noted : goal.returns-in_err-give_old-clause-noted
returns-in_err-give_old-clause-noted c all = c.give_old.ensures.noted (c.loop-number-2.invariant.noted all)

pub loop-number-preserved : goal.loop-number-preserved
loop-number-preserved c =
    let i = c.loop-number.invariant in
    let e = c.give_young.ensures in
    let t = gives_more c.args.to.now c.loop-number.to c.give_young.new.to c.args.marks.now c.args.given.now.items c.loop-number.given.items c.give_young.new.given.items (i.holds, i.same, i.listed, i.noted) (e.holds, e.same, e.listed, e.noted) in
    record { holds = t.0; same = t.1; listed = t.2; noted = t.3 }

pub loop-number-2-preserved : goal.loop-number-2-preserved
loop-number-2-preserved c =
    let i = c.loop-number-2.invariant in
    let e = c.give_old.ensures in
    let t = gives_more c.args.to.now c.loop-number-2.to c.give_old.new.to c.args.marks.now c.args.given.now.items c.loop-number-2.given.items c.give_old.new.given.items (i.holds, i.same, i.listed, i.noted) (e.holds, e.same, e.listed, e.noted) in
    record { holds = t.0; same = t.1; listed = t.2; noted = t.3 }
