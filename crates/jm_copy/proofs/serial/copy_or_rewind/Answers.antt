use Rattle.std.proofs.Common.{◌∙◌, ap, sym, subst}
use Rattle.jm_copy.specs.Copies.{is_above, IsMark}
use Rattle.jm_copy.proofs.Keeping.{mark_stays}
use Rattle.jm_copy.proofs.Whole.{rewound}
use Rattle.jm_copy.proofs.serial.copy_or_rewind.Goals as goal

pub rewind-requires : goal.rewind-requires
rewind-requires c =
    let stays = c.copy_reached.ensures.stays in
    let after = c.copy_reached.new.to in
    subst (λ k. IsMark after.tenured k) (sym stays.kept) (mark_stays c.args.to.now.tenured after.tenured c.args.to.now.kept stays.old_there c.requires.fresh.kept)

pub returns-in-Err-clause-err : goal.returns-in-Err-clause-err
returns-in-Err-clause-err c =
    let stays = c.copy_reached.ensures.stays in
    let after = c.copy_reached.new.to in
    let kept = stays.kept in
    rewound c.args.to.now.tenured after.tenured c.rewind.new.store c.args.to.now.kept c.requires.fresh.last stays.below (λ n e. c.rewind.ensures.below n (ap (λ k. is_above k n) kept ∙ e)) (λ n e. c.rewind.ensures.above n (ap (λ k. is_above k n) kept ∙ e))
