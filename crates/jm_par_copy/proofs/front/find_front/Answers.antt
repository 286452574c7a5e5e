use Rattle.jm_par_copy.specs.Front.{IsAhead, IsAtFront}
use Rattle.std.proofs.lemmas.Option.{slice_get_read}
use Rattle.std.proofs.Common.{refl, length}
use Rattle.jm_par_copy.proofs.Fronts.{all_added}
use Rattle.jm_par_copy.proofs.front.find_front.Goals as goal

pub loop-number-preserved : goal.loop-number-preserved
loop-number-preserved c =
    let copiers = c.args.copiers.now in
    let copier = c.index-copiers-number.result in
    let there = slice_get_read copiers (length copiers) c.loop-number.number copier refl c.loop-number-test.true c.index-copiers-number.is in
    all_added (IsAhead copier) (IsAtFront copiers) c.loop-number.places.items c.add_ahead.new.places.items (λ p h. (c.loop-number.number, copier, there, h)) c.loop-number.invariant c.in_ok-add_ahead.ensures
