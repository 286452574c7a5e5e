use Rattle.std.proofs.Common.{◌≡◌, ◌∙◌, ap}
use Rattle.jm_blocks.specs.Stores.{objects_in}
use Rattle.jm_par_copy.specs.Working.{both}
use Rattle.jm_par_copy.proofs.Merged.{over_opened}
use Rattle.jm_par_copy.proofs.merging.move_all.Goals as goal

pub move_opened-requires-clause-over : goal.move_opened-requires-clause-over
move_opened-requires-clause-over c = over_opened c.args.from.now c.args.to.now c.open_all.new.to c.requires.over c.open_all.ensures.same

pub returns-clause-ok : goal.returns-clause-ok
returns-clause-ok c n =
    let whole : objects_in c.open_all.new.to ≡ objects_in c.args.to.now = λ t m. c.open_all.ensures.same m t in
    c.move_opened.ensures.all n ∙ ap (λ f. both f (objects_in c.args.from.now) n) whole
