use Rattle.std.proofs.Common.{◌≡◌, ◌++◌, Some, [], ◌∙◌, ap, arith, refl, sym, length}
use Rattle.std.specs.Prelude.{slice_get}
use Rattle.std.proofs.lemmas.Option.{slice_get_read}
use Rattle.jm_par_copy.specs.Notes.{all_listed}
use Rattle.jm_par_copy.proofs.Noted.{copier_next, drop_all}
use Rattle.jm_par_copy.proofs.ending.all_pointing.Goals as goal

pub loop-copier-init : goal.loop-copier-init
loop-copier-init c = ap (λ ps. ps ++ all_listed c.args.copiers.now c.args.aside.now) c.new-places.ensures.items

pub loop-copier-preserved : goal.loop-copier-preserved
loop-copier-preserved c =
    let copiers = c.args.copiers.now in
    let n = c.loop-copier.copier-index in
    let one = c.copier-item.result in
    let at : slice_get copiers n ≡ Some one = slice_get_read copiers (length copiers) n one refl c.loop-copier-test.true c.copier-item.is in
    let added = c.in_ok-add_listed_by.ensures in
    copier_next copiers c.args.aside.now n one [] c.loop-copier.places.items added.0 c.add_listed_by.new.places.items (all_listed copiers c.args.aside.now) at added.1 added.2 c.loop-copier.invariant

pub returns : goal.returns
returns c =
    let over = c.loop-copier-test.false in
    let none = drop_all c.args.copiers.now c.loop-copier.copier-index (omega (arith, over)) in
    c.in_ok-add_listed_with.ensures ∙ sym (ap (λ cs. c.loop-copier.places.items ++ all_listed cs c.args.aside.now) none) ∙ c.loop-copier.invariant
