-- Below one of the folders.
use Rattle.std.proofs.Common.{◌≡◌, true}
use Rattle.std.specs.String.{string_bytes}
use Rattle.jm_class_path.specs.Places.{stays_below}
use Rattle.jm_class_path.proofs.Finding.{below_one_folder}
use Rattle.jm_class_path.proofs.folders.found_for.Goals as goal

pub returns-in-Some : goal.returns-in-Some
returns-in-Some g c =
    let stays : stays_below c.args.name.now ≡ true = cc (c.if-not-stays_below.ensures) in
    below_one_folder g.R.FileReader.facts (λ folder. string_bytes folder) c.args.folders.now c.args.name.now stays c.loop-folder.folder-index c.folder-item.result
    c.loop-folder-test.true c.folder-item.is c.deref.result.now c.deref.ensures c.in_ok-found.field-0 c.in-Some.found c.in-Some.is c.in_ok-found.ensures
