-- The test of each part between the slashes.
use Rattle.std.proofs.Common.{nat_eq, rules, tests}
use Rattle.std.proofs.lemmas.Iterator.Search.{all_from_yields_List}
use Rattle.std.proofs.lemmas.Iterator.Splits.{YieldsList-from_slice_split}
use Rattle.jm_class_path.specs.Places.{is_file_part}
use Rattle.jm_class_path.proofs.place.stays_below.Goals as goal

pub returns : goal.returns
returns c =
    all_from_yields_List is_file_part _ _ _ c.all.ensures.ran
    (YieldsList-from_slice_split _ (λ u. nat_eq u 47) c.args.name.now (search rules) c.split.ensures.done c.split.ensures.closure (λ x b q k. search (rules, tests)))
    (λ x b q k. search (rules, tests))
