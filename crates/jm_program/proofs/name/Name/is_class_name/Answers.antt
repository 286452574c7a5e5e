-- The test of each part between the separators.
use Rattle.std.proofs.Common.{nat_eq, rules, tests}
use Rattle.std.proofs.lemmas.Iterator.Search.{all_from_yields_List}
use Rattle.std.proofs.lemmas.Iterator.Splits.{YieldsList-from_slice_split}
use Rattle.jm_program.specs.Names.{is_unqualified}
use Rattle.jm_program.proofs.name.Name.is_class_name.Goals as goal

pub returns : goal.returns
returns c =
    all_from_yields_List is_unqualified _ _ _ c.all.ensures.ran
    (YieldsList-from_slice_split _ (λ u. nat_eq u 47) c.args.self.now (search rules) c.split.ensures.done c.split.ensures.closure (λ x b q k. search (rules, tests)))
    (λ x b q k. search (rules, tests))
