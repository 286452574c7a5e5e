-- The class of the name goes before what holds none.
use Rattle.std.proofs.Common.{ap, ◌∙◌, ℕ, Option}
use Rattle.std.specs.Prelude.{is_none, position}
use Rattle.jm_class_path.specs.Programs.{or_else}
use Rattle.jm_class_path.proofs.main_class.main_at.Goals as goal

pub returns-in-Some-clause-place : goal.returns-in-Some-clause-place
returns-in-Some-clause-place c = ap (λ (o : Option ℕ). or_else o (position is_none c.args.classes.now)) c.in-Some.ensures.place

pub returns-in-None-clause-place : goal.returns-in-None-clause-place
returns-in-None-clause-place c =
    c.first_without.ensures.place ∙ ap (λ (o : Option ℕ). or_else o (position is_none c.args.classes.now)) c.in-None.ensures.place
