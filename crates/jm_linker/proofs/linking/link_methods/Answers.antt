-- One reason after the other.
use Rattle.std.proofs.Common.{◌≡◌, List, [], None, Result, Ok, Err, ap, subst, ◌∙◌}
use Rattle.jm_program.specs.declared.class.ClassParts.{ClassParts}
use Rattle.jm_world.specs.Loads.{first_of_all, duplicates, duplicate_members, refusal}
use Rattle.jm_linker.specs.Answers.{Answers}
use Rattle.jm_linker.specs.Linking.{after_members}
use Rattle.jm_linker.specs.declared.fault.LinkFault.{LinkFault}
use Rattle.jm_linker.proofs.Reasons.{second_answers}
use Rattle.jm_linker.proofs.linking.link_methods.Goals as goal

-- the names and the members say nothing, so what comes after them decides
decided : {A : Type 0} (p q : List ClassParts) (r : Result A LinkFault) → p ≡ q → Answers r (after_members p)
    → duplicates [] q ≡ None → first_of_all duplicate_members q ≡ None → Answers r (refusal q)
unfolding refusal
decided p q r same after classes members = second_answers r _ _ classes (second_answers r _ _ members (subst (λ x. Answers r (after_members x)) same after))

pub returns-in-Err-clause-refusal : goal.returns-in-Err-clause-refusal
returns-in-Err-clause-refusal c =
    let r : Result (Unit {0}) LinkFault = Err c.in-Err.fault in
    subst (λ p. Answers r (refusal p)) c.in_ok-names.ensures
    (decided _ _ r c.in_ok-classes.ensures.program c.in-Err.ensures.refusal c.in_ok-no_duplicate_classes.ensures c.in_ok-classes.ensures.refusal)

pub returns-in-Ok-clause-refusal : goal.returns-in-Ok-clause-refusal
returns-in-Ok-clause-refusal c =
    let r : Result (Unit {0}) LinkFault = Ok tt in
    subst (λ p. Answers r (refusal p)) c.in_ok-names.ensures
    (decided _ _ r c.in_ok-classes.ensures.program c.in-Ok.ensures.refusal c.in_ok-no_duplicate_classes.ensures c.in_ok-classes.ensures.refusal)

pub link_members-requires-clause-classes : goal.link_members-requires-clause-classes
link_members-requires-clause-classes c = ap (duplicates []) c.in_ok-classes.ensures.program ∙ c.in_ok-no_duplicate_classes.ensures

pub link_members-requires-clause-members : goal.link_members-requires-clause-members
link_members-requires-clause-members c = ap (first_of_all duplicate_members) c.in_ok-classes.ensures.program ∙ c.in_ok-classes.ensures.refusal
