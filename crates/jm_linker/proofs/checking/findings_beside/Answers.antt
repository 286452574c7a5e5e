-- The names, the members, and what is used, one behind the other.
use Rattle.std.proofs.Common.{[], ◌++◌, ap, ◌∙◌, sym}
use Rattle.jm_linker.specs.Findings.{cycle_found, each, main_found, members_again, methods_found, named_again, parents_found}
use Rattle.jm_linker.proofs.checking.findings_beside.Goals as goal

pub with_members-requires : goal.with_members-requires
with_members-requires c = c.in_ok-members.ensures.classes ∙ sym c.in_ok-names.ensures

pub returns : goal.returns
returns c =
    let program = c.args.program.now in
    let now = c.note_all_members.new.findings.items in
    c.in_ok-note_uses.ensures
    ∙ ap (λ p. now ++ each (parents_found p) 0 p ++ each (cycle_found p) 0 p ++ main_found p ++ each (methods_found p) 0 p) (c.in-Ok.ensures ∙ c.in_ok-names.ensures)
    ∙ ap (λ t. t ++ each (parents_found program) 0 program ++ each (cycle_found program) 0 program ++ main_found program ++ each (methods_found program) 0 program)
    (c.in_ok-members.ensures.noted ∙ ap (λ t. t ++ each members_again 0 program) (c.in_ok-note_names.ensures
    ∙ ap (λ old. old ++ named_again [] 0 c.in_ok-names.names.program.now) c.new-findings.ensures.items ∙ ap (named_again [] 0) c.in_ok-names.ensures))
