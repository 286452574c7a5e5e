use Rattle.std.proofs.Common.{sym, ap, ◌∙◌}
use Rattle.jm_world.specs.Invocation.{class_of}
use Rattle.jm_state.specs.Parts.{named_type}
use Rattle.jm_interp.specs.Standing.{ThreadRest}
use Rattle.jm_interp.proofs.Entries.{no_object, its_object, begins_selected}
use Rattle.jm_interp.proofs.Objects.{lies, told}
use Rattle.jm_interp.proofs.OnThread.{read}
use Rattle.jm_interp.proofs.thread_entry.enter_thread.Goals as goal

pub returns-in_default-clause-steps : goal.returns-in_default-clause-steps
returns-in_default-clause-steps g c =
    let h = c.requires.1 in
    no_object h (sym (ap (λ (r : ThreadRest). r.object.place) (read h c.index.ensures).rest_is) ∙ cc)

pub class_of-requires : goal.class_of-requires
class_of-requires g c =
    let h = c.requires.1 in
    lies h (its_object h (sym (ap (λ (r : ThreadRest). r.object.place) (read h c.index.ensures).rest_is) ∙ c.in-Some.is))

pub enter_selected-requires : goal.enter_selected-requires
enter_selected-requires g c =
    let h = c.requires.1 in
    let own = sym (ap (λ (r : ThreadRest). r.object.place) (read h c.index.ensures).rest_is) ∙ c.in-Some.is in
    let program = c.args.at.linked.now.program in
    begins_selected h own
    (c.class_of-class.ensures program ∙ ap (λ id. class_of (named_type program id)) (told h (its_object h own) c.class_of.ensures))
    (c.is_numbered.ensures.0 c.if-not-is_numbered.false) c.select-selected.ensures
