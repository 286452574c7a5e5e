-- From the superclass, from a superinterface, or from neither.
use Rattle.std.proofs.Common.{sym, ap, ◌∙◌}
use Rattle.std.specs.Borrow.{Bor}
use Rattle.std.specs.Prelude.{option_map}
use Rattle.jm_linker.specs.declared.members.Members.{Members}
use Rattle.jm_linker.proofs.CycleLaws.{above_by_superclass, above_by_interface, not_above_alone, not_above}
use Rattle.jm_linker.proofs.cycles.is_above_itself.Goals as goal
use Rattle.jm_linker.proofs.cycles.is_above_itself.Goals.{in-Some+in_ok-find_above+in_default-2, in_default}

pub returns-in-Some-2 : goal.returns-in-Some-2
returns-in-Some-2 c =
    above_by_superclass c.args.classes.now.program.now c.args.class.now c.in-Some-2.field-0.now.class.now c.in-Some.name c.from_ref.result.now c.requires c.in-Some.is c.from_ref.ensures.value
    (sym (ap (option_map (λ (m : Bor Members). m.now.class.now)) c.in-Some-2.is) ∙ c.in_ok-find_above.ensures)

pub returns-in-Some-3 : goal.returns-in-Some-3
returns-in-Some-3 c =
    above_by_interface c.args.classes.now.program.now c.args.class.now c.in-Some-3.field-0.now.class.now c.as_slice.result.now c.requires c.as_slice.ensures
    (sym (ap (option_map (λ (m : Bor Members). m.now.class.now)) c.in-Some-3.is) ∙ c.in_ok-find_above-2.ensures)

pub returns-in-None : goal.returns-in-None
returns-in-None c = elim c.match-class.branch [
  | in-Some+in_ok-find_above+in_default-2 w ↦
      not_above c.args.classes.now.program.now c.args.class.now w.in-Some.name w.from_ref.result.now c.as_slice.result.now c.requires w.in-Some.is w.from_ref.ensures.value
      (sym (ap (option_map (λ (m : Bor Members). m.now.class.now)) w.in_default-2.is) ∙ w.in_ok-find_above.ensures) c.as_slice.ensures (sym (ap (option_map (λ (m : Bor Members). m.now.class.now)) c.in-None.is) ∙ c.in_ok-find_above-2.ensures)
  | in_default w ↦
      not_above_alone c.args.classes.now.program.now c.args.class.now c.as_slice.result.now c.requires w.in_default.is c.as_slice.ensures (sym (ap (option_map (λ (m : Bor Members). m.now.class.now)) c.in-None.is) ∙ c.in_ok-find_above-2.ensures)
]
