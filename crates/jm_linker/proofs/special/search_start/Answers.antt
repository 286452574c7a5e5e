-- The walk up tells whether the named class is above.
use Rattle.std.proofs.Common.{sym, ap, ◌∙◌}
use Rattle.std.specs.Borrow.{Bor}
use Rattle.std.specs.Prelude.{option_map}
use Rattle.jm_linker.specs.declared.members.Members.{Members}
use Rattle.jm_linker.proofs.SpecialLaws.{start_above, start_aside}
use Rattle.jm_linker.proofs.special.search_start.Goals as goal

pub returns-in-Some-2 : goal.returns-in-Some-2
returns-in-Some-2 c =
    sym (start_above c.args.classes.now.program.now c.args.caller.now c.args.named.now c.in-Some-superclass.superclass c.in-Some.class.now
    c.in-Some-2.field-0.now.class.now c.from_ref.result.now c.requires (sym c.in-Some.ensures) c.in-Some-superclass.is
    (sym c.is_same.ensures ∙ c.if-is_same.false) c.from_ref.ensures.value
    (ap (option_map (λ (m : Bor Members). m.now.class.now)) (sym c.in-Some-2.is) ∙ c.in_ok-find_above.ensures))

pub returns-in-None : goal.returns-in-None
returns-in-None c =
    sym (start_aside c.args.classes.now.program.now c.args.caller.now c.args.named.now c.from_ref.result.now c.requires c.from_ref.ensures.value
    (ap (option_map (λ (m : Bor Members). m.now.class.now)) (sym c.in-None.is) ∙ c.in_ok-find_above.ensures))
