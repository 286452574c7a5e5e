use Rattle.std.proofs.Common.{ap, length, sym, ◌+◌, ◌∙◌}
use Rattle.std.proofs.lemmas.Option.{same_Some}
use Rattle.jm_program.specs.Flags.{is_abstract}
use Rattle.jm_program.specs.declared.class.Method.{Method}
use Rattle.jm_interp.proofs.CodelessCalls.{constructor_goes_on}
use Rattle.jm_interp.proofs.Unwound.{named_numbered}
use Rattle.jm_interp.proofs.codeless_calls.call_without_code.Goals as goal

pub drop_and_go_on-requires-clause-step : goal.drop_and_go_on-requires-clause-step
drop_and_go_on-requires-clause-step g c =
    let h = c.requires in
    let program = c.args.at.linked.now.program in
    let same = same_Some _ _ (c.in-Some.ensures h.found h.declared) in
    let tells = c.has_constructor_alone.ensures h.found.class.name (named_numbered program c.args.method.class h.found.class h.declared.class) in
    constructor_goes_on h (ap (λ (m : Method). is_abstract m.flags) (sym same) ∙ sym c.has.ensures ∙ c.if-has.false) _
    (ap (λ ps. length ps + 1) (c.as_slice.ensures ∙ ap (λ (m : Method). m.descriptor.parameters) same ∙ h.parameters_are))
    (sym c.if-not-has_constructor_alone.false ∙ tells)
