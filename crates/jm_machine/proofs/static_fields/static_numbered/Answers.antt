use Rattle.std.proofs.Common.{◌≡◌, suc, ◌-◌, ◌∷◌, sym, ap, ◌∙◌, arith}
use Rattle.std.specs.Prelude.{map, slice_get}
use Rattle.std.specs.List.{flat_map}
use Rattle.jm_world.specs.Loading.{out_field, statics_of_class}
use Rattle.jm_world.specs.World.{Static}
use Rattle.jm_machine.specs.StaticFields.{static_names}
use Rattle.jm_machine.proofs.StaticFields.{names_are}
use Rattle.jm_machine.proofs.static_fields.static_numbered.Goals as goal

pub returns : goal.returns
returns c =
    let number = c.args.number in
    let program = c.args.linked.now.program in
    let past = c.if-number-eq0.false in
    let more : suc (number - 1) ≡ number = omega (arith, past) in
    c.static_among.ensures
    ∙ ap (λ cs. slice_get (static_names cs) (number - 1)) c.classes.ensures.classes
    ∙ ap (λ ns. slice_get ns (number - 1)) (sym (names_are program))
    ∙ ap (slice_get (out_field ∷ map (λ (s : Static). s.field) (flat_map statics_of_class program))) more
