use Rattle.std.proofs.Common.{sym, ap, ◌∙◌, Some}
use Rattle.std.specs.Prelude.{slice_get, option_map}
use Rattle.std.proofs.lemmas.Option.{slice_get-map}
use Rattle.jm_values.specs.Shape.{option_shape}
use Rattle.jm_values.specs.Rename.{value_shape}
use Rattle.jm_values.specs.Content.{name_of}
use Rattle.jm_machine.specs.MethodFrames.{MethodFrameView}
use Rattle.jm_machine.proofs.Parted.{local_resident}
use Rattle.jm_machine.proofs.frame.MethodFrame.local.Goals as goal

pub world_local-requires : goal.world_local-requires
world_local-requires g c =
    local_resident (g.H.Heap.content c.self.inside.heap.now) c.self.inside.frame.now c.self.invariant c.args.number c.in_ok-local.local (sym c.in_ok-local.ensures)

pub returns : goal.returns
returns g c =
    let rename = (option_shape value_shape).rename (name_of (g.H.Heap.content c.self.inside.heap.now)) in
    let locals = c.self.inside.frame.now.activation.locals in
    ap Some c.world_local.ensures
    ∙ sym (slice_get-map rename locals c.args.number ∙ ap (option_map rename) (sym c.in_ok-local.ensures))
    ∙ ap (λ (x : MethodFrameView). slice_get x.activation.locals c.args.number) c.self.view_is
