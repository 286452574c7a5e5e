use Rattle.std.proofs.Common.{sym, ap, ◌∙◌, Some}
use Rattle.std.specs.Prelude.{slice_get, option_map}
use Rattle.std.proofs.lemmas.Option.{slice_get-map}
use Rattle.jm_values.specs.Rename.{value_shape}
use Rattle.jm_values.specs.Content.{name_of}
use Rattle.jm_machine.specs.MethodFrames.{MethodFrameView}
use Rattle.jm_machine.proofs.Parted.{operand_resident}
use Rattle.jm_machine.proofs.frame.MethodFrame.operand.Goals as goal

pub world_value-requires : goal.world_value-requires
world_value-requires g c =
    operand_resident (g.H.Heap.content c.self.inside.heap.now) c.self.inside.frame.now c.self.invariant c.args.depth c.in_ok-value.value (sym c.in_ok-value.ensures.value)

pub returns : goal.returns
returns g c =
    let rename = value_shape.rename (name_of (g.H.Heap.content c.self.inside.heap.now)) in
    let stack = c.self.inside.frame.now.activation.stack in
    ap Some c.world_value.ensures
    ∙ sym (slice_get-map rename stack c.args.depth ∙ ap (option_map rename) (sym c.in_ok-value.ensures.value))
    ∙ ap (λ (x : MethodFrameView). slice_get x.activation.stack c.args.depth) c.self.view_is
