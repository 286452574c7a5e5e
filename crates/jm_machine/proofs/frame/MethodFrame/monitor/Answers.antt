use Rattle.std.proofs.Common.{sym, ap, ◌∙◌, Some}
use Rattle.jm_values.specs.Content.{name_of}
use Rattle.jm_world.specs.Frames.{optional_number_shape}
use Rattle.jm_values.proofs.SoundContents.{name_is}
use Rattle.jm_machine.specs.MethodFrames.{MethodFrameView}
use Rattle.jm_machine.proofs.Parted.{monitor_resident}
use Rattle.jm_machine.proofs.frame.MethodFrame.monitor.Goals as goal

pub serial-requires : goal.serial-requires
serial-requires g c =
    monitor_resident (g.H.Heap.content c.self.inside.heap.now) c.self.inside.frame.now c.self.invariant c.in_ok-place.place (sym c.in_ok-place.ensures)

pub returns : goal.returns
returns g c =
    let heap = g.H.Heap.content c.self.inside.heap.now in
    ap Some (sym (name_is heap c.in_ok-place.place c.serial.result c.serial.ensures))
    ∙ ap (optional_number_shape.rename (name_of heap)) c.in_ok-place.ensures
    ∙ ap (λ (x : MethodFrameView). x.monitor) c.self.view_is
