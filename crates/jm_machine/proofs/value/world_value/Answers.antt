use Rattle.std.proofs.Common.{sym, ap, ◌∙◌}
use Rattle.jm_values.specs.Rename.{rename}
use Rattle.jm_values.specs.declared.value.Value.TheVariants.{Ref}
use Rattle.jm_values.specs.Content.{name_of}
use Rattle.jm_values.proofs.SoundContents.{name_is}
use Rattle.jm_machine.proofs.value.world_value.Goals as goal

pub returns-in-Ref : goal.returns-in-Ref
returns-in-Ref g c =
    let heap = g.H.Heap.content c.args.heap.now in
    ap Ref (sym (name_is heap c.in-Ref.place c.serial.result c.serial.ensures)) ∙ sym (ap (rename (name_of heap)) c.in-Ref.is)
