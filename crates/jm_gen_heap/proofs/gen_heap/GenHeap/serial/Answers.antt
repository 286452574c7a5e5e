use Rattle.std.proofs.Common.{◌∙◌, sym, ap}
use Rattle.jm_values.specs.Content.{serial_at}
use Rattle.jm_gen_heap.specs.Residents.{content_of}
use Rattle.jm_gen_heap.proofs.Reading.{lies_serial}
use Rattle.jm_gen_heap.proofs.gen_heap.GenHeap.serial.Goals as goal

pub object_at-requires : goal.object_at-requires
object_at-requires g c = (c.requires.0, ap (λ x. serial_at (content_of x) c.args.place) c.self.view_is ∙ c.requires.1)

pub returns : goal.returns
returns g c =
    ap (λ x. serial_at (content_of x) c.args.place) (sym c.self.view_is)
    ∙ lies_serial c.self.inside.generations c.object_at.ensures.keeps c.args.place _ c.object_at.ensures.value
