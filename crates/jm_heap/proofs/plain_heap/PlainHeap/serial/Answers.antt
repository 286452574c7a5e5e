use Rattle.std.proofs.Common.{Some, sym, ◌∙◌, ap}
use Rattle.std.specs.Prelude.{unwrap_or}
use Rattle.jm_heap.proofs.ReadingLemmas.{serial_there}
use Rattle.jm_heap.proofs.plain_heap.PlainHeap.serial.Goals as goal

pub returns : goal.returns
returns c =
    let read = c.unwrap_or.ensures ∙ ap (λ serial. unwrap_or serial 0) (c.serial_at.ensures ∙ serial_there c.self.inside.limit c.self.inside.next c.self.inside.slots.items c.args.self.now c.self.view_is c.args.place c.requires.0 c.requires.1) in
    c.requires.1 ∙ ap Some (sym read)
