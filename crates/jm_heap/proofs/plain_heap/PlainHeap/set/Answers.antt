use Rattle.std.proofs.Common.{◌∙◌, sym, subst, ◌<◌, ◌^◌}
use Rattle.jm_heap.proofs.WritingLemmas.{target, sound_written, set_written}
use Rattle.jm_heap.proofs.plain_heap.PlainHeap.set.Goals as goal

pub write-requires : goal.write-requires
write-requires c = target c.self.inside.limit c.self.inside.next c.self.inside.slots.items c.args.self.now c.self.view_is c.self.invariant.sound c.args.place c.args.index c.requires.there.0 c.requires.there.1

pub invariant_of-self : goal.invariant_of-self
invariant_of-self c = record {
  sound = sound_written c.self.inside.limit c.self.inside.next c.self.inside.slots.items c.write.new.slots.items c.args.self.now c.self.view_is c.self.invariant.sound c.args.place c.args.index c.requires.there.0 c.args.value c.requires.there.1 c.requires.resident c.write.ensures;
  cells = c.self.invariant.cells ∙ sym c.write.ensures.cells;
  within = c.self.invariant.within;
  small = c.self.invariant.small;
  few = subst (λ n. n < 2 ^ 63) (sym c.write.ensures.many) c.self.invariant.few;
}

pub returns : goal.returns
returns c = set_written c.self.inside.limit c.self.inside.next c.self.inside.slots.items c.write.new.slots.items c.args.self.now c.self.view_is c.self.invariant.sound c.args.place c.args.index c.requires.there.0 c.args.value c.requires.there.1 c.requires.resident c.write.ensures
