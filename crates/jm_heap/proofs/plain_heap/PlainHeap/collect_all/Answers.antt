use Rattle.std.proofs.Common.{◌<◌, ◌^◌, arith, subst, sym}
use Rattle.jm_heap.proofs.SweepingLemmas.{sound_swept, collected_swept, roots_lie}
use Rattle.jm_heap.proofs.CellLemmas.{left_over}
use Rattle.jm_heap.proofs.plain_heap.PlainHeap.collect_all.Goals as goal

pub mark-requires : goal.mark-requires
mark-requires c = record { resident = roots_lie c.self.inside.limit c.self.inside.next c.self.inside.slots.items c.args.self.now c.self.view_is c.self.invariant.sound c.args.roots.now c.requires; closed = c.self.invariant.sound.closed }

pub invariant_of-self : goal.invariant_of-self
invariant_of-self c = record {
  sound = sound_swept c.self.inside.limit c.self.inside.next c.self.inside.slots.items c.sweep-self-inside.new.slots.items c.args.self.now c.self.view_is c.self.invariant.sound c.args.roots.now c.in_ok-marks.marks.items c.sweep-self-inside.new.used c.requires c.in_ok-marks.ensures c.sweep-self-inside.ensures;
  cells = c.sweep-self-inside.ensures.cells;
  within = omega (arith, c.sweep-self-inside.ensures.fewer, c.self.invariant.cells, c.self.invariant.within);
  small = c.self.invariant.small;
  few = subst (λ n. n < 2 ^ 63) (sym c.sweep-self-inside.ensures.many) c.self.invariant.few;
}

pub returns-clause-ok : goal.returns-clause-ok
returns-clause-ok c = collected_swept c.self.inside.limit c.self.inside.next c.self.inside.slots.items c.sweep-self-inside.new.slots.items c.args.self.now c.self.view_is c.self.invariant.sound c.args.roots.now c.in_ok-marks.marks.items c.sweep-self-inside.new.used c.requires c.in_ok-marks.ensures c.sweep-self-inside.ensures

pub returns-clause-left : goal.returns-clause-left
returns-clause-left c =
    let t = sound_swept c.self.inside.limit c.self.inside.next c.self.inside.slots.items c.sweep-self-inside.new.slots.items c.args.self.now c.self.view_is c.self.invariant.sound c.args.roots.now c.in_ok-marks.marks.items c.sweep-self-inside.new.used c.requires c.in_ok-marks.ensures c.sweep-self-inside.ensures in
    let g = collected_swept c.self.inside.limit c.self.inside.next c.self.inside.slots.items c.sweep-self-inside.new.slots.items c.args.self.now c.self.view_is c.self.invariant.sound c.args.roots.now c.in_ok-marks.marks.items c.sweep-self-inside.new.used c.requires c.in_ok-marks.ensures c.sweep-self-inside.ensures in
    left_over c.self.inside.limit c.self.inside.next c.self.inside.slots.items c.sweep-self-inside.new.slots.items c.args.self.now c.self.view_is c.self.invariant.sound t c.args.roots.now c.requires g
