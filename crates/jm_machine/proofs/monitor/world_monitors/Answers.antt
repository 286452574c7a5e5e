use Rattle.std.proofs.Common.{◌∙◌, refl}
use Rattle.jm_machine.proofs.Held.{none_told, all_told, place_resident, not_none, one_told}
use Rattle.jm_machine.proofs.monitor.world_monitors.Goals as goal

pub loop-place-init : goal.loop-place-init
loop-place-init g c = record {
  can = tt;
  finite = tt;
  told = none_told c.args.monitors.now c.in_ok-told.told.items c.into_iter-place-iterator.result c.in_ok-told.ensures.items
      (c.into_iter-place-iterator.ensures.into_iter_gives ∙ c.places-place-items.ensures);
}

pub serial-object-requires : goal.serial-object-requires
serial-object-requires g c =
    place_resident (g.H.Heap.content c.args.heap.now) c.args.monitors.now c.loop-place.told.items c.in-Some.place c.next.new.self c.loop-place.place-iterator
    c.loop-place.invariant.told c.in-Some.ensures.steps c.requires.resident

pub loop-place-preserved-in_default : goal.loop-place-preserved-in_default
loop-place-preserved-in_default g c =
    absurd (not_none (g.H.Heap.content c.args.heap.now) c.args.monitors.now c.loop-place.told.items c.in-Some.place c.next.new.self c.loop-place.place-iterator
    c.loop-place.invariant.told c.in-Some.ensures.steps c.requires.named c.len.ensures.held c.serial-object.result c.serial-object.ensures
    c.in_default.ensures.held)

pub loop-place-preserved : goal.loop-place-preserved
loop-place-preserved g c = record {
  can = tt;
  finite = tt;
  told = one_told (g.H.Heap.content c.args.heap.now) c.args.monitors.now c.loop-place.told.items c.in-Some.place c.next.new.self c.loop-place.place-iterator
      c.loop-place.invariant.told c.in-Some.ensures.steps c.requires.named c.len.ensures.held c.serial-object.result c.serial-object.ensures
      c.in-Some-get.held _ c.push.new.self.items c.in-Some-get.ensures.held refl c.in_ok-push.ensures.items;
}

pub returns : goal.returns
returns g c = all_told c.args.monitors.now c.loop-place.told.items c.loop-place.place-iterator c.loop-place.invariant.told c.in-None.ensures.steps.0
