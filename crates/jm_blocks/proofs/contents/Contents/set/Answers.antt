use Rattle.std.proofs.Common.{◌≡◌, ◌<◌, arith, length, subst}
use Rattle.jm_heap.specs.Packing.{Fits}
use Rattle.jm_blocks.proofs.Spelling.{entry_there, value_within, value_set, kind_there}
use Rattle.jm_blocks.proofs.contents.Contents.set.Goals as goal

pub index-entry-requires : goal.index-entry-requires
index-entry-requires c =
    let w = entry_there c.self.inside.entries.items c.self.inside.values c.args.self.now c.args.index c.requires.0 c.self.view_is c.requires.1 in
    omega (arith, w, c.self.inside.entries.ok.0)

pub overflow_add-start : goal.overflow_add-start
overflow_add-start c =
    let w = value_within c.self.inside.entries.items c.self.inside.values c.args.self.now c.self.inside.cells c.kind-kind.result c.args.index c.args.number c.index-entry.result.now c.requires.0 c.self.view_is c.self.invariant c.kind-kind.ensures c.index-entry.ensures c.requires.1 c.requires.2 in
    omega (arith, w, c.start-start.ensures, c.len-end.ensures, c.len-end.type_inv)

pub set-requires : goal.set-requires
set-requires c = record {
  there = rw c.start-start.ensures (value_within c.self.inside.entries.items c.self.inside.values c.args.self.now c.self.inside.cells c.kind-kind.result c.args.index c.args.number c.index-entry.result.now c.requires.0 c.self.view_is c.self.invariant c.kind-kind.ensures c.index-entry.ensures c.requires.1 c.requires.2);
  fits = subst (λ k. Fits k c.args.value) (kind_there c.self.inside.entries.items c.self.inside.values c.args.self.now c.kind-kind.result c.args.index c.index-entry.result.now c.requires.0 c.self.view_is c.kind-kind.ensures c.index-entry.ensures c.requires.1) c.requires.3;
}

pub returns : goal.returns
returns c o e =
    let same : c.requires.0 ≡ o = cc in
    rw (c.set.ensures, c.start-start.ensures) (value_set c.self.inside.entries.items c.self.inside.values c.args.self.now c.self.inside.cells c.kind-kind.result c.args.index c.args.number c.index-entry.result.now c.args.value o c.self.view_is c.self.invariant c.kind-kind.ensures c.index-entry.ensures e (subst (λ x. c.args.number < length x.values) same c.requires.2))
