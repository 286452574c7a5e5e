use Rattle.std.proofs.Common.{◌≡◌, ◌+◌, ◌<◌, arith, ap, sym, length, subst, ◌∙◌}
use Rattle.std.specs.Prelude.{slice_get}
use Rattle.jm_heap.specs.Packing.{Fits, list_of}
use Rattle.jm_blocks.proofs.Spelling.{entry_there, kind_there, value_within, value_read}
use Rattle.jm_blocks.proofs.contents.Contents.get.Goals as goal

pub index-entry-requires : goal.index-entry-requires
index-entry-requires c =
    let w = entry_there c.self.inside.entries.items c.self.inside.values c.args.self.now c.args.index c.requires.0 c.self.view_is c.requires.1 in
    omega (arith, w, c.self.inside.entries.ok.0)

pub overflow_add-start : goal.overflow_add-start
overflow_add-start c =
    let w = value_within c.self.inside.entries.items c.self.inside.values c.args.self.now c.self.inside.cells c.kind-kind.result c.args.index c.args.number c.index-entry.result.now c.requires.0 c.self.view_is c.self.invariant c.kind-kind.ensures c.index-entry.ensures c.requires.1 c.requires.2 in
    omega (arith, w, c.start-start.ensures, c.len-end.ensures, c.len-end.type_inv)

pub get-requires : goal.get-requires
get-requires c = rw c.start-start.ensures (value_within c.self.inside.entries.items c.self.inside.values c.args.self.now c.self.inside.cells c.kind-kind.result c.args.index c.args.number c.index-entry.result.now c.requires.0 c.self.view_is c.self.invariant c.kind-kind.ensures c.index-entry.ensures c.requires.1 c.requires.2)

pub returns-clause-value : goal.returns-clause-value
returns-clause-value c o e =
    let same : c.requires.0 ≡ o = cc in
    value_read c.self.inside.entries.items c.self.inside.values c.args.self.now c.self.inside.cells c.kind-kind.result c.args.index c.args.number c.index-entry.result.now c.get.result o c.self.view_is c.self.invariant c.kind-kind.ensures c.index-entry.ensures e (subst (λ x. c.args.number < length x.values) same c.requires.2) (ap (slice_get (list_of c.kind-kind.result c.self.inside.values)) (ap (λ n. n + c.args.number) (sym c.start-start.ensures)) ∙ c.get.ensures.value)

pub returns-clause-fits : goal.returns-clause-fits
returns-clause-fits c o e =
    let kind = kind_there c.self.inside.entries.items c.self.inside.values c.args.self.now c.kind-kind.result c.args.index c.index-entry.result.now o c.self.view_is c.kind-kind.ensures c.index-entry.ensures e in
    subst (λ k. Fits k c.get.result) (sym kind) c.get.ensures.fits
