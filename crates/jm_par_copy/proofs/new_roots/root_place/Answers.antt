use Rattle.std.proofs.Common.{◌≡◌, ◌<◌, ◌%◌, ◌/◌, Some, arith, refl, sym, subst, length}
use Rattle.std.specs.Prelude.{slice_get}
use Rattle.std.proofs.Math.Nat.{mod-lt}
use Rattle.std.proofs.lemmas.Option.{slice_get_read}
use Rattle.jm_par_copy.proofs.ByPosition.{root_is_forwarded, root_is_there}
use Rattle.jm_par_copy.proofs.new_roots.root_place.Goals as goal

pub index-requires : goal.index-requires
index-requires c =
    let cs = c.args.copiers.now in
    let n = c.args.words.now.copiers in
    let i = c.args.position in
    let copier = c.index-copiers-position.result in
    let many = c.requires.many.0 in
    let some = c.requires.many.1 in
    let first : slice_get cs (i % length cs) ≡ Some copier = slice_get_read cs (length cs) (i % length cs) copier refl (mod-lt i (omega (arith, many, some))) c.index-copiers-position.is in
    let at = subst (λ k. slice_get cs (i % k) ≡ Some copier) many first in
    let there = root_is_there c.args.from.stores.now c.args.from.roots.now c.args.words.now cs copier i c.requires.rooted c.requires.numbered some at c.requires.there in
    let below = subst (λ k. i / k < length copier.roots.items) (sym many) there in
    let len = copier.roots.ok.0 in
    omega (arith, below, len)

pub returns : goal.returns
returns c p e =
    let cs = c.args.copiers.now in
    let n = c.args.words.now.copiers in
    let i = c.args.position in
    let copier = c.index-copiers-position.result in
    let many = c.requires.many.0 in
    let some = c.requires.many.1 in
    let first : slice_get cs (i % length cs) ≡ Some copier = slice_get_read cs (length cs) (i % length cs) copier refl (mod-lt i (omega (arith, many, some))) c.index-copiers-position.is in
    let at = subst (λ k. slice_get cs (i % k) ≡ Some copier) many first in
    let there = root_is_there c.args.from.stores.now c.args.from.roots.now c.args.words.now cs copier i c.requires.rooted c.requires.numbered some at c.requires.there in
    let below = subst (λ k. i / k < length copier.roots.items) (sym many) there in
    let read : slice_get copier.roots.items (i / length cs) ≡ Some c.index.result.now = slice_get_read copier.roots.items (length copier.roots.items) (i / length cs) c.index.result.now refl below c.index.ensures in
    root_is_forwarded c.args.from.stores.now c.args.from.roots.now c.args.words.now cs copier i c.requires.rooted c.requires.numbered some at p c.index.result.now e (subst (λ k. slice_get copier.roots.items (i / k) ≡ Some c.index.result.now) many read)
