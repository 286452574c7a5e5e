use Rattle.std.proofs.Common.{◌≡◌, ◌+◌, ◌∙◌, Some, ap, sym, subst, arith}
use Rattle.jm_heap.specs.Elements.{elements}
use Rattle.jm_heap.specs.Packing.{kind_of}
use Rattle.jm_blocks.specs.Objects.{object_of}
use Rattle.jm_blocks.specs.Stores.{objects_in}
use Rattle.jm_copy.specs.Naming.{IsEnded, NamesFirst, NamesNext}
use Rattle.jm_copy.proofs.Making.{store_has}
use Rattle.jm_copy.proofs.copies.Copies.named_after.Goals as goal

pub object_at-requires : goal.object_at-requires
object_at-requires c = (c.requires.0, ap (λ s. objects_in s c.args.place) c.store.ensures ∙ store_has c.args.self.now c.args.place c.requires.0 c.requires.1)

pub next_named-requires : goal.next_named-requires
next_named-requires c =
    let both : Some c.requires.0 ≡ Some (object_of c.object_at.result.0 (elements c.object_at.result.1)) = sym (store_has c.args.self.now c.args.place c.requires.0 c.requires.1) ∙ ap (λ s. objects_in s c.args.place) (sym c.store.ensures) ∙ c.object_at.ensures.value in
    let same : c.requires.0 ≡ object_of c.object_at.result.0 (elements c.object_at.result.1) = cc in
    let there = subst (λ x. IsEnded x.values (kind_of x.class) c.args.number c.args.end) same c.requires.2 in
    subst (λ k. IsEnded (elements c.object_at.result.1) k c.args.number c.args.end) (sym c.object_at.ensures.kind) there

pub returns-then-number-end-clause-names : goal.returns-then-number-end-clause-names
returns-then-number-end-clause-names c a e =
    let both : Some c.requires.0 ≡ Some a = sym c.requires.1 ∙ e in
    let same : c.requires.0 ≡ a = cc in
    let ended = subst (λ x. IsEnded x.values (kind_of x.class) c.args.number c.args.end) same c.requires.2 in
    λ i p from below h. ended.none i p (omega (arith, from, c.if-number-end.true)) below h

pub returns-clause-names : goal.returns-clause-names
returns-clause-names c a e =
    let both : Some a ≡ Some (object_of c.object_at.result.0 (elements c.object_at.result.1)) = sym (store_has c.args.self.now c.args.place a e) ∙ ap (λ s. objects_in s c.args.place) (sym c.store.ensures) ∙ c.object_at.ensures.value in
    let same : a ≡ object_of c.object_at.result.0 (elements c.object_at.result.1) = cc in
    subst (λ x. NamesNext x (c.args.number + 1) c.next_named.result) (sym same) (subst (λ k. NamesFirst (elements c.object_at.result.1) k (c.args.number + 1) c.next_named.result) c.object_at.ensures.kind c.next_named.ensures.names)
