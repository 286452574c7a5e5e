use Rattle.std.proofs.Common.{◌≡◌, ◌+◌, Some, arith, ap, sym, subst, ◌∙◌}
use Rattle.jm_copy.specs.Naming.{NamesNext}
use Rattle.jm_copy.proofs.Scanning.{rest}
use Rattle.jm_par_copy.specs.Front.{Adds, IsNamedBy}
use Rattle.jm_par_copy.proofs.Fronts.{adds_more, adds_none, rest_next}
use Rattle.jm_par_copy.proofs.front.add_named.Goals as goal

pub loop-next-init : goal.loop-next-init
loop-next-init c =
    let there = c.requires in
    (there.0, there.1, 0, c.named_first-next.ensures there.0 there.1, adds_none (IsNamedBy there.0) c.args.places.now.items)

pub named_after-next-requires : goal.named_after-next-requires
named_after-next-requires c =
    let i = c.loop-next.invariant in
    let named = subst (λ r. NamesNext i.0 i.2 r) c.in-Some.is i.3 in
    (i.0, i.1, named.ended)

pub loop-next-preserved : goal.loop-next-preserved
loop-next-preserved c =
    let i = c.loop-next.invariant in
    let named = subst (λ r. NamesNext i.0 i.2 r) c.in-Some.is i.3 in
    (i.0, i.1, c.in-Some.named.number + 1, c.named_after-next.ensures.names i.0 i.1, subst (λ qs. Adds (IsNamedBy i.0) c.args.places.now.items qs) (sym c.in_ok-push.ensures.items) (adds_more (IsNamedBy i.0) c.args.places.now.items c.loop-next.places.items c.in-Some.named.place i.4 (c.in-Some.named.number, named.here)))

pub returns : goal.returns
returns c a e =
    let i = c.loop-next.invariant in
    let both : Some i.0 ≡ Some a = sym i.1 ∙ e in
    let same : i.0 ≡ a = cc in
    subst (λ x. Adds (IsNamedBy x) c.args.places.now.items c.loop-next.places.items) same i.4

pub loop-next-smaller : goal.loop-next-smaller
loop-next-smaller c =
    let i = c.loop-next.invariant in
    let named = subst (λ r. NamesNext i.0 i.2 r) c.in-Some.is i.3 in
    let less = rest_next i.0 i.2 c.in-Some.named c.named_after-next.result named (c.named_after-next.ensures.names i.0 i.1) c.named_after-next.ensures.end in
    let was = ap rest c.in-Some.is in
    omega (arith, less, was)
