use Rattle.std.proofs.Common.{◌≡◌, take, length, ◌∙◌, refl, sym, ap, subst, arith}
use Rattle.jm_values.specs.Content.{AllResident}
use Rattle.jm_values.proofs.Outcomes.{on_err}
use Rattle.jm_gen_heap.specs.Residents.{content_of}
use Rattle.jm_gen_heap.specs.Held.{AreHeld, held}
use Rattle.jm_gen_heap.specs.Minor.{LeavesMinor}
use Rattle.jm_gen_heap.specs.Allocating.{AllLieAsBefore}
use Rattle.jm_gen_heap.proofs.Collecting.{IsCopiedYoung, settled_copied, back_there, back_enough, minor_done, minor_held, refused_held, refused_lie, still_held}
use Rattle.jm_gen_heap.proofs.generations.Generations.collect_young.Given.{Over}
use Rattle.jm_gen_heap.proofs.generations.Generations.collect_young.Goals as goal
use Rattle.jm_gen_heap.proofs.generations.Generations.collect_young.Goals.{In-Ok, After-put_stores-self-inside, After-cells-self-inside}

pub invariant_of-self : goal.invariant_of-self
invariant_of-self g c = (still_held c.self.invariant c.minor_roots.ensures.still).0

pub returns-in_err-places-clause-same : goal.returns-in_err-places-clause-same
returns-in_err-places-clause-same g c = on_err c.from_residual.result ((still_held c.self.invariant c.minor_roots.ensures.still).1 ∙ ap content_of c.self.view_is)

pub returns-in_err-places-clause-keeps : goal.returns-in_err-places-clause-keeps
returns-in_err-places-clause-keeps g c = (still_held c.self.invariant c.minor_roots.ensures.still).0.keeps

-- what the collector made of the heap before
copied : (g : Over) (c : In-Ok g) → IsCopiedYoung (held c.self.inside.limit c.self.inside.next c.self.inside.young c.self.inside.tenured c.self.inside.pointers) c.minor_roots.new.pointers.noted c.args.roots.now c.in-Ok.copied.stores.young.items c.in-Ok.copied.stores.tenured c.in-Ok.copied.promoted.items c.copy_young.new.roots.items
copied g c = settled_copied c.self.invariant c.in_ok-places.ensures.settled (subst (λ x. AllResident (content_of x) c.args.roots.now) (sym c.self.view_is) c.requires) c.in_ok-places.ensures.ok c.in-Ok.ensures.ok

pub write_back-requires-clause-there : goal.write_back-requires-clause-there
write_back-requires-clause-there g c = back_there (copied g (goal.at.write_back-requires-clause-there g c).In-Ok)

pub write_back-requires-clause-enough : goal.write_back-requires-clause-enough
write_back-requires-clause-enough g c = back_enough (copied g (goal.at.write_back-requires-clause-enough g c).In-Ok)

pub put_stores-self-inside-requires-clause-within : goal.put_stores-self-inside-requires-clause-within
put_stores-self-inside-requires-clause-within g c young old =
    let d = minor_done (copied g (goal.at.put_stores-self-inside-requires-clause-within g c).In-Ok) c.write_back.ensures.fields young old in
    omega (arith, d.leaves.generations.within, c.copy_young.ensures.limit, c.self.invariant.same)

-- what is held once the stores are put in, and what it left
done : (g : Over) (c : After-put_stores-self-inside g) → IsCopiedYoung (held c.self.inside.limit c.self.inside.next c.self.inside.young c.self.inside.tenured c.self.inside.pointers) c.minor_roots.new.pointers.noted c.args.roots.now c.in-Ok.copied.stores.young.items c.in-Ok.copied.stores.tenured c.in-Ok.copied.promoted.items c.copy_young.new.roots.items → AreHeld c.self.inside.limit c.self.inside.next c.put_stores-self-inside.new.young c.put_stores-self-inside.new.tenured c.put_stores-self-inside.result c.write_back.new.pointers × LeavesMinor (held c.self.inside.limit c.self.inside.next c.self.inside.young c.self.inside.tenured c.self.inside.pointers) (held c.self.inside.limit c.self.inside.next c.put_stores-self-inside.new.young c.put_stores-self-inside.new.tenured c.write_back.new.pointers) c.args.roots.now (take (length c.args.roots.now) c.copy_young.new.roots.items)
done g c x = minor_held c.self.invariant x c.write_back.ensures.fields c.put_stores-self-inside.ensures c.copy_young.ensures.limit c.write_back.ensures.pointers

pub invariant_of-self-in-Ok : goal.invariant_of-self-in-Ok
invariant_of-self-in-Ok g c = let at = goal.at.invariant_of-self-in-Ok g c in (done g at.After-put_stores-self-inside (copied g at.In-Ok)).0

pub returns-in-Ok-clause-ok : goal.returns-in-Ok-clause-ok
returns-in-Ok-clause-ok g c =
    let i = c.self.inside in
    let at = goal.at.returns-in-Ok-clause-ok g c in
    let d = done g at.After-put_stores-self-inside (copied g at.In-Ok) in
    subst (λ x. LeavesMinor x (held i.limit i.next c.put_stores-self-inside.new.young c.put_stores-self-inside.new.tenured c.write_back.new.pointers) c.args.roots.now c.write_back.new.roots) c.self.view_is
    (subst (λ x. LeavesMinor (held i.limit i.next i.young i.tenured i.pointers) (held i.limit i.next c.put_stores-self-inside.new.young c.put_stores-self-inside.new.tenured c.write_back.new.pointers) c.args.roots.now x) (sym c.write_back.ensures.roots) d.1)

pub returns-in-Ok-clause-keeps : goal.returns-in-Ok-clause-keeps
returns-in-Ok-clause-keeps g c = let at = goal.at.returns-in-Ok-clause-keeps g c in (done g at.After-put_stores-self-inside (copied g at.In-Ok)).0.keeps

-- what is held where it was refused, as it was
refused : (g : Over) (c : After-cells-self-inside g) → AreHeld c.self.inside.limit c.self.inside.next c.copy_young.new.young c.copy_young.new.tenured c.cells-self-inside.result c.minor_roots.new.pointers × (content_of (held c.self.inside.limit c.self.inside.next c.copy_young.new.young c.copy_young.new.tenured c.minor_roots.new.pointers) ≡ content_of (held c.self.inside.limit c.self.inside.next c.self.inside.young c.self.inside.tenured c.self.inside.pointers))
refused g c = refused_held c.copy_young.new.tenured c.cells-self-inside.result c.self.invariant c.minor_roots.ensures.still c.in-Err.ensures.young c.in-Err.ensures.lane c.in-Err.ensures.tenured c.cells-self-inside.ensures.short c.cells-self-inside.ensures.value

pub invariant_of-self-in-Err : goal.invariant_of-self-in-Err
invariant_of-self-in-Err g c = (refused g (goal.at.invariant_of-self-in-Err g c).After-cells-self-inside).0

pub returns-clause-same : goal.returns-clause-same
returns-clause-same g c = (refused g (goal.at.returns-clause-same g c).After-cells-self-inside).1 ∙ ap content_of c.self.view_is

pub returns-clause-keeps : goal.returns-clause-keeps
returns-clause-keeps g c = (refused g (goal.at.returns-clause-keeps g c).After-cells-self-inside).0.keeps

pub returns-in_err-places-clause-lie : goal.returns-in_err-places-clause-lie
returns-in_err-places-clause-lie g c =
    let i = c.self.inside in
    on_err c.from_residual.result (subst (λ x. AllLieAsBefore x (held i.limit i.next i.young i.tenured c.minor_roots.new.pointers)) c.self.view_is (record { limit = refl; next = refl; places = λ q. refl }))

pub returns-clause-lie : goal.returns-clause-lie
returns-clause-lie g c =
    let i = c.self.inside in
    subst (λ x. AllLieAsBefore x (held i.limit i.next c.copy_young.new.young c.copy_young.new.tenured c.minor_roots.new.pointers)) c.self.view_is
    (refused_lie c.copy_young.new.tenured c.self.invariant c.minor_roots.ensures.still c.in-Err.ensures.young c.in-Err.ensures.lane c.in-Err.ensures.tenured)
