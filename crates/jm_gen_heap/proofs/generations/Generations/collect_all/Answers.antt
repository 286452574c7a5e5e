use Rattle.std.proofs.Common.{◌++◌, ◌∙◌, sym, ap, subst, arith, append-nil}
use Rattle.jm_values.specs.Content.{AllResident}
use Rattle.jm_gen_heap.specs.Residents.{content_of}
use Rattle.jm_gen_heap.specs.Collections.{LeavesAllReached}
use Rattle.jm_gen_heap.specs.Held.{AreHeld, held}
use Rattle.jm_gen_heap.specs.Pointers.{all_of}
use Rattle.jm_gen_heap.proofs.Collecting.{full_done, full_held}
use Rattle.jm_gen_heap.proofs.generations.Generations.collect_all.Given.{Over}
use Rattle.jm_gen_heap.proofs.generations.Generations.collect_all.Goals as goal
use Rattle.jm_gen_heap.proofs.generations.Generations.collect_all.Goals.{After-put_stores-self-inside}

pub put_stores-self-inside-requires-clause-within : goal.put_stores-self-inside-requires-clause-within
put_stores-self-inside-requires-clause-within g c young old =
    let r = subst (λ x. AllResident (content_of x) c.args.roots.now) (sym c.self.view_is) c.requires in
    let d = full_done c.self.invariant.keeps r c.in_ok-places.ensures c.in_ok-copied.ensures.ok young old in
    omega (arith, d.generations.within, c.copy_all.ensures.limit, c.self.invariant.same)

-- what is held then, and what it left
done : (g : Over) (c : After-put_stores-self-inside g) → AreHeld c.self.inside.limit c.self.inside.next c.put_stores-self-inside.new.young c.put_stores-self-inside.new.tenured c.put_stores-self-inside.result c.put.new.self × LeavesAllReached (held c.self.inside.limit c.self.inside.next c.self.inside.young c.self.inside.tenured c.self.inside.pointers) (held c.self.inside.limit c.self.inside.next c.put_stores-self-inside.new.young c.put_stores-self-inside.new.tenured c.put.new.self) c.args.roots.now c.put_roots.new.roots
done g c =
    let r = subst (λ x. AllResident (content_of x) c.args.roots.now) (sym c.self.view_is) c.requires in
    let listed = c.in_ok-copied.copied.promoted.items in
    let after = ap all_of c.put.ensures ∙ ap (λ ps. listed ++ ps) c.new.ensures.items ∙ append-nil listed in
    full_held {after = c.put.new.self} c.self.invariant r c.in_ok-places.ensures c.in_ok-copied.ensures.ok c.put_roots.ensures c.put_stores-self-inside.ensures c.copy_all.ensures.limit after

pub invariant_of-self-2 : goal.invariant_of-self-2
invariant_of-self-2 g c = (done g (goal.at.invariant_of-self-2 g c).After-put_stores-self-inside).0

pub returns-clause-ok : goal.returns-clause-ok
returns-clause-ok g c =
    let i = c.self.inside in
    subst (λ x. LeavesAllReached x (held i.limit i.next c.put_stores-self-inside.new.young c.put_stores-self-inside.new.tenured c.put.new.self) c.args.roots.now c.put_roots.new.roots) c.self.view_is (done g (goal.at.returns-clause-ok g c).After-put_stores-self-inside).1

pub returns-clause-keeps : goal.returns-clause-keeps
returns-clause-keeps g c = (done g (goal.at.returns-clause-keeps g c).After-put_stores-self-inside).0.keeps
