use Rattle.std.proofs.Common.{ℕ, List, ◌+◌, ◌≤◌, ◌^◌, ◌%◌, sym, subst, arith}
use Rattle.jm_values.specs.Objects.{size_by}
use Rattle.jm_values.specs.Content.{AllResident, used_by}
use Rattle.jm_heap.specs.Cells.{class_size}
use Rattle.jm_heap.specs.NewObject.{new_object}
use Rattle.jm_heap.specs.Allocation.{MadeHere}
use Rattle.jm_gen_heap.specs.Generations.{Generations, all_cells}
use Rattle.jm_gen_heap.specs.Residents.{content_of}
use Rattle.jm_gen_heap.specs.Several.{IsAbove}
use Rattle.jm_gen_heap.proofs.Making.{laned, put_made}
use Rattle.jm_gen_heap.proofs.Unmaking.{made_above}
use Rattle.jm_blocks.specs.Objects.{object_of}
use Rattle.jm_nursery.specs.Nurseries.{IsMade}
use Rattle.jm_gen_heap.specs.Held.{IsPutNew, held}
use Rattle.jm_gen_heap.proofs.Allocating.{at_end}
use Rattle.jm_gen_heap.proofs.Shapes.{put_held}
use Rattle.jm_gen_heap.proofs.generations.Generations.make.Goals as goal

pub invariant_of-self-2 : goal.invariant_of-self-2
invariant_of-self-2 c =
    (put_held c.self.invariant c.self.view_is c.args.shape c.header_of-header.ensures c.in_ok-place.ensures.ok c.requires (omega (arith, c.if-self-ge-MAX_SERIALS.false))).0

pub returns-clause-ok : goal.returns-clause-ok
returns-clause-ok c =
    let i = c.self.inside in
    let put = (put_held c.self.invariant c.self.view_is c.args.shape c.header_of-header.ensures c.in_ok-place.ensures.ok c.requires (omega (arith, c.if-self-ge-MAX_SERIALS.false))).1 in
    subst (λ x. IsPutNew x (held i.limit (i.next + 1) c.put_new.new.young i.tenured i.pointers) c.in_ok-place.place (c.args.nursery % 16) (new_object c.args.shape)) c.self.view_is put

pub returns-clause-made : goal.returns-clause-made
returns-clause-made c =
    let i = c.self.inside in
    let put = (put_held c.self.invariant c.self.view_is c.args.shape c.header_of-header.ensures c.in_ok-place.ensures.ok c.requires (omega (arith, c.if-self-ge-MAX_SERIALS.false))).1 in
    let g : Generations = held i.limit i.next i.young i.tenured i.pointers in
    let h : Generations = held i.limit (i.next + 1) c.put_new.new.young i.tenured i.pointers in
    let made = subst (λ x. MadeHere (content_of g) (content_of h) c.in_ok-place.place x) put.shape (put_made c.self.invariant.keeps put.put put.fresh) in
    subst (λ x. MadeHere (content_of x) (content_of h) c.in_ok-place.place (new_object c.args.shape)) c.self.view_is made

pub returns-clause-keeps : goal.returns-clause-keeps
returns-clause-keeps c =
    (put_held c.self.invariant c.self.view_is c.args.shape c.header_of-header.ensures c.in_ok-place.ensures.ok c.requires (omega (arith, c.if-self-ge-MAX_SERIALS.false))).0.keeps

pub returns-then-self-ge-MAX_SERIALS-clause-err : goal.returns-then-self-ge-MAX_SERIALS-clause-err
returns-then-self-ge-MAX_SERIALS-clause-err c =
    let i = c.self.inside in
    let g : Generations = held i.limit i.next i.young i.tenured i.pointers in
    let room = subst (λ (x : Generations). all_cells x + size_by class_size (new_object c.args.shape) ≤ x.limit) (sym c.self.view_is) c.requires in
    let end = at_end g c.self.invariant.keeps (size_by class_size (new_object c.args.shape)) room (omega (arith, c.if-self-ge-MAX_SERIALS.true)) in
    subst (λ x. (roots : List ℕ) → AllResident (content_of x) roots → (used_by class_size (content_of x) roots + size_by class_size (new_object c.args.shape) ≤ (content_of x).limit) × (2 ^ 63 ≤ (content_of x).next)) c.self.view_is end

pub returns-clause-above : goal.returns-clause-above
returns-clause-above c =
    let i = c.self.inside in
    let n = c.args.nursery % 16 in
    let o = object_of c.header_of-header.result (new_object c.args.shape).values in
    let made = subst (λ l. IsMade (record { limit = l; lanes = i.young.lanes }) c.put_new.new.young n c.in_ok-place.place o) c.self.invariant.same c.in_ok-place.ensures.ok in
    subst (λ x. IsAbove x c.in_ok-place.place n) c.self.view_is (made_above (laned c.self.invariant.keeps) made)
