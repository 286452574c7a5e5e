-- By the dimensions of both.
use Rattle.std.proofs.Common.{arith, sym, ◌∙◌}
use Rattle.jm_linked.proofs.HeldTypes.{same_dimensions, more_dimensions, fewer_dimensions}
use Rattle.jm_linked.proofs.linked.Linked.is_assignable.Goals as goal

pub returns-then-from-to : goal.returns-then-from-to
returns-then-from-to c = λ s t from to.
    let p = c.args.self.now.program in
    let m = from.dimensions in
    let n = to.dimensions in
    c.is_above_arrays.ensures p t.element c.classes-classes.ensures.linked.loads to.element
    ∙ sym (more_dimensions p s.element t.element s.dimensions t.dimensions (omega arith))

pub returns-then-from-to-2 : goal.returns-then-from-to-2
returns-then-from-to-2 c = λ s t from to.
    let p = c.args.self.now.program in
    let m = from.dimensions in
    let n = to.dimensions in
    sym (fewer_dimensions p s.element t.element s.dimensions t.dimensions (omega arith))

pub returns : goal.returns
returns c = λ s t from to.
    let p = c.args.self.now.program in
    let m = from.dimensions in
    let n = to.dimensions in
    c.element_assignable.ensures s.element t.element from.element to.element
    ∙ sym (same_dimensions p s.element t.element s.dimensions t.dimensions (omega arith))
