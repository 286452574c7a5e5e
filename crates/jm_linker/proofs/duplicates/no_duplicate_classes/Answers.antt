-- One more class, and a class that stands twice.
use Rattle.std.proofs.Common.{sym, subst, ◌∙◌, arith}
use Rattle.jm_linker.specs.Answers.{SaysWhy}
use Rattle.jm_linker.proofs.Seen.{classes_go_on, seen_before, is_built_in}
use Rattle.jm_linker.proofs.duplicates.no_duplicate_classes.Goals as goal
use Rattle.jm_linker.proofs.duplicates.no_duplicate_classes.Goals.{then-stands_before-via-then-stands_before, then-stands_before-via-else-stands_before+then-is_built_in}

pub returns-then-stands_before : goal.returns-then-stands_before
returns-then-stands_before c =
    let x = c.index-program-index.result in
    let named = rw c.parts.ensures.parts at c.stands_before.ensures in
    let says = rw c.parts.ensures.parts at c.duplicate_class.ensures in
    subst (SaysWhy c.duplicate_class.result) (sym (elim c.then-stands_before.branch [
      | then-stands_before-via-then-stands_before w ↦ seen_before c.args.names.now.program.now c.loop-index.index x (omega arith) c.index-program-index.is (sym named ∙ w.if-stands_before.true) c.loop-index.invariant
      | then-stands_before-via-else-stands_before+then-is_built_in w ↦ is_built_in c.args.names.now.program.now c.loop-index.index x (omega arith) c.index-program-index.is (sym (rw c.parts.ensures.parts at w.is_built_in.ensures) ∙ w.if-is_built_in.true) c.loop-index.invariant
    ])) says

pub loop-index-preserved : goal.loop-index-preserved
loop-index-preserved c =
    classes_go_on c.args.names.now.program.now c.loop-index.index c.index-program-index.result (omega arith) c.index-program-index.is
    (sym (rw c.parts.ensures.parts at c.stands_before.ensures) ∙ c.if-stands_before.false) (sym (rw c.parts.ensures.parts at c.is_built_in.ensures) ∙ c.if-is_built_in.false) c.loop-index.invariant
