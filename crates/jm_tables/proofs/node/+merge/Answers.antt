-- The node of both has at each digit what its nodes have there.
use Rattle.std.proofs.Common.{◌≢◌, ℕ, ◌-◌, ◌<◌, length, sym, ◌∙◌, ap, subst, arith, length-set}
use Rattle.std.specs.Cmp.Lexicographic.{same_text}
use Rattle.std.proofs.lemmas.Result.{IfOk-weaker}
use Rattle.jm_tables.specs.Nodes.{IsThere, found_from, or_entry}
use Rattle.jm_tables.proofs.NodeLaws.{found_none, found_empty, first_after, there_after, longer_twice, there_new, found_new}
use Rattle.jm_tables.proofs.MergeLaws.{or_same, or_none, or_some, both_found, same_found, entry_there, each_there_more, each_found_more}
use Rattle.jm_tables.proofs.node.+merge.Goals.{then-levels-eq0-via-then-levels-eq0, then-levels-eq0-via-else-levels-eq0+then-first-second}
use Rattle.jm_tables.proofs.node.+merge.Goals.{then-levels-eq0-via-else-levels-eq0+else-first-second+then-second-eq-EMPTY}
use Rattle.jm_tables.proofs.node.+merge.Goals as goal

pub returns-then-first-eq-EMPTY-clause-found : goal.returns-then-first-eq-EMPTY-clause-found
returns-then-first-eq-EMPTY-clause-found t c = λ k.
    sym (ap (λ n. or_entry n (found_from c.args.nodes.now.items c.args.levels c.args.second k))
    (ap (λ n. found_from c.args.nodes.now.items c.args.levels n k) c.if-first-eq-EMPTY.true
    ∙ found_empty c.args.nodes.now.items c.args.levels k c.requires.empty))

pub returns-then-levels-eq0-clause-found : goal.returns-then-levels-eq0-clause-found
returns-then-levels-eq0-clause-found t c = λ k.
    let found = found_from c.args.nodes.now.items in
    elim c.then-levels-eq0.branch [
      | then-levels-eq0-via-then-levels-eq0 w ↦
          let none = λ (n : ℕ). ap (λ m. found m n k) w.if-levels-eq0.true ∙ found_none c.args.nodes.now.items n k in
          let some : found c.args.levels c.args.first k ≢ 0 = λ e. c.if-first-eq-EMPTY.false (sym (none c.args.first) ∙ e) in
          sym (or_some (found c.args.levels c.args.first k) (found c.args.levels c.args.second k) some)
      | then-levels-eq0-via-else-levels-eq0+then-first-second w ↦
          sym (ap (or_entry (found c.args.levels c.args.first k)) (ap (λ n. found c.args.levels n k) (sym w.if-first-second.true))
          ∙ or_same (found c.args.levels c.args.first k))
      | then-levels-eq0-via-else-levels-eq0+else-first-second+then-second-eq-EMPTY w ↦
          sym (ap (or_entry (found c.args.levels c.args.first k))
          (ap (λ n. found c.args.levels n k) w.if-second-eq-EMPTY.true ∙ found_empty c.args.nodes.now.items c.args.levels k c.requires.empty)
          ∙ or_none (found c.args.levels c.args.first k))
    ]

pub merge-requires : goal.merge-requires
merge-requires t c =
    let longer = c.loop-digit.invariant.0 in (
      omega arith,
      (
        first_after c.args.nodes.now.items c.loop-digit.nodes.items longer c.requires.empty,
        (
          (entry_there c.args.nodes.now.items c.loop-digit.nodes.items c.node-above.result c.args.levels c.args.first c.loop-digit.digit
              c.if-levels-eq0.false longer c.requires.first (rw c.deref.ensures.value at c.node-above.ensures.entries) c.loop-digit-test.true).1,
          (entry_there c.args.nodes.now.items c.loop-digit.nodes.items c.node-below.result c.args.levels c.args.second c.loop-digit.digit
              c.if-levels-eq0.false longer c.requires.second (rw c.deref-2.ensures.value at c.node-below.ensures.entries) c.loop-digit-test.true).1,
        ),
      ),
    )

pub loop-digit-preserved : goal.loop-digit-preserved
loop-digit-preserved t c =
    let longer = c.loop-digit.invariant.0 in
    let a = entry_there c.args.nodes.now.items c.loop-digit.nodes.items c.node-above.result c.args.levels c.args.first c.loop-digit.digit
    c.if-levels-eq0.false longer c.requires.first (rw c.deref.ensures.value at c.node-above.ensures.entries) c.loop-digit-test.true in
    let b = entry_there c.args.nodes.now.items c.loop-digit.nodes.items c.node-below.result c.args.levels c.args.second c.loop-digit.digit
    c.if-levels-eq0.false longer c.requires.second (rw c.deref-2.ensures.value at c.node-below.ensures.entries) c.loop-digit-test.true in
    let within : c.loop-digit.digit < length c.loop-digit.both = omega (arith, c.loop-digit.invariant.3) in (
      longer_twice c.args.nodes.now.items c.loop-digit.nodes.items c.merge.new.nodes.items longer c.merge.ensures.longer,
      each_there_more c.loop-digit.nodes.items c.merge.new.nodes.items (c.args.levels - 1) c.loop-digit.digit c.in_ok-both.field-0 c.loop-digit.both
          c.merge.ensures.longer within c.in_ok-both.ensures.there c.loop-digit.invariant.1,
      each_found_more c.args.nodes.now.items c.loop-digit.nodes.items c.merge.new.nodes.items (c.args.levels - 1) c.loop-digit.digit c.in_ok-both.field-0
          c.node-above.result c.node-below.result c.loop-digit.both longer c.merge.ensures.longer within a.0 b.0 c.loop-digit.invariant.1
          c.in_ok-both.ensures.found c.loop-digit.invariant.2,
      length-set c.loop-digit.both c.loop-digit.digit c.in_ok-both.field-0 ∙ c.loop-digit.invariant.3,
    )

pub returns-then-eq-clause-there : goal.returns-then-eq-clause-there
returns-then-eq-clause-there t c = there_after c.args.nodes.now.items c.loop-digit.nodes.items c.args.levels c.args.first c.loop-digit.invariant.0
    c.requires.first

pub returns-then-eq-clause-found : goal.returns-then-eq-clause-found
returns-then-eq-clause-found t c =
    same_found c.args.nodes.now.items c.loop-digit.nodes.items c.args.levels c.args.first c.args.second c.node-above.result c.node-below.result
    c.loop-digit.both c.if-levels-eq0.false c.loop-digit.invariant.0 c.requires.first
    (same_text c.loop-digit.both c.node-above.result (sym c.if-eq.true ∙ c.eq.ensures)) (rw c.deref.ensures.value at c.node-above.ensures.entries)
    (rw c.deref-2.ensures.value at c.node-below.ensures.entries)
    (λ d small k. c.loop-digit.invariant.2 d (omega arith) k)

pub returns-clause-there : goal.returns-clause-there
returns-clause-there t c =
    IfOk-weaker c.push.result _ _
    (λ n is. subst (IsThere c.push.new.nodes.items c.args.levels) (sym is.0)
    (there_new c.loop-digit.nodes.items c.push.new.nodes.items c.loop-digit.both c.args.levels c.if-levels-eq0.false is.1
    (λ d small. c.loop-digit.invariant.1 d (omega arith))))
    c.push.ensures.new

pub returns-clause-found : goal.returns-clause-found
returns-clause-found t c =
    IfOk-weaker c.push.result _ _
    (λ n is k. ap (λ m. found_from c.push.new.nodes.items c.args.levels m k) is.0
    ∙ found_new c.loop-digit.nodes.items c.push.new.nodes.items c.loop-digit.both c.args.levels k c.if-levels-eq0.false is.1
    (λ d small. c.loop-digit.invariant.1 d (omega arith))
    ∙ both_found c.args.nodes.now.items c.loop-digit.nodes.items c.args.levels c.args.first c.args.second c.node-above.result c.node-below.result
    c.loop-digit.both c.if-levels-eq0.false (rw c.deref.ensures.value at c.node-above.ensures.entries)
    (rw c.deref-2.ensures.value at c.node-below.ensures.entries) (λ d small j. c.loop-digit.invariant.2 d (omega arith) j) k)
    c.push.ensures.new
