-- No class of the program is over, and no built-in one.
use Rattle.std.proofs.Common.{◌≡◌, ◌&&◌, false, sym, ap, ◌∙◌, arith}
use Rattle.std.specs.List.{list_all}
use Rattle.jm_linker.specs.BuiltInClasses.{built_in_classes}
use Rattle.jm_linker.specs.declared.members.Members.{Members}
use Rattle.jm_linker.specs.Ranks.{are_parents_under, has_none_over}
use Rattle.jm_linker.proofs.RankLaws.{all_of_classes, all_left, not_all}
use Rattle.jm_linker.proofs.ranks.are_ranks.Goals as goal

pub returns-then-not-are_parents_under-2 : goal.returns-then-not-are_parents_under-2
returns-then-not-are_parents_under-2 c =
    let me = c.args.classes.now in
    let lowest = are_parents_under me.program.now c.args.ranks.now 1 in
    let low = λ (m : Members). lowest m.class.now in
    let own = all_left (has_none_over me.program.now c.args.ranks.now) me.program.now c.loop-class.class-index (omega arith) c.loop-class.invariant in
    let one = not_all low c.as_slice-built_ins.result.now c.loop-members.members-index c.members-item.result (omega arith) c.members-item.is
    (sym c.are_parents_under-in-loop-members.ensures ∙ c.if-not-are_parents_under-2.true) c.loop-members.invariant in
    sym (ap (λ b. b && list_all lowest built_in_classes) own
    ∙ sym (ap (list_all low) c.as_slice-built_ins.ensures.value ∙ all_of_classes lowest me.built_ins.items me.complete) ∙ one)

pub returns : goal.returns
returns c =
    let me = c.args.classes.now in
    let lowest = are_parents_under me.program.now c.args.ranks.now 1 in
    let low = λ (m : Members). lowest m.class.now in
    let own = all_left (has_none_over me.program.now c.args.ranks.now) me.program.now c.loop-class.class-index (omega arith) c.loop-class.invariant in
    let all = all_left low c.as_slice-built_ins.result.now c.loop-members.members-index (omega arith) c.loop-members.invariant in
    sym (ap (λ b. b && list_all lowest built_in_classes) own
    ∙ sym (ap (list_all low) c.as_slice-built_ins.ensures.value ∙ all_of_classes lowest me.built_ins.items me.complete) ∙ all)
