-- A turn of the walk.
use Rattle.std.proofs.Common.{◌≡◌, suc, [], ◌++◌, ◌-◌, take, refl, sym, ap, ◌∙◌, arith}
use Rattle.std.proofs.lemmas.List.{nil_from_length}
use Rattle.jm_linker.specs.Walks.{sought_in, above_from, found_pending}
use Rattle.jm_linker.proofs.NumberedLaws.{of_its_number}
use Rattle.jm_linker.proofs.WalkLaws.{only_pending, none_pending, too_deep, no_more, found_by_first_name, no_such, is_here, here_first}
use Rattle.jm_linker.proofs.WalkLaws.{nothing_first, say_dropped, say_skipped, say_above, takes, was_vain, begin_says, none_kept, deep_none, empty_none}
use Rattle.jm_linker.proofs.walk.find_above.Goals as goal

pub loop-init : goal.loop-init
loop-init c =
    let test = sought_in c.args.sought.now in
    let program = c.args.classes.now.program.now in (
      only_pending test program _ _ _ _ c.new-pending.ensures.items c.in_ok-push.ensures.items c.height.ensures,
      begin_says test program _ _ _ c.new-pending.ensures.items c.in_ok-push.ensures.items refl,
      none_kept test program c.new-tried.result c.new-tried.ensures.empty,
    )

pub returns-in_default : goal.returns-in_default
returns-in_default c =
    let rest : c.pop.new.self.items ≡ [] = c.in_default.ensures.rest ∙ ap (λ n. take (n - 1) c.loop.pending.items) c.in_default.ensures.cases.0 in
    let empty : c.loop.pending.items ≡ [] = c.in_default.ensures.items ∙ ap (λ xs. xs ++ []) rest in
    sym (none_pending (sought_in c.args.sought.now) c.args.classes.now.program.now)
    ∙ ap (found_pending (sought_in c.args.sought.now) c.args.classes.now.program.now) (sym empty) ∙ c.loop.invariant.0

pub loop-preserved-then-next-eq0 : goal.loop-preserved-then-next-eq0
loop-preserved-then-next-eq0 c =
    let test = sought_in c.args.sought.now in
    let program = c.args.classes.now.program.now in
    let inv = c.loop.invariant in (
      sym (too_deep test program _ _ _ c.in-Some.ensures.items c.if-next-eq0.true) ∙ inv.0,
      say_dropped test program _ _ _ c.in-Some.ensures.items (deep_none test program c.in-Some.next c.if-next-eq0.true) inv.1,
      inv.2,
    )

pub loop-preserved-in_default-split_first : goal.loop-preserved-in_default-split_first
loop-preserved-in_default-split_first c =
    let test = sought_in c.args.sought.now in
    let program = c.args.classes.now.program.now in
    let inv = c.loop.invariant in
    let none = nil_from_length _ c.in_default-split_first.ensures.cases in (
      sym (no_more test program _ _ _ c.in-Some.ensures.items none) ∙ inv.0,
      say_dropped test program _ _ _ c.in-Some.ensures.items (empty_none test program c.in-Some.next none) inv.1,
      c.in_ok-keep_tried.ensures test program inv.2 (was_vain test program _ _ _ c.in-Some.ensures.items none inv.1),
    )

pub loop-preserved-in_default-class_number : goal.loop-preserved-in_default-class_number
loop-preserved-in_default-class_number c =
    let test = sought_in c.args.sought.now in
    let program = c.args.classes.now.program.now in
    let inv = c.loop.invariant in
    let none = no_such test program c.in-Some.next.depth c.in-Some-split_first.name.now c.in_default-class_number.ensures in
    let taken = takes _ _ c.in-Some.ensures.items c.in_ok-push-2.ensures.items c.in-Some-split_first.ensures.cases.0 refl refl in
    let first = found_by_first_name test program taken in (
      nothing_first _ _ _ _ first none inv.0,
      say_skipped test program taken none inv.1,
      inv.2,
    )

pub loop-preserved-then-is_tried : goal.loop-preserved-then-is_tried
loop-preserved-then-is_tried c =
    let test = sought_in c.args.sought.now in
    let program = c.args.classes.now.program.now in
    let inv = c.loop.invariant in
    let one : suc (c.in-Some.next.depth - 1) ≡ c.in-Some.next.depth = omega (arith, c.if-next-eq0.false) in
    let vain = c.is_tried.ensures test program inv.2 c.if-is_tried.true c.in-Some-split_first.name.now c.in-Some-class_number.ensures.named in
    let none = ap (λ n. above_from test n program c.in-Some-split_first.name.now) (sym one) ∙ vain in
    let taken = takes _ _ c.in-Some.ensures.items c.in_ok-push-2.ensures.items c.in-Some-split_first.ensures.cases.0 refl refl in
    let first = found_by_first_name test program taken in (
      nothing_first _ _ _ _ first none inv.0,
      say_skipped test program taken none inv.1,
      inv.2,
    )

pub returns-then-is_in : goal.returns-then-is_in
returns-then-is_in c =
    let test = sought_in c.args.sought.now in
    let program = c.args.classes.now.program.now in
    let class = c.in-Some-members_numbered.members.now.class.now in
    let named = sym (of_its_number program c.in-Some-split_first.name.now c.in-Some-class_number.number c.in-Some-class_number.ensures) ∙ sym c.in-Some-members_numbered.ensures in
    let taken = takes _ _ c.in-Some.ensures.items c.in_ok-push-2.ensures.items c.in-Some-split_first.ensures.cases.0 refl refl in
    let first = found_by_first_name test program taken in
    let here = is_here test program c.in-Some.next.depth c.in-Some-split_first.name.now class c.if-next-eq0.false named (sym c.is_in.ensures ∙ c.if-is_in.true) in
    here_first _ _ _ _ class first here c.loop.invariant.0

pub loop-preserved : goal.loop-preserved
loop-preserved c =
    let test = sought_in c.args.sought.now in
    let program = c.args.classes.now.program.now in
    let inv = c.loop.invariant in
    let class = c.in-Some-members_numbered.members.now.class.now in
    let named = sym (of_its_number program c.in-Some-split_first.name.now c.in-Some-class_number.number c.in-Some-class_number.ensures) ∙ sym c.in-Some-members_numbered.ensures in
    let turn = say_above test program (record {
      next = c.in-Some.next;
      name = c.in-Some-split_first.name.now;
      number = c.in-Some-class_number.number;
      class = class;
      between = _;
      with_superclass = _;
      superclass = _;
      pushed = c.in_ok-push-3.ensures.items;
      interfaces = _;
      now = c.in_ok-push-4.ensures.items;
      taken = takes _ _ c.in-Some.ensures.items c.in_ok-push-2.ensures.items c.in-Some-split_first.ensures.cases.0 refl refl;
      goes_on = c.if-next-eq0.false;
      numbered = c.in-Some-class_number.ensures.named;
      named = named;
      not_found = sym c.is_in.ensures ∙ c.if-is_in.false;
      superclass_names = c.superclass_of.ensures;
      superclass_depth = refl;
      superclass_below = refl;
      interfaces_names = c.as_slice.ensures;
      interfaces_depth = refl;
      interfaces_below = refl;
    }) inv.1 in
    (sym turn.0 ∙ inv.0, turn.1, inv.2)
