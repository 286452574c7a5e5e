-- The methods of one more class.
use Rattle.std.proofs.Common.{◌≡◌, ◌+◌, length, refl, sym, ap, subst, ◌∙◌, arith}
use Rattle.std.proofs.lemmas.Option.{slice_get_read}
use Rattle.std.specs.Prelude.{is_some, option_to_list}
use Rattle.jm_values.proofs.Lists.{get_there}
use Rattle.jm_linked.specs.Links.{class_numbered}
use Rattle.jm_linker.proofs.AboveLaws.{not_none}
use Rattle.jm_linker.specs.Selectors.{AreTheirMethods}
use Rattle.jm_linker.proofs.SelectedLaws.{methods_more, no_methods, none_so_far, one_class_on, they_stand}
use Rattle.jm_linker.proofs.selected.methods_of.Goals as goal

pub loop-number-init : goal.loop-number-init
loop-number-init c = (
  none_so_far c.args.classes.now.program.now,
  subst (AreTheirMethods c.args.classes.now.program.now c.args.declarations.now 0) (sym c.in_ok-methods.ensures.items)
      (no_methods c.args.classes.now.program.now c.args.declarations.now),
)

pub own_methods-requires : goal.own_methods-requires
own_methods-requires c =
    they_stand c.args.classes.now.program.now c.loop-number.number c.loop-number.before c.in-Some.class.now (sym c.in-Some.ensures) c.loop-number.invariant.0

pub unreachable-requires : goal.unreachable-requires
unreachable-requires c =
    let number = c.loop-number.number in
    let declaration = get_there c.args.declarations.now number (omega arith) in
    let class = c.requires.each number declaration.0 declaration.1 in
    not_none (class_numbered c.args.classes.now.program.now number) (ap is_some class.numbered) (sym c.in_default.ensures)

pub loop-number-preserved : goal.loop-number-preserved
loop-number-preserved c =
    let program = c.args.classes.now.program.now in
    let declarations = c.args.declarations.now in
    let i = c.loop-number.number in
    let class = c.in-Some.class.now in
    let declaration = c.index-declarations-number.result in
    let own = ap length c.as_slice.ensures in
    let total = c.in-Some-checked_add.ensures in
    let sum : c.in-Some-checked_add.next ≡ c.loop-number.before + length class.methods = omega (arith, own, total.0, total.1) in (
      one_class_on program i c.loop-number.before c.in-Some-checked_add.next class (sym c.in-Some.ensures) c.loop-number.invariant.0 sum,
      subst (AreTheirMethods program declarations (i + 1)) (sym c.in_ok-push.ensures.items)
          (methods_more program declarations i c.loop-number.methods.items _ c.loop-number.invariant.1 (record {
            parts = class;
            numbered = sym c.in-Some.ensures;
            declaration = declaration;
            declaration_is = slice_get_read declarations (length declarations) i declaration refl (omega arith) c.index-declarations-number.is;
            superclass = c.in_ok-above.ensures ∙ ap option_to_list c.superclass_number.ensures;
            own = c.in_ok-own.ensures;
          })),
    )
