-- The fields of one more class.
use Rattle.std.proofs.Common.{◌+◌, length, refl, sym, ap, subst, arith}
use Rattle.std.proofs.lemmas.Option.{slice_get_read}
use Rattle.std.specs.Prelude.{is_some}
use Rattle.jm_values.proofs.Lists.{get_there}
use Rattle.jm_linked.specs.Links.{class_numbered}
use Rattle.jm_linker.proofs.AboveLaws.{not_none}
use Rattle.jm_linker.specs.Inherited.{AreTheirFields}
use Rattle.jm_linker.proofs.InheritedLaws.{fields_more}
use Rattle.jm_linker.proofs.tables.fields_of.Goals as goal

pub unreachable-requires : goal.unreachable-requires
unreachable-requires c =
    let number = c.loop-number.number in
    let declaration = get_there c.args.declarations.now number (omega arith) in
    let class = c.requires.each number declaration.0 declaration.1 in
    not_none (class_numbered c.args.classes.now.program.now number) (ap is_some class.numbered) (sym c.in_default.ensures)

pub loop-number-preserved : goal.loop-number-preserved
loop-number-preserved c =
    let program = c.args.classes.now.program.now in
    let declarations = c.args.declarations.now in
    let i = c.loop-number.number in
    let declaration = c.index-declarations-number.result in
    subst (AreTheirFields program declarations (i + 1)) (sym c.in_ok-push.ensures.items)
    (fields_more program declarations i c.loop-number.fields.items _ c.loop-number.invariant (record {
      parts = c.in-Some.class.now;
      numbered = sym c.in-Some.ensures;
      declaration = declaration;
      declaration_is = slice_get_read declarations (length declarations) i declaration refl (omega arith) c.index-declarations-number.is;
      superclass = c.superclass_number.ensures;
      fields = c.as_slice.ensures;
    }))
