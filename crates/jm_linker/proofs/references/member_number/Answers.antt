-- The class is found under its own name.
use Rattle.std.proofs.Common.{sym, ◌∙◌, refl}
use Rattle.jm_linker.proofs.NumberedLaws.{by_own_name, own_number}
use Rattle.jm_linker.proofs.references.member_number.Goals as goal

pub unreachable-requires : goal.unreachable-requires
unreachable-requires c =
    let there = by_own_name c.args.classes.now.program.now c.args.class.now c.requires in
    let none = sym c.in_default.ensures ∙ there in
    cc

pub returns : goal.returns
returns c = (own_number c.args.classes.now.program.now c.args.class.now c.in-Some.number _ c.requires c.in-Some.ensures c.in_ok-short_number.ensures, refl)
