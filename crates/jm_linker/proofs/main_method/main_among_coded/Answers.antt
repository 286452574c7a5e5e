-- The first class's main.
use Rattle.std.proofs.Common.{Some, sym, ap, ◌∙◌}
use Rattle.jm_linker.proofs.MainLaws.{numbers_main}
use Rattle.jm_linker.proofs.main_method.main_among_coded.Goals as goal

pub returns : goal.returns
returns c =
    let first = sym c.in-Some.ensures.value ∙ ap Some (sym c.parts-class.ensures.parts) in
    numbers_main c.args.program.now c.parts-class.result.now c.as_slice-methods.result.now c.in-Some-main_number.number c.in_ok-short_number.field-0 first c.as_slice-methods.ensures c.requires
    c.in-Some-main_number.ensures.1 (c.in_ok-short_number.ensures ∙ c.count_coded.ensures)
