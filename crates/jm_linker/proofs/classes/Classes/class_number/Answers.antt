-- A class of the program, behind the built-in ones, and a built-in one.
use Rattle.std.proofs.Common.{sym, ap, ◌∙◌, arith}
use Rattle.std.specs.Prelude.{map}
use Rattle.jm_linker.specs.BuiltInClasses.{number_from}
use Rattle.jm_linker.specs.declared.members.Members.{Members}
use Rattle.jm_linker.proofs.Numbers.{number_within}
use Rattle.jm_linker.proofs.NumberedLaws.{of_program, built_in_answer}
use Rattle.jm_linker.proofs.classes.Classes.class_number.Goals as goal

pub overflow_add-result : goal.overflow_add-result
overflow_add-result c =
    let within = number_within c.args.self.now.program.now c.args.name.now c.in-Some.number (sym c.number.ensures ∙ c.in-Some.is) in
    let all = c.height.ensures in
    omega (arith, within, all)

pub returns-in-Some : goal.returns-in-Some
returns-in-Some c =
    let me = c.args.self.now in
    let all = c.height.ensures in
    of_program me.program.now c.args.name.now c.in-Some.number _ (sym c.number.ensures ∙ c.in-Some.is) (omega (arith, all))

pub returns-in-None : goal.returns-in-None
returns-in-None c =
    let me = c.args.self.now in
    built_in_answer me.program.now c.args.name.now (map (λ (m : Members). m.class.now) me.built_ins.items) c.number_among.result me.complete
    (sym c.number.ensures ∙ c.in-None.is)
    (c.number_among.ensures ∙ ap (λ ms. number_from 0 (map (λ (m : Members). m.class.now) ms) c.args.name.now) c.deref.ensures.value)
