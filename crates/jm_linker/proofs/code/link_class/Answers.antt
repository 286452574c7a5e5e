-- A method without code, and one more with code.
use Rattle.std.proofs.Common.{Option, Some, None, length, slice_get, refl, sym, ap, ◌∙◌, arith}
use Rattle.std.proofs.lemmas.Option.{slice_get_read}
use Rattle.jm_world.specs.Loads.{Refusal, method_code_refusal, instruction_refusal, catch_refusal, first_of_all, or_else}
use Rattle.jm_linker.proofs.LiteralLaws.{code_literals}
use Rattle.jm_linker.proofs.MethodLaws.{so_far_more, so_far_past}
use Rattle.jm_linker.proofs.Reasons.{first_after}
use Rattle.jm_linker.proofs.code.link_class.Goals as goal

pub link_code-requires : goal.link_code-requires
link_code-requires c =
    code_literals c.args.classes.now.program.now c.args.number c.loop-index.index c.parts-parts.result.now c.index-methods-index.result c.in-Some.code
    (c.requires ∙ ap Some (sym c.parts-parts.ensures.parts))
    (ap (λ ms. slice_get ms c.loop-index.index) (sym c.as_slice-methods.ensures) ∙ slice_get_read c.as_slice-methods.result.now
    (length c.as_slice-methods.result.now) c.loop-index.index c.index-methods-index.result refl (omega arith) c.index-methods-index.is) c.in-Some.is

pub loop-index-preserved-in_default : goal.loop-index-preserved-in_default
loop-index-preserved-in_default c =
    let program = c.args.classes.now.program.now in
    let ms = c.as_slice-methods.result.now in
    let i = c.loop-index.index in
    let x = c.index-methods-index.result in
    let inv = c.loop-index.invariant in (
      first_after (method_code_refusal program) ms i x (omega arith) c.index-methods-index.is
          (ap (λ o. elim o as (λ _. Option Refusal) [
            | None ↦ None
            | Some code ↦ or_else (first_of_all (instruction_refusal program) code.instructions)
                (first_of_all (catch_refusal program) code.handlers)
          ]) c.in_default.is)
          inv.0,
      so_far_past program c.args.number ms i x c.args.linked.now.items c.loop-index.linked.items (omega arith) c.index-methods-index.is c.in_default.is inv.1,
    )

pub loop-index-preserved : goal.loop-index-preserved
loop-index-preserved c =
    let program = c.args.classes.now.program.now in
    let ms = c.as_slice-methods.result.now in
    let i = c.loop-index.index in
    let x = c.index-methods-index.result in
    let inv = c.loop-index.invariant in
    let one = c.in_ok-method.ensures in (
      first_after (method_code_refusal program) ms i x (omega arith) c.index-methods-index.is
          (ap (λ o. elim o as (λ _. Option Refusal) [
            | None ↦ None
            | Some code ↦ or_else (first_of_all (instruction_refusal program) code.instructions)
                (first_of_all (catch_refusal program) code.handlers)
          ]) c.in-Some.is
          ∙ one.refusal)
          inv.0,
      so_far_more program c.args.number c.parts-parts.result.now ms i c.in_ok-member.member x c.in-Some.code c.in_ok-method.method c.args.linked.now.items c.loop-index.linked.items c.push.new.self.items
          (c.requires ∙ ap Some (sym c.parts-parts.ensures.parts)) (rw
          (← c.parts-parts.ensures.parts) at c.parts-parts.ensures.fits) c.as_slice-methods.ensures (omega arith) c.index-methods-index.is c.in-Some.is
          c.in_ok-member.ensures one.linked c.in_ok-push.ensures.items inv.1,
    )
