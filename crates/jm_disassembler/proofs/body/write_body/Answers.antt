-- Each turn writes an instruction, its label and its lines.
use Rattle.std.proofs.Common.{◌≡◌, ℕ, ◌+◌, ◌≤◌, List, ◌++◌, length, drop, sym, subst, ◌∙◌, arith, length-drop}
use Rattle.std.proofs.lemmas.List.{drop-drop}
use Rattle.jm_program.specs.declared.code.LineNumber.{LineNumber}
use Rattle.jm_disassembler.specs.Bodies.{source_lines, lines_behind}
use Rattle.jm_disassembler.proofs.Writing.{rest_of, on_ok, body_next, body_end}
use Rattle.jm_disassembler.proofs.body.write_body.Goals as goal

pub loop-number-preserved : goal.loop-number-preserved
loop-number-preserved c =
    let l = c.loop-number in
    let n : ℕ = c.in_ok-count.count in
    let all : List LineNumber = c.args.lines.now in
    let rows : List LineNumber = drop l.at all in
    let whole = rest_of all l.at in
    let few : n ≤ length rows = subst (λ (x : List LineNumber). n ≤ length x) whole c.in_ok-count.ensures.few in
    let left = subst (λ (x : List LineNumber). drop n x ≡ lines_behind l.number x) whole c.in_ok-count.ensures.behind in
    let behind : drop (l.at + n) all ≡ lines_behind l.number rows = sym (drop-drop n l.at all) ∙ left in
    let first : List ℕ = c.write_label.new.out.bytes.items in
    let second : List ℕ = c.write_sources.new.out.bytes.items in
    let text : second ≡ first ++ source_lines l.number rows =
    subst (λ (x : List LineNumber). second ≡ first ++ source_lines l.number x) whole c.in_ok-count.ensures.text in
    let at_most : l.at ≤ length all = l.invariant.0 in (
      omega (arith, few, length-drop l.at all, at_most),
      body_next c.args.commented c.args.marks.now c.args.instructions.now rows (drop (l.at + n) all) l.number c.index-instructions-number.result
          c.index-instructions-number.result l.out.bytes.items first second c.write_instr.new.out.bytes.items _ c.loop-number-test.true
          c.index-instructions-number.is c.in_ok-write_label.ensures text behind c.in_ok-write_instr.ensures l.invariant.1,
    )

pub returns : goal.returns
returns c =
    let l = c.loop-number in
    let over : l.number ≡ length c.args.instructions.now = omega arith in
    on_ok c.write_label-2.result _ _ _ c.write_label-2.ensures
    (body_end c.args.commented c.args.marks.now c.args.instructions.now (drop l.at c.args.lines.now) l.number l.out.bytes.items _ over l.invariant.1)
