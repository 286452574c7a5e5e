-- One more class is noted, and then all are.
use Rattle.std.proofs.Common.{◌++◌, ap, ◌∙◌, arith}
use Rattle.std.proofs.lemmas.List.{take_all}
use Rattle.jm_linker.specs.Findings.{each, members_again}
use Rattle.jm_linker.proofs.FindingLaws.{classes_more, each_ends, each_goes_on}
use Rattle.jm_linker.proofs.checking.note_all_members.Goals as goal

pub loop-number-preserved : goal.loop-number-preserved
loop-number-preserved c =
    let program = c.args.program.now in
    let i = c.loop-number.number in
    let x = c.index-program-number.result in
    let now = c.loop-number.findings.items in (
      each_goes_on members_again program i x now (c.note_members.new.findings.items) (c.args.findings.now.items ++ each members_again 0 program)
          (omega arith) c.index-program-number.is (c.in_ok-note_members.ensures.noted ∙ ap (λ k. now ++ members_again i k) c.parts.ensures.parts) c.loop-number.invariant.0,
      classes_more program i x c.loop-number.all.items c.push.new.self.items c.in_ok-note_members.field-0 (omega arith) c.index-program-number.is c.loop-number.invariant.1
          (c.in_ok-note_members.ensures.class ∙ c.parts.ensures.parts) c.in_ok-push.ensures.items,
    )

pub returns-clause-noted : goal.returns-clause-noted
returns-clause-noted c =
    each_ends members_again c.args.program.now c.loop-number.number (c.loop-number.findings.items) (c.args.findings.now.items ++ each members_again 0 c.args.program.now) (omega arith) c.loop-number.invariant.0

pub returns-clause-classes : goal.returns-clause-classes
returns-clause-classes c = c.loop-number.invariant.1 ∙ take_all c.loop-number.number c.args.program.now (omega arith)
