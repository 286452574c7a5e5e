-- One more is noted, and then all are.
use Rattle.std.proofs.Common.{◌++◌, [], ap, take, ◌∙◌, arith}
use Rattle.jm_program.specs.declared.class.ClassParts.{ClassParts}
use Rattle.jm_world.specs.Loads.{duplicate_class, is_named_among, when}
use Rattle.jm_linker.specs.declared.finding.Site.TheVariants as site
use Rattle.jm_linker.specs.Findings.{found, named_again}
use Rattle.jm_linker.proofs.FindingLaws.{named_ends, named_goes_on}
use Rattle.jm_linker.proofs.checking.note_names.Goals as goal

pub loop-number-preserved : goal.loop-number-preserved
loop-number-preserved c =
    let program = c.args.names.now.program.now in
    let i = c.loop-number.number in
    let x = c.index-program-number.result in
    let now = c.loop-number.findings.items in
    let reason = λ (k : ClassParts). when (is_named_among (take i program) k.name) (duplicate_class k.name) in
    named_goes_on program i x now (c.note.new.findings.items) (c.args.findings.now.items ++ named_again [] 0 program)
    (omega arith) c.index-program-number.is (c.in_ok-note.ensures (reason c.parts.result.now) c.check_name-answer.ensures ∙ ap (λ k. now ++ found (site.Class i) (reason k)) c.parts.ensures.parts) c.loop-number.invariant

pub returns : goal.returns
returns c =
    let program = c.args.names.now.program.now in
    named_ends program c.loop-number.number (c.loop-number.findings.items) (c.args.findings.now.items ++ named_again [] 0 program) (omega arith) c.loop-number.invariant
