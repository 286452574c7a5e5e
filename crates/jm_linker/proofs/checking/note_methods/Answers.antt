-- One more is noted, and then all are.
use Rattle.std.proofs.Common.{◌++◌, arith}
use Rattle.jm_linker.specs.Findings.{each, method_found}
use Rattle.jm_linker.proofs.FindingLaws.{each_ends, each_goes_on}
use Rattle.jm_linker.proofs.checking.note_methods.Goals as goal

pub loop-number-preserved : goal.loop-number-preserved
loop-number-preserved c =
    let program = c.args.classes.now.program.now in
    let xs = c.args.methods.now in
    let i = c.loop-number.number in
    let x = c.index-methods-number.result in
    let now = c.loop-number.findings.items in
    each_goes_on (method_found program c.args.class) xs i x now (c.note_method.new.findings.items) (c.args.findings.now.items ++ each (method_found program c.args.class) 0 xs)
    (omega arith) c.index-methods-number.is (c.in_ok-note_method.ensures) c.loop-number.invariant

pub returns : goal.returns
returns c =
    let program = c.args.classes.now.program.now in
    let xs = c.args.methods.now in
    each_ends (method_found program c.args.class) xs c.loop-number.number (c.loop-number.findings.items) (c.args.findings.now.items ++ each (method_found program c.args.class) 0 xs) (omega arith) c.loop-number.invariant
