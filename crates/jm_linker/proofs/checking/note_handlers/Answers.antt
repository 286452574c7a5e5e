-- One more is noted, and then all are.
use Rattle.std.proofs.Common.{ℕ, ◌++◌, arith}
use Rattle.jm_program.specs.declared.code.Handler.{Handler}
use Rattle.jm_world.specs.Loads.{catch_refusal}
use Rattle.jm_linker.specs.declared.finding.Site.TheVariants as site
use Rattle.jm_linker.specs.Findings.{each, found}
use Rattle.jm_linker.proofs.FindingLaws.{each_ends, each_goes_on}
use Rattle.jm_linker.proofs.checking.note_handlers.Goals as goal

pub loop-number-preserved : goal.loop-number-preserved
loop-number-preserved c =
    let tell = λ (h : ℕ) (handler : Handler). found (site.Handler c.args.class c.args.method h) (catch_refusal c.args.classes.now.program.now handler) in
    let xs = c.args.handlers.now in
    let x = c.index-handlers-number.result in
    each_goes_on tell xs c.loop-number.number x (c.loop-number.findings.items) (c.note.new.findings.items) (c.args.findings.now.items ++ each tell 0 xs)
    (omega arith) c.index-handlers-number.is (c.in_ok-note.ensures (catch_refusal c.args.classes.now.program.now x) c.link_handler.ensures.refusal) c.loop-number.invariant

pub returns : goal.returns
returns c =
    let tell = λ (h : ℕ) (handler : Handler). found (site.Handler c.args.class c.args.method h) (catch_refusal c.args.classes.now.program.now handler) in
    let xs = c.args.handlers.now in
    each_ends tell xs c.loop-number.number (c.loop-number.findings.items) (c.args.findings.now.items ++ each tell 0 xs) (omega arith) c.loop-number.invariant
