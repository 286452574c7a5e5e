-- What was noted, and what is left to be noted.
use Rattle.std.proofs.Common.{◌≡◌, ℕ, ◌++◌, drop}
use Rattle.jm_program.specs.declared.code.Handler.{Handler}
use Rattle.jm_world.specs.Loads.{catch_refusal}
use Rattle.jm_linker.specs.declared.finding.Site.TheVariants as site
use Rattle.jm_linker.specs.Findings.{each, found}
use Rattle.jm_linker.proofs.checking.note_handlers.Given as goal

abbrev pub invariant-loop-number : goal.invariant-loop-number
invariant-loop-number l =
    let tell = λ (h : ℕ) (handler : Handler). found (site.Handler l.class l.method h) (catch_refusal l.classes.program.now handler) in
    l.findings.items ++ each tell l.number (drop l.number l.handlers) ≡ l.initial.findings.items ++ each tell 0 l.handlers
