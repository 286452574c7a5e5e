-- The kind that the matches name, or none.
use Rattle.std.proofs.Common.{sym, ap, Some, ◌∙◌, codes}
use Rattle.clap.specs.Words.{found_of, rows_of}
use Rattle.clap.proofs.WalkLemmas.{first_value-rows}
use Rattle.jm_options.proofs.Finding.{no_kind, none_found, not_alone}
use Rattle.jm_options.proofs.values.stress_given.Goals as goal

pub returns-in_default : goal.returns-in_default
returns-in_default c =
    let none = rw c.in_default.is at c.get_str.ensures in
    sym (first_value-rows (found_of c.args.matches.now) (codes "stress")) ∙ sym none

pub returns-in_default-stress_named : goal.returns-in_default-stress_named
returns-in_default-stress_named c =
    let word = rw c.in-Some.is at c.get_str.ensures in
    none_found _ _ (no_kind (rows_of (found_of c.args.matches.now)) c.args.workers c.in-Some.word.now (word ∙ first_value-rows (found_of c.args.matches.now) (codes "stress")) c.in_default-stress_named.ensures)

pub returns-then-workers-ne1 : goal.returns-then-workers-ne1
returns-then-workers-ne1 c =
    let word = rw c.in-Some.is at c.get_str.ensures in
    none_found _ _ (not_alone (rows_of (found_of c.args.matches.now)) c.args.workers c.in-Some.word.now (word ∙ first_value-rows (found_of c.args.matches.now) (codes "stress")) c.if-workers-ne1.true)

pub returns : goal.returns
returns c =
    let word = rw c.in-Some.is at c.get_str.ensures in
    (sym (first_value-rows (found_of c.args.matches.now) (codes "stress")) ∙ sym word ∙ ap Some c.in-Some-stress_named.ensures, c.if-workers-ne1.false)
