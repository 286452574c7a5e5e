-- The word that the matches hold, or none.
use Rattle.std.proofs.Common.{sym, ◌∙◌, codes}
use Rattle.clap.specs.Words.{found_of}
use Rattle.clap.proofs.WalkLemmas.{first_value-rows}
use Rattle.jm_options.proofs.Finding.{no_entry, none_explained, none_found}
use Rattle.jm_options.proofs.words.explain_options.Goals as goal

pub returns-in_default : goal.returns-in_default
returns-in_default c =
    let none = rw c.in_default.is at c.get_str.ensures in
    record { asked = sym (first_value-rows (found_of c.args.matches.now) (codes "number")) ∙ sym none }

pub returns-in-Some-entry_of : goal.returns-in-Some-entry_of
returns-in-Some-entry_of c =
    let word = rw c.in-Some.is at c.get_str.ensures in
    let given = word ∙ first_value-rows (found_of c.args.matches.now) (codes "number") in
    let there = rw c.in-Some-entry_of.is at c.entry_of.ensures in
    record { asked = record { word = c.in-Some.word.now; given = sym given; asked = c.asked_by.result; asks = c.asked_by.ensures; said = sym there } }

pub returns-in-None : goal.returns-in-None
returns-in-None c =
    let word = rw c.in-Some.is at c.get_str.ensures in
    let given = word ∙ first_value-rows (found_of c.args.matches.now) (codes "number") in
    let none = rw c.in-None.is at c.entry_of.ensures in
    none_found _ _ (none_explained _ c.in-Some.word.now given (no_entry _ c.in-Some.word.now c.asked_by.result given c.asked_by.ensures none))
