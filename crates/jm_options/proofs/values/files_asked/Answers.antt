-- The files that the matches hold, or that there are none.
use Rattle.std.proofs.Common.{Some, sym, ap, ◌∙◌, codes}
use Rattle.clap.specs.Words.{found_of, rows_of}
use Rattle.clap.proofs.WalkLemmas.{raw_values-rows}
use Rattle.jm_options.proofs.Finding.{no_files, none_found}
use Rattle.jm_options.proofs.values.files_asked.Goals as goal

pub returns-in_default : goal.returns-in_default
returns-in_default c =
    let none = rw c.in_default.is at c.get_strs.ensures in
    none_found _ _ (λ files. no_files (rows_of (found_of c.args.matches.now)) _ (none ∙ raw_values-rows (found_of c.args.matches.now) (codes "file")))

pub returns : goal.returns
returns c =
    let files = rw c.in-Some.is at c.get_strs.ensures in
    sym (raw_values-rows (found_of c.args.matches.now) (codes "file")) ∙ sym files ∙ ap Some (sym c.in_ok-strings_of.ensures)
