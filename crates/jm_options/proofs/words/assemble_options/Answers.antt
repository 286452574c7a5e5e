-- What the matches of an assembly hold, and what they lack.
use Rattle.std.proofs.Common.{Some, sym, ap, ap₂, ◌∙◌, codes}
use Rattle.std.specs.Str.{bytes_eq}
use Rattle.clap.specs.Words.{found_of, rows_of}
use Rattle.clap.proofs.WalkLemmas.{first_value-rows}
use Rattle.jm_options.proofs.Finding.{no_text, none_found, one_word}
use Rattle.jm_options.proofs.words.assemble_options.Goals as goal

pub returns-in_default : goal.returns-in_default
returns-in_default c =
    let none = rw c.in_default.is at c.get_str.ensures in
    none_found _ _ (λ o holds. no_text (codes "input") (rows_of (found_of c.args.matches.now)) _ (none ∙ first_value-rows (found_of c.args.matches.now) (codes "input")) holds.input)

pub returns-in_default-get_str : goal.returns-in_default-get_str
returns-in_default-get_str c =
    let none = rw c.in_default-get_str.is at c.get_str-2.ensures in
    none_found _ _ (λ o holds. no_text (codes "output") (rows_of (found_of c.args.matches.now)) _ (none ∙ first_value-rows (found_of c.args.matches.now) (codes "output")) holds.output)

pub returns-then-eq : goal.returns-then-eq
returns-then-eq c =
    let input = rw c.in-Some.is at c.get_str.ensures in
    let output = rw c.in-Some-get_str.is at c.get_str-2.ensures in
    none_found _ _ (one_word _ c.in-Some.input.now c.in-Some-get_str.output.now (input ∙ first_value-rows (found_of c.args.matches.now) (codes "input"))
    (output ∙ first_value-rows (found_of c.args.matches.now) (codes "output")) (sym c.eq.ensures ∙ c.if-eq.true))

pub returns : goal.returns
returns c =
    let input = rw c.in-Some.is at c.get_str.ensures in
    let output = rw c.in-Some-get_str.is at c.get_str-2.ensures in
    record {
      input = sym (first_value-rows (found_of c.args.matches.now) (codes "input")) ∙ sym input ∙ ap Some (sym c.in_ok-from_str.ensures.ok);
      output = sym (first_value-rows (found_of c.args.matches.now) (codes "output")) ∙ sym output ∙ ap Some (sym c.in_ok-from_str-2.ensures.ok);
      apart = ap₂ bytes_eq c.in_ok-from_str.ensures.ok c.in_ok-from_str-2.ensures.ok ∙ sym c.eq.ensures ∙ c.if-eq.false;
    }
