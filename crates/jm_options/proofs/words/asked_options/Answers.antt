-- The matches of the words, or the refusal.
use Rattle.std.proofs.Common.{◌≡◌, List, map, ap, ◌∙◌, sym}
use Rattle.clap.specs.Words.{App, Text, fault_of, is_simple, is_simple_and_free, subcommand_of, subcommand_rows_of}
use Rattle.jm_options.specs.CommandLine.{jm, IsSeenAs}
use Rattle.jm_options.proofs.Finding.{answered, not_taken, for_memory, is_simple_jm, is_free_jm}
use Rattle.jm_options.proofs.words.asked_options.Goals as goal

pub returns-in-Ok : goal.returns-in-Ok
returns-in-Ok c =
    let words : List Text = map (λ w. w.now) c.args.words.now in
    let seen : IsSeenAs c.in_ok-command.command jm = c.in_ok-command.ensures in
    let same : subcommand_rows_of c.in-Ok.matches ≡ subcommand_of jm words =
    (c.in-Ok.ensures.matches (ap is_simple seen.app ∙ is_simple_jm)).1 ∙ ap (λ (a : App). subcommand_of a words) seen.app in
    let taken = sym (ap (λ (a : App). fault_of a words) seen.app) ∙ c.in-Ok.ensures.kinds (ap is_simple_and_free seen.app ∙ is_free_jm) in
    answered words c.found_options.result taken (rw same at c.found_options.ensures)

pub returns-in-Err : goal.returns-in-Err
returns-in-Err c =
    let words : List Text = map (λ w. w.now) c.args.words.now in
    let seen : IsSeenAs c.in_ok-command.command jm = c.in_ok-command.ensures in
    not_taken words c.refusal.result (λ taken. c.refusal.ensures (for_memory _ c.in-Err.error
    (ap (λ (a : App). fault_of a words) seen.app ∙ taken) (c.in-Err.ensures.kinds (ap is_simple_and_free seen.app ∙ is_free_jm))))
