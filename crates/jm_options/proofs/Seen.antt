-- A command as clap sees it, by the rows of a table so far, and by one more.
use Rattle.std.proofs.Common.{◌≡◌, ℕ, ◌+◌, ◌<◌, List, false, ap, ap₂, ◌∙◌, take, length, get_or}
use Rattle.std.specs.Prelude.{◌||◌}
use Rattle.std.specs.List.{fold}
use Rattle.std.proofs.lemmas.List.{take_more}
use Rattle.std.proofs.lemmas.List.Sums.{fold_push}
use Rattle.clap.specs.Words.{App, Rule, AddsArg, rule_of, with_rule}
use Rattle.clap.specs.declared.builder.command.Command.{Command}
use Rattle.clap.specs.declared.builder.arg.Arg.{Arg}
use Rattle.jm_options.specs.CommandLine.{IsSeenAs}
use Rattle.jm_options.specs.Rows.{rule_said, with_said}
use Rattle.jm_options.specs.declared.argument.Argument.{Argument}

fold_more : {A B : Type 0} (f : B → A → B) (a : B) (xs : List A) (i : ℕ) (d : A) → i < length xs → fold f a (take (i + 1) xs) ≡ f (fold f a (take i xs)) (get_or xs i d)
fold_more f a xs i d within = ap (fold f a) (take_more xs i d within) ∙ fold_push f a (take i xs) (get_or xs i d)

argument_added : (old new : Command) (a : Arg) (app : App) (rule : Rule) → IsSeenAs old app → rule_of a ≡ rule → a.global ≡ false → AddsArg old a new → IsSeenAs new (with_rule app rule)
argument_added old new a app rule seen is local added = record {
  app = added.shape local ∙ ap₂ with_rule seen.app is;
  local = added.globals ∙ ap₂ (λ x y. x || y) seen.local local;
}

pub row_added : (old new : Command) (a : Arg) (app : App) (rows : List Argument) (i : ℕ) (d : Argument) → i < length rows → IsSeenAs old (fold with_said app (take i rows)) → rule_of a ≡ rule_said (get_or rows i d) → a.global ≡ false → AddsArg old a new
    → IsSeenAs new (fold with_said app (take (i + 1) rows))
row_added old new a app rows i d within seen is local added =
    rw (fold_more with_said app rows i d within) (argument_added old new a (fold with_said app (take i rows)) (rule_said (get_or rows i d)) seen is local added)
