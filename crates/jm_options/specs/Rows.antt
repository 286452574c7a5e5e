-- What the rows of the tables say, as clap sees it.
use Rattle.std.specs.Prelude.{Some, [], ◌∷◌, true, pos}
use Rattle.std.specs.List.{fold}
use Rattle.clap.specs.Words.{App, Rule, Text, new_app, new_rule, with_rule}
use Rattle.clap.specs.declared.builder.action.ArgAction.TheVariants.{Append, SetTrue}
use Rattle.clap.specs.declared.builder.value_parser.ValueParser.TheVariants as vp
use Rattle.jm_options.specs.declared.argument.Argument.{Argument}
use Rattle.jm_options.specs.declared.argument.Form.{Form}
use Rattle.jm_options.specs.declared.argument.Form.TheVariants as form
use Rattle.jm_options.specs.declared.command.Subcommand.{Subcommand}

-- an argument of this name and form
abbrev pub rule_formed : Text → Form → Rule
rule_formed name form.Flag = record (new_rule name) { long = Some name; action = Some SetTrue }
rule_formed name form.Text = record (new_rule name) { long = Some name; value_names = 1 }
rule_formed name form.Texts = record (new_rule name) { long = Some name; value_names = 1; action = Some Append }
rule_formed name (form.Number least most) = record (new_rule name) { long = Some name; value_names = 1; parser = Some (vp.Signed (pos least) (pos most)) }
rule_formed name (form.NumberOr least most default) =
    record (new_rule name) { long = Some name; value_names = 1; defaults = default.now ∷ []; parser = Some (vp.Signed (pos least) (pos most)) }
rule_formed name form.Word = record (new_rule name) { value_names = 1; required = true }
rule_formed name form.Words = record (new_rule name) { value_names = 1; required = true; action = Some Append }
rule_formed name form.OptionalWord = record (new_rule name) { value_names = 1 }

abbrev pub rule_said : Argument → Rule
rule_said a = rule_formed a.name.now a.form

abbrev pub with_said : App → Argument → App
with_said app a = with_rule app (rule_said a)

abbrev pub app_said : Subcommand → App
app_said s = fold with_said (new_app s.name.now) s.arguments.now
