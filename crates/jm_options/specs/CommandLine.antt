-- The command line of jm: its subcommands and their arguments, as clap sees them.
use Rattle.std.specs.Prelude.{◌≡◌, Some, [], ◌∷◌, true, false, pos, codes}
use Rattle.clap.specs.Words.{App, Rule, Shape, app_of, new_app, new_rule, with_rule, with_subcommand}
use Rattle.clap.specs.Simple.{on_top}
use Rattle.clap.specs.declared.builder.command.Command.{Command}
use Rattle.clap.specs.declared.builder.command.Command.TheViews.{out-Command}
use Rattle.clap.specs.declared.builder.action.ArgAction.TheVariants.{Append, SetTrue}
use Rattle.clap.specs.declared.builder.value_parser.ValueParser.TheVariants as vp

-- --heap N: a number of cells within the limits, 65,536 where it is left out
abbrev pub heap_argument : Rule
heap_argument = record (new_rule (codes "heap")) {
  long = Some (codes "heap");
  value_names = 1;
  defaults = codes "65536" ∷ [];
  parser = Some (vp.Signed (pos 16) (pos 16777216));
}

-- --copiers N: a number of copiers, 1 where it is left out
abbrev pub copiers_argument : Rule
copiers_argument = record (new_rule (codes "copiers")) {
  long = Some (codes "copiers");
  value_names = 1;
  defaults = codes "1" ∷ [];
  parser = Some (vp.Signed (pos 1) (pos 16));
}

-- --schedule FILE
abbrev pub schedule_argument : Rule
schedule_argument = record (new_rule (codes "schedule")) { long = Some (codes "schedule"); value_names = 1 }

-- --steps N: a number of events, 1,000,000 where it is left out
abbrev pub steps_argument : Rule
steps_argument = record (new_rule (codes "steps")) {
  long = Some (codes "steps");
  value_names = 1;
  defaults = codes "1000000" ∷ [];
  parser = Some (vp.Signed (pos 1) (pos 10000000));
}

-- --quantum N: a number of events, 1 where it is left out
abbrev pub quantum_argument : Rule
quantum_argument = record (new_rule (codes "quantum")) {
  long = Some (codes "quantum");
  value_names = 1;
  defaults = codes "1" ∷ [];
  parser = Some (vp.Signed (pos 1) (pos 1000000));
}

-- --workers N: a number of workers, 1 where it is left out
abbrev pub workers_argument : Rule
workers_argument = record (new_rule (codes "workers")) {
  long = Some (codes "workers");
  value_names = 1;
  defaults = codes "1" ∷ [];
  parser = Some (vp.Signed (pos 1) (pos 16));
}

-- --stress KIND
abbrev pub stress_argument : Rule
stress_argument = record (new_rule (codes "stress")) { long = Some (codes "stress"); value_names = 1 }

-- --record FILE
abbrev pub record_argument : Rule
record_argument = record (new_rule (codes "record")) { long = Some (codes "record"); value_names = 1 }

-- --show-heap
abbrev pub show_heap_argument : Rule
show_heap_argument = record (new_rule (codes "show-heap")) { long = Some (codes "show-heap"); action = Some SetTrue }

-- --tell
abbrev pub tell_argument : Rule
tell_argument = record (new_rule (codes "tell")) { long = Some (codes "tell"); action = Some SetTrue }

-- FILE.., of which one has to be there
abbrev pub file_argument : Rule
file_argument = record (new_rule (codes "file")) { value_names = 1; required = true; action = Some Append }

-- --path DIR, as often as one likes
abbrev pub path_argument : Rule
path_argument = record (new_rule (codes "path")) { long = Some (codes "path"); value_names = 1; action = Some Append }

-- --main NAME
abbrev pub main_argument : Rule
main_argument = record (new_rule (codes "main")) { long = Some (codes "main"); value_names = 1 }

-- [--path DIR].. [--main NAME] FILE.., which say what the classes of a program are
abbrev pub with_program : App → App
with_program a = with_rule (with_rule (with_rule a path_argument) main_argument) file_argument

-- [--heap N] [--copiers N] [--schedule FILE] [--steps N] [--quantum N], which say what heap a run by one worker has and which events it makes
abbrev pub with_turns : Rule → App → App
with_turns steps a = with_rule (with_rule (with_rule (with_rule (with_rule a heap_argument) copiers_argument) schedule_argument) steps) quantum_argument

-- the options of run
abbrev pub run_options : App
run_options = with_rule (with_rule (with_rule (with_rule (with_rule (with_turns steps_argument (new_app (codes "run"))) workers_argument) stress_argument) record_argument) show_heap_argument) tell_argument

-- run [--heap N] [--copiers N] [--schedule FILE] [--steps N] [--quantum N] [--workers N] [--stress minor|full] [--record FILE] [--show-heap] [--tell] [--path DIR].. [--main NAME] FILE..
abbrev pub run_command : App
run_command = with_program run_options

-- RECORD, which has to be there
abbrev pub recorded_argument : Rule
recorded_argument = record (new_rule (codes "recorded")) { value_names = 1; required = true }

-- the options of replay
abbrev pub replay_options : App
replay_options = with_rule (with_rule (with_rule (with_rule (new_app (codes "replay")) heap_argument) copiers_argument) show_heap_argument) tell_argument

-- replay [--heap N] [--copiers N] [--show-heap] [--tell] [--path DIR].. [--main NAME] RECORD FILE..
abbrev pub replay_command : App
replay_command = with_rule (with_rule (with_rule (with_rule replay_options path_argument) main_argument) recorded_argument) file_argument

-- --switches N: 2 where it is left out
abbrev pub switches_argument : Rule
switches_argument = record (new_rule (codes "switches")) {
  long = Some (codes "switches");
  value_names = 1;
  defaults = codes "2" ∷ [];
  parser = Some (vp.Signed (pos 0) (pos 16));
}

-- --steps N of a schedule: 10,000 where it is left out
abbrev pub schedule_steps_argument : Rule
schedule_steps_argument = record (new_rule (codes "steps")) {
  long = Some (codes "steps");
  value_names = 1;
  defaults = codes "10000" ∷ [];
  parser = Some (vp.Signed (pos 1) (pos 1000000));
}

-- --runs N: 1,000,000 where it is left out
abbrev pub runs_argument : Rule
runs_argument = record (new_rule (codes "runs")) {
  long = Some (codes "runs");
  value_names = 1;
  defaults = codes "1000000" ∷ [];
  parser = Some (vp.Signed (pos 1) (pos 100000000));
}

-- --slice N: a number of events, 1,000 where it is left out
abbrev pub slice_argument : Rule
slice_argument = record (new_rule (codes "slice")) {
  long = Some (codes "slice");
  value_names = 1;
  defaults = codes "1000" ∷ [];
  parser = Some (vp.Signed (pos 1) (pos 1000000));
}

-- --outcome N, which may be left out
abbrev pub outcome_argument : Rule
outcome_argument = record (new_rule (codes "outcome")) {
  long = Some (codes "outcome");
  value_names = 1;
  parser = Some (vp.Signed (pos 1) (pos 100000000));
}

-- what says how far a search goes
abbrev pub bounds_options : App
bounds_options = with_rule (with_rule (with_rule (with_rule (new_app (codes "explore")) switches_argument) schedule_steps_argument) runs_argument) slice_argument

-- explore [--switches N] [--steps N] [--runs N] [--slice N] [--outcome N] [--heap N] [--tell] [--path DIR].. [--main NAME] FILE..
abbrev pub explore_command : App
explore_command = with_program (with_rule (with_rule (with_rule bounds_options outcome_argument) heap_argument) tell_argument)

-- --list
abbrev pub list_argument : Rule
list_argument = record (new_rule (codes "list")) { long = Some (codes "list"); action = Some SetTrue }

-- check [--list] [--path DIR].. [--main NAME] FILE..
abbrev pub check_command : App
check_command = with_program (with_rule (new_app (codes "check")) list_argument)

-- why [--heap N] [--copiers N] [--schedule FILE] [--steps N] [--quantum N] [--path DIR].. [--main NAME] FILE..
abbrev pub why_command : App
why_command = with_program (with_turns steps_argument (new_app (codes "why")))

-- --thread T: a thread's number, which may be left out
abbrev pub thread_argument : Rule
thread_argument = record (new_rule (codes "thread")) {
  long = Some (codes "thread");
  value_names = 1;
  parser = Some (vp.Signed (pos 1) (pos 10000000));
}

-- --from N: the number of an event, 1 where it is left out
abbrev pub from_argument : Rule
from_argument = record (new_rule (codes "from")) {
  long = Some (codes "from");
  value_names = 1;
  defaults = codes "1" ∷ [];
  parser = Some (vp.Signed (pos 1) (pos 10000000));
}

-- --most N: a number of events, 10,000,000 where it is left out
abbrev pub most_argument : Rule
most_argument = record (new_rule (codes "most")) {
  long = Some (codes "most");
  value_names = 1;
  defaults = codes "10000000" ∷ [];
  parser = Some (vp.Signed (pos 1) (pos 10000000));
}

-- trace [--thread T] [--from N] [--most N] [--heap N] [--copiers N] [--schedule FILE] [--steps N] [--quantum N] [--path DIR].. [--main NAME] FILE..
abbrev pub trace_command : App
trace_command = with_program (with_turns steps_argument (with_rule (with_rule (with_rule (new_app (codes "trace")) thread_argument) from_argument) most_argument))

-- --steps N of a film: a number of events, 2,000 where it is left out
abbrev pub film_steps_argument : Rule
film_steps_argument = record (new_rule (codes "steps")) {
  long = Some (codes "steps");
  value_names = 1;
  defaults = codes "2000" ∷ [];
  parser = Some (vp.Signed (pos 1) (pos 10000));
}

-- --source DIR
abbrev pub source_argument : Rule
source_argument = record (new_rule (codes "source")) { long = Some (codes "source"); value_names = 1 }

-- film [--from N] [--heap N] [--copiers N] [--schedule FILE] [--steps N] [--quantum N] [--source DIR] [--path DIR].. [--main NAME] FILE..
abbrev pub film_command : App
film_command = with_program (with_rule (with_turns film_steps_argument (with_rule (new_app (codes "film")) from_argument)) source_argument)

-- IN, which has to be there
abbrev pub input_argument : Rule
input_argument = record (new_rule (codes "input")) { value_names = 1; required = true }

-- OUT, which has to be there
abbrev pub output_argument : Rule
output_argument = record (new_rule (codes "output")) { value_names = 1; required = true }

-- asm IN OUT
abbrev pub assemble_command : App
assemble_command = with_rule (with_rule (new_app (codes "asm")) input_argument) output_argument

-- --bare
abbrev pub bare_argument : Rule
bare_argument = record (new_rule (codes "bare")) { long = Some (codes "bare"); action = Some SetTrue }

-- FILE, which has to be there
abbrev pub class_argument : Rule
class_argument = record (new_rule (codes "class")) { value_names = 1; required = true }

-- dis [--bare] FILE
abbrev pub disassemble_command : App
disassemble_command = with_rule (with_rule (new_app (codes "dis")) bare_argument) class_argument

-- debug [--heap N] [--copiers N] [--tell] [--path DIR].. [--main NAME] FILE..
abbrev pub debug_command : App
debug_command = with_program (with_rule (with_rule (with_rule (new_app (codes "debug")) heap_argument) copiers_argument) tell_argument)

-- N or NAME, which may be left out
abbrev pub number_argument : Rule
number_argument = record (new_rule (codes "number")) { value_names = 1 }

-- explain [N|NAME]
abbrev pub explain_command : App
explain_command = with_rule (new_app (codes "explain")) number_argument

-- version
abbrev pub version_command : App
version_command = new_app (codes "version")

-- jm, which does nothing without a subcommand
abbrev pub top_command : App
top_command = on_top (λ (s : Shape). record s { subcommand_required = true; arg_required_else_help = true }) (new_app (codes "jm"))

-- the subcommands that run a program
abbrev pub on_programs : App
on_programs = with_subcommand (with_subcommand (with_subcommand top_command run_command.top) replay_command.top) explore_command.top

-- the subcommands that tell of a program
abbrev pub on_tellings : App
on_tellings = with_subcommand (with_subcommand (with_subcommand (with_subcommand on_programs check_command.top) why_command.top) trace_command.top) film_command.top

-- the subcommands that take files
abbrev pub on_files : App
on_files = with_subcommand (with_subcommand (with_subcommand on_tellings assemble_command.top) disassemble_command.top) debug_command.top

unfoldable pub jm : App
jm = with_subcommand (with_subcommand on_files explain_command.top) version_command.top

-- a command that clap sees so, with no argument that its subcommands share
pub record IsSeenAs (c : Command) (a : App) : Type 0 where
  pub app : app_of c ≡ a
  pub local : (out-Command c).has_globals ≡ false
