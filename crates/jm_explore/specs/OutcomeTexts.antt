-- What standard error says of an outcome, as jm run does.
use Rattle.std.specs.Prelude.{List, [], ◌++◌, codes}
use Rattle.std.specs.Fmt.{decimal}
use Rattle.std.specs.List.{flat_map}
use Rattle.jm_machine.specs.EndTexts.{ended_line, stop_text}
use Rattle.jm_explore.specs.Outcomes.{End, Thrown}
use Rattle.jm_explore.specs.declared.outcome.HowEnded.{HowEnded}
use Rattle.jm_explore.specs.declared.outcome.HowEnded.TheVariants as how
use Rattle.jm_explore.specs.Marked.{Text}

-- the threads that an exception has ended
abbrev pub thrown_lines : List Thrown → Text
thrown_lines thrown = flat_map (λ t. ended_line t.thread t.class) thrown

-- the stop, or how many threads wait for one another
abbrev pub last_line : HowEnded → Text
last_line how.Ended = []
last_line (how.Stopped stop) = codes "jm: " ++ (stop_text stop ++ codes "\n")
last_line (how.Deadlock live) = codes "jm: " ++ (decimal live ++ codes " threads not ended\n")
last_line how.Cut = []

abbrev pub outcome_lines : End → Text
outcome_lines e = thrown_lines e.thrown ++ last_line e.how
