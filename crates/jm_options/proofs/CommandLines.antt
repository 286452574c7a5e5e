-- What some command lines ask for, and what is wrong with others.
use Rattle.std.proofs.Common.{◌≡◌, List, [], ◌∷◌, Option, Some, None, Bool, true, false, refl, codes}
use Rattle.std.specs.Prelude.{option_map}
use Rattle.clap.specs.Words.{Kinds, Text, all_of, fault_of, first_of, one_of, subcommand_of}
use Rattle.clap.specs.declared.error.kind.ErrorKind.TheVariants as kind
use Rattle.clap.proofs.OnLiterals.{clap_on_literals}
use Rattle.jm_options.specs.CommandLine.{jm}
use Rattle.jm_options.specs.Asked.{Subcommand, is_set, stress_word}
use Rattle.jm_options.specs.declared.request.Stress.TheVariants.{Minor, Full}

abbrev held : Subcommand → Text × Option Text × Option Text × Option (List Text)
held s = (s.0, one_of (codes "heap") s.1, first_of (codes "schedule") s.1, all_of (codes "file") s.1)

-- the words after jm run
abbrev run : List Text → Option (Text × Option Text × Option Text × Option (List Text))
run words = option_map held (subcommand_of jm (codes "jm" ∷ codes "run" ∷ words))

abbrev fault : List Text → Kinds
fault words = fault_of jm (codes "jm" ∷ codes "run" ∷ words)

abbrev asked_of : Text → List Text → Option (Text × Option Text × Option Text × Option (List Text))
asked_of heap files = Some (codes "run", Some heap, Some (codes "s"), Some files)

abbrev asked : Text → Option (Text × Option Text × Option Text × Option (List Text))
asked heap = asked_of heap (codes "A.class" ∷ [])

the_default : run (codes "--schedule" ∷ codes "s" ∷ codes "A.class" ∷ []) ≡ asked (codes "65536")
unfolding jm clap_on_literals
the_default = refl

a_limit : run (codes "A.class" ∷ codes "--heap" ∷ codes "16" ∷ codes "--schedule=s" ∷ []) ≡ asked (codes "16")
unfolding jm clap_on_literals
a_limit = refl

no_fault : fault (codes "A.class" ∷ codes "--heap" ∷ codes "16" ∷ codes "--schedule=s" ∷ []) ≡ []
unfolding jm clap_on_literals
no_fault = refl

too_small : fault (codes "--heap=15" ∷ codes "--schedule=s" ∷ codes "A.class" ∷ []) ≡ kind.ValueValidation ∷ []
unfolding jm clap_on_literals
too_small = refl

the_largest : fault (codes "--heap=16777216" ∷ codes "--schedule=s" ∷ codes "A.class" ∷ []) ≡ []
unfolding jm clap_on_literals
the_largest = refl

too_large : fault (codes "--heap=16777217" ∷ codes "--schedule=s" ∷ codes "A.class" ∷ []) ≡ kind.ValueValidation ∷ []
unfolding jm clap_on_literals
too_large = refl

-- the schedule, the steps and the quantum
abbrev turns : List Text → Option (Option Text × Option Text × Option Text)
turns words = option_map (λ (s : Subcommand). (first_of (codes "schedule") s.1, one_of (codes "steps") s.1, one_of (codes "quantum") s.1)) (subcommand_of jm (codes "jm" ∷ codes "run" ∷ words))

no_schedule : turns (codes "A.class" ∷ []) ≡ Some (None, Some (codes "1000000"), Some (codes "1"))
unfolding jm clap_on_literals
no_schedule = refl

no_fault_without : fault (codes "A.class" ∷ []) ≡ []
unfolding jm clap_on_literals
no_fault_without = refl

by_turns : turns (codes "--steps=9" ∷ codes "A.class" ∷ codes "--quantum" ∷ codes "2" ∷ []) ≡ Some (None, Some (codes "9"), Some (codes "2"))
unfolding jm clap_on_literals
by_turns = refl

beside_a_schedule : turns (codes "--steps=9" ∷ codes "--schedule=s" ∷ codes "A.class" ∷ []) ≡ Some (Some (codes "s"), Some (codes "9"), Some (codes "1"))
unfolding jm clap_on_literals
beside_a_schedule = refl

no_steps : fault (codes "--steps=0" ∷ codes "A.class" ∷ []) ≡ kind.ValueValidation ∷ []
unfolding jm clap_on_literals
no_steps = refl

the_most_steps : fault (codes "--steps=10000000" ∷ codes "A.class" ∷ []) ≡ []
unfolding jm clap_on_literals
the_most_steps = refl

one_step_too_many : fault (codes "--steps=10000001" ∷ codes "A.class" ∷ []) ≡ kind.ValueValidation ∷ []
unfolding jm clap_on_literals
one_step_too_many = refl

no_quantum : fault (codes "--quantum=0" ∷ codes "A.class" ∷ []) ≡ kind.ValueValidation ∷ []
unfolding jm clap_on_literals
no_quantum = refl

the_largest_quantum : fault (codes "--quantum=1000000" ∷ codes "A.class" ∷ []) ≡ []
unfolding jm clap_on_literals
the_largest_quantum = refl

too_large_a_quantum : fault (codes "--quantum=1000001" ∷ codes "A.class" ∷ []) ≡ kind.ValueValidation ∷ []
unfolding jm clap_on_literals
too_large_a_quantum = refl

-- the workers, and the file of the record
abbrev worked : List Text → Option (Option Text × Option Text)
worked words = option_map (λ (s : Subcommand). (one_of (codes "workers") s.1, first_of (codes "record") s.1)) (subcommand_of jm (codes "jm" ∷ codes "run" ∷ words))

one_worker : worked (codes "A.class" ∷ []) ≡ Some (Some (codes "1"), None)
unfolding jm clap_on_literals
one_worker = refl

sixteen_workers : worked (codes "--workers=16" ∷ codes "A.class" ∷ codes "--record" ∷ codes "r" ∷ []) ≡ Some (Some (codes "16"), Some (codes "r"))
unfolding jm clap_on_literals
sixteen_workers = refl

no_fault_of_workers : fault (codes "--workers=16" ∷ codes "A.class" ∷ codes "--record" ∷ codes "r" ∷ []) ≡ []
unfolding jm clap_on_literals
no_fault_of_workers = refl

no_workers : fault (codes "--workers=0" ∷ codes "A.class" ∷ []) ≡ kind.ValueValidation ∷ []
unfolding jm clap_on_literals
no_workers = refl

one_worker_too_many : fault (codes "--workers=17" ∷ codes "A.class" ∷ []) ≡ kind.ValueValidation ∷ []
unfolding jm clap_on_literals
one_worker_too_many = refl

recorded_twice : fault (codes "--record=r" ∷ codes "--record=s" ∷ codes "A.class" ∷ []) ≡ kind.ArgumentConflict ∷ []
unfolding jm clap_on_literals
recorded_twice = refl

-- the kind of the collections between the events
abbrev stressed : List Text → Option (Option Text)
stressed words = option_map (λ (s : Subcommand). first_of (codes "stress") s.1) (subcommand_of jm (codes "jm" ∷ codes "run" ∷ words))

no_stress : stressed (codes "A.class" ∷ []) ≡ Some None
unfolding jm clap_on_literals
no_stress = refl

minor_ones : stressed (codes "--stress" ∷ codes "minor" ∷ codes "A.class" ∷ []) ≡ Some (Some (stress_word Minor))
unfolding jm clap_on_literals
minor_ones = refl

full_ones : stressed (codes "--workers=1" ∷ codes "A.class" ∷ codes "--stress=full" ∷ []) ≡ Some (Some (stress_word Full))
unfolding jm clap_on_literals
full_ones = refl

no_fault_of_stress : fault (codes "--workers=1" ∷ codes "A.class" ∷ codes "--stress=full" ∷ []) ≡ []
unfolding jm clap_on_literals
no_fault_of_stress = refl

stressed_twice : fault (codes "--stress=full" ∷ codes "--stress=full" ∷ codes "A.class" ∷ []) ≡ kind.ArgumentConflict ∷ []
unfolding jm clap_on_literals
stressed_twice = refl

-- the copiers
abbrev copied : Text → List Text → Option (Option Text)
copied name words = option_map (λ (s : Subcommand). one_of (codes "copiers") s.1) (subcommand_of jm (codes "jm" ∷ name ∷ words))

one_copier : copied (codes "run") (codes "A.class" ∷ []) ≡ Some (Some (codes "1"))
unfolding jm clap_on_literals
one_copier = refl

sixteen_copiers : copied (codes "run") (codes "--copiers=16" ∷ codes "A.class" ∷ []) ≡ Some (Some (codes "16"))
unfolding jm clap_on_literals
sixteen_copiers = refl

no_fault_of_copiers : fault (codes "--copiers=16" ∷ codes "A.class" ∷ []) ≡ []
unfolding jm clap_on_literals
no_fault_of_copiers = refl

no_copiers : fault (codes "--copiers=0" ∷ codes "A.class" ∷ []) ≡ kind.ValueValidation ∷ []
unfolding jm clap_on_literals
no_copiers = refl

one_copier_too_many : fault (codes "--copiers=17" ∷ codes "A.class" ∷ []) ≡ kind.ValueValidation ∷ []
unfolding jm clap_on_literals
one_copier_too_many = refl

copiers_twice : fault (codes "--copiers=2" ∷ codes "--copiers=2" ∷ codes "A.class" ∷ []) ≡ kind.ArgumentConflict ∷ []
unfolding jm clap_on_literals
copiers_twice = refl

copiers_of_a_replay : copied (codes "replay") (codes "--copiers" ∷ codes "2" ∷ codes "r" ∷ codes "A.class" ∷ []) ≡ Some (Some (codes "2"))
unfolding jm clap_on_literals
copiers_of_a_replay = refl

copiers_of_a_debugger : copied (codes "debug") (codes "--copiers" ∷ codes "2" ∷ codes "A.class" ∷ []) ≡ Some (Some (codes "2"))
unfolding jm clap_on_literals
copiers_of_a_debugger = refl

-- whether the heap is shown
abbrev shows : List Text → Option Bool
shows words = option_map (λ (s : Subcommand). is_set (first_of (codes "show-heap") s.1)) (subcommand_of jm (codes "jm" ∷ codes "run" ∷ words))

not_shown : shows (codes "A.class" ∷ []) ≡ Some false
unfolding jm clap_on_literals
not_shown = refl

shown : shows (codes "A.class" ∷ codes "--show-heap" ∷ codes "B.class" ∷ []) ≡ Some true
unfolding jm clap_on_literals
shown = refl

no_fault_shown : fault (codes "A.class" ∷ codes "--show-heap" ∷ codes "B.class" ∷ []) ≡ []
unfolding jm clap_on_literals
no_fault_shown = refl

shown_by_a_value : fault (codes "--show-heap=true" ∷ codes "A.class" ∷ []) ≡ kind.TooManyValues ∷ []
unfolding jm clap_on_literals
shown_by_a_value = refl

shown_twice : fault (codes "--show-heap" ∷ codes "--show-heap" ∷ codes "A.class" ∷ []) ≡ kind.ArgumentConflict ∷ []
unfolding jm clap_on_literals
shown_twice = refl

two_files : run (codes "--schedule=s" ∷ codes "A.class" ∷ codes "B.class" ∷ []) ≡ asked_of (codes "65536") (codes "A.class" ∷ codes "B.class" ∷ [])
unfolding jm clap_on_literals
two_files = refl

no_fault_of_two : fault (codes "--schedule=s" ∷ codes "A.class" ∷ codes "B.class" ∷ []) ≡ []
unfolding jm clap_on_literals
no_fault_of_two = refl

-- options may stand between them
three_files : run (codes "B.j" ∷ codes "--heap=16" ∷ codes "A.class" ∷ codes "--schedule" ∷ codes "s" ∷ codes "B.j" ∷ []) ≡ asked_of (codes "16") (codes "B.j" ∷ codes "A.class" ∷ codes "B.j" ∷ [])
unfolding jm clap_on_literals
three_files = refl

no_file : fault (codes "--schedule=s" ∷ []) ≡ kind.MissingRequiredArgument ∷ []
unfolding jm clap_on_literals
no_file = refl

an_unknown_option : fault (codes "--threads=9" ∷ codes "--schedule=s" ∷ codes "A.class" ∷ []) ≡ kind.UnknownArgument ∷ []
unfolding jm clap_on_literals
an_unknown_option = refl

nothing : fault_of jm (codes "jm" ∷ []) ≡ kind.DisplayHelpOnMissingArgumentOrSubcommand ∷ []
unfolding jm clap_on_literals
nothing = refl

-- the words after jm replay
abbrev replayed : List Text → Option (Text × Option Text × Option Text × Option (List Text))
replayed words = option_map (λ (s : Subcommand). (s.0, one_of (codes "heap") s.1, first_of (codes "recorded") s.1, all_of (codes "file") s.1)) (subcommand_of jm (codes "jm" ∷ codes "replay" ∷ words))

abbrev replay_fault : List Text → Kinds
replay_fault words = fault_of jm (codes "jm" ∷ codes "replay" ∷ words)

a_replay : replayed (codes "r" ∷ codes "A.class" ∷ codes "B.j" ∷ []) ≡ Some (codes "replay", Some (codes "65536"), Some (codes "r"), Some (codes "A.class" ∷ codes "B.j" ∷ []))
unfolding jm clap_on_literals
a_replay = refl

no_replay_fault : replay_fault (codes "r" ∷ codes "A.class" ∷ codes "B.j" ∷ []) ≡ []
unfolding jm clap_on_literals
no_replay_fault = refl

a_replay_with_a_limit : replayed (codes "r" ∷ codes "--heap=16" ∷ codes "A.class" ∷ []) ≡ Some (codes "replay", Some (codes "16"), Some (codes "r"), Some (codes "A.class" ∷ []))
unfolding jm clap_on_literals
a_replay_with_a_limit = refl

no_file_to_replay : replay_fault (codes "r" ∷ []) ≡ kind.MissingRequiredArgument ∷ []
unfolding jm clap_on_literals
no_file_to_replay = refl

workers_of_run : replay_fault (codes "--workers=2" ∷ codes "r" ∷ codes "A.class" ∷ []) ≡ kind.UnknownArgument ∷ []
unfolding jm clap_on_literals
workers_of_run = refl

copiers_of_an_exploration : fault_of jm (codes "jm" ∷ codes "explore" ∷ codes "--copiers=2" ∷ codes "A.class" ∷ []) ≡ kind.UnknownArgument ∷ []
unfolding jm clap_on_literals
copiers_of_an_exploration = refl

-- the words after jm explore: the bounds, the outcome and the files
abbrev explored : List Text → Option (Option Text × Option Text × Option Text × Option Text × Option Text × Option (List Text))
explored words = option_map
    (λ (s : Subcommand). (one_of (codes "switches") s.1, one_of (codes "steps") s.1, one_of (codes "runs") s.1, one_of (codes "slice") s.1, first_of (codes "outcome") s.1, all_of (codes "file") s.1))
    (subcommand_of jm (codes "jm" ∷ codes "explore" ∷ words))

abbrev exploration_fault : List Text → Kinds
exploration_fault words = fault_of jm (codes "jm" ∷ codes "explore" ∷ words)

an_exploration : explored (codes "A.class" ∷ codes "B.j" ∷ [])
    ≡ Some (Some (codes "2"), Some (codes "10000"), Some (codes "1000000"), Some (codes "1000"), None, Some (codes "A.class" ∷ codes "B.j" ∷ []))
unfolding jm clap_on_literals
an_exploration = refl

no_exploration_fault : exploration_fault (codes "A.class" ∷ codes "B.j" ∷ []) ≡ []
unfolding jm clap_on_literals
no_exploration_fault = refl

all_its_options : explored (codes "--switches=0" ∷ codes "--steps" ∷ codes "9" ∷ codes "A.class" ∷ codes "--runs=8" ∷ codes "--slice=7" ∷ codes "--outcome" ∷ codes "3" ∷ [])
    ≡ Some (Some (codes "0"), Some (codes "9"), Some (codes "8"), Some (codes "7"), Some (codes "3"), Some (codes "A.class" ∷ []))
unfolding jm clap_on_literals
all_its_options = refl

the_most_switches : exploration_fault (codes "--switches=16" ∷ codes "--heap=16" ∷ codes "A.class" ∷ []) ≡ []
unfolding jm clap_on_literals
the_most_switches = refl

one_switch_too_many : exploration_fault (codes "--switches=17" ∷ codes "A.class" ∷ []) ≡ kind.ValueValidation ∷ []
unfolding jm clap_on_literals
one_switch_too_many = refl

no_steps_of_a_schedule : exploration_fault (codes "--steps=0" ∷ codes "A.class" ∷ []) ≡ kind.ValueValidation ∷ []
unfolding jm clap_on_literals
no_steps_of_a_schedule = refl

too_long_a_schedule : exploration_fault (codes "--steps=1000001" ∷ codes "A.class" ∷ []) ≡ kind.ValueValidation ∷ []
unfolding jm clap_on_literals
too_long_a_schedule = refl

no_runs : exploration_fault (codes "--runs=0" ∷ codes "A.class" ∷ []) ≡ kind.ValueValidation ∷ []
unfolding jm clap_on_literals
no_runs = refl

the_most_runs : exploration_fault (codes "--runs=100000000" ∷ codes "A.class" ∷ []) ≡ []
unfolding jm clap_on_literals
the_most_runs = refl

no_slice : exploration_fault (codes "--slice=0" ∷ codes "A.class" ∷ []) ≡ kind.ValueValidation ∷ []
unfolding jm clap_on_literals
no_slice = refl

no_outcome : exploration_fault (codes "--outcome=0" ∷ codes "A.class" ∷ []) ≡ kind.ValueValidation ∷ []
unfolding jm clap_on_literals
no_outcome = refl

nothing_to_explore : exploration_fault (codes "--switches=1" ∷ []) ≡ kind.MissingRequiredArgument ∷ []
unfolding jm clap_on_literals
nothing_to_explore = refl

a_schedule_of_run : exploration_fault (codes "--schedule=s" ∷ codes "A.class" ∷ []) ≡ kind.UnknownArgument ∷ []
unfolding jm clap_on_literals
a_schedule_of_run = refl

-- the words after jm check
abbrev checked : List Text → Option (Text × Option (List Text))
checked words = option_map (λ (s : Subcommand). (s.0, all_of (codes "file") s.1)) (subcommand_of jm (codes "jm" ∷ codes "check" ∷ words))

abbrev check_fault : List Text → Kinds
check_fault words = fault_of jm (codes "jm" ∷ codes "check" ∷ words)

a_check : checked (codes "A.class" ∷ codes "B.j" ∷ []) ≡ Some (codes "check", Some (codes "A.class" ∷ codes "B.j" ∷ []))
unfolding jm clap_on_literals
a_check = refl

no_check_fault : check_fault (codes "A.class" ∷ codes "B.j" ∷ []) ≡ []
unfolding jm clap_on_literals
no_check_fault = refl

nothing_to_check : check_fault [] ≡ kind.MissingRequiredArgument ∷ []
unfolding jm clap_on_literals
nothing_to_check = refl

a_heap_to_check : check_fault (codes "--heap=16" ∷ codes "A.class" ∷ []) ≡ kind.UnknownArgument ∷ []
unfolding jm clap_on_literals
a_heap_to_check = refl

-- the words after another subcommand that runs a program by one worker: the heap, the copiers, the schedule, the steps, the quantum and the files
abbrev serial : Text → List Text → Option (Option Text × Option Text × Option Text × Option Text × Option Text × Option (List Text))
serial name words = option_map
    (λ (s : Subcommand). (one_of (codes "heap") s.1, one_of (codes "copiers") s.1, first_of (codes "schedule") s.1, one_of (codes "steps") s.1, one_of (codes "quantum") s.1, all_of (codes "file") s.1))
    (subcommand_of jm (codes "jm" ∷ name ∷ words))

abbrev why_fault : List Text → Kinds
why_fault words = fault_of jm (codes "jm" ∷ codes "why" ∷ words)

a_reason : serial (codes "why") (codes "A.class" ∷ codes "B.j" ∷ [])
    ≡ Some (Some (codes "65536"), Some (codes "1"), None, Some (codes "1000000"), Some (codes "1"), Some (codes "A.class" ∷ codes "B.j" ∷ []))
unfolding jm clap_on_literals
a_reason = refl

no_why_fault : why_fault (codes "--heap=16" ∷ codes "--copiers=2" ∷ codes "--steps=9" ∷ codes "--quantum=3" ∷ codes "A.class" ∷ codes "--schedule=s" ∷ []) ≡ []
unfolding jm clap_on_literals
no_why_fault = refl

all_of_why : serial (codes "why") (codes "--heap=16" ∷ codes "--copiers=2" ∷ codes "--steps=9" ∷ codes "--quantum=3" ∷ codes "A.class" ∷ codes "--schedule=s" ∷ [])
    ≡ Some (Some (codes "16"), Some (codes "2"), Some (codes "s"), Some (codes "9"), Some (codes "3"), Some (codes "A.class" ∷ []))
unfolding jm clap_on_literals
all_of_why = refl

no_program_for_why : why_fault (codes "--heap=16" ∷ []) ≡ kind.MissingRequiredArgument ∷ []
unfolding jm clap_on_literals
no_program_for_why = refl

workers_for_why : why_fault (codes "--workers=2" ∷ codes "A.class" ∷ []) ≡ kind.UnknownArgument ∷ []
unfolding jm clap_on_literals
workers_for_why = refl

-- the words after jm trace
abbrev traced : List Text → Option (Option Text × Option Text × Option Text)
traced words = option_map (λ (s : Subcommand). (first_of (codes "thread") s.1, one_of (codes "from") s.1, one_of (codes "most") s.1)) (subcommand_of jm (codes "jm" ∷ codes "trace" ∷ words))

abbrev trace_fault : List Text → Kinds
trace_fault words = fault_of jm (codes "jm" ∷ codes "trace" ∷ words)

a_trace : traced (codes "A.class" ∷ []) ≡ Some (None, Some (codes "1"), Some (codes "10000000"))
unfolding jm clap_on_literals
a_trace = refl

no_trace_fault : trace_fault (codes "A.class" ∷ []) ≡ []
unfolding jm clap_on_literals
no_trace_fault = refl

one_thread_traced : traced (codes "--thread" ∷ codes "2" ∷ codes "--from=7" ∷ codes "A.class" ∷ codes "--most=20" ∷ codes "--steps=9" ∷ []) ≡ Some (Some (codes "2"), Some (codes "7"), Some (codes "20"))
unfolding jm clap_on_literals
one_thread_traced = refl

no_fault_of_a_thread : trace_fault (codes "--thread" ∷ codes "2" ∷ codes "--from=7" ∷ codes "A.class" ∷ codes "--most=20" ∷ codes "--steps=9" ∷ []) ≡ []
unfolding jm clap_on_literals
no_fault_of_a_thread = refl

the_run_traced : serial (codes "trace") (codes "--heap=16" ∷ codes "--copiers=2" ∷ codes "--steps=9" ∷ codes "--quantum=3" ∷ codes "A.class" ∷ codes "--schedule=s" ∷ [])
    ≡ Some (Some (codes "16"), Some (codes "2"), Some (codes "s"), Some (codes "9"), Some (codes "3"), Some (codes "A.class" ∷ []))
unfolding jm clap_on_literals
the_run_traced = refl

no_thread_to_trace : trace_fault (codes "--thread=0" ∷ codes "A.class" ∷ []) ≡ kind.ValueValidation ∷ []
unfolding jm clap_on_literals
no_thread_to_trace = refl

no_event_to_trace : trace_fault (codes "--from=0" ∷ codes "A.class" ∷ []) ≡ kind.ValueValidation ∷ []
unfolding jm clap_on_literals
no_event_to_trace = refl

no_line_of_a_trace : trace_fault (codes "--most=0" ∷ codes "A.class" ∷ []) ≡ kind.ValueValidation ∷ []
unfolding jm clap_on_literals
no_line_of_a_trace = refl

nothing_to_trace : trace_fault [] ≡ kind.MissingRequiredArgument ∷ []
unfolding jm clap_on_literals
nothing_to_trace = refl

-- the words after jm film
abbrev filmed : List Text → Option (Option Text × Option Text)
filmed words = option_map (λ (s : Subcommand). (one_of (codes "from") s.1, first_of (codes "source") s.1)) (subcommand_of jm (codes "jm" ∷ codes "film" ∷ words))

abbrev film_fault : List Text → Kinds
film_fault words = fault_of jm (codes "jm" ∷ codes "film" ∷ words)

a_film : filmed (codes "A.class" ∷ []) ≡ Some (Some (codes "1"), None)
unfolding jm clap_on_literals
a_film = refl

no_film_fault : film_fault (codes "A.class" ∷ []) ≡ []
unfolding jm clap_on_literals
no_film_fault = refl

a_film_with_lines : filmed (codes "--from=7" ∷ codes "A.class" ∷ codes "--source" ∷ codes "src" ∷ codes "--steps=10000" ∷ []) ≡ Some (Some (codes "7"), Some (codes "src"))
unfolding jm clap_on_literals
a_film_with_lines = refl

the_longest_film : film_fault (codes "--from=7" ∷ codes "A.class" ∷ codes "--source" ∷ codes "src" ∷ codes "--steps=10000" ∷ []) ≡ []
unfolding jm clap_on_literals
the_longest_film = refl

the_run_filmed : serial (codes "film") (codes "--heap=16" ∷ codes "--copiers=2" ∷ codes "--quantum=3" ∷ codes "A.class" ∷ codes "--schedule=s" ∷ [])
    ≡ Some (Some (codes "16"), Some (codes "2"), Some (codes "s"), Some (codes "2000"), Some (codes "3"), Some (codes "A.class" ∷ []))
unfolding jm clap_on_literals
the_run_filmed = refl

too_long_a_film : film_fault (codes "--steps=10001" ∷ codes "A.class" ∷ []) ≡ kind.ValueValidation ∷ []
unfolding jm clap_on_literals
too_long_a_film = refl

nothing_to_film : film_fault [] ≡ kind.MissingRequiredArgument ∷ []
unfolding jm clap_on_literals
nothing_to_film = refl

-- the words after jm asm
abbrev assembled : List Text → Option (Text × Option Text × Option Text)
assembled words = option_map (λ (s : Subcommand). (s.0, first_of (codes "input") s.1, first_of (codes "output") s.1)) (subcommand_of jm (codes "jm" ∷ codes "asm" ∷ words))

abbrev assembly_fault : List Text → Kinds
assembly_fault words = fault_of jm (codes "jm" ∷ codes "asm" ∷ words)

an_assembly : assembled (codes "A.j" ∷ codes "A.class" ∷ []) ≡ Some (codes "asm", Some (codes "A.j"), Some (codes "A.class"))
unfolding jm clap_on_literals
an_assembly = refl

no_assembly_fault : assembly_fault (codes "A.j" ∷ codes "A.class" ∷ []) ≡ []
unfolding jm clap_on_literals
no_assembly_fault = refl

a_dash : assembled (codes "--" ∷ codes "-A.j" ∷ codes "A.class" ∷ []) ≡ Some (codes "asm", Some (codes "-A.j"), Some (codes "A.class"))
unfolding jm clap_on_literals
a_dash = refl

no_text : assembly_fault [] ≡ kind.MissingRequiredArgument ∷ []
unfolding jm clap_on_literals
no_text = refl

no_output : assembly_fault (codes "A.j" ∷ []) ≡ kind.MissingRequiredArgument ∷ []
unfolding jm clap_on_literals
no_output = refl

one_word_more : assembly_fault (codes "A.j" ∷ codes "A.class" ∷ codes "B.class" ∷ []) ≡ kind.UnknownArgument ∷ []
unfolding jm clap_on_literals
one_word_more = refl

an_option_of_run : assembly_fault (codes "--heap=16" ∷ codes "A.j" ∷ codes "A.class" ∷ []) ≡ kind.UnknownArgument ∷ []
unfolding jm clap_on_literals
an_option_of_run = refl

-- the words after jm dis
abbrev disassembled : List Text → Option (Text × Bool × Option Text)
disassembled words = option_map (λ (s : Subcommand). (s.0, is_set (first_of (codes "bare") s.1), first_of (codes "class") s.1)) (subcommand_of jm (codes "jm" ∷ codes "dis" ∷ words))

abbrev disassembly_fault : List Text → Kinds
disassembly_fault words = fault_of jm (codes "jm" ∷ codes "dis" ∷ words)

a_disassembly : disassembled (codes "A.class" ∷ []) ≡ Some (codes "dis", false, Some (codes "A.class"))
unfolding jm clap_on_literals
a_disassembly = refl

no_disassembly_fault : disassembly_fault (codes "A.class" ∷ []) ≡ []
unfolding jm clap_on_literals
no_disassembly_fault = refl

a_bare_one : disassembled (codes "A.j" ∷ codes "--bare" ∷ []) ≡ Some (codes "dis", true, Some (codes "A.j"))
unfolding jm clap_on_literals
a_bare_one = refl

no_bare_fault : disassembly_fault (codes "--bare" ∷ codes "A.j" ∷ []) ≡ []
unfolding jm clap_on_literals
no_bare_fault = refl

no_class_file : disassembly_fault (codes "--bare" ∷ []) ≡ kind.MissingRequiredArgument ∷ []
unfolding jm clap_on_literals
no_class_file = refl

two_class_files : disassembly_fault (codes "A.class" ∷ codes "B.class" ∷ []) ≡ kind.UnknownArgument ∷ []
unfolding jm clap_on_literals
two_class_files = refl

-- the words after jm debug
abbrev debugged : List Text → Option (Text × Option Text × Option (List Text))
debugged words = option_map (λ (s : Subcommand). (s.0, one_of (codes "heap") s.1, all_of (codes "file") s.1)) (subcommand_of jm (codes "jm" ∷ codes "debug" ∷ words))

abbrev debugger_fault : List Text → Kinds
debugger_fault words = fault_of jm (codes "jm" ∷ codes "debug" ∷ words)

a_session : debugged (codes "A.class" ∷ codes "B.j" ∷ []) ≡ Some (codes "debug", Some (codes "65536"), Some (codes "A.class" ∷ codes "B.j" ∷ []))
unfolding jm clap_on_literals
a_session = refl

no_session_fault : debugger_fault (codes "A.class" ∷ codes "B.j" ∷ []) ≡ []
unfolding jm clap_on_literals
no_session_fault = refl

a_session_with_a_limit : debugged (codes "--heap=16" ∷ codes "A.class" ∷ []) ≡ Some (codes "debug", Some (codes "16"), Some (codes "A.class" ∷ []))
unfolding jm clap_on_literals
a_session_with_a_limit = refl

no_program : debugger_fault [] ≡ kind.MissingRequiredArgument ∷ []
unfolding jm clap_on_literals
no_program = refl

steps_of_run : debugger_fault (codes "--steps=9" ∷ codes "A.class" ∷ []) ≡ kind.UnknownArgument ∷ []
unfolding jm clap_on_literals
steps_of_run = refl

-- the words after jm explain
abbrev explained : List Text → Option (Text × Option Text)
explained words = option_map (λ (s : Subcommand). (s.0, first_of (codes "number") s.1)) (subcommand_of jm (codes "jm" ∷ codes "explain" ∷ words))

abbrev explanation_fault : List Text → Kinds
explanation_fault words = fault_of jm (codes "jm" ∷ codes "explain" ∷ words)

a_number : explained (codes "51" ∷ []) ≡ Some (codes "explain", Some (codes "51"))
unfolding jm clap_on_literals
a_number = refl

no_number_fault : explanation_fault (codes "51" ∷ []) ≡ []
unfolding jm clap_on_literals
no_number_fault = refl

the_list : explained [] ≡ Some (codes "explain", None)
unfolding jm clap_on_literals
the_list = refl

no_list_fault : explanation_fault [] ≡ []
unfolding jm clap_on_literals
no_list_fault = refl

a_name : explained (codes "NoClass" ∷ []) ≡ Some (codes "explain", Some (codes "NoClass"))
unfolding jm clap_on_literals
a_name = refl

no_name_fault : explanation_fault (codes "NoClass" ∷ []) ≡ []
unfolding jm clap_on_literals
no_name_fault = refl

two_numbers : explanation_fault (codes "51" ∷ codes "52" ∷ []) ≡ kind.UnknownArgument ∷ []
unfolding jm clap_on_literals
two_numbers = refl

-- the words after jm version
the_version : option_map (λ (s : Subcommand). s.0) (subcommand_of jm (codes "jm" ∷ codes "version" ∷ [])) ≡ Some (codes "version")
unfolding jm clap_on_literals
the_version = refl

no_version_fault : fault_of jm (codes "jm" ∷ codes "version" ∷ []) ≡ []
unfolding jm clap_on_literals
no_version_fault = refl

a_word_behind_the_version : fault_of jm (codes "jm" ∷ codes "version" ∷ codes "1" ∷ []) ≡ kind.UnknownArgument ∷ []
unfolding jm clap_on_literals
a_word_behind_the_version = refl

-- the flag that asks for more
abbrev told_more : Text → List Text → Option Bool
told_more name words = option_map (λ (s : Subcommand). is_set (first_of (codes "tell") s.1)) (subcommand_of jm (codes "jm" ∷ name ∷ words))

a_run_told : told_more (codes "run") (codes "--tell" ∷ codes "A.class" ∷ []) ≡ Some true
unfolding jm clap_on_literals
a_run_told = refl

a_run_untold : told_more (codes "run") (codes "A.class" ∷ []) ≡ Some false
unfolding jm clap_on_literals
a_run_untold = refl

a_replay_told : told_more (codes "replay") (codes "r" ∷ codes "A.class" ∷ codes "--tell" ∷ []) ≡ Some true
unfolding jm clap_on_literals
a_replay_told = refl

an_exploration_told : told_more (codes "explore") (codes "--tell" ∷ codes "A.class" ∷ []) ≡ Some true
unfolding jm clap_on_literals
an_exploration_told = refl

a_session_told : told_more (codes "debug") (codes "--tell" ∷ codes "A.class" ∷ []) ≡ Some true
unfolding jm clap_on_literals
a_session_told = refl
