-- What words ask of jm.
use Rattle.std.specs.Prelude.{◌≡◌, ◌≤◌, ℕ, List, Option, Some, None, [], ◌∷◌, Result, Ok, Err, ⊤, Bool, false, find, codes, map, option_map, string_bytes, unwrap_or, if◌then◌else◌}
use Rattle.std.specs.Str.{bytes_eq}
use Rattle.std.specs.Str.Parse.{IsNumeral, digits_value, without_leading_plus}
use Rattle.clap.specs.Words.{Row, Text, all_of, first_of, one_of, fault_of, subcommand_of}
use Rattle.jm_explain.specs.Asked.{Asks as AsksFor, is_asked}
use Rattle.jm_explain.specs.declared.search.Asked.{Asked}
use Rattle.jm_explain.specs.Items.{Item, item}
use Rattle.jm_explain.specs.Table.{items}
use Rattle.jm_options.specs.CommandLine.{jm}
use Rattle.jm_options.specs.declared.request.Options.{Options}
use Rattle.jm_options.specs.declared.request.Options.TheVariants.{Run, Replay, Explore, Check, Why, Trace, Film, Assemble, Disassemble, Debug, Explain, Version}
use Rattle.jm_options.specs.declared.request.ProgramOptions.{ProgramOptions}
use Rattle.jm_options.specs.declared.request.RunOptions.{RunOptions}
use Rattle.jm_options.specs.declared.request.Stress.{Stress}
use Rattle.jm_options.specs.declared.request.Stress.TheVariants.{Minor, Full}
use Rattle.jm_options.specs.declared.request.ReplayOptions.{ReplayOptions}
use Rattle.jm_options.specs.declared.request.ExploreOptions.{ExploreOptions}
use Rattle.jm_options.specs.declared.request.CheckOptions.{CheckOptions}
use Rattle.jm_options.specs.declared.request.SerialRun.{SerialRun}
use Rattle.jm_options.specs.declared.request.TraceOptions.{TraceOptions}
use Rattle.jm_options.specs.declared.request.FilmOptions.{FilmOptions}
use Rattle.jm_options.specs.declared.request.AssembleOptions.{AssembleOptions}
use Rattle.jm_options.specs.declared.request.DisassembleOptions.{DisassembleOptions}
use Rattle.jm_options.specs.declared.request.DebugOptions.{DebugOptions}
use Rattle.jm_options.specs.declared.request.ExplainOptions.{ExplainOptions}
use Rattle.jm_options.specs.declared.fault.UsageFault.{UsageFault}
use Rattle.jm_options.specs.declared.fault.UsageFault.TheVariants.{Usage, OutOfMemory}

-- a subcommand with its matches
abbrev pub Subcommand : Type 0
Subcommand = Text × List Row

-- the decimal digits of a text, with or without a plus, are those of a number
pub record SpellsNumber (text : Text) (n : ℕ) : Type 0 where
  pub digits : IsNumeral 10 (without_leading_plus text)
  pub value : digits_value 10 (without_leading_plus text) ≡ n

-- under this name the matches hold a number, and it is within the limits
pub record HoldsNumber (name : Text) (low high : ℕ) (matches : List Row) (n : ℕ) : Type 0 where
  pub text : Text
  pub given : one_of name matches ≡ Some text
  pub spelled : SpellsNumber text n
  pub at_least : low ≤ n
  pub at_most : n ≤ high

-- they hold no number of this name, and none is asked for; or they hold the one that is asked for, within the limits
abbrev pub MayHoldNumber : Text → ℕ → ℕ → List Row → Option ℕ → Type 0
MayHoldNumber name low high matches None = first_of name matches ≡ None
MayHoldNumber name low high matches (Some n) = HoldsNumber name low high matches n

-- a flag is set where its text says so: `true` for one that was given, and `false` for another
abbrev pub is_set : Option Text → Bool
is_set None = false
is_set (Some text) = bytes_eq text (codes "true")

-- the classes of a program are what the matches say: the folders in which they are looked for, the main class if it is named, and the files
pub record HoldsProgram (matches : List Row) (o : ProgramOptions) : Type 0 where
  pub folders : unwrap_or (all_of (codes "path") matches) [] ≡ map string_bytes o.folders.items
  pub main : first_of (codes "main") matches ≡ option_map string_bytes o.main
  pub files : all_of (codes "file") matches ≡ Some (map string_bytes o.files.items)

-- the options are what the matches say of a run by one worker, within the limits and with so many steps at most
pub record HoldsSerialRun (most : ℕ) (matches : List Row) (o : SerialRun) : Type 0 where
  pub heap : HoldsNumber (codes "heap") 16 16777216 matches o.heap
  pub copiers : HoldsNumber (codes "copiers") 1 16 matches o.copiers
  pub schedule : first_of (codes "schedule") matches ≡ option_map string_bytes o.schedule
  pub steps : HoldsNumber (codes "steps") 1 most matches o.steps
  pub quantum : HoldsNumber (codes "quantum") 1 1000000 matches o.quantum
  pub program : HoldsProgram matches o.program

-- the word for a kind of collection
abbrev pub stress_word : Stress → Text
stress_word Minor = codes "minor"
stress_word Full = codes "full"

-- they name no kind of collection, and none is asked for; or they name the one that is asked for, and one worker makes the events
abbrev pub HoldsStress : List Row → ℕ → Option Stress → Type 0
HoldsStress matches workers None = first_of (codes "stress") matches ≡ None
HoldsStress matches workers (Some kind) = (first_of (codes "stress") matches ≡ Some (stress_word kind)) × (workers ≡ 1)

-- what a run is given for one worker
abbrev pub serial_of : RunOptions → SerialRun
serial_of o = record {
  heap = o.heap;
  copiers = o.copiers;
  schedule = o.schedule;
  steps = o.steps;
  quantum = o.quantum;
  program = o.program;
  least_heap = o.least_heap;
  most_heap = o.most_heap;
  some_copiers = o.some_copiers;
  few_copiers = o.few_copiers;
  some_steps = o.some_steps;
  few_steps = o.few_steps;
  some_quantum = o.some_quantum;
  small_quantum = o.small_quantum;
}

-- the options are what the matches of a run hold, and within the limits
pub record HoldsRun (matches : List Row) (o : RunOptions) : Type 0 where
  pub serial : HoldsSerialRun 10000000 matches (serial_of o)
  pub workers : HoldsNumber (codes "workers") 1 16 matches o.workers
  pub stress : HoldsStress matches o.workers o.stress
  pub record_file : first_of (codes "record") matches ≡ option_map string_bytes o.record_file
  pub show_heap : o.show_heap ≡ is_set (first_of (codes "show-heap") matches)
  pub tell : o.tell ≡ is_set (first_of (codes "tell") matches)

-- the options are what the matches of a replay hold, and within the limits
pub record HoldsReplay (matches : List Row) (o : ReplayOptions) : Type 0 where
  pub heap : HoldsNumber (codes "heap") 16 16777216 matches o.heap
  pub copiers : HoldsNumber (codes "copiers") 1 16 matches o.copiers
  pub show_heap : o.show_heap ≡ is_set (first_of (codes "show-heap") matches)
  pub tell : o.tell ≡ is_set (first_of (codes "tell") matches)
  pub record_file : first_of (codes "recorded") matches ≡ Some (string_bytes o.record_file)
  pub program : HoldsProgram matches o.program

-- the options are what the matches of an exploration hold, and within the limits
pub record HoldsExplore (matches : List Row) (o : ExploreOptions) : Type 0 where
  pub switches : HoldsNumber (codes "switches") 0 16 matches o.switches
  pub steps : HoldsNumber (codes "steps") 1 1000000 matches o.steps
  pub runs : HoldsNumber (codes "runs") 1 100000000 matches o.runs
  pub slice : HoldsNumber (codes "slice") 1 1000000 matches o.slice
  pub outcome : MayHoldNumber (codes "outcome") 1 100000000 matches o.outcome
  pub heap : HoldsNumber (codes "heap") 16 16777216 matches o.heap
  pub tell : o.tell ≡ is_set (first_of (codes "tell") matches)
  pub program : HoldsProgram matches o.program

-- the options are what the matches of a check hold
pub record HoldsCheck (matches : List Row) (o : CheckOptions) : Type 0 where
  pub list : o.list ≡ is_set (first_of (codes "list") matches)
  pub program : HoldsProgram matches o.program

-- the options are what the matches of a trace hold, and within the limits
pub record HoldsTrace (matches : List Row) (o : TraceOptions) : Type 0 where
  pub serial : HoldsSerialRun 10000000 matches o.run
  pub thread : MayHoldNumber (codes "thread") 1 10000000 matches o.thread
  pub first : HoldsNumber (codes "from") 1 10000000 matches o.first
  pub most : HoldsNumber (codes "most") 1 10000000 matches o.most

-- the options are what the matches of a film hold, and within the limits
pub record HoldsFilm (matches : List Row) (o : FilmOptions) : Type 0 where
  pub serial : HoldsSerialRun 10000 matches o.run
  pub first : HoldsNumber (codes "from") 1 10000000 matches o.first
  pub source : first_of (codes "source") matches ≡ option_map string_bytes o.source

-- the options are what the matches of an assembly hold, and OUT is another word than IN
pub record HoldsAssemble (matches : List Row) (o : AssembleOptions) : Type 0 where
  pub input : first_of (codes "input") matches ≡ Some (string_bytes o.input)
  pub output : first_of (codes "output") matches ≡ Some (string_bytes o.output)
  pub apart : bytes_eq (string_bytes o.input) (string_bytes o.output) ≡ false

-- the options are what the matches of a disassembly hold
pub record HoldsDisassemble (matches : List Row) (o : DisassembleOptions) : Type 0 where
  pub bare : o.bare ≡ is_set (first_of (codes "bare") matches)
  pub file : first_of (codes "class") matches ≡ Some (string_bytes o.file)

-- the options are what the matches of a debugger's command hold, and within the limits
pub record HoldsDebug (matches : List Row) (o : DebugOptions) : Type 0 where
  pub heap : HoldsNumber (codes "heap") 16 16777216 matches o.heap
  pub copiers : HoldsNumber (codes "copiers") 1 16 matches o.copiers
  pub tell : o.tell ≡ is_set (first_of (codes "tell") matches)
  pub program : HoldsProgram matches o.program

-- the matches hold a number or a name of which the table says this
pub record HoldsEntry (matches : List Row) (i : Item) : Type 0 where
  pub word : Text
  pub given : first_of (codes "number") matches ≡ Some word
  pub asked : Asked
  pub asks : AsksFor word asked
  pub said : find (is_asked asked) items ≡ Some i

-- they hold neither, and none is asked for; or they hold that of what is asked for
abbrev pub HoldsAsked : List Row → Option Item → Type 0
HoldsAsked matches None = first_of (codes "number") matches ≡ None
HoldsAsked matches (Some i) = HoldsEntry matches i

-- the options are what the matches of an explanation hold
pub record HoldsExplain (matches : List Row) (o : ExplainOptions) : Type 0 where
  pub asked : HoldsAsked matches (option_map item o.entry)

-- the name of the subcommand that asks for such options
abbrev pub name_of : Options → Text
name_of (Run o) = codes "run"
name_of (Replay o) = codes "replay"
name_of (Explore o) = codes "explore"
name_of (Check o) = codes "check"
name_of (Why o) = codes "why"
name_of (Trace o) = codes "trace"
name_of (Film o) = codes "film"
name_of (Assemble o) = codes "asm"
name_of (Disassemble o) = codes "dis"
name_of (Debug o) = codes "debug"
name_of (Explain o) = codes "explain"
name_of Version = codes "version"

-- the options are what the matches of their subcommand hold
abbrev pub HoldsOptions : List Row → Options → Type 0
HoldsOptions matches (Run o) = HoldsRun matches o
HoldsOptions matches (Replay o) = HoldsReplay matches o
HoldsOptions matches (Explore o) = HoldsExplore matches o
HoldsOptions matches (Check o) = HoldsCheck matches o
HoldsOptions matches (Why o) = HoldsSerialRun 10000000 matches o
HoldsOptions matches (Trace o) = HoldsTrace matches o
HoldsOptions matches (Film o) = HoldsFilm matches o
HoldsOptions matches (Assemble o) = HoldsAssemble matches o
HoldsOptions matches (Disassemble o) = HoldsDisassemble matches o
HoldsOptions matches (Debug o) = HoldsDebug matches o
HoldsOptions matches (Explain o) = HoldsExplain matches o
HoldsOptions matches Version = ⊤

-- the options are what the subcommand of this name and its matches hold
pub record HoldsNamed (name : Text) (matches : List Row) (o : Options) : Type 0 where
  pub named : name ≡ name_of o
  pub held : HoldsOptions matches o

-- the options are what the subcommand and its matches hold
pub record Holds (s : Option Subcommand) (o : Options) : Type 0 where
  pub used : Subcommand
  pub met : s ≡ Some used
  pub named : HoldsNamed used.0 used.1 o

-- the words, of which the first is the program's name, are without a fault and ask for these options, as they stand
pub record Asks (words : List Text) (o : Options) : Type 0 where
  pub taken : fault_of jm words ≡ []
  pub held : Holds (subcommand_of jm words) o

-- What is found for a request: one that is held so, or that none is. That memory was refused says
-- nothing of it.
abbrev pub Finds : {A : Type 0} → Result A UsageFault → (A → Type 0) → Type 0
Finds {A} (Ok o) IsHeld = IsHeld o
Finds {A} (Err (Usage text)) IsHeld = (o : A) → ¬ (IsHeld o)
Finds {A} (Err OutOfMemory) IsHeld = ⊤

-- An answer to words as they stand: the options that they ask for, or that they ask for none.
abbrev pub AnswersTo : List Text → Result Options UsageFault → Type 0
AnswersTo words answer = Finds answer (Asks words)

abbrev pub version_spoken : Text → Text
version_spoken word = if bytes_eq word (codes "--version") then codes "version" else word

-- `--version` alone behind the program's name is the subcommand
abbrev pub spoken : List Text → List Text
spoken (program ∷ word ∷ []) = program ∷ version_spoken word ∷ []
spoken words = words

abbrev pub Answers : List Text → Result Options UsageFault → Type 0
Answers words answer = AnswersTo (spoken words) answer

-- the status that the program ends with
abbrev pub status_of : UsageFault → ℕ
status_of (Usage text) = 1
status_of OutOfMemory = 7
