-- What options ask for, with the files that were read for them.
use Rattle.std.specs.Prelude.{◌≡◌, ◌≤◌, ◌-◌, ℕ, Option, Some, None, is_some, option_map, Bool, false, if◌then◌else◌}
use Rattle.std.specs.Global.{Vec}
use Rattle.jm_heap.specs.declared.heap.Kind.{Kind}
use Rattle.jm_heap.specs.declared.heap.Kind.TheVariants as kind
use Rattle.jm_options.specs.declared.request.Options.{Options}
use Rattle.jm_options.specs.declared.request.Options.TheVariants.{Run, Replay, Explore, Check, Why, Trace, Film, Assemble, Disassemble, Debug, Explain, Version}
use Rattle.jm_options.specs.declared.request.RunOptions.{RunOptions}
use Rattle.jm_options.specs.declared.request.ReplayOptions.{ReplayOptions}
use Rattle.jm_options.specs.declared.request.ExploreOptions.{ExploreOptions}
use Rattle.jm_options.specs.declared.request.CheckOptions.{CheckOptions}
use Rattle.jm_options.specs.declared.request.SerialRun.{SerialRun}
use Rattle.jm_options.specs.declared.request.TraceOptions.{TraceOptions}
use Rattle.jm_options.specs.declared.request.FilmOptions.{FilmOptions}
use Rattle.jm_options.specs.declared.request.AssembleOptions.{AssembleOptions}
use Rattle.jm_options.specs.declared.request.DisassembleOptions.{DisassembleOptions}
use Rattle.jm_options.specs.declared.request.DebugOptions.{DebugOptions}
use Rattle.jm_options.specs.declared.request.Stress.{Stress}
use Rattle.jm_options.specs.declared.request.Stress.TheVariants.{Minor, Full}
use Rattle.jm_job.specs.declared.job.InputFile.{InputFile}
use Rattle.jm_job.specs.declared.job.Job.{Job}
use Rattle.jm_job.specs.declared.job.Job.TheVariants as job
use Rattle.jm_job.specs.declared.job.RunEvents.{RunEvents}
use Rattle.jm_job.specs.declared.job.RunEvents.TheVariants as run
use Rattle.jm_job.specs.declared.job.RunJob.{RunJob}
use Rattle.jm_job.specs.declared.job.ReplayJob.{ReplayJob}
use Rattle.jm_job.specs.declared.job.ExploreJob.{ExploreJob}
use Rattle.jm_job.specs.declared.job.AssembleJob.{AssembleJob}
use Rattle.jm_job.specs.declared.job.DisassembleJob.{DisassembleJob}
use Rattle.jm_job.specs.declared.job.DebugJob.{DebugJob}
use Rattle.jm_job.specs.declared.told_job.ToldEvents.{ToldEvents}
use Rattle.jm_job.specs.declared.told_job.ToldEvents.TheVariants as told
use Rattle.jm_job.specs.declared.told_job.ToldJob.{ToldJob}
use Rattle.jm_job.specs.declared.told_job.TraceJob.{TraceJob}
use Rattle.jm_job.specs.declared.told_job.FilmJob.{FilmJob}
use Rattle.jm_command.specs.declared.files_read.FilesRead.{FilesRead}
use Rattle.jm_command.specs.declared.command.Command.{Command}
use Rattle.jm_command.specs.declared.command.Command.TheVariants as command

-- the kind of the collections that a word of `--stress` asks for
abbrev pub kind_of : Stress → Kind
kind_of Minor = kind.Minor
kind_of Full = kind.Full

-- the events of `run` are those of the schedule; without one those of `--workers` where they are several, each making
-- `--steps` at most, and else those of turns by `--steps` and `--quantum`
abbrev pub AreRunEvents : RunOptions → Option InputFile → RunEvents → Type 0
AreRunEvents o (Some schedule) events = events ≡ run.Schedule schedule
AreRunEvents o None (run.Workers w) = (2 ≤ o.workers) × (w.count ≡ o.workers) × (w.steps ≡ o.steps)
AreRunEvents o None (run.RoundRobin r) = (o.workers ≡ 1) × (r.steps ≡ o.steps) × (r.quantum ≡ o.quantum)
AreRunEvents o None (run.Schedule file) = ⊥

-- the job is what `run` asks for
pub record IsRunJob (o : RunOptions) (files : FilesRead) (j : RunJob) : Type 0 where
  pub heap : j.heap ≡ o.heap
  pub copiers : j.copiers.count ≡ o.copiers
  pub events : AreRunEvents o files.named j.events
  pub program : j.program ≡ files.program
  pub show_heap : j.show_heap ≡ o.show_heap
  pub recorded : j.is_recorded ≡ is_some o.record_file
  pub stress : j.stress ≡ option_map kind_of o.stress

-- the job is what `replay` asks for, with the record and the classes that were read
pub record IsReplayJob (o : ReplayOptions) (read : InputFile) (classes : Vec InputFile) (j : ReplayJob) : Type 0 where
  pub heap : j.heap ≡ o.heap
  pub copiers : j.copiers.count ≡ o.copiers
  pub recorded : j.record_file ≡ read
  pub program : j.program ≡ classes
  pub show_heap : j.show_heap ≡ o.show_heap

-- the job is what `explore` asks for, with the classes that were read
pub record IsExploreJob (o : ExploreOptions) (classes : Vec InputFile) (j : ExploreJob) : Type 0 where
  pub heap : j.heap ≡ o.heap
  pub switches : j.bounds.switches ≡ o.switches
  pub steps : j.bounds.steps ≡ o.steps
  pub runs : j.bounds.runs ≡ o.runs
  pub slice : j.bounds.slice ≡ o.slice
  pub outcome : j.outcome ≡ o.outcome
  pub program : j.program ≡ classes

-- the job is what `asm` asks for, with the text that was read
pub record IsAssembleJob (o : AssembleOptions) (read : InputFile) (j : AssembleJob) : Type 0 where
  pub text : j.text ≡ read
  pub output : j.output ≡ o.output

-- the job is what `dis` asks for, with the class that was read
pub record IsDisassembleJob (o : DisassembleOptions) (read : InputFile) (j : DisassembleJob) : Type 0 where
  pub file : j.file ≡ read
  pub bare : j.bare ≡ o.bare

-- the job is what `debug` asks for, with the classes that were read
pub record IsDebugJob (o : DebugOptions) (classes : Vec InputFile) (j : DebugJob) : Type 0 where
  pub heap : j.heap ≡ o.heap
  pub copiers : j.copiers.count ≡ o.copiers
  pub program : j.program ≡ classes

-- the events of a run that is told are those of the schedule; without one those of turns by `--quantum`, so many at most
abbrev pub AreToldEvents : SerialRun → ℕ → Option InputFile → ToldEvents → Type 0
AreToldEvents o most (Some schedule) events = events ≡ told.Schedule schedule
AreToldEvents o most None (told.RoundRobin r) = (r.steps ≡ most) × (r.quantum ≡ o.quantum)
AreToldEvents o most None (told.Schedule file) = ⊥

-- the job is the run that is to be told, with the schedule and the classes that were read, without a schedule of so many
-- events at most
pub record IsToldJob (o : SerialRun) (most : ℕ) (schedule : Option InputFile) (classes : Vec InputFile) (j : ToldJob) : Type 0 where
  pub heap : j.heap ≡ o.heap
  pub copiers : j.copiers.count ≡ o.copiers
  pub events : AreToldEvents o most schedule j.events
  pub program : j.program ≡ classes

-- the job is what `trace` asks for
pub record IsTraceJob (o : TraceOptions) (files : FilesRead) (j : TraceJob) : Type 0 where
  pub told : IsToldJob o.run o.run.steps files.named files.program j.run
  pub thread : j.shown.thread ≡ o.thread
  pub first : j.shown.first ≡ o.first
  pub most : j.shown.most ≡ o.most

-- the job is what `film` asks for: a film begins behind the event before the first that is shown, and shows `--steps`
-- events at most; its turns go on for as long as a run may
pub record IsFilmJob (o : FilmOptions) (files : FilesRead) (j : FilmJob) : Type 0 where
  pub told : IsToldJob o.run 10000000 files.named files.program j.run
  pub before : j.window.from ≡ o.first - 1
  pub shown : j.window.steps ≡ o.run.steps
  pub sources : j.sources ≡ files.sources

-- the command is to execute a job without a record, and to tell more or not
abbrev pub Executes : Command → Bool → Job → Type 0
Executes c tells j = c ≡ command.Execute (record { job = j; record_file = None; tells = tells })

-- what a check comes to: of files all that is refused, or their names
abbrev pub check_command : CheckOptions → Vec InputFile → Command
check_command o classes = if o.list then command.List classes else command.Check classes

-- the command is what the options ask for, with the files that were read for them
abbrev pub AsksFor : Options → FilesRead → Command → Type 0
AsksFor (Run o) files c = (j : RunJob) × IsRunJob o files j × (c ≡ command.Execute (record { job = job.Run j; record_file = o.record_file; tells = o.tell }))
AsksFor (Replay o) files c = (recorded : InputFile) × (files.named ≡ Some recorded) × ((j : ReplayJob) × IsReplayJob o recorded files.program j × Executes c o.tell (job.Replay j))
AsksFor (Explore o) files c = (j : ExploreJob) × IsExploreJob o files.program j × Executes c o.tell (job.Explore j)
AsksFor (Check o) files c = c ≡ check_command o files.program
AsksFor (Why o) files c = (j : ToldJob) × IsToldJob o o.steps files.named files.program j × (c ≡ command.Why j)
AsksFor (Trace o) files c = (j : TraceJob) × IsTraceJob o files j × (c ≡ command.Trace j)
AsksFor (Film o) files c = (j : FilmJob) × IsFilmJob o files j × (c ≡ command.Film j)
AsksFor (Assemble o) files c = (text : InputFile) × (files.named ≡ Some text) × ((j : AssembleJob) × IsAssembleJob o text j × Executes c false (job.Assemble j))
AsksFor (Disassemble o) files c = (file : InputFile) × (files.named ≡ Some file) × ((j : DisassembleJob) × IsDisassembleJob o file j × Executes c false (job.Disassemble j))
AsksFor (Debug o) files c = (j : DebugJob) × IsDebugJob o files.program j × Executes c o.tell (job.Debug j)
AsksFor (Explain o) files c = c ≡ command.Explain o.entry
AsksFor Version files c = c ≡ command.Version
