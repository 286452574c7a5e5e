-- The machine with which a run begins, and the endings of the run.
use Rattle.std.proofs.Common.{◌≡◌, ℕ, List, Bool, false, refl, sym, ap, subst, ◌∙◌, Result, Ok, Err}
use Rattle.std.specs.Prelude.{if◌then◌else◌}
use Rattle.jm_program.specs.declared.class.ClassParts.{ClassParts}
use Rattle.jm_world.specs.Loading.{is_too_small, loaded_world}
use Rattle.jm_choice.specs.Choices.{Choice}
use Rattle.jm_state.specs.Parts.{parts}
use Rattle.jm_machine.specs.View.{MachineView, MatchesWorld}
use Rattle.jm_execute.specs.Beginnings.{StandsAtItsBeginning, beginning}
use Rattle.jm_execute.specs.Reasons.{heap_too_small}
use Rattle.jm_execute.specs.Verdicts.{Cause, Verdict, because, debugs, runs, loaded_program}
use Rattle.jm_debug.specs.Session.{session_of}
use Rattle.jm_execute.specs.Endings.{Ending, completed, interrupted, differed, explored, assembled, disassembled, answered, exhausted, turned_away, Debugs, Ends, Allows}
use Rattle.jm_execute.specs.Talks.{Talk}

-- a loaded world has its program and its limit
program_of : (program : List ClassParts) (limit : ℕ) → (loaded_world program limit).program ≡ program
unfolding loaded_world
program_of program limit = refl

limit_of : (program : List ClassParts) (limit : ℕ) → (loaded_world program limit).limit ≡ limit
unfolding loaded_world
limit_of program limit = refl

-- and so has the machine that matches it
same_program : {H : Type 0} (m : MachineView H) (program : List ClassParts) (limit : ℕ) → MatchesWorld m (loaded_world program limit) → m.linked.program ≡ program
unfolding parts
same_program m program limit h = h.program ∙ program_of program limit

same_limit : {H : Type 0} (m : MachineView H) (program : List ClassParts) (limit : ℕ) → MatchesWorld m (loaded_world program limit) → m.content.limit ≡ limit
unfolding parts
same_limit m program limit h = h.limit ∙ limit_of program limit

pub stands : {H : Type 0} (m : MachineView H) (program : List ClassParts) (limit : ℕ) → MatchesWorld m (loaded_world program limit) → StandsAtItsBeginning limit m
stands m program limit h =
    let same : loaded_world program limit ≡ beginning m = ap (λ p. loaded_world p limit) (sym (same_program m program limit h)) ∙ ap (loaded_world m.linked.program) (sym (same_limit m program limit h)) in
    record { limit_is = same_limit m program limit h; matches = subst (MatchesWorld m) same h }

-- the step of loading has an answer
pub loads : {H : Type 0} (m : MachineView H) (program : List ClassParts) (limit : ℕ) → is_too_small program limit ≡ false → MatchesWorld m (loaded_world program limit) → loaded_program limit program ≡ Ok m.linked.program
loads m program limit fits h =
    let answer : Bool → Result (List ClassParts) Cause = λ small. if small then Err (because heap_too_small) else Ok program in
    ap answer fits ∙ ap Ok (sym (same_program m program limit h))

-- the endings of the run are those that the files allow
pub allowed : (v : Verdict) (program : List ClassParts) (limit : ℕ) (choice : Choice) (shows : Bool) → v ≡ Ok (runs program limit choice shows)
    → (e : Ending) → Ends shows (loaded_world program limit) choice e → Allows v e
allowed v program limit choice shows is (completed shown w) (same, ends) =
    record { program = program; limit = limit; choice = choice; runs_is = is ∙ ap (λ b. Ok (runs program limit choice b)) (sym same); ends = ends }
allowed v program limit choice shows is (interrupted w) ends = (shows, record { program = program; limit = limit; choice = choice; runs_is = is; ends = ends })
allowed v program limit choice shows is (differed line w) ends = (shows, record { program = program; limit = limit; choice = choice; runs_is = is; ends = ends })
allowed v program limit choice shows is (explored b found wanted) h = absurd h
allowed v program limit choice shows is (assembled bytes) h = absurd h
allowed v program limit choice shows is (disassembled name commented class) h = absurd h
allowed v program limit choice shows is (answered t) h = absurd h
allowed v program limit choice shows is exhausted h = tt
allowed v program limit choice shows is (turned_away reason) h = absurd h

-- a session begins where its machine does
pub session_begins : {H : Type 0} (v : Verdict) (m : MachineView H) (limit : ℕ) (t : Talk) → v ≡ Ok (debugs m.linked.program limit) → m.content.limit ≡ limit → t.first ≡ session_of (beginning m) → Debugs v t
session_begins v m limit t is limit_is first =
    record { program = m.linked.program; limit = limit; debugs_is = is; first_is = first ∙ ap (λ n. session_of (loaded_world m.linked.program n)) limit_is }
