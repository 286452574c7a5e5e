-- Each subcommand's job, by the function that makes it.
use Rattle.std.proofs.Common.{refl}
use Rattle.jm_command.proofs.asked.command_of.Goals as goal

pub returns-in-Run : goal.returns-in-Run
returns-in-Run c = rw c.in-Run.is (c.run_job.result, c.run_job.ensures, refl)

pub returns-in-Replay : goal.returns-in-Replay
returns-in-Replay c = rw c.in-Replay.is (c.unwrap.result, c.unwrap.ensures, (c.replay_job-job.result, c.replay_job-job.ensures, c.without_record.ensures))

pub returns-in-Explore : goal.returns-in-Explore
returns-in-Explore c = rw c.in-Explore.is (c.explore_job.result, c.explore_job.ensures, c.without_record-in-Explore.ensures)

pub returns-in-Why : goal.returns-in-Why
returns-in-Why c = rw c.in-Why.is (c.told_job.result, c.told_job.ensures, refl)

pub returns-in-Trace : goal.returns-in-Trace
returns-in-Trace c = rw c.in-Trace.is (c.trace_job.result, c.trace_job.ensures, refl)

pub returns-in-Film : goal.returns-in-Film
returns-in-Film c = rw c.in-Film.is (c.film_job.result, c.film_job.ensures, refl)

pub returns-in-Assemble : goal.returns-in-Assemble
returns-in-Assemble c =
    rw c.in-Assemble.is (c.unwrap-in-Assemble.result, c.unwrap-in-Assemble.ensures, (record { text = c.unwrap-in-Assemble.result; output = c.in-Assemble.asked.output }, record { text = refl; output = refl }, c.without_record-in-Assemble.ensures))

pub returns-in-Disassemble : goal.returns-in-Disassemble
returns-in-Disassemble c =
    rw c.in-Disassemble.is (c.unwrap-in-Disassemble.result, c.unwrap-in-Disassemble.ensures, (record { file = c.unwrap-in-Disassemble.result; bare = c.in-Disassemble.asked.bare }, record { file = refl; bare = refl }, c.without_record-in-Disassemble.ensures))

pub returns-in-Debug : goal.returns-in-Debug
returns-in-Debug c =
    rw c.in-Debug.is (record { heap = c.in-Debug.asked.heap; copiers = c.copiers.result; program = c.args.files.program }, record { heap = refl; copiers = c.copiers.ensures; program = refl }, c.without_record-in-Debug.ensures)
