-- The subcommand of a name.
use Rattle.jm_options.proofs.Finding.{none_found, other_name, finds_run, finds_replay, finds_exploration, finds_checking, finds_reason, finds_trace, finds_film, finds_assembly, finds_disassembly, finds_debugger, finds_explanation}
use Rattle.jm_options.proofs.words.named_options.Goals as goal

pub returns-in-run : goal.returns-in-run
returns-in-run c = finds_run _ _ c.run_options.result c.map.result c.in-run.is c.run_options.ensures c.map.ensures.cases

pub returns-in-replay : goal.returns-in-replay
returns-in-replay c = finds_replay _ _ c.replay_options.result c.map-in-replay.result c.in-replay.is c.replay_options.ensures c.map-in-replay.ensures.cases

pub returns-in-explore : goal.returns-in-explore
returns-in-explore c = finds_exploration _ _ c.explore_options.result c.map-in-explore.result c.in-explore.is c.explore_options.ensures c.map-in-explore.ensures.cases

pub returns-in-check : goal.returns-in-check
returns-in-check c = finds_checking _ _ c.check_options.result c.map-in-check.result c.in-check.is c.check_options.ensures c.map-in-check.ensures.cases

pub returns-in-why : goal.returns-in-why
returns-in-why c = finds_reason _ _ c.serial_run.result c.map-in-why.result c.in-why.is c.serial_run.ensures c.map-in-why.ensures.cases

pub returns-in-trace : goal.returns-in-trace
returns-in-trace c = finds_trace _ _ c.trace_options.result c.map-in-trace.result c.in-trace.is c.trace_options.ensures c.map-in-trace.ensures.cases

pub returns-in-film : goal.returns-in-film
returns-in-film c = finds_film _ _ c.film_options.result c.map-in-film.result c.in-film.is c.film_options.ensures c.map-in-film.ensures.cases

pub returns-in-asm : goal.returns-in-asm
returns-in-asm c = finds_assembly _ _ c.assemble_options.result c.map-in-asm.result c.in-asm.is c.assemble_options.ensures c.map-in-asm.ensures.cases

pub returns-in-dis : goal.returns-in-dis
returns-in-dis c = finds_disassembly _ _ c.disassemble_options.result c.map-in-dis.result c.in-dis.is c.disassemble_options.ensures c.map-in-dis.ensures.cases

pub returns-in-debug : goal.returns-in-debug
returns-in-debug c = finds_debugger _ _ c.debug_options.result c.map-in-debug.result c.in-debug.is c.debug_options.ensures c.map-in-debug.ensures.cases

pub returns-in-explain : goal.returns-in-explain
returns-in-explain c = finds_explanation _ _ c.explain_options.result c.map-in-explain.result c.in-explain.is c.explain_options.ensures c.map-in-explain.ensures.cases

pub returns-in-version : goal.returns-in-version
returns-in-version c = record { named = c.in-version.is; held = tt }

pub returns-in_default : goal.returns-in_default
returns-in_default c = none_found _ _ (other_name _ _ c.in_default.not-run c.in_default.not-replay c.in_default.not-explore c.in_default.not-check c.in_default.not-why c.in_default.not-trace c.in_default.not-film c.in_default.not-asm
    c.in_default.not-dis c.in_default.not-debug c.in_default.not-explain c.in_default.not-version)
