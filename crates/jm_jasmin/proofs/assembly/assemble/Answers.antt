use Rattle.jm_jasmin.proofs.Denoted.{denoted_fits}
use Rattle.jm_jasmin.proofs.assembly.assemble.Goals as goal

pub returns-clause-fits : goal.returns-clause-fits
returns-clause-fits c = denoted_fits c.args.text.now

pub returns-in_err-parts-clause-fits : goal.returns-in_err-parts-clause-fits
returns-in_err-parts-clause-fits c = denoted_fits c.args.text.now
