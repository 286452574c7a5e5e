use Rattle.jm_par_copy.proofs.Redealt.{deal_keeps_all}
use Rattle.jm_par_copy.proofs.law.dealing_keeps.Goals as goal

pub returns : goal.returns
returns c = deal_keeps_all
