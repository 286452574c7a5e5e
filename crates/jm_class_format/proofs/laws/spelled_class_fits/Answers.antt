use Rattle.jm_class_format.proofs.Rules.{spelled_fits}
use Rattle.jm_class_format.proofs.laws.spelled_class_fits.Goals as goal

pub returns : goal.returns
returns c bytes class h = spelled_fits bytes class h
