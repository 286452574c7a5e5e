use Rattle.jm_class_format.proofs.Rules.{fits_of, of_fits}
use Rattle.jm_class_format.proofs.laws.fits_is_tested.Goals as goal

pub returns : goal.returns
returns c class = (fits_of class, of_fits class)
