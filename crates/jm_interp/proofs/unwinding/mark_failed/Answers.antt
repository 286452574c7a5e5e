use Rattle.std.proofs.Common.{refl}
use Rattle.jm_interp.proofs.Initialized.{class_within, marked}
use Rattle.jm_interp.proofs.unwinding.mark_failed.Goals as goal

pub fail-requires : goal.fail-requires
fail-requires g c = class_within c.requires.0.on c.args.class c.requires.1

pub returns-clause-does : goal.returns-clause-does
returns-clause-does g c = marked c.requires.0.on c.args.class c.requires.1 refl refl refl refl refl refl refl c.fail.ensures refl refl
