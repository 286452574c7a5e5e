-- The text, or want of memory for it.
use Rattle.std.proofs.Common.{inl, inr, refl, ◌∙◌}
use Rattle.jm_execute.specs.Endings.{exhausted}
use Rattle.jm_execute.proofs.Telling.{untouched_told}
use Rattle.jm_execute.proofs.exploring.tell_found.Goals as goal

pub returns-in-Ok : goal.returns-in-Ok
returns-in-Ok g c = inl (c.tell_explored.ensures c.args.bounds (c.deref.ensures.value ∙ c.in-Ok.ensures))

pub returns-in-Err : goal.returns-in-Err
returns-in-Err g c = inr (untouched_told _ _ exhausted _ _ _ _ c.requires.out refl c.tell_exhausted.ensures)
