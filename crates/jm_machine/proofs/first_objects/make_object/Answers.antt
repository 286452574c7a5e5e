use Rattle.jm_machine.proofs.Holding.{all_resident, not_full, not_at_end, added}
use Rattle.jm_machine.proofs.first_objects.make_object.Goals as goal

pub allocate-requires-clause-sound : goal.allocate-requires-clause-sound
allocate-requires-clause-sound g c = c.requires.holds.sound

pub allocate-requires-clause-resident : goal.allocate-requires-clause-resident
allocate-requires-clause-resident g c = all_resident _ _ _ c.requires.holds

pub unreachable-requires : goal.unreachable-requires
unreachable-requires g c = not_full _ _ _ c.requires _ c.in-Err-HeapFull.field-0-is c.in-Err-HeapFull.ensures.err

pub unreachable-requires-in-Err-SerialsEnd : goal.unreachable-requires-in-Err-SerialsEnd
unreachable-requires-in-Err-SerialsEnd g c = not_at_end _ _ _ c.requires _ c.in-Err-SerialsEnd.field-0-is c.in-Err-SerialsEnd.ensures.err

pub returns : goal.returns
returns g c = added _ _ _ _ _ _ _ c.in-Ok.ensures.ok c.in_ok-push.ensures.ok
