use Rattle.std.proofs.Common.{inl, inr, arith}
use Rattle.jm_interp.proofs.Initialized.{class_within, own, not_begun_there, skips, waits, refuses}
use Rattle.jm_interp.proofs.OnThread.{numbered}
use Rattle.jm_interp.proofs.initialization.begin.Goals as goal

pub get-requires : goal.get-requires
get-requires g c = class_within c.requires.1 c.args.class (own c.requires.1)

pub overflow_add-at : goal.overflow_add-at
overflow_add-at g c = omega (arith, numbered c.requires.1)

pub returns-in-Done-clause-steps : goal.returns-in-Done-clause-steps
returns-in-Done-clause-steps g c = skips c.requires.1 c.get.ensures 0 (inl c.in-Done.is) c.leave_frame.ensures.does

pub returns-then-owner-at-clause-steps : goal.returns-then-owner-at-clause-steps
returns-then-owner-at-clause-steps g c = waits c.requires.1 c.get.ensures c.in-InProgress.is c.if-owner-at.true

pub returns-else-owner-at-clause-steps : goal.returns-else-owner-at-clause-steps
returns-else-owner-at-clause-steps g c = skips c.requires.1 c.get.ensures _ (inr (c.in-InProgress.is, c.if-owner-at.false)) c.leave_frame-in-InProgress.ensures.does

pub begin_anew-requires : goal.begin_anew-requires
begin_anew-requires g c = (_, c.requires.1, not_begun_there c.requires.1 c.get.ensures c.in-NotBegun.is)

pub leave_frame-requires : goal.leave_frame-requires
leave_frame-requires g c = record { frames = _; pending = _; on = c.requires.1 }

pub leave_frame-requires-in-InProgress : goal.leave_frame-requires-in-InProgress
leave_frame-requires-in-InProgress g c = record { frames = _; pending = _; on = c.requires.1 }

pub refuse_class-requires : goal.refuse_class-requires
refuse_class-requires g c = record { frames = _; pending = _; on = c.requires.1 }

pub returns-in-Failed-clause-steps : goal.returns-in-Failed-clause-steps
returns-in-Failed-clause-steps g c = refuses c.requires.1 c.get.ensures c.in-Failed.is c.refuse_class.ensures.does
