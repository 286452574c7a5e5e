use Rattle.jm_interp.proofs.OnThread.{within, read}
use Rattle.jm_interp.proofs.ReturnRow.{last_returns, on_two, handed_on}
use Rattle.jm_interp.proofs.returns.hand_on.Goals as goal

pub returns-then-len-lt2-clause-hands : goal.returns-then-len-lt2-clause-hands
returns-then-len-lt2-clause-hands g c =
    last_returns c.requires.here c.args.value c.requires.held c.index.ensures c.len.ensures c.if-len-lt2.true c.end_thread.ensures.ends

pub index_mut-requires : goal.index_mut-requires
index_mut-requires g c = within c.requires.here.on

pub leave_top-requires : goal.leave_top-requires
leave_top-requires g c =
    (_, _, _, _, read (on_two c.requires.here c.args.value c.requires.held c.index.ensures c.len.ensures c.if-len-lt2.false) c.index_mut.ensures.value)

pub returns-clause-hands : goal.returns-clause-hands
returns-clause-hands g c =
    handed_on c.requires.here c.args.value c.requires.held c.index.ensures c.len.ensures c.if-len-lt2.false _ c.index_mut.ensures.value
    c.leave_top.result c.leave_top.ensures
