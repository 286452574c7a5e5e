use Rattle.std.proofs.Common.{ap, arith}
use Rattle.std.specs.Prelude.{None, reverse}
use Rattle.jm_interp.proofs.Ended.{ends, one_lives}
use Rattle.jm_interp.specs.Standing.{ThreadRest}
use Rattle.jm_interp.proofs.OnThread.{read}
use Rattle.jm_interp.proofs.ending.end_thread.Goals as goal

pub overflow_sub-state : goal.overflow_sub-state
overflow_sub-state g c = let lives = one_lives c.requires.2 in omega arith

pub returns-clause-ends : goal.returns-clause-ends
returns-clause-ends g c =
    let lives = one_lives c.requires.2 in
    ends c.requires.2 _ (record {
      frames_are =
          ap reverse c.clear.ensures.items;
      rest_is = ap (λ (r : ThreadRest). record { object = r.object; pending = None; ending = c.args.ending })
          (read c.requires.2 c.index_mut-thread.ensures.value).rest_is;
    }) c.requires.3 (omega arith)
