use Rattle.std.proofs.Common.{arith}
use Rattle.jm_machine.proofs.Chars.{first_filled, last_filled, element_there, element_fits, element_set}
use Rattle.jm_machine.proofs.first_objects.set_units.Goals as goal

pub loop-index-init : goal.loop-index-init
loop-index-init g c = first_filled _ c.args.roots.now c.args.text.now

pub set-requires-clause-there : goal.set-requires-clause-there
set-requires-clause-there g c = element_there _ _ _ _ _ _ _ c.requires.last c.loop-index.invariant c.len.ensures c.get-chars.ensures c.loop-index-test.true

pub set-requires-clause-fits : goal.set-requires-clause-fits
set-requires-clause-fits g c k o =
    element_fits _ _ _ _ _ _ _ c.requires.last c.loop-index.invariant c.len.ensures c.get-chars.ensures c.loop-index-test.true
    _ c.char_value.ensures.fits k o

pub loop-index-preserved : goal.loop-index-preserved
loop-index-preserved g c =
    element_set _ _ _ _ _ _ _ c.requires.last c.loop-index.invariant c.len.ensures c.get-chars.ensures c.loop-index-test.true
    _ _ c.char_value.ensures.value c.in_ok-set.ensures.ok

pub returns : goal.returns
returns g c = last_filled _ _ _ _ _ (let past = c.loop-index-test.false in let within = c.loop-index.auto.index-end in omega arith) c.loop-index.invariant
