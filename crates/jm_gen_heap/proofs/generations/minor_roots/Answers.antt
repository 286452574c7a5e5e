use Rattle.jm_gen_heap.proofs.Noting.{still_settled}
use Rattle.jm_gen_heap.proofs.generations.minor_roots.Goals as goal

pub returns-in_err-places-clause-still : goal.returns-in_err-places-clause-still
returns-in_err-places-clause-still c = still_settled c.args.tenured.now c.args.pointers.now c.settle.new.self c.in_ok-settle.ensures.ok

pub returns-in_err-add_fields-clause-still : goal.returns-in_err-add_fields-clause-still
returns-in_err-add_fields-clause-still c = still_settled c.args.tenured.now c.args.pointers.now c.settle.new.self c.in_ok-settle.ensures.ok

pub returns-clause-still : goal.returns-clause-still
returns-clause-still c = still_settled c.args.tenured.now c.args.pointers.now c.settle.new.self c.in_ok-settle.ensures.ok
