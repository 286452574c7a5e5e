use Rattle.jm_gen_heap.proofs.CountingResidents.{first_nursery}
use Rattle.jm_gen_heap.proofs.copying.take_survivors.Goals as goal

pub returns-clause-young : goal.returns-clause-young
returns-clause-young c = first_nursery c.args.young.items c.args.survivors.young c.requires.nurseries c.requires.none c.requires.lane
