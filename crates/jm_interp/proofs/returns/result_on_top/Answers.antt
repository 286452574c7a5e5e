use Rattle.jm_interp.proofs.OnThread.{read}
use Rattle.jm_interp.proofs.ReturnRow.{method_here, method_within, returns_to}
use Rattle.jm_interp.proofs.returns.result_on_top.Goals as goal

pub kind_of_result-kind-requires : goal.kind_of_result-kind-requires
kind_of_result-kind-requires g c = method_within c.requires (method_here c.requires c.index-thread.ensures c.top_method.ensures c.method.ensures)

pub result_of-requires : goal.result_of-requires
result_of-requires g c = (_, _, _, read c.requires.method.on c.index-thread.ensures)

pub returns : goal.returns
returns g c =
    let on = method_here c.requires c.index-thread.ensures c.top_method.ensures c.method.ensures in
    let kind = c.kind_of_result-kind.ensures in
    returns_to c.requires on kind.1 kind.2 (c.result_of.ensures _ _ _ (read c.requires.method.on c.index-thread.ensures))
