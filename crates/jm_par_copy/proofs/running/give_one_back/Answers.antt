use Rattle.std.proofs.Common.{Result, Ok, Err, OnOk, refl}
use Rattle.jm_par_copy.specs.declared.copier.Copier.{Copier}
use Rattle.jm_par_copy.proofs.Claiming.{with_stores}
use Rattle.jm_par_copy.proofs.Noting.{back_noting}
use Rattle.jm_par_copy.proofs.running.give_one_back.Goals as goal

pub returns-clause-back : goal.returns-clause-back
returns-clause-back c =
    let was = c.args.copier.now in
    let e = c.give_back.ensures in
    let now : Copier = record { own = with_stores was.own c.give_back.new.to; marks = was.marks; pointing = was.pointing; given = c.give_back.new.given; roots = was.roots; rooted = was.rooted; ended = was.ended; refused = was.refused; stopped = was.stopped; span = was.span; room = was.room } in
    on_any c.give_back.result (record { number = refl; seat = refl; roots = refl; rooted = refl; marks = refl; holds = e.holds; same = e.same; noting = back_noting was now refl refl e.same e.listed e.noted })
  where
    on_any : {X Y : Type 0} {P : Type 0} (r : Result X Y) → P → OnOk r P
    on_any (Ok x) p = p
    on_any (Err e) p = tt
