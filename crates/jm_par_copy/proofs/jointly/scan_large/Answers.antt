use Rattle.std.proofs.Common.{◌∙◌, rules, inr, ap, subst, length}
use Rattle.std.proofs.lemmas.Result.{on_ok_weaker}
use Rattle.jm_par_copy.specs.Copiers.{NoneRefused}
use Rattle.jm_par_copy.specs.Spans.{IsPutLarge, spans_of}
use Rattle.jm_par_copy.proofs.Ends.{round_seats}
use Rattle.jm_par_copy.proofs.Joined.{spans_joined}
use Rattle.jm_par_copy.proofs.Redealing.{keep_seats}
use Rattle.jm_par_copy.proofs.jointly.scan_large.Goals as goal

pub returns-in_default-clause-seats : goal.returns-in_default-clause-seats
returns-in_default-clause-seats g c = keep_seats c.args.copiers.now.items

pub returns-then-not-none_refused-clause-seats : goal.returns-then-not-none_refused-clause-seats
returns-then-not-none_refused-clause-seats g c = round_seats c.args.round.now.from.stores.now c.args.round.now.from.roots.now c.args.copiers.now.items c.make_spans_of_all.new.copiers.items c.make_spans_of_all.ensures.rounds

pub returns-in_err-all-clause-seats : goal.returns-in_err-all-clause-seats
returns-in_err-all-clause-seats g c = round_seats c.args.round.now.from.stores.now c.args.round.now.from.roots.now c.args.copiers.now.items c.make_spans_of_all.new.copiers.items c.make_spans_of_all.ensures.rounds

pub put_references-requires-clause-array : goal.put_references-requires-clause-array
put_references-requires-clause-array g c =
    let none : NoneRefused c.make_spans_of_all.new.copiers.items = search rules in
    let all = spans_joined c.args.round.now.from.stores.now c.in-Some.references.now c.in_ok-all.all.items c.make_spans_of_all.new.copiers.items (c.make_spans_of_all.ensures.spans none) (c.in_ok-all.ensures ∙ ap spans_of c.as_slice-2.ensures.value) in
    let large = c.in-Some.ensures in
    (large.0, c.in-Some.references.now, large.1, large.2, ap length c.as_slice-3.ensures.value ∙ all.many, large.3)

pub returns-clause-ok : goal.returns-clause-ok
returns-clause-ok g c =
    let none : NoneRefused c.make_spans_of_all.new.copiers.items = search rules in
    let large = c.in-Some.ensures in
    let all = spans_joined c.args.round.now.from.stores.now c.in-Some.references.now c.in_ok-all.all.items c.make_spans_of_all.new.copiers.items (c.make_spans_of_all.ensures.spans none) (c.in_ok-all.ensures ∙ ap spans_of c.as_slice-2.ensures.value) in
    let qs = c.in_ok-all.all.items in
    on_ok_weaker c.put_references.result (λ w. inr (c.make_spans_of_all.ensures.rounds, none, (c.in-Some.references.now, qs, subst (λ xs. IsPutLarge c.args.piece.now c.put_references.new.piece c.in-Some.references.now xs) c.as_slice-3.ensures.value (w large.0 c.in-Some.references.now large.1), all))) c.put_references.ensures.ok

pub returns-clause-seats : goal.returns-clause-seats
returns-clause-seats g c = round_seats c.args.round.now.from.stores.now c.args.round.now.from.roots.now c.args.copiers.now.items c.make_spans_of_all.new.copiers.items c.make_spans_of_all.ensures.rounds
