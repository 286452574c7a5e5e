use Rattle.std.proofs.Common.{sym, subst, arith, length, ◌<◌}
use Rattle.jm_program.proofs.Sequences.{put_back}
use Rattle.jm_par_copy.specs.Copiers.{NoneRefused}
use Rattle.jm_par_copy.specs.Round.{AreReady, AreRound}
use Rattle.jm_par_copy.specs.Spans.{AreSpans}
use Rattle.jm_par_copy.proofs.Ends.{round_many}
use Rattle.jm_par_copy.proofs.jointly.make_spans_of_all.Goals as goal

pub make_spans-requires-clause-some : goal.make_spans-requires-clause-some
make_spans-requires-clause-some g c κs within = subst (λ cs. 0 < length cs) (sym c.as_mut_slice.ensures.value) c.requires.some

pub make_spans-requires-clause-ready : goal.make_spans-requires-clause-ready
make_spans-requires-clause-ready g c κs within = subst (λ cs. AreReady c.args.round.now.from.stores.now c.args.round.now.from.roots.now c.args.round.now.words.now cs) (sym c.as_mut_slice.ensures.value) c.requires.ready

pub returns-clause-rounds : goal.returns-clause-rounds
returns-clause-rounds g c =
    let was = subst (λ cs. AreRound c.args.round.now.from.stores.now c.args.round.now.from.roots.now cs c.make_spans.new.copiers) c.as_mut_slice.ensures.value c.make_spans.ensures.rounds in
    let many = round_many c.args.round.now.from.stores.now c.args.round.now.from.roots.now c.args.copiers.now.items c.make_spans.new.copiers was in
    let len = c.args.copiers.now.ok.0 in
    subst (λ cs. AreRound c.args.round.now.from.stores.now c.args.round.now.from.roots.now c.args.copiers.now.items cs) (sym (put_back c.args.copiers.now.items c.make_spans.new.copiers c.args.copiers.now.len (omega (arith, many, len)))) was

pub returns-clause-spans : goal.returns-clause-spans
returns-clause-spans g c =
    let was = subst (λ cs. AreRound c.args.round.now.from.stores.now c.args.round.now.from.roots.now cs c.make_spans.new.copiers) c.as_mut_slice.ensures.value c.make_spans.ensures.rounds in
    let many = round_many c.args.round.now.from.stores.now c.args.round.now.from.roots.now c.args.copiers.now.items c.make_spans.new.copiers was in
    let len = c.args.copiers.now.ok.0 in
    subst (λ cs. NoneRefused cs → AreSpans c.args.round.now.from.stores.now c.args.references.now cs) (sym (put_back c.args.copiers.now.items c.make_spans.new.copiers c.args.copiers.now.len (omega (arith, many, len)))) c.make_spans.ensures.spans
