use Rattle.std.proofs.Common.{rules, sym, subst, arith}
use Rattle.jm_program.proofs.Sequences.{put_back}
use Rattle.jm_par_copy.specs.Round.{AreReady, AreRound}
use Rattle.jm_par_copy.proofs.Ends.{round_many}
use Rattle.jm_par_copy.proofs.running.make_round_of_all.Goals as goal

pub make_rounds-requires-clause-ready : goal.make_rounds-requires-clause-ready
make_rounds-requires-clause-ready g c =
    let ready : AreReady c.args.round.now.from.stores.now c.args.round.now.from.roots.now c.args.round.now.words.now c.as_mut_slice.result.now = subst (λ cs. AreReady c.args.round.now.from.stores.now c.args.round.now.from.roots.now c.args.round.now.words.now cs) (sym c.as_mut_slice.ensures.value) c.requires.ready in
    search (rules, ready)

pub returns-then-threads : goal.returns-then-threads
returns-then-threads g c =
    let was = subst (λ cs. AreRound c.args.round.now.from.stores.now c.args.round.now.from.roots.now cs c.make_rounds.new.copiers) c.as_mut_slice.ensures.value c.make_rounds.ensures in
    let many = round_many c.args.round.now.from.stores.now c.args.round.now.from.roots.now c.args.copiers.now.items c.make_rounds.new.copiers was in
    let len = c.args.copiers.now.ok.0 in
    subst (λ cs. AreRound c.args.round.now.from.stores.now c.args.round.now.from.roots.now c.args.copiers.now.items cs) (sym (put_back c.args.copiers.now.items c.make_rounds.new.copiers c.args.copiers.now.len (omega (arith, many, len)))) was

pub returns : goal.returns
returns g c =
    let was = subst (λ cs. AreRound c.args.round.now.from.stores.now c.args.round.now.from.roots.now cs c.make_rounds_here.new.copiers) c.as_mut_slice-2.ensures.value c.make_rounds_here.ensures in
    let many = round_many c.args.round.now.from.stores.now c.args.round.now.from.roots.now c.args.copiers.now.items c.make_rounds_here.new.copiers was in
    let len = c.args.copiers.now.ok.0 in
    subst (λ cs. AreRound c.args.round.now.from.stores.now c.args.round.now.from.roots.now c.args.copiers.now.items cs) (sym (put_back c.args.copiers.now.items c.make_rounds_here.new.copiers c.args.copiers.now.len (omega (arith, many, len)))) was
