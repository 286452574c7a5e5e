use Rattle.std.proofs.Common.{refl, sym, ◌∙◌, pos, take}
use Rattle.std.proofs.lemmas.Result.{err_from_is_err_and}
use Rattle.std.proofs.lemmas.List.Elements.{All-more, All-same}
use Rattle.std.proofs.lemmas.List.{take_all}
use Rattle.jm_encode.specs.Encoding.{pair_text}
use Rattle.jm_encode.specs.Ranges.{PairInRange}
use Rattle.jm_encode.proofs.Appending.{texts_next, texts_fault}
use Rattle.jm_encode.proofs.switch.put_pairs.Goals as goal

pub returns-in_err-put_pair-clause-given : goal.returns-in_err-put_pair-clause-given
returns-in_err-put_pair-clause-given c =
    let p = err_from_is_err_and c.from_residual.result c.from_residual.ensures.1 in
    rw (p.1, p.2) (λ other. sym c.loop-pair.invariant.so_far ∙ texts_fault (pair_text c.args.starts.now c.args.at) c.loop-pair.out.items c.args.pairs.now c.loop-pair.pair-index _ (record { key = pos 0; target = 0 }) _ c.loop-pair-test.true refl (c.in_err-put_pair.ensures.given other))

pub loop-pair-preserved : goal.loop-pair-preserved
loop-pair-preserved c =
    record {
      so_far = sym (texts_next (pair_text c.args.starts.now c.args.at) c.loop-pair.out.items c.put_pair.new.out.items c.args.pairs.now c.loop-pair.pair-index _ (record { key = pos 0; target = 0 }) c.loop-pair-test.true refl c.in_ok-put_pair.ensures.given) ∙ c.loop-pair.invariant.so_far;
      range = All-more PairInRange c.args.pairs.now c.loop-pair.pair-index (record { key = pos 0; target = 0 }) c.loop-pair-test.true c.loop-pair.invariant.range c.in_ok-put_pair.ensures.range;
    }

pub returns-clause-range : goal.returns-clause-range
returns-clause-range c = All-same PairInRange c.args.pairs.now (take c.loop-pair.pair-index c.args.pairs.now) (sym (take_all c.loop-pair.pair-index c.args.pairs.now c.loop-pair-test.false)) c.loop-pair.invariant.range
