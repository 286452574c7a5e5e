-- The line is made once.
use Rattle.std.proofs.Common.{◌++◌, ◌∙◌, List, ap, arith, refl, ℕ}
use Rattle.jm_shared.specs.Stretches.{entry_in}
use Rattle.jm_shared.proofs.Records.{line_more, one_writes}
use Rattle.jm_shared.proofs.record.RecordText.add.Goals as goal

pub loop-preserved : goal.loop-preserved
loop-preserved c =
    let so = c.loop.invariant in
    let low = so.0 in
    let more = c.loop-test.true in (
      omega (arith, low),
      omega (arith, low, more),
      line_more _ _ (entry_in c.args.stretch.now) c.args.self.now.bytes.items c.loop.self.bytes.items c.extend_from_slice.new.self.items (omega (arith, low)) so.2
          (c.in_ok-extend_from_slice.ensures.items ∙ ap (λ (t : List ℕ). c.loop.self.bytes.items ++ t) (c.as_bytes.ensures.value ∙ c.deref.ensures.0 ∙ c.line_of-line.ensures.line)),
    )

pub returns : goal.returns
returns c =
    let few = c.loop.invariant.1 in
    let past = c.loop-test.false in
    one_writes c.args.stretch.now c.args.self.now.bytes.items c.loop.self.bytes.items c.args.self.now.turns _ _ (omega (arith, few, past)) c.line_of-line.ensures.thread refl c.loop.invariant.2
