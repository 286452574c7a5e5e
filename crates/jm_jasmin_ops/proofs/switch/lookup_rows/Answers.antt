use Rattle.std.proofs.Common.{◌≡◌, ℕ, ◌+◌, length, drop, Ok, sym, ap, ◌∙◌, rules}
use Rattle.std.proofs.lemmas.Result.{err_from_is_err_and}
use Rattle.jm_jasmin_ops.specs.Switches.{lines_of, lookup_step, lookup_rows}
use Rattle.jm_jasmin_ops.specs.declared.row.LookupStep.TheVariants as lookup
use Rattle.jm_jasmin_ops.proofs.Rows.{lookup_more, lookup_done, lookup_fault}
use Rattle.jm_jasmin_ops.proofs.switch.lookup_rows.Goals as goal

pub returns-in_err-more : goal.returns-in_err-more
returns-in_err-more c =
    let p = err_from_is_err_and c.from_residual.result c.from_residual.ensures.1 in
    rw (p.1, p.2) (λ other. sym c.loop-at.invariant.so_far ∙ lookup_fault c.loop-at.last c.loop-at.pairs c.args.words c.loop-at.at c.args.tokens.now c.line_at-row.result.now _ c.loop-at-test.true c.line_at-row.ensures.line (c.in_err-more.ensures other))

pub returns-in-Done : goal.returns-in-Done
returns-in-Done c =
    let step : lookup_step c.loop-at.pairs c.line_at-row.result.now ≡ Ok (lookup.Done c.in-Done.lookup) = rw c.in-Done.is at c.in_ok-more.ensures in
    sym c.loop-at.invariant.so_far ∙ lookup_done c.loop-at.last c.loop-at.pairs c.args.words c.loop-at.at c.args.tokens.now c.line_at-row.result.now c.in-Done.lookup c.loop-at-test.true c.line_at-row.ensures.line step

pub loop-at-preserved : goal.loop-at-preserved
loop-at-preserved c =
    let step : lookup_step c.loop-at.pairs c.line_at-row.result.now ≡ Ok (lookup.More c.in-More.more) = rw c.in-More.is at c.in_ok-more.ensures in
    let more = lookup_more c.loop-at.last c.loop-at.pairs c.args.words c.loop-at.at c.args.tokens.now c.line_at-row.result.now c.in-More.more c.loop-at-test.true c.line_at-row.ensures.line step in
    let number = c.line_number-last.ensures in
    record {
      within = search rules;
      so_far = ap (λ (n : ℕ). lookup_rows n c.in-More.more (c.args.words + (c.loop-at.at + length c.line_at-row.result.now)) (lines_of (drop (c.loop-at.at + length c.line_at-row.result.now) c.args.tokens.now))) number ∙ sym more ∙ c.loop-at.invariant.so_far;
    }
