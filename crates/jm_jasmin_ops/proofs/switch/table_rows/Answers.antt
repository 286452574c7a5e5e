use Rattle.std.proofs.Common.{◌≡◌, ℕ, ℤ, [], ◌+◌, length, drop, sym, ap, ◌∙◌, rules}
use Rattle.std.proofs.lemmas.Result.{err_from_is_err_and}
use mir.Val.{to_z, of_z}
use mir.Facts.{to_z-of_z}
use mir.Syntax.{w32}
use Rattle.jm_jasmin_ops.specs.Switches.{lines_of, table_rows}
use Rattle.jm_jasmin_ops.proofs.Rows.{table_more, table_done, table_fault}
use Rattle.jm_jasmin_ops.proofs.switch.table_rows.Goals as goal

pub returns-in_err-more : goal.returns-in_err-more
returns-in_err-more c =
    let low_is : c.args.low ≡ to_z w32 (of_z w32 c.args.low) = sym (to_z-of_z c.ranges.low) in
    let first = ap (λ (z : ℤ). table_rows z c.args.line [] c.args.words (lines_of c.args.tokens.now)) low_is in
    let p = err_from_is_err_and c.from_residual.result c.from_residual.ensures.1 in
    rw (p.1, p.2) (λ other. first ∙ sym c.loop-at.invariant.so_far ∙ table_fault _ c.loop-at.last c.loop-at.targets c.args.words c.loop-at.at c.args.tokens.now c.line_at-row.result.now _ c.loop-at-test.true c.line_at-row.ensures.line (c.in_err-more.ensures other))

pub returns-in-Done : goal.returns-in-Done
returns-in-Done c =
    let low_is : c.args.low ≡ to_z w32 (of_z w32 c.args.low) = sym (to_z-of_z c.ranges.low) in
    let first = ap (λ (z : ℤ). table_rows z c.args.line [] c.args.words (lines_of c.args.tokens.now)) low_is in
    let step = rw c.in-Done.is at c.in_ok-more.ensures in
    first ∙ sym c.loop-at.invariant.so_far ∙ table_done _ c.loop-at.last c.loop-at.targets c.args.words c.loop-at.at c.args.tokens.now c.line_at-row.result.now c.in-Done.table c.loop-at-test.true c.line_at-row.ensures.line step

pub loop-at-preserved : goal.loop-at-preserved
loop-at-preserved c =
    let step = rw c.in-More.is at c.in_ok-more.ensures in
    let more = table_more _ c.loop-at.last c.loop-at.targets c.args.words c.loop-at.at c.args.tokens.now c.line_at-row.result.now c.in-More.more c.loop-at-test.true c.line_at-row.ensures.line step in
    let number = c.line_number-last.ensures in
    record {
      within = search rules;
      so_far = ap (λ (n : ℕ). table_rows (to_z w32 (of_z w32 c.args.low)) n c.in-More.more (c.args.words + (c.loop-at.at + length c.line_at-row.result.now)) (lines_of (drop (c.loop-at.at + length c.line_at-row.result.now) c.args.tokens.now))) number ∙ sym more ∙ c.loop-at.invariant.so_far;
    }
