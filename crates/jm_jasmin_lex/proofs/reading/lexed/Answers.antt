-- At each sign the token that ends there is cut between characters, and the tokens so far are those of the definition.
use Rattle.std.proofs.Common.{◌∙◌, arith}
use Rattle.jm_jasmin_lex.proofs.Cuts.{Ended}
use Rattle.jm_jasmin_lex.proofs.TokensSoFar.{AtSign, so_far_start, at_sign, after_place, after_token, after_bad, after_all, pushed}
use Rattle.jm_jasmin_lex.proofs.reading.lexed.Goals as goal
use Rattle.jm_jasmin_lex.proofs.reading.lexed.Goals.{In-Ends, in-To, in-Ends+in_ok-push-in-Ends}

token_ended : (c : In-Ends) → Ended c.args.text.now c.in-Ends.start c.loop-at.at
token_ended c =
    let here : AtSign c.args.text.now c.loop-at.tokens.items c.loop-at.at c.loop-at.line c.sign_at-sign.result c.step_at.result = at_sign _ _ c.loop-at.state _ _ _ _ _ c.loop-at.invariant c.utf8.text (omega arith) c.as_bytes-bytes.ensures.value c.sign_at-sign.ensures c.step_at.ensures in
    (rw c.in-Ends.is at here).stands

pub loop-at-init : goal.loop-at-init
loop-at-init c = so_far_start c.args.text.now c.utf8.text _ c.new-tokens.ensures.items

pub range-requires-clause-start_le_end : goal.range-requires-clause-start_le_end
range-requires-clause-start_le_end c = let e = token_ended (goal.at.range-requires-clause-start_le_end c).In-Ends in omega (arith, e.begun.before)

pub range-requires-clause-start_boundary : goal.range-requires-clause-start_boundary
range-requires-clause-start_boundary c = λ above. (token_ended (goal.at.range-requires-clause-start_boundary c).In-Ends).begun.cut

pub range-requires-clause-end_boundary : goal.range-requires-clause-end_boundary
range-requires-clause-end_boundary c = (token_ended (goal.at.range-requires-clause-end_boundary c).In-Ends).here

pub returns-in-Bad : goal.returns-in-Bad
returns-in-Bad c =
    let here : AtSign c.args.text.now c.loop-at.tokens.items c.loop-at.at c.loop-at.line c.sign_at-sign.result c.step_at.result = at_sign _ _ c.loop-at.state _ _ _ _ _ c.loop-at.invariant c.utf8.text (omega arith) c.as_bytes-bytes.ensures.value c.sign_at-sign.ensures c.step_at.ensures in
    c.new-in-Bad.ensures ∙ after_bad _ _ _ _ _ (rw c.in-Bad.is at here)

pub loop-at-preserved : goal.loop-at-preserved
loop-at-preserved c =
    let here : AtSign c.args.text.now c.loop-at.tokens.items c.loop-at.at c.loop-at.line c.sign_at-sign.result c.step_at.result = at_sign _ _ c.loop-at.state _ _ _ _ _ c.loop-at.invariant c.utf8.text (omega arith) c.as_bytes-bytes.ensures.value c.sign_at-sign.ensures c.step_at.ensures in
    elim c.match-step_at.branch [
      | in-To w ↦ rw (w.state-is, w.tokens-is) (after_place _ _ _ _ _ _ _ (rw w.in-To.is at here) c.next_line-line.ensures)
      | in-Ends+in_ok-push-in-Ends w ↦ rw w.state-is (after_token _ _ _ _ _ _ _ _ _ (rw w.in-Ends.is at here) (rw w.tokens-is (pushed _ _ _ _ _ _ _ _ _ w.in_ok-push-in-Ends.ensures.items w.new.ensures w.range.ensures.value)) c.next_line-line.ensures)
    ]

pub returns : goal.returns
returns c = c.new-2.ensures ∙ after_all _ _ _ _ _ c.loop-at.invariant (omega arith)
