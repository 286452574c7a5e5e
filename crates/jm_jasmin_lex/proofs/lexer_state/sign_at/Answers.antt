use Rattle.std.proofs.Common.{sym, ◌∙◌}
use Rattle.jm_jasmin_lex.proofs.SignsOfText.{rest_whole, rest_none, sign_next, sign_end}
use Rattle.jm_jasmin_lex.proofs.lexer_state.sign_at.Goals as goal

pub returns-in-Some : goal.returns-in-Some
returns-in-Some c =
    rw c.sign_of.ensures (sign_next c.args.bytes.now c.args.at _ _ (sym (rest_whole c.args.bytes.now c.args.at) ∙ c.in-Some.ensures.cases.0))

pub returns-in-None : goal.returns-in-None
returns-in-None c = sign_end c.args.bytes.now c.args.at c.requires (rest_none c.args.bytes.now c.args.at c.in-None.ensures.cases)
