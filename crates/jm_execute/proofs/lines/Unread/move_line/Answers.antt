-- Up to the first line feed, or all.
use Rattle.std.proofs.Common.{◌≡◌, sym, ap, ◌∙◌, drop, length}
use Rattle.jm_execute.proofs.LineLemmas.{all_moved, line_moved}
use Rattle.jm_execute.proofs.lines.Unread.move_line.Goals as goal
use Rattle.jm_jasmin_lex.proofs.SignsOfText.{rest_whole}

pub returns-in_ok-extend_from_slice-in-Some : goal.returns-in_ok-extend_from_slice-in-Some
returns-in_ok-extend_from_slice-in-Some c =
    let view : drop c.self.inside.at c.self.inside.bytes.items ≡ c.args.self.now = c.self.view_is in
    let part = rest_whole c.deref.result.now c.self.inside.at ∙ ap (drop c.self.inside.at) c.deref.ensures.value ∙ view in
    line_moved c.self.inside.bytes.items c.self.inside.at c.in-Some.count _ _ _ _ part view (sym c.line_feed_in.ensures ∙ c.in-Some.is) c.in_ok-extend_from_slice-in-Some.ensures.items

pub returns-in_ok-extend_from_slice-in-None : goal.returns-in_ok-extend_from_slice-in-None
returns-in_ok-extend_from_slice-in-None c =
    let view : drop c.self.inside.at c.self.inside.bytes.items ≡ c.args.self.now = c.self.view_is in
    let part = rest_whole c.deref.result.now c.self.inside.at ∙ ap (drop c.self.inside.at) c.deref.ensures.value ∙ view in
    let end = c.len-self-inside.ensures ∙ sym c.deref.ensures.len ∙ ap length c.deref.ensures.value in
    all_moved c.self.inside.bytes.items _ _ _ _ _ part (sym c.line_feed_in.ensures ∙ c.in-None.is) end c.in_ok-extend_from_slice-in-None.ensures.items
