-- The key, and the line.
use Rattle.std.proofs.Common.{◌≡◌, ◌++◌, ◌∷◌, [], ◌∙◌, OnOk, sym, subst}
use Rattle.jm_debug.proofs.Written.{one_line}
use Rattle.jm_debug.specs.Texts.{reference_text}
use Rattle.jm_film.specs.Shown.{pending_sections, section}
use Rattle.jm_film.proofs.threads.put_pending.Goals as goal

pub returns : goal.returns
unfolding reference_text
returns c =
    let line = reference_text c.in-Some.number in
    let text = c.in_ok-text.ensures.ok ∙ sym (one_line line) in
    let put = subst (λ k. OnOk c.put.result (c.put.new.view.items ≡ c.args.view.now.items ++ section k (line ∷ []) ∷ [])) c.in_ok-key.ensures.ok (c.put.ensures (line ∷ []) text) in
    subst (λ o. OnOk c.put.result (c.put.new.view.items ≡ c.args.view.now.items ++ pending_sections c.args.thread o)) (sym c.in-Some.is) put
