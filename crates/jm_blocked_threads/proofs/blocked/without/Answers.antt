-- What is kept is every other number.
use Rattle.std.proofs.Common.{ℕ, rules, ap, ◌∙◌}
use Rattle.std.proofs.lemmas.Fn.{filter_same}
use Rattle.std.specs.List.{filter}
use Rattle.std.specs.Prelude.{not, nat_eq}
use Rattle.jm_blocked_threads.proofs.blocked.without.Goals as goal

pub returns : goal.returns
returns c =
    let kept = filter_same _ (λ (m : ℕ). not (nat_eq m c.args.thread)) _ (λ m b f called. search rules) _ _ c.retain.ensures.filtered in
    kept ∙ ap (filter (λ (m : ℕ). not (nat_eq m c.args.thread))) c.in_ok-left.ensures.items
