use Rattle.std.proofs.Common.{ap, sym, subst, ◌∙◌, drop, length, rules}
use Rattle.std.specs.Prelude.{flat_map}
use Rattle.std.specs.Slice.Iter.{iter_rest}
use Rattle.jm_values.specs.Shape.{list_refill}
use Rattle.jm_monitors.specs.HeldMonitors.{held_shape}
use Rattle.jm_monitors.specs.Entries.{held_of}
use Rattle.jm_monitors.specs.contracts.monitors.fn.Monitors.put_places.retain as closure
use Rattle.jm_monitors.proofs.Counted.{AreCounted, in_order}
use Rattle.jm_monitors.proofs.Moving.{all_moved, refilled_counted, one_reference_each}
use Rattle.jm_monitors.proofs.monitors.Monitors.put_places.Goals as goal

pub invariant_of-self : goal.invariant_of-self
invariant_of-self c =
    let moved = all_moved _ (λ f. iter_rest (closure.captures f).moved) (λ f k v b w f' t. search rules) _ c.self.inside.held.entries c.retain.new.self.entries c.retain.ensures.filtered in
    in_order c.retain.new.self.entries c.retain.ensures.ordered (subst AreCounted (sym moved) (refilled_counted (iter_rest c.iter-moved.result) (held_of c.self.inside.held.entries) c.self.invariant.counted))

pub returns-clause-monitors : goal.returns-clause-monitors
returns-clause-monitors c =
    let moved = all_moved _ (λ f. iter_rest (closure.captures f).moved) (λ f k v b w f' t. search rules) _ c.self.inside.held.entries c.retain.new.self.entries c.retain.ensures.filtered in
    moved ∙ ap (λ ns. list_refill held_shape ns (held_of c.self.inside.held.entries)) (c.iter-moved.ensures.rest ∙ c.as_slice-all.ensures.value) ∙ ap (list_refill held_shape (iter_rest c.args.places.now)) c.self.view_is

pub returns-clause-left : goal.returns-clause-left
returns-clause-left c =
    c.iter.ensures.rest ∙ c.beyond.ensures ∙ ap (drop c.len-count.result) c.as_slice-all.ensures.value
    ∙ ap (λ n. drop n (iter_rest c.args.places.now)) (c.len-count.ensures.len ∙ one_reference_each c.self.inside.held.entries ∙ ap (λ hs. length (flat_map held_shape.refs hs)) c.self.view_is)
