use Rattle.std.proofs.Common.{◌≡◌, ◌-◌, ◌++◌, ◌∷◌, [], ◌∙◌, ap, sym, subst, take, length, arith}
use Rattle.jm_blocks.specs.Spelled.{spelled, entry_object, IsBlock}
use Rattle.jm_blocks.proofs.Spelling.{length_spelled}
use Rattle.jm_blocks.proofs.Popping.{IsPopped, last_apart, popped}
use Rattle.jm_blocks.proofs.contents.Contents.pop.Goals as goal

split : (c : goal.After-truncate-2) → c.self.inside.entries.items ≡ take (c.len-last.result - 1) c.self.inside.entries.items ++ c.index.result.now ∷ []
split c =
    let some = length_spelled c.self.inside.entries.items c.self.inside.values in
    let seen = ap length c.self.view_is in
    last_apart c.self.inside.entries.items (c.len-last.result - 1) c.index.result.now (omega (arith, c.len-last.ensures, c.self.inside.entries.ok.0, c.requires, some, seen)) c.index.ensures

without : (c : goal.After-truncate-2) → IsPopped (take (c.len-last.result - 1) c.self.inside.entries.items) c.index.result.now c.self.inside.values c.self.inside.cells
without c = popped (take (c.len-last.result - 1) c.self.inside.entries.items) c.index.result.now c.self.inside.values c.self.inside.cells (subst (λ es. IsBlock es c.self.inside.values c.self.inside.cells) (split c) c.self.invariant)

pub invariant_of-self : goal.invariant_of-self
invariant_of-self c = rw (c.truncate.ensures.items, c.truncate-2.ensures, c.kind.ensures, c.start.ensures, c.size.ensures, c.header.ensures, c.length.ensures.value) (without c).block

pub returns : goal.returns
returns c =
    let seen = sym c.self.view_is ∙ ap (λ es. spelled es c.self.inside.values) (split c) ∙ (without c).objects in
    rw (c.truncate.ensures.items, c.truncate-2.ensures, c.kind.ensures, c.start.ensures) (entry_object c.self.inside.values c.index.result.now, seen, (without c).room)
