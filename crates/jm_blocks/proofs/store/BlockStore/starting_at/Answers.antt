use Rattle.std.proofs.Common.{◌≡◌, ◌-◌, ◌++◌, [], List, ◌∙◌, ap, sym, subst, length, replicate, arith}
use Rattle.jm_blocks.specs.Objects.{Object}
use Rattle.jm_blocks.specs.Stores.{AreCounted, lists_from}
use Rattle.jm_blocks.proofs.Tallies.{counted_none, counted_open}
use Rattle.jm_blocks.proofs.store.BlockStore.starting_at.Goals as goal

pub invariant_of-result : goal.invariant_of-result
invariant_of-result c =
    let n = c.args.count - 1 in
    let one = c.in_ok-push_empty.ensures.ok ∙ ap (λ (xs : List (List Object)). xs ++ replicate 1 []) c.new-blocks.ensures.items in
    let many : length c.push_empty.new.blocks.items ≡ 1 = ap length one in
    let counted = counted_open (replicate n []) 1 0 (counted_open [] n 0 counted_none) in (
      c.requires.some,
      c.requires.below,
      omega (arith, many, c.requires.few, c.if-count-eq0.false),
      subst (λ xs. AreCounted (lists_from n xs) 0) (sym one) counted,
      c.new-2.ensures,
      record { last = λ h. omega (arith, many); room = c.in_ok-push_empty.ensures.room },
    )
