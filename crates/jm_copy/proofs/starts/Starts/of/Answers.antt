use Rattle.std.proofs.Common.{◌≡◌, ◌+◌, ◌<◌, ◌∷◌, ◌++◌, [], ℕ, subst, arith, ap, length, sym, ◌∙◌}
use Rattle.std.specs.Prelude.{slice_index}
use Rattle.std.proofs.lemmas.List.{length-append}
use Rattle.jm_copy.specs.Numbers.{before, block_counts, list_length}
use Rattle.jm_copy.proofs.Numbering.{before_more, starts_more}
use Rattle.jm_copy.proofs.starts.Starts.of.Goals as goal
use Rattle.jm_values.proofs.Lists.{get_map}

pub loop-number-preserved : goal.loop-number-preserved
loop-number-preserved c =
    let s = c.args.store.now in
    let first = c.args.first in
    let starts = c.loop-number.starts.items in
    let n = c.loop-number.number in
    let invariant = c.loop-number.invariant in
    let pushed : c.push_reserved.new.self.items ≡ starts ++ (first + before n (block_counts s)) ∷ [] = c.push_reserved.ensures.items ∙ ap (λ x. starts ++ x ∷ []) invariant.count in
    let more = before_more (block_counts s) n (length c.block-block.result.now) (get_map list_length s.lists n c.block-block.result.now c.block-block.ensures) in
    record {
      many = omega (arith, ap length pushed, length-append starts ((first + before n (block_counts s)) ∷ []), invariant.many);
      each = subst (λ xs. (b : ℕ) → b < length xs → slice_index xs b ≡ first + before b (block_counts s)) (sym pushed) (starts_more first (block_counts s) starts n invariant.many invariant.each);
      count = omega (arith, invariant.count, c.len-count.ensures.value, more);
      few = omega (arith, invariant.few, c.len-count.ensures.few);
      room = omega (arith, invariant.room, c.push_reserved.ensures.capacity);
    }
