use Rattle.std.proofs.Common.{◌≡◌, ◌+◌, ◌++◌, ℕ, List, length, sym, ap, subst, ◌∙◌, append_assoc}
use Rattle.std.specs.Int.{w16, to_be_bytes}
use Rattle.std.specs.List.{flat_map}
use Rattle.std.specs.Map.{keys_of}
use Rattle.jm_class_format.specs.declared.constant_pool.Entry.{Entry}
use Rattle.jm_pool.specs.Building.{entry_for, entry_bytes, pool_bytes}
use Rattle.jm_pool.specs.Numbered.{AreFit}
use Rattle.jm_pool.proofs.NumberedPools.{pool_by_constants, all_fit}
use Rattle.jm_pool.proofs.pool_builder.PoolBuilder.write.Goals as goal

pub loop-constant-init : goal.loop-constant-init
unfolding pool_bytes
loop-constant-init c =
    let left : c.into_iter-constant-iterator.result ≡ keys_of c.self.inside.indexes.entries = c.into_iter-constant-iterator.ensures.into_iter_gives ∙ c.keys-constant-items.ensures.rest in
    let bytes : flat_map (λ k. entry_bytes (entry_for k)) c.into_iter-constant-iterator.result ≡ flat_map entry_bytes c.args.self.now =
    ap (flat_map (λ k. entry_bytes (entry_for k))) left ∙ sym (pool_by_constants (keys_of c.self.inside.indexes.entries)) ∙ ap (flat_map entry_bytes) c.self.view_is in
    let count : c.self.inside.taken ≡ length c.args.self.now = c.self.invariant.count ∙ ap (λ (es : List Entry). length es) c.self.view_is in
    let put : c.put_u2.new.out.items ≡ c.args.out.now.items ++ to_be_bytes w16 (length c.args.self.now + 1) =
    c.in_ok-put_u2.ensures.ok ∙ ap (λ (n : ℕ). c.args.out.now.items ++ to_be_bytes w16 (n + 1)) count in
    record {
      written = rw bytes (rw put (append_assoc c.args.out.now.items (to_be_bytes w16 (length c.args.self.now + 1)) (flat_map entry_bytes c.args.self.now)));
      fit = subst AreFit (sym left) (all_fit 1 c.self.inside.indexes.entries c.self.invariant.numbered);
    }
