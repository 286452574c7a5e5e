use Rattle.std.proofs.Common.{◌≡◌, ◌+◌, ◌++◌, ◌≤◌, ℕ, List, length, sym, ap, ◌∙◌, arith}
use Rattle.std.specs.Map.{keys_of}
use Rattle.jm_class_format.specs.declared.constant_pool.Entry.{Entry}
use Rattle.jm_pool.specs.declared.constant.Constant.{Constant}
use Rattle.jm_pool.specs.Building.{index_among, places}
use Rattle.jm_pool.specs.Numbered.{entries_of}
use Rattle.jm_pool.proofs.NumberedPools.{found_index, pool_more, entries_more}
use Rattle.jm_pool.proofs.pool_builder.PoolBuilder.put.Goals as goal

pub hold-requires : goal.hold-requires
hold-requires c =
    sym (found_index c.args.constant 1 c.self.inside.indexes.entries c.self.invariant.numbered)
    ∙ ap (λ (es : List Entry). index_among 1 es c.args.constant) c.self.view_is
    ∙ c.requires.absent

pub invariant_of-self-2 : goal.invariant_of-self-2
invariant_of-self-2 c =
    let length_is : length (entries_of (keys_of c.self.inside.indexes.entries)) ≡ length c.args.self.now = ap (λ (es : List Entry). length es) c.self.view_is in
    let few : c.self.inside.taken + length (places c.args.constant) ≤ 65534 = omega (arith, c.self.invariant.count, length_is, c.requires.room, c.requires.size) in
    let more = pool_more c.self.inside.indexes.entries c.self.inside.taken c.args.constant c.self.invariant c.requires.fits few in
    rw (c.in_ok-hold.ensures.ok, c.requires.size) more

pub returns-clause-entries : goal.returns-clause-entries
returns-clause-entries c =
    ap (λ (es : List (Constant × ℕ)). entries_of (keys_of es)) c.in_ok-hold.ensures.ok
    ∙ entries_more c.self.inside.indexes.entries c.args.constant (c.self.inside.taken + 1)
    ∙ ap (λ (es : List Entry). es ++ places c.args.constant) c.self.view_is
