use Rattle.std.proofs.Common.{◌+◌, ℕ, ap, ◌≡◌, ◌<◌, ◌∙◌, ◌≤◌, ◌^◌, ◌++◌, [], List, arith, sym, subst, length, replicate, length-append}
use Rattle.std.specs.Prelude.{Result, Ok, Err, OnOk, OnErr}
use Rattle.std.proofs.lemmas.List.{length-replicate}
use Rattle.jm_blocks.specs.Objects.{Object}
use Rattle.jm_blocks.specs.Stores.{Blocks, AreCounted, lists_from}
use Rattle.std.proofs.lemmas.Result.{on_ok_weaker, on_err_weaker}
use Rattle.jm_blocks.proofs.Beginning.{length_from, more_from}
use Rattle.jm_blocks.proofs.Tallies.{counted_open}
use Rattle.jm_blocks.proofs.store.BlockStore.open.Goals as goal

-- there is room for all, whether or not there are more
roomy : {T E : Type 0} (r : Result T E) (f n m capacity before : ℕ) → OnOk r (f + n ≤ capacity) → OnErr r (n ≡ m) → before ≤ capacity → f + m ≤ before → f + n ≤ capacity
roomy (Ok x) f n m capacity before ok err grows room = ok
roomy (Err e) f n m capacity before ok err grows room = omega (arith, err, grows, room)

-- what holds of a store's blocks holds with so many more, and of them alone
either : {T E : Type 0} (P : List (List Object) → Type 0) (r : Result T E) (xs ys zs : List (List Object)) → OnOk r (xs ≡ ys) → OnErr r (xs ≡ zs) → P ys → P zs → P xs
either P (Ok x) xs ys zs ok err y z = subst P (sym ok) y
either P (Err e) xs ys zs ok err y z = subst P (sym err) z

pub invariant_of-self : goal.invariant_of-self
invariant_of-self c =
    let f = c.self.inside.first in
    let xs = c.self.inside.blocks.items in
    let more = xs ++ replicate c.args.count [] in
    let many = length-append xs (replicate c.args.count []) in
    let new = length-replicate {A = List Object} c.args.count [] in
    let all = ap (λ (s : Blocks). length s.lists) c.self.view_is in
    let from = length_from f xs in
    let few : f + length more ≤ 2 ^ 49 = omega (arith, many, new, all, from, c.if-count-len.false, c.len.ensures.value, c.self.invariant.2) in
    let ok = c.push_empty.ensures.ok in
    let err = c.push_empty.ensures.err in
    let counted = subst (λ ls. AreCounted ls c.self.inside.cells) (sym (more_from f xs (replicate c.args.count []))) (counted_open (lists_from f xs) c.args.count c.self.inside.cells c.self.invariant.3) in
    let kept = c.self.invariant.5 in
    let last : 0 < f → 0 < length c.push_empty.new.blocks.items = either (λ ls. 0 < f → 0 < length ls) c.push_empty.result c.push_empty.new.blocks.items more xs ok err (λ h. let some = kept.last h in omega (arith, many, some)) kept.last in (
      c.self.invariant.0,
      c.self.invariant.1,
      either (λ ls. f + length ls ≤ 2 ^ 49) c.push_empty.result c.push_empty.new.blocks.items more xs ok err few c.self.invariant.2,
      either (λ ls. AreCounted (lists_from f ls) c.self.inside.cells) c.push_empty.result c.push_empty.new.blocks.items more xs ok err counted c.self.invariant.3,
      c.self.invariant.4,
      record { last = last; room = roomy c.push_empty.result f (length c.push_empty.new.blocks.items) (length xs) _ _ c.push_empty.ensures.room (on_err_weaker c.push_empty.result (ap length) err) c.push_empty.ensures.grows kept.room },
    )

pub returns-clause-ok : goal.returns-clause-ok
returns-clause-ok c = on_ok_weaker c.push_empty.result (λ e. ap (λ ls. record { lane = c.self.inside.lane; lists = lists_from c.self.inside.first ls }) e ∙ ap (λ ls. record { lane = c.self.inside.lane; lists = ls }) (more_from c.self.inside.first c.self.inside.blocks.items (replicate c.args.count [])) ∙ ap (λ (s : Blocks). record { lane = s.lane; lists = s.lists ++ replicate c.args.count [] }) c.self.view_is) c.push_empty.ensures.ok
