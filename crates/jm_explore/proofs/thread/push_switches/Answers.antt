-- None is left, or each live thread has a branch.
use Rattle.std.proofs.Common.{◌≡◌, ◌<◌, ℕ, arith, subst, sym}
use Rattle.jm_explore.specs.Branches.{Leaves}
use Rattle.jm_explore.specs.Switches.{other_than}
use Rattle.jm_explore.proofs.Offers.{leaves_none, leaves_switches}
use Rattle.jm_explore.proofs.thread.push_switches.Goals as goal

pub returns-then-left-eq0 : goal.returns-then-left-eq0
returns-then-left-eq0 g c = λ w m. subst (λ n. Leaves w (other_than c.args.thread) n c.args.behind c.args.thread c.args.todo.now.items c.args.todo.now.items) (sym c.if-left-eq0.true)
    (leaves_none w c.args.behind c.args.thread c.args.todo.now.items)

some_left : (n : ℕ) → (n ≡ 0 → ⊥) → 0 < n
some_left n other = grind (arith, other)

pub returns : goal.returns
returns g c = λ w m. leaves_switches w c.args.behind c.args.left c.args.thread c.args.todo.now.items c.push_live.new.todo.items (some_left c.args.left c.if-left-eq0.false) (c.in_ok-push_live.ensures w m)
