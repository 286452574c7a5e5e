-- The next live thread of the pass, or the first of a new one.
use Rattle.std.proofs.Common.{◌≡◌, ◌+◌, true, false, refl, sym, ap, subst, ◌∙◌, arith, rules}
use Rattle.std.specs.Prelude.{is_some}
use Rattle.jm_events.specs.Passes.{Finds}
use Rattle.jm_events.specs.declared.pass.Pass.{Pass}
use Rattle.jm_events.proofs.Lone.{due_next}
use Rattle.jm_events.proofs.Passes.{knows_anew, knows_further}
use Rattle.jm_events.proofs.Rounds.{all_blocked, in_next_pass, in_pass, no_stop, no_turn, none_live}
use Rattle.jm_events.proofs.turns.TurnsEventsDue.next.Goals as goal

pub returns-in-Some : goal.returns-in-Some
returns-in-Some g c = λ w m knows.
    let t = c.args.self.now in
    let n = c.in-Some.thread in
    let goes = no_stop w.stop (ap is_some (sym (c.stop.ensures w m)) ∙ sym c.is_some.ensures ∙ c.if-is_some.false) in
    let listed = c.in_ok-list.ensures w t.passed (c.threads.ensures w m) knows in
    let found = subst (Finds w t.passed c.first_behind.new.self) c.in-Some.is (c.in_ok-thread.ensures w m listed.0 listed.1).0 in
    due_next w t c.first_behind.new.self t.moved c.take.new.self n c.live.result c.take.result (omega (arith, c.if-self-eq0.false)) goes
    (in_pass w (t.passed + 1) t.moved goes n found.0) found.1 found.2 c.take.ensures.turn (c.live.ensures w m) c.take.ensures.due

pub returns-in-Some-2 : goal.returns-in-Some-2
returns-in-Some-2 g c = λ w m knows.
    let t = c.args.self.now in
    let p = c.first_behind.new.self in
    let n = c.in-Some-2.thread in
    let moved : t.moved ≡ true = search rules in
    let goes = no_stop w.stop (ap is_some (sym (c.stop.ensures w m)) ∙ sym c.is_some.ensures ∙ c.if-is_some.false) in
    let listed = c.in_ok-list.ensures w t.passed (c.threads.ensures w m) knows in
    let searched = c.in_ok-thread.ensures w m listed.0 listed.1 in
    let none = subst (Finds w t.passed p) c.in_default.is searched.0 in
    let again : Pass = record { ahead = c.swap.new.x; behind = c.swap.new.y; known = p.known } in
    let anew = knows_anew w p again t.passed none.1 refl (ap (λ d. d.items) c.swap.ensures.x_after) (ap (λ d. d.items) c.swap.ensures.y_after ∙ none.1) none.2 in
    let found = subst (Finds w 0 c.first_behind-2.new.self) c.in-Some-2.is (c.in_ok-thread-2.ensures w m anew searched.1).0 in
    due_next w t c.first_behind-2.new.self false c.take-in-Some-2.new.self n c.live-in-Some-2.result c.take-in-Some-2.result (omega (arith, c.if-self-eq0.false)) goes
    (in_next_pass w (t.passed + 1) t.moved goes n moved none.0 found.0) found.1 found.2 c.take-in-Some-2.ensures.turn (c.live-in-Some-2.ensures w m) c.take-in-Some-2.ensures.due

pub returns-in-None : goal.returns-in-None
returns-in-None g c = λ w m knows.
    let t = c.args.self.now in
    let p = c.first_behind.new.self in
    let moved : t.moved ≡ true = search rules in
    let goes = no_stop w.stop (ap is_some (sym (c.stop.ensures w m)) ∙ sym c.is_some.ensures ∙ c.if-is_some.false) in
    let listed = c.in_ok-list.ensures w t.passed (c.threads.ensures w m) knows in
    let searched = c.in_ok-thread.ensures w m listed.0 listed.1 in
    let none = subst (Finds w t.passed p) c.in_default.is searched.0 in
    let again : Pass = record { ahead = c.swap.new.x; behind = c.swap.new.y; known = p.known } in
    let anew = knows_anew w p again t.passed none.1 refl (ap (λ d. d.items) c.swap.ensures.x_after) (ap (λ d. d.items) c.swap.ensures.y_after ∙ none.1) none.2 in
    let ended = subst (Finds w 0 c.first_behind-2.new.self) c.in-None.is (c.in_ok-thread-2.ensures w m anew searched.1).0 in (
      no_turn w t (none_live w (t.passed + 1) t.moved goes moved none.0 ended.0),
      no_turn w (record t { moved = false; pass = c.first_behind-2.new.self }) (all_blocked w (t.passed + 1) false goes refl none.0),
      knows_further w c.first_behind-2.new.self 0 t.passed (omega arith) ended.2,
    )
