-- The first one ahead is the one that is looked for, or its turn is over, or it has ended.
use Rattle.std.proofs.Common.{◌≡◌, ℕ, List, [], ◌∷◌, refl, sym, ◌∙◌, arith, rules}
use Rattle.std.proofs.lemmas.Grind.{common_steps}
use Rattle.jm_events.specs.declared.pass.Pass.{Pass}
use Rattle.jm_events.proofs.Passes.{found, found_none, knows_dropped, knows_moved}
use Rattle.jm_events.proofs.pass.Pass.first_behind.Goals as goal

pub loop-thread-preserved-then-thread-passed : goal.loop-thread-preserved-then-thread-passed
loop-thread-preserved-then-thread-passed g c =
    let old : Pass = c.loop-thread.self in
    let new : Pass = record { ahead = c.pop_front-passed.new.self; behind = c.push_back.new.self; known = old.known } in
    let first : (rest : List ℕ) × (c.loop-thread.self.ahead.items ≡ c.in-Some.thread ∷ rest) = first_of (search rules, grind (arith, common_steps)) in
    record {
      known = c.loop-thread.invariant.known;
      knows = λ w m knows.
          knows_moved w old new c.args.passed c.in-Some.thread first.0 first.1 refl c.pop_front-passed.ensures.rest (c.loop-thread.invariant.knows w m knows)
          c.if-thread-passed.true c.in_ok-push_back.ensures.items;
    }

pub returns-then-is_live : goal.returns-then-is_live
returns-then-is_live g c = λ w m knows all.
    let first : (rest : List ℕ) × (c.loop-thread.self.ahead.items ≡ c.in-Some.thread ∷ rest) = first_of (search rules, grind (arith, common_steps)) in (
      found w c.loop-thread.self c.args.passed c.in-Some.thread first.0 first.1 (omega (arith, c.if-thread-passed.false)) (sym (c.is_live.ensures w m) ∙ c.if-is_live.true)
          (c.loop-thread.invariant.knows w m knows),
      c.loop-thread.invariant.known ∙ all,
    )

pub loop-thread-preserved : goal.loop-thread-preserved
loop-thread-preserved g c =
    let old : Pass = c.loop-thread.self in
    let new : Pass = record { ahead = c.pop_front-ended.new.self; behind = old.behind; known = old.known } in
    let first : (rest : List ℕ) × (c.loop-thread.self.ahead.items ≡ c.in-Some.thread ∷ rest) = first_of (search rules, grind (arith, common_steps)) in
    record {
      known = c.loop-thread.invariant.known;
      knows = λ w m knows.
          knows_dropped w old new c.args.passed c.in-Some.thread first.0 first.1 refl c.pop_front-ended.ensures.rest (c.loop-thread.invariant.knows w m knows)
          (sym (c.is_live.ensures w m) ∙ c.if-is_live.false) refl;
    }

pub returns : goal.returns
returns g c = λ w m knows all.
    let none : c.loop-thread.self.ahead.items ≡ [] = first_of (search rules, grind (arith, common_steps)) in (
      found_none w c.loop-thread.self c.args.passed none (c.loop-thread.invariant.known ∙ all) (c.loop-thread.invariant.knows w m knows),
      c.loop-thread.invariant.known ∙ all,
    )
