-- The element before the number, if there is one.
use Rattle.std.proofs.Common.{◌≡◌, ℕ, suc, ◌-◌, List, Option, Some, None, ap, sym, ◌∙◌, arith}
use Rattle.std.specs.Prelude.{option_map, slice_get}
use Rattle.std.specs.List.{ItemBy}
use Rattle.std.proofs.lemmas.Option.{slice_get_past, slice_get-get_or}
use Rattle.jm_explore.specs.declared.told.Told.{Told}
use Rattle.jm_explore.specs.ExplorationTexts.{told_at}
use Rattle.jm_explore.proofs.exploration_texts.outcome_at.Goals as goal

item_there : {R X : Type 0} (now : R → X) (xs : List X) (i : ℕ) (r : Option R) → ItemBy now xs i i r → option_map now r ≡ slice_get xs i
item_there now xs i None item = sym (slice_get_past xs i item.3)
item_there now xs i (Some x) item = sym (slice_get-get_or xs i (now x) item.3.0 ∙ ap Some (sym item.1))

behind_zero : (told : List Told) (n k : ℕ) → n ≡ suc k → told_at n told ≡ slice_get told k
behind_zero told n k is = ap (λ (m : ℕ). told_at m told) is

pub returns : goal.returns
returns c =
    let number = c.args.number in
    let told = c.args.found.now.told.items in
    item_there _ _ _ _ c.get.ensures.lookup ∙ ap (λ (xs : List Told). slice_get xs (number - 1)) c.deref.ensures.value
    ∙ sym (behind_zero told number (number - 1) (omega (arith, c.if-number-eq0.false)))
