-- What all copiers hold, when they have finished and met, is an image of the condemned objects.
use Rattle.std.proofs.Common.{◌≡◌, ℕ, List, Option, Some, None, refl, sym, ap, ◌∙◌}
use Rattle.jm_blocks.specs.Objects.{Object}
use Rattle.jm_blocks.specs.Stores.{Blocks}
use Rattle.jm_copy.specs.Condemned.{objects_at}
use Rattle.jm_copy.specs.Numbers.{number_of}
use Rattle.jm_copy.specs.Copying.{Moves}
use Rattle.jm_par_copy.specs.Working.{Pairs}
use Rattle.jm_par_copy.specs.Together.{found, moved_if, moved_by_wins}
use Rattle.jm_par_copy.proofs.Listing.{contains_from, found_has}

pub moves_are : (stores : List Blocks) (ws : List (ℕ × ℕ)) (p n : ℕ) → Moves (moved_by_wins stores ws) p n → Pairs stores ws p n
moves_are stores ws p n e = by (objects_at stores p) refl
  where
    by : (x : Option Object) → objects_at stores p ≡ x → Pairs stores ws p n
    by None f = let two : None ≡ Some n = sym (ap (λ x. moved_if x (found (number_of stores p) ws)) f) ∙ e in cc
    by (Some o) f = (o, f, contains_from ws (number_of stores p, n) (found_has ws (number_of stores p) n (sym (ap (λ x. moved_if x (found (number_of stores p) ws)) f) ∙ e)))
