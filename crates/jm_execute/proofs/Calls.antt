-- Calls of a writer that appends.
use Rattle.std.proofs.Common.{◌≡◌, ℕ, List, [], ◌∷◌, ◌++◌, sym, ap, ◌∙◌, append_assoc, append-nil}
use Rattle.std.specs.List.{FoldsTo, concat}

-- what they wrote together stands behind what stood there
pub calls_append : {W : Type 0} (bytes : W → List ℕ) (w v : W) (parts : List (List ℕ)) → FoldsTo (λ a text b. bytes b ≡ bytes a ++ text) w parts v → bytes v ≡ bytes w ++ concat parts
calls_append bytes w v [] h = ap bytes (sym h) ∙ sym (append-nil (bytes w))
calls_append bytes w v (part ∷ parts) h = calls_append bytes h.0 v parts h.2 ∙ ap (λ (front : List ℕ). front ++ concat parts) h.1 ∙ append_assoc (bytes w) part (concat parts)
