-- What is written of the sections, one by one, is what is written of those that a test keeps.
use Rattle.std.proofs.Common.{◌≡◌, ℕ, List, [], ◌∷◌, ◌++◌, refl, ap, ◌∙◌, cond, append_assoc}
use Rattle.std.specs.Prelude.{Bool, true, false, map}
use Rattle.std.specs.List.{filter, flat_map}
use Rattle.jm_page.specs.Sections.{Part, has_changed, is_gone, key_of, delta}
use Rattle.jm_page.specs.Data.{part_text, gone_text, change_text, text_if, text_if_changed, text_if_gone}

one : {X : Type 0} (keep : Bool) (g : X → List ℕ) (x : X) (xs : List X) → text_if keep (g x) ++ flat_map g xs ≡ flat_map g (cond keep (x ∷ xs) xs)
one true g x xs = refl
one false g x xs = refl

changed_kept : (old new ps : List Part) → flat_map (text_if_changed old new) ps ≡ flat_map part_text (filter (λ p. has_changed old new p.key) ps)
unfolding text_if_changed
changed_kept old new [] = refl
changed_kept old new (p ∷ ps) =
    ap (λ t. text_if_changed old new p ++ t) (changed_kept old new ps)
    ∙ one (has_changed old new p.key) part_text p (filter (λ p. has_changed old new p.key) ps)

gone_kept : (new ps : List Part) → flat_map (text_if_gone new) ps ≡ flat_map gone_text (filter (is_gone new) (map key_of ps))
unfolding text_if_gone
gone_kept new [] = refl
gone_kept new (p ∷ ps) =
    ap (λ t. text_if_gone new p ++ t) (gone_kept new ps)
    ∙ one (is_gone new p.key) gone_text p.key (filter (is_gone new) (map key_of ps))

-- both, one behind the other
pub change_written : (old new : List Part) (before first after : List ℕ) → first ≡ before ++ flat_map (text_if_changed old new) new
    → after ≡ first ++ flat_map (text_if_gone new) old → after ≡ before ++ change_text (delta old new)
unfolding change_text delta
change_written old new before first after set gone =
    gone
    ∙ ap (λ t. t ++ flat_map (text_if_gone new) old) set
    ∙ append_assoc before (flat_map (text_if_changed old new) new) (flat_map (text_if_gone new) old)
    ∙ ap (λ t. before ++ (t ++ flat_map (text_if_gone new) old)) (changed_kept old new new)
    ∙ ap (λ t. before ++ (flat_map part_text (filter (λ p. has_changed old new p.key) new) ++ t)) (gone_kept new old)
