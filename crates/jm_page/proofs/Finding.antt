-- What is shown under a key is the text of the first section that is found.
use Rattle.std.proofs.Common.{◌≡◌, ℕ, List, [], ◌∷◌, Option, Some, refl, ap, ◌∙◌, cond}
use Rattle.std.specs.Prelude.{Bool, true, false, find, option_map, if◌then◌else◌}
use Rattle.std.specs.Str.{bytes_eq}
use Rattle.jm_page.specs.Sections.{Part, shown_at}

abbrev pub text_in : Part → List ℕ
text_in p = p.text

one : (same : Bool) (p : Part) (rest : Option Part) → option_map text_in (cond same (Some p) rest) ≡ (if same then Some p.text else option_map text_in rest)
one true p rest = refl
one false p rest = refl

after : (same : Bool) (text : List ℕ) (a b : Option (List ℕ)) → a ≡ b → (if same then Some text else a) ≡ (if same then Some text else b)
after same text a b e = ap (λ t. if same then Some text else t) e

pub shown_found : (key : List ℕ) (ps : List Part) → option_map text_in (find (λ (p : Part). bytes_eq p.key key) ps) ≡ shown_at ps key
shown_found key [] = refl
shown_found key (p ∷ ps) =
    one (bytes_eq p.key key) p (find (λ (q : Part). bytes_eq q.key key) ps)
    ∙ after (bytes_eq p.key key) p.text (option_map text_in (find (λ (q : Part). bytes_eq q.key key) ps)) (shown_at ps key) (shown_found key ps)
