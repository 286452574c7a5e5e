-- What is seen of a thing has its references, and others put into the thing are put into what is seen.
use Rattle.std.proofs.Common.{◌≡◌, ℕ, ◌∷◌, ◌++◌, List, [], length, drop, refl, sym, ap, ◌∙◌}
use Rattle.std.specs.Prelude.{map}
use Rattle.jm_values.specs.Shape.{Shape, list_shape, pair_shape}

pub record Alike {A B : Type 0} (s : Shape A) (t : Shape B) (part : A → B) (x : A) : Type 0 where
  pub refs : t.refs (part x) ≡ s.refs x
  pub refill : (ns : List ℕ) → part (s.refill ns x) ≡ t.refill ns (part x)

abbrev pub both : {A B : Type 0} (x : A) (y : B) → A × B
both x y = (x, y)

pub pair_alike : {A B C D : Type 0} {s : Shape A} {t : Shape B} {u : Shape C} {v : Shape D} {f : A → B} {g : C → D} {x : A} {y : C} → Alike s t f x
    → Alike u v g y → Alike (pair_shape s u) (pair_shape t v) (λ p. (f p.0, g p.1)) (x, y)
pair_alike {s = s} {t = t} {u = u} {v = v} {f = f} {g = g} {x = x} {y = y} a b = record {
  refs = ap (λ r. r ++ v.refs (g y)) a.refs ∙ ap (λ r. s.refs x ++ r) b.refs;
  refill = λ ns.
      ap (λ z. both z (g (u.refill (drop (length (s.refs x)) ns) y))) (a.refill ns)
      ∙ ap (both (t.refill ns (f x))) (b.refill (drop (length (s.refs x)) ns) ∙ ap (λ r. v.refill (drop (length r) ns) (g y)) (sym a.refs));
}

pub list_alike : {A B : Type 0} {s : Shape A} {t : Shape B} {part : A → B} → ((x : A) → Alike s t part x) → (xs : List A)
    → Alike (list_shape s) (list_shape t) (map part) xs
list_alike h [] = record { refs = refl; refill = λ ns. refl }
list_alike {s = s} {t = t} {part = part} h (x ∷ xs) = record {
  refs = ap (λ l. l ++ (list_shape t).refs (map part xs)) (h x).refs ∙ ap (λ l. s.refs x ++ l) (list_alike h xs).refs;
  refill = λ ns.
      ap (λ y. y ∷ map part ((list_shape s).refill (drop (length (s.refs x)) ns) xs)) ((h x).refill ns)
      ∙ ap (λ l. t.refill ns (part x) ∷ l)
      ((list_alike h xs).refill (drop (length (s.refs x)) ns) ∙ ap (λ r. (list_shape t).refill (drop (length r) ns) (map part xs)) (sym (h x).refs));
}

pub same_alike : {A : Type 0} (s : Shape A) (x : A) → Alike s s (λ y. y) x
same_alike s x = record { refs = refl; refill = λ ns. refl }
