-- Data that hold references: what it is to rename them, to list them, and to put others in their
-- place. A component of a machine has a shape, and lists, options and records of it have theirs.
use Rattle.std.specs.Prelude.{◌≡◌, ◌⊎◌, ℕ, List, [], ◌∷◌, ◌++◌, map, flat_map, length, drop, option_map, Option, Some, None}

-- how the references of an A are renamed, which they are, in order, and how others are put in
-- their place, in that order, from the head of a list
pub record Shape (A : Type 0) : Type 0 where
  pub rename : (ℕ → ℕ) → A → A
  pub refs : A → List ℕ
  pub refill : List ℕ → A → A

-- the number is in the list
abbrev pub Among : ℕ → List ℕ → Type 0
Among n [] = ⊥
Among n (x ∷ xs) = (n ≡ x) ⊎ Among n xs

-- no two numbers of the list have one name
abbrev pub IsOneToOne : (ℕ → ℕ) → List ℕ → Type 0
IsOneToOne f ns = (p q : ℕ) → Among p ns → Among q ns → f p ≡ f q → p ≡ q

-- the names agree on the list
abbrev pub AgreeOn : (ℕ → ℕ) → (ℕ → ℕ) → List ℕ → Type 0
AgreeOn f g ns = (p : ℕ) → Among p ns → f p ≡ g p

-- what a shape keeps to at a value: names that change nothing, one renaming after another, names
-- that agree on the references, the references under other names, the references that were put in
-- the place of others, and those seen under names that see them as the others were seen
pub record ShapeLaws (A : Type 0) (s : Shape A) (x : A) : Type 0 where
  pub keeps : s.rename (λ p. p) x ≡ x
  pub composes : (f g : ℕ → ℕ) → s.rename f (s.rename g x) ≡ s.rename (λ p. f (g p)) x
  pub agrees : (f g : ℕ → ℕ) → AgreeOn f g (s.refs x) → s.rename f x ≡ s.rename g x
  pub renamed : (f : ℕ → ℕ) → s.refs (s.rename f x) ≡ map f (s.refs x)
  pub refilled : (ns rest : List ℕ) → length ns ≡ length (s.refs x) → s.refs (s.refill (ns ++ rest) x) ≡ ns
  pub moved : (f g : ℕ → ℕ) (ns rest : List ℕ) → map g ns ≡ map f (s.refs x) → s.rename g (s.refill (ns ++ rest) x) ≡ s.rename f x

-- the laws hold at every value
abbrev pub IsShape : (A : Type 0) → Shape A → Type 0
IsShape A s = (x : A) → ShapeLaws A s x

-- of data without references
abbrev pub plain_shape : (A : Type 0) → Shape A
plain_shape A = record { rename = λ f x. x; refs = λ x. []; refill = λ ns x. x }

abbrev pub option_refs : {A : Type 0} → Shape A → Option A → List ℕ
option_refs s None = []
option_refs s (Some x) = s.refs x

abbrev pub option_shape : {A : Type 0} → Shape A → Shape (Option A)
option_shape s = record {
  rename = λ f. option_map (s.rename f);
  refs = option_refs s;
  refill = λ ns. option_map (s.refill ns);
}

abbrev pub list_refill : {A : Type 0} → Shape A → List ℕ → List A → List A
list_refill s ns [] = []
list_refill s ns (x ∷ xs) = s.refill ns x ∷ list_refill s (drop (length (s.refs x)) ns) xs

abbrev pub list_shape : {A : Type 0} → Shape A → Shape (List A)
list_shape s = record { rename = λ f. map (s.rename f); refs = flat_map s.refs; refill = list_refill s }

abbrev pub pair_shape : {A B : Type 0} → Shape A → Shape B → Shape (A × B)
pair_shape s t = record {
  rename = λ f p. (s.rename f p.0, t.rename f p.1);
  refs = λ p. s.refs p.0 ++ t.refs p.1;
  refill = λ ns p. (s.refill ns p.0, t.refill (drop (length (s.refs p.0)) ns) p.1);
}

-- of a whole whose references are those of a part
abbrev pub part_shape : {A B : Type 0} → (A → B) → (B → A → A) → Shape B → Shape A
part_shape part put s = record {
  rename = λ f a. put (s.rename f (part a)) a;
  refs = λ a. s.refs (part a);
  refill = λ ns a. put (s.refill ns (part a)) a;
}

-- a part of a whole, and how another is put in its place
pub record IsPart (A B : Type 0) (part : A → B) (put : B → A → A) : Type 0 where
  pub part_put : (b : B) (a : A) → part (put b a) ≡ b
  pub put_part : (a : A) → put (part a) a ≡ a
  pub put_put : (b c : B) (a : A) → put c (put b a) ≡ put c a
