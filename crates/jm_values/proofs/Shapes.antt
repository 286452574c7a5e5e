-- Data without references, options, lists, pairs and wholes keep to the laws of shapes.
use Rattle.std.proofs.Common.{◌≡◌, ℕ, ◌≤◌, List, [], ◌∷◌, ◌++◌, Option, Some, None, length, take, drop, refl, sym, ap, subst, ◌∙◌, arith, append_assoc, length-append}
use Rattle.std.specs.Prelude.{map}
use Rattle.std.proofs.lemmas.List.{append-nil, map-append, length-map, take-append-drop, take-map, length-take-le}
use Rattle.std.specs.List.{drop-map}
use Rattle.std.proofs.Math.Seq.{drop-append_seam, take-append_seam}
use Rattle.jm_program.proofs.Sequences.{none_left as length_zero}
use Rattle.jm_program.proofs.Texts.{map_same}
use Rattle.jm_values.specs.Shape.{Shape, ShapeLaws, IsShape, IsPart, plain_shape, option_shape, list_shape, pair_shape, part_shape}
use Rattle.jm_values.proofs.Among.{among_left, among_right}

-- an empty list is all that names can be of no references
none_left : (f : ℕ → ℕ) (ns : List ℕ) → map f ns ≡ [] → ns ≡ []
none_left f [] e = refl
none_left f (n ∷ ns) e = cc

pub plain_is_shape : {A : Type 0} → IsShape A (plain_shape A)
plain_is_shape x = record {
  keeps = refl;
  composes = λ f g. refl;
  agrees = λ f g h. refl;
  renamed = λ f. refl;
  refilled = λ ns rest e. sym (length_zero ns e);
  moved = λ f g ns rest e. refl;
}

pub option_is_shape : {A : Type 0} (s : Shape A) → IsShape A s → IsShape (Option A) (option_shape s)
option_is_shape s h None = record {
  keeps = refl;
  composes = λ f g. refl;
  agrees = λ f g e. refl;
  renamed = λ f. refl;
  refilled = λ ns rest e. sym (length_zero ns e);
  moved = λ f g ns rest e. refl;
}
option_is_shape {A} s h (Some x) = record {
  keeps = ap some (h x).keeps;
  composes = λ f g. ap some ((h x).composes f g);
  agrees = λ f g e. ap some ((h x).agrees f g e);
  renamed = λ f. (h x).renamed f;
  refilled = λ ns rest e. (h x).refilled ns rest e;
  moved = λ f g ns rest e. ap some ((h x).moved f g ns rest e);
}
  where
    some : A → Option A
    some v = Some v

-- the references of the first of two parts and what follows them
drop_first : (a b rest : List ℕ) (n : ℕ) → length a ≡ n → drop n ((a ++ b) ++ rest) ≡ b ++ rest
drop_first a b rest n e = ap (λ k. drop k ((a ++ b) ++ rest)) (sym e) ∙ ap (drop (length a)) (append_assoc a b rest) ∙ drop-append_seam a (b ++ rest)

-- a list of names of two parts falls into those of the one and those of the other
take_named : (f g : ℕ → ℕ) (a b ns : List ℕ) → map g ns ≡ map f (a ++ b) → map g (take (length a) ns) ≡ map f a
take_named f g a b ns e =
    sym (take-map g (length a) ns) ∙ ap (take (length a)) e ∙ take-map f (length a) (a ++ b) ∙ ap (map f) (take-append_seam a b)

drop_named : (f g : ℕ → ℕ) (a b ns : List ℕ) → map g ns ≡ map f (a ++ b) → map g (drop (length a) ns) ≡ map f b
drop_named f g a b ns e =
    sym (drop-map g (length a) ns) ∙ ap (drop (length a)) e ∙ drop-map f (length a) (a ++ b) ∙ ap (map f) (drop-append_seam a b)

-- the laws of a pair, from those of its parts
pub pair_laws : {A B : Type 0} (s : Shape A) (t : Shape B) (x : A) (y : B) → ShapeLaws A s x → ShapeLaws B t y → ShapeLaws (A × B) (pair_shape s t) (x, y)
pair_laws {A} {B} s t x y h k = record {
  keeps = both _ _ _ _ h.keeps k.keeps;
  composes = λ f g. both _ _ _ _ (h.composes f g) (k.composes f g);
  agrees = λ f g e. both _ _ _ _ (h.agrees f g (λ p i. e p (among_left p (s.refs x) (t.refs y) i))) (k.agrees f g (λ p i. e p (among_right p (s.refs x) (t.refs y) i)));
  renamed = λ f. ap (λ l. l ++ t.refs (t.rename f y)) (h.renamed f) ∙ ap (λ l. map f (s.refs x) ++ l) (k.renamed f) ∙ sym (map-append f (s.refs x) (t.refs y));
  refilled = refilled;
  moved = moved;
}
  where
    pair : A → B → A × B
    pair a b = (a, b)

    both : (a c : A) (b d : B) → a ≡ c → b ≡ d → pair a b ≡ pair c d
    both a c b d e i = ap (λ v. pair v b) e ∙ ap (λ w. pair c w) i

    m : ℕ
    m = length (s.refs x)

    shape : Shape (A × B)
    shape = pair_shape s t

    refilled_by : (a b rest : List ℕ) → length a ≡ length (s.refs x) → length b ≡ length (t.refs y) → shape.refs (shape.refill ((a ++ b) ++ rest) (pair x y)) ≡ a ++ b
    refilled_by a b rest i j =
        ap (λ l. s.refs (s.refill l x) ++ t.refs (t.refill (drop (length (s.refs x)) ((a ++ b) ++ rest)) y)) (append_assoc a b rest)
        ∙ ap (λ l. l ++ t.refs (t.refill (drop (length (s.refs x)) ((a ++ b) ++ rest)) y)) (h.refilled a (b ++ rest) i)
        ∙ ap (λ l. a ++ t.refs (t.refill l y)) (drop_first a b rest (length (s.refs x)) i)
        ∙ ap (λ l. a ++ l) (k.refilled b rest j)

    refilled : (ns rest : List ℕ) → length ns ≡ length (shape.refs (pair x y)) → shape.refs (shape.refill (ns ++ rest) (pair x y)) ≡ ns
    refilled ns rest e =
        let within : length (s.refs x) ≤ length ns = omega (arith, e, length-append (s.refs x) (t.refs y)) in
        let left : length (take (length (s.refs x)) ns) ≡ length (s.refs x) = length-take-le (length (s.refs x)) ns within in
        let whole : length (take (length (s.refs x)) ns ++ drop (length (s.refs x)) ns) ≡ length ns = ap length (take-append-drop (length (s.refs x)) ns) in
        let right : length (drop (length (s.refs x)) ns) ≡ length (t.refs y) =
        omega (arith, e, left, whole, length-append (s.refs x) (t.refs y), length-append (take (length (s.refs x)) ns) (drop (length (s.refs x)) ns)) in
        subst (λ l. shape.refs (shape.refill (l ++ rest) (pair x y)) ≡ l) (take-append-drop (length (s.refs x)) ns) (refilled_by (take (length (s.refs x)) ns) (drop (length (s.refs x)) ns) rest left right)

    moved_by : (f g : ℕ → ℕ) (a b rest : List ℕ) → map g a ≡ map f (s.refs x) → map g b ≡ map f (t.refs y) → shape.rename g (shape.refill ((a ++ b) ++ rest) (pair x y)) ≡ shape.rename f (pair x y)
    moved_by f g a b rest i j =
        let long : length a ≡ length (s.refs x) = sym (length-map a g) ∙ ap length i ∙ length-map (s.refs x) f in
        both _ _ _ _
        (ap (λ l. s.rename g (s.refill l x)) (append_assoc a b rest) ∙ h.moved f g a (b ++ rest) i)
        (ap (λ l. t.rename g (t.refill l y)) (drop_first a b rest (length (s.refs x)) long) ∙ k.moved f g b rest j)

    moved : (f g : ℕ → ℕ) (ns rest : List ℕ) → map g ns ≡ map f (shape.refs (pair x y)) → shape.rename g (shape.refill (ns ++ rest) (pair x y)) ≡ shape.rename f (pair x y)
    moved f g ns rest e =
        subst (λ l. shape.rename g (shape.refill (l ++ rest) (pair x y)) ≡ shape.rename f (pair x y)) (take-append-drop (length (s.refs x)) ns) (moved_by f g (take (length (s.refs x)) ns) (drop (length (s.refs x)) ns) rest (take_named f g (s.refs x) (t.refs y) ns e) (drop_named f g (s.refs x) (t.refs y) ns e))

pub pair_is_shape : {A B : Type 0} (s : Shape A) (t : Shape B) → IsShape A s → IsShape B t → IsShape (A × B) (pair_shape s t)
pair_is_shape s t h k p = pair_laws s t p.0 p.1 (h p.0) (k p.1)

-- the laws of a list, from those of its head and its tail
pub cons_laws : {A : Type 0} (s : Shape A) (x : A) (xs : List A) → ShapeLaws A s x → ShapeLaws (List A) (list_shape s) xs → ShapeLaws (List A) (list_shape s) (x ∷ xs)
cons_laws {A} s x xs h k = record {
  keeps = ap cons laws.keeps;
  composes = λ f g. ap cons (laws.composes f g);
  agrees = λ f g e. ap cons (laws.agrees f g e);
  renamed = λ f. laws.renamed f;
  refilled = λ ns rest e. laws.refilled ns rest e;
  moved = λ f g ns rest e. ap cons (laws.moved f g ns rest e);
}
  where
    cons : A × List A → List A
    cons p = p.0 ∷ p.1

    laws : ShapeLaws (A × List A) (pair_shape s (list_shape s)) (x, xs)
    laws = pair_laws s (list_shape s) x xs h k

pub list_is_shape : {A : Type 0} (s : Shape A) → IsShape A s → IsShape (List A) (list_shape s)
list_is_shape s h [] = record {
  keeps = refl;
  composes = λ f g. refl;
  agrees = λ f g e. refl;
  renamed = λ f. refl;
  refilled = λ ns rest e. sym (length_zero ns e);
  moved = λ f g ns rest e. refl;
}
list_is_shape s h (x ∷ xs) = cons_laws s x xs (h x) (list_is_shape s h xs)

pub part_is_shape : {A B : Type 0} (part : A → B) (put : B → A → A) (s : Shape B) → IsPart A B part put → IsShape B s → IsShape A (part_shape part put s)
part_is_shape part put s p h a = record {
  keeps = ap (λ b. put b a) (h (part a)).keeps ∙ p.put_part a;
  composes = λ f g. p.put_put _ _ a ∙ ap (λ b. put (s.rename f b) a) (p.part_put _ a) ∙ ap (λ b. put b a) ((h (part a)).composes f g);
  agrees = λ f g e. ap (λ b. put b a) ((h (part a)).agrees f g e);
  renamed = λ f. ap s.refs (p.part_put _ a) ∙ (h (part a)).renamed f;
  refilled = λ ns rest e. ap s.refs (p.part_put _ a) ∙ (h (part a)).refilled ns rest e;
  moved = λ f g ns rest e. p.put_put _ _ a ∙ ap (λ b. put (s.rename g b) a) (p.part_put _ a) ∙ ap (λ b. put b a) ((h (part a)).moved f g ns rest e);
}

-- other references in the place of the first ones leave what renaming would have left
pub refill_renames : {A : Type 0} (s : Shape A) → IsShape A s → (f : ℕ → ℕ) (x : A) → s.refill (map f (s.refs x)) x ≡ s.rename f x
refill_renames s h f x =
    let ns = map f (s.refs x) in
    let moved : s.rename (λ p. p) (s.refill (ns ++ []) x) ≡ s.rename f x = (h x).moved f (λ p. p) ns [] (map_same ns) in
    ap (λ l. s.refill l x) (sym (append-nil ns)) ∙ sym (h (s.refill (ns ++ []) x)).keeps ∙ moved
