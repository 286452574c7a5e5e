-- Lists as far as other references are put into them.
use Rattle.std.proofs.Common.{◌≡◌, ℕ, zero, suc, ◌+◌, ◌-◌, ◌<◌, ◌≤◌, List, [], ◌∷◌, ◌++◌, length, take, drop, get_or, set, refl, sym, ap, ◌∙◌, arith, length-append, append_assoc}
use Rattle.std.specs.Prelude.{reverse}
use Rattle.std.proofs.lemmas.List.{drop-drop, append-nil, take_more_set, drop-set-lt, drop_more, drop_all, take_all, take_at, get_or-reverse, length-reverse, length-set, reverse-append, set-append_left}
use Rattle.std.proofs.Math.Seq.{set-append_seam}
use Rattle.jm_values.specs.Shape.{Shape, list_shape, list_refill}
use Rattle.jm_values.specs.Activation.{units, category}
use Rattle.jm_values.specs.Rename.{refill, value_shape, stack_shape}
use Rattle.jm_values.specs.declared.value.Value.{Value}
use Rattle.jm_values.specs.declared.value.Value.TheVariants.{Int, Long, Null, Ref}

-- what is left to do makes of a list what was to be made of the whole: the elements before a
-- number have their references, and those from it on get the next
pub record IsOnTheWay {A : Type 0} (s : Shape A) (whole : List A) (places : List ℕ) (i : ℕ) (now : List A) (left : List ℕ) : Type 0 where
  pub long : length now ≡ length whole
  pub values : take i now ++ list_refill s left (drop i now) ≡ list_refill s places whole
  pub places_left : drop (length ((list_shape s).refs (drop i now))) left ≡ drop (length ((list_shape s).refs whole)) places

pub begins : {A : Type 0} (s : Shape A) (whole : List A) (places : List ℕ) → IsOnTheWay s whole places 0 whole places
begins s whole places = record { long = refl; values = refl; places_left = refl }

pub goes_on : {A : Type 0} (s : Shape A) (whole : List A) (places : List ℕ) (i : ℕ) (now : List A) (left more : List ℕ) (x y : A) → i < length now → x ≡ get_or now i x → IsOnTheWay s whole places i now left → y ≡ s.refill left x → more ≡ drop (length (s.refs x)) left → IsOnTheWay s whole places (i + 1) (set now i y) more
goes_on {A} s whole places i now left more x y lt at on ys ms = record {
  long = length-set now i y ∙ on.long;
  values = ap (λ l. l ++ list_refill s more (drop (i + 1) (set now i y))) (take_more_set now i y lt)
      ∙ append_assoc (take i now) (y ∷ []) (list_refill s more (drop (i + 1) (set now i y)))
      ∙ ap (λ l. take i now ++ y ∷ list_refill s more l) after
      ∙ ap (λ v. take i now ++ v ∷ list_refill s more (drop (i + 1) now)) ys
      ∙ ap (λ l. take i now ++ s.refill left x ∷ list_refill s l (drop (i + 1) now)) ms
      ∙ ap (λ l. take i now ++ list_refill s left l) (sym here)
      ∙ on.values;
  places_left = ap (λ l. drop (length ((list_shape s).refs l)) more) after
      ∙ ap (λ l. drop (length ((list_shape s).refs (drop (i + 1) now))) l) ms
      ∙ drop-drop (length ((list_shape s).refs (drop (i + 1) now))) (length (s.refs x)) left
      ∙ ap (λ n. drop n left) (sym (length-append (s.refs x) ((list_shape s).refs (drop (i + 1) now))))
      ∙ ap (λ l. drop (length ((list_shape s).refs l)) left) (sym here)
      ∙ on.places_left;
}
  where
    after : drop (i + 1) (set now i y) ≡ drop (i + 1) now
    after = drop-set-lt (i + 1) now i y (omega arith)

    here : drop i now ≡ x ∷ drop (i + 1) now
    here = drop_more now i x lt ∙ ap (λ v. v ∷ drop (i + 1) now) (sym at)

pub ends : {A : Type 0} (s : Shape A) (whole : List A) (places : List ℕ) (i : ℕ) (now : List A) (left : List ℕ) → length whole ≤ i → IsOnTheWay s whole places i now left → (now ≡ list_refill s places whole) × (left ≡ drop (length ((list_shape s).refs whole)) places)
ends {A} s whole places i now left h on =
    let past : length now ≤ i = omega (arith, on.long) in
    let nothing : drop i now ≡ [] = drop_all i now past in (
      sym (append-nil now)
          ∙ ap (λ l. l ++ []) (sym (take_all i now past))
          ∙ ap (λ l. take i now ++ list_refill s left l) (sym nothing)
          ∙ on.values,
      ap (λ l. drop (length ((list_shape s).refs l)) left) (sym nothing) ∙ on.places_left,
    )

-- a list that is written from its end
pub set_from_end : {A : Type 0} (xs : List A) (k d : ℕ) (x : A) → k + d + 1 ≡ length xs → reverse (set xs k x) ≡ set (reverse xs) d x
set_from_end [] k d x e = absurd (omega arith)
set_from_end (y ∷ xs) zero d x e =
    let long : d ≡ length (reverse xs) = omega (arith, length-reverse xs) in
    reverse-append (x ∷ []) xs ∙ sym (set-append_seam (reverse xs) y [] x) ∙ ap (λ l. set l (length (reverse xs)) x) (sym (reverse-append (y ∷ []) xs)) ∙ ap (λ n. set (reverse (y ∷ xs)) n x) (sym long)
set_from_end (y ∷ xs) (suc k) d x e =
    let shorter : k + d + 1 ≡ length xs = omega arith in
    let below : d < length (reverse xs) = omega (arith, length-reverse xs) in
    reverse-append (y ∷ []) (set xs k x) ∙ ap (λ l. l ++ y ∷ []) (set_from_end xs k d x shorter) ∙ sym (set-append_left (reverse xs) (y ∷ []) d x below) ∙ ap (λ l. set l d x) (sym (reverse-append (y ∷ []) xs))

-- the same from the end of a list
pub goes_on_from_end : {A : Type 0} (s : Shape A) (whole : List A) (places : List ℕ) (d n : ℕ) (now : List A) (left more : List ℕ) (x y : A) → n ≡ length now → d < n → x ≡ get_or now (n - 1 - d) x → IsOnTheWay s whole places d (reverse now) left → y ≡ s.refill left (get_or now (n - 1 - d) x) → more ≡ drop (length (s.refs (get_or now (n - 1 - d) x))) left → IsOnTheWay s whole places (d + 1) (reverse (set now (n - 1 - d) y)) more
goes_on_from_end s whole places d n now left more x y long lt at on ys ms =
    rw (set_from_end now (n - 1 - d) d y (omega arith)) (goes_on s whole places d (reverse now) left more x y
    (omega (arith, length-reverse now))
    (at ∙ ap (λ m. get_or now (m - 1 - d) x) long ∙ sym (get_or-reverse now d x (omega arith)))
    on (ys ∙ ap (s.refill left) (sym at)) (ms ∙ ap (λ v. drop (length (s.refs v)) left) (sym at)))

category_refill : (ns : List ℕ) (v : Value) → category (refill ns v) ≡ category v
category_refill ns (Int n) = refl
category_refill ns (Long n) = refl
category_refill ns Null = refl
category_refill [] (Ref p) = refl
category_refill (n ∷ ns) (Ref p) = refl

-- other references take as many units
pub units_refill : (ns : List ℕ) (vs : List Value) → units (stack_shape.refill ns vs) ≡ units vs
units_refill ns [] = refl
units_refill ns (v ∷ vs) =
    ap (λ n. n + units (stack_shape.refill (drop (length (value_shape.refs v)) ns) vs)) (category_refill ns v)
    ∙ ap (λ n. category v + n) (units_refill (drop (length (value_shape.refs v)) ns) vs)

-- other references leave a list as long
pub length_refill : {A : Type 0} (s : Shape A) (ns : List ℕ) (xs : List A) → length (list_refill s ns xs) ≡ length xs
length_refill s ns [] = refl
length_refill s ns (x ∷ xs) = ap suc (length_refill s (drop (length (s.refs x)) ns) xs)

pub length_refill_reverse : {A : Type 0} (s : Shape A) (ns : List ℕ) (new old : List A) → reverse new ≡ list_refill s ns (reverse old) → length new ≡ length old
length_refill_reverse s ns new old e = sym (length-reverse new) ∙ ap length e ∙ length_refill s ns (reverse old) ∙ length-reverse old

-- a list in the memory of one of as many elements
pub written_back : {A : Type 0} (new old : List A) (n : ℕ) → length new ≡ n → take n (new ++ drop (length new) old) ≡ new
written_back new old n e = take_at new (drop (length new) old) n e
