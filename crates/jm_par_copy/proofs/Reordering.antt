-- Blocks in another order.
use Rattle.std.proofs.Common.{◌≡◌, ◌⊎◌, ℕ, zero, suc, ◌+◌, ◌≤◌, List, [], ◌∷◌, ◌++◌, Option, Some, None, Bool, true, false, cond, refl, sym, ap, ◌∙◌, subst, inl, inr, arith}
use Rattle.std.specs.Prelude.{slice_get}
use Rattle.std.specs.List.{Contains}
use Rattle.jm_blocks.specs.Objects.{Object}
use Rattle.jm_par_copy.specs.Dealing.{IsReordered, cover, in_this}
use Rattle.jm_par_copy.specs.Fresh.{none_done}
use Rattle.jm_par_copy.specs.Holding.{held_objects, held_progress, AreApartPieces, IsApart, IsInOne}
use Rattle.jm_par_copy.specs.Pieces.{is_in, objects_of, progress_of}
use Rattle.jm_par_copy.specs.declared.piece.Piece.{Piece}
use Rattle.jm_par_copy.proofs.Aside.{is_there}
use Rattle.jm_par_copy.proofs.Listing.{Has, has_from, contains_from, has_left, has_right, has_both}
use Rattle.jm_par_copy.proofs.Pieces.{progress_in, progress_out, objects_elsewhere}
use Rattle.jm_par_copy.proofs.Sharing.{both_left, both_right, both_where}

pub cover_append : (xs ys : List Piece) (n : ℕ) → cover (xs ++ ys) n ≡ cover xs n + cover ys n
cover_append [] ys n = omega arith
cover_append (x ∷ xs) ys n = let rest = cover_append xs ys n in omega (arith, rest)

-- a place is in one of the blocks exactly where it is in some
pub one_covers : (xs : List Piece) (n : ℕ) → IsInOne xs n → 1 ≤ cover xs n
one_covers [] n h = absurd h
one_covers (x ∷ xs) n (inl e) = let one : in_this x n ≡ 1 = ap (λ b. cond b 1 0) e in omega (arith, one)
one_covers (x ∷ xs) n (inr h) = let rest = one_covers xs n h in omega (arith, rest)

pub covers_one : (xs : List Piece) (n : ℕ) → 1 ≤ cover xs n → IsInOne xs n
covers_one [] n h = absurd (omega (arith, h))
covers_one (x ∷ xs) n h = by (is_in x n) refl (covers_one xs n)
  where
    by : (b : Bool) → is_in x n ≡ b → (1 ≤ cover xs n → IsInOne xs n) → IsInOne (x ∷ xs) n
    by true e rest = inl e
    by false e rest = let none : in_this x n ≡ 0 = ap (λ b. cond b 1 0) e in inr (rest (omega (arith, h, none)))

others_cover : (x : Piece) (ys : List Piece) (n : ℕ) → ((i : ℕ) (y : Piece) → slice_get ys i ≡ Some y → IsApart x y) → is_in x n ≡ true → cover ys n ≡ 0
others_cover x [] n q e = refl
others_cover x (y ∷ ys) n q e =
    let here : in_this y n ≡ 0 = ap (λ b. cond b 1 0) (q 0 y refl n e) in
    let rest = others_cover x ys n (λ i z f. q (suc i) z f) e in
    omega (arith, here, rest)

-- of blocks that are apart each place is in one at most
pub apart_covers : (xs : List Piece) → AreApartPieces xs → (n : ℕ) → cover xs n ≤ 1
apart_covers [] p n = omega arith
apart_covers (x ∷ xs) p n = by (is_in x n) refl (apart_covers xs p.1 n)
  where
    by : (b : Bool) → is_in x n ≡ b → cover xs n ≤ 1 → cover (x ∷ xs) n ≤ 1
    by true e rest =
        let one : in_this x n ≡ 1 = ap (λ b. cond b 1 0) e in
        let none = others_cover x xs n p.0 e in
        omega (arith, one, none)
    by false e rest =
        let none : in_this x n ≡ 0 = ap (λ b. cond b 1 0) e in
        omega (arith, none, rest)

pub get_one : (xs : List Piece) (i : ℕ) (x : Piece) (n : ℕ) → slice_get xs i ≡ Some x → is_in x n ≡ true → IsInOne xs n
get_one [] i x n e t = cc
get_one (y ∷ xs) zero x n e t = let same : y ≡ x = cc in inl (ap (λ z. is_in z n) same ∙ t)
get_one (y ∷ xs) (suc i) x n e t = inr (get_one xs i x n e t)

pub covers_apart : (xs : List Piece) → ((n : ℕ) → cover xs n ≤ 1) → AreApartPieces xs
covers_apart [] h = tt
covers_apart (x ∷ xs) h = ((λ i y e n t. by i y e n t (is_in y n) refl), covers_apart xs (λ n. let all = h n in omega (arith, all)))
  where
    by : (i : ℕ) (y : Piece) → slice_get xs i ≡ Some y → (n : ℕ) → is_in x n ≡ true → (b : Bool) → is_in y n ≡ b → is_in y n ≡ false
    by i y e n t false f = f
    by i y e n t true f =
        let one : in_this x n ≡ 1 = ap (λ b. cond b 1 0) t in
        let rest = one_covers xs n (get_one xs i y n e f) in
        let all = h n in
        absurd (omega (arith, one, rest, all))

pub get_has : (xs : List Piece) (i : ℕ) (x : Piece) → slice_get xs i ≡ Some x → Has xs x
get_has [] i x e = cc
get_has (y ∷ xs) zero x e = let same : y ≡ x = cc in inl same
get_has (y ∷ xs) (suc i) x e = inr (get_has xs i x e)

pub has_get : (xs : List Piece) (x : Piece) → Has xs x → (i : ℕ) × (slice_get xs i ≡ Some x)
has_get [] x h = absurd h
has_get (y ∷ xs) x (inl e) = (0, ap (λ z. Some z) e)
has_get (y ∷ xs) x (inr h) = let t = has_get xs x h in (suc t.0, t.1)

-- what is held at a place is some block's object, and what some block has there is held
pub held_has : (xs : List Piece) (n : ℕ) (a : Object) → held_objects xs n ≡ Some a → (x : Piece) × Has xs x × (objects_of x n ≡ Some a)
held_has [] n a e = cc
held_has (x ∷ xs) n a e = by (held_has xs n a) (both_where (objects_of x) (held_objects xs) n a e)
  where
    by : (held_objects xs n ≡ Some a → (y : Piece) × Has xs y × (objects_of y n ≡ Some a)) → (objects_of x n ≡ Some a) ⊎ ((objects_of x n ≡ None) × (held_objects xs n ≡ Some a)) → (y : Piece) × Has (x ∷ xs) y × (objects_of y n ≡ Some a)
    by rest (inl h) = (x, inl refl, h)
    by rest (inr h) = let t = rest h.1 in (t.0, inr t.1, t.2)

pub has_held : (xs : List Piece) (x : Piece) (n : ℕ) (a : Object) → AreApartPieces xs → Has xs x → objects_of x n ≡ Some a → (held_objects xs n ≡ Some a) × ((count : ℕ) → held_progress xs n count ≡ progress_of x none_done n count)
has_held [] x n a p h e = absurd h
has_held (y ∷ xs) x n a p (inl t) e =
    let there = is_there x n a e in
    let here : objects_of y n ≡ Some a = ap (λ z. objects_of z n) t ∙ e in
    (both_left (objects_of y) (held_objects xs) n a here, λ count. ap (λ z. progress_of z (held_progress xs) n count) t ∙ progress_in x (held_progress xs) n count there ∙ sym (progress_in x none_done n count there))
has_held (y ∷ xs) x n a p (inr h) e =
    let rest = has_held xs x n a p.1 h e in
    let at = has_get xs x h in
    let away : is_in y n ≡ false = other (is_in y n) refl at.0 at.1 in
    (both_right (objects_of y) (held_objects xs) n (objects_elsewhere y n away) ∙ rest.0, λ count. progress_out y (held_progress xs) n count away ∙ rest.1 count)
  where
    other : (b : Bool) → is_in y n ≡ b → (i : ℕ) → slice_get xs i ≡ Some x → is_in y n ≡ false
    other false t i f = t
    other true t i f = let two : true ≡ false = sym (is_there x n a e) ∙ p.0 i x f n t in cc

pub none_held : (xs : List Piece) (n : ℕ) → (IsInOne xs n → ⊥) → held_objects xs n ≡ None
none_held xs n h = by (held_objects xs n) refl
  where
    by : (z : Option Object) → held_objects xs n ≡ z → held_objects xs n ≡ None
    by None e = e
    by (Some a) e = let t = held_has xs n a e in let at = has_get xs t.0 t.1 in absurd (h (get_one xs at.0 t.0 n at.1 (is_there t.0 n a t.2)))

-- orders
pub same_order : (xs ys : List Piece) → ys ≡ xs → IsReordered xs ys
same_order xs ys e = record { covers = λ n. ap (λ zs. cover zs n) e; there = λ x h. subst (λ zs. Contains zs x) (sym e) h; back = λ x h. subst (λ zs. Contains zs x) e h }

pub then_order : (xs ys zs : List Piece) → IsReordered xs ys → IsReordered ys zs → IsReordered xs zs
then_order xs ys zs f g = record { covers = λ n. g.covers n ∙ f.covers n; there = λ x h. g.there x (f.there x h); back = λ x h. f.back x (g.back x h) }

has_beside : (xs ys zs : List Piece) → ((x : Piece) → Contains ys x → Contains zs x) → (x : Piece) → Contains (xs ++ ys) x → Contains (xs ++ zs) x
has_beside xs ys zs f x h = by (has_both xs ys x (has_from (xs ++ ys) x h))
  where
    by : Has xs x ⊎ Has ys x → Contains (xs ++ zs) x
    by (inl g) = contains_from (xs ++ zs) x (has_left xs zs x g)
    by (inr g) = contains_from (xs ++ zs) x (has_right xs zs x (has_from zs x (f x (contains_from ys x g))))

pub after_order : (xs ys zs : List Piece) → IsReordered ys zs → IsReordered (xs ++ ys) (xs ++ zs)
after_order xs ys zs f = record {
  covers = λ n. let a = cover_append xs ys n in let b = cover_append xs zs n in let c = f.covers n in omega (arith, a, b, c);
  there = has_beside xs ys zs f.there;
  back = has_beside xs zs ys f.back;
}

has_after : (xs ys zs : List Piece) → ((x : Piece) → Contains xs x → Contains ys x) → (x : Piece) → Contains (xs ++ zs) x → Contains (ys ++ zs) x
has_after xs ys zs f x h = by (has_both xs zs x (has_from (xs ++ zs) x h))
  where
    by : Has xs x ⊎ Has zs x → Contains (ys ++ zs) x
    by (inl g) = contains_from (ys ++ zs) x (has_left ys zs x (has_from ys x (f x (contains_from xs x g))))
    by (inr g) = contains_from (ys ++ zs) x (has_right ys zs x g)

pub before_order : (xs ys zs : List Piece) → IsReordered xs ys → IsReordered (xs ++ zs) (ys ++ zs)
before_order xs ys zs f = record {
  covers = λ n. let a = cover_append xs zs n in let b = cover_append ys zs n in let c = f.covers n in omega (arith, a, b, c);
  there = has_after xs ys zs f.there;
  back = has_after ys xs zs f.back;
}

has_swapped : (xs ys : List Piece) (x : Piece) → Contains (xs ++ ys) x → Contains (ys ++ xs) x
has_swapped xs ys x h = by (has_both xs ys x (has_from (xs ++ ys) x h))
  where
    by : Has xs x ⊎ Has ys x → Contains (ys ++ xs) x
    by (inl g) = contains_from (ys ++ xs) x (has_right ys xs x g)
    by (inr g) = contains_from (ys ++ xs) x (has_left ys xs x g)

pub swapped_order : (xs ys : List Piece) → IsReordered (xs ++ ys) (ys ++ xs)
swapped_order xs ys = record {
  covers = λ n. let a = cover_append xs ys n in let b = cover_append ys xs n in omega (arith, a, b);
  there = has_swapped xs ys;
  back = has_swapped ys xs;
}

pub append_twice : (xs ys zs : List Piece) → (xs ++ ys) ++ zs ≡ xs ++ (ys ++ zs)
append_twice [] ys zs = refl
append_twice (x ∷ xs) ys zs = ap (λ ws. x ∷ ws) (append_twice xs ys zs)

-- a block in the middle comes first
pub first_order : (xs ys : List Piece) (x : Piece) → IsReordered (xs ++ x ∷ ys) (x ∷ xs ++ ys)
first_order xs ys x = record {
  covers = λ n. let a = cover_append xs (x ∷ ys) n in let b = cover_append xs ys n in omega (arith, a, b);
  there = λ z h. contains_from (x ∷ xs ++ ys) z (to z (has_both xs (x ∷ ys) z (has_from (xs ++ x ∷ ys) z h)));
  back = λ z h. contains_from (xs ++ x ∷ ys) z (from z (has_from (x ∷ xs ++ ys) z h));
}
  where
    to : (z : Piece) → Has xs z ⊎ Has (x ∷ ys) z → Has (x ∷ xs ++ ys) z
    to z (inl g) = inr (has_left xs ys z g)
    to z (inr (inl e)) = inl e
    to z (inr (inr g)) = inr (has_right xs ys z g)

    other : (z : Piece) → Has xs z ⊎ Has ys z → Has (xs ++ x ∷ ys) z
    other z (inl g) = has_left xs (x ∷ ys) z g
    other z (inr g) = has_right xs (x ∷ ys) z (inr g)

    from : (z : Piece) → Has (x ∷ xs ++ ys) z → Has (xs ++ x ∷ ys) z
    from z (inl e) = has_right xs (x ∷ ys) z (inl e)
    from z (inr g) = other z (has_both xs ys z g)

pub back_order : (xs ys : List Piece) → IsReordered xs ys → IsReordered ys xs
back_order xs ys f = record { covers = λ n. sym (f.covers n); there = f.back; back = f.there }
