-- What each part keeps that bytes spell, or that a step comes to, all of them keep.
use Rattle.std.proofs.Common.{◌≡◌, ℕ, zero, suc, Bool, true, false, List, [], ◌∷◌, Some, None, Result, Ok, Err, refl, sym, ap, subst, ◌∙◌, length, nat_lt}
use Rattle.std.specs.Prelude.{if◌then◌else◌}
use Rattle.std.specs.List.{list_all, position, position_or_len}
use Rattle.std.proofs.lemmas.Option.{same_Some}
use Rattle.std.proofs.lemmas.Bool.{and_from}
use Rattle.jm_bytes.specs.Reading.{each}
use Rattle.jm_bytes.specs.Laws.{and_then_ok, same_Ok}
use Rattle.jm_bytes.specs.Format.{Format, many, repeated}
use Rattle.jm_program.proofs.DescriptorLaws.{cond_inverse}
use Rattle.jm_program.proofs.Truths.{both_true}

-- ---- tests

pub guard_held : (b : Bool) → (if b then Some (tt {0}) else None) ≡ Some (tt {0}) → b ≡ true
guard_held true e = refl
guard_held false e = absurd cc

pub passed : {F A : Type 0} (b : Bool) (x y : A) (e : F) → (if b then Ok x else Err e) ≡ Ok y → (b ≡ true) × (x ≡ y)
passed {F} true x y e h = (refl, same_Ok {F = F} x y h)
passed false x y e h = absurd cc

-- the first index at which a test passes is one of the list
pub position_within : (test : ℕ → Bool) (xs : List ℕ) (i : ℕ) → position test xs ≡ Some i → nat_lt i (length xs) ≡ true
position_within test xs i h =
    let p = cond_inverse (nat_lt (position_or_len test xs) (length xs)) (Some (position_or_len test xs)) i h in
    subst (λ (k : ℕ). nat_lt k (length xs) ≡ true) (same_Some (position_or_len test xs) i p.1) p.0

-- ---- formats

pub many_keep : {F A : Type 0} (ok : A → Bool) (f : Format F A) → ((bytes : List ℕ) (x : A) → f.Spells bytes x → ok x ≡ true) → (n : ℕ) (bytes : List ℕ) (xs : List A) → (many n f).Spells bytes xs → list_all ok xs ≡ true
unfolding many
many_keep {A = A} ok f one zero bytes xs h = subst (λ (ys : List A). list_all ok ys ≡ true) h.1 refl
many_keep {A = A} ok f one (suc n) bytes xs h =
    let others = many_keep ok f one n h.second.front h.second.value h.second.first in
    subst (λ (ys : List A). list_all ok ys ≡ true) h.second.second.1 (and_from (ok h.value) (list_all ok h.second.value) (one h.front h.value h.first) others)

pub many_count : {F A : Type 0} (f : Format F A) (n : ℕ) (bytes : List ℕ) (xs : List A) → (many n f).Spells bytes xs → length xs ≡ n
unfolding many
many_count f zero bytes xs h = sym (ap length h.1)
many_count f (suc n) bytes xs h = sym (ap length h.second.second.1) ∙ ap suc (many_count f n h.second.front h.second.value h.second.first)

pub repeated_keeps : {F S : Type 0} (P : S → Type 0) (f : S → Format F S) → ((s : S) (bytes : List ℕ) (t : S) → P s → (f s).Spells bytes t → P t) → (n : ℕ) (s : S) (bytes : List ℕ) (t : S) → P s → (repeated n f s).Spells bytes t → P t
unfolding repeated
repeated_keeps P f step zero s bytes t p h = subst P h.1 p
repeated_keeps P f step (suc n) s bytes t p h = repeated_keeps P f step n h.value h.back t (step s h.front h.value p h.first) h.second

-- ---- lists

pub each_keep : {F A B : Type 0} (before : A → Bool) (after : B → Bool) (f : A → Result B F) → ((x : A) (y : B) → before x ≡ true → f x ≡ Ok y → after y ≡ true)
    → (xs : List A) (ys : List B) → list_all before xs ≡ true → each f xs ≡ Ok ys → (list_all after ys ≡ true) × (length xs ≡ length ys)
unfolding each
each_keep {F} {A} {B} before after f step [] ys all h = subst (λ (zs : List B). (list_all after zs ≡ true) × (length {A = A} [] ≡ length zs)) (same_Ok {F = F} [] ys h) (refl, refl)
each_keep {F} {A} {B} before after f step (x ∷ xs) ys all h =
    let p = both_true (before x) (list_all before xs) all in
    let a = and_then_ok (f x) _ ys h in
    let b = and_then_ok (each f xs) _ ys a.2 in
    let others = each_keep before after f step xs b.0 p.1 b.1 in
    subst (λ (zs : List B). (list_all after zs ≡ true) × (length (x ∷ xs) ≡ length zs)) (same_Ok {F = F} (a.0 ∷ b.0) ys b.2)
    (and_from (after a.0) (list_all after b.0) (step x a.0 p.0 a.1) others.0, ap suc others.1)

pub all_pass : {A : Type 0} (xs : List A) → list_all (λ (_ : A). true) xs ≡ true
all_pass [] = refl
all_pass (x ∷ xs) = all_pass xs
