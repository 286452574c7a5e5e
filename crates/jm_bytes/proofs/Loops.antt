-- What a loop keeps that reads one value after the other: what is read so far, in front of what is still read, is the whole reading.
-- A function with such a loop says that in its invariant, and names the ruleset of its kind (at the end) in its attribute.
use Rattle.std.proofs.Common.{◌≡◌, ℕ, zero, suc, ◌+◌, ◌-◌, ◌<◌, ◌≤◌, List, [], ◌∷◌, ◌++◌, length, Result, Ok, Err, refl, sym, ap, ◌∙◌, append_assoc, arith, add-one, get_or, drop, length-drop, drop-cons}
use Rattle.std.proofs.lemmas.List.{append-nil, nil_from_length}
use Rattle.std.specs.List.{flat_map}
use Rattle.jm_bytes.specs.Spelling.{IsFilled}
use Rattle.jm_bytes.specs.Reading.{and_then, run_at, run, each}
use Rattle.jm_bytes.specs.Format.{Format, many, repeated, read_to_end}
use Rattle.jm_bytes.specs.Laws.{IsShorter, shorter, run_step, run_none}

-- what was read before, and what is still read
unfoldable pub with_front : {F A : Type 0} → List A → Result (List A × List ℕ) F → Result (List A × List ℕ) F
with_front front read = and_then read (λ x. Ok (front ++ x.0, x.1))

-- the same to the end of the bytes, or of a list
unfoldable pub with_front_all : {F A : Type 0} → List A → Result (List A) F → Result (List A) F
with_front_all front read = and_then read (λ xs. Ok (front ++ xs))

-- nothing was read before
pub with_front-nil : {F A : Type 0} (read : Result (List A × List ℕ) F) → with_front [] read ≡ read
unfolding with_front
with_front-nil (Ok x) = refl
with_front-nil (Err e) = refl

pub with_front_all-nil : {F A : Type 0} (read : Result (List A) F) → with_front_all [] read ≡ read
unfolding with_front_all
with_front_all-nil (Ok x) = refl
with_front_all-nil (Err e) = refl

-- one more in front of what is still read
pub regroup : {F A : Type 0} (front : List A) (x : A) (read : Result (List A × List ℕ) F) → with_front front (and_then read (λ y. Ok (x ∷ y.0, y.1))) ≡ with_front (front ++ x ∷ []) read
unfolding with_front
regroup {A = A} front x (Ok y) = ap (λ (ns : List A). Ok (ns, y.1)) (simp append_assoc)
regroup front x (Err e) = refl

pub regroup_all : {F A : Type 0} (front : List A) (x : A) (read : Result (List A) F) → with_front_all front (and_then read (λ y. Ok (x ∷ y))) ≡ with_front_all (front ++ x ∷ []) read
unfolding with_front_all
regroup_all {A = A} front x (Ok y) = ap (λ (ns : List A). Ok ns) (simp append_assoc)
regroup_all front x (Err e) = refl

-- ---- so many, at the i-th of count

pub many_next : {F A : Type 0} (f : Format F A) (front : List A) (count i : ℕ) (bytes : List ℕ) (x : A) (rest : List ℕ) → i < count → f.read bytes ≡ Ok (x, rest)
    → with_front front ((many (count - i) f).read bytes) ≡ with_front (front ++ x ∷ []) ((many (count - (i + 1)) f).read rest)
unfolding many
many_next f front count i bytes x rest lt h =
    let k : count - i ≡ suc (count - (i + 1)) = omega arith in
    rw (k, h) (regroup front x ((many (count - (i + 1)) f).read rest))

pub many_fault : {F A : Type 0} (f : Format F A) (front : List A) (count i : ℕ) (bytes : List ℕ) (e : F) → i < count → f.read bytes ≡ Err e
    → with_front front ((many (count - i) f).read bytes) ≡ Err e
unfolding many with_front
many_fault f front count i bytes e lt h =
    let k : count - i ≡ suc (count - (i + 1)) = omega arith in
    rw (k, h) refl

pub many_done : {F A : Type 0} (f : Format F A) (front : List A) (count i : ℕ) (bytes : List ℕ) → count ≤ i
    → with_front front ((many (count - i) f).read bytes) ≡ Ok (front, bytes)
unfolding many with_front
many_done {A = A} f front count i bytes le =
    let k : count - i ≡ 0 = omega arith in
    rw k (ap (λ (ns : List A). Ok (ns, bytes)) (append-nil front))

-- ---- a state taken on, at the i-th of count

pub repeated_next : {F S : Type 0} (f : S → Format F S) (s : S) (count i : ℕ) (bytes : List ℕ) (t : S) (rest : List ℕ) → i < count → (f s).read bytes ≡ Ok (t, rest)
    → (repeated (count - i) f s).read bytes ≡ (repeated (count - (i + 1)) f t).read rest
unfolding repeated
repeated_next f s count i bytes t rest lt h =
    let k : count - i ≡ suc (count - (i + 1)) = omega arith in
    rw (k, h) refl

pub repeated_fault : {F S : Type 0} (f : S → Format F S) (s : S) (count i : ℕ) (bytes : List ℕ) (e : F) → i < count → (f s).read bytes ≡ Err e
    → (repeated (count - i) f s).read bytes ≡ Err e
unfolding repeated
repeated_fault f s count i bytes e lt h =
    let k : count - i ≡ suc (count - (i + 1)) = omega arith in
    rw (k, h) refl

pub repeated_done : {F S : Type 0} (f : S → Format F S) (s : S) (count i : ℕ) (bytes : List ℕ) → count ≤ i
    → (repeated (count - i) f s).read bytes ≡ Ok (s, bytes)
unfolding repeated
repeated_done f s count i bytes le =
    let k : count - i ≡ 0 = omega arith in
    rw k refl

-- ---- to the end of the bytes, of which there were size

-- how many at most doesn't matter, from one for each byte on
run_most : {F A : Type 0} (read : ℕ → List ℕ → Result (A × List ℕ) F) → IsShorter read → (most other at : ℕ) (bytes : List ℕ) → length bytes ≤ most → length bytes ≤ other → run_at read most at bytes ≡ run_at read other at bytes
run_most read s most other at [] le le' = run_none read most at ∙ sym (run_none read other at)
run_most read s zero other at (b ∷ bytes) le le' = absurd (omega arith)
run_most read s (suc most) zero at (b ∷ bytes) le le' = absurd (omega arith)
run_most {F} {A} read s (suc most) (suc other) at (b ∷ bytes) le le' =
    let rest_same : (o : Result (A × List ℕ) F) → read at (b ∷ bytes) ≡ o → and_then o (λ x. and_then (run_at read most (at + (length (b ∷ bytes) - length x.1)) x.1) (λ xs. Ok (x.0 ∷ xs))) ≡ and_then o (λ x. and_then (run_at read other (at + (length (b ∷ bytes) - length x.1)) x.1) (λ xs. Ok (x.0 ∷ xs))) = λ o e.
    (elim o as (λ p. read at (b ∷ bytes) ≡ p → and_then p (λ x. and_then (run_at read most (at + (length (b ∷ bytes) - length x.1)) x.1) (λ xs. Ok (x.0 ∷ xs))) ≡ and_then p (λ x. and_then (run_at read other (at + (length (b ∷ bytes) - length x.1)) x.1) (λ xs. Ok (x.0 ∷ xs)))) [
      | Err d ↦ λ e. refl
      | Ok x ↦ λ e.
          let lt : length x.1 < length (b ∷ bytes) = s at (b ∷ bytes) x.0 x.1 e in
          ap (λ (p : Result (List A) F). and_then p (λ xs. Ok (x.0 ∷ xs))) (run_most read s most other (at + (length (b ∷ bytes) - length x.1)) x.1 (omega arith) (omega arith))
    ]) e in
    let long : 0 < length (b ∷ bytes) = omega arith in
    run_step read most at (b ∷ bytes) long ∙ rest_same (read at (b ∷ bytes)) refl ∙ sym (run_step read other at (b ∷ bytes) long)

run_bytes : {F A : Type 0} (read : ℕ → List ℕ → Result (A × List ℕ) F) (at : ℕ) (bytes : List ℕ) → 0 < length bytes
    → run read at bytes ≡ and_then (read at bytes) (λ x. and_then (run_at read (length bytes - 1) (at + (length bytes - length x.1)) x.1) (λ xs. Ok (x.0 ∷ xs)))
unfolding run
run_bytes read at bytes long =
    let k : length bytes ≡ suc (length bytes - 1) = omega arith in
    ap (λ (m : ℕ). run_at read m at bytes) k ∙ run_step read (length bytes - 1) at bytes long

-- each value that was read leaves fewer bytes
pub run_shorter : {F A : Type 0} (f : ℕ → Format F A) → IsFilled (λ at. (f at).Spells) → (at : ℕ) (bytes : List ℕ) (x : A) (rest : List ℕ) → (f at).read bytes ≡ Ok (x, rest) → length rest < length bytes
run_shorter f filled = shorter (λ at. (f at).Spells) (λ at. (f at).read) (λ at. (f at).sound) filled

pub run_next : {F A : Type 0} (f : ℕ → Format F A) → IsFilled (λ at. (f at).Spells) → (front : List A) (size : ℕ) (bytes : List ℕ) (x : A) (rest : List ℕ) → length bytes ≤ size → (f (size - length bytes)).read bytes ≡ Ok (x, rest)
    → with_front_all front (read_to_end f (size - length bytes) bytes) ≡ with_front_all (front ++ x ∷ []) (read_to_end f (size - length rest) rest)
unfolding run read_to_end
run_next {F} {A} f filled front size bytes x rest le h =
    let read : ℕ → List ℕ → Result (A × List ℕ) F = λ at. (f at).read in
    let at : ℕ = size - length bytes in
    let lt : length rest < length bytes = run_shorter f filled at bytes x rest h in
    let step : run read at bytes ≡ and_then (run_at read (length bytes - 1) (at + (length bytes - length rest)) rest) (λ xs. Ok (x ∷ xs)) =
    run_bytes read at bytes (omega arith) ∙ ap (λ (o : Result (A × List ℕ) F). and_then o (λ x. and_then (run_at read (length bytes - 1) (at + (length bytes - length x.1)) x.1) (λ xs. Ok (x.0 ∷ xs)))) h in
    let next : at + (length bytes - length rest) ≡ size - length rest = omega arith in
    let same : run_at read (length bytes - 1) (at + (length bytes - length rest)) rest ≡ run read (size - length rest) rest =
    run_most read (run_shorter f filled) (length bytes - 1) (length rest) (at + (length bytes - length rest)) rest (omega arith) (omega arith) ∙ ap (λ (m : ℕ). run_at read (length rest) m rest) next in
    ap (with_front_all front) step ∙ ap (λ (o : Result (List A) F). with_front_all front (and_then o (λ xs. Ok (x ∷ xs)))) same ∙ regroup_all front x (run read (size - length rest) rest)

pub run_fault : {F A : Type 0} (f : ℕ → Format F A) (front : List A) (at : ℕ) (bytes : List ℕ) (e : F) → 0 < length bytes → (f at).read bytes ≡ Err e
    → with_front_all front (read_to_end f at bytes) ≡ Err e
unfolding read_to_end with_front_all
run_fault {F} {A} f front at bytes e long h =
    let read : ℕ → List ℕ → Result (A × List ℕ) F = λ at. (f at).read in
    let step : run read at bytes ≡ Err e =
    run_bytes read at bytes long ∙ ap (λ (o : Result (A × List ℕ) F). and_then o (λ x. and_then (run_at read (length bytes - 1) (at + (length bytes - length x.1)) x.1) (λ xs. Ok (x.0 ∷ xs)))) h in
    ap (with_front_all front) step

pub run_done : {F A : Type 0} (f : ℕ → Format F A) (front : List A) (at : ℕ) (bytes : List ℕ) → length bytes ≡ 0
    → with_front_all front (read_to_end f at bytes) ≡ Ok front
unfolding run read_to_end with_front_all
run_done {F} {A} f front at bytes len =
    let read : ℕ → List ℕ → Result (A × List ℕ) F = λ at. (f at).read in
    let none : bytes ≡ [] = nil_from_length bytes len in
    let step : run read at bytes ≡ Ok [] = ap (λ (b : List ℕ). run_at read (length b) at b) none ∙ run_none read 0 at in
    ap (with_front_all front) step ∙ ap (λ (ns : List A). Ok ns) (append-nil front)

-- ---- over the items of a list, at the i-th

each_at : {F A B : Type 0} (f : A → Result B F) (xs : List A) (i : ℕ) (x d : A) → i < length xs → x ≡ get_or xs i d
    → each f (drop i xs) ≡ and_then (f x) (λ y. and_then (each f (drop (i + 1) xs)) (λ ys. Ok (y ∷ ys)))
unfolding each
each_at {A = A} f xs i x d lt is =
    let here : drop i xs ≡ x ∷ drop (i + 1) xs = drop-cons xs i d lt ∙ rw add-one (ap (λ (z : A). z ∷ drop (suc i) xs) (sym is)) in
    ap (each f) here

pub each_next : {F A B : Type 0} (f : A → Result B F) (front : List B) (xs : List A) (i : ℕ) (x d : A) (y : B) → i < length xs → x ≡ get_or xs i d → f x ≡ Ok y
    → with_front_all front (each f (drop i xs)) ≡ with_front_all (front ++ y ∷ []) (each f (drop (i + 1) xs))
each_next {F} {B = B} f front xs i x d y lt is h =
    let step : each f (drop i xs) ≡ and_then (each f (drop (i + 1) xs)) (λ ys. Ok (y ∷ ys)) =
    each_at f xs i x d lt is ∙ ap (λ (o : Result B F). and_then o (λ y. and_then (each f (drop (i + 1) xs)) (λ ys. Ok (y ∷ ys)))) h in
    ap (with_front_all front) step ∙ regroup_all front y (each f (drop (i + 1) xs))

pub each_fault : {F A B : Type 0} (f : A → Result B F) (front : List B) (xs : List A) (i : ℕ) (x d : A) (e : F) → i < length xs → x ≡ get_or xs i d → f x ≡ Err e
    → with_front_all front (each f (drop i xs)) ≡ Err e
unfolding with_front_all
each_fault {F} {B = B} f front xs i x d e lt is h =
    let step : each f (drop i xs) ≡ Err e =
    each_at f xs i x d lt is ∙ ap (λ (o : Result B F). and_then o (λ y. and_then (each f (drop (i + 1) xs)) (λ ys. Ok (y ∷ ys)))) h in
    ap (with_front_all front) step

pub each_done : {F A B : Type 0} (f : A → Result B F) (front : List B) (xs : List A) (i : ℕ) → length xs ≤ i
    → with_front_all front (each f (drop i xs)) ≡ Ok front
unfolding each with_front_all
each_done {B = B} f front xs i le =
    let none : drop i xs ≡ [] = nil_from_length (drop i xs) (omega (arith, length-drop i xs)) in
    let step : each f (drop i xs) ≡ Ok [] = ap (each f) none in
    ap (with_front_all front) step ∙ ap (λ (ns : List B). Ok ns) (append-nil front)

-- ---- what was written, in front of the text of the items that are left, at the i-th

pub texts_next : {A B : Type 0} (text : A → List B) (front : List B) (xs : List A) (i : ℕ) (x d : A) → i < length xs → x ≡ get_or xs i d
    → (front ++ text x) ++ flat_map text (drop (i + 1) xs) ≡ front ++ flat_map text (drop i xs)
texts_next {A} {B} text front xs i x d lt is =
    let here : drop i xs ≡ x ∷ drop (i + 1) xs = drop-cons xs i d lt ∙ rw add-one (ap (λ (z : A). z ∷ drop (suc i) xs) (sym is)) in
    append_assoc front (text x) (flat_map text (drop (i + 1) xs)) ∙ ap (λ (ys : List A). front ++ flat_map text ys) (sym here)

pub texts_done : {A B : Type 0} (text : A → List B) (front : List B) (xs : List A) (i : ℕ) → length xs ≤ i → front ++ flat_map text (drop i xs) ≡ front
texts_done {A} text front xs i le =
    let none : drop i xs ≡ [] = nil_from_length (drop i xs) (omega (arith, length-drop i xs)) in
    ap (λ (ys : List A). front ++ flat_map text ys) none ∙ append-nil front

-- ---- the rulesets: for `many`, `repeated`, `each_to_end`, `each` (its faults by `each_fault`), and for what is written of each item

pub ruleset many_steps = (with_front-nil, many_next, many_fault, many_done)

pub ruleset repeated_steps = (repeated_next, repeated_fault, repeated_done)

pub ruleset run_steps = (with_front_all-nil, run_next, run_fault, run_done)

pub ruleset each_steps = (with_front_all-nil, each_next, each_done)

pub ruleset text_steps = (texts_next, texts_done)
