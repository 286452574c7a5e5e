-- What is read is spelled so, and what is spelled so is read, for each way to put a format together.
use Rattle.std.proofs.Common.{◌≡◌, ℕ, zero, suc, ◌+◌, ◌-◌, ◌<◌, ◌≤◌, Bool, true, false, cond, ltb, eqb, List, [], ◌∷◌, ◌++◌, length, take, drop, Option, Some, None, Result, Ok, Err, refl, sym, ap, subst, ◌∙◌, append_assoc, arith}
use Rattle.std.specs.Prelude.{ℤ}
use Rattle.std.specs.Option.{ok_or}
use Rattle.std.specs.Int.{Width, byte_len, from_be_bytes, cast_signed}
use Rattle.std.proofs.lemmas.Bool.{ltb-false, le-ltb, eqb-true}
use Rattle.std.proofs.lemmas.List.{take_at, drop_at, take-append-drop, append-nil, nil_from_length, length-append, length-take}
use Rattle.jm_bytes.specs.Spelling.{IsDone, IsGiven, IsOutcome, IsNumber, IsSigned, AreBytes, IsThen, IsWithin, IsMapped, IsRun, IsFilled}
use Rattle.jm_bytes.specs.Reading.{and_then, fault_as, front_at, number_at, signed_at, bytes_at, outcome_at, then_at, whole, within_at, mapped_by, run_at, run}

-- what is read from the front is spelled there, and the rest is left
abbrev pub Sound : {F A : Type 0} → (List ℕ → A → Type 0) → (List ℕ → Result (A × List ℕ) F) → Type 0
Sound {A = A} Spells read = (bytes : List ℕ) (v : A) (rest : List ℕ) → read bytes ≡ Ok (v, rest) → (text : List ℕ) × (bytes ≡ text ++ rest) × Spells text v

-- what is spelled is read, whatever follows
abbrev pub Complete : {F A : Type 0} → (List ℕ → A → Type 0) → (List ℕ → Result (A × List ℕ) F) → Type 0
Complete {A = A} Spells read = (text rest : List ℕ) (v : A) → Spells text v → read (text ++ rest) ≡ Ok (v, rest)

abbrev pub SoundAll : {F A : Type 0} → (List ℕ → A → Type 0) → (List ℕ → Result A F) → Type 0
SoundAll {A = A} Spells read = (bytes : List ℕ) (v : A) → read bytes ≡ Ok v → Spells bytes v

abbrev pub CompleteAll : {F A : Type 0} → (List ℕ → A → Type 0) → (List ℕ → Result A F) → Type 0
CompleteAll {A = A} Spells read = (bytes : List ℕ) (v : A) → Spells bytes v → read bytes ≡ Ok v

-- ---- steps

-- the value of a step that did not fail
pub and_then_ok : {F A B : Type 0} (r : Result A F) (f : A → Result B F) (y : B) → and_then r f ≡ Ok y → (x : A) × (r ≡ Ok x) × (f x ≡ Ok y)
and_then_ok (Ok x) f y e = (x, refl, e)
and_then_ok (Err d) f y e = absurd cc

pub same_Ok : {F A : Type 0} (x y : A) → ◌≡◌ {A = Result A F} (Ok x) (Ok y) → x ≡ y
same_Ok x y e = cc

pub ok_pair_parts : {F A B : Type 0} (a x : A) (b y : B) → ◌≡◌ {A = Result (A × B) F} (Ok (a, b)) (Ok (x, y)) → (a ≡ x) × (b ≡ y)
ok_pair_parts {F} {A} {B} a x b y e =
    let p : ◌≡◌ {A = A × B} (a, b) (x, y) = same_Ok {F = F} (a, b) (x, y) e in
    (ap (λ (q : A × B). q.0) p, ap (λ (q : A × B). q.1) p)

pub ok_or_ok : {F A : Type 0} (o : Option A) (e : F) (x : A) → ok_or o e ≡ Ok x → o ≡ Some x
ok_or_ok (Some y) e x h = cc
ok_or_ok None e x h = absurd cc

pub fault_as_ok : {F G A : Type 0} (g : F → G) (r : Result A F) (x : A) → fault_as g r ≡ Ok x → r ≡ Ok x
fault_as_ok g (Ok y) x h = cc
fault_as_ok g (Err e) x h = absurd cc

guard_not : {A : Type 0} (b : Bool) (x y : A) → cond b None (Some x) ≡ Some y → (b ≡ false) × (x ≡ y)
guard_not true x y e = absurd cc
guard_not false x y e = (refl, cc)

guard_is : {F A : Type 0} (b : Bool) (e : F) (x y : A) → cond b (Ok x) (Err e) ≡ Ok y → (b ≡ true) × (x ≡ y)
guard_is true e x y h = (refl, cc)
guard_is false e x y h = absurd cc

-- ---- no bytes

pub done_sound : {F A : Type 0} (v : A) → Sound {F = F} (IsDone v) (λ bytes. Ok (v, bytes))
done_sound {F} v bytes w rest e =
    let p = ok_pair_parts {F = F} v w bytes rest e in
    ([], p.1, (refl, p.0))

pub done_complete : {F A : Type 0} (v : A) → Complete {F = F} (IsDone v) (λ bytes. Ok (v, bytes))
done_complete v text rest w h = rw (h.0, h.1) refl

pub outcome_sound : {F A : Type 0} (r : Result A F) → Sound (IsOutcome r) (outcome_at r)
outcome_sound {F} {A} r bytes v rest e =
    let a = and_then_ok r (λ v. Ok (v, bytes)) (v, rest) e in
    let p = ok_pair_parts {F = F} a.0 v bytes rest a.2 in
    ([], p.1, (refl, a.1 ∙ ap (λ (x : A). Ok x) p.0))

pub outcome_complete : {F A : Type 0} (r : Result A F) → Complete (IsOutcome r) (outcome_at r)
outcome_complete r text rest v h = rw (h.0, h.1) refl

pub given_sound : {F A : Type 0} (e : F) (o : Option A) → Sound (IsGiven o) (outcome_at (ok_or o e))
given_sound e o bytes v rest h =
    let p = outcome_sound (ok_or o e) bytes v rest h in
    (p.0, p.1, (p.2.0, ok_or_ok o e v p.2.1))

pub given_complete : {F A : Type 0} (e : F) (o : Option A) → Complete (IsGiven o) (outcome_at (ok_or o e))
given_complete e o text rest v h = rw (h.0, h.1) refl

-- ---- the front of the bytes

-- what is found is the value of so many bytes, and the rest is left
front_found : {A : Type 0} (n : ℕ) (value : List ℕ → A) (bytes : List ℕ) (v : A) (rest : List ℕ) → front_at n value bytes ≡ Some (v, rest)
    → (text : List ℕ) × (bytes ≡ text ++ rest) × ((length text ≡ n) × (value text ≡ v))
front_found {A} n value bytes v rest e =
    let g = guard_not (ltb (length bytes) n) (value (take n bytes), drop n bytes) (v, rest) e in
    let long : n ≤ length bytes = ltb-false _ _ g.0 in
    let front : value (take n bytes) ≡ v = ap (λ (p : A × List ℕ). p.0) g.1 in
    let back : drop n bytes ≡ rest = ap (λ (p : A × List ℕ). p.1) g.1 in
    (take n bytes, rw (← back) (sym (take-append-drop n bytes)), (omega (arith, length-take n bytes), front))

-- so many bytes are found, whatever follows
front_is : {A : Type 0} (n : ℕ) (value : List ℕ → A) (text rest : List ℕ) → length text ≡ n → front_at n value (text ++ rest) ≡ Some (value text, rest)
front_is n value text rest len =
    let long : ltb (length (text ++ rest)) n ≡ false = le-ltb _ _ (omega (arith, length-append text rest)) in
    rw (long, take_at text rest n len, drop_at text rest n len) refl

pub bytes_sound : {F : Type 0} (e : F) (n : ℕ) → Sound (AreBytes n) (λ bytes. ok_or (bytes_at n bytes) e)
unfolding bytes_at
bytes_sound e n bytes v rest h = front_found n (λ t. t) bytes v rest (ok_or_ok (bytes_at n bytes) e (v, rest) h)

pub bytes_found : (n : ℕ) (text rest : List ℕ) → length text ≡ n → bytes_at n (text ++ rest) ≡ Some (text, rest)
unfolding bytes_at
bytes_found n text rest len = front_is n (λ t. t) text rest len

pub bytes_complete : {F : Type 0} (e : F) (n : ℕ) → Complete (AreBytes n) (λ bytes. ok_or (bytes_at n bytes) e)
bytes_complete e n text rest v h = rw (bytes_found n text rest h.0, h.1) refl

pub number_sound : {F : Type 0} (e : F) (w : Width) → Sound (IsNumber w) (λ bytes. ok_or (number_at w bytes) e)
unfolding number_at
number_sound e w bytes v rest h = front_found (byte_len w) (from_be_bytes w) bytes v rest (ok_or_ok (number_at w bytes) e (v, rest) h)

pub number_found : (w : Width) (text rest : List ℕ) (n : ℕ) → IsNumber w text n → number_at w (text ++ rest) ≡ Some (n, rest)
unfolding number_at
number_found w text rest n h = front_is (byte_len w) (from_be_bytes w) text rest h.0 ∙ ap (λ (m : ℕ). Some (m, rest)) h.1

pub number_complete : {F : Type 0} (e : F) (w : Width) → Complete (IsNumber w) (λ bytes. ok_or (number_at w bytes) e)
number_complete e w text rest v h = rw (number_found w text rest v h) refl

pub signed_sound : {F : Type 0} (e : F) (w : Width) → Sound (IsSigned w) (λ bytes. ok_or (signed_at w bytes) e)
unfolding signed_at
signed_sound e w bytes v rest h = front_found (byte_len w) (λ t. cast_signed w (from_be_bytes w t)) bytes v rest (ok_or_ok (signed_at w bytes) e (v, rest) h)

pub signed_found : (w : Width) (text rest : List ℕ) (z : ℤ) → IsSigned w text z → signed_at w (text ++ rest) ≡ Some (z, rest)
unfolding signed_at
signed_found w text rest z h = front_is (byte_len w) (λ t. cast_signed w (from_be_bytes w t)) text rest h.0 ∙ ap (λ (m : ℤ). Some (m, rest)) h.1

pub signed_complete : {F : Type 0} (e : F) (w : Width) → Complete (IsSigned w) (λ bytes. ok_or (signed_at w bytes) e)
signed_complete e w text rest v h = rw (signed_found w text rest v h) refl

-- ---- parts and wholes

pub then_sound : {F A B : Type 0} (First : List ℕ → A → Type 0) (first : List ℕ → Result (A × List ℕ) F) (Second : A → List ℕ → B → Type 0) (second : A → List ℕ → Result (B × List ℕ) F) → Sound First first → ((x : A) → Sound (Second x) (second x)) → Sound (IsThen First Second) (then_at first second)
then_sound First first Second second s t bytes v rest e =
    let a = and_then_ok (first bytes) (λ x. second x.0 x.1) (v, rest) e in
    let front = s bytes a.0.0 a.0.1 a.1 in
    let back = t a.0.0 a.0.1 v rest a.2 in
    let parts : bytes ≡ (front.0 ++ back.0) ++ rest = front.1 ∙ ap (λ (t : List ℕ). front.0 ++ t) back.1 ∙ sym (append_assoc front.0 back.0 rest) in
    (front.0 ++ back.0, parts, record { front = front.0; back = back.0; value = a.0.0; parts = refl; first = front.2; second = back.2 })

pub then_complete : {F A B : Type 0} (First : List ℕ → A → Type 0) (first : List ℕ → Result (A × List ℕ) F) (Second : A → List ℕ → B → Type 0) (second : A → List ℕ → Result (B × List ℕ) F) → Complete First first → ((x : A) → Complete (Second x) (second x)) → Complete (IsThen First Second) (then_at first second)
then_complete First first Second second s t text rest v h =
    let regrouped : text ++ rest ≡ h.front ++ (h.back ++ rest) = ap (λ (x : List ℕ). x ++ rest) h.parts ∙ append_assoc h.front h.back rest in
    ap (then_at first second) regrouped ∙ rw (s h.front (h.back ++ rest) h.value h.first) (t h.value h.back rest v h.second)

pub whole_sound : {F A : Type 0} (e : F) (Spells : List ℕ → A → Type 0) (read : List ℕ → Result (A × List ℕ) F) → Sound Spells read → SoundAll Spells (whole e read)
whole_sound {A = A} e Spells read s bytes v h =
    let a = and_then_ok (read bytes) (λ x. cond (eqb (length x.1) 0) (Ok x.0) (Err e)) v h in
    let g = guard_is (eqb (length a.0.1) 0) e a.0.0 v a.2 in
    let nothing : a.0.1 ≡ [] = nil_from_length a.0.1 (eqb-true _ _ g.0) in
    let p = s bytes a.0.0 a.0.1 a.1 in
    let same : bytes ≡ p.0 = p.1 ∙ ap (λ (r : List ℕ). p.0 ++ r) nothing ∙ append-nil p.0 in
    subst (λ (t : List ℕ). Spells t v) (sym same) (subst (λ (x : A). Spells p.0 x) g.1 p.2)

pub whole_complete : {F A : Type 0} (e : F) (Spells : List ℕ → A → Type 0) (read : List ℕ → Result (A × List ℕ) F) → Complete Spells read → CompleteAll Spells (whole e read)
whole_complete e Spells read c bytes v h =
    let all : read bytes ≡ Ok (v, []) = ap read (sym (append-nil bytes)) ∙ c bytes [] v h in
    rw all refl

pub within_sound : {F A : Type 0} (e : F) (n : ℕ) (Spells : List ℕ → A → Type 0) (read : List ℕ → Result A F) → SoundAll Spells read → Sound (IsWithin n Spells) (within_at e n read)
within_sound {F} {A} e n Spells read s bytes v rest h =
    let a = and_then_ok (ok_or (bytes_at n bytes) e) (λ x. and_then (read x.0) (λ v. Ok (v, x.1))) (v, rest) h in
    let b = and_then_ok (read a.0.0) (λ v. Ok (v, a.0.1)) (v, rest) a.2 in
    let p = bytes_sound e n bytes a.0.0 a.0.1 a.1 in
    let q = ok_pair_parts {F = F} b.0 v a.0.1 rest b.2 in
    let spelled : Spells a.0.0 v = subst (λ (x : A). Spells a.0.0 x) q.0 (s a.0.0 b.0 b.1) in
    (p.0, p.1 ∙ ap (λ (r : List ℕ). p.0 ++ r) q.1, (p.2.0, subst (λ (t : List ℕ). Spells t v) (sym p.2.1) spelled))

pub within_complete : {F A : Type 0} (e : F) (n : ℕ) (Spells : List ℕ → A → Type 0) (read : List ℕ → Result A F) → CompleteAll Spells read → Complete (IsWithin n Spells) (within_at e n read)
within_complete e n Spells read c text rest v h =
    rw (bytes_found n text rest h.0, c text v h.1) refl

pub mapped_sound : {F A B : Type 0} (Spells : List ℕ → A → Type 0) (read : List ℕ → Result A F) (f : A → Result B F) → SoundAll Spells read → SoundAll (IsMapped Spells f) (mapped_by read f)
mapped_sound Spells read f s bytes v e =
    let a = and_then_ok (read bytes) f v e in
    (a.0, s bytes a.0 a.1, a.2)

pub mapped_complete : {F A B : Type 0} (Spells : List ℕ → A → Type 0) (read : List ℕ → Result A F) (f : A → Result B F) → CompleteAll Spells read → CompleteAll (IsMapped Spells f) (mapped_by read f)
mapped_complete Spells read f c bytes v h =
    let e = c bytes h.0 h.1 in
    rw e h.2

-- ---- another layer's faults

pub fault_as_sound : {F G A : Type 0} (g : F → G) (Spells : List ℕ → A → Type 0) (read : List ℕ → Result (A × List ℕ) F) → Sound Spells read → Sound Spells (λ bytes. fault_as g (read bytes))
fault_as_sound g Spells read s bytes v rest h = s bytes v rest (fault_as_ok g (read bytes) (v, rest) h)

pub fault_as_complete : {F G A : Type 0} (g : F → G) (Spells : List ℕ → A → Type 0) (read : List ℕ → Result (A × List ℕ) F) → Complete Spells read → Complete Spells (λ bytes. fault_as g (read bytes))
fault_as_complete g Spells read c text rest v h = ap (fault_as g) (c text rest v h)

pub fault_as_sound_all : {F G A : Type 0} (g : F → G) (Spells : List ℕ → A → Type 0) (read : List ℕ → Result A F) → SoundAll Spells read → SoundAll Spells (λ bytes. fault_as g (read bytes))
fault_as_sound_all g Spells read s bytes v h = s bytes v (fault_as_ok g (read bytes) v h)

pub fault_as_complete_all : {F G A : Type 0} (g : F → G) (Spells : List ℕ → A → Type 0) (read : List ℕ → Result A F) → CompleteAll Spells read → CompleteAll Spells (λ bytes. fault_as g (read bytes))
fault_as_complete_all g Spells read c bytes v h = ap (fault_as g) (c bytes v h)

-- ---- runs

-- each step takes at least one byte
abbrev pub IsShorter : {F A : Type 0} → (ℕ → List ℕ → Result (A × List ℕ) F) → Type 0
IsShorter {A = A} read = (at : ℕ) (bytes : List ℕ) (x : A) (rest : List ℕ) → read at bytes ≡ Ok (x, rest) → length rest < length bytes

pub shorter : {F A : Type 0} (Spells : ℕ → List ℕ → A → Type 0) (read : ℕ → List ℕ → Result (A × List ℕ) F) → ((at : ℕ) → Sound (Spells at) (read at)) → IsFilled Spells → IsShorter read
shorter Spells read s filled at bytes x rest e =
    let p = s at bytes x rest e in
    let some = filled.filled at p.0 x p.2 in
    omega (arith, ap length p.1, length-append p.0 rest, some)

-- the first of a run, and the rest
pub run_step : {F A : Type 0} (read : ℕ → List ℕ → Result (A × List ℕ) F) (most at : ℕ) (bytes : List ℕ) → 0 < length bytes
    → run_at read (suc most) at bytes ≡ and_then (read at bytes) (λ x. and_then (run_at read most (at + (length bytes - length x.1)) x.1) (λ xs. Ok (x.0 ∷ xs)))
unfolding run_at
run_step read most at [] lt = absurd (omega arith)
run_step read most at (b ∷ bytes) lt = refl

pub run_none : {F A : Type 0} (read : ℕ → List ℕ → Result (A × List ℕ) F) (most at : ℕ) → run_at read most at [] ≡ Ok []
unfolding run_at
run_none read zero at = refl
run_none read (suc most) at = refl

run_at_sound : {F A : Type 0} (Spells : ℕ → List ℕ → A → Type 0) (read : ℕ → List ℕ → Result (A × List ℕ) F) → ((at : ℕ) → Sound (Spells at) (read at)) → IsShorter read → (most at : ℕ) (bytes : List ℕ) (xs : List A) → length bytes ≤ most → run_at read most at bytes ≡ Ok xs → IsRun Spells at xs bytes
unfolding run_at
run_at_sound {F} {A} Spells read s lt zero at [] xs le e = subst (λ (ys : List A). IsRun Spells at ys []) (same_Ok {F = F} [] xs e) refl
run_at_sound Spells read s lt zero at (b ∷ bytes) xs le e = absurd (omega arith)
run_at_sound {F} {A} Spells read s lt (suc most) at [] xs le e = subst (λ (ys : List A). IsRun Spells at ys []) (same_Ok {F = F} [] xs e) refl
run_at_sound {F} {A} Spells read s lt (suc most) at (b ∷ bytes) xs le e =
    let a = and_then_ok (read at (b ∷ bytes)) (λ x. and_then (run_at read most (at + (length (b ∷ bytes) - length x.1)) x.1) (λ xs. Ok (x.0 ∷ xs))) xs e in
    let c = and_then_ok (run_at read most (at + (length (b ∷ bytes) - length a.0.1)) a.0.1) (λ xs. Ok (a.0.0 ∷ xs)) xs a.2 in
    let less : length a.0.1 < length (b ∷ bytes) = lt at (b ∷ bytes) a.0.0 a.0.1 a.1 in
    let p = s at (b ∷ bytes) a.0.0 a.0.1 a.1 in
    let next : at + (length (b ∷ bytes) - length a.0.1) ≡ at + length p.0 = omega (arith, ap length p.1, length-append p.0 a.0.1) in
    let others = run_at_sound Spells read s lt most (at + (length (b ∷ bytes) - length a.0.1)) a.0.1 c.0 (omega arith) c.1 in
    subst (λ (ys : List A). IsRun Spells at ys (b ∷ bytes)) (same_Ok {F = F} (a.0.0 ∷ c.0) xs c.2) (p.0, a.0.1, p.1, p.2, subst (λ (n : ℕ). IsRun Spells n c.0 a.0.1) next others)

run_at_complete : {F A : Type 0} (Spells : ℕ → List ℕ → A → Type 0) (read : ℕ → List ℕ → Result (A × List ℕ) F) → ((at : ℕ) → Complete (Spells at) (read at)) → IsFilled Spells → (most at : ℕ) (xs : List A) (bytes : List ℕ) → length bytes ≤ most → IsRun Spells at xs bytes → run_at read most at bytes ≡ Ok xs
run_at_complete Spells read c filled most at [] bytes le h = ap (run_at read most at) h ∙ run_none read most at
run_at_complete Spells read c filled zero at (x ∷ xs) bytes le h =
    let some = filled.filled at h.0 x h.3 in
    absurd (omega (arith, ap length h.2, length-append h.0 h.1, some))
run_at_complete Spells read c filled (suc most) at (x ∷ xs) bytes le h =
    let front = h.0 in
    let back = h.1 in
    let some = filled.filled at front x h.3 in
    let len = length-append front back in
    let room : length back ≤ most = omega (arith, ap length h.2, len, some) in
    let long : 0 < length (front ++ back) = omega (arith, len, some) in
    let next : at + (length (front ++ back) - length back) ≡ at + length front = omega (arith, len) in
    let others = run_at_complete Spells read c filled most (at + length front) xs back room h.4 in
    let others_at : run_at read most (at + (length (front ++ back) - length back)) back ≡ Ok xs = ap (λ (n : ℕ). run_at read most n back) next ∙ others in
    let step = run_step read most at (front ++ back) long in
    let value = c at front back x h.3 in
    ap (run_at read (suc most) at) h.2 ∙ step ∙ rw (value, others_at) refl

pub run_sound : {F A : Type 0} (Spells : ℕ → List ℕ → A → Type 0) (read : ℕ → List ℕ → Result (A × List ℕ) F) → ((at : ℕ) → Sound (Spells at) (read at)) → IsFilled Spells → (at : ℕ) → SoundAll (λ bytes xs. IsRun Spells at xs bytes) (run read at)
unfolding run
run_sound Spells read s filled at bytes xs e = run_at_sound Spells read s (shorter Spells read s filled) (length bytes) at bytes xs (omega arith) e

pub run_complete : {F A : Type 0} (Spells : ℕ → List ℕ → A → Type 0) (read : ℕ → List ℕ → Result (A × List ℕ) F) → ((at : ℕ) → Complete (Spells at) (read at)) → IsFilled Spells → (at : ℕ) → CompleteAll (λ bytes xs. IsRun Spells at xs bytes) (run read at)
unfolding run
run_complete Spells read c filled at bytes xs h = run_at_complete Spells read c filled (length bytes) at xs bytes (omega arith) h
