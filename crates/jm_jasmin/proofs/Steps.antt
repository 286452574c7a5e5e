-- Lines that are taken on: what comes of the state so far and the tokens that are left, at the i-th of count.
use Rattle.std.proofs.Common.{◌≡◌, ℕ, suc, ◌+◌, ◌-◌, ◌<◌, ◌≤◌, Bool, true, false, List, [], ◌∷◌, ◌++◌, Ok, Err, refl, arith, zero}
use Rattle.jm_jasmin_lex.specs.Token.{TokenParts}
use Rattle.jm_jasmin_ops.specs.declared.fault.AsmFault.{AsmFault}
use Rattle.jm_jasmin.specs.Lines.{Reading, taken_on, one_more}

pub stops : {S : Type 0} (goes_on : List TokenParts → Bool) (f : S → Reading S) (s : S) (n : ℕ) (ts : List TokenParts) → goes_on ts ≡ false → taken_on goes_on f n s ts ≡ Ok (s, ts)
unfolding taken_on
stops goes_on f s zero ts off = refl
stops goes_on f s (suc n) ts off = rw off refl

pub step_next : {S : Type 0} (goes_on : List TokenParts → Bool) (f : S → Reading S) (s : S) (count i : ℕ) (ts : List TokenParts) (t : S) (rest : List TokenParts) → i < count → goes_on ts ≡ true → f s ts ≡ Ok (t, rest)
    → taken_on goes_on f (count - i) s ts ≡ taken_on goes_on f (count - (i + 1)) t rest
unfolding taken_on
step_next goes_on f s count i ts t rest lt on h =
    let k : count - i ≡ suc (count - (i + 1)) = omega arith in
    rw (k, on, h) refl

pub step_fault : {S : Type 0} (goes_on : List TokenParts → Bool) (f : S → Reading S) (s : S) (count i : ℕ) (ts : List TokenParts) (e : AsmFault) → i < count → goes_on ts ≡ true → f s ts ≡ Err e
    → taken_on goes_on f (count - i) s ts ≡ Err e
unfolding taken_on
step_fault goes_on f s count i ts e lt on h =
    let k : count - i ≡ suc (count - (i + 1)) = omega arith in
    rw (k, on, h) refl

pub step_stop : {S : Type 0} (goes_on : List TokenParts → Bool) (f : S → Reading S) (s : S) (count i : ℕ) (ts : List TokenParts) → goes_on ts ≡ false → taken_on goes_on f (count - i) s ts ≡ Ok (s, ts)
step_stop goes_on f s count i ts off = stops goes_on f s (count - i) ts off

pub step_done : {S : Type 0} (goes_on : List TokenParts → Bool) (f : S → Reading S) (s : S) (count i : ℕ) (ts : List TokenParts) → count ≤ i → taken_on goes_on f (count - i) s ts ≡ Ok (s, ts)
unfolding taken_on
step_done goes_on f s count i ts le =
    let k : count - i ≡ 0 = omega arith in
    rw k refl

pub more_next : {A : Type 0} (read : Reading A) (xs : List A) (ts : List TokenParts) (x : A) (rest : List TokenParts) → read ts ≡ Ok (x, rest) → one_more read xs ts ≡ Ok (xs ++ x ∷ [], rest)
unfolding one_more
more_next read xs ts x rest h = rw h refl

pub more_fault : {A : Type 0} (read : Reading A) (xs : List A) (ts : List TokenParts) (e : AsmFault) → read ts ≡ Err e → one_more read xs ts ≡ Err e
unfolding one_more
more_fault read xs ts e h = rw h refl

-- a list that grows by what each step reads

pub list_next : {A : Type 0} (goes_on : List TokenParts → Bool) (read : Reading A) (xs : List A) (count i : ℕ) (ts : List TokenParts) (x : A) (rest : List TokenParts) → i < count → goes_on ts ≡ true → read ts ≡ Ok (x, rest)
    → taken_on goes_on (one_more read) (count - i) xs ts ≡ taken_on goes_on (one_more read) (count - (i + 1)) (xs ++ x ∷ []) rest
list_next goes_on read xs count i ts x rest lt on h = step_next goes_on (one_more read) xs count i ts (xs ++ x ∷ []) rest lt on (more_next read xs ts x rest h)

pub list_fault : {A : Type 0} (goes_on : List TokenParts → Bool) (read : Reading A) (xs : List A) (count i : ℕ) (ts : List TokenParts) (e : AsmFault) → i < count → goes_on ts ≡ true → read ts ≡ Err e
    → taken_on goes_on (one_more read) (count - i) xs ts ≡ Err e
list_fault goes_on read xs count i ts e lt on h = step_fault goes_on (one_more read) xs count i ts e lt on (more_fault read xs ts e h)

pub ruleset steps = (list_next, step_stop, step_done)

pub ruleset body_steps = (step_next, step_stop, step_done)
