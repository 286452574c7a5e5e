-- What a format reads from the front leaves the bytes after those that spell the value.
use Rattle.std.proofs.Common.{◌≡◌, ℕ, ◌+◌, ◌-◌, ◌≤◌, List, ◌++◌, length, take, drop, Result, Ok, Err, IfOk, sym, subst, ◌∙◌, ap, arith}
use Rattle.std.proofs.lemmas.List.{take_at, drop_at, length-append, length-drop}
use Rattle.jm_bytes.specs.Format.{Format}
use Rattle.jm_pool.specs.Fronts.{GivesFront}

-- what is left is the end of the bytes
pub rest_is : {F A : Type 0} (f : Format F A) (bytes rest : List ℕ) (v : A) → f.read bytes ≡ Ok (v, rest) → (length rest ≤ length bytes) × (drop (length bytes - length rest) bytes ≡ rest)
rest_is f bytes rest v h =
    let p = f.sound bytes v rest h in
    let few : length bytes ≡ length p.0 + length rest = ap length p.1 ∙ length-append p.0 rest in
    let taken : length p.0 ≡ length bytes - length rest = omega arith in
    (omega arith, rw p.1 (drop_at p.0 rest (length (p.0 ++ rest) - length rest) (omega (arith, length-append p.0 rest))))

-- what a call gave is spelled by the bytes that it took
pub front_found : {F A : Type 0} (f : Format F A) (memory : F) (r : Result (A × ℕ) F) (bytes : List ℕ) → GivesFront memory r bytes (f.read bytes) → IfOk r (λ x. f.Spells (take x.1 bytes) x.0)
front_found f memory (Ok x) bytes h =
    let p = f.sound bytes x.0 (drop x.1 bytes) h.1 in
    let few : length bytes ≡ length p.0 + length (drop x.1 bytes) = ap length p.1 ∙ length-append p.0 (drop x.1 bytes) in
    let size : length p.0 ≡ x.1 = omega (arith, few, length-drop x.1 bytes, h.0) in
    let text : take x.1 bytes ≡ p.0 = ap (take x.1) p.1 ∙ take_at p.0 (drop x.1 bytes) x.1 size in
    subst (λ t. f.Spells t x.0) (sym text) p.2
front_found f memory (Err e) bytes h = tt

-- and what the bytes begin to spell is given, but for want of memory
pub front_only : {F A : Type 0} (f : Format F A) (memory : F) (r : Result (A × ℕ) F) (bytes : List ℕ) → GivesFront memory r bytes (f.read bytes)
    → (text rest : List ℕ) (v : A) → bytes ≡ text ++ rest → f.Spells text v → GivesFront memory r bytes (Ok (v, rest))
front_only f memory r bytes h text rest v parts spelled =
    let read : f.read bytes ≡ Ok (v, rest) = ap f.read parts ∙ f.complete text rest v spelled in
    subst (λ o. GivesFront memory r bytes o) read h

-- a reader that has n bytes left of those that it began with has taken all before them
pub took : {F A : Type 0} (f : Format F A) (bytes start rest : List ℕ) (v : A) (n : ℕ) → start ≡ bytes → n ≡ length rest → f.read start ≡ Ok (v, rest)
    → (n ≤ length bytes) × (length bytes - n ≤ length bytes) × (f.read bytes ≡ Ok (v, drop (length bytes - n) bytes))
took {F} {A} f bytes start rest v n from left h =
    let read : f.read bytes ≡ Ok (v, rest) = ap f.read (sym from) ∙ h in
    let p = rest_is f bytes rest v read in
    let same : drop (length bytes - n) bytes ≡ rest = rw left p.1 in
    (omega (arith, p.0), omega arith, read ∙ ap (λ (r : List ℕ). Ok (v, r)) (sym same))
