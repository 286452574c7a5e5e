-- What follows from the two laws for every format: one value, one end, and the answers of calls that give what a format reads.
use Rattle.std.proofs.Common.{◌≡◌, ℕ, ◌<◌, false, eqb, List, [], ◌++◌, length, Result, Ok, Err, IfOk, refl, sym, ap, subst, ◌∙◌, arith}
use Rattle.std.proofs.lemmas.Bool.{ne_eqb}
use Rattle.std.proofs.lemmas.List.{length-append}
use Rattle.jm_bytes.specs.Reading.{GivesAll}
use Rattle.jm_bytes.specs.Format.{Format, Whole, all_of}
use Rattle.jm_bytes.specs.Laws.{same_Ok, ok_pair_parts}

-- no bytes spell two values
pub one_value : {F A : Type 0} (f : Whole F A) (bytes : List ℕ) (x y : A) → f.Spells bytes x → f.Spells bytes y → x ≡ y
one_value {F} f bytes x y h k = same_Ok {F = F} x y (sym (f.complete bytes x h) ∙ f.complete bytes y k)

-- and no bytes begin with the spellings of two values
pub one_front : {F A : Type 0} (f : Format F A) (a b u v : List ℕ) (x y : A) → f.Spells a x → f.Spells b y → a ++ u ≡ b ++ v → (x ≡ y) × (u ≡ v)
one_front {F} f a b u v x y h k e = ok_pair_parts {F = F} x y u v (sym (f.complete a u x h) ∙ ap f.read e ∙ f.complete b v y k)

-- what is left where nothing may be
left_over : {A : Type 0} (xs ys : List A) → xs ++ ys ≡ [] → length ys ≡ 0
left_over xs ys e = omega (arith, ap length e, length-append xs ys)

-- a value that is spelled with bytes after it is refused as a whole, with the fault for that
pub more_refused : {F A : Type 0} (e : F) (f : Format F A) (text rest : List ℕ) (x : A) → f.Spells text x → 0 < length rest → (all_of e f).read (text ++ rest) ≡ Err e
more_refused {F} {A} e f text rest x h more =
    let read : f.read (text ++ rest) ≡ Ok (x, rest) = f.complete text rest x h in
    let some : eqb (length rest) 0 ≡ false = ne_eqb (length rest) 0 (omega arith) in
    rw (read, some) refl

-- ---- what follows for a call that gives what a format reads

-- what it gives is spelled so
pub whole_found : {F X Y : Type 0} (f : Whole F Y) (view : X → Y) (memory : F) (r : Result X F) (bytes : List ℕ) → GivesAll view memory r (f.read bytes) → IfOk r (λ x. f.Spells bytes (view x))
whole_found f view memory (Ok x) bytes h = f.sound bytes (view x) h
whole_found f view memory (Err e) bytes h = tt

-- what is spelled so is given, but for want of memory
pub whole_only : {F X Y : Type 0} (f : Whole F Y) (view : X → Y) (memory : F) (r : Result X F) (bytes : List ℕ) → GivesAll view memory r (f.read bytes) → (y : Y) → f.Spells bytes y → GivesAll view memory r (Ok y)
whole_only f view memory r bytes h y spelled = subst (λ o. GivesAll view memory r o) (f.complete bytes y spelled) h
