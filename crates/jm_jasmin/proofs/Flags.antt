-- The flags so far, and those of the words that are left, at the i-th.
use Rattle.std.proofs.Common.{◌≡◌, ℕ, suc, ◌+◌, ◌<◌, ◌≤◌, List, ◌∷◌, length, get_or, drop, Result, Ok, Err, sym, ap, ◌∙◌, add-one, arith, length-drop, drop-cons}
use Rattle.std.specs.Prelude.{bit_or}
use Rattle.std.proofs.lemmas.List.{nil_from_length}
use Rattle.jm_bytes.specs.Reading.{and_then}
use Rattle.jm_jasmin_lex.specs.Token.{TokenParts}
use Rattle.jm_jasmin_ops.specs.declared.fault.AsmFault.{AsmFault}
use Rattle.jm_jasmin.specs.Words.{flag_of, flags_from}

at_word : (bits : ℕ) (ts : List TokenParts) (i : ℕ) (t d : TokenParts) → i < length ts → t ≡ get_or ts i d → flags_from bits (drop i ts) ≡ and_then (flag_of t) (λ mask. flags_from (bit_or bits mask) (drop (i + 1) ts))
unfolding flags_from
at_word bits ts i t d lt is =
    let here : drop i ts ≡ t ∷ drop (i + 1) ts = drop-cons ts i d lt ∙ rw add-one (ap (λ (z : TokenParts). z ∷ drop (suc i) ts) (sym is)) in
    ap (flags_from bits) here

pub flags_next : (bits : ℕ) (ts : List TokenParts) (i : ℕ) (t d : TokenParts) (mask : ℕ) → i < length ts → t ≡ get_or ts i d → flag_of t ≡ Ok mask → flags_from bits (drop i ts) ≡ flags_from (bit_or bits mask) (drop (i + 1) ts)
flags_next bits ts i t d mask lt is h = at_word bits ts i t d lt is ∙ ap (λ (o : Result ℕ AsmFault). and_then o (λ mask. flags_from (bit_or bits mask) (drop (i + 1) ts))) h

pub flags_fault : (bits : ℕ) (ts : List TokenParts) (i : ℕ) (t d : TokenParts) (e : AsmFault) → i < length ts → t ≡ get_or ts i d → flag_of t ≡ Err e → flags_from bits (drop i ts) ≡ Err e
flags_fault bits ts i t d e lt is h = at_word bits ts i t d lt is ∙ ap (λ (o : Result ℕ AsmFault). and_then o (λ mask. flags_from (bit_or bits mask) (drop (i + 1) ts))) h

pub flags_done : (bits : ℕ) (ts : List TokenParts) (i : ℕ) → length ts ≤ i → flags_from bits (drop i ts) ≡ Ok bits
unfolding flags_from
flags_done bits ts i le = ap (flags_from bits) (nil_from_length (drop i ts) (omega (arith, length-drop i ts)))

pub ruleset flag_steps = (flags_next, flags_done)
