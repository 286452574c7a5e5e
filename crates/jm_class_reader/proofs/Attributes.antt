-- An attribute that is read whole: its length and bytes, and then what all of them spell.
use Rattle.std.proofs.Common.{◌≡◌, ℕ, List, Bool, true, false, Result, Ok, Err, ◌==◌, if◌then◌else◌, length, refl, sym, ap, ◌∙◌}
use Rattle.std.specs.Option.{ok_or}
use Rattle.std.specs.Int.{w32}
use Rattle.jm_bytes.specs.Reading.{and_then, number_at, bytes_at}
use Rattle.jm_bytes.specs.Format.{Format, all_of}
use Rattle.jm_class_format.specs.declared.read_fault.ReadFault.{ReadFault}
use Rattle.jm_class_format.specs.declared.read_fault.ReadFault.TheVariants as fault
use Rattle.jm_class_format.specs.CodeAttribute.{skipped_info, whole_info}

assoc : {F A B C : Type 0} (o : Result A F) (f : A → Result B F) (g : B → Result C F) → and_then (and_then o f) g ≡ and_then o (λ x. and_then (f x) g)
assoc (Ok x) f g = refl
assoc (Err e) f g = refl

-- what all of the bytes of the attribute come to
abbrev inside : {A : Type 0} → Format ReadFault A → List ℕ × List ℕ → Result (A × List ℕ) ReadFault
inside body x = and_then ((all_of fault.BadAttribute body).read x.0) (λ v. Ok (v, x.1))

info_read : {A : Type 0} (cut : ReadFault) (body : Format ReadFault A) (bytes : List ℕ) → (whole_info cut body).read bytes ≡ and_then ((skipped_info cut).read bytes) (inside body)
unfolding whole_info skipped_info
info_read cut body bytes = sym (assoc (ok_or (number_at w32 bytes) cut) (λ x. ok_or (bytes_at x.0 x.1) cut) (inside body))

-- the bytes of the file end before the attribute does
pub info_cut : {A : Type 0} (cut : ReadFault) (body : Format ReadFault A) (bytes : List ℕ) (e : ReadFault) → (skipped_info cut).read bytes ≡ Err e → (whole_info cut body).read bytes ≡ Err e
info_cut cut body bytes e h = info_read cut body bytes ∙ ap (λ o. and_then o (inside body)) h

-- its own bytes spell nothing
pub info_fault : {A : Type 0} (cut : ReadFault) (body : Format ReadFault A) (bytes info rest : List ℕ) (e : ReadFault) → (skipped_info cut).read bytes ≡ Ok (info, rest) → body.read info ≡ Err e
    → (whole_info cut body).read bytes ≡ Err e
info_fault {A} cut body bytes info rest e h k =
    info_read cut body bytes ∙ ap (λ o. and_then o (inside body)) h
    ∙ ap (λ (o : Result (A × List ℕ) ReadFault). and_then (and_then o (λ x. if length x.1 == 0 then Ok x.0 else Err fault.BadAttribute)) (λ (v : A). Ok (v, rest))) k

cases : {A : Type 0} (b : Bool) (v : A) (rest : List ℕ) → and_then {B = A × List ℕ} (if b then Ok v else Err fault.BadAttribute) (λ (v : A). Ok (v, rest)) ≡ (if b then Ok (v, rest) else Err fault.BadAttribute)
cases true v rest = refl
cases false v rest = refl

-- what they spell is followed by others, or by none
pub info_ends : {A : Type 0} (cut : ReadFault) (body : Format ReadFault A) (bytes info rest left : List ℕ) (v : A) → (skipped_info cut).read bytes ≡ Ok (info, rest) → body.read info ≡ Ok (v, left)
    → (whole_info cut body).read bytes ≡ (if length left == 0 then Ok (v, rest) else Err fault.BadAttribute)
info_ends {A} cut body bytes info rest left v h k =
    info_read cut body bytes ∙ ap (λ o. and_then o (inside body)) h
    ∙ ap (λ (o : Result (A × List ℕ) ReadFault). and_then (and_then o (λ x. if length x.1 == 0 then Ok x.0 else Err fault.BadAttribute)) (λ (v : A). Ok (v, rest))) k
    ∙ cases (length left == 0) v rest

pub info_found : {A : Type 0} (cut : ReadFault) (body : Format ReadFault A) (bytes info rest left : List ℕ) (v : A) → (skipped_info cut).read bytes ≡ Ok (info, rest) → body.read info ≡ Ok (v, left) → (length left == 0) ≡ true
    → (whole_info cut body).read bytes ≡ Ok (v, rest)
info_found {A} cut body bytes info rest left v h k all = info_ends cut body bytes info rest left v h k ∙ ap (λ (b : Bool). if b then Ok (v, rest) else Err fault.BadAttribute) all

pub info_longer : {A : Type 0} (cut : ReadFault) (body : Format ReadFault A) (bytes info rest left : List ℕ) (v : A) → (skipped_info cut).read bytes ≡ Ok (info, rest) → body.read info ≡ Ok (v, left) → (length left == 0) ≡ false
    → (whole_info cut body).read bytes ≡ Err fault.BadAttribute
info_longer {A} cut body bytes info rest left v h k some = info_ends cut body bytes info rest left v h k ∙ ap (λ (b : Bool). if b then Ok (v, rest) else Err fault.BadAttribute) some

pub ruleset whole_info_steps = (info_cut, info_fault, info_found, info_longer)
