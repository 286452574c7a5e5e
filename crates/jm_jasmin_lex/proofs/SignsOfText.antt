-- The sign at an offset of a text is the one in the list of its signs.
use Rattle.std.proofs.Common.{◌≡◌, ℕ, zero, suc, ◌+◌, ◌≤◌, List, [], ◌∷◌, length, take, drop, ◌-◌, refl, sym, ap, ◌∙◌, arith, add-one, length-drop}
use Rattle.std.proofs.lemmas.List.{nil_from_length, take_all}
use Rattle.jm_jasmin_lex.specs.declared.lexer_state.Sign.TheVariants.{LineEnd}
use Rattle.jm_jasmin_lex.specs.Signs.{sign_of, signs}

next_sign : (bytes : List ℕ) (at b : ℕ) (rest : List ℕ) → drop at bytes ≡ b ∷ rest → drop at (signs bytes) ≡ sign_of b rest ∷ drop (suc at) (signs bytes)
unfolding signs
next_sign [] zero b rest e = absurd (cc)
next_sign [] (suc at) b rest e = absurd (cc)
next_sign (x ∷ bytes) zero b rest e = cc
next_sign (x ∷ bytes) (suc at) b rest e = next_sign bytes at b rest e

last_sign : (bytes : List ℕ) (at : ℕ) → at ≤ length bytes → drop at bytes ≡ [] → drop at (signs bytes) ≡ LineEnd ∷ drop (suc at) (signs bytes)
unfolding signs
last_sign [] zero le e = refl
last_sign [] (suc at) le e = absurd (omega arith)
last_sign (x ∷ bytes) zero le e = absurd (cc)
last_sign (x ∷ bytes) (suc at) le e = last_sign bytes at (omega arith) e

-- behind a byte
pub sign_next : (bytes : List ℕ) (at b : ℕ) (rest : List ℕ) → drop at bytes ≡ b ∷ rest → drop at (signs bytes) ≡ sign_of b rest ∷ drop (at + 1) (signs bytes)
sign_next bytes at b rest e = rw add-one (next_sign bytes at b rest e)

-- at the end
pub sign_end : (bytes : List ℕ) (at : ℕ) → at ≤ length bytes → drop at bytes ≡ [] → drop at (signs bytes) ≡ LineEnd ∷ drop (at + 1) (signs bytes)
sign_end bytes at le e = rw add-one (last_sign bytes at le e)

-- ---- as `&bytes[at..]` gives the rest

pub rest_whole : (bytes : List ℕ) (at : ℕ) → take (length bytes - at) (drop at bytes) ≡ drop at bytes
rest_whole bytes at = take_all (length bytes - at) (drop at bytes) (omega (arith, length-drop at bytes))

pub rest_none : (bytes : List ℕ) (at : ℕ) → length (take (length bytes - at) (drop at bytes)) ≡ 0 → drop at bytes ≡ []
rest_none bytes at e = nil_from_length (drop at bytes) (sym (ap length (rest_whole bytes at)) ∙ e)
