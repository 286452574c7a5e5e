-- How many words there are.
use Rattle.std.proofs.Common.{◌≡◌, ℕ, List, [], ◌∷◌, Option, Some, None, refl}
use Rattle.jm_schedule.proofs.Splits.{parts_some}
use Rattle.jm_debug.specs.Commands.{Fails, words_of, no_word, one_word, two_words}
use Rattle.jm_debug.specs.declared.fault.DebugFault.{DebugFault}
use Rattle.jm_debug.specs.declared.fault.DebugFault.TheVariants.{BadCommand, NoSuch, OutOfMemory}

some_of : (words : List (List ℕ)) → (words ≡ [] → ⊥) → no_word words ≡ None
some_of [] some = absurd (some refl)
some_of (w ∷ words) some = refl

-- each text has a word, be it empty
pub some_word : (line : List ℕ) → no_word (words_of line) ≡ None
some_word line = some_of (words_of line) (parts_some 32 line)

-- nothing fails with something
pub fails_not : {X Y : Type 0} (fault : DebugFault) (x : X) (denoted : Option Y) → Fails fault (Some x) → Fails fault denoted
fails_not BadCommand x denoted fails = absurd (cc fails)
fails_not NoSuch x denoted fails = fails
fails_not OutOfMemory x denoted fails = tt

pub one_alone : (w : List ℕ) (words : List (List ℕ)) → no_word words ≡ Some tt → one_word (w ∷ words) ≡ Some w
one_alone w [] none = refl
one_alone w (v ∷ words) none = cc

pub not_alone : (fault : DebugFault) (w : List ℕ) (words : List (List ℕ)) → Fails fault (no_word words) → Fails fault (one_word (w ∷ words))
not_alone fault w [] fails = fails_not fault tt (one_word (w ∷ [])) fails
not_alone BadCommand w (v ∷ words) fails = refl
not_alone NoSuch w (v ∷ words) fails = fails
not_alone OutOfMemory w (v ∷ words) fails = tt

pub two_alone : (v w : List ℕ) (words : List (List ℕ)) → one_word words ≡ Some w → two_words (v ∷ words) ≡ Some (v, w)
two_alone v w [] one = cc
two_alone v w (u ∷ []) one = cc
two_alone v w (u ∷ t ∷ words) one = cc

pub not_two : (fault : DebugFault) (v : List ℕ) (words : List (List ℕ)) → Fails fault (one_word words) → Fails fault (two_words (v ∷ words))
not_two BadCommand v [] fails = refl
not_two NoSuch v [] fails = fails
not_two OutOfMemory v [] fails = tt
not_two fault v (u ∷ []) fails = fails_not fault u (two_words (v ∷ u ∷ [])) fails
not_two BadCommand v (u ∷ t ∷ words) fails = refl
not_two NoSuch v (u ∷ t ∷ words) fails = fails
not_two OutOfMemory v (u ∷ t ∷ words) fails = tt
