-- What stands in a writer after pieces of a text.
use Rattle.std.proofs.Common.{◌≡◌, ℕ, List, [], ◌∷◌, ◌++◌, Option, Some, None, refl, sym, ap, subst, ◌∙◌, append_assoc, append-nil}
use Rattle.std.specs.Fmt.{WritesInCalls}
use Rattle.std.specs.Io.KnownBytes.{Appends}
use Rattle.std.specs.List.{FoldsTo, concat}
use Rattle.jm_execute.specs.Written.{AllWritten, Broken, Watch, Words}

none_appended : (a : Option (List ℕ)) → Appends a a []
none_appended None = tt
none_appended (Some xs) = sym (append-nil xs)

both_appended : (a b c : Option (List ℕ)) (front rest : List ℕ) → Appends a b front → Appends b c rest → Appends a c (front ++ rest)
both_appended None b c front rest p q = tt
both_appended (Some xs) None c front rest p q = absurd p
both_appended (Some xs) (Some ys) None front rest p q = absurd q
both_appended (Some xs) (Some ys) (Some zs) front rest p q = q ∙ ap (λ t. t ++ rest) p ∙ append_assoc xs front rest

concat_both : (xs ys : List (List ℕ)) → concat (xs ++ ys) ≡ concat xs ++ concat ys
concat_both [] ys = refl
concat_both (x ∷ xs) ys = ap (λ (t : List ℕ). x ++ t) (concat_both xs ys) ∙ sym (append_assoc x (concat xs) (concat ys))

-- calls, one after the other
module _ {W : Type 0} (call : W → List ℕ → W → Type 0) where
  in_a_row : (a : W) (xs : List (List ℕ)) (b : W) (ys : List (List ℕ)) (c : W) → FoldsTo call a xs b → FoldsTo call b ys c → FoldsTo call a (xs ++ ys) c
  in_a_row a [] b ys c p q = subst (λ w. FoldsTo call w ys c) (sym p) q
  in_a_row a (x ∷ xs) b ys c p q = (p.0, p.1, in_a_row p.0 xs b ys c p.2 q)

  no_calls : (a : W) → WritesInCalls call a [] a
  no_calls a = record { parts = []; calls = refl; whole = refl }

  all_calls : (a : W) (front : List ℕ) (b : W) (rest : List ℕ) (c : W) → WritesInCalls call a front b → WritesInCalls call b rest c → WritesInCalls call a (front ++ rest) c
  all_calls a front b rest c p q = record {
    parts = p.parts ++ q.parts;
    calls = in_a_row a p.parts b q.parts c p.calls q.calls;
    whole = concat_both p.parts q.parts ∙ ap (λ (t : List ℕ). t ++ concat q.parts) p.whole ∙ ap (λ (t : List ℕ). front ++ t) q.whole;
  }

module _ {W : Type 0} (says : Words W) where
  pub none_written : (a : Watch W) → AllWritten says a a []
  none_written a = record { bytes = none_appended (says.contents a.inner); taken = no_calls _ a.inner; same = refl }

  pub more_written : (a b c : Watch W) (front rest : List ℕ) → AllWritten says a b front → AllWritten says b c rest → AllWritten says a c (front ++ rest)
  more_written a b c front rest p q = record {
    bytes = both_appended (says.contents a.inner) (says.contents b.inner) (says.contents c.inner) front rest p.bytes q.bytes;
    taken = all_calls _ a.inner front b.inner rest c.inner p.taken q.taken;
    same = q.same ∙ p.same;
  }

  pub broken_behind : (a b c : Watch W) (front rest : List ℕ) → AllWritten says a b front → Broken says b c rest → Broken says a c (front ++ rest)
  broken_behind a b c front rest p q = record {
    front = front ++ q.front;
    rest = q.rest;
    whole = ap (λ (t : List ℕ). front ++ t) q.whole ∙ sym (append_assoc front q.front q.rest);
    left = q.left;
    bytes = both_appended (says.contents a.inner) (says.contents b.inner) (says.contents c.inner) front q.front p.bytes q.bytes;
    before = q.before;
    taken = all_calls _ a.inner front b.inner q.front q.before p.taken q.taken;
    call = q.call;
    failed = q.failed;
  }
