-- What stands in a writer after several writes.
use Rattle.std.proofs.Common.{◌≡◌, ℕ, ◌<◌, List, [], ◌++◌, inl, inr, refl, sym, ap, subst, ◌∙◌, append_assoc, append-nil, take, drop, take-append-drop, length, ◌-◌, Option, Some, None}
use Rattle.std.proofs.KnownBytes.{Appends-nil, Appends-trans}
use Rattle.std.proofs.Output.{writes_in_calls_nil, writes_in_calls_single, writes_in_calls_append}
use Rattle.std.specs.Io.KnownBytes.{Appends, Keeps}
use Rattle.jm_execute.specs.CallEnds.{took, refused}
use Rattle.jm_execute.specs.Written.{Watch, Words, AllWritten, Broken, BreaksOff, Unflushed}
use Rattle.std.specs.Prelude.{true}
use Rattle.jm_jasmin_lex.proofs.SignsOfText.{rest_whole}

-- what kept its bytes wrote none
pub kept_none : (a b : Option (List ℕ)) → Keeps a b → Appends a b []
kept_none None b h = tt
kept_none (Some xs) None h = absurd h
kept_none (Some xs) (Some ys) h = h ∙ sym (append-nil xs)

-- and the other way round
pub none_kept : (a b : Option (List ℕ)) → Appends a b [] → Keeps a b
none_kept None b h = tt
none_kept (Some xs) None h = absurd h
none_kept (Some xs) (Some ys) h = h ∙ append-nil xs

module _ {W : Type 0} (says : Words W) where
  pub nothing_written : (a : Watch W) → AllWritten says a a []
  nothing_written a = record { bytes = Appends-nil (says.contents a.inner); taken = writes_in_calls_nil _ a.inner; same = refl }

  -- by one call
  pub written_once : (a b : Watch W) (text : List ℕ) → Appends (says.contents a.inner) (says.contents b.inner) text → says.ends a.inner (took text) b.inner → b.failed ≡ a.failed → AllWritten says a b text
  written_once a b text bytes call same = record { bytes = bytes; taken = writes_in_calls_single _ a.inner text b.inner call; same = same }

  pub broken_once : (a b : Watch W) (text : List ℕ) → 0 < length text → Keeps (says.contents a.inner) (says.contents b.inner) → says.ends a.inner (refused text) b.inner → b.failed ≡ true → Broken says a b text
  broken_once a b text some kept call failed = record {
    front = [];
    rest = text;
    whole = refl;
    left = some;
    bytes = kept_none (says.contents a.inner) (says.contents b.inner) kept;
    before = a.inner;
    taken = writes_in_calls_nil _ a.inner;
    call = call;
    failed = failed;
  }

  pub written_then : (a b c : Watch W) (first second : List ℕ) → AllWritten says a b first → AllWritten says b c second → AllWritten says a c (first ++ second)
  written_then a b c first second p q = record {
    bytes = Appends-trans (says.contents a.inner) (says.contents b.inner) (says.contents c.inner) first second p.bytes q.bytes;
    taken = writes_in_calls_append _ a.inner first b.inner second c.inner p.taken q.taken;
    same = q.same ∙ p.same;
  }

  pub broken_after : (a b c : Watch W) (text done rest : List ℕ) → text ≡ done ++ rest → AllWritten says a b done → Broken says b c rest → Broken says a c text
  broken_after a b c text done rest whole p q = record {
    front = done ++ q.front;
    rest = q.rest;
    whole = whole ∙ ap (λ t. done ++ t) q.whole ∙ sym (append_assoc done q.front q.rest);
    left = q.left;
    bytes = Appends-trans (says.contents a.inner) (says.contents b.inner) (says.contents c.inner) done q.front p.bytes q.bytes;
    before = q.before;
    taken = writes_in_calls_append _ a.inner done b.inner q.front q.before p.taken q.taken;
    call = q.call;
    failed = q.failed;
  }

  unflushed_after : (a b c : Watch W) (done rest : List ℕ) → AllWritten says a b done → Unflushed says b c rest → Unflushed says a c (done ++ rest)
  unflushed_after a b c done rest p q = record {
    bytes = Appends-trans (says.contents a.inner) (says.contents b.inner) (says.contents c.inner) done rest p.bytes q.bytes;
    before = q.before;
    taken = writes_in_calls_append _ a.inner done b.inner rest q.before p.taken q.taken;
    call = q.call;
    failed = q.failed;
  }

  pub breaks_after : (a b c : Watch W) (done rest : List ℕ) → AllWritten says a b done → BreaksOff says b c rest → BreaksOff says a c (done ++ rest)
  breaks_after a b c done rest p q = elim q [
    | inl broken ↦ inl (broken_after a b c (done ++ rest) done rest refl p broken)
    | inr unflushed ↦ inr (unflushed_after a b c done rest p unflushed)
  ]

  -- bytes that are handed on
  pub handed_on : (a b c : Watch W) (text : List ℕ) → AllWritten says a b text → AllWritten says b c [] → AllWritten says a c text
  handed_on a b c text p q = subst (AllWritten says a c) (append-nil text) (written_then a b c text [] p q)

  pub not_handed_on : (a b c : Watch W) (text : List ℕ) → AllWritten says a b text → Unflushed says b c [] → BreaksOff says a c text
  not_handed_on a b c text p q = subst (BreaksOff says a c) (append-nil text) (inr (unflushed_after a b c text [] p q))

pub split_more : (text done rest : List ℕ) (n : ℕ) → text ≡ done ++ rest → text ≡ (done ++ take n rest) ++ take (length rest - n) (drop n rest)
split_more text done rest n whole =
    whole
    ∙ ap (λ t. done ++ t) (sym (take-append-drop n rest))
    ∙ sym (append_assoc done (take n rest) (drop n rest))
    ∙ ap (λ t. (done ++ take n rest) ++ t) (sym (rest_whole rest n))
