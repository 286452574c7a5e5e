-- The lines of stretches, one stretch and one page more.
use Rattle.std.proofs.Common.{◌≡◌, ℕ, ◌+◌, ◌-◌, ◌^◌, ◌≤◌, ◌<◌, List, [], ◌∷◌, ◌++◌, Vec, refl, sym, ap, ap₂, subst, ◌∙◌, replicate, take, get_or, append_assoc, append-nil, length, Ok, arith}
use Rattle.std.specs.List.{All}
use Rattle.std.proofs.lemmas.List.{take_all, take_more, replicate_more}
use Rattle.std.proofs.lemmas.List.Elements.{All-append, All-cons, All-head, All-nil, All-replicate, All-tail}
use Rattle.std.proofs.lemmas.Grind.{flat_map-append}
use Rattle.jm_world.specs.Schedules.{record_entries}
use Rattle.jm_world.specs.declared.event.Event.TheVariants.{Step}
use Rattle.jm_shared.specs.declared.entry.Entry.{Entry}
use Rattle.jm_shared.specs.declared.stretch.EventKind.{EventKind}
use Rattle.jm_shared.specs.declared.stretch.EventKind.TheVariants as event
use Rattle.jm_shared.specs.declared.stretch.Stretch.{Stretch}
use Rattle.jm_shared.specs.Stretches.{entries_from, entries_of, entry_in, event_of}
use Rattle.jm_shared.specs.Pages.{flat}
use Rattle.jm_shared.specs.Records.{HasThreadNumber, IsReadable, Writes, end_from, entry_line, numbered, record_text}
use Rattle.jm_shared.proofs.PageEvents.{flat_pushed}
use Rattle.jm_shared.proofs.RecordLines.{text_reads_back}

-- ---- the line of one turn more

pub line_more : (n m : ℕ) (e : Entry) (old now new : List ℕ) → m ≡ n + 1 → now ≡ old ++ record_text (replicate n e) → new ≡ now ++ entry_line e → new ≡ old ++ record_text (replicate m e)
line_more n m e old now new count so more =
    more ∙ ap (λ (t : List ℕ). t ++ entry_line e) so
    ∙ append_assoc old (record_text (replicate n e)) (entry_line e)
    ∙ ap (λ (t : List ℕ). old ++ t) (ap (λ (t : List ℕ). record_text (replicate n e) ++ t) (sym (append-nil (entry_line e))) ∙ sym (flat_map-append entry_line (replicate n e) (e ∷ [])))
    ∙ ap (λ (es : List Entry). old ++ record_text es) (replicate_more n e ∙ ap (λ k. replicate k e) (sym count))

pub one_writes : (s : Stretch) (old new : List ℕ) (start end n : ℕ) → n ≡ s.end - start → s.thread < 2 ^ 64 → end ≡ s.end → new ≡ old ++ record_text (replicate n (entry_in s)) → Writes (s ∷ []) old start new end
one_writes s old new start end n count small last so = record {
  text = so ∙ ap (λ k. old ++ record_text (replicate k (entry_in s))) count ∙ ap (λ (es : List Entry). old ++ record_text es) (sym (append-nil (replicate (s.end - start) (entry_in s))));
  turns = last;
  threads = All-cons (λ (s : Stretch). s.thread < 2 ^ 64) s [] small (All-nil (λ (s : Stretch). s.thread < 2 ^ 64));
}

-- ---- stretches behind one another

end_both : (start : ℕ) (xs ys : List Stretch) → end_from start (xs ++ ys) ≡ end_from (end_from start xs) ys
end_both start [] ys = refl
end_both start (x ∷ xs) ys = end_both x.end xs ys

entries_both : (start : ℕ) (xs ys : List Stretch) → entries_from start (xs ++ ys) ≡ entries_from start xs ++ entries_from (end_from start xs) ys
entries_both start [] ys = refl
entries_both start (x ∷ xs) ys =
    ap (λ (es : List Entry). replicate (x.end - start) (entry_in x) ++ es) (entries_both x.end xs ys)
    ∙ sym (append_assoc (replicate (x.end - start) (entry_in x)) (entries_from x.end xs) (entries_from (end_from x.end xs) ys))

pub none_writes : (ss : List Stretch) (old new : List ℕ) (start end : ℕ) → ss ≡ [] → new ≡ old → end ≡ start → Writes ss old start new end
none_writes ss old new start end none same last = subst (λ xs. Writes xs old start new end) (sym none) (record {
  text = same ∙ sym (append-nil old);
  turns = last;
  threads = All-nil (λ (s : Stretch). s.thread < 2 ^ 64);
})

pub writes_then : (xs ys : List Stretch) (a b c : List ℕ) (i j k : ℕ) → Writes xs a i b j → Writes ys b j c k → Writes (xs ++ ys) a i c k
writes_then xs ys a b c i j k p q = record {
  text =
      q.text ∙ ap (λ n. b ++ record_text (entries_from n ys)) p.turns
      ∙ ap (λ (t : List ℕ). t ++ record_text (entries_from (end_from i xs) ys)) p.text
      ∙ append_assoc a (record_text (entries_from i xs)) (record_text (entries_from (end_from i xs) ys))
      ∙ ap (λ (t : List ℕ). a ++ t) (sym (flat_map-append entry_line (entries_from i xs) (entries_from (end_from i xs) ys)))
      ∙ ap (λ (es : List Entry). a ++ record_text es) (sym (entries_both i xs ys));
  turns = q.turns ∙ ap (λ n. end_from n ys) p.turns ∙ sym (end_both i xs ys);
  threads = All-append (λ (s : Stretch). s.thread < 2 ^ 64) xs ys p.threads q.threads;
}

-- one stretch more
pub stretch_writes : (ss : List Stretch) (n : ℕ) (d : Stretch) (a b c : List ℕ) (i j k : ℕ) → n < length ss
    → Writes (get_or ss n d ∷ []) b j c k → Writes (take n ss) a i b j → Writes (take (n + 1) ss) a i c k
stretch_writes ss n d a b c i j k low more so =
    subst (λ xs. Writes xs a i c k) (sym (take_more ss n d low)) (writes_then (take n ss) (get_or ss n d ∷ []) a b c i j k so more)

module _ {A : Type 0} where
  -- one page more
  pub page_writes : (ps : List (Vec Stretch A)) (n : ℕ) (d : Vec Stretch A) (a b c : List ℕ) (i j k : ℕ) → n < length ps
      → Writes (get_or ps n d).items b j c k → Writes (flat (take n ps)) a i b j → Writes (flat (take (n + 1) ps)) a i c k
  page_writes ps n d a b c i j k low more so =
      let p = get_or ps n d in
      subst (λ xs. Writes xs a i c k) (sym (ap flat (take_more ps n d low) ∙ flat_pushed (take n ps) p)) (writes_then (flat (take n ps)) p.items a b c i j k so more)

  -- and then the page that is written on
  pub all_write : (ps : List (Vec Stretch A)) (here : List Stretch) (n : ℕ) (a b c : List ℕ) (i j k : ℕ) → length ps ≤ n
      → Writes here b j c k → Writes (flat (take n ps)) a i b j → Writes (flat ps ++ here) a i c k
  all_write ps here n a b c i j k all more so =
      writes_then (flat ps) here a b c i j k (subst (λ xs. Writes xs a i b j) (ap flat (take_all n ps all)) so) more

-- ---- the record of a journal

pub all_lines : (ss : List Stretch) (c : Stretch) (none lines all : List ℕ) (i j k : ℕ) → none ≡ [] → i ≡ 0 → Writes ss none i lines j → Writes (c ∷ []) lines j all k → all ≡ record_text (entries_of ss c)
unfolding entries_of
all_lines ss c none lines all i j k empty first some last =
    (writes_then ss (c ∷ []) none lines all i j k some last).text ∙ ap₂ (λ (t : List ℕ) (n : ℕ). t ++ record_text (entries_from n (ss ++ c ∷ []))) empty first

step_thread : (k : EventKind) (n thread : ℕ) → n < 2 ^ 64 → event_of k n ≡ Step thread → thread < 2 ^ 64
step_thread event.Step n thread small same = let is : n ≡ thread = cc in omega (arith, is, small)
step_thread event.Minor n thread small same = absurd (let no = same in cc)
step_thread event.Full n thread small same = absurd (let no = same in cc)

abbrev HasThread : Entry → Type 0
HasThread e = HasThreadNumber e.event

have_threads : (start : ℕ) (ss : List Stretch) → All (λ (s : Stretch). s.thread < 2 ^ 64) ss → All HasThread (entries_from start ss)
have_threads start [] small = All-nil HasThread
have_threads start (s ∷ ss) small =
    let own = All-head (λ (s : Stretch). s.thread < 2 ^ 64) s ss small in
    let rest = All-tail (λ (s : Stretch). s.thread < 2 ^ 64) s ss small in
    All-append HasThread (replicate (s.end - start) (entry_in s)) (entries_from s.end ss)
    (All-replicate HasThread (s.end - start) (entry_in s) (λ thread is. step_thread s.event s.thread thread own is))
    (have_threads s.end ss rest)

are_readable : (es : List Entry) → All (λ (e : Entry). e.seat ≤ 15) es → All HasThread es → All IsReadable es
are_readable [] seats threads = All-nil IsReadable
are_readable (e ∷ es) seats threads =
    let seat = All-head (λ (e : Entry). e.seat ≤ 15) e es seats in
    let thread = All-head HasThread e es threads in
    All-cons IsReadable e es (record { seat = seat; thread = thread })
    (are_readable es (All-tail (λ (e : Entry). e.seat ≤ 15) e es seats) (All-tail HasThread e es threads))

pub all_read : (ss : List Stretch) (c : Stretch) (none lines all : List ℕ) (i j k : ℕ) → none ≡ [] → i ≡ 0 → Writes ss none i lines j → Writes (c ∷ []) lines j all k
    → All (λ (e : Entry). e.seat ≤ 15) (entries_of ss c) → length (entries_of ss c) ≤ 160000000 → record_entries all ≡ Ok (numbered 1 (entries_of ss c))
unfolding entries_of
all_read ss c none lines all i j k empty first some last seats few =
    let threads = have_threads 0 (ss ++ c ∷ []) (writes_then ss (c ∷ []) none lines all i j k some last).threads in
    ap record_entries (all_lines ss c none lines all i j k empty first some last)
    ∙ text_reads_back (entries_of ss c) (are_readable (entries_of ss c) seats threads) few
