-- The lines of some bytes, one line more, and what a reader gave so far.
use Rattle.std.proofs.Common.{◌≡◌, ◌≢◌, ◌==◌, ℕ, ◌+◌, ◌<◌, ◌≤◌, List, [], ◌∷◌, ◌++◌, refl, sym, ap, subst, ◌∙◌, arith, append_assoc, append-nil, length, take, drop, take-append-drop, get_or, Some, None, Err, Bool, true, false, cond, ltb, ◌*◌, ◌-◌, ◌^◌, min, zero, suc}
use Rattle.std.specs.Prelude.{not}
use Rattle.std.specs.List.{position, position_or_len}
use Rattle.std.proofs.lemmas.Bool.{eqb-false, ne_eqb}
use Rattle.std.proofs.lemmas.Grind.{common_steps}
use Rattle.std.proofs.lemmas.List.{drop_more, get_or-take}
use Rattle.std.proofs.lemmas.List.Elements.{All-append, All-from_get_or, All-head, All-tail}
use Rattle.std.proofs.lemmas.List.Quantifiers.{position-Some}
use Rattle.std.proofs.lemmas.List.Sums.{prefix_len_passes}
use Rattle.std.proofs.KnownBytes.{Consumes-nil, Consumes-trans}
use Rattle.jm_program.proofs.Truths.{not_true}
use Rattle.jm_execute.specs.Lines.{IsWithinLine, MovesLine, led_by, lines_in}
use Rattle.jm_execute.specs.LineReading.{ReadsLine, ReadsMore}
use Rattle.jm_execute.specs.Written.{HasRead, ReadingBroke, Reads, Watch}
use Rattle.jm_execute.specs.declared.lines.LineFault.{LineFault}
use Rattle.jm_execute.specs.declared.lines.LineFault.TheVariants.{ReadFailed, OutOfMemory}

-- ---- the first line feed

abbrev is_feed : ℕ → Bool
is_feed byte = byte == 10

no_feed : (b : ℕ) → is_feed b ≡ false → b ≢ 10
no_feed b h = eqb-false b 10 h

feed : (b : ℕ) → is_feed b ≡ true → b ≡ 10
feed b h = grind (arith, h)

shorter : (n : ℕ) (bytes : List ℕ) → length (take n bytes) ≤ n
shorter n bytes = grind (arith, common_steps)

-- where it is, what stands before it and behind it
pub at_feed : (bytes : List ℕ) (i : ℕ) → position is_feed bytes ≡ Some i → (i < length bytes) × IsWithinLine (take i bytes) × (bytes ≡ take i bytes ++ 10 ∷ drop (i + 1) bytes)
at_feed bytes i h =
    let there = position-Some is_feed bytes i 0 h in
    let within = there.0 in
    let before : (k : ℕ) → k < length (take i bytes) → get_or (take i bytes) k 0 ≢ 10 = λ k l.
    let k_before : k < i = omega (arith, shorter i bytes, l) in
    no_feed (get_or (take i bytes) k 0) (ap is_feed (get_or-take i bytes k 0 k_before) ∙ there.2 k k_before) in (
      within,
      All-from_get_or (λ byte. byte ≢ 10) (take i bytes) 0 before,
      sym (take-append-drop i bytes) ∙ ap (λ rest. take i bytes ++ rest) (drop_more bytes i 0 within ∙ ap (λ b. b ∷ drop (i + 1) bytes) (feed (get_or bytes i 0) there.1)),
    )

none_where_past : (a n : ℕ) → cond (ltb a n) (Some a) None ≡ None → n ≤ a
none_where_past a n h = grind (arith, h)

-- there is none
pub without_feed : (bytes : List ℕ) → position is_feed bytes ≡ None → IsWithinLine bytes
without_feed bytes h =
    let past = none_where_past (position_or_len is_feed bytes) (length bytes) h in
    All-from_get_or (λ byte. byte ≢ 10) bytes 0 (λ k l. no_feed (get_or bytes k 0) (not_true _ (prefix_len_passes (λ b. not (is_feed b)) bytes k 0 (omega (arith, past, l)))))

-- ---- bytes that are moved

behind_feed : (items : List ℕ) (at n : ℕ) → drop n (drop at items) ≡ drop (at + n) items
behind_feed items at n = grind (arith, common_steps)

nothing_behind : (items : List ℕ) (n : ℕ) → n ≡ length items → drop n items ≡ []
nothing_behind items n h = grind (arith, common_steps)

pub line_moved : (items : List ℕ) (at count : ℕ) (part unread line longer : List ℕ) → part ≡ unread → drop at items ≡ unread → position is_feed part ≡ Some count → longer ≡ line ++ take count part
    → MovesLine true unread line (drop (at + (count + 1)) items) longer
line_moved items at count part unread line longer same view found moved =
    let there = at_feed unread count (ap (position is_feed) (sym same) ∙ found) in
    let rest = ap (λ bytes. take count unread ++ 10 ∷ bytes) (ap (drop (count + 1)) (sym view) ∙ behind_feed items at (count + 1)) in
    (take count unread, there.1, there.2 ∙ rest, moved ∙ ap (λ bytes. line ++ take count bytes) same)

pub all_moved : (items : List ℕ) (n : ℕ) (part unread line longer : List ℕ) → part ≡ unread → position is_feed part ≡ None → n ≡ length items → longer ≡ line ++ part
    → MovesLine false unread line (drop n items) longer
all_moved items n part unread line longer same none end moved =
    (without_feed unread (ap (position is_feed) (sym same) ∙ none), nothing_behind items n end, moved ∙ ap (λ bytes. line ++ bytes) same)

-- ---- lines

led_from : (b : ℕ) (bytes : List ℕ) → b ≢ 10 → lines_in (b ∷ bytes) ≡ led_by b (lines_in bytes)
led_from b bytes other = ap (λ (t : Bool). cond t ([] ∷ lines_in bytes) (led_by b (lines_in bytes))) (ne_eqb b 10 other)

-- a line and its line feed, in front of other lines
pub line_first : (line rest : List ℕ) → IsWithinLine line → lines_in (line ++ 10 ∷ rest) ≡ line ∷ lines_in rest
line_first [] rest within = refl
line_first (b ∷ line) rest within =
    led_from b (line ++ 10 ∷ rest) (All-head (λ byte. byte ≢ 10) b line within)
    ∙ ap (led_by b) (line_first line rest (All-tail (λ byte. byte ≢ 10) b line within))

-- a last line without one
pub last_line : (b : ℕ) (line : List ℕ) → IsWithinLine (b ∷ line) → lines_in (b ∷ line) ≡ (b ∷ line) ∷ []
last_line b [] within = led_from b [] (All-head (λ byte. byte ≢ 10) b [] within)
last_line b (c ∷ line) within =
    let rest = All-tail (λ byte. byte ≢ 10) b (c ∷ line) within in
    led_from b (c ∷ line) (All-head (λ byte. byte ≢ 10) b (c ∷ line) within) ∙ ap (led_by b) (last_line c line rest)

-- one line more behind those that were read
pub line_more : (given unread rest bytes line : List ℕ) (before : List (List ℕ)) → ((more : List ℕ) → lines_in (given ++ more) ≡ before ++ lines_in (unread ++ more))
    → unread ++ bytes ≡ line ++ 10 ∷ rest → IsWithinLine line → (more : List ℕ) → lines_in ((given ++ bytes) ++ more) ≡ (before ++ line ∷ []) ++ lines_in (rest ++ more)
line_more given unread rest bytes line before so_far whole within more =
    let behind : unread ++ (bytes ++ more) ≡ line ++ 10 ∷ (rest ++ more) =
    sym (append_assoc unread bytes more) ∙ ap (λ bs. bs ++ more) whole ∙ append_assoc line (10 ∷ rest) more in
    ap lines_in (append_assoc given bytes more)
    ∙ so_far (bytes ++ more)
    ∙ ap (λ bs. before ++ lines_in bs) behind
    ∙ ap (λ ls. before ++ ls) (line_first line (rest ++ more) within)
    ∙ sym (append_assoc before (line ∷ []) (lines_in (rest ++ more)))

-- ---- readers

module _ {R : Type 0} (says : Reads R) where
  pub nothing_read : (a : Watch R) → HasRead says [] a a
  nothing_read a = record { bytes = Consumes-nil (says.remaining a.inner); same = refl }

  pub read_then : (a b c : Watch R) (first second : List ℕ) → HasRead says first a b → HasRead says second b c → HasRead says (first ++ second) a c
  read_then a b c first second p q = record { bytes = Consumes-trans _ _ _ first second p.bytes q.bytes; same = q.same ∙ p.same }

  pub broke_then : (a b c : Watch R) (first second : List ℕ) → HasRead says first a b → ReadingBroke says second b c → ReadingBroke says (first ++ second) a c
  broke_then a b c first second p q = record { bytes = Consumes-trans _ _ _ first second p.bytes q.bytes; before = q.before; call = q.call; failed = q.failed }

pub within_both : (xs ys : List ℕ) → IsWithinLine xs → IsWithinLine ys → IsWithinLine (xs ++ ys)
within_both xs ys p q = All-append (λ byte. byte ≢ 10) xs ys p q

-- ---- a line that is longer than what was read so far

-- all of what was unread is in the line
pub moved_whole : (first bytes line unread rest longer : List ℕ) → first ++ bytes ≡ line ++ unread → MovesLine false unread line rest longer → IsWithinLine line → (first ++ bytes ≡ longer) × IsWithinLine longer
moved_whole first bytes line unread rest longer whole moved within =
    (whole ∙ sym moved.2, subst IsWithinLine (sym moved.2) (within_both line unread within moved.0))

pub read_behind : (first bytes longer more : List ℕ) → first ++ bytes ≡ longer → first ++ (bytes ++ more) ≡ longer ++ more
read_behind first bytes longer more whole = sym (append_assoc first bytes more) ∙ ap (λ bs. bs ++ more) whole

-- each turn comes nearer to the most bytes that there are
pub nearer : (size length_now size_then length_then : ℕ) → size_then ≡ size + length_now → 0 < length_then → size < 2 ^ 63
    → 2 ^ 64 - (2 * size_then + min 1 length_then) < 2 ^ 64 - (2 * size + min 1 length_now)
nearer size zero size_then (suc n) more some small = omega (arith, more, small)
nearer size (suc m) size_then (suc n) more some small = omega (arith, more, small)
nearer size length_now size_then zero more some small = absurd (omega (arith, some))

module _ {R : Type 0} (says : Reads R) where
  pub line_broken : (fault : LineFault) (first bytes longer new : List ℕ) (a b c : Watch R) → HasRead says bytes a b → ReadsMore says (Err fault) new b c
      → first ++ bytes ≡ longer → IsWithinLine longer → ReadsLine says (Err fault) first new a c
  line_broken ReadFailed first bytes longer new a b c read broke whole within =
      (bytes ++ [], broke_then says a b c bytes [] read broke, subst IsWithinLine (sym (ap (λ bs. first ++ bs) (append-nil bytes) ∙ whole)) within)
  line_broken OutOfMemory first bytes longer new a b c read more whole within = (bytes ++ more.0, read_then says a b c bytes more.0 read more.1)
