-- What is written of a section, a change, an event or a run is written of no other.
use Rattle.std.proofs.Common.{◌≡◌, ◌≢◌, ℕ, ◌+◌, List, [], ◌∷◌, ◌++◌, length, drop, refl, sym, ap, ◌∙◌, arith, append_assoc, append-nil}
use Rattle.std.specs.Prelude.{Bool, true, false, nat_eq, if◌then◌else◌}
use Rattle.std.specs.List.{flat_map}
use Rattle.jm_page.specs.Escapes.{escaped, joined, escaped_byte}
use Rattle.jm_page.specs.Sections.{Part, Change, delta}
use Rattle.jm_page.specs.Data.{line_of, part_text, gone_text, change_text, output_text, head_text, event_text, row_text}
use Rattle.jm_page.specs.Filming.{FilmView, Moment, Told, behind, all_told, event_told, events_told}
use Rattle.jm_page.specs.declared.row.Row.TheVariants.{End}
use Rattle.jm_page.proofs.Unique.{one_escaped, one_joined}

-- ---- a line

line_opened : (first : ℕ) (text rest : List ℕ) → line_of first text ++ rest ≡ first ∷ (escaped text ++ 10 ∷ rest)
unfolding line_of
line_opened first text rest =
    append_assoc (first ∷ [] ++ escaped text) (10 ∷ []) rest ∙ append_assoc (first ∷ []) (escaped text) (10 ∷ rest)

one_line : (first : ℕ) (a b u v : List ℕ) → line_of first a ++ u ≡ line_of first b ++ v → (a ≡ b) × (u ≡ v)
one_line first a b u v e =
    let opened : first ∷ (escaped a ++ 10 ∷ u) ≡ first ∷ (escaped b ++ 10 ∷ v) = sym (line_opened first a u) ∙ e ∙ line_opened first b v in
    one_escaped 10 (omega arith) a b u v cc

-- ---- a section

part_opened : (p : Part) (rest : List ℕ) → part_text p ++ rest ≡ 43 ∷ (escaped p.key ++ 9 ∷ (joined p.text ++ 10 ∷ rest))
unfolding part_text
part_opened p rest =
    append_assoc (43 ∷ [] ++ escaped p.key ++ 9 ∷ [] ++ joined p.text) (10 ∷ []) rest
    ∙ append_assoc (43 ∷ [] ++ escaped p.key ++ 9 ∷ []) (joined p.text) (10 ∷ rest)
    ∙ append_assoc (43 ∷ [] ++ escaped p.key) (9 ∷ []) (joined p.text ++ 10 ∷ rest)
    ∙ append_assoc (43 ∷ []) (escaped p.key) (9 ∷ (joined p.text ++ 10 ∷ rest))

same_part : (p q : Part) → p.key ≡ q.key → p.text ≡ q.text → p ≡ q
same_part p q key text = ap (λ k. record { key = k; text = p.text }) key ∙ ap (λ t. record { key = q.key; text = t }) text

one_part : (p q : Part) (u v : List ℕ) → part_text p ++ u ≡ part_text q ++ v → (p ≡ q) × (u ≡ v)
one_part p q u v e =
    let opened : 43 ∷ (escaped p.key ++ 9 ∷ (joined p.text ++ 10 ∷ u)) ≡ 43 ∷ (escaped q.key ++ 9 ∷ (joined q.text ++ 10 ∷ v)) =
    sym (part_opened p u) ∙ e ∙ part_opened q v in
    let keys = one_escaped 9 (omega arith) p.key q.key (joined p.text ++ 10 ∷ u) (joined q.text ++ 10 ∷ v) cc in
    let texts = one_joined p.text q.text u v keys.1 in
    (same_part p q keys.0 texts.0, texts.1)

-- ---- what follows

abbrev first_of : List ℕ → ℕ
first_of [] = 0
first_of (x ∷ xs) = x

-- bytes that begin neither a section, nor a key that is gone, nor output
pub record Ends (rest : List ℕ) : Type 0 where
  pub no_section : first_of rest ≢ 43
  pub no_key : first_of rest ≢ 45
  pub no_output : first_of rest ≢ 34

begins : (x : ℕ) (rest u : List ℕ) → first_of rest ≢ x → rest ≡ x ∷ u → ⊥
begins x rest u other e = other (ap first_of e)

no_section : (rest : List ℕ) (p : Part) (u : List ℕ) → first_of rest ≢ 43 → rest ≡ part_text p ++ u → ⊥
no_section rest p u other e = begins 43 rest (escaped p.key ++ 9 ∷ (joined p.text ++ 10 ∷ u)) other (e ∙ part_opened p u)

no_line : (first : ℕ) (rest text u : List ℕ) → first_of rest ≢ first → rest ≡ line_of first text ++ u → ⊥
no_line first rest text u other e = begins first rest (escaped text ++ 10 ∷ u) other (e ∙ line_opened first text u)

-- ---- a change

-- the first one of several, and what follows it
next_key : (k : List ℕ) (ks : List (List ℕ)) (u : List ℕ) → flat_map gone_text (k ∷ ks) ++ u ≡ gone_text k ++ (flat_map gone_text ks ++ u)
next_key k ks u = append_assoc (gone_text k) (flat_map gone_text ks) u

next_section : (p : Part) (ps : List Part) (u : List ℕ) → flat_map part_text (p ∷ ps) ++ u ≡ part_text p ++ (flat_map part_text ps ++ u)
next_section p ps u = append_assoc (part_text p) (flat_map part_text ps) u

one_gone : (ks ls : List (List ℕ)) (u v : List ℕ) → Ends u → Ends v → flat_map gone_text ks ++ u ≡ flat_map gone_text ls ++ v → (ks ≡ ls) × (u ≡ v)
one_gone [] [] u v hu hv e = (refl, e)
one_gone [] (l ∷ ls) u v hu hv e = absurd (no_line 45 u l (flat_map gone_text ls ++ v) hu.no_key (e ∙ next_key l ls v))
one_gone (k ∷ ks) [] u v hu hv e = absurd (no_line 45 v k (flat_map gone_text ks ++ u) hv.no_key (sym e ∙ next_key k ks u))
one_gone (k ∷ ks) (l ∷ ls) u v hu hv e =
    let first = one_line 45 k l (flat_map gone_text ks ++ u) (flat_map gone_text ls ++ v) (sym (next_key k ks u) ∙ e ∙ next_key l ls v) in
    let rest = one_gone ks ls u v hu hv first.1 in
    let head : k ≡ l = first.0 in
    let tail : ks ≡ ls = rest.0 in
    (cc, rest.1)

-- keys that are gone begin otherwise than sections and output do
opened_keys : (k : List ℕ) (ks : List (List ℕ)) (u : List ℕ) → flat_map gone_text (k ∷ ks) ++ u ≡ 45 ∷ (escaped k ++ 10 ∷ (flat_map gone_text ks ++ u))
opened_keys k ks u = next_key k ks u ∙ line_opened 45 k (flat_map gone_text ks ++ u)

keys_begin : (x : ℕ) (ks : List (List ℕ)) (u : List ℕ) → 45 ≢ x → first_of u ≢ x → first_of (flat_map gone_text ks ++ u) ≢ x
keys_begin x [] u key other = other
keys_begin x (k ∷ ks) u key other = λ is. key (sym (ap first_of (opened_keys k ks u)) ∙ is)

one_list : (ps qs : List Part) (ks ls : List (List ℕ)) (u v : List ℕ) → Ends u → Ends v
    → flat_map part_text ps ++ (flat_map gone_text ks ++ u) ≡ flat_map part_text qs ++ (flat_map gone_text ls ++ v)
    → (ps ≡ qs) × (ks ≡ ls) × (u ≡ v)
one_list [] [] ks ls u v hu hv e = let keys = one_gone ks ls u v hu hv e in (refl, keys.0, keys.1)
one_list [] (q ∷ qs) ks ls u v hu hv e =
    absurd (no_section (flat_map gone_text ks ++ u) q (flat_map part_text qs ++ (flat_map gone_text ls ++ v))
    (keys_begin 43 ks u (λ is. omega arith) hu.no_section) (e ∙ next_section q qs (flat_map gone_text ls ++ v)))
one_list (p ∷ ps) [] ks ls u v hu hv e =
    absurd (no_section (flat_map gone_text ls ++ v) p (flat_map part_text ps ++ (flat_map gone_text ks ++ u))
    (keys_begin 43 ls v (λ is. omega arith) hv.no_section) (sym e ∙ next_section p ps (flat_map gone_text ks ++ u)))
one_list (p ∷ ps) (q ∷ qs) ks ls u v hu hv e =
    let first = one_part p q (flat_map part_text ps ++ (flat_map gone_text ks ++ u)) (flat_map part_text qs ++ (flat_map gone_text ls ++ v))
    (sym (next_section p ps (flat_map gone_text ks ++ u)) ∙ e ∙ next_section q qs (flat_map gone_text ls ++ v)) in
    let rest = one_list ps qs ks ls u v hu hv first.1 in
    let head : p ≡ q = first.0 in
    let tail : ps ≡ qs = rest.0 in
    (cc, rest.1, rest.2)

change_opened : (c : Change) (u : List ℕ) → change_text c ++ u ≡ flat_map part_text c.set ++ (flat_map gone_text c.gone ++ u)
unfolding change_text
change_opened c u = append_assoc (flat_map part_text c.set) (flat_map gone_text c.gone) u

one_change : (c d : Change) (u v : List ℕ) → Ends u → Ends v → change_text c ++ u ≡ change_text d ++ v → (c ≡ d) × (u ≡ v)
one_change c d u v hu hv e =
    let both = one_list c.set d.set c.gone d.gone u v hu hv (sym (change_opened c u) ∙ e ∙ change_opened d v) in
    (ap (λ s. record { set = s; gone = c.gone }) both.0 ∙ ap (λ g. record { set = d.set; gone = g }) both.1, both.2)

-- ---- an event

-- a change begins otherwise than output does
opened_set : (p : Part) (ps : List Part) (u : List ℕ) → flat_map part_text (p ∷ ps) ++ u ≡ 43 ∷ (escaped p.key ++ 9 ∷ (joined p.text ++ 10 ∷ (flat_map part_text ps ++ u)))
opened_set p ps u = next_section p ps u ∙ part_opened p (flat_map part_text ps ++ u)

set_begins : (x : ℕ) (ps : List Part) (u : List ℕ) → 43 ≢ x → first_of u ≢ x → first_of (flat_map part_text ps ++ u) ≢ x
set_begins x [] u section other = other
set_begins x (p ∷ ps) u section other = λ is. section (sym (ap first_of (opened_set p ps u)) ∙ is)

change_begins : (c : Change) (u : List ℕ) → Ends u → first_of (change_text c ++ u) ≢ 34
change_begins c u hu = λ is.
    set_begins 34 c.set (flat_map gone_text c.gone ++ u) (λ e. omega arith) (keys_begin 34 c.gone u (λ e. omega arith) hu.no_output)
    (sym (ap first_of (change_opened c u)) ∙ is)

no_bytes : (o : List ℕ) → nat_eq (length o) 0 ≡ true → o ≡ []
no_bytes [] e = refl
no_bytes (x ∷ xs) e = let more : length (x ∷ xs) ≡ length xs + 1 = grind (arith) in grind (arith)

by_length : (o p : List ℕ) (c d : Change) (u v : List ℕ) (a b : Bool) → Ends u → Ends v → nat_eq (length o) 0 ≡ a → nat_eq (length p) 0 ≡ b
    → (if a then [] else line_of 34 o) ++ (change_text c ++ u) ≡ (if b then [] else line_of 34 p) ++ (change_text d ++ v) → (o ≡ p) × (c ≡ d) × (u ≡ v)
by_length o p c d u v true true hu hv a b e = let same = one_change c d u v hu hv e in (no_bytes o a ∙ sym (no_bytes p b), same.0, same.1)
by_length o p c d u v true false hu hv a b e = absurd (no_line 34 (change_text c ++ u) p (change_text d ++ v) (change_begins c u hu) e)
by_length o p c d u v false true hu hv a b e = absurd (no_line 34 (change_text d ++ v) o (change_text c ++ u) (change_begins d v hv) (sym e))
by_length o p c d u v false false hu hv a b e =
    let line = one_line 34 o p (change_text c ++ u) (change_text d ++ v) e in
    let same = one_change c d u v hu hv line.1 in
    (line.0, same.0, same.1)

one_output : (o p : List ℕ) (c d : Change) (u v : List ℕ) → Ends u → Ends v
    → output_text o ++ (change_text c ++ u) ≡ output_text p ++ (change_text d ++ v) → (o ≡ p) × (c ≡ d) × (u ≡ v)
unfolding output_text
one_output o p c d u v hu hv e = by_length o p c d u v (nat_eq (length o) 0) (nat_eq (length p) 0) hu hv refl refl e

escaped-append : (a b : List ℕ) → escaped (a ++ b) ≡ escaped a ++ escaped b
escaped-append [] b = refl
escaped-append (x ∷ a) b = ap (λ t. escaped_byte x ++ t) (escaped-append a b) ∙ sym (append_assoc (escaped_byte x) (escaped a) (escaped b))

blank : (kind : List ℕ) → escaped (32 ∷ kind) ≡ 32 ∷ escaped kind
unfolding escaped_byte
blank kind = refl

head_opened : (who kind rest : List ℕ) → head_text who kind ++ rest ≡ 69 ∷ (escaped who ++ 32 ∷ (escaped kind ++ 10 ∷ rest))
unfolding head_text
head_opened who kind rest =
    append_assoc (69 ∷ [] ++ escaped who ++ 32 ∷ [] ++ escaped kind) (10 ∷ []) rest
    ∙ append_assoc (69 ∷ [] ++ escaped who ++ 32 ∷ []) (escaped kind) (10 ∷ rest)
    ∙ append_assoc (69 ∷ [] ++ escaped who) (32 ∷ []) (escaped kind ++ 10 ∷ rest)
    ∙ append_assoc (69 ∷ []) (escaped who) (32 ∷ (escaped kind ++ 10 ∷ rest))

-- the first line is that of one text
head_spelled : (who kind rest : List ℕ) → head_text who kind ++ rest ≡ line_of 69 (who ++ 32 ∷ kind) ++ rest
head_spelled who kind rest =
    head_opened who kind rest
    ∙ ap (λ t. 69 ∷ t) (sym (append_assoc (escaped who) (32 ∷ escaped kind) (10 ∷ rest)))
    ∙ ap (λ t. 69 ∷ ((escaped who ++ t) ++ 10 ∷ rest)) (sym (blank kind))
    ∙ ap (λ t. 69 ∷ (t ++ 10 ∷ rest)) (sym (escaped-append who (32 ∷ kind)))
    ∙ sym (line_opened 69 (who ++ 32 ∷ kind) rest)

event_opened : (who kind output : List ℕ) (c : Change) (u : List ℕ)
    → event_text who kind output c ++ u ≡ line_of 69 (who ++ 32 ∷ kind) ++ (output_text output ++ (change_text c ++ u))
event_opened who kind output c u =
    append_assoc (head_text who kind ++ output_text output) (change_text c) u
    ∙ append_assoc (head_text who kind) (output_text output) (change_text c ++ u)
    ∙ head_spelled who kind (output_text output ++ (change_text c ++ u))

-- ---- a run

event_begins : (who kind output : List ℕ) (c : Change) (u : List ℕ) → first_of (event_text who kind output c ++ u) ≡ 69
event_begins who kind output c u =
    let rest : List ℕ = output_text output ++ (change_text c ++ u) in
    ap first_of (event_opened who kind output c u ∙ line_opened 69 (who ++ 32 ∷ kind) rest)

letter_ends : (rest : List ℕ) (x : ℕ) → first_of rest ≡ x → x ≢ 43 → x ≢ 45 → x ≢ 34 → Ends rest
letter_ends rest x is a b c = record { no_section = λ e. a (sym is ∙ e); no_key = λ e. b (sym is ∙ e); no_output = λ e. c (sym is ∙ e) }

end_begins : (how : List ℕ) → first_of (row_text End how) ≡ 46
unfolding line_of
end_begins how = refl

end_ends : (how : List ℕ) → Ends (row_text End how)
end_ends how = letter_ends (row_text End how) 46 (end_begins how) (λ e. omega arith) (λ e. omega arith) (λ e. omega arith)

-- the next event of a run, or its end
next_event : (f : FilmView) (m : Moment) (ms : List Moment) (how : List ℕ)
    → all_told f (m ∷ ms) ++ row_text End how ≡ event_text m.who m.kind (drop f.printed m.output) (delta f.view m.view) ++ (all_told (behind m) ms ++ row_text End how)
next_event f m ms how = append_assoc (event_text m.who m.kind (drop f.printed m.output) (delta f.view m.view)) (all_told (behind m) ms) (row_text End how)

run_ends : (f : FilmView) (ms : List Moment) (how : List ℕ) → Ends (all_told f ms ++ row_text End how)
run_ends f [] how = end_ends how
run_ends f (m ∷ ms) how =
    let begins_so = ap first_of (next_event f m ms how)
    ∙ event_begins m.who m.kind (drop f.printed m.output) (delta f.view m.view) (all_told (behind m) ms ++ row_text End how) in
    letter_ends (all_told f (m ∷ ms) ++ row_text End how) 69 begins_so (λ e. omega arith) (λ e. omega arith) (λ e. omega arith)

letters_differ : ◌≢◌ {A = ℕ} 46 69
letters_differ e = omega arith

-- where a run ends no event is
no_event : (f : FilmView) (m : Moment) (ms : List Moment) (how end : List ℕ) → row_text End how ≡ all_told f (m ∷ ms) ++ row_text End end → ⊥
no_event f m ms how end e =
    let begins_so = ap first_of (e ∙ next_event f m ms end)
    ∙ event_begins m.who m.kind (drop f.printed m.output) (delta f.view m.view) (all_told (behind m) ms ++ row_text End end) in
    letters_differ (sym (end_begins how) ∙ begins_so)

one_end : (how end : List ℕ) → row_text End how ≡ row_text End end → how ≡ end
one_end how end e = (one_line 46 how end [] [] (append-nil (row_text End how) ∙ e ∙ sym (append-nil (row_text End end)))).0

same_told : (m n : Told) → m.line ≡ n.line → m.output ≡ n.output → m.change ≡ n.change → m ≡ n
same_told m n line output change =
    ap (λ l. record { line = l; output = m.output; change = m.change }) line
    ∙ ap (λ o. record { line = n.line; output = o; change = m.change }) output
    ∙ ap (λ c. record { line = n.line; output = n.output; change = c }) change

pub one_run : (f g : FilmView) (ms ns : List Moment) (how end : List ℕ)
    → all_told f ms ++ row_text End how ≡ all_told g ns ++ row_text End end → (events_told f ms ≡ events_told g ns) × (how ≡ end)
one_run f g [] [] how end e = (refl, one_end how end e)
one_run f g [] (n ∷ ns) how end e = absurd (no_event g n ns how end e)
one_run f g (m ∷ ms) [] how end e = absurd (no_event f m ms end how (sym e))
one_run f g (m ∷ ms) (n ∷ ns) how end e =
    let left : List ℕ = all_told (behind m) ms ++ row_text End how in
    let right : List ℕ = all_told (behind n) ns ++ row_text End end in
    let mc : Change = delta f.view m.view in
    let nc : Change = delta g.view n.view in
    let mo : List ℕ = drop f.printed m.output in
    let no : List ℕ = drop g.printed n.output in
    let first = one_line 69 (m.who ++ 32 ∷ m.kind) (n.who ++ 32 ∷ n.kind) (output_text mo ++ (change_text mc ++ left)) (output_text no ++ (change_text nc ++ right))
    (sym (next_event f m ms how ∙ event_opened m.who m.kind mo mc left) ∙ e ∙ next_event g n ns end ∙ event_opened n.who n.kind no nc right) in
    let event = one_output mo no mc nc left right (run_ends (behind m) ms how) (run_ends (behind n) ns end) first.1 in
    let rest = one_run (behind m) (behind n) ms ns how end event.2 in
    let head : event_told f m ≡ event_told g n = same_told (event_told f m) (event_told g n) first.0 event.0 event.1 in
    let tail : events_told (behind m) ms ≡ events_told (behind n) ns = rest.0 in
    (cc, rest.1)
