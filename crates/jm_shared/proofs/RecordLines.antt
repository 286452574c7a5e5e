-- The text of a record, read as the lines of a record.
use Rattle.std.proofs.Common.{◌≡◌, ℕ, ◌+◌, ◌-◌, ◌^◌, ◌<◌, ◌≤◌, List, [], ◌∷◌, ◌++◌, Option, Some, None, Result, Ok, Err, Bool, true, false, refl, ap, ap₂, sym, ◌∙◌, append_assoc, append-nil, arith, codes, length, map}
use Rattle.std.specs.Prelude.{◌&&◌, nat_eq, nat_lt, not}
use Rattle.std.specs.Fmt.{decimal}
use Rattle.std.specs.List.{All, AllByRecursion, list_all, slice_split}
use Rattle.std.proofs.lemmas.Bool.Decides.{nat_tests}
use Rattle.std.proofs.lemmas.List.Elements.{All-from_recursion, recursion_from_All}
use Rattle.std.proofs.lemmas.List.Splits.{slice_split_at, slice_split_none}
use Rattle.jm_world.specs.Schedules.{Line, Spelled, spells, strange, silent, entries_of_lines, kind_named, lines_of, marked, once, record_entries, seat_number, spelled, spelled_words, step_line, thread_number, words_line}
use Rattle.jm_world.specs.Schedules as schedules
use Rattle.jm_world.specs.declared.event.Event.{Event}
use Rattle.jm_world.specs.declared.event.Event.TheVariants.{Step, Minor, Full}
use Rattle.jm_world.specs.declared.reply.ReplyKind.{ReplyKind}
use Rattle.jm_world.specs.declared.reply.ReplyKind.TheVariants as kind
use Rattle.jm_shared.specs.declared.entry.Entry.{Entry}
use Rattle.jm_shared.specs.Records.{HasThreadNumber, IsReadable, entry_line, entry_read, event_words, kind_name, numbered, record_text}
use Rattle.jm_shared.proofs.Numerals.{Lacks, lacks_both, decimal_lacks, number_spelled}

lacks_by_test : (b : ℕ) (text : List ℕ) → list_all (λ c. not (nat_eq c b)) text ≡ true → Lacks b text
lacks_by_test b [] e = tt
lacks_by_test b (c ∷ cs) e = by_test (nat_eq c b) refl e (λ rest. lacks_by_test b cs rest)
  where
    by_test : (t : Bool) → nat_eq c b ≡ t → (not t && list_all (λ c. not (nat_eq c b)) cs) ≡ true → (list_all (λ c. not (nat_eq c b)) cs ≡ true → Lacks b cs) → Lacks b (c ∷ cs)
    by_test true is e others = absurd (let no = e in cc)
    by_test false is e others = (is, others e)

-- ---- a line

-- @ and the seat, and the kind
abbrev mark : Entry → List ℕ
mark e = 64 ∷ (decimal e.seat ++ 32 ∷ kind_name e.kind)

-- the line without its line feed
abbrev body : Entry → List ℕ
body e = event_words e.event ++ 32 ∷ mark e

line_and_more : (e : Entry) (rest : List ℕ) → entry_line e ++ rest ≡ body e ++ 10 ∷ rest
line_and_more e rest =
    append_assoc (event_words e.event) (32 ∷ 64 ∷ (decimal e.seat ++ 32 ∷ (kind_name e.kind ++ 10 ∷ []))) rest
    ∙ ap (λ (t : List ℕ). event_words e.event ++ 32 ∷ 64 ∷ t) (append_assoc (decimal e.seat) (32 ∷ (kind_name e.kind ++ 10 ∷ [])) rest
    ∙ ap (λ (t : List ℕ). decimal e.seat ++ 32 ∷ t) (append_assoc (kind_name e.kind) (10 ∷ []) rest)
    ∙ sym (append_assoc (decimal e.seat) (32 ∷ kind_name e.kind) (10 ∷ rest)))
    ∙ sym (append_assoc (event_words e.event) (32 ∷ mark e) (10 ∷ rest))

kind_lacks : (k : ReplyKind) → Lacks 10 (kind_name k) × Lacks 32 (kind_name k)
kind_lacks kind.Done = (lacks_by_test 10 (codes "done") refl, lacks_by_test 32 (codes "done") refl)
kind_lacks kind.Blocked = (lacks_by_test 10 (codes "blocked") refl, lacks_by_test 32 (codes "blocked") refl)
kind_lacks kind.Ended = (lacks_by_test 10 (codes "ended") refl, lacks_by_test 32 (codes "ended") refl)
kind_lacks kind.None = (lacks_by_test 10 (codes "none") refl, lacks_by_test 32 (codes "none") refl)
kind_lacks kind.Stopped = (lacks_by_test 10 (codes "stopped") refl, lacks_by_test 32 (codes "stopped") refl)

event_lacks : (event : Event) → HasThreadNumber event → Lacks 10 (event_words event)
event_lacks (Step thread) small = (refl, (refl, decimal_lacks 10 thread (omega arith) (small thread refl)))
event_lacks Minor small = lacks_by_test 10 (codes "minor") refl
event_lacks Full small = lacks_by_test 10 (codes "full") refl

body_lacks : (e : Entry) → IsReadable e → Lacks 10 (body e)
body_lacks e good =
    let seat : e.seat < 2 ^ 64 = omega (arith, good.seat) in
    lacks_both 10 (event_words e.event) (32 ∷ mark e) (event_lacks e.event good.thread)
    (refl, (refl, lacks_both 10 (decimal e.seat) (32 ∷ kind_name e.kind) (decimal_lacks 10 e.seat (omega arith) seat) (refl, (kind_lacks e.kind).0)))

-- ---- its words

abbrev parts : List ℕ → List (List ℕ)
parts text = slice_split (λ u. nat_eq u 32) text

cut : (xs rest : List ℕ) → Lacks 32 xs → parts (xs ++ 32 ∷ rest) ≡ xs ∷ parts rest
cut xs rest lacks = slice_split_at (λ u. nat_eq u 32) xs 32 rest (All-from_recursion (λ c. nat_eq c 32 ≡ false) xs lacks) refl

abbrev mark_words : Entry → List (List ℕ)
mark_words e = (64 ∷ decimal e.seat) ∷ kind_name e.kind ∷ []

mark_parts : (e : Entry) → IsReadable e → parts (mark e) ≡ mark_words e
mark_parts e good =
    let seat : e.seat < 2 ^ 64 = omega (arith, good.seat) in
    let last = slice_split_none (λ u. nat_eq u 32) (kind_name e.kind) (All-from_recursion (λ c. nat_eq c 32 ≡ false) (kind_name e.kind) (kind_lacks e.kind).1) in
    cut (64 ∷ decimal e.seat) (kind_name e.kind) (refl, decimal_lacks 32 e.seat (omega arith) seat)
    ∙ ap (λ (ws : List (List ℕ)). (64 ∷ decimal e.seat) ∷ ws) last

kind_is : (k : ReplyKind) → kind_named (kind_name k) ≡ Some k
kind_is kind.Done = refl
kind_is kind.Blocked = refl
kind_is kind.Ended = refl
kind_is kind.None = refl
kind_is kind.Stopped = refl

abbrev line_for : Event → Entry → Line
line_for event e = once event (Some (record { seat = e.seat; kind = e.kind }))

mark_is : (event : Event) (e : Entry) → IsReadable e → marked event (seat_number (64 ∷ decimal e.seat)) (kind_named (kind_name e.kind)) ≡ Some (line_for event e)
mark_is event e good =
    let seat : seat_number (64 ∷ decimal e.seat) ≡ Some e.seat = number_spelled 0 15 e.seat (omega (arith, good.seat)) (omega arith) good.seat in
    ap₂ (λ (s : Option ℕ) (k : Option ReplyKind). marked event s k) seat (kind_is e.kind)

words_spelled : (event : Event) (e : Entry) → HasThreadNumber event → IsReadable e → spelled (event_words event ++ 32 ∷ mark e) ≡ spells (line_for event e)
words_spelled (Step thread) e small good =
    let number : thread_number (decimal thread) ≡ Some thread = number_spelled 0 (2 ^ 64 - 1) thread (small thread refl) (omega arith) (let low = small thread refl in omega (arith, low)) in
    let words : parts (116 ∷ 32 ∷ (decimal thread ++ 32 ∷ mark e)) ≡ codes "t" ∷ decimal thread ∷ mark_words e =
    cut (116 ∷ []) (decimal thread ++ 32 ∷ mark e) (refl, tt)
    ∙ ap (λ (ws : List (List ℕ)). codes "t" ∷ ws) (cut (decimal thread) (mark e) (decimal_lacks 32 thread (omega arith) (small thread refl))
    ∙ ap (λ (ws : List (List ℕ)). decimal thread ∷ ws) (mark_parts e good)) in
    ap (λ (ws : List (List ℕ)). spelled_words (words_line ws)) words
    ∙ ap (λ (n : Option ℕ). spelled_words (step_line n (mark_words e))) number
    ∙ ap spelled_words (mark_is (Step thread) e good)
words_spelled Minor e small good =
    let words : parts (codes "minor" ++ 32 ∷ mark e) ≡ codes "minor" ∷ mark_words e =
    cut (codes "minor") (mark e) (lacks_by_test 32 (codes "minor") refl) ∙ ap (λ (ws : List (List ℕ)). codes "minor" ∷ ws) (mark_parts e good) in
    ap (λ (ws : List (List ℕ)). spelled_words (words_line ws)) words ∙ ap spelled_words (mark_is Minor e good)
words_spelled Full e small good =
    let words : parts (codes "full" ++ 32 ∷ mark e) ≡ codes "full" ∷ mark_words e =
    cut (codes "full") (mark e) (lacks_by_test 32 (codes "full") refl) ∙ ap (λ (ws : List (List ℕ)). codes "full" ∷ ws) (mark_parts e good) in
    ap (λ (ws : List (List ℕ)). spelled_words (words_line ws)) words ∙ ap spelled_words (mark_is Full e good)

-- ---- the lines

abbrev AreReadable : List Entry → Type 0
AreReadable es = AllByRecursion IsReadable es

lines_are : (es : List Entry) → AreReadable es → lines_of (record_text es) ≡ map body es ++ [] ∷ []
lines_are [] good = refl
lines_are (e ∷ es) good =
    let lacks = All-from_recursion (λ c. nat_eq c 10 ≡ false) (body e) (body_lacks e good.0) in
    ap lines_of (line_and_more e (record_text es)) ∙ slice_split_at (λ b. nat_eq b 10) (body e) 10 (record_text es) lacks refl
    ∙ ap (λ (ls : List (List ℕ)). body e ∷ ls) (lines_are es good.1)

-- what a line adds to the entries
abbrev at_line : ℕ → ℕ → ℕ → List schedules.Entry → List (List ℕ) → Spelled → Result (List schedules.Entry) ℕ
at_line limit number made entries lines silent = entries_of_lines limit (number + 1) made entries lines
at_line limit number made entries lines strange = Err number
at_line limit number made entries lines (spells l) = elim (schedules.entry_of number l) [
  | None ↦ Err number
  | Some e ↦ elim (nat_lt made limit) [
    | true ↦ entries_of_lines limit (number + 1) (made + 1) (entries ++ e ∷ []) lines
    | false ↦ Err number
  ]
]

one_line : (limit number made : ℕ) (entries : List schedules.Entry) (line : List ℕ) (lines : List (List ℕ))
    → entries_of_lines limit number made entries (line ∷ lines) ≡ at_line limit number made entries lines (spelled line)
one_line limit number made entries line lines = by_case (spelled line)
  where
    by_case : (x : Spelled) → elim x [
      | silent ↦ entries_of_lines limit (number + 1) made entries lines
      | strange ↦ Err number
      | spells l ↦ elim (schedules.entry_of number l) [
        | None ↦ Err number
        | Some e ↦ elim (nat_lt made limit) [
          | true ↦ entries_of_lines limit (number + 1) (made + 1) (entries ++ e ∷ []) lines
          | false ↦ Err number
        ]
      ]
    ] ≡ at_line limit number made entries lines x
    by_case silent = refl
    by_case strange = refl
    by_case (spells l) = refl

within : (limit number made : ℕ) (entries : List schedules.Entry) (lines : List (List ℕ)) (e : Entry) → made < limit
    → at_line limit number made entries lines (spells (line_for e.event e)) ≡ entries_of_lines limit (number + 1) (made + 1) (entries ++ entry_read number e ∷ []) lines
within limit number made entries lines e few =
    let fits : nat_lt made limit ≡ true = grind (arith, nat_tests, few) in
    ap (λ (t : Bool). elim t [ true ↦ entries_of_lines limit (number + 1) (made + 1) (entries ++ entry_read number e ∷ []) lines | false ↦ Err number ]) fits

entries_are : (limit number made : ℕ) (entries : List schedules.Entry) (es : List Entry) → AreReadable es → made + length es ≤ limit
    → entries_of_lines limit number made entries (map body es ++ [] ∷ []) ≡ Ok (entries ++ numbered number es)
entries_are limit number made entries [] good few = ap Ok (sym (append-nil entries))
entries_are limit number made entries (e ∷ es) good few =
    let lines = map body es ++ [] ∷ [] in
    one_line limit number made entries (body e) lines
    ∙ ap (at_line limit number made entries lines) (words_spelled e.event e good.0.thread good.0)
    ∙ within limit number made entries lines e (omega (arith, few))
    ∙ entries_are limit (number + 1) (made + 1) (entries ++ entry_read number e ∷ []) es good.1 (omega (arith, few))
    ∙ ap Ok (append_assoc entries (entry_read number e ∷ []) (numbered (number + 1) es))

-- the text spells the entries
pub text_reads_back : (es : List Entry) → All IsReadable es → length es ≤ 160000000 → record_entries (record_text es) ≡ Ok (numbered 1 es)
unfolding record_entries
text_reads_back es good few =
    let each = recursion_from_All IsReadable es good in
    ap (entries_of_lines 160000000 1 0 []) (lines_are es each) ∙ entries_are 160000000 1 0 [] es each (omega (arith, few))
