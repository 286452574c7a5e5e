-- The text of a schedule, read as the lines of a schedule.
use Rattle.std.proofs.Common.{◌≡◌, ℕ, ◌+◌, ◌-◌, ◌*◌, ◌^◌, ◌<◌, ◌≤◌, List, [], ◌∷◌, ◌++◌, Option, Some, None, Result, Ok, Err, Bool, true, false, refl, ap, ap₂, sym, ◌∙◌, append_assoc, arith, codes, length, map, replicate, eqb-true}
use Rattle.std.specs.Prelude.{◌&&◌, nat_eq, nat_le}
use Rattle.std.specs.Char.{digit_value}
use Rattle.std.specs.Fmt.{decimal}
use Rattle.std.specs.List.{All, AllByRecursion, flat_map, list_all, slice_split}
use Rattle.std.specs.Str.Parse.{AllDigits, digits_value_after}
use Rattle.std.proofs.lemmas.Bool.Decides.{nat_tests}
use Rattle.std.proofs.lemmas.Fmt.{decimal_is_IsNumeral}
use Rattle.std.proofs.lemmas.List.{append-nil, replicate-append-replicate}
use Rattle.std.proofs.lemmas.List.Elements.{All-from_recursion, recursion_from_All}
use Rattle.std.proofs.lemmas.List.Splits.{slice_split_at, slice_split_none}
use Rattle.std.proofs.lemmas.Str.{digit_value_digit}
use Rattle.std.proofs.lemmas.Str.Parse.{digit_from_value}
use Rattle.jm_world.specs.Schedules.{Line, Spelled, spells, strange, silent, digits_value, events_of_lines, is_digit, lines_of, number_within, repeat_count, repeated, schedule, spelled, spelled_words, step_line, thread_number, value_after, value_within, words_line}
use Rattle.jm_world.specs.declared.event.Event.{Event}
use Rattle.jm_world.specs.declared.event.Event.TheVariants.{Step}
use Rattle.jm_explore.specs.ScheduleTexts.{Stretch, joined, schedule_text, stretch_line, stretches}

-- ---- numbers

-- no byte of a text is this one
abbrev Lacks : ℕ → List ℕ → Type 0
Lacks b text = AllByRecursion (λ c. nat_eq c b ≡ false) text

lacks_both : (b : ℕ) (xs ys : List ℕ) → Lacks b xs → Lacks b ys → Lacks b (xs ++ ys)
lacks_both b [] ys some others = others
lacks_both b (x ∷ xs) ys some others = (some.0, lacks_both b xs ys some.1 others)

digits_lack : (b : ℕ) (ds : List ℕ) → b < 48 → AllDigits 10 ds → Lacks b ds
digits_lack b [] low digits = tt
digits_lack b (c ∷ cs) low digits =
    let range = digit_from_value c digits.0 in
    let other : nat_eq c b ≡ false = grind (arith, nat_tests, range.0, low) in
    (other, digits_lack b cs low digits.1)

digit_is : (c : ℕ) → digit_value c < 10 → is_digit c ≡ true
digit_is c small =
    let range = digit_from_value c small in
    let low : nat_le 48 c ≡ true = grind (arith, nat_tests, range.0) in
    let high : nat_le c 57 ≡ true = grind (arith, nat_tests, range.1) in
    ap₂ (λ (x y : Bool). x && y) low high

digits_are : (ds : List ℕ) → AllDigits 10 ds → list_all is_digit ds ≡ true
digits_are [] digits = refl
digits_are (c ∷ cs) digits = ap₂ (λ (x y : Bool). x && y) (digit_is c digits.0) (digits_are cs digits.1)

value_is : (n : ℕ) (ds : List ℕ) → AllDigits 10 ds → value_after n ds ≡ digits_value_after 10 n ds
value_is n [] digits = refl
value_is n (c ∷ cs) digits =
    let same : c - 48 ≡ digit_value c = omega (arith, digit_value_digit c (digit_from_value c digits.0)) in
    ap (λ (k : ℕ). value_after (n * 10 + k) cs) same ∙ value_is (n * 10 + digit_value c) cs digits.1

some_value : (ds : List ℕ) → 0 < length ds → list_all is_digit ds ≡ true → digits_value ds ≡ Some (value_after 0 ds)
some_value [] some digits = absurd (omega (arith, some))
some_value (b ∷ bs) some digits = ap (λ (t : Bool). elim t [ true ↦ Some (value_after 0 (b ∷ bs)) | false ↦ None ]) digits

decimal_value : (n : ℕ) → n < 2 ^ 64 → digits_value (decimal n) ≡ Some n
decimal_value n small =
    let p = decimal_is_IsNumeral n small in
    some_value (decimal n) p.0.0 (digits_are (decimal n) p.0.1) ∙ ap Some (value_is 0 (decimal n) p.0.1 ∙ p.1)

within_limits : (low high n : ℕ) → low ≤ n → n ≤ high → value_within low high (Some n) ≡ Some n
within_limits low high n above below =
    let first : nat_le low n ≡ true = grind (arith, nat_tests, above) in
    let second : nat_le n high ≡ true = grind (arith, nat_tests, below) in
    ap (λ (t : Bool). elim t [ true ↦ Some n | false ↦ None ]) (ap₂ (λ (x y : Bool). x && y) first second)

number_spelled : (low high n : ℕ) → n < 2 ^ 64 → low ≤ n → n ≤ high → number_within low high (decimal n) ≡ Some n
number_spelled low high n small above below = ap (value_within low high) (decimal_value n small) ∙ within_limits low high n above below

decimal_lacks : (b n : ℕ) → b < 48 → n < 2 ^ 64 → Lacks b (decimal n)
decimal_lacks b n low small = digits_lack b (decimal n) low (decimal_is_IsNumeral n small).0.1

-- ---- a line

pub record Fits (s : Stretch) : Type 0 where
  pub thread : s.thread < 2 ^ 64
  pub some : 1 ≤ s.count
  pub few : s.count ≤ 1000000

-- its bytes without the line feed
abbrev behind_thread : Stretch → List ℕ
behind_thread s = 120 ∷ 32 ∷ decimal s.count

abbrev behind_letter : Stretch → List ℕ
behind_letter s = decimal s.thread ++ 32 ∷ behind_thread s

abbrev body : Stretch → List ℕ
body s = 116 ∷ 32 ∷ behind_letter s

line_and_more : (s : Stretch) (rest : List ℕ) → stretch_line s ++ rest ≡ body s ++ 10 ∷ rest
line_and_more s rest =
    ap (λ (t : List ℕ). 116 ∷ 32 ∷ t) (append_assoc (decimal s.thread) (32 ∷ 120 ∷ 32 ∷ (decimal s.count ++ 10 ∷ [])) rest
    ∙ ap (λ (t : List ℕ). decimal s.thread ++ 32 ∷ 120 ∷ 32 ∷ t) (append_assoc (decimal s.count) (10 ∷ []) rest)
    ∙ sym (append_assoc (decimal s.thread) (32 ∷ behind_thread s) (10 ∷ rest)))

body_lacks : (s : Stretch) → Fits s → Lacks 10 (body s)
body_lacks s fits =
    let small : s.count < 2 ^ 64 = omega (arith, fits.few) in (
      refl,
      (
        refl,
        lacks_both 10 (decimal s.thread) (32 ∷ behind_thread s) (decimal_lacks 10 s.thread (omega arith) fits.thread)
            (refl, (refl, (refl, decimal_lacks 10 s.count (omega arith) small))),
      ),
    )

abbrev parts : List ℕ → List (List ℕ)
parts text = slice_split (λ u. nat_eq u 32) text

cut : (xs rest : List ℕ) → Lacks 32 xs → parts (xs ++ 32 ∷ rest) ≡ xs ∷ parts rest
cut xs rest lacks = slice_split_at (λ u. nat_eq u 32) xs 32 rest (All-from_recursion (λ c. nat_eq c 32 ≡ false) xs lacks) refl

words_are : (s : Stretch) → Fits s → parts (body s) ≡ codes "t" ∷ decimal s.thread ∷ codes "x" ∷ decimal s.count ∷ []
words_are s fits =
    let small : s.count < 2 ^ 64 = omega (arith, fits.few) in
    let last = slice_split_none (λ u. nat_eq u 32) (decimal s.count) (All-from_recursion (λ c. nat_eq c 32 ≡ false) (decimal s.count) (decimal_lacks 32 s.count (omega arith) small)) in
    cut (116 ∷ []) (behind_letter s) (refl, tt)
    ∙ ap (λ (ws : List (List ℕ)). codes "t" ∷ ws) (cut (decimal s.thread) (behind_thread s) (decimal_lacks 32 s.thread (omega arith) fits.thread)
    ∙ ap (λ (ws : List (List ℕ)). decimal s.thread ∷ ws) (cut (120 ∷ []) (decimal s.count) (refl, tt) ∙ ap (λ (ws : List (List ℕ)). codes "x" ∷ ws) last))

abbrev line_of : Stretch → Line
line_of s = record { event = Step s.thread; count = s.count; mark = None }

line_is : (s : Stretch) → Fits s → words_line (codes "t" ∷ decimal s.thread ∷ codes "x" ∷ decimal s.count ∷ []) ≡ Some (line_of s)
line_is s fits =
    let thread : thread_number (decimal s.thread) ≡ Some s.thread = number_spelled 0 (2 ^ 64 - 1) s.thread fits.thread (omega arith) (omega (arith, fits.thread)) in
    let count : repeat_count (decimal s.count) ≡ Some s.count = number_spelled 1 1000000 s.count (omega (arith, fits.few)) fits.some fits.few in
    ap (λ (n : Option ℕ). step_line n (codes "x" ∷ decimal s.count ∷ [])) thread ∙ ap (repeated (Step s.thread)) count

body_spelled : (s : Stretch) → Fits s → spelled (body s) ≡ spells (line_of s)
body_spelled s fits = ap (λ (ws : List (List ℕ)). spelled_words (words_line ws)) (words_are s fits) ∙ ap spelled_words (line_is s fits)

-- ---- the lines

abbrev AllFit : List Stretch → Type 0
AllFit ss = AllByRecursion Fits ss

lines_are : (ss : List Stretch) → AllFit ss → lines_of (flat_map stretch_line ss) ≡ map body ss ++ [] ∷ []
lines_are [] fit = refl
lines_are (s ∷ ss) fit =
    let lacks = All-from_recursion (λ c. nat_eq c 10 ≡ false) (body s) (body_lacks s fit.0) in
    ap lines_of (line_and_more s (flat_map stretch_line ss)) ∙ slice_split_at (λ b. nat_eq b 10) (body s) 10 (flat_map stretch_line ss) lacks refl
    ∙ ap (λ (ls : List (List ℕ)). body s ∷ ls) (lines_are ss fit.1)

abbrev total : List Stretch → ℕ
total [] = 0
total (s ∷ ss) = s.count + total ss

abbrev events_of : Stretch → List Event
events_of s = replicate s.count (Step s.thread)

-- what a line adds to the events
abbrev at_line : ℕ → ℕ → ℕ → List Event → List (List ℕ) → Spelled → Result (List Event) ℕ
at_line limit number made events lines silent = events_of_lines limit (number + 1) made events lines
at_line limit number made events lines strange = Err number
at_line limit number made events lines (spells l) = elim (nat_le (made + l.count) limit) [
  | true ↦ events_of_lines limit (number + 1) (made + l.count) (events ++ replicate l.count l.event) lines
  | false ↦ Err number
]

one_line : (limit number made : ℕ) (events : List Event) (line : List ℕ) (lines : List (List ℕ))
    → events_of_lines limit number made events (line ∷ lines) ≡ at_line limit number made events lines (spelled line)
one_line limit number made events line lines = by_case (spelled line)
  where
    by_case : (x : Spelled) → elim x [
      | silent ↦ events_of_lines limit (number + 1) made events lines
      | strange ↦ Err number
      | spells l ↦ elim (nat_le (made + l.count) limit) [
        | true ↦ events_of_lines limit (number + 1) (made + l.count) (events ++ replicate l.count l.event) lines
        | false ↦ Err number
      ]
    ] ≡ at_line limit number made events lines x
    by_case silent = refl
    by_case strange = refl
    by_case (spells l) = refl

within : (limit number made : ℕ) (events : List Event) (lines : List (List ℕ)) (l : Line) → made + l.count ≤ limit
    → at_line limit number made events lines (spells l) ≡ events_of_lines limit (number + 1) (made + l.count) (events ++ replicate l.count l.event) lines
within limit number made events lines l few =
    let fits : nat_le (made + l.count) limit ≡ true = grind (arith, nat_tests, few) in
    ap (λ (t : Bool). elim t [ true ↦ events_of_lines limit (number + 1) (made + l.count) (events ++ replicate l.count l.event) lines | false ↦ Err number ]) fits

events_are : (limit number made : ℕ) (events : List Event) (ss : List Stretch) → AllFit ss → made + total ss ≤ limit
    → events_of_lines limit number made events (map body ss ++ [] ∷ []) ≡ Ok (events ++ flat_map events_of ss)
events_are limit number made events [] fit few = ap Ok (sym (append-nil events))
events_are limit number made events (s ∷ ss) fit few =
    let lines = map body ss ++ [] ∷ [] in
    one_line limit number made events (body s) lines
    ∙ ap (at_line limit number made events lines) (body_spelled s fit.0)
    ∙ within limit number made events lines (line_of s) (omega (arith, few))
    ∙ events_are limit (number + 1) (made + s.count) (events ++ events_of s) ss fit.1 (omega (arith, few))
    ∙ ap Ok (append_assoc events (events_of s) (flat_map events_of ss))

-- ---- the stretches of a schedule

joined_by : (P : List Stretch → Type 0) (s x : Stretch) (xs : List Stretch)
    → (s.thread ≡ x.thread → P (record { thread = s.thread; count = s.count + x.count } ∷ xs)) → P (s ∷ x ∷ xs) → P (joined s (x ∷ xs))
joined_by P s x xs same other = by_test (nat_eq s.thread x.thread) refl
  where
    by_test : (t : Bool) → nat_eq s.thread x.thread ≡ t → P (elim t [ true ↦ record { thread = s.thread; count = s.count + x.count } ∷ xs | false ↦ s ∷ x ∷ xs ])
    by_test true is = same (eqb-true s.thread x.thread is)
    by_test false is = other

total_joined : (s : Stretch) (ss : List Stretch) → total (joined s ss) ≡ s.count + total ss
total_joined s [] = refl
total_joined s (x ∷ xs) = joined_by (λ (r : List Stretch). total r ≡ s.count + (x.count + total xs)) s x xs (λ same. omega arith) refl

events_joined : (s : Stretch) (ss : List Stretch) → flat_map events_of (joined s ss) ≡ events_of s ++ flat_map events_of ss
events_joined s [] = refl
events_joined s (x ∷ xs) = joined_by (λ (r : List Stretch). flat_map events_of r ≡ events_of s ++ (events_of x ++ flat_map events_of xs)) s x xs
    (λ same.
    let one : events_of s ++ events_of x ≡ replicate (s.count + x.count) (Step s.thread) =
    ap (λ (t : ℕ). events_of s ++ replicate x.count (Step t)) (sym same) ∙ replicate-append-replicate s.count x.count (Step s.thread) in
    ap (λ (es : List Event). es ++ flat_map events_of xs) (sym one) ∙ append_assoc (events_of s) (events_of x) (flat_map events_of xs))
    refl

pub record Sound (s : Stretch) : Type 0 where
  pub thread : s.thread < 2 ^ 64
  pub some : 1 ≤ s.count

sound_joined : (s : Stretch) (ss : List Stretch) → Sound s → AllByRecursion Sound ss → AllByRecursion Sound (joined s ss)
sound_joined s [] sound all = (sound, tt)
sound_joined s (x ∷ xs) sound all = joined_by (AllByRecursion Sound) s x xs
    (λ same. (record { thread = sound.thread; some = omega (arith, sound.some) }, all.1)) (sound, all)

all_sound : (ts : List ℕ) → AllByRecursion (λ t. t < 2 ^ 64) ts → AllByRecursion Sound (stretches ts)
all_sound [] small = tt
all_sound (t ∷ ts) small =
    let one : Stretch = record { thread = t; count = 1 } in
    sound_joined one (stretches ts) (record { thread = small.0; some = omega arith }) (all_sound ts small.1)

all_fit : (ss : List Stretch) → AllByRecursion Sound ss → total ss ≤ 1000000 → AllFit ss
all_fit [] sound few = tt
all_fit (s ∷ ss) sound few = (record { thread = sound.0.thread; some = sound.0.some; few = omega (arith, few) }, all_fit ss sound.1 (omega (arith, few)))

total_is : (ts : List ℕ) → total (stretches ts) ≡ length ts
total_is [] = refl
total_is (t ∷ ts) = total_joined (record { thread = t; count = 1 }) (stretches ts) ∙ omega (arith, total_is ts)

events_of_stretches : (ts : List ℕ) → flat_map events_of (stretches ts) ≡ map (λ t. Step t) ts
events_of_stretches [] = refl
events_of_stretches (t ∷ ts) = events_joined (record { thread = t; count = 1 }) (stretches ts) ∙ ap (λ (es : List Event). Step t ∷ es) (events_of_stretches ts)

-- the text spells the schedule's events
pub text_spells : (ts : List ℕ) → All (λ t. t < 2 ^ 64) ts → length ts ≤ 1000000 → schedule (schedule_text ts) ≡ Ok (map (λ t. Step t) ts)
unfolding schedule
text_spells ts small few =
    let ss = stretches ts in
    let all : total ss ≤ 1000000 = omega (arith, total_is ts, few) in
    let fit = all_fit ss (all_sound ts (recursion_from_All (λ t. t < 2 ^ 64) ts small)) all in
    ap (events_of_lines 10000000 1 0 []) (lines_are ss fit) ∙ events_are 10000000 1 0 [] ss fit (omega (arith, all)) ∙ ap Ok (events_of_stretches ts)
