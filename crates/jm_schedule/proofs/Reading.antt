-- What the lines that are left make of the events so far.
use Rattle.std.proofs.Common.{◌≡◌, ℕ, ◌+◌, ◌≤◌, ◌<◌, List, [], ◌∷◌, ◌++◌, length, replicate, Option, Some, None, Result, Ok, Err, true, false, nat_le, IfSome, Bor, refl, arith}
use Rattle.std.proofs.lemmas.Bool.Decides.{nat_tests}
use Rattle.std.specs.Option.{option_copied}
use Rattle.jm_world.specs.Schedules.{Line, silent, spells, strange, spelled, events_of_lines, schedule}
use Rattle.jm_world.specs.declared.event.Event.{Event}
use Rattle.jm_schedule.specs.Words.{parts_of, parts_after}
use Rattle.jm_schedule.proofs.RunLemmas.{length-repeated}

-- after a number of lines
unfoldable pub lines_left : ℕ → List Event → Option (List ℕ) → Result (List Event) ℕ
lines_left number events rest = events_of_lines 10000000 (number + 1) (length events) events (parts_after 10 rest)

-- how many bytes are left, and one for the line that they end
abbrev pub bytes_left : Option (List ℕ) → ℕ
bytes_left None = 0
bytes_left (Some text) = length text + 1

pub first_line : (bytes : List ℕ) → schedule bytes ≡ lines_left 0 [] (Some bytes)
unfolding schedule lines_left
first_line bytes = refl

pub no_line : (number : ℕ) (events : List Event) → lines_left number events None ≡ Ok events
unfolding lines_left
no_line number events = refl

pub silent_line : (number : ℕ) (events : List Event) (text line : List ℕ) (after : Option (List ℕ)) → parts_of 10 text ≡ line ∷ parts_after 10 after → spelled line ≡ silent
    → lines_left number events (Some text) ≡ lines_left (number + 1) events after
unfolding lines_left
silent_line number events text line after cut is = rw (cut, events_of_lines, is) refl

pub strange_line : (number : ℕ) (events : List Event) (text line : List ℕ) (after : Option (List ℕ)) → parts_of 10 text ≡ line ∷ parts_after 10 after → spelled line ≡ strange
    → lines_left number events (Some text) ≡ Err (number + 1)
unfolding lines_left
strange_line number events text line after cut is = rw (cut, events_of_lines, is) refl

pub event_line : (number : ℕ) (events : List Event) (text line : List ℕ) (after : Option (List ℕ)) (l : Line) → parts_of 10 text ≡ line ∷ parts_after 10 after → spelled line ≡ spells l
    → length events + l.count ≤ 10000000 → lines_left number events (Some text) ≡ lines_left (number + 1) (events ++ replicate l.count l.event) after
unfolding lines_left
event_line number events text line after l cut is within =
    let fits : nat_le (length events + l.count) 10000000 ≡ true = grind (arith, nat_tests) in
    rw (cut, length-repeated, events_of_lines, is, fits) refl

pub line_past : (number : ℕ) (events : List Event) (text line : List ℕ) (after : Option (List ℕ)) (l : Line) → parts_of 10 text ≡ line ∷ parts_after 10 after → spelled line ≡ spells l
    → 10000000 < length events + l.count → lines_left number events (Some text) ≡ Err (number + 1)
unfolding lines_left
line_past number events text line after l cut is over =
    let passes : nat_le (length events + l.count) 10000000 ≡ false = grind (arith, nat_tests) in
    rw (cut, events_of_lines, is, passes) refl

-- a line off the front leaves fewer bytes
pub fewer_left : (number len total : ℕ) (after : Option (Bor (List ℕ))) → IfSome after (λ rest. length rest.now < len) → number + (len + 1) ≤ total
    → number + 1 + bytes_left (option_copied after) ≤ total
fewer_left number len total None shorter all = omega arith
fewer_left number len total (Some rest) shorter all = omega arith
