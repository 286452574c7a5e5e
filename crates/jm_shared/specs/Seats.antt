-- What the seats of a locked journal know: each its receipts, and the keeper the whole journal.
use Rattle.std.specs.Prelude.{◌≡◌, ℕ, zero, suc, ◌+◌, ◌<◌, ◌==◌, cond, List, [], ◌∷◌, ◌++◌, true, false, replicate}
use Rattle.jm_shared.specs.declared.entry.Entry.{Entry}
use Rattle.jm_shared.specs.declared.entry.Receipt.{Receipt}
use Rattle.jm_shared.specs.declared.rule.Hand.{Hand}
use Rattle.jm_shared.specs.declared.rule.View.{View}
use Rattle.jm_shared.specs.declared.rule.Repeated.{Repeated}
use Rattle.atomic_table.specs.Seated.{TableId}
use Rattle.atomic_table.specs.Table.{Me}
use Rattle.jm_forward.specs.Hands.{weigh, one_at}
use Rattle.jm_shared.specs.Legal.{receipt_of}

-- the receipts of one seat's entries in order, where the first entry of the list has the number n
abbrev pub of_seat : ℕ → ℕ → List Entry → List Receipt
of_seat seat n [] = []
of_seat seat n (e ∷ es) = cond (seat == e.seat) (receipt_of n e ∷ of_seat seat (n + 1) es) (of_seat seat (n + 1) es)

-- the entries that a note tells of
abbrev pub entries_in : List Repeated → List Entry
entries_in [] = []
entries_in (r ∷ rs) = replicate r.times r.entry ++ entries_in rs

abbrev pub hand : ℕ → List Receipt → Hand
hand number receipts = record { number = number; receipts = receipts }

-- so many seats in order, of which the first has this number, before any turn
abbrev pub fresh_hands : ℕ → ℕ → List Hand
fresh_hands number zero = []
fresh_hands number (suc k) = hand number [] ∷ fresh_hands (number + 1) k

-- a view that is not the keeper's
abbrev pub seated : List Hand → View
seated hands = record { keeps = false; entries = []; hands = hands }

-- the keeper's view, with the hands of the seats that are joined to it
abbrev pub keeper_with : List Entry → List Hand → View
keeper_with entries hands = record { keeps = true; entries = entries; hands = hands }

-- the hand of a view that has one
abbrev pub hand_of : List Hand → Hand
hand_of [] = hand 0 []
hand_of (h ∷ hs) = h

-- the hand of a seat's token
abbrev pub its_hand : Me (List Repeated) View → Hand
its_hand me = hand_of me.0.hands

-- the token has that hand, and no slot of the table
abbrev pub IsToken : Me (List Repeated) View → Type 0
IsToken me = (me.0 ≡ seated (its_hand me ∷ [])) × (me.1 ≡ [])

-- how often a number is among some seats
abbrev pub times : ℕ → List Hand → ℕ
times number hands = weigh (λ h. one_at number h.number) hands

-- the token of a new table, with all seats and the keeper
abbrev pub fresh_token : ℕ → Me (List Repeated) View
fresh_token seats = (keeper_with [] (fresh_hands 0 seats), [])

-- which table some seats are of, and how many they are
pub record TableView : Type 0 where
  pub table : TableId
  pub seats : ℕ

-- the entries that a keeper knows
abbrev pub entries_of_views : List View → List Entry
entries_of_views [] = []
entries_of_views (v ∷ vs) = v.entries

-- each of so many seats is there, once
abbrev pub AreAll : ℕ → List Hand → Type 0
AreAll count hands = (number : ℕ) → number < count → times number hands ≡ 1

-- one of so many seats is not there
abbrev pub LacksOne : ℕ → List Hand → Type 0
LacksOne count hands = (number : ℕ) × (number < count) × (times number hands ≡ 0)
