-- The rule of the seats of one table. It says nothing of the table's word: what a turn records is what its step announces.
use Rattle.std.specs.Prelude.{◌≡◌, ℕ, ◌≤◌, true, cond, List, [], ◌∷◌, ◌++◌, map, length}
use mathlib.Core.Option.{Option, none, some}
use Rattle.std.specs.List.{All}
use Rattle.atomic_table.specs.Seated.{TableId}
use Rattle.atomic_table.specs.Table.{State, Me, Step}
use Rattle.jm_shared.specs.declared.entry.Entry.{Entry}
use Rattle.jm_shared.specs.declared.rule.Hand.{Hand}
use Rattle.jm_shared.specs.declared.rule.View.{View}
use Rattle.jm_shared.specs.declared.rule.Repeated.{Repeated}
use Rattle.jm_forward.specs.Hands.{weigh}
use Rattle.jm_shared.specs.Seats.{of_seat, entries_in, hand, seated, times}

-- the hand's receipts are those of its entries in the journal
abbrev pub IsOf : List Entry → Hand → Type 0
IsOf entries h = h.receipts ≡ of_seat h.number 0 entries

-- the keeper knows the journal, and each hand its part of it
abbrev pub Fits : List Entry → View → Type 0
Fits entries v = (v.keeps ≡ true → v.entries ≡ entries) × All (IsOf entries) v.hands

abbrev pub keepers : View → ℕ
keepers v = cond v.keeps 1 0

-- there is one journal, at most one keeper, and at most one hand of each number
pub record IsKept {S : Type 0} (s : State S View) : Type 0 where
  pub entries : List Entry
  pub each : All (Fits entries) s.views
  pub one_keeper : weigh keepers s.views ≤ 1
  pub apart : (number : ℕ) → weigh (λ (v : View). times number v.hands) s.views ≤ 1

-- the hand with the receipts of those of some entries that are its own, of which the first has the number n
abbrev pub noted : ℕ → List Entry → Hand → Hand
noted n entries h = hand h.number (h.receipts ++ of_seat h.number n entries)

-- the keeper adds the entries to the journal that it knows, and to each hand that is with it the receipts of its own
abbrev pub with_entries : List Entry → View → View
with_entries entries v = record { keeps = v.keeps; entries = v.entries ++ entries; hands = map (noted (length v.entries) entries) v.hands }

abbrev pub with_note : Option (List Repeated) → View → View
with_note none v = v
with_note (some note) v = with_entries (entries_in note) v

-- what the keeper finds of the hands that are with it
abbrev pub Finds : View → Type 0
Finds v = v.keeps ≡ true → All (IsOf v.entries) v.hands

-- a turn's step
abbrev pub Noted : Step (List Repeated) → Me (List Repeated) View → ℕ → Me (List Repeated) View → Type 0
Noted st m r n = (n.1 ≡ m.1) × (n.0 ≡ with_note st.said m.0) × Finds m.0

-- a load, which changes nothing
abbrev pub Compared : Step (List Repeated) → Me (List Repeated) View → ℕ → Me (List Repeated) View → Type 0
Compared st m r n = (n.1 ≡ m.1) × (n.0 ≡ m.0) × Finds m.0 × ((number : ℕ) → times number m.0.hands ≤ 1)

-- the first of some hands, and the others
abbrev pub first_hand : List Hand → List Hand
first_hand [] = []
first_hand (h ∷ hs) = h ∷ []

abbrev pub other_hands : List Hand → List Hand
other_hands [] = []
other_hands (h ∷ hs) = hs

-- the first hand is dealt out, the others are kept back
abbrev pub dealt : View → View
dealt v = seated (first_hand v.hands)

abbrev pub kept_back : View → View
kept_back v = record { keeps = v.keeps; entries = v.entries; hands = other_hands v.hands }

-- a view that has taken in the hands of another
abbrev pub taken_in : View → View → View
taken_in v w = record { keeps = v.keeps; entries = v.entries; hands = w.hands ++ v.hands }

-- the name of no table
abbrev pub no_table : TableId
no_table = record { words = 0; slots = 0; views_name = 0; atom = 0; block = 0; offset = 0; slot_names = [] }
