-- Seats before any turn.
use Rattle.std.proofs.Common.{◌≡◌, ℕ, zero, suc, ◌+◌, ◌<◌, ◌≤◌, List, [], Bool, true, false, refl, sym, ap, subst, ◌∙◌, arith}
use mathlib.Core.Logic.{dite}
use native.Mathlib.Decide.{ℕ_discrete}
use Rattle.std.specs.List.{All}
use Rattle.std.proofs.lemmas.List.Elements.{All-head, All-tail}
use Rattle.std.proofs.lemmas.Bool.{or_parts}
use Rattle.jm_world.specs.World.{World}
use Rattle.jm_shared.specs.Legal.{IsLegal, events_of}
use Rattle.jm_shared.specs.Seats.{LacksOne, fresh_hands, hand, of_seat, times}
use Rattle.jm_shared.specs.WorkerRule.{IsDriven, any_short, is_short}
use Rattle.jm_shared.specs.declared.entry.Entry.{Entry}
use Rattle.jm_shared.specs.declared.rule.Hand.{Hand}
use Rattle.jm_shared.proofs.DrivenSeats.{some_fresh}
use Rattle.jm_choice.specs.Choices.{HaveMade, IsByWorkers, MadeBy, by_workers}

pub none_lacks : (n : ℕ) (hs : List Hand) → hs ≡ fresh_hands 0 n → LacksOne n hs → ⊥
none_lacks n hs is lacks = omega (arith, some_fresh lacks.0 0 n (omega arith) (omega (arith, lacks.1)), ap (times lacks.0) is, lacks.2)

-- of each of them
fresh_at : (P : Hand → Type 0) (seat b k : ℕ) → b ≤ seat → seat < b + k → All P (fresh_hands b k) → P (hand seat [])
fresh_at P seat b zero low high all = absurd (omega arith)
fresh_at P seat b (suc k) low high all = dite (ℕ_discrete seat b)
    (λ e. subst (λ n. P (hand n [])) (sym e) (All-head P (hand b []) (fresh_hands (b + 1) k) all))
    (λ ne. fresh_at P seat (b + 1) k (omega arith) (omega arith) (All-tail P (hand b []) (fresh_hands (b + 1) k) all))

none_short : (steps seat b k : ℕ) (entries : List Entry) → b ≤ seat → seat < b + k → any_short steps entries (fresh_hands b k) ≡ false → is_short steps (of_seat seat 0 entries) ≡ false
none_short steps seat b zero entries low high none = absurd (omega arith)
none_short steps seat b (suc k) entries low high none =
    let both = or_parts (is_short steps (of_seat b 0 entries)) (any_short steps entries (fresh_hands (b + 1) k)) none in
    dite (ℕ_discrete seat b)
    (λ e. ap (λ n. is_short steps (of_seat n 0 entries)) e ∙ both.0)
    (λ ne. none_short steps seat (b + 1) k entries (omega arith) (omega arith) both.1)

module _ (first : World) (n steps : ℕ) (hs : List Hand) (entries : List Entry) (fresh : hs ≡ fresh_hands 0 n) (all : All (IsDriven steps entries) hs)
    (legal : IsLegal first entries) (known : All (λ (e : Entry). e.seat < n) entries) where
  all_fresh : All (IsDriven steps entries) (fresh_hands 0 n)
  all_fresh = subst (All (IsDriven steps entries)) fresh all

  so : IsByWorkers first n steps entries
  so = record { legal = legal; known = known; by_rule = λ seat low. (fresh_at (IsDriven steps entries) seat 0 n (omega arith) (omega (arith, low)) all_fresh).by_rule }

  pub have_made : any_short steps entries hs ≡ false → HaveMade first n steps entries
  have_made none = (so, (λ seat low. none_short steps seat 0 n entries (omega arith) (omega (arith, low)) (ap (any_short steps entries) (sym fresh) ∙ none)))

  pub made_by : (short : Bool) → short ≡ any_short steps entries hs → MadeBy first (by_workers n steps) (events_of entries) short
  made_by false none = let made = have_made (sym none) in (entries, made.0, made.1, refl)
  made_by true some = (entries, so, refl)
