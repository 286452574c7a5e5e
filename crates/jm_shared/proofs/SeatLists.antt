-- The receipts of a seat, and seats in order, as lists.
use Rattle.std.proofs.Common.{◌≡◌, ◌≢◌, ℕ, zero, suc, ◌+◌, ◌-◌, ◌<◌, ◌≤◌, ◌==◌, Bool, true, false, cond, eq-eqb, ne_eqb, List, [], ◌∷◌, ◌++◌, map}
use Rattle.std.proofs.Common.{length, replicate}
use Rattle.std.proofs.Common.{refl, sym, ap, ◌∙◌, subst, arith, append_assoc, append-nil}
use mathlib.Core.Logic.{dite}
use native.Mathlib.Decide.{ℕ_discrete}
use Rattle.std.specs.List.{All}
use Rattle.std.proofs.lemmas.List.Elements.{All-nil, All-cons, All-head, All-tail, All-append, All-weaker}
use Rattle.jm_world.specs.declared.event.Event.{Event}
use Rattle.jm_world.specs.declared.event.Event.TheVariants.{Step}
use Rattle.jm_world.specs.declared.reply.Reply.{Reply}
use Rattle.jm_machine.specs.ManySteps.{other_replies}
use Rattle.jm_forward.proofs.Totals.{one_at_same, one_at_other}
use Rattle.jm_shared.specs.declared.entry.Entry.{Entry}
use Rattle.jm_shared.specs.declared.entry.Receipt.{Receipt}
use Rattle.jm_shared.specs.declared.entry.Receipts.{Receipts}
use Rattle.jm_shared.specs.declared.rule.Hand.{Hand}
use Rattle.jm_shared.specs.Legal.{entry_of, receipt_of}
use Rattle.jm_shared.specs.ManyTurns.{entries_of_turns, receipts_from}
use Rattle.jm_shared.specs.Seats.{of_seat, hand, fresh_hands, times}
use Rattle.jm_shared.specs.SeatRule.{IsOf, noted}

-- ---- the receipts of a seat

more_in_front : (b : Bool) (y : Receipt) (whole front back : List Receipt) → whole ≡ front ++ back → cond b (y ∷ whole) whole ≡ cond b (y ∷ front) front ++ back
more_in_front true y whole front back e = ap (λ rs. y ∷ rs) e
more_in_front false y whole front back e = e

pub of_seat-append : (k n : ℕ) (es fs : List Entry) → of_seat k n (es ++ fs) ≡ of_seat k n es ++ of_seat k (n + length es) fs
of_seat-append k n [] fs = let same : n ≡ n + 0 = omega arith in ap (λ m. of_seat k m fs) same
of_seat-append k n (e ∷ es) fs =
    let same : n + 1 + length es ≡ n + suc (length es) = omega arith in
    more_in_front (k == e.seat) (receipt_of n e) (of_seat k (n + 1) (es ++ fs)) (of_seat k (n + 1) es) (of_seat k (n + suc (length es)) fs)
    (of_seat-append k (n + 1) es fs ∙ ap (λ m. of_seat k (n + 1) es ++ of_seat k m fs) same)

pub of_seat_own : (k n : ℕ) (e : Entry) → k ≡ e.seat → of_seat k n (e ∷ []) ≡ receipt_of n e ∷ []
of_seat_own k n e is = ap (λ b. cond b (receipt_of n e ∷ []) []) (eq-eqb k e.seat is)

-- those of entries that are all its own
pub of_seat_all : (k n : ℕ) (es : List Entry) → All (λ (e : Entry). e.seat ≡ k) es → of_seat k n es ≡ receipts_from n es
of_seat_all k n [] own = refl
of_seat_all k n (e ∷ es) own =
    ap (λ b. cond b (receipt_of n e ∷ of_seat k (n + 1) es) (of_seat k (n + 1) es)) (eq-eqb k e.seat (sym (All-head (λ (x : Entry). x.seat ≡ k) e es own)))
    ∙ ap (λ rs. receipt_of n e ∷ rs) (of_seat_all k (n + 1) es (All-tail (λ (x : Entry). x.seat ≡ k) e es own))

-- the entries of turns are all of their seat
replicate_of_seat : (k n : ℕ) (e : Entry) → e.seat ≡ k → All (λ (x : Entry). x.seat ≡ k) (replicate n e)
replicate_of_seat k zero e is = All-nil (λ (x : Entry). x.seat ≡ k)
replicate_of_seat k (suc n) e is = All-cons (λ (x : Entry). x.seat ≡ k) e (replicate n e) is (replicate_of_seat k n e is)

told_of_seat : (k : ℕ) (event : Event) (rs : List Reply) → All (λ (x : Entry). x.seat ≡ k) (map (entry_of k event) rs)
told_of_seat k event [] = All-nil (λ (x : Entry). x.seat ≡ k)
told_of_seat k event (r ∷ rs) = All-cons (λ (x : Entry). x.seat ≡ k) (entry_of k event r) (map (entry_of k event) rs) refl (told_of_seat k event rs)

pub turns_of_seat : (t : Receipts) → All (λ (x : Entry). x.seat ≡ t.seat) (entries_of_turns t)
turns_of_seat t =
    All-append (λ (x : Entry). x.seat ≡ t.seat) (replicate t.steps.alike (entry_of t.seat (Step t.thread) t.steps.reply))
    (map (entry_of t.seat (Step t.thread)) (other_replies t.steps.end))
    (replicate_of_seat t.seat t.steps.alike (entry_of t.seat (Step t.thread) t.steps.reply) refl)
    (told_of_seat t.seat (Step t.thread) (other_replies t.steps.end))

of_seat_others : (k n : ℕ) (es : List Entry) → All (λ (e : Entry). k ≢ e.seat) es → of_seat k n es ≡ []
of_seat_others k n [] others = refl
of_seat_others k n (e ∷ es) others =
    ap (λ b. cond b (receipt_of n e ∷ of_seat k (n + 1) es) (of_seat k (n + 1) es)) (ne_eqb k e.seat (All-head (λ (x : Entry). k ≢ x.seat) e es others))
    ∙ of_seat_others k (n + 1) es (All-tail (λ (x : Entry). k ≢ x.seat) e es others)

of_seat_low : (k n : ℕ) (es : List Entry) → All (λ (r : Receipt). r.number < n + length es) (of_seat k n es)
of_seat_low k n [] = All-nil (λ (r : Receipt). r.number < n + length {A = Entry} [])
of_seat_low k n (e ∷ es) =
    let P : Receipt → Type 0 = λ r. r.number < n + suc (length es) in
    let rest : All P (of_seat k (n + 1) es) =
    All-weaker (λ (r : Receipt). r.number < n + 1 + length es) P (λ r low. omega arith) (of_seat k (n + 1) es) (of_seat_low k (n + 1) es) in
    let F : Bool → Type 0 = λ b. All P (cond b (receipt_of n e ∷ of_seat k (n + 1) es) (of_seat k (n + 1) es)) in
    dite (ℕ_discrete k e.seat)
    (λ is. subst F (sym (eq-eqb k e.seat is)) (All-cons P (receipt_of n e) (of_seat k (n + 1) es) (omega arith) rest))
    (λ ne. subst F (sym (ne_eqb k e.seat ne)) rest)

-- its receipts have numbers below the number of entries
pub IsOf_low : (es : List Entry) (h : Hand) → IsOf es h → All (λ (r : Receipt). r.number < length es) h.receipts
IsOf_low es h is =
    let same : 0 + length es ≡ length es = omega arith in
    subst (λ n. All (λ (r : Receipt). r.number < n) h.receipts) same
    (subst (All (λ (r : Receipt). r.number < 0 + length es)) (sym is) (of_seat_low h.number 0 es))

-- a hand that has noted the entries behind those that it knew
pub IsOf_noted : (es fs : List Entry) (h : Hand) → IsOf es h → IsOf (es ++ fs) (noted (length es) fs h)
IsOf_noted es fs h is =
    let same : length es ≡ 0 + length es = omega arith in
    (λ i. is i ++ of_seat h.number (same i) fs) ∙ sym (of_seat-append h.number 0 es fs)

-- a hand that has none of the entries
IsOf_still : (es fs : List Entry) (h : Hand) → All (λ (e : Entry). h.number ≢ e.seat) fs → IsOf es h → IsOf (es ++ fs) h
IsOf_still es fs h others is =
    let none : of_seat h.number (0 + length es) fs ≡ [] = of_seat_others h.number (0 + length es) fs others in
    is ∙ sym (of_seat-append h.number 0 es fs ∙ ap (λ rs. of_seat h.number 0 es ++ rs) none ∙ append-nil (of_seat h.number 0 es))

-- ---- some seats

other_numbers : (seat k : ℕ) (fs : List Entry) → k ≢ seat → All (λ (e : Entry). e.seat ≡ seat) fs → All (λ (e : Entry). k ≢ e.seat) fs
other_numbers seat k fs ne own = All-weaker (λ (e : Entry). e.seat ≡ seat) (λ (e : Entry). k ≢ e.seat) (λ e is same. ne (same ∙ is)) fs own

pub IsOf_others : (es fs : List Entry) (seat : ℕ) (hs : List Hand) → All (λ (e : Entry). e.seat ≡ seat) fs → times seat hs ≡ 0 → All (IsOf es) hs
    → All (IsOf (es ++ fs)) hs
IsOf_others es fs seat [] own none all = All-nil (IsOf (es ++ fs))
IsOf_others es fs seat (h ∷ hs) own none all =
    let ne : h.number ≢ seat = λ is. omega (arith, one_at_same seat h.number (sym is), none) in
    All-cons (IsOf (es ++ fs)) h hs (IsOf_still es fs h (other_numbers seat h.number fs ne own) (All-head (IsOf es) h hs all))
    (IsOf_others es fs seat hs own (omega (arith, none)) (All-tail (IsOf es) h hs all))

pub times_noted : (k n : ℕ) (es : List Entry) (hs : List Hand) → times k (map (noted n es) hs) ≡ times k hs
times_noted k n es [] = refl
times_noted k n es (h ∷ hs) = omega (arith, times_noted k n es hs)

pub times_alone : (k : ℕ) (h : Hand) → k ≡ h.number → 0 < times k (h ∷ [])
times_alone k h e = omega (arith, one_at_same k h.number e)

-- ---- seats before any turn

pub IsOf_fresh : (n k : ℕ) → All (IsOf []) (fresh_hands n k)
IsOf_fresh n zero = All-nil (IsOf [])
IsOf_fresh n (suc k) = All-cons (IsOf []) (hand n []) (fresh_hands (n + 1) k) refl (IsOf_fresh (n + 1) k)

times_below : (c n k : ℕ) → c < n → times c (fresh_hands n k) ≡ 0
times_below c n zero low = refl
times_below c n (suc k) low = omega (arith, one_at_other c n (λ e. omega arith), times_below c (n + 1) k (omega arith))

pub times_fresh : (c n k : ℕ) → times c (fresh_hands n k) ≤ 1
times_fresh c n zero = omega arith
times_fresh c n (suc k) = dite (ℕ_discrete c n)
    (λ e. omega (arith, one_at_same c n e, times_below c (n + 1) k (omega arith)))
    (λ ne. omega (arith, one_at_other c n ne, times_fresh c (n + 1) k))

-- the first of those that are not yet dealt out
pub fresh_next : (n count : ℕ) → n < count → fresh_hands n (count - n) ≡ hand n [] ∷ fresh_hands (n + 1) (count - (n + 1))
fresh_next n count low = let e : count - n ≡ suc (count - (n + 1)) = omega arith in ap (fresh_hands n) e

pub fresh_dealt : (seats now : List Hand) (h : Hand) (n count : ℕ) → n < count → h ≡ hand n [] → now ≡ seats ++ h ∷ []
    → now ++ fresh_hands (n + 1) (count - (n + 1)) ≡ seats ++ fresh_hands n (count - n)
fresh_dealt seats now h n count low is e =
    let rest : List Hand = fresh_hands (n + 1) (count - (n + 1)) in
    ap (λ xs. xs ++ rest) e ∙ ap (λ x. (seats ++ x ∷ []) ++ rest) is ∙ append_assoc seats (hand n [] ∷ []) rest
    ∙ ap (λ xs. seats ++ xs) (sym (fresh_next n count low))
