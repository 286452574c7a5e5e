-- The threads that a pass keeps, and the first live one among them.
use Rattle.std.proofs.Common.{◌≡◌, ℕ, ◌+◌, ◌≤◌, ◌<◌, List, [], ◌∷◌, ◌++◌, Some, None, drop, true, false, sym, ap, subst, ◌∙◌, length, arith, inl, inr}
use Rattle.std.proofs.lemmas.Bool.{cases_lt}
use Rattle.jm_world.specs.Run.{after}
use Rattle.jm_world.specs.World.{World}
use Rattle.jm_world.specs.declared.event.Event.TheVariants.{Step}
use Rattle.jm_machine.specs.Threads.{is_live}
use Rattle.jm_debug.specs.Kept.{OthersStay}
use Rattle.jm_debug.proofs.KeptThreads.{stepped}
use Rattle.jm_debug.proofs.LiveTurns.{first_live, none_live, nothing_between, one_more}
use Rattle.jm_events.specs.Passes.{Covers, Finds, Knows, NoneLive}
use Rattle.jm_events.specs.declared.pass.Pass.{Pass}

-- ---- numbers among which the live threads are

none_both : (w : World) (low middle high : ℕ) → NoneLive w low middle → NoneLive w middle high → NoneLive w low high
none_both w low middle high first second = λ k above below. elim (cases_lt k middle) [ inl before ↦ first k above before | inr behind ↦ second k behind below ]

within : (w : World) (low high : ℕ) (ns : List ℕ) → Covers w low high ns → low ≤ high
within w low high [] c = c.0
within w low high (n ∷ ns) c =
    let above = c.0 in
    let rest = within w (n + 1) high ns c.2 in
    omega arith

-- from a lower number on, and up to a higher one, where no thread between is live
above : (w : World) (low middle high : ℕ) (ns : List ℕ) → low ≤ middle → NoneLive w low middle → Covers w middle high ns → Covers w low high ns
above w low middle high [] below none c =
    let rest = c.0 in
    (omega arith, none_both w low middle high none c.1)
above w low middle high (n ∷ ns) below none c =
    let rest = c.0 in
    (omega arith, none_both w low middle n none c.1, c.2)

up_to : (w : World) (low high top : ℕ) (ns : List ℕ) → high ≤ top → NoneLive w high top → Covers w low high ns → Covers w low top ns
up_to w low high top [] below none c =
    let rest = c.0 in
    (omega arith, none_both w low high top c.1 none)
up_to w low high top (n ∷ ns) below none c = (c.0, c.1, up_to w (n + 1) high top ns below none c.2)

-- with one number more
pub one_listed : (w : World) (low high : ℕ) (ns : List ℕ) → Covers w low high ns → Covers w low (high + 1) (ns ++ high ∷ [])
one_listed w low high [] c = (c.0, c.1, (omega arith, nothing_between w (high + 1)))
one_listed w low high (n ∷ ns) c = (c.0, c.1, one_listed w (n + 1) high ns c.2)

-- behind a step of a live thread: no other one ends, and none is live again
module _ (w v : World) (n : ℕ) (stay : OthersStay w n v) (live : is_live w n ≡ true) where
  none_later : (low high : ℕ) → high ≤ length w.threads + 1 → NoneLive w low high → NoneLive v low high
  none_later low high all none = λ k above below.
      stay.others k (omega arith) (λ same. let no : true ≡ false = sym live ∙ ap (is_live w) (sym same) ∙ none k above below in absurd cc)
      ∙ none k above below

  later : (low high : ℕ) (ns : List ℕ) → high ≤ length w.threads + 1 → Covers w low high ns → Covers v low high ns
  later low high [] all c = (c.0, none_later low high all c.1)
  later low high (m ∷ ns) all c =
      let rest = within w (m + 1) high ns c.2 in
      (c.0, none_later low m (omega arith) c.1, later (m + 1) high ns all c.2)

-- ---- a pass

pub knows_none : (w : World) (p : Pass) → p.known ≡ 0 → p.behind.items ≡ [] → p.ahead.items ≡ [] → Knows p 0 w
knows_none w p known behind ahead = record {
  known = omega (arith, known);
  middle = 1;
  within = omega arith;
  behind = subst (Covers w 1 1) (sym behind) (omega arith, nothing_between w 1);
  ahead = subst (λ k. Covers w 1 (k + 1) p.ahead.items) (sym known) (subst (Covers w 1 1) (sym ahead) (omega arith, nothing_between w 1));
}

-- the same threads, from a higher number on
pub knows_further : (w : World) (p : Pass) (passed further : ℕ) → passed ≤ further → Knows p passed w → Knows p further w
knows_further w p passed further more knows =
    let low = knows.within in
    record { known = knows.known; middle = knows.middle; within = omega arith; behind = knows.behind; ahead = knows.ahead }

pub knows_later : (w : World) (p : Pass) (passed n : ℕ) → is_live w n ≡ true → Knows p passed w → Knows p passed (after w (Step n)).world
knows_later w p passed n live knows =
    let v = (after w (Step n)).world in
    let stay = (stepped w n live).stay in
    let all = knows.known in
    let more = stay.made in
    let low = within w knows.middle (p.known + 1) p.ahead.items knows.ahead in
    record {
      known = omega arith;
      middle = knows.middle;
      within = knows.within;
      behind = later w v n stay live 1 knows.middle p.behind.items (omega arith) knows.behind;
      ahead = later w v n stay live knows.middle (p.known + 1) p.ahead.items (omega arith) knows.ahead;
    }

pub knows_listed : (w : World) (p q : Pass) (passed : ℕ) → p.known < length w.threads → q.known ≡ p.known + 1 → q.behind.items ≡ p.behind.items
    → q.ahead.items ≡ p.ahead.items ++ (p.known + 1) ∷ [] → Knows p passed w → Knows q passed w
knows_listed w p q passed more known behind ahead knows = record {
  known = omega (arith, known);
  middle = knows.middle;
  within = knows.within;
  behind = subst (Covers w 1 knows.middle) (sym behind) knows.behind;
  ahead = subst (λ k. Covers w knows.middle (k + 1) q.ahead.items) (sym known)
      (subst (Covers w knows.middle (p.known + 1 + 1)) (sym ahead) (one_listed w knows.middle (p.known + 1) p.ahead.items knows.ahead));
}

-- the first one ahead is put behind, or left out
module _ (w : World) (p q : Pass) (passed n : ℕ) (rest : List ℕ) (first : p.ahead.items ≡ n ∷ rest) (known : q.known ≡ p.known) (ahead : q.ahead.items ≡ drop 1 p.ahead.items) (knows : Knows p passed w) where
  covered : Covers w knows.middle (p.known + 1) (n ∷ rest)
  covered = subst (Covers w knows.middle (p.known + 1)) first knows.ahead

  left_ahead : (low : ℕ) → Covers w low (p.known + 1) rest → Covers w low (q.known + 1) q.ahead.items
  left_ahead low c = subst (λ k. Covers w low (k + 1) q.ahead.items) (sym known) (subst (Covers w low (p.known + 1)) (sym (ahead ∙ ap (drop 1) first)) c)

  pub knows_moved : n ≤ passed → q.behind.items ≡ p.behind.items ++ n ∷ [] → Knows q passed w
  knows_moved over behind = record {
    known = let all = knows.known in omega (arith, known);
    middle = n + 1;
    within = omega arith;
    behind = subst (Covers w 1 (n + 1)) (sym behind) (one_listed w 1 n p.behind.items (up_to w 1 knows.middle n p.behind.items covered.0 covered.1 knows.behind));
    ahead = left_ahead (n + 1) covered.2;
  }

  pub knows_dropped : is_live w n ≡ false → q.behind.items ≡ p.behind.items → Knows q passed w
  knows_dropped ended behind = record {
    known = let all = knows.known in omega (arith, known);
    middle = knows.middle;
    within = knows.within;
    behind = subst (Covers w 1 knows.middle) (sym behind) knows.behind;
    ahead = let low = covered.0 in left_ahead knows.middle (above w knows.middle (n + 1) (p.known + 1) rest (omega arith) (one_more w knows.middle n covered.1 ended) covered.2);
  }

pub found : (w : World) (p : Pass) (passed n : ℕ) (rest : List ℕ) → p.ahead.items ≡ n ∷ rest → passed < n → is_live w n ≡ true → Knows p passed w → Finds w passed p (Some n)
found w p passed n rest first behind live knows =
    let c : Covers w knows.middle (p.known + 1) (n ∷ rest) = subst (Covers w knows.middle (p.known + 1)) first knows.ahead in
    let low = knows.within in (
      first_live w (passed + 1) n (omega arith) live (λ k above below. c.1 k (omega arith) below),
      live,
      record { known = knows.known; middle = knows.middle; within = omega arith; behind = knows.behind; ahead = knows.ahead },
    )

pub found_none : (w : World) (p : Pass) (passed : ℕ) → p.ahead.items ≡ [] → p.known ≡ length w.threads → Knows p passed w → Finds w passed p None
found_none w p passed none known knows =
    let c : Covers w knows.middle (p.known + 1) [] = subst (Covers w knows.middle (p.known + 1)) none knows.ahead in
    let low = knows.within in (
      none_live w (passed + 1) (p.known + 1) (omega (arith, known)) (λ k above below. c.1 k (omega arith) below),
      none,
      knows,
    )

-- a new pass goes over those behind, where none is ahead
pub knows_anew : (w : World) (p q : Pass) (passed : ℕ) → p.ahead.items ≡ [] → q.known ≡ p.known → q.ahead.items ≡ p.behind.items → q.behind.items ≡ [] → Knows p passed w → Knows q 0 w
knows_anew w p q passed none known ahead behind knows =
    let c : Covers w knows.middle (p.known + 1) [] = subst (Covers w knows.middle (p.known + 1)) none knows.ahead in
    record {
      known = let all = knows.known in omega (arith, known);
      middle = 1;
      within = omega arith;
      behind = subst (Covers w 1 1) (sym behind) (omega arith, nothing_between w 1);
      ahead = subst (λ k. Covers w 1 (k + 1) q.ahead.items) (sym known)
          (subst (Covers w 1 (p.known + 1)) (sym ahead) (up_to w 1 knows.middle (p.known + 1) p.behind.items c.0 c.1 knows.behind));
    }
