-- What one turn makes of a `continue`.
use Rattle.std.proofs.Common.{◌≡◌, ℕ, zero, suc, ◌+◌, ◌≤◌, Bool, true, false, List, Option, Some, None, Ok, nat_eq, refl, sym, ap, subst, ◌∙◌, add-zero, zero-add, ◌-◌, ◌<◌, ◌≢◌, ◌⊎◌, inl, inr, arith}
use Rattle.std.proofs.lemmas.Bool.Decides.{eqb_tells}
use Rattle.std.specs.Prelude.{codes, option_map, if◌then◌else◌}
use Rattle.jm_world.specs.Run.{after}
use Rattle.jm_world.specs.RoundRobin.{is_stopped}
use Rattle.jm_world.specs.declared.event.Event.TheVariants as event
use Rattle.jm_world.specs.declared.reply.ReplyKind.{ReplyKind}
use Rattle.jm_debug.specs.Session.{Session, Shown, blocked_after, break_before, break_text, breaks_at, continue_from, ended, says, turn_of, turned}
use Rattle.jm_debug.specs.Answering.{ContinuesWithin, DebuggerView, IsOver, IsSession, Moves, MovesBy}
use Rattle.jm_debug.specs.declared.place.Place.{Place}
use Rattle.jm_debug.specs.declared.turn.Moved.{Moved}
use Rattle.jm_debug.specs.declared.turn.Moved.TheVariants.{Over, AtBreak, On}
use Rattle.jm_debug.specs.declared.turn.Turn.{Turn}
use Rattle.jm_debug.specs.declared.turn.Turn.TheVariants as turn

-- the kind of a thread's next event
abbrev kind_of : ℕ → Session → ReplyKind
kind_of n s = (after s.world (event.Step n)).reply.kind

-- ---- a turn that some events are left for

abbrev on_event : ℕ → ℕ → Session → ℕ → Bool → Shown
on_event left blocked s n stopped = if stopped then says (codes "stopped") (turned n s) else continue_from left false (blocked_after (kind_of n s) blocked) (turned n s)

abbrev on_break : ℕ → ℕ → Session → ℕ → Option Place → Shown
on_break left blocked s n None = on_event left blocked s n (is_stopped (kind_of n s))
on_break left blocked s n (Some p) = breaks_at n p s

abbrev on_turn : ℕ → Bool → ℕ → Session → Turn → Shown
on_turn left first blocked s turn.Ended = says (codes "ended") s
on_turn left first blocked s turn.Blocked = says (codes "blocked") s
on_turn left first blocked s (turn.Of n) = on_break left blocked s n (break_before s first n)

pub opened : (s : Session) (first : Bool) (blocked left : ℕ) → continue_from (suc left) first blocked s ≡ on_turn left first blocked s (turn_of s blocked)
unfolding continue_from
opened s first blocked left = refl

no_thread : (s : Session) (first : Bool) (blocked left : ℕ) → turn_of s blocked ≡ turn.Ended → continue_from (suc left) first blocked s ≡ says (codes "ended") s
no_thread s first blocked left is = opened s first blocked left ∙ ap (on_turn left first blocked s) is

all_blocked : (s : Session) (first : Bool) (blocked left : ℕ) → turn_of s blocked ≡ turn.Blocked → continue_from (suc left) first blocked s ≡ says (codes "blocked") s
all_blocked s first blocked left is = opened s first blocked left ∙ ap (on_turn left first blocked s) is

a_break : (s : Session) (first : Bool) (blocked n left : ℕ) (p : Place) → turn_of s blocked ≡ turn.Of n → break_before s first n ≡ Some p
    → continue_from (suc left) first blocked s ≡ breaks_at n p s
a_break s first blocked n left p is met = opened s first blocked left ∙ ap (on_turn left first blocked s) is ∙ ap (on_break left blocked s n) met

a_stop : (s : Session) (first : Bool) (blocked n left : ℕ) → turn_of s blocked ≡ turn.Of n → break_before s first n ≡ None → is_stopped (kind_of n s) ≡ true
    → continue_from (suc left) first blocked s ≡ says (codes "stopped") (turned n s)
a_stop s first blocked n left is none stopped =
    opened s first blocked left ∙ ap (on_turn left first blocked s) is ∙ ap (on_break left blocked s n) none ∙ ap (on_event left blocked s n) stopped

pub an_event : (s : Session) (first : Bool) (blocked n left : ℕ) → turn_of s blocked ≡ turn.Of n → break_before s first n ≡ None → is_stopped (kind_of n s) ≡ false
    → continue_from (suc left) first blocked s ≡ continue_from left false (blocked_after (kind_of n s) blocked) (turned n s)
an_event s first blocked n left is none goes =
    opened s first blocked left ∙ ap (on_turn left first blocked s) is ∙ ap (on_break left blocked s n) none ∙ ap (on_event left blocked s n) goes

-- ---- what the debugger is at then

over : {H : Type 0} (d : DebuggerView H) (s : Session) (line answer : List ℕ) (is : Shown) (t : Session) → is ≡ says line t → answer ≡ ended line → IsSession d t
    → (is.answer ≡ Ok answer) × IsSession d is.next
over d s line answer is t same text at = (ap (λ (x : Shown). x.answer) same ∙ ap Ok (sym text), subst (IsSession d) (sym (ap (λ (x : Shown). x.next) same)) at)

pub over_ended : {H : Type 0} (most : ℕ) (d : DebuggerView H) (s : Session) (first : Bool) (blocked : ℕ) (answer : List ℕ) → 0 < most → turn_of s blocked ≡ turn.Ended
    → answer ≡ codes "ended\n" → IsSession d s → IsOver most s first blocked d answer
over_ended zero d s first blocked answer some is text at = absurd (omega arith)
over_ended (suc left) d s first blocked answer some is text at = over d s (codes "ended") answer _ s (no_thread s first blocked left is) text at

pub over_blocked : {H : Type 0} (most : ℕ) (d : DebuggerView H) (s : Session) (first : Bool) (blocked : ℕ) (answer : List ℕ) → 0 < most → turn_of s blocked ≡ turn.Blocked
    → answer ≡ codes "blocked\n" → IsSession d s → IsOver most s first blocked d answer
over_blocked zero d s first blocked answer some is text at = absurd (omega arith)
over_blocked (suc left) d s first blocked answer some is text at = over d s (codes "blocked") answer _ s (all_blocked s first blocked left is) text at

-- the break that was met
met_on : (n : ℕ) (answer : List ℕ) (met : Option Place) → Some answer ≡ option_map (λ p. ended (break_text n p)) met → (p : Place) × (met ≡ Some p) × (answer ≡ ended (break_text n p))
met_on n answer None is = cc
met_on n answer (Some p) is = (p, refl, cc)

pub over_at_break : {H : Type 0} (most : ℕ) (d : DebuggerView H) (s : Session) (first : Bool) (blocked n : ℕ) (answer : List ℕ) → 0 < most → turn_of s blocked ≡ turn.Of n
    → Some answer ≡ option_map (λ p. ended (break_text n p)) (break_before s first n) → IsSession d (record s { cursor = n }) → IsOver most s first blocked d answer
over_at_break zero d s first blocked n answer some is met at = absurd (omega arith)
over_at_break (suc left) d s first blocked n answer some is met at =
    let p = met_on n answer (break_before s first n) met in
    over d s (break_text n p.0) answer _ (record s { cursor = n }) (a_break s first blocked n left p.0 is p.1) p.2 at

none_met : (n : ℕ) (met : Option Place) → None ≡ option_map (λ (p : Place). ended (break_text n p)) met → met ≡ None
none_met n None is = refl
none_met n (Some p) is = cc

-- the last of some events, to which those before it have led from a session on
pub last_event : {H : Type 0} (most before : ℕ) (d : DebuggerView H) (s : Session) (first : Bool) (blocked : ℕ) (t : Session) (later : Bool) (row n : ℕ) (kind : ReplyKind) (moved : Moved)
    → before < most → ((left : ℕ) → continue_from (before + left) first blocked s ≡ continue_from left later row t) → turn_of t row ≡ turn.Of n → break_before t later n ≡ None
    → kind ≡ kind_of n t → IsSession d (turned n t) → MovesBy (before + 1) kind row moved → Moves most s first blocked d (Ok moved)
last_event most before d s first blocked t later row n kind (Over line) few led is none made at by =
    let stopped : is_stopped (kind_of n t) ≡ true = rw made at by.0 in
    let whole : most ≡ before + suc (most - before - 1) = omega arith in
    over d s (codes "stopped") line.now _ (turned n t)
    (ap (λ m. continue_from m first blocked s) whole ∙ led (suc (most - before - 1)) ∙ a_stop t later row n (most - before - 1) is none stopped) by.1 at
last_event most before d s first blocked t later row n kind (AtBreak answer) few led is none made at by = absurd by
last_event most before d s first blocked t later row n kind (On some count) few led is none made at by =
    let goes : is_stopped (kind_of n t) ≡ false = rw made at by.0 in
    let many : count ≡ blocked_after (kind_of n t) row = rw made at by.2 in (
      turned n t,
      at,
      λ left.
          let all : some + left ≡ before + suc left = let one = by.1 in omega (arith, one) in
          ap (λ m. continue_from m first blocked s) all ∙ led (suc left) ∙ an_event t later row n left is none goes
          ∙ ap (λ m. continue_from left false m (turned n t)) (sym many),
    )

pub after_event : {H : Type 0} (most : ℕ) (d : DebuggerView H) (s : Session) (first : Bool) (blocked n : ℕ) (kind : ReplyKind) (moved : Moved) → 0 < most → turn_of s blocked ≡ turn.Of n
    → None ≡ option_map (λ (p : Place). ended (break_text n p)) (break_before s first n) → kind ≡ kind_of n s → IsSession d (turned n s) → MovesBy 1 kind blocked moved
    → Moves most s first blocked d (Ok moved)
after_event most d s first blocked n kind moved some is none made at by =
    last_event most 0 d s first blocked s first blocked n kind moved some (λ left. ap (λ m. continue_from m first blocked s) (zero-add left)) is
    (none_met n (break_before s first n) none) made at by

-- ---- where no event is left

abbrev at_last : Session → Turn → Shown
at_last s turn.Ended = says (codes "ended") s
at_last s turn.Blocked = says (codes "blocked") s
at_last s (turn.Of n) = says (codes "limit") s

closed : (s : Session) (first : Bool) (blocked : ℕ) → continue_from 0 first blocked s ≡ at_last s (turn_of s blocked)
unfolding continue_from
closed s first blocked = refl

pub last_ended : (s : Session) (first : Bool) (blocked : ℕ) → turn_of s blocked ≡ turn.Ended → continue_from 0 first blocked s ≡ says (codes "ended") s
last_ended s first blocked is = closed s first blocked ∙ ap (at_last s) is

pub last_blocked : (s : Session) (first : Bool) (blocked : ℕ) → turn_of s blocked ≡ turn.Blocked → continue_from 0 first blocked s ≡ says (codes "blocked") s
last_blocked s first blocked is = closed s first blocked ∙ ap (at_last s) is

pub last_limit : (s : Session) (first : Bool) (blocked n : ℕ) → turn_of s blocked ≡ turn.Of n → continue_from 0 first blocked s ≡ says (codes "limit") s
last_limit s first blocked n is = closed s first blocked ∙ ap (at_last s) is

stays_on : (s : Session) (first : Bool) (blocked : ℕ) (t : Turn) → turn_of s blocked ≡ t → (continue_from 0 first blocked s).next ≡ s
stays_on s first blocked turn.Ended is = ap (λ (x : Shown). x.next) (last_ended s first blocked is)
stays_on s first blocked turn.Blocked is = ap (λ (x : Shown). x.next) (last_blocked s first blocked is)
stays_on s first blocked (turn.Of n) is = ap (λ (x : Shown). x.next) (last_limit s first blocked n is)

-- where no event may be made, a session stays
pub stays : (s : Session) (first : Bool) (blocked : ℕ) → (continue_from 0 first blocked s).next ≡ s
stays s first blocked = stays_on s first blocked (turn_of s blocked) refl

-- ---- the turns so far

-- a session from which a continue goes on as from where it began, some turns on
pub record GoesOn {H : Type 0} (s : Session) (made blocked : ℕ) (d : DebuggerView H) : Type 0 where
  pub session : Session
  pub is : IsSession d session
  pub rest : (left : ℕ) → continue_from (made + left) true 0 s ≡ continue_from left (nat_eq made 0) blocked session

-- where a session is left
pub left_at : {H : Type 0} (s : Session) (made blocked most : ℕ) (d : DebuggerView H) → made ≤ most → GoesOn s made blocked d → (t : Session) × ContinuesWithin most s t × IsSession d t
left_at s made blocked most d within on =
    let here : on.session ≡ (continue_from made true 0 s).next =
    sym (stays on.session (nat_eq made 0) blocked) ∙ ap (λ (x : Shown). x.next) (sym (on.rest 0)) ∙ ap (λ n. (continue_from n true 0 s).next) (add-zero made) in
    (on.session, (made, within, here), on.is)

pub refused_at : {H : Type 0} (s : Session) (made blocked most : ℕ) (d e : DebuggerView H) → made ≤ most → (on : GoesOn s made blocked d) → IsSession e on.session
    → (t : Session) × ContinuesWithin most s t × IsSession e t
refused_at s made blocked most d e within on at = left_at s made blocked most e within (record { session = on.session; is = at; rest = on.rest })

-- where it is over
pub over_at : {H : Type 0} (s : Session) (made blocked most : ℕ) (d e : DebuggerView H) (answer : List ℕ) → made < most → (on : GoesOn s made blocked d)
    → IsOver (most - made) on.session (nat_eq made 0) blocked e answer → ((continue_from most true 0 s).answer ≡ Ok answer) × IsSession e (continue_from most true 0 s).next
over_at s made blocked most d e answer below on is =
    let whole : made + (most - made) ≡ most = omega arith in
    let same : continue_from most true 0 s ≡ continue_from (most - made) (nat_eq made 0) blocked on.session =
    ap (λ n. continue_from n true 0 s) (sym whole) ∙ on.rest (most - made) in
    (ap (λ (x : Shown). x.answer) same ∙ is.0, subst (IsSession e) (sym (ap (λ (x : Shown). x.next) same)) is.1)

-- where it is over, and the answer finds no memory
pub lost_at : {H : Type 0} (s : Session) (made blocked most : ℕ) (d e : DebuggerView H) (answer : List ℕ) → made < most → (on : GoesOn s made blocked d)
    → IsOver (most - made) on.session (nat_eq made 0) blocked e answer → (t : Session) × ContinuesWithin most s t × IsSession e t
lost_at s made blocked most d e answer below on over =
    let is = over_at s made blocked most d e answer below on over in
    ((continue_from most true 0 s).next, (most, omega arith, refl), is.1)

later : (made : ℕ) → 0 < made → nat_eq made 0 ≡ false
later made some = by (eqb_tells made 0)
  where
    by : ((nat_eq made 0 ≡ true) × (made ≡ 0)) ⊎ ((nat_eq made 0 ≡ false) × (made ≢ 0)) → nat_eq made 0 ≡ false
    by (inl q) = let none = q.1 in absurd (omega (arith, none, some))
    by (inr q) = q.0

-- where it goes on
pub goes_on : {H : Type 0} (s : Session) (made blocked some count : ℕ) (d e : DebuggerView H) (on : GoesOn s made blocked d) → 0 < some → (t : Session) → IsSession e t
    → ((left : ℕ) → continue_from (some + left) (nat_eq made 0) blocked on.session ≡ continue_from left false count t) → GoesOn s (made + some) count e
goes_on s made blocked some count d e on low t is next = record {
  session = t;
  is = is;
  rest = λ left.
      let more : made + some + left ≡ made + (some + left) = omega arith in
      ap (λ n. continue_from n true 0 s) more ∙ on.rest (some + left) ∙ next left ∙ ap (λ first. continue_from left first count t) (sym (later (made + some) (omega arith)));
}

-- after all of them
pub all_made : {H : Type 0} (s : Session) (made blocked most : ℕ) (d : DebuggerView H) (answer : List ℕ) → made ≡ most → (on : GoesOn s made blocked d)
    → (continue_from 0 (nat_eq made 0) blocked on.session).answer ≡ Ok answer → ((continue_from most true 0 s).answer ≡ Ok answer) × IsSession d (continue_from most true 0 s).next
all_made s made blocked most d answer all on said =
    let same : continue_from most true 0 s ≡ continue_from 0 (nat_eq made 0) blocked on.session =
    ap (λ n. continue_from n true 0 s) (sym (add-zero made ∙ all)) ∙ on.rest 0 in
    (ap (λ (x : Shown). x.answer) same ∙ said, subst (IsSession d) (sym (ap (λ (x : Shown). x.next) same ∙ stays on.session (nat_eq made 0) blocked)) on.is)
