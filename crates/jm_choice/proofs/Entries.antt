-- Entries that agree, with more behind them.
use Rattle.std.proofs.Common.{◌≡◌, ◌≢◌, ℕ, zero, suc, ◌+◌, ◌-◌, ◌≤◌, ◌<◌, List, [], ◌∷◌, ◌++◌, Option, Some, None, Result, Ok, Err, length, replicate, refl, sym, ap, subst, ◌∙◌, append_assoc, append-nil, arith}
use Rattle.std.proofs.lemmas.List.{map-append, length-replicate}
use Rattle.jm_world.specs.Run.{after, replies_from, run_from}
use Rattle.jm_world.specs.Schedules.{Entry}
use Rattle.jm_world.specs.World.{World}
use Rattle.jm_world.specs.declared.event.Event.{Event}
use Rattle.jm_world.specs.declared.event.Event.TheVariants.{Step}
use Rattle.jm_world.specs.declared.reply.Reply.{Reply}
use Rattle.jm_world.specs.declared.reply.ReplyKind.{ReplyKind}
use Rattle.jm_world.specs.declared.reply.ReplyKind.TheVariants.{Done}
use Rattle.jm_world.proofs.RunsOn.{run_append}
use Rattle.jm_machine.specs.View.{MachineView, MatchesWorld}
use Rattle.jm_machine.specs.ManySteps.{AreSteps, made_of_steps, other_replies, steps_of}
use Rattle.jm_machine.specs.declared.steps.Steps.{Steps}
use Rattle.jm_machine.specs.declared.steps.StepsEnd.TheVariants.{Other}
use Rattle.jm_machine.specs.declared.fault.OutOfMemory.{OutOfMemory}
use Rattle.jm_schedule.specs.Records.{entry_at, lines_from}
use Rattle.jm_schedule.proofs.RecordLemmas.{lines_more}
use Rattle.jm_choice.specs.Replays.{Agrees, DiffersAt, Replays, StopsWithin, events_in, kinds_in, kinds_of, world_behind}

kinds_append : (w : World) (es fs : List Event) → kinds_of (replies_from w (es ++ fs)) ≡ kinds_of (replies_from w es) ++ kinds_of (replies_from (run_from w es) fs)
kinds_append w [] fs = refl
kinds_append w (e ∷ es) fs = ap (λ ks. (after w e).reply.kind ∷ ks) (kinds_append (after w e).world es fs)

pub behind_more : (w : World) (es fs : List Entry) → world_behind w (es ++ fs) ≡ world_behind (world_behind w es) fs
behind_more w es fs = ap (run_from w) (map-append (λ (e : Entry). e.event) es fs) ∙ run_append w (events_in es) (events_in fs)

pub agrees_more : (w : World) (es fs : List Entry) → Agrees w es → Agrees (world_behind w es) fs → Agrees w (es ++ fs)
agrees_more w es fs a b =
    ap (λ ev. kinds_of (replies_from w ev)) (map-append (λ (e : Entry). e.event) es fs) ∙ kinds_append w (events_in es) (events_in fs)
    ∙ (λ t. a t ++ b t) ∙ sym (map-append (λ (e : Entry). e.kind) es fs)

pub agrees_nothing : (w : World) → Agrees w []
agrees_nothing w = refl

-- what comes of entries behind others that agree
pub replays_then : {H : Type 0} → (w : World) (es fs : List Entry) (m : MachineView H) (r : Result (Option ℕ) OutOfMemory) → Agrees w es → Replays (world_behind w es) fs m r → Replays w (es ++ fs) m r
replays_then w es fs m (Ok None) a rest = (agrees_more w es fs a rest.0, subst (MatchesWorld m) (sym (behind_more w es fs)) rest.1)
replays_then w es fs m (Ok (Some line)) a rest =
    let d = rest.1 in (
      rest.0,
      record {
        before = es ++ d.before;
        entry = d.entry;
        rest = d.rest;
        whole = ap (λ x. es ++ x) d.whole ∙ sym (append_assoc es d.before (d.entry ∷ d.rest));
        agrees = agrees_more w es d.before a d.agrees;
        differs = subst (λ v. (after v d.entry.event).reply.kind ≢ d.entry.kind) (sym (behind_more w es d.before)) d.differs;
        line_is = d.line_is;
        world_is = d.world_is ∙ ap (λ v. (after v d.entry.event).world) (sym (behind_more w es d.before));
      },
      rest.2,
    )
replays_then w es fs m (Err fault) a rest =
    let s = rest.1 in (
      rest.0,
      record {
        made = es ++ s.made;
        rest = s.rest;
        whole = ap (λ x. es ++ x) s.whole ∙ sym (append_assoc es s.made s.rest);
        agrees = agrees_more w es s.made a s.agrees;
        world_is = s.world_is ∙ sym (behind_more w es s.made);
      },
      rest.2,
    )

-- and of a beginning, where it is not all that agrees
pub differs_more : (w v : World) (es fs : List Entry) (line : ℕ) → DiffersAt w es line v → DiffersAt w (es ++ fs) line v
differs_more w v es fs line d = record {
  before = d.before;
  entry = d.entry;
  rest = d.rest ++ fs;
  whole = ap (λ x. x ++ fs) d.whole ∙ append_assoc d.before (d.entry ∷ d.rest) fs;
  agrees = d.agrees;
  differs = d.differs;
  line_is = d.line_is;
  world_is = d.world_is;
}

pub stops_more : (w v : World) (es fs : List Entry) → StopsWithin w es v → StopsWithin w (es ++ fs) v
stops_more w v es fs s = record { made = s.made; rest = s.rest ++ fs; whole = ap (λ x. x ++ fs) s.whole ∙ append_assoc s.made s.rest fs; agrees = s.agrees; world_is = s.world_is }

-- ---- the lines of a run

lines_cut : (k count line seat : ℕ) (e : Event) (kind : ReplyKind) → k ≤ count → lines_from count line seat e kind ≡ lines_from k line seat e kind ++ lines_from (count - k) (line + k) seat e kind
lines_cut zero count line seat e kind h = (λ t. lines_from ((let same : count ≡ count - 0 = omega arith in same) t) ((let same : line ≡ line + 0 = omega arith in same) t) seat e kind)
lines_cut (suc k) zero line seat e kind h = absurd (omega arith)
lines_cut (suc k) (suc count) line seat e kind h =
    let there : line + 1 + k ≡ line + suc k = omega arith in
    let left : count - k ≡ suc count - suc k = omega arith in
    ap (λ es. entry_at line seat e kind ∷ es) (lines_cut k count (line + 1) seat e kind (omega arith)
    ∙ (λ t. lines_from k (line + 1) seat e kind ++ lines_from (left t) (there t) seat e kind))

lines_next : (k count line seat : ℕ) (e : Event) (kind : ReplyKind) → k < count
    → lines_from count line seat e kind ≡ lines_from k line seat e kind ++ entry_at (line + k) seat e kind ∷ lines_from (count - suc k) (line + k + 1) seat e kind
lines_next k count line seat e kind h =
    let left : count - k ≡ suc (count - suc k) = omega arith in
    lines_cut k count line seat e kind (omega arith) ∙ ap (λ n. lines_from k line seat e kind ++ lines_from n (line + k) seat e kind) left

-- so many lines of a run agree, and the machine is behind them
pub record Stands {H : Type 0} (w : World) (count line seat : ℕ) (e : Event) (kind : ReplyKind) (m : MachineView H) : Type 0 where
  pub agrees : Agrees w (lines_from count line seat e kind)
  pub matches : MatchesWorld m (world_behind w (lines_from count line seat e kind))

pub stands_first : {H : Type 0} → (w : World) (line seat : ℕ) (e : Event) (kind : ReplyKind) (m : MachineView H) → MatchesWorld m w → Stands w 0 line seat e kind m
stands_first w line seat e kind m is = record { agrees = refl; matches = is }

pub stands_more : {H : Type 0} → (w : World) (k line seat : ℕ) (e : Event) (kind : ReplyKind) (n : MachineView H) (r : Reply) → Agrees w (lines_from k line seat e kind)
    → MatchesWorld n (after (world_behind w (lines_from k line seat e kind)) e).world × (r ≡ (after (world_behind w (lines_from k line seat e kind)) e).reply) → r.kind ≡ kind
    → Stands w (k + 1) line seat e kind n
stands_more w k line seat e kind n r s made same =
    let count : k + 1 ≡ suc k = omega arith in
    let more = ap (λ c. lines_from c line seat e kind) count ∙ lines_more k line seat e kind in
    let here = lines_from k line seat e kind in
    let one = entry_at (line + k) seat e kind ∷ [] in
    let agrees : Agrees (world_behind w here) one = ap (λ (x : Reply). x.kind ∷ []) (sym made.1) ∙ ap (λ x. x ∷ []) same in
    record {
      agrees = subst (Agrees w) (sym more) (agrees_more w here one s agrees);
      matches = subst (λ es. MatchesWorld n (world_behind w es)) (sym more) (subst (MatchesWorld n) (sym (behind_more w here one)) made.0);
    }

pub stands_differs : {H : Type 0} → (w : World) (k count line seat : ℕ) (e : Event) (kind : ReplyKind) (n : MachineView H) (r : Reply) → k < count → Agrees w (lines_from k line seat e kind)
    → MatchesWorld n (after (world_behind w (lines_from k line seat e kind)) e).world × (r ≡ (after (world_behind w (lines_from k line seat e kind)) e).reply) → r.kind ≢ kind
    → (v : World) × DiffersAt w (lines_from count line seat e kind) (line + k) v × MatchesWorld n v
stands_differs w k count line seat e kind n r low s made other =
    let here = lines_from k line seat e kind in (
      (after (world_behind w here) e).world,
      record {
        before = here;
        entry = entry_at (line + k) seat e kind;
        rest = lines_from (count - suc k) (line + k + 1) seat e kind;
        whole = lines_next k count line seat e kind low;
        agrees = s;
        differs = subst (λ (x : Reply). x.kind ≢ kind) made.1 other;
        line_is = refl;
        world_is = refl;
      },
      made.0,
    )

pub stands_stops : {H : Type 0} → (w : World) (k count line seat : ℕ) (e : Event) (kind : ReplyKind) (m : MachineView H) → k ≤ count → Stands w k line seat e kind m
    → (v : World) × StopsWithin w (lines_from count line seat e kind) v × MatchesWorld m v
stands_stops w k count line seat e kind m low s = (
  world_behind w (lines_from k line seat e kind),
  record {
    made = lines_from k line seat e kind;
    rest = lines_from (count - k) (line + k) seat e kind;
    whole = lines_cut k count line seat e kind low;
    agrees = s.agrees;
    world_is = refl;
  },
  s.matches,
)

pub stands_all : {H : Type 0} → (w : World) (k count line seat : ℕ) (e : Event) (kind : ReplyKind) (m : MachineView H) → k ≡ count → Stands w k line seat e kind m
    → Agrees w (lines_from count line seat e kind) × MatchesWorld m (world_behind w (lines_from count line seat e kind))
stands_all w k count line seat e kind m all s =
    let t = subst (λ c. Stands w c line seat e kind m) all s in (t.agrees, t.matches)

-- ---- steps of one thread that are done

-- the last of some replies
last_reply : (v : World) (t n : ℕ) (rs : List Reply) (r : Reply) → length rs ≡ n → rs ++ r ∷ [] ≡ replies_from v (steps_of t (suc n))
    → (rs ≡ replies_from v (steps_of t n)) × (r ≡ (after (run_from v (steps_of t n)) (Step t)).reply)
last_reply v t zero [] r size is = (refl, cc)
last_reply v t zero (x ∷ rs) r size is = absurd (omega (arith, size))
last_reply v t (suc n) [] r size is = absurd (omega (arith, size))
last_reply v t (suc n) (x ∷ rs) r size is =
    let first : x ≡ (after v (Step t)).reply = cc in
    let there : rs ++ r ∷ [] ≡ replies_from (after v (Step t)).world (steps_of t (suc n)) = cc in
    let rest = last_reply (after v (Step t)).world t n rs r (omega (arith, size)) there in
    ((λ i. first i ∷ rest.0 i), rest.1)

last_world : (v : World) (t n : ℕ) → run_from v (steps_of t (suc n)) ≡ (after (run_from v (steps_of t n)) (Step t)).world
last_world v t zero = refl
last_world v t (suc n) = last_world (after v (Step t)).world t n

module _ (t seat : ℕ) where
  events_of_lines : (n line : ℕ) → events_in (lines_from n line seat (Step t) Done) ≡ steps_of t n
  events_of_lines zero line = refl
  events_of_lines (suc n) line = ap (λ es. Step t ∷ es) (events_of_lines n (line + 1))

  kinds_of_lines : (n line : ℕ) (r : Reply) → r.kind ≡ Done → kinds_of (replicate n r) ≡ kinds_in (lines_from n line seat (Step t) Done)
  kinds_of_lines zero line r done = refl
  kinds_of_lines (suc n) line r done = (λ i. done i ∷ kinds_of_lines n (line + 1) r done i)

  behind_lines : (v : World) (n line : ℕ) → world_behind v (lines_from n line seat (Step t) Done) ≡ run_from v (steps_of t n)
  behind_lines v n line = ap (run_from v) (events_of_lines n line)

  alike_agrees : (v : World) (n line : ℕ) (r : Reply) → r.kind ≡ Done → replicate n r ≡ replies_from v (steps_of t n) → Agrees v (lines_from n line seat (Step t) Done)
  alike_agrees v n line r done is = ap (λ es. kinds_of (replies_from v es)) (events_of_lines n line) ∙ ap kinds_of (sym is) ∙ kinds_of_lines n line r done

  module _ (w : World) (k line n : ℕ) where
    both_lines : lines_from (k + n) line seat (Step t) Done ≡ lines_from k line seat (Step t) Done ++ lines_from n (line + k) seat (Step t) Done
    both_lines =
        let left : k + n - k ≡ n = omega arith in
        lines_cut k (k + n) line seat (Step t) Done (omega arith) ∙ ap (λ c. lines_from k line seat (Step t) Done ++ lines_from c (line + k) seat (Step t) Done) left

    behind_both : world_behind w (lines_from (k + n) line seat (Step t) Done) ≡ run_from (world_behind w (lines_from k line seat (Step t) Done)) (steps_of t n)
    behind_both =
        ap (world_behind w) both_lines ∙ behind_more w (lines_from k line seat (Step t) Done) (lines_from n (line + k) seat (Step t) Done)
        ∙ behind_lines (world_behind w (lines_from k line seat (Step t) Done)) n (line + k)

    more_agree : (r : Reply) → Agrees w (lines_from k line seat (Step t) Done) → r.kind ≡ Done
        → replicate n r ≡ replies_from (world_behind w (lines_from k line seat (Step t) Done)) (steps_of t n) → Agrees w (lines_from (k + n) line seat (Step t) Done)
    more_agree r a done is =
        subst (Agrees w) (sym both_lines) (agrees_more w (lines_from k line seat (Step t) Done) (lines_from n (line + k) seat (Step t) Done) a
        (alike_agrees (world_behind w (lines_from k line seat (Step t) Done)) n (line + k) r done is))

  module _ {H : Type 0} (w : World) (k line : ℕ) (m n : MachineView H) (s : Steps) (so : Stands w k line seat (Step t) Done m) (steps : (v : World) → MatchesWorld m v → AreSteps v t n s) where
    its : AreSteps (world_behind w (lines_from k line seat (Step t) Done)) t n s
    its = steps (world_behind w (lines_from k line seat (Step t) Done)) so.matches

    pub alike_stand : other_replies s.end ≡ [] → Stands w (k + s.alike) line seat (Step t) Done n
    alike_stand none =
        let count : made_of_steps s ≡ s.alike = ap (λ rs. s.alike + length rs) none ∙ (let same : s.alike + 0 ≡ s.alike = omega arith in same) in
        let replies : replicate s.alike s.reply ≡ replies_from (world_behind w (lines_from k line seat (Step t) Done)) (steps_of t s.alike) =
        sym (append-nil (replicate s.alike s.reply)) ∙ ap (λ rs. replicate s.alike s.reply ++ rs) (sym none) ∙ its.replies
        ∙ ap (λ c. replies_from (world_behind w (lines_from k line seat (Step t) Done)) (steps_of t c)) count
        in
        record {
          agrees = more_agree w k line s.alike s.reply so.agrees (ap (λ (r : Reply). r.kind) its.reply) replies;
          matches = subst (MatchesWorld n) (ap (λ c. run_from (world_behind w (lines_from k line seat (Step t) Done)) (steps_of t c)) count ∙ sym (behind_both w k line s.alike)) its.world;
        }

    module _ (r : Reply) (other : s.end ≡ Other r) where
      one_more : made_of_steps s ≡ suc s.alike
      one_more = ap (λ e. s.alike + length (other_replies e)) other ∙ (let same : s.alike + 1 ≡ suc s.alike = omega arith in same)

      parted : (replicate s.alike s.reply ≡ replies_from (world_behind w (lines_from k line seat (Step t) Done)) (steps_of t s.alike))
          × (r ≡ (after (run_from (world_behind w (lines_from k line seat (Step t) Done)) (steps_of t s.alike)) (Step t)).reply)
      parted = last_reply _ t s.alike (replicate s.alike s.reply) r (length-replicate s.alike s.reply)
          (ap (λ e. replicate s.alike s.reply ++ other_replies e) (sym other) ∙ its.replies
          ∙ ap (λ c. replies_from (world_behind w (lines_from k line seat (Step t) Done)) (steps_of t c)) one_more)

      pub before_agree : Agrees w (lines_from (k + s.alike) line seat (Step t) Done)
      before_agree = more_agree w k line s.alike s.reply so.agrees (ap (λ (x : Reply). x.kind) its.reply) parted.0

      pub last_made : MatchesWorld n (after (world_behind w (lines_from (k + s.alike) line seat (Step t) Done)) (Step t)).world
          × (r ≡ (after (world_behind w (lines_from (k + s.alike) line seat (Step t) Done)) (Step t)).reply)
      last_made =
          let here = behind_both w k line s.alike in (
            subst (MatchesWorld n) (ap (λ c. run_from (world_behind w (lines_from k line seat (Step t) Done)) (steps_of t c)) one_more
                ∙ last_world (world_behind w (lines_from k line seat (Step t) Done)) t s.alike ∙ ap (λ v. (after v (Step t)).world) (sym here)) its.world,
            parted.1 ∙ ap (λ v. (after v (Step t)).reply) (sym here),
          )

-- the same of a run of such steps
pub of_run : (P : Event → ReplyKind → Type 0) (e : Event) (k : ReplyKind) (t : ℕ) → e ≡ Step t → k ≡ Done → P (Step t) Done → P e k
of_run P e k t event kind p = subst (P e) (sym kind) (subst (λ x. P x Done) (sym event) p)

-- what a run of the record comes to, where it is not all that agrees
pub differs_in : {H : Type 0} → (first : World) (es fs rest whole : List Entry) (line : ℕ) (m : MachineView H) → whole ≡ (es ++ fs) ++ rest → Agrees first es → Replays (world_behind first es) fs m (Ok (Some line)) → Replays first whole m (Ok (Some line))
differs_in first es fs rest whole line m is a d =
    let more = replays_then first es fs m (Ok (Some line)) a d in
    (more.0, subst (λ xs. DiffersAt first xs line more.0) (sym is) (differs_more first more.0 (es ++ fs) rest line more.1), more.2)

pub stops_in : {H : Type 0} → (first : World) (es fs rest whole : List Entry) (fault : OutOfMemory) (m : MachineView H) → whole ≡ (es ++ fs) ++ rest → Agrees first es → Replays (world_behind first es) fs m (Err fault) → Replays first whole m (Err fault)
stops_in first es fs rest whole fault m is a s =
    let more = replays_then first es fs m (Err fault) a s in
    (more.0, subst (λ xs. StopsWithin first xs more.0) (sym is) (stops_more first more.0 (es ++ fs) rest more.1), more.2)
