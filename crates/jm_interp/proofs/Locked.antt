-- A state beside its world after a thread has entered or left a monitor.
use Rattle.std.proofs.Common.{◌≡◌, ℕ, ◌+◌, List, [], ◌∷◌, ◌++◌, Option, Some, None, Bool, true, false, refl, sym, ap, ◌∙◌, subst, inl}
use Rattle.std.specs.Prelude.{map, slice_get, option_map, is_some, nat_eq, Result, Ok, Err}
use Rattle.std.specs.List.{AllByRecursion}
use Rattle.jm_values.specs.Content.{Content, name_of, serial_at}
use Rattle.jm_values.specs.Reach.{Reach}
use Rattle.jm_values.specs.Shape.{list_shape}
use Rattle.jm_values.specs.declared.fault.TagFault.TheVariants.{MonitorCount}
use Rattle.jm_values.proofs.Among.{among_left, among_right}
use Rattle.jm_values.proofs.SoundContents.{name_is}
use Rattle.jm_world.specs.Loading.{first_statics}
use Rattle.jm_world.specs.Matches.{Matches}
use Rattle.jm_world.specs.Monitors.{enter, leave, left_in, monitor_in}
use Rattle.jm_world.specs.Next.{goes}
use Rattle.jm_world.specs.Renaming.{thread_shape, static_shape, monitor_shape}
use Rattle.jm_world.specs.World.{World, Thread, Monitor, Progress, roots}
use Rattle.jm_world.specs.declared.stop.Stop.TheVariants as stop
use Rattle.jm_world.proofs.Changed.{Change, reach_shared, place_stands, changed}
use Rattle.jm_heap.specs.declared.class_id.ClassId.{ClassId}
use Rattle.jm_linked.specs.Links.{LinkedView}
use Rattle.jm_linked.specs.Named.{named_states, named_statics}
use Rattle.jm_monitors.specs.Entries.{held_at}
use Rattle.jm_monitors.specs.HeldMonitors.{HeldMonitor, monitors_of, held_in, held_after_enter, held_after_exit, next_of, EntersAs}
use Rattle.jm_monitors.specs.declared.held.Held.{Held}
use Rattle.jm_monitors.specs.declared.entering.Entering.{Entering}
use Rattle.jm_monitors.specs.declared.entering.Entering.TheVariants.{Entered, Blocked, CountEnds}
use Rattle.jm_monitors.proofs.InTheModel.{leaves_as_the_model}
use Rattle.jm_state.specs.Ends.{Ended}
use Rattle.jm_state.specs.Parts.{parts, state_parts, thread_part, monitor_part}
use Rattle.jm_state.specs.Runnable.{StateRuns}
use Rattle.jm_state.specs.View.{view_of}
use Rattle.jm_state.specs.declared.halt.Halt.{Halt}
use Rattle.jm_state.specs.declared.halt.Halt.TheVariants.{Stopped}
use Rattle.jm_state.specs.declared.halt.StepEnd.{StepEnd}
use Rattle.jm_state.specs.declared.halt.StepEnd.TheVariants as end
use Rattle.jm_state.specs.declared.state.State.{State}
use Rattle.jm_state.specs.declared.thread.Thread as held
use Rattle.jm_interp.specs.declared.at.At.{At}
use Rattle.jm_interp.specs.At.{parts_at, HoldsAll, OnFrames, Does}
use Rattle.jm_interp.specs.Locking.{LeftAs}
use Rattle.jm_interp.proofs.HeldMonitors.{all_entered, all_remain, KeptUnless, kept_unless, owned, named_by, monitors_are, serials_are}
use Rattle.jm_interp.proofs.HeldMonitors.{Settled, settled, named_there, placed_there, settled_lasts}
use Rattle.jm_interp.proofs.OnThread.{does}

-- what a world reaches
abbrev pub reached : World → ℕ → Type 0
reached w = Reach (slice_get w.heap) (roots w)

abbrev pub with_monitors : {H : Type 0} → State H → List HeldMonitor → State H
with_monitors s ms = record s { monitors = ms }

module _ {H : Type 0} (content : H → Content ClassId) (l : LinkedView) (old : State H) where
  abbrev c : Content ClassId
  c = content old.heap

  -- those that are held, beside a world
  module _ (w : World) (m : Matches (state_parts content l old) w) where
    named_here : AllByRecursion (λ (h : HeldMonitor). name_of c h.place ≡ h.serial) old.monitors
    unfolding parts
    named_here = named_by (name_of c) old.monitors (m.monitor_serials ∙ ap (map (λ (x : Monitor). x.object)) (sym m.monitors))

    pub monitors_told : w.monitors ≡ monitors_of old.monitors
    unfolding parts
    monitors_told = sym m.monitors ∙ monitors_are (name_of c) old.monitors named_here

    pub settled_here : AllByRecursion (Settled c (reached w)) old.monitors
    unfolding parts
    settled_here =
        let mach = state_parts content l old in
        let a0 = (list_shape thread_shape).refs (map (thread_part l) old.threads.items) in
        let a1 = (list_shape static_shape).refs (named_statics (first_statics l.program) old.statics.items) in
        let a2 = (list_shape monitor_shape).refs (map monitor_part old.monitors) in
        settled c (reached w) old.monitors named_here (λ p a. place_stands mach w m (reached w) (reach_shared mach w m) p
        (among_left p (a0 ++ a1 ++ a2) _ (among_right p (a0 ++ a1) a2 a)))

    -- with others that are settled it is beside the world with these
    pub others_match : (ms : List HeldMonitor) → AllByRecursion (Settled c (reached w)) ms
        → Matches (state_parts content l (with_monitors old ms)) (record w { monitors = monitors_of ms })
    unfolding parts
    others_match ms all =
        let mach = state_parts content l old in
        let shared = reach_shared mach w m in
        let serial : held.Thread → Option ℕ = λ x. x.serial in
        let object : Thread → Option ℕ = λ x. x.object in
        let a0 = (list_shape thread_shape).refs (map (thread_part l) old.threads.items) in
        let a1 = (list_shape static_shape).refs (named_statics (first_statics l.program) old.statics.items) in
        let a2 = (list_shape monitor_shape).refs (map monitor_part old.monitors) in
        let change : Change = record {
          threads = map (thread_part l) old.threads.items;
          thread_serials = map serial old.threads.items;
          classes = named_states l.program old.classes;
          monitors = map monitor_part ms;
          monitor_serials = map (λ (x : HeldMonitor). x.serial) ms;
          output = old.output.items;
        } in
        let told = monitors_are (name_of c) ms (named_there c (reached w) ms all) in
        let whole = changed mach w m (reached w) shared change
        (λ q a. place_stands mach w m (reached w) shared q (among_left q (a0 ++ a1 ++ a2) _ (among_left q (a0 ++ a1) a2 (among_left q a0 a1 a))))
        (placed_there c (reached w) ms all) (m.thread_serials ∙ sym (ap (map object) m.threads))
        (serials_are ms ∙ sym (ap (map (λ (x : Monitor). x.object)) told)) in
        subst (λ (z : List Thread × List Progress × List Monitor × List ℕ).
        Matches (parts l c (record (view_of old) { monitors = ms })) (record w { threads = z.0; classes = z.1; monitors = z.2; output = z.3 }))
        (λ i. (m.threads i, m.classes i, told i, m.output i)) whole

    -- the thread leaves one as the model's does
    pub leave_is : (serial thread : ℕ) → leave w thread serial
        ≡ elim (held_after_exit old.monitors serial thread (held_in old.monitors serial)) as (λ _. Option World) [
          | None ↦ None
          | Some left ↦ Some (record w { monitors = monitors_of left })
        ]
    leave_is serial thread =
        ap (λ ms. by_left (left_in ms thread serial (monitor_in ms serial))) monitors_told
        ∙ ap by_left (leaves_as_the_model old.monitors serial thread)
        ∙ mapped (held_after_exit old.monitors serial thread (held_in old.monitors serial))
      where
        by_left : Option (List Monitor) → Option World
        by_left o = elim o [ None ↦ None | Some monitors ↦ Some (record w { monitors = monitors }) ]

        mapped : (o : Option (List HeldMonitor)) → elim (option_map monitors_of o) as (λ _. Option World) [
          | None ↦ None
          | Some monitors ↦ Some (record w { monitors = monitors })
        ] ≡ elim o as (λ _. Option World) [ None ↦ None | Some left ↦ Some (record w { monitors = monitors_of left }) ]
        mapped None = refl
        mapped (Some left) = refl

-- what comes of a step by what came of entering
abbrev pub entering_end : Entering → Result StepEnd Halt
entering_end Entered = Ok end.Done
entering_end Blocked = Ok end.Blocked
entering_end CountEnds = Err (Stopped (stop.TagFault MonitorCount))

-- no rule of a run asks for monitors
pub runs_with_monitors : {H : Type 0} {l : LinkedView} (old : State H) (ms : List HeldMonitor) → StateRuns l old → StateRuns l (with_monitors old ms)
runs_with_monitors old ms r = record {
  threads = r.threads;
  live = r.live;
  statics = r.statics;
  literals = r.literals;
  classes = r.classes;
  started = r.started;
}

-- a thread enters the monitor of an object that the machine holds
module _ {H : Type 0} {content : H → Content ClassId} {at : At} {old : State H} (h : OnFrames content at old) {place : ℕ}
    (inside : HoldsAll content at old (place ∷ [])) where
  pub lies : (k : ℕ) × (serial_at (content old.heap) place ≡ Some k)
  unfolding parts
  lies = h.on.beside.matches.resident place (inside place (inl refl))

  ends : (w : World) → Matches (parts_at content at old) w → (new : List HeldMonitor) → AllByRecursion (Settled (content old.heap) (reached w)) new
      → (answer : Entering) → KeptUnless answer new old.monitors
      → Ended (entering_end answer) (parts_at content at (with_monitors old new)) w (next_of answer (goes (record w { monitors = monitors_of new })))
  ends w m new all Entered kept = others_match content at.linked.now old w m new all
  ends w m new all Blocked kept = subst (λ ms. Matches (parts_at content at (with_monitors old ms)) w) (sym kept) m
  ends w m new all CountEnds kept = (refl, subst (λ ms. Matches (parts_at content at (with_monitors old ms)) w) (sym kept) m)

  enters_as : {serial : ℕ} → serial_at (content old.heap) place ≡ Some serial → (answer : Entering) (new : List HeldMonitor)
      → (answer, new) ≡ held_after_enter old.monitors serial place (at.index + 1) (held_in old.monitors serial)
      → EntersAs answer serial (at.index + 1) old.monitors new
      → Does content at old (entering_end answer) (with_monitors old new) (λ w number t. enter w number (name_of (content old.heap) place) goes)
  unfolding parts
  enters_as {serial} there answer new is model = does h.on (runs_with_monitors old new h.on.beside.runs) (λ w m.
      let c = content old.heap in
      let named = name_is c place serial there in
      let mach = parts_at content at old in
      let stands = place_stands mach w m (reached w) (reach_shared mach w m) place (inside place (inl refl)) in
      let own : reached w serial = subst (reached w) named stands.1 in
      let all : AllByRecursion (Settled c (reached w)) new =
      subst (λ (z : Entering × List HeldMonitor). AllByRecursion (Settled c (reached w)) z.1) (sym is)
      (all_entered (Settled c (reached w)) (settled_lasts c (reached w)) old.monitors serial place (at.index + 1) (there, own)
      (settled_here content at.linked.now old w m) (held_in old.monitors serial)) in
      let kept : KeptUnless answer new old.monitors =
      subst (λ (z : Entering × List HeldMonitor). KeptUnless z.0 z.1 old.monitors) (sym is)
      (kept_unless old.monitors serial place (at.index + 1) (held_in old.monitors serial)) in
      let step : enter w (at.index + 1) (name_of c place) goes ≡ next_of answer (goes (record w { monitors = monitors_of new })) =
      ap (λ k. enter w (at.index + 1) k goes) named ∙ model w goes (monitors_told content at.linked.now old w m) in
      subst (Ended (entering_end answer) (parts_at content at (with_monitors old new)) w) (sym step) (ends w m new all answer kept))

  pub enters : {serial : ℕ} → serial_at (content old.heap) place ≡ Some serial → {said answer : Entering} → said ≡ answer → (new : List HeldMonitor)
      → (said, new) ≡ held_after_enter old.monitors serial place (at.index + 1) (held_in old.monitors serial)
      → EntersAs said serial (at.index + 1) old.monitors new
      → Does content at old (entering_end answer) (with_monitors old new) (λ w number t. enter w number (name_of (content old.heap) place) goes)
  enters there {said} same new is model =
      subst (λ a. Does content at old (entering_end a) (with_monitors old new) (λ w number t. enter w number (name_of (content old.heap) place) goes)) same
      (enters_as there said new is model)

-- a thread that may own the monitor of the object at a place
module _ {H : Type 0} (content : H → Content ClassId) (at : At) (old : State H) (place serial : ℕ)
    (there : serial_at (content old.heap) place ≡ Some serial) where
  abbrev after_exit : Option (List HeldMonitor)
  after_exit = held_after_exit old.monitors serial (at.index + 1) (held_in old.monitors serial)

  abbrev in_world : World → Option (List HeldMonitor) → Option World
  in_world w o = elim o as (λ _. Option World) [ None ↦ None | Some left ↦ Some (record w { monitors = monitors_of left }) ]

  leaves : (w : World) → Matches (parts_at content at old) w → leave w (at.index + 1) (name_of (content old.heap) place) ≡ in_world w after_exit
  leaves w m =
      ap (leave w (at.index + 1)) (name_is (content old.heap) place serial there) ∙ leave_is content at.linked.now old w m serial (at.index + 1)

  some_left : (w : World) (o : Option (List HeldMonitor)) → is_some (in_world w o) ≡ is_some o
  some_left w None = refl
  some_left w (Some left) = refl

  pub owns_is : (o : Option Held) → option_map (held_at serial) o ≡ held_in old.monitors serial → {result : Bool}
      → result ≡ elim o as (λ _. Bool) [ None ↦ false | Some h ↦ nat_eq h.owner (at.index + 1) ]
      → (w : World) → Matches (parts_at content at old) w → result ≡ is_some (leave w (at.index + 1) (name_of (content old.heap) place))
  owns_is o found is w m =
      is
      ∙ sym (owned old.monitors serial (at.index + 1) o)
      ∙ ap (λ x. is_some (held_after_exit old.monitors serial (at.index + 1) x)) found
      ∙ sym (some_left w after_exit)
      ∙ ap is_some (sym (leaves w m))

  pub left_as : (result : Bool) (new : List HeldMonitor) → (result ≡ true → after_exit ≡ Some new)
      → (result ≡ false → (after_exit ≡ None) × (new ≡ old.monitors)) → (w : World) → Matches (parts_at content at old) w
      → LeftAs result (leave w (at.index + 1) (name_of (content old.heap) place)) (parts_at content at (with_monitors old new)) w
  left_as true new left not w m =
      let is = left refl in
      subst (λ o. LeftAs true o (parts_at content at (with_monitors old new)) w) (sym (leaves w m ∙ ap (in_world w) is))
      (others_match content at.linked.now old w m new (all_remain (Settled (content old.heap) (reached w)) (settled_lasts (content old.heap) (reached w))
      old.monitors serial (at.index + 1) (settled_here content at.linked.now old w m) is))
  left_as false new left not w m =
      let is = not refl in
      subst (λ o. LeftAs false o (parts_at content at (with_monitors old new)) w) (sym (leaves w m ∙ ap (in_world w) is.0))
      (subst (λ ms. Matches (parts_at content at (with_monitors old ms)) w) (sym is.1) m)
