-- What keeps to the rules of a run depends on no reference.
use Rattle.std.proofs.Common.{◌≡◌, ℕ, ◌+◌, ◌≤◌, ◌∷◌, List, [], Option, None, true, false, length, refl, sym, ap, ◌∙◌, subst}
use Rattle.std.specs.Prelude.{◌↔◌, map}
use Rattle.std.specs.List.{AllByRecursion}
use Rattle.std.proofs.lemmas.List.{length-map}
use Rattle.jm_values.specs.Shape.{list_shape, pair_shape}
use Rattle.jm_values.specs.Rename.{value_shape, locals_shape, stack_shape}
use Rattle.jm_values.proofs.Erasing.{Leaves, value_leaves, option_leaves, list_leaves, pair_leaves, activation_leaves}
use Rattle.jm_values.proofs.Lists.{all_mapped}
use Rattle.jm_world.specs.Frames.{number_shape, optional_number_shape}
use Rattle.jm_world.specs.World.{live_among, is_running}
use Rattle.jm_world.specs.declared.stop.Stop.{Stop}
use Rattle.jm_linked.specs.Links.{LinkedView}
use Rattle.jm_state.specs.Parts.{part_of_held, ending_part}
use Rattle.jm_state.specs.Places.{with_method_holders, stack_frame_shape, rename_stack_frame, HeldThread, held_thread, held_thread_shape}
use Rattle.jm_state.specs.Places.{with_thread_holders, Holders, holders, holders_shape, erased, OnlyMoved, IsPutBack}
use Rattle.jm_state.specs.Runnable.{FrameRuns, ThreadRuns, IsRunnable, is_among, is_started}
use Rattle.jm_state.specs.View.{StateView}
use Rattle.jm_monitors.specs.HeldMonitors.{HeldMonitor, held_shape}
use Rattle.jm_state.specs.declared.thread.Ending.{Ending}
use Rattle.jm_state.specs.declared.thread.Ending.TheVariants.{Running, Returned, EndedBy}
use Rattle.jm_state.specs.declared.thread.StackFrame.{StackFrame}
use Rattle.jm_state.specs.declared.thread.StackFrame.TheVariants.{Method, Initialization, Entry}
use Rattle.jm_state.specs.declared.thread.Thread.{Thread}
use Rattle.jm_state.proofs.Alike.{threads_seen}

number_leaves : Leaves number_shape
number_leaves ns k = refl

optional_leaves : Leaves optional_number_shape
optional_leaves = option_leaves number_shape number_leaves

frame_leaves : Leaves stack_frame_shape
frame_leaves ns (Method f) =
    ap (λ p. Method (with_method_holders ((record { at = f.activation.at; max_stack = f.activation.max_stack; locals = p.0.0; stack = p.0.1 }), p.1) f))
    (pair_leaves (pair_shape locals_shape stack_shape) optional_number_shape activation_leaves optional_leaves ns
    ((f.activation.locals, f.activation.stack), f.monitor))
frame_leaves ns (Initialization class stage) = refl
frame_leaves ns Entry = refl

thread_leaves : Leaves held_thread_shape
thread_leaves ns t = by t.object t.serial t.frames t.pending t.ending
  where
    leaves : Leaves (pair_shape optional_number_shape (pair_shape optional_number_shape (list_shape stack_frame_shape)))
    leaves =
        pair_leaves optional_number_shape (pair_shape optional_number_shape (list_shape stack_frame_shape)) optional_leaves
        (pair_leaves optional_number_shape (list_shape stack_frame_shape) optional_leaves (list_leaves stack_frame_shape frame_leaves))

    by : (o k : Option ℕ) (fs : List StackFrame) (p : Option ℕ) (e : Ending)
        → let t : HeldThread = record { object = o; serial = k; frames = fs; pending = p; ending = e } in
        held_thread_shape.rename (λ q. 0) (held_thread_shape.refill ns t) ≡ held_thread_shape.rename (λ q. 0) t
    by o k fs p Running = ap (λ x. with_thread_holders x (record { object = o; serial = k; frames = fs; pending = p; ending = Running }))
        (leaves ns (o, (p, fs)))
    by o k fs p Returned = ap (λ x. with_thread_holders x (record { object = o; serial = k; frames = fs; pending = p; ending = Returned }))
        (leaves ns (None, (p, fs)))
    by o k fs p (EndedBy n) = ap (λ x. with_thread_holders x (record { object = o; serial = k; frames = fs; pending = p; ending = EndedBy n }))
        (leaves ns (None, (p, fs)))

monitor_leaves : Leaves held_shape
monitor_leaves ns m = refl

holders_leave : Leaves holders_shape
holders_leave =
    pair_leaves (list_shape held_thread_shape) (pair_shape stack_shape (pair_shape (list_shape held_shape) (list_shape number_shape)))
    (list_leaves held_thread_shape thread_leaves)
    (pair_leaves stack_shape (pair_shape (list_shape held_shape) (list_shape number_shape)) (list_leaves value_shape value_leaves)
    (pair_leaves (list_shape held_shape) (list_shape number_shape) (list_leaves held_shape monitor_leaves)
    (list_leaves number_shape number_leaves)))

-- what other places were put into differs in them alone
pub put_erased : (ns : List ℕ) (old new : StateView) → holders new ≡ holders_shape.refill ns (holders old) → erased new ≡ erased old
put_erased ns old new e = ap (holders_shape.rename (λ p. 0)) e ∙ holders_leave ns (holders old)

abbrev erase : HeldThread → HeldThread
erase = held_thread_shape.rename (λ p. 0)

abbrev erased_frame : StackFrame → StackFrame
erased_frame = rename_stack_frame (λ p. 0)

frame_same : (l : LinkedView) (f : StackFrame) → FrameRuns l f ↔ FrameRuns l (erased_frame f)
frame_same l (Method f) = (λ r. r, λ r. r)
frame_same l (Initialization class stage) = (λ r. r, λ r. r)
frame_same l Entry = (λ r. r, λ r. r)

thread_same : (l : LinkedView) (t : HeldThread) → ThreadRuns l t ↔ ThreadRuns l (erase t)
thread_same l t =
    let frames = all_mapped (FrameRuns l) (FrameRuns l) erased_frame (frame_same l) t.frames in
    let long = length-map t.frames erased_frame in (
      λ r. record { frames = frames.0 r.frames; few = subst (λ n. n ≤ 512) (sym long) r.few },
      λ r. record { frames = frames.1 r.frames; few = subst (λ n. n ≤ 512) long r.few },
    )

-- what erasing keeps holds of each of two lists of threads that are the same when erased
each_alike : (P : HeldThread → Type 0) → ((t : HeldThread) → P t ↔ P (erase t)) → (ts us : List HeldThread) → map erase us ≡ map erase ts → AllByRecursion P ts
    → AllByRecursion P us
each_alike P same ts us e all = (all_mapped P P erase same us).1 (subst (AllByRecursion P) (sym e) ((all_mapped P P erase same ts).0 all))

live_erased : (l : LinkedView) (ts : List HeldThread) → live_among (map (part_of_held l) ts) ≡ live_among (map (part_of_held l) (map erase ts))
live_erased l [] = refl
live_erased l (t ∷ ts) = ap (λ (n : ℕ). elim (is_running (ending_part l.program t.ending)) as (λ _. ℕ) [ true ↦ n + 1 | false ↦ n ]) (live_erased l ts)

same_length : {A B : Type 0} (f : A → B) (xs ys : List A) → map f xs ≡ map f ys → length xs ≡ length ys
same_length f xs ys e = sym (length-map xs f) ∙ ap length e ∙ length-map ys f

-- of threads that are the same when erased the objects have the same serials
serials_held : (ts : List Thread) → map (λ (t : Thread). t.serial) ts ≡ map (λ (t : HeldThread). t.serial) (map erase (map held_thread ts))
serials_held [] = refl
serials_held (t ∷ ts) = ap (λ ks. t.serial ∷ ks) (serials_held ts)

-- an object that has moved keeps its serial, the threads' and the monitors'
pub serials_alike : {old new : StateView} → OnlyMoved old new → map (λ (t : Thread). t.serial) new.threads ≡ map (λ (t : Thread). t.serial) old.threads
serials_alike {old} {new} m =
    serials_held new.threads ∙ ap (λ (h : Holders). map (λ (t : HeldThread). t.serial) h.0) m.held ∙ sym (serials_held old.threads)

monitors_held : (ms : List HeldMonitor) → map (λ (m : HeldMonitor). m.serial) ms ≡ map (λ (m : HeldMonitor). m.serial) (map (held_shape.rename (λ p. 0)) ms)
monitors_held [] = refl
monitors_held (m ∷ ms) = ap (λ ks. m.serial ∷ ks) (monitors_held ms)

pub monitors_alike : {old new : StateView} → OnlyMoved old new
    → map (λ (m : HeldMonitor). m.serial) new.monitors ≡ map (λ (m : HeldMonitor). m.serial) old.monitors
monitors_alike {old} {new} m =
    monitors_held new.monitors ∙ ap (λ (h : Holders). map (λ (m : HeldMonitor). m.serial) h.1.1.0) m.held ∙ sym (monitors_held old.monitors)

-- a state whose objects have moved runs as before
pub runs_alike : {l : LinkedView} {old new : StateView} → OnlyMoved old new → IsRunnable l old → IsRunnable l new
runs_alike {l} {old} {new} m r =
    let threads : map erase (map held_thread new.threads) ≡ map erase (map held_thread old.threads) = ap (λ (h : Holders). h.0) m.held in
    let statics = ap (λ (h : Holders). h.1.0) m.held in
    let literals = ap (λ (h : Holders). h.1.1.1) m.held in
    record {
      threads = each_alike (ThreadRuns l) (thread_same l) (map held_thread old.threads) (map held_thread new.threads) threads r.threads;
      live = m.live ∙ r.live ∙ ap live_among (threads_seen l old.threads) ∙ live_erased l (map held_thread old.threads)
          ∙ ap (λ ts. live_among (map (part_of_held l) ts)) (sym threads)
          ∙ sym (ap live_among (threads_seen l new.threads) ∙ live_erased l (map held_thread new.threads));
      statics = same_length _ new.statics old.statics statics ∙ r.statics;
      literals = same_length _ new.literals old.literals literals ∙ r.literals;
      classes = ap length m.classes ∙ r.classes;
      started = λ k. ap (is_among k) m.started ∙ r.started k ∙ ap (is_started k) (sym (serials_alike m));
    }

-- other places were put into a state and nothing else changed
pub is_put_back : (ns : List ℕ) (old new : StateView) → holders new ≡ holders_shape.refill ns (holders old) → new.started ≡ old.started
    → new.live ≡ old.live → new.classes ≡ old.classes → new.output ≡ old.output → new.stop ≡ old.stop → IsPutBack ns old new
is_put_back ns old new e started live classes output stop = record {
  held = e;
  moved = record { held = put_erased ns old new e; started = started; live = live; classes = classes; output = output; stop = stop };
}

-- so does one that has printed or stopped
pub runs_still : {l : LinkedView} {s : StateView} (output : List ℕ) (stop : Option Stop) → IsRunnable l s
    → IsRunnable l (record s { output = output; stop = stop })
runs_still output stop r = record {
  threads = r.threads;
  live = r.live;
  statics = r.statics;
  literals = r.literals;
  classes = r.classes;
  started = r.started;
}
