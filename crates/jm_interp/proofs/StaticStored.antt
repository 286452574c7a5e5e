-- A machine beside its world after the value of one static field has changed.
use Rattle.std.proofs.Common.{◌≡◌, ℕ, zero, suc, ◌+◌, List, [], ◌∷◌, ◌++◌, Option, Some, None, Bool, true, false, refl, sym, ap, ◌∙◌, subst, inl, inr}
use Rattle.std.proofs.Common.{◌⊎◌, arith, length-set, drop}
use Rattle.std.specs.Prelude.{map, slice_get, slice_set, Ok}
use Rattle.std.specs.Vec.{with_item}
use Rattle.jm_frames.specs.FrameView.{FrameView, with_stack, gone_to}
use Rattle.jm_values.specs.Content.{Content, name_of}
use Rattle.jm_values.specs.Reach.{Reach}
use Rattle.jm_values.specs.Reach as reach
use Rattle.jm_values.specs.Rename.{rename, refs, rename_activation, refs_activation, locals_shape, stack_shape}
use Rattle.jm_values.specs.Shape.{Among, list_shape}
use Rattle.jm_values.specs.declared.value.Value.{Value}
use Rattle.jm_values.proofs.Among.{among_left, among_right, among_split, among_mapped}
use Rattle.jm_values.proofs.Reaching.{reach_within}
use Rattle.jm_world.specs.Here.{topped, moved_on, go_on_in}
use Rattle.jm_world.specs.Loading.{first_statics}
use Rattle.jm_world.specs.Matches.{Parts, Matches, places}
use Rattle.jm_world.specs.Next.{goes}
use Rattle.jm_world.specs.Objects.{FieldName, place_of_field, same_field}
use Rattle.jm_world.specs.Renaming.{thread_shape, static_shape, monitor_shape, literal_shape}
use Rattle.jm_world.specs.Stepping.{step_thread}
use Rattle.jm_world.specs.World.{World, Thread, Static, roots, set_static_in}
use Rattle.jm_world.proofs.Changed.{reach_shared, place_stands}
use Rattle.jm_world.proofs.Matching.{roots_named}
use Rattle.jm_heap.specs.declared.class_id.ClassId.{ClassId}
use Rattle.jm_tables.specs.Layouts.{static_fields}
use Rattle.jm_linked.specs.Named.{named_statics}
use Rattle.jm_state.specs.Ends.{Ended}
use Rattle.jm_state.specs.Parts.{parts}
use Rattle.jm_state.specs.Runnable.{StateRuns}
use Rattle.jm_state.specs.declared.halt.StepEnd.TheVariants.{Done}
use Rattle.jm_state.specs.declared.state.State.{State}
use Rattle.jm_state.specs.declared.thread.StackFrame.{StackFrame}
use Rattle.jm_state.specs.declared.thread.StackFrame.TheVariants.{Method}
use Rattle.jm_state.specs.declared.thread.Thread as held
use Rattle.jm_interp.specs.declared.at.At.{At}
use Rattle.jm_interp.specs.At.{parts_at, Holds, OnThread, InMethod, Steps}
use Rattle.jm_interp.specs.Standing.{running, Stands}
use Rattle.jm_interp.proofs.Here.{place, goes_with, part_with, top_held}
use Rattle.jm_interp.proofs.OnThread.{Leads, model, thread_there, does, runs_with, with_thread_at, held_statics}
use Rattle.jm_interp.proofs.Replaced.{dropped_map, refs_dropped}

-- the fields of statics, and statics under other names of their references
abbrev pub fields : List Static → List FieldName
fields ss = map (λ (s : Static). s.field) ss

abbrev pub renamed : (ℕ → ℕ) → List Static → List Static
renamed f ss = (list_shape static_shape).rename f ss

abbrev pub refs_of_statics : List Static → List ℕ
refs_of_statics ss = (list_shape static_shape).refs ss

-- another value of a static field, by its number
set_at : (f : ℕ → ℕ) (ss : List Static) (vs : List Value) (sought : FieldName) (n : ℕ) (v : Value) → place_of_field (fields ss) sought ≡ Some n
    → renamed f (named_statics ss (slice_set vs n v)) ≡ set_static_in (renamed f (named_statics ss vs)) sought (rename f v)
set_at f [] vs sought n v e = cc
set_at f (s ∷ ss) [] sought n v e = refl
set_at f (s ∷ ss) (u ∷ vs) sought n v e = by (set_at f ss vs sought) (same_field s.field sought) (place_of_field (fields ss) sought) refl e
  where
    by : ((i : ℕ) (x : Value) → place_of_field (fields ss) sought ≡ Some i
        → renamed f (named_statics ss (slice_set vs i x)) ≡ set_static_in (renamed f (named_statics ss vs)) sought (rename f x))
        → (b : Bool) (o : Option ℕ) → place_of_field (fields ss) sought ≡ o
        → (elim b as (λ _. Option ℕ) [ true ↦ Some 0 | false ↦ elim o [ None ↦ None | Some i ↦ Some (i + 1) ] ]) ≡ Some n
        → renamed f (named_statics (s ∷ ss) (slice_set (u ∷ vs) n v)) ≡ (elim b as (λ _. List Static) [
          | true ↦ record { field = s.field; value = rename f v } ∷ renamed f (named_statics ss vs)
          | false ↦ record { field = s.field; value = rename f u } ∷ set_static_in (renamed f (named_statics ss vs)) sought (rename f v)
        ])
    by rest true o is h =
        let zeroth : n ≡ 0 = cc in
        ap (λ k. renamed f (named_statics (s ∷ ss) (slice_set (u ∷ vs) k v))) zeroth
    by rest false None is h = cc
    by rest false (Some i) is h =
        let more : i + 1 ≡ n = cc in
        let next : n ≡ suc i = omega arith in
        ap (λ k. renamed f (named_statics (s ∷ ss) (slice_set (u ∷ vs) k v))) next
        ∙ ap (λ x. let first : Static = record { field = s.field; value = rename f u } in first ∷ x) (rest i v is)

set_refs : (ss : List Static) (vs : List Value) (n : ℕ) (v : Value) (q : ℕ) → Among q (refs_of_statics (named_statics ss (slice_set vs n v)))
    → Among q (refs_of_statics (named_statics ss vs)) ⊎ Among q (refs v)
set_refs [] vs n v q a = inl a
set_refs (s ∷ ss) [] n v q a = inl a
set_refs (s ∷ ss) (u ∷ vs) zero v q a = elim (among_split q (refs v) (refs_of_statics (named_statics ss vs)) a) [
  | inl b ↦ inr b
  | inr b ↦ inl (among_right q (refs u) (refs_of_statics (named_statics ss vs)) b)
]
set_refs (s ∷ ss) (u ∷ vs) (suc n) v q a =
    elim (among_split q (refs u) (refs_of_statics (named_statics ss (slice_set vs n v))) a) [
      | inl b ↦ inl (among_left q (refs u) (refs_of_statics (named_statics ss vs)) b)
      | inr b ↦ elim (set_refs ss vs n v q b) [
        | inl c ↦ inl (among_right q (refs u) (refs_of_statics (named_statics ss vs)) c)
        | inr c ↦ inr c
      ]
    ]

-- other statics, whose places the machine held
module _ {T : Type 0} (m : Parts T) (w : World) (h : Matches m w) (statics : List Static)
    (inside : (q : ℕ) → Among q (refs_of_statics statics) → Among q (places m)) where
  abbrev pub stored_parts : Parts T
  stored_parts = record m { statics = statics }

  abbrev pub stored_world : World
  stored_world = record w { statics = renamed (name_of m.content) statics }

  held_before : (q : ℕ) → Among q (places stored_parts) → Among q (places m)
  held_before q a =
      let ts = (list_shape thread_shape).refs m.threads in
      let ss = refs_of_statics m.statics in
      let ms = (list_shape monitor_shape).refs m.monitors in
      let ls = (list_shape literal_shape).refs m.literals in
      elim (among_split q (ts ++ refs_of_statics statics ++ ms) ls a) [
        | inr b ↦ among_right q (ts ++ ss ++ ms) ls b
        | inl b ↦ elim (among_split q (ts ++ refs_of_statics statics) ms b) [
          | inr c ↦ among_left q (ts ++ ss ++ ms) ls (among_right q (ts ++ ss) ms c)
          | inl c ↦ elim (among_split q ts (refs_of_statics statics) c) [
            | inr d ↦ inside q d
            | inl d ↦ among_left q (ts ++ ss ++ ms) ls (among_left q (ts ++ ss) ms (among_left q ts ss d))
          ]
        ]
      ]

  reached_before : (k : ℕ) → Reach (slice_get w.heap) (roots stored_world) k → Reach (slice_get w.heap) (roots w) k
  reached_before k r = reach_within (Reach (slice_get w.heap) (roots w)) root_before (λ i j was a. reach.field i j was a) k r
    where
      root_before : (j : ℕ) → Among j (roots stored_world) → Reach (slice_get w.heap) (roots w) j
      root_before j a =
          let named = roots_named stored_parts stored_world h.threads refl h.monitors h.literals in
          let q = among_mapped (name_of m.content) j (places stored_parts) (subst (Among j) (sym named) a) in
          subst (Reach (slice_get w.heap) (roots w)) (sym q.2)
          (place_stands m w h (Reach (slice_get w.heap) (roots w)) (reach_shared m w h) q.0 (held_before q.0 q.1)).1

  pub statics_stored : Matches stored_parts stored_world
  statics_stored = record {
    sound = h.sound;
    resident = λ q a. h.resident q (held_before q a);
    limit = h.limit;
    next = h.next;
    bound = λ k r. h.bound k (reached_before k r);
    objects = λ k r. h.objects k (reached_before k r);
    threads = h.threads;
    statics = refl;
    monitors = h.monitors;
    monitor_serials = h.monitor_serials;
    thread_serials = h.thread_serials;
    literals = h.literals;
    program = h.program;
    classes = h.classes;
    output = h.output;
    stop = h.stop;
  }

module _ {H : Type 0} {content : H → Content ClassId} {at : At} {old : State H} {fs : List StackFrame} {p : Option ℕ} (h : OnThread content at old fs p)
    (n : ℕ) (v : Value) where
  abbrev pub mid : State H
  mid = record old { statics = with_item old.statics n v }

  -- the world with the value in the field
  abbrev pub with_it : FieldName → World → World
  with_it name w = record w { statics = set_static_in w.statics name (rename (name_of (content old.heap)) v) }

  pub mid_runs : StateRuns at.linked.now mid
  mid_runs =
      let r = h.beside.runs in
      record {
        threads = r.threads;
        live = r.live;
        statics = length-set old.statics.items n v ∙ r.statics;
        literals = r.literals;
        classes = r.classes;
        started = r.started;
      }

  module _ (inside : Holds content at old v) where
    set_held : (q : ℕ) → Among q (refs_of_statics (named_statics (first_statics at.linked.now.program) (slice_set old.statics.items n v)))
        → Among q (places (parts_at content at old))
    set_held q a = elim (set_refs (first_statics at.linked.now.program) old.statics.items n v q a) [ inl b ↦ held_statics h q b | inr b ↦ inside q b ]

    pub mid_matches : (name : FieldName) → place_of_field (static_fields at.linked.now.program) name ≡ Some n → (w : World)
        → Matches (parts_at content at old) w → Matches (parts_at content at mid) (with_it name w)
    unfolding parts
    mid_matches name is w m =
        let f = name_of (content old.heap) in
        let ss = first_statics at.linked.now.program in
        let set : renamed f (named_statics ss (slice_set old.statics.items n v)) ≡ set_static_in w.statics name (rename f v) =
        set_at f ss old.statics.items name n v is ∙ ap (λ x. set_static_in x name (rename f v)) m.statics in
        subst (λ x. Matches (parts_at content at mid) (record w { statics = x })) set
        (statics_stored (parts_at content at old) w m (named_statics ss (slice_set old.statics.items n v)) set_held)

module _ {H : Type 0} {content : H → Content ClassId} {at : At} {old : State H} (h : InMethod content at old) (n : ℕ) (v : Value)
    (inside : Holds content at old v) (name : FieldName) (is : place_of_field (static_fields at.linked.now.program) name ≡ Some n) where
  stands_there : (w : World) → Matches (parts_at content at old) w → InMethod content at (mid h.on n v)
  stands_there w m = record {
    frame = h.frame;
    below = h.below;
    on = record {
      world = with_it h.on n v name w;
      beside = record { linked = h.on.beside.linked; runs = mid_runs h.on n v; matches = mid_matches h.on n v inside name is w m };
      object = h.on.object;
      stands = record { thread = h.on.stands.thread; at = h.on.stands.at; stands = h.on.stands.stands };
    };
  }

  module _ (count : ℕ) where
    -- the top frame without these operands, at the next instruction
    abbrev pub left : FrameView
    left = gone_to (with_stack h.frame (drop count h.frame.activation.stack)) (h.frame.activation.at + 1)

    left_held : (q : ℕ) → Among q (refs_activation left.activation) → Among q (refs_activation h.frame.activation)
    left_held q a =
        let x = h.frame.activation in
        elim (among_split q (locals_shape.refs x.locals) (stack_shape.refs (drop count x.stack)) a) [
          | inl b ↦ among_left q (locals_shape.refs x.locals) (stack_shape.refs x.stack) b
          | inr b ↦ among_right q (locals_shape.refs x.locals) (stack_shape.refs x.stack) (refs_dropped count x.stack q b)
        ]

    -- a row that stores the value in the field
    pub static_stored : {t : held.Thread} → Stands t (Method left ∷ h.below) (running h.on.object None)
        → Leads h.on step_thread (λ w. go_on_in (place h w) (with_it h.on n v name w) (drop count (place h w).frame.stack))
        → Steps content at old (Ok Done) (with_thread_at (mid h.on n v) at.index t)
    unfolding stands_there
    static_stored {t} stands row =
        let there = stands_there h.on.world h.on.beside.matches in
        does h.on (runs_with there.on stands (part_with there left.activation)) (λ w m.
        let s = stands_there w m in
        let rule = λ (x : World) (number : ℕ) (y : Thread). goes (topped (place s x) x (rename_activation (name_of (content old.heap)) left.activation)) in
        let done = goes_with s {rule = rule} stands (λ q a. top_held s q (left_held q a)) (λ x k. refl) in
        let dropped = dropped_map (rename (name_of (content old.heap))) count h.frame.activation.stack in
        let same = ap (λ x. goes (topped (place h w) (with_it h.on n v name w) (moved_on (place h w).frame x))) dropped in
        subst (Ended (Ok Done) (parts_at content at (with_thread_at (mid h.on n v) at.index t)) w) (sym (row w m ∙ same))
        (done.ends (with_it h.on n v name w) (model s.on) (mid_matches h.on n v inside name is w m)
        (thread_there s.on (with_it h.on n v name w) (mid_matches h.on n v inside name is w m))))
