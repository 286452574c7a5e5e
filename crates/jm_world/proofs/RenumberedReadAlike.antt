-- What a step reads of worlds that are one but for numbers is alike.
use Rattle.std.proofs.Common.{◌≡◌, ℕ, List, Option, Some, Bool, true, false, refl, ap, subst, ◌∙◌, length}
use Rattle.std.specs.Prelude.{slice_get}
use Rattle.jm_program.specs.Names.{same_text}
use Rattle.jm_values.specs.declared.value.Value.{Value}
use Rattle.jm_world.specs.Objects.{FieldName, same_field}
use Rattle.jm_world.specs.Frames.{Frame, refs_frame, optional_number_shape}
use Rattle.jm_world.specs.World.{Thread, Static, Literal, Ending, running, returned, ended_by, object_refs, refs_thread, refs_static, refs_monitor, refs_literal, roots, reach_cells, is_running, literal_in, static_in}
use Rattle.jm_world.specs.BuiltInMethods.{is_object_of, was_started}
use Rattle.jm_values.specs.Shape.{Among}
use Rattle.jm_values.proofs.Among.{among_left, among_right, among_split}
use Rattle.std.proofs.Common.{◌⊎◌, inl, inr, ◌++◌, ◌<◌, flat_map, sym}
use Rattle.jm_world.proofs.ReachInAnyOrder.{partner_in, partner_of, cells_any_order}
use Rattle.jm_world.proofs.MonitorsInAnyOrder.{roots_held}
use Rattle.jm_world.specs.SideBySide.{Values, Lists, none, more, Options, neither, both, Frames, methods, initializations, entries}
use Rattle.jm_world.specs.TwoWorlds.{Two, left, right}
use Rattle.jm_world.proofs.WhatComes.{Alike}
use Rattle.jm_world.specs.Renumbered.{Near, Literals, literals, Statics, statics, Threads, Renumbered}
use Rattle.jm_world.proofs.WordsSideBySide.{joined}
use Rattle.jm_world.proofs.PlainSideBySide.{value_refs, flat_alike, act_refs, plain_alike}

module _ (R : ℕ → ℕ → Type 0) where
  -- what is reached
  numbers_alike : (o p : Option ℕ) → Options R o p → Lists R (optional_number_shape.refs o) (optional_number_shape.refs p)
  numbers_alike _ _ neither = none
  numbers_alike _ _ (both r) = more r none

  frame_refs : (f g : Frame) → Frames R f g → Lists R (refs_frame f) (refs_frame g)
  frame_refs _ _ (methods a o) = joined (act_refs _ _ a) (numbers_alike _ _ o)
  frame_refs _ _ initializations = none
  frame_refs _ _ entries = none

  thread_refs : (n : ℕ) (t u : Thread) → Threads R n t u → Lists R (refs_thread t) (refs_thread u)
  thread_refs n t u m = joined (objects_by t.ending u.ending m.ending m.live)
      (joined (numbers_alike t.pending u.pending m.pending) (flat_alike refs_frame (Frames R) frame_refs t.frames u.frames m.frames))
    where
      objects_by : (a b : Ending) → a ≡ b → (is_running a ≡ true → Options R t.object u.object) → Lists R (object_refs a t.object) (object_refs b u.object)
      objects_by running b e h = subst (λ b. Lists R (object_refs running t.object) (object_refs b u.object)) e (numbers_alike t.object u.object (h refl))
      objects_by returned b e h = subst (λ b. Lists R (object_refs returned t.object) (object_refs b u.object)) e none
      objects_by (ended_by class) b e h = subst (λ b. Lists R (object_refs (ended_by class) t.object) (object_refs b u.object)) e none

  static_refs : (s t : Static) → Statics R s t → Lists R (refs_static s) (refs_static t)
  static_refs _ _ (statics a) = value_refs _ _ a

  literal_refs : (s t : Literal) → Literals R s t → Lists R (refs_literal s) (refs_literal t)
  literal_refs _ _ (literals r) = more r none

  module _ (p : Two) (m : Renumbered R p) where
    like_threads : Lists R (flat_map refs_thread p.one.threads) (flat_map refs_thread p.other.threads)
    like_threads = flat_alike refs_thread (Threads R (length p.one.heap)) (thread_refs (length p.one.heap)) p.one.threads p.other.threads m.threads

    like_statics : Lists R (flat_map refs_static p.one.statics) (flat_map refs_static p.other.statics)
    like_statics = flat_alike refs_static (Statics R) static_refs p.one.statics p.other.statics m.statics

    like_literals : Lists R (flat_map refs_literal p.one.literals) (flat_map refs_literal p.other.literals)
    like_literals = flat_alike refs_literal (Literals R) literal_refs p.one.literals p.other.literals m.literals

    A : List ℕ
    A = flat_map refs_thread p.one.threads

    B : List ℕ
    B = flat_map refs_static p.one.statics

    C : List ℕ
    C = flat_map refs_monitor p.one.monitors

    D : List ℕ
    D = flat_map refs_literal p.one.literals

    A' : List ℕ
    A' = flat_map refs_thread p.other.threads

    B' : List ℕ
    B' = flat_map refs_static p.other.statics

    C' : List ℕ
    C' = flat_map refs_monitor p.other.monitors

    D' : List ℕ
    D' = flat_map refs_literal p.other.literals

    forth : (k : ℕ) → Among k (roots (left p)) → (j : ℕ) × R k j × Among j (roots (right p))
    unfolding A B C D A' B' C' D'
    forth k a = last (among_split k (A ++ B ++ C) D a)
      where
        first : Among k A ⊎ Among k B → (j : ℕ) × R k j × Among j (A' ++ B')
        first (inl a) = let q = partner_in R A A' like_threads k a in (q.0, q.1, among_left q.0 A' B' q.2)
        first (inr a) = let q = partner_in R B B' like_statics k a in (q.0, q.1, among_right q.0 A' B' q.2)

        second : Among k (A ++ B) ⊎ Among k C → (j : ℕ) × R k j × Among j (A' ++ B' ++ C')
        second (inl a) = let q = first (among_split k A B a) in (q.0, q.1, among_left q.0 (A' ++ B') C' q.2)
        second (inr a) = let q = m.monitors.forth k (subst (Among k) (sym (roots_held p.one.monitors)) a) in (q.0, q.1, among_right q.0 (A' ++ B') C' (subst (Among q.0) (roots_held p.other.monitors) q.2))

        last : Among k (A ++ B ++ C) ⊎ Among k D → (j : ℕ) × R k j × Among j (A' ++ B' ++ C' ++ D')
        last (inl a) = let q = second (among_split k (A ++ B) C a) in (q.0, q.1, among_left q.0 (A' ++ B' ++ C') D' q.2)
        last (inr a) = let q = partner_in R D D' like_literals k a in (q.0, q.1, among_right q.0 (A' ++ B' ++ C') D' q.2)

    back : (j : ℕ) → Among j (roots (right p)) → (k : ℕ) × R k j × Among k (roots (left p))
    unfolding A B C D A' B' C' D'
    back k a = last (among_split k (A' ++ B' ++ C') D' a)
      where
        first : Among k A' ⊎ Among k B' → (j : ℕ) × R j k × Among j (A ++ B)
        first (inl a) = let q = partner_of R A A' like_threads k a in (q.0, q.1, among_left q.0 A B q.2)
        first (inr a) = let q = partner_of R B B' like_statics k a in (q.0, q.1, among_right q.0 A B q.2)

        second : Among k (A' ++ B') ⊎ Among k C' → (j : ℕ) × R j k × Among j (A ++ B ++ C)
        second (inl a) = let q = first (among_split k A' B' a) in (q.0, q.1, among_left q.0 (A ++ B) C q.2)
        second (inr a) = let q = m.monitors.back k (subst (Among k) (sym (roots_held p.other.monitors)) a) in (q.0, q.1, among_right q.0 (A ++ B) C (subst (Among q.0) (roots_held p.one.monitors) q.2))

        last : Among k (A' ++ B' ++ C') ⊎ Among k D' → (j : ℕ) × R j k × Among j (A ++ B ++ C ++ D)
        last (inl a) = let q = second (among_split k (A' ++ B') C' a) in (q.0, q.1, among_left q.0 (A ++ B ++ C) D q.2)
        last (inr a) = let q = partner_of R D D' like_literals k a in (q.0, q.1, among_right q.0 (A ++ B ++ C) D q.2)

    pub cells_matched : reach_cells (left p) ≡ reach_cells (right p)
    unfolding reach_cells
    cells_matched = cells_any_order R m.names.equal (slice_get p.one.heap) (slice_get p.other.heap) m.objects (roots (left p)) (roots (right p)) forth back (length p.one.heap) (length p.other.heap)
        (λ k j r. let q = m.names.below k j r in (q.0, subst (λ n. j < n) m.made q.1))

  -- what is found
  pub literal_found : (ls ks : List Literal) → Lists (Literals R) ls ks → (units : List ℕ) → Options R (literal_in ls units) (literal_in ks units)
  literal_found _ _ none units = neither
  literal_found _ _ (more {xs = ls} {ys = ks} (literals {units = name} {k = k} {j = j} r) l) units = by (same_text name units) (literal_found _ _ l units)
    where
      by : (b : Bool) → Options R (literal_in ls units) (literal_in ks units) → Options R (elim b as (λ _. Option ℕ) [ true ↦ Some k | false ↦ literal_in ls units ]) (elim b as (λ _. Option ℕ) [ true ↦ Some j | false ↦ literal_in ks units ])
      by true h = both r
      by false h = h

  pub static_found : (ss rs : List Static) → Lists (Statics R) ss rs → (f : FieldName) → Options (Values R) (static_in ss f) (static_in rs f)
  static_found _ _ none f = neither
  static_found _ _ (more {xs = ss} {ys = rs} (statics {field = field} {v = v} {u = u} a) l) f = by (same_field field f) (static_found _ _ l f)
    where
      by : (b : Bool) → Options (Values R) (static_in ss f) (static_in rs f) → Options (Values R) (elim b as (λ _. Option Value) [ true ↦ Some v | false ↦ static_in ss f ]) (elim b as (λ _. Option Value) [ true ↦ Some u | false ↦ static_in rs f ])
      by true h = both a
      by false h = h

  object_same : (n : ℕ) (o p : Option ℕ) → Options (Near R n) o p → (k j : ℕ) → R k j → is_object_of k o ≡ is_object_of j p
  object_same n _ _ neither k j r = refl
  object_same n _ _ (both near) k j r = near.2 k j r

  started_same : (n : ℕ) (ts us : List Thread) → Lists (Threads R n) ts us → (k j : ℕ) → R k j → was_started k ts ≡ was_started j us
  started_same n _ _ none k j r = refl
  started_same n _ _ (more {x = t} {y = u} {xs = ts} {ys = us} m l) k j r =
      ap (λ b. elim b as (λ _. Bool) [ true ↦ true | false ↦ was_started k ts ]) (object_same n t.object u.object m.object k j r) ∙ ap (λ c. elim (is_object_of j u.object) as (λ _. Bool) [ true ↦ true | false ↦ c ]) (started_same n _ _ l k j r)

  pub renumbered_alike : (p : Two) → Renumbered R p → Alike R p
  renumbered_alike p m = record {
    cells = cells_matched p m;
    made = m.made;
    objects = m.objects;
    literals = literal_found p.one.literals p.other.literals m.literals;
    statics = static_found p.one.statics p.other.statics m.statics;
    held = m.monitors.held;
    started = started_same (length p.one.heap) p.one.threads p.other.threads m.threads;
    plain = plain_alike R m.names.equal;
  }
