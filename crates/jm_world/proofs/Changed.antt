-- A machine beside its world after threads, classes, monitors or the output have changed.
use Rattle.std.proofs.Common.{◌≡◌, ℕ, ◌<◌, List, ◌++◌, Option, Some, refl, sym, subst, inl, inr, length}
use Rattle.std.specs.Prelude.{map, slice_get, option_map}
use Rattle.jm_values.specs.Shape.{Among, list_shape}
use Rattle.jm_values.proofs.Among.{among_left, among_right, among_split, among_map, among_mapped}
use Rattle.jm_values.specs.Objects.{refs_of}
use Rattle.jm_values.specs.Reach.{Reach, root, field}
use Rattle.jm_world.specs.World.{World, Thread, Progress, Monitor, roots}
use Rattle.jm_values.specs.Content.{name_of, object_at, serial_at}
use Rattle.jm_world.specs.Renaming.{thread_shape, static_shape, monitor_shape, literal_shape}
use Rattle.jm_world.specs.Matches.{Parts, Matches, places, as_named}
use Rattle.jm_values.proofs.Reaching.{reach_within}
use Rattle.jm_world.proofs.Matching.{roots_are, roots_named}
use Rattle.jm_world.proofs.PlacesOfParts.{held_of, parts_shape, places_held}

-- what has changed: threads, states of classes, monitors and output, with the serials of the objects
pub record Change : Type 0 where
  pub threads : List Thread
  pub thread_serials : List (Option ℕ)
  pub classes : List Progress
  pub monitors : List Monitor
  pub monitor_serials : List ℕ
  pub output : List ℕ

-- the machine after it
abbrev pub changed_parts : {T : Type 0} → Parts T → Change → Parts T
changed_parts m c = record m {
  threads = c.threads;
  thread_serials = c.thread_serials;
  classes = c.classes;
  monitors = c.monitors;
  monitor_serials = c.monitor_serials;
  output = c.output;
}

-- the world that it then matches
abbrev pub changed_world : {T : Type 0} → Parts T → World → Change → World
changed_world m w c = record w {
  threads = (list_shape thread_shape).rename (name_of m.content) c.threads;
  classes = c.classes;
  monitors = (list_shape monitor_shape).rename (name_of m.content) c.monitors;
  output = c.output;
}

-- a place of an object of a set
abbrev pub Stands : {T : Type 0} → Parts T → (ℕ → Type 0) → ℕ → Type 0
Stands m Q p = ((k : ℕ) × (serial_at m.content p ≡ Some k)) × Q (name_of m.content p)

-- a set of numbers of objects that are the machine's and the world's, and that refer to one another
pub record IsShared {T : Type 0} (m : Parts T) (w : World) (Q : ℕ → Type 0) : Type 0 where
  pub bound : (k : ℕ) → Q k → k < length w.heap
  pub objects : (k : ℕ) → Q k → option_map (as_named m.named) (object_at m.content k) ≡ slice_get w.heap k
  pub closed : (i j : ℕ) → Q i → Among j (refs_of (slice_get w.heap i)) → Q j
  pub reached : (k : ℕ) → Reach (slice_get w.heap) (roots w) k → Q k

module _ {T : Type 0} (m : Parts T) (w : World) (h : Matches m w) where
  -- what the world reaches is such a set
  pub reach_shared : IsShared m w (Reach (slice_get w.heap) (roots w))
  reach_shared = record { bound = h.bound; objects = h.objects; closed = λ i j r a. field i j r a; reached = λ k r. r }

  -- the places of the machine stand
  pub place_stands : (Q : ℕ → Type 0) → IsShared m w Q → (p : ℕ) → Among p (places m) → Stands m Q p
  place_stands Q q p a = (
    h.resident p a,
    q.reached (name_of m.content p)
        (root (name_of m.content p) (subst (Among (name_of m.content p)) (roots_are m w h) (among_map (name_of m.content) p (places m) a))),
  )

  module _ (Q : ℕ → Type 0) (q : IsShared m w Q) (c : Change) (threads : (p : ℕ) → Among p ((list_shape thread_shape).refs c.threads) → Stands m Q p)
      (monitors : (p : ℕ) → Among p ((list_shape monitor_shape).refs c.monitors) → Stands m Q p)
      (thread_serials : c.thread_serials ≡ map (λ (t : Thread). t.object) (changed_world m w c).threads)
      (monitor_serials : c.monitor_serials ≡ map (λ (x : Monitor). x.object) (changed_world m w c).monitors) where
    abbrev new : Parts T
    new = changed_parts m c

    each_stands : (p : ℕ) → Among p (places new) → Stands m Q p
    each_stands p a =
        let ts = (list_shape thread_shape).refs c.threads in
        let ss = (list_shape static_shape).refs m.statics in
        let ms = (list_shape monitor_shape).refs c.monitors in
        let ls = (list_shape literal_shape).refs m.literals in
        let old_ts = (list_shape thread_shape).refs m.threads in
        let old_ms = (list_shape monitor_shape).refs m.monitors in
        let held : (r : ℕ) → Among r (parts_shape.refs (held_of m)) → Stands m Q r = λ r b. place_stands Q q r (subst (Among r) (sym (places_held m)) b) in
        elim (among_split p ts (ss ++ (ms ++ ls)) (subst (Among p) (places_held new) a)) [
          | inl d ↦ threads p d
          | inr d ↦ elim (among_split p ss (ms ++ ls) d) [
            | inl x ↦ held p (among_right p old_ts (ss ++ (old_ms ++ ls)) (among_left p ss (old_ms ++ ls) x))
            | inr x ↦ elim (among_split p ms ls x) [
              | inl y ↦ monitors p y
              | inr y ↦ held p (among_right p old_ts (ss ++ (old_ms ++ ls)) (among_right p ss (old_ms ++ ls) (among_right p old_ms ls y)))
            ]
          ]
        ]

    new_roots : map (name_of m.content) (places new) ≡ roots (changed_world m w c)
    new_roots = roots_named new (changed_world m w c) refl h.statics refl h.literals

    new_root : (k : ℕ) → Among k (roots (changed_world m w c)) → Q k
    new_root k a =
        let r = among_mapped (name_of m.content) k (places new) (subst (Among k) (sym new_roots) a) in
        subst Q (sym r.2) (each_stands r.0 r.1).1

    new_reach : (k : ℕ) → Reach (slice_get w.heap) (roots (changed_world m w c)) k → Q k
    new_reach k r = reach_within Q new_root q.closed k r

    pub changed : Matches new (changed_world m w c)
    changed = record {
      sound = h.sound;
      resident = λ p a. (each_stands p a).0;
      limit = h.limit;
      next = h.next;
      bound = λ k r. q.bound k (new_reach k r);
      objects = λ k r. q.objects k (new_reach k r);
      threads = refl;
      statics = h.statics;
      monitors = refl;
      monitor_serials = monitor_serials;
      thread_serials = thread_serials;
      literals = h.literals;
      program = h.program;
      classes = refl;
      output = refl;
      stop = h.stop;
    }
