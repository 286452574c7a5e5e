-- Parts of a machine whose places have moved with their objects match the same world, and those of
-- one whose heap has made an object, or all objects of a list, the world with them.
use Rattle.std.proofs.Common.{◌≡◌, ℕ, ◌+◌, ◌<◌, ◌∷◌, ◌++◌, List, [], Some, length, sym, ap, ◌∙◌, subst, arith, length-append}
use Rattle.std.specs.Prelude.{map, slice_get, option_map}
use Rattle.std.proofs.lemmas.List.{append-nil, length-map}
use Rattle.jm_values.specs.Shape.{Among}
use Rattle.jm_values.specs.Content.{Content, Kept, Made, MadeAll, Reached, name_of, object_at, serial_at}
use Rattle.jm_values.specs.Objects.{ObjectOf, refs_of}
use Rattle.jm_values.specs.Reach.{Reach, root, field}
use Rattle.jm_values.proofs.Among.{same_names}
use Rattle.jm_values.proofs.Reaching.{reach_within}
use Rattle.jm_world.specs.Objects.{Object}
use Rattle.jm_world.specs.Types.{ObjectType}
use Rattle.jm_world.specs.World.{World, roots}
use Rattle.jm_world.specs.Next.{with_objects}
use Rattle.jm_world.specs.Matches.{Parts, Matches, places, as_named}
use Rattle.jm_world.proofs.Matching.{reaches_alike}
use Rattle.jm_world.proofs.Making.{get_before}
use Rattle.jm_world.proofs.PlacesOfParts.{Held, held_of, parts_shape, parts_is_shape}

-- objects more are not reached
still_reached : (heap os : List Object) (from : List ℕ) → ((k : ℕ) → Reach (slice_get heap) from k → k < length heap) → (k : ℕ)
    → Reach (slice_get (heap ++ os)) from k → Reach (slice_get heap) from k
still_reached heap os from bound k r =
    reach_within (Reach (slice_get heap) from) (λ j i. root j i)
    (λ i j p q. field i j p (subst (λ x. Among j (refs_of x)) (get_before heap os i (bound i p)) q)) k r

-- by its heap a machine's places name what another's name by theirs, and else the machines are the same
pub record HasMoved {T : Type 0} (m new : Parts T) : Type 0 where
  pub held : parts_shape.rename (name_of new.content) (held_of new) ≡ parts_shape.rename (name_of m.content) (held_of m)
  pub program : new.program ≡ m.program
  pub named : new.named ≡ m.named
  pub classes : new.classes ≡ m.classes
  pub monitor_serials : new.monitor_serials ≡ m.monitor_serials
  pub thread_serials : new.thread_serials ≡ m.thread_serials
  pub output : new.output ≡ m.output
  pub stop : new.stop ≡ m.stop

-- so it is where moved places were put in
module _ {T : Type 0} (c d : Content T) (held new : Held) (moved : List ℕ) (put : new ≡ parts_shape.refill moved held)
    (names : map (name_of d) moved ≡ map (name_of c) (parts_shape.refs held)) where
  pub put_renamed : parts_shape.rename (name_of d) new ≡ parts_shape.rename (name_of c) held
  put_renamed =
      ap (parts_shape.rename (name_of d)) put
      ∙ ap (λ ns. parts_shape.rename (name_of d) (parts_shape.refill ns held)) (sym (append-nil moved))
      ∙ (parts_is_shape held).moved (name_of c) (name_of d) moved [] names

  pub put_refs : parts_shape.refs new ≡ moved
  put_refs =
      let long : length moved ≡ length (parts_shape.refs held) =
      sym (length-map moved (name_of d)) ∙ ap length names ∙ length-map (parts_shape.refs held) (name_of c) in
      ap parts_shape.refs put
      ∙ ap (λ ns. parts_shape.refs (parts_shape.refill ns held)) (sym (append-nil moved))
      ∙ (parts_is_shape held).refilled moved [] long

-- and where nothing moved
pub same_renamed : {T : Type 0} (c d : Content T) (held : Held) → map (name_of d) (parts_shape.refs held) ≡ map (name_of c) (parts_shape.refs held)
    → parts_shape.rename (name_of d) held ≡ parts_shape.rename (name_of c) held
same_renamed c d held names = (parts_is_shape held).agrees (name_of d) (name_of c) (same_names (name_of d) (name_of c) (parts_shape.refs held) names)

module _ {T : Type 0} {m new : Parts T} {w : World} (h : Matches m w) (a : HasMoved m new) where
  reached_here : (k : ℕ) → Reach (slice_get w.heap) (roots w) k → Reached m.content (places m) k
  reached_here k r = ((reaches_alike m w h).same k).1 r

  same_object : (k : ℕ) → object_at new.content k ≡ object_at m.content k
      → option_map (as_named new.named) (object_at new.content k) ≡ option_map (as_named m.named) (object_at m.content k)
  same_object k e = ap (λ (named : T → ObjectType). option_map (as_named named) (object_at new.content k)) a.named ∙ ap (option_map (as_named m.named)) e

  -- a heap that kept what is reached matches the same world
  pub kept_matches : Kept m.content (places m) new.content (places new) → new.content.next ≡ m.content.next → Matches new w
  kept_matches kept next = record {
    sound = kept.sound;
    resident = kept.resident;
    limit = kept.limit ∙ h.limit;
    next = next ∙ h.next;
    bound = h.bound;
    objects = λ k r. same_object k (kept.reached k (reached_here k r)) ∙ h.objects k r;
    threads = ap (λ (p : Held). p.0) a.held ∙ h.threads;
    statics = ap (λ (p : Held). p.1.0) a.held ∙ h.statics;
    monitors = ap (λ (p : Held). p.1.1.0) a.held ∙ h.monitors;
    monitor_serials = a.monitor_serials ∙ h.monitor_serials;
    thread_serials = a.thread_serials ∙ h.thread_serials;
    literals = ap (λ (p : Held). p.1.1.1) a.held ∙ h.literals;
    program = a.program ∙ h.program;
    classes = a.classes ∙ h.classes;
    output = a.output ∙ h.output;
    stop = a.stop ∙ h.stop;
  }

  -- a heap that kept it and has so many serials more matches the world with objects more
  module _ (os : List Object) (kept : Kept m.content (places m) new.content (places new)) (next : new.content.next ≡ m.content.next + length os) where
    reached_before : (k : ℕ) → Reach (slice_get (w.heap ++ os)) (roots w) k → Reach (slice_get w.heap) (roots w) k
    reached_before k r = still_reached w.heap os (roots w) h.bound k r

    more_matches : Matches new (with_objects w os)
    more_matches = record {
      sound = kept.sound;
      resident = kept.resident;
      limit = kept.limit ∙ h.limit;
      next = next ∙ ap (λ n. n + length os) h.next ∙ sym (length-append w.heap os);
      bound = λ k r. let b = h.bound k (reached_before k r) in omega (arith, b, length-append w.heap os);
      objects =
          λ k r. same_object k (kept.reached k (reached_here k (reached_before k r))) ∙ h.objects k (reached_before k r)
          ∙ sym (get_before w.heap os k (h.bound k (reached_before k r)));
      threads = ap (λ (p : Held). p.0) a.held ∙ h.threads;
      statics = ap (λ (p : Held). p.1.0) a.held ∙ h.statics;
      monitors = ap (λ (p : Held). p.1.1.0) a.held ∙ h.monitors;
      monitor_serials = a.monitor_serials ∙ h.monitor_serials;
      thread_serials = a.thread_serials ∙ h.thread_serials;
      literals = ap (λ (p : Held). p.1.1.1) a.held ∙ h.literals;
      program = a.program ∙ h.program;
      classes = a.classes ∙ h.classes;
      output = a.output ∙ h.output;
      stop = a.stop ∙ h.stop;
    }

  -- an object of the heap by the world's number
  named_at : (k : ℕ) (o : ObjectOf T) → object_at new.content k ≡ Some o → option_map (as_named new.named) (object_at new.content k) ≡ Some (as_named m.named o)
  named_at k o e = ap (λ (named : T → ObjectType). option_map (as_named named) (object_at new.content k)) a.named ∙ ap (option_map (as_named m.named)) e

  -- one that made an object matches the world with that object
  module _ {sizes : T → ℕ → ℕ} {place : ℕ} {o : ObjectOf T} (made : Made sizes m.content (places m) new.content (places new) place o) where
    abbrev object : Object
    object = as_named m.named o

    pub made_matches : Matches new (record w { heap = w.heap ++ object ∷ [] })
    made_matches = more_matches (object ∷ []) made.kept made.next

    -- the object lies where the world has it
    pub made_lies : (serial_at new.content place ≡ Some (length w.heap)) ×
        (option_map (as_named new.named) (object_at new.content (length w.heap)) ≡ Some object)
    made_lies = (
      subst (λ n. serial_at new.content place ≡ Some n) h.next made.placed,
      named_at (length w.heap) o (subst (λ n. object_at new.content n ≡ Some o) h.next made.filled),
    )

  -- one that made all objects of a list matches the world with them
  module _ {sizes : T → ℕ → ℕ} {ps : List ℕ} {os : List (ObjectOf T)} (made : MadeAll sizes m.content (places m) new.content (places new) ps os) where
    pub made_all_matches : Matches new (with_objects w (map (as_named m.named) os))
    made_all_matches = more_matches (map (as_named m.named) os) made.kept (made.next ∙ ap (λ n. m.content.next + n) (sym (length-map os (as_named m.named))))

    -- each of them lies where the world has it
    pub all_placed : (i p : ℕ) → slice_get ps i ≡ Some p → serial_at new.content p ≡ Some (length w.heap + i)
    all_placed i p e = subst (λ n. serial_at new.content p ≡ Some (n + i)) h.next (made.placed i p e)

    pub all_lie : (i : ℕ) (o : ObjectOf T) → slice_get os i ≡ Some o → option_map (as_named new.named) (object_at new.content (length w.heap + i)) ≡ Some (as_named m.named o)
    all_lie i o e = named_at (length w.heap + i) o (subst (λ n. object_at new.content (n + i) ≡ Some o) h.next (made.filled i o e))
