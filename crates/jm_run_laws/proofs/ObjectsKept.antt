-- Events keep a value for each field of an object.
use Rattle.std.proofs.Common.{◌≡◌, ℕ, ◌+◌, List, [], ◌∷◌, Option, Some, None, true, length, refl, sym, ◌∙◌, subst, arith}
use Rattle.std.specs.Prelude.{slice_set}
use Rattle.std.specs.List.{AllByRecursion}
use Rattle.std.proofs.lemmas.List.{length-map}
use Rattle.jm_program.specs.declared.class.ClassParts.{ClassParts}
use Rattle.jm_program.proofs.Sequences.{length_written}
use Rattle.jm_values.specs.declared.value.Value.{Value}
use Rattle.jm_values.specs.declared.value.Value.TheVariants.{Ref}
use Rattle.jm_values.proofs.Lists.{each_at}
use Rattle.jm_world.specs.Types.{ObjectType, instance_of, array_of, default_value}
use Rattle.jm_world.specs.Classes.{class_named, string_class, print_stream_class}
use Rattle.jm_world.specs.Objects.{instance_fields, new_instance, Object}
use Rattle.jm_world.specs.Frames.{Frame, method_frame, initialization_frame, entry_frame}
use Rattle.jm_world.specs.World.{World, Thread}
use Rattle.jm_world.specs.Next.{exception}
use Rattle.jm_world.specs.Loading.{literal_texts, objects_from, first_objects, loaded_world}
use Rattle.jm_world.specs.Loads.{Loads, new_refusal}
use Rattle.jm_world.specs.Run.{after, run_from}
use Rattle.jm_world.specs.declared.event.Event.{Event}
use Rattle.jm_world.proofs.KeepingNames.{events_keep_names, run_keeps as run_keeps_names}
use Rattle.jm_world.proofs.NamesAreThere.{it_is as there, new_found as new_there}
use Rattle.jm_world.proofs.FoundAgain.{place_within}
use Rattle.jm_run_laws.specs.ObjectsOfRuns.{HasValues, HasFields, ObjectsHaveFields, EventsKeepFields, RunsHaveFields, FieldsHavePlaces, RunsHavePlaces}
use Rattle.jm_run_laws.proofs.BuiltInFields.{built_in_there, bare_there, bare_fields, string_fields}
use Rattle.jm_world.proofs.Leaving.{is_bare}
use Rattle.jm_run_laws.proofs.Law.{Law, IsKept, EachBelow, Frames, Pending, Its, Keeps}
use Rattle.jm_run_laws.proofs.EventsKept.{event_keeps, run_keeps}

abbrev fields_law : List ClassParts → Law
fields_law program = record { Top = λ m a. Unit {0}; Below = λ m a. Unit {0}; Holds = HasFields program; Pends = λ heap k. Unit {0} }

-- an exception, a new object, and a store
bare_has : (program : List ClassParts) → Loads program → (class : List ℕ) → is_bare class ≡ true → HasFields program (exception class)
bare_has program loads class e = (there (class_named program class) (bare_there program loads class e).0 (bare_there program loads class e).1, sym (bare_fields program loads class e))

new_has : (program : List ClassParts) (class : List ℕ) → new_refusal class (class_named program class) ≡ None → HasFields program (new_instance program class)
new_has program class e = (new_there class (class_named program class) e, length-map (instance_fields program class) (λ f. default_value f.type))

stored_has : (program : List ClassParts) (type : ObjectType) (vs us : List Value) → length us ≡ length vs → HasValues program type vs → HasValues program type us
stored_has program (instance_of class) vs us e h = (h.0, e ∙ h.1)
stored_has program (array_of component) vs us e h = tt

fields_kept : (program : List ClassParts) → Loads program → IsKept program (fields_law program)
fields_kept program loads = record {
  rests = λ m a h. tt;
  stands = λ m a i h e. tt;
  pops = λ m a s h. tt;
  moves = λ m a s h. tt;
  acts = λ m a op b h e q. tt;
  handles = λ m a x s j h e. tt;
  begins = λ m code vs q l. tt;
  stored = λ o i v h. stored_has program o.type o.values (slice_set o.values i v) (length_written o.values i v) h;
  arrays = λ t vs. tt;
  bare = λ class e. bare_has program loads class e;
  instances = λ class e. new_has program class e;
  more = λ heap os k p. tt;
  changed = λ heap j o i v k e p. tt;
  news = λ heap class e. tt;
  throws = λ w k o q e r. tt;
}

-- of frames nothing is said
below_so : (program : List ClassParts) (fs : List Frame) → EachBelow (fields_law program) fs
below_so program [] = tt
below_so program (method_frame m a monitor ∷ fs) = (tt, below_so program fs)
below_so program (initialization_frame class stage ∷ fs) = below_so program fs
below_so program (entry_frame ∷ fs) = below_so program fs

frames_so : (program : List ClassParts) (fs : List Frame) → Frames (fields_law program) fs
frames_so program [] = tt
frames_so program (method_frame m a monitor ∷ fs) = (tt, below_so program fs)
frames_so program (initialization_frame class stage ∷ fs) = below_so program fs
frames_so program (entry_frame ∷ fs) = below_so program fs

nothing_pends : (program : List ClassParts) (heap : List Object) (o : Option ℕ) → Pending (fields_law program) heap o
nothing_pends program heap None = tt
nothing_pends program heap (Some k) = tt

threads_so : (program : List ClassParts) (heap : List Object) (ts : List Thread) → AllByRecursion (Its (fields_law program) heap) ts
threads_so program heap [] = tt
threads_so program heap (t ∷ ts) = ((frames_so program t.frames, nothing_pends program heap t.pending), threads_so program heap ts)

told : (program : List ClassParts) (w : World) → w.program ≡ program → Keeps (fields_law program) w → ObjectsHaveFields w
told program w e h = subst (λ p. AllByRecursion (HasFields p) w.heap) (sym e) h.1

pub events_keep_fields : EventsKeepFields
events_keep_fields w e fits loads h = told w.program (after w e).world (events_keep_names w e).0
    (event_keeps (fields_law w.program) w e fits loads (fields_kept w.program loads) (threads_so w.program w.heap w.threads, h))

-- the first objects: the print stream, main's array, and of each literal an array and a String
literals_have : (program : List ClassParts) → Loads program → (k : ℕ) (ts : List (List ℕ)) → AllByRecursion (HasFields program) (objects_from k ts)
literals_have program loads k [] = tt
literals_have program loads k (t ∷ ts) = (tt, (string, literals_have program loads (k + 2) ts))
  where
    string : HasFields program (record { type = instance_of string_class; values = Ref k ∷ [] })
    string = (there (class_named program string_class) _ (built_in_there program loads string_class _ refl), sym (string_fields program loads))

first_have : (program : List ClassParts) → Loads program → AllByRecursion (HasFields program) (first_objects program)
first_have program loads = (bare_has program loads print_stream_class refl, (tt, literals_have program loads 2 (literal_texts program)))

pub same_program : (program : List ClassParts) (limit : ℕ) (events : List Event) → (run_from (loaded_world program limit) events).program ≡ program
unfolding loaded_world
same_program program limit events = (run_keeps_names (loaded_world program limit) events).0

pub runs_have_fields : RunsHaveFields
runs_have_fields program limit events fits loads = told program (run_from (loaded_world program limit) events) (same_program program limit events)
    (run_keeps (fields_law program) program limit events fits loads (fields_kept program loads) (first_have program loads))

fields_have_places : (w : World) → ObjectsHaveFields w → FieldsHavePlaces w
fields_have_places w h k o class f i e t p =
    let has : HasValues w.program (instance_of class) o.values = subst (λ x. HasValues w.program x o.values) t (each_at (HasFields w.program) w.heap k o h e) in
    omega (arith, has.1, place_within (instance_fields w.program class) f i p)

pub runs_have_places : RunsHavePlaces
runs_have_places program limit events fits loads = fields_have_places (run_from (loaded_world program limit) events) (runs_have_fields program limit events fits loads)
