-- An event keeps the frames of a world, and who initializes its classes, and so do runs.
use Rattle.std.proofs.Common.{◌≡◌, ◌≢◌, ℕ, zero, suc, ◌-◌, ◌≤◌, List, [], ◌∷◌, ◌++◌, Option, Some, None, Bool, true, false, refl, sym, ap, ◌∙◌, subst, inl, inr, ◌⊎◌, length, arith}
use Rattle.std.specs.Prelude.{map, slice_get, slice_set, nat_eq}
use Rattle.std.specs.List.{AllByRecursion}
use Rattle.std.proofs.lemmas.Bool.Decides.{eqb_tells}
use Rattle.std.specs.Cmp.Lexicographic.{bytes_decides}
use Rattle.jm_program.specs.Names.{same_text}
use Rattle.jm_program.specs.declared.class.ClassParts.{ClassParts}
use Rattle.jm_program.specs.declared.code.Code.{Code}
use Rattle.jm_values.specs.WellFormed.{IsWellFormed, LongsAreWhole, KeepsForm}
use Rattle.jm_values.specs.declared.value.Value.{Value}
use Rattle.jm_values.specs.declared.value.Value.TheVariants.{Int, Long, Null, Ref}
use Rattle.jm_values.proofs.Lists.{each_at, each_set, each_of_both, set_there}
use Rattle.jm_values.proofs.KeepsForm.{plain_keeps}
use Rattle.jm_world.specs.Classes.{FoundMethod, name_of_method}
use Rattle.jm_world.specs.Frames.{Frame, method_frame, initialization_frame}
use Rattle.jm_world.specs.World.{World, Thread, Progress, with_thread, with_state, thread_at, state_of, state_in, set_state_in}
use Rattle.jm_world.specs.Next.{Next, with_objects}
use Rattle.jm_world.specs.BuiltInMethods.{new_thread, with_new_thread}
use Rattle.jm_world.specs.Invocation.{activation_of, locals_of, unset}
use Rattle.jm_world.specs.Loading.{main_in, first_thread, loaded_world}
use Rattle.jm_world.specs.Run.{after, run_from}
use Rattle.jm_world.specs.FramesOfRuns.{FramesStand, ThreadStands, HasBegun, Initialize, Initializes, ThreadsStand, EventsKeepFrames, RunsKeepFrames}
use Rattle.jm_world.specs.declared.class_state.ClassState.{ClassState}
use Rattle.jm_world.specs.declared.class_state.ClassState.TheVariants.{NotBegun, InProgress, Done, Failed}
use Rattle.jm_world.specs.declared.stage.Stage.{Stage}
use Rattle.jm_world.specs.declared.stage.Stage.TheVariants.{Begin, Superclass, Initializer, End}
use Rattle.jm_world.specs.declared.event.Event.{Event}
use Rattle.jm_world.proofs.Turning.{Goes, moved, acted, called, gave, left, needed, unneeded, begun, onward, upward, initialized, finished, entered, Drops, no_frame, a_method, an_initialization, a_refusal, an_entry, IsLast, none_left, last_method, at_entry, Turn, ends, goes_on, raises, catches, drops, dies}
use Rattle.jm_world.proofs.WhatComes.{same, stored, sets, locks, states, begins, writes, Changes, Comes, stopped, blocked, went, makes, fails, starts}
use Rattle.jm_world.proofs.RenumberedSteps.{get_other}
use Rattle.jm_world.proofs.BesideItself.{Same, twin, twin_step}
use Rattle.jm_world.proofs.KeptByEvents.{Behind, event_keeps}

thread_put : (w : World) (number : ℕ) (t u : Thread) → thread_at w number ≡ Some t → thread_at (with_thread w number u) number ≡ Some u
thread_put w zero t u e = cc
thread_put w (suc n) t u e = let d : suc n - 1 ≡ n = omega arith in subst (λ k. slice_get (slice_set w.threads k u) n ≡ Some u) (sym d) (set_there w.threads n t u e)

thread_stays : (w : World) (number : ℕ) (t u : Thread) → thread_at w number ≡ Some t → (owner : ℕ) → (owner ≡ number → ⊥) → thread_at (with_thread w number u) owner ≡ thread_at w owner
thread_stays w zero t u e owner n = cc
thread_stays w (suc m) t u e zero n = refl
thread_stays w (suc m) t u e (suc k) n = let d : suc m - 1 ≡ m = omega arith in subst (λ j. slice_get (slice_set w.threads j u) k ≡ slice_get w.threads k) (sym d) (get_other w.threads m k u (λ q. n (ap suc (sym q))))

same_threads : (w v : World) (number : ℕ) → v.threads ≡ w.threads → thread_at v number ≡ thread_at w number
same_threads w v zero e = refl
same_threads w v (suc n) e = ap (λ ts. slice_get ts n) e

-- a thread of a world
record StepsIn (w : World) (number : ℕ) (t : Thread) : Type 0 where
  world : ThreadsStand w
  thread : thread_at w number ≡ Some t

its_frames : (w : World) (number : ℕ) (t : Thread) → ThreadsStand w → thread_at w number ≡ Some t → ThreadStands t
its_frames w zero t f e = cc
its_frames w (suc n) t f e = each_at ThreadStands w.threads n t f.threads e

-- a class in progress is initialized by the thread itself, or by another as before
abbrev OwnedAfter : World → World → ℕ → Thread → Type 0
OwnedAfter w v number u = (class : List ℕ) (owner : ℕ) → state_of v class ≡ InProgress owner →
    (owner ≡ number → Initialize u.frames class) × ((owner ≡ number → ⊥) → Initializes (thread_at w owner) class)

changed : (w v : World) (number : ℕ) (t u : Thread) → StepsIn w number t → v.threads ≡ w.threads → ThreadStands u → OwnedAfter w v number u → ThreadsStand (with_thread v number u)
changed w v number t u h e s o = record {
  threads = each_set ThreadStands v.threads (number - 1) u (subst (AllByRecursion ThreadStands) (sym e) h.world.threads) s;
  owners = λ class owner p. by class owner p (eqb_tells owner number);
}
  where
    there : thread_at v number ≡ Some t
    there = same_threads w v number e ∙ h.thread

    by : (class : List ℕ) (owner : ℕ) → state_of v class ≡ InProgress owner → ((nat_eq owner number ≡ true) × (owner ≡ number)) ⊎ ((nat_eq owner number ≡ false) × (owner ≢ number)) → Initializes (thread_at (with_thread v number u) owner) class
    by class owner p (inl q) = subst (λ n. Initializes (thread_at (with_thread v number u) n) class) (sym q.1) (subst (λ x. Initializes x class) (sym (thread_put v number t u there)) ((o class owner p).0 q.1))
    by class owner p (inr q) = subst (λ x. Initializes x class) (sym (thread_stays v number t u there owner q.1 ∙ same_threads w v owner e)) ((o class owner p).1 q.1)

owned_by : (w : World) (number : ℕ) (t : Thread) → StepsIn w number t → (class : List ℕ) (owner : ℕ) → owner ≡ number → Initializes (thread_at w owner) class → Initialize t.frames class
owned_by w number t h class owner q i = subst (λ x. Initializes x class) h.thread (subst (λ n. Initializes (thread_at w n) class) q i)

-- the thread initializes what it did, and no class has another state
kept : (w v : World) (number : ℕ) (t u : Thread) → StepsIn w number t → v.threads ≡ w.threads → v.classes ≡ w.classes → ThreadStands u → ((class : List ℕ) → Initialize t.frames class → Initialize u.frames class) → ThreadsStand (with_thread v number u)
kept w v number t u h e c s f = changed w v number t u h e s (λ class owner p.
    let old : Initializes (thread_at w owner) class = h.world.owners class owner (subst (λ cs. state_in cs class ≡ InProgress owner) c p) in
    (λ q. f class (owned_by w number t h class owner q old), λ n. old))

-- the state of a class after another's, or its own, was set
state_other : (ps : List Progress) (c : List ℕ) (s : ClassState) (class : List ℕ) → (c ≡ class → ⊥) → state_in (set_state_in ps c s) class ≡ state_in ps class
state_other [] c s class n = refl
state_other (p ∷ ps) c s class n = by (state_other ps c s class n) (same_text p.class c) refl
  where
    own : (b : Bool) → same_text p.class class ≡ b → p.class ≡ c → (elim b as (λ _. ClassState) [ true ↦ s | false ↦ state_in ps class ]) ≡ (elim b as (λ _. ClassState) [ true ↦ p.state | false ↦ state_in ps class ])
    own true e q = absurd (n (sym q ∙ (bytes_decides p.class class).0 e))
    own false e q = refl

    other : state_in (set_state_in ps c s) class ≡ state_in ps class → (b : Bool) → (elim b as (λ _. ClassState) [ true ↦ p.state | false ↦ state_in (set_state_in ps c s) class ]) ≡ (elim b as (λ _. ClassState) [ true ↦ p.state | false ↦ state_in ps class ])
    other ih true = refl
    other ih false = ih

    by : state_in (set_state_in ps c s) class ≡ state_in ps class → (a : Bool) → same_text p.class c ≡ a → state_in (elim a as (λ _. List Progress) [ true ↦ record { class = p.class; state = s } ∷ ps | false ↦ p ∷ set_state_in ps c s ]) class ≡ state_in (p ∷ ps) class
    by ih true e = own (same_text p.class class) refl ((bytes_decides p.class c).0 e)
    by ih false e = other ih (same_text p.class class)

state_own : (ps : List Progress) (c : List ℕ) (s : ClassState) (owner : ℕ) → state_in (set_state_in ps c s) c ≡ InProgress owner → s ≡ InProgress owner
state_own [] c s owner e = cc
state_own (p ∷ ps) c s owner e = by (state_own ps c s owner) (same_text p.class c) refl e
  where
    again : (b : Bool) → b ≡ true → (elim b as (λ _. ClassState) [ true ↦ s | false ↦ state_in ps c ]) ≡ InProgress owner → s ≡ InProgress owner
    again true d h = h
    again false d h = cc

    other : (state_in (set_state_in ps c s) c ≡ InProgress owner → s ≡ InProgress owner) → (b : Bool) → b ≡ false → (elim b as (λ _. ClassState) [ true ↦ p.state | false ↦ state_in (set_state_in ps c s) c ]) ≡ InProgress owner → s ≡ InProgress owner
    other ih true d h = cc
    other ih false d h = ih h

    by : (state_in (set_state_in ps c s) c ≡ InProgress owner → s ≡ InProgress owner) → (a : Bool) → same_text p.class c ≡ a → state_in (elim a as (λ _. List Progress) [ true ↦ record { class = p.class; state = s } ∷ ps | false ↦ p ∷ set_state_in ps c s ]) c ≡ InProgress owner → s ≡ InProgress owner
    by ih true d h = again (same_text p.class c) d h
    by ih false d h = other ih (same_text p.class c) d h

-- the thread takes a class to another state, and keeps all others that it initializes
restated : (w v : World) (number : ℕ) (t u : Thread) (c : List ℕ) (s : ClassState) → StepsIn w number t → v.threads ≡ w.threads → v.classes ≡ set_state_in w.classes c s → ThreadStands u
    → ((owner : ℕ) → s ≡ InProgress owner → (owner ≡ number) × Initialize u.frames c) → ((class : List ℕ) → (c ≡ class → ⊥) → Initialize t.frames class → Initialize u.frames class) → ThreadsStand (with_thread v number u)
restated w v number t u c s h e d stands g f = changed w v number t u h e stands (λ class owner p. by class owner (subst (λ cs. state_in cs class ≡ InProgress owner) d p) (same_text c class) refl)
  where
    by : (class : List ℕ) (owner : ℕ) → state_in (set_state_in w.classes c s) class ≡ InProgress owner → (b : Bool) → same_text c class ≡ b → (owner ≡ number → Initialize u.frames class) × ((owner ≡ number → ⊥) → Initializes (thread_at w owner) class)
    by class owner p true q =
        let same : c ≡ class = (bytes_decides c class).0 q in
        let own : s ≡ InProgress owner = state_own w.classes c s owner (subst (λ x. state_in (set_state_in w.classes c s) x ≡ InProgress owner) (sym same) p) in
        (λ i. subst (λ x. Initialize u.frames x) same (g owner own).1, λ n. absurd (n (g owner own).0))
    by class owner p false q =
        let apart : c ≡ class → ⊥ = λ x. (let z : true ≡ false = sym ((bytes_decides c class).1 x) ∙ q in cc) in
        let old : Initializes (thread_at w owner) class = h.world.owners class owner (sym (state_other w.classes c s class apart) ∙ p) in
        (λ i. f class apart (owned_by w number t h class owner i old), λ n. old)

got_append : {A : Type 0} (P : Option A → Type 0) (xs ys : List A) (i : ℕ) → (P None → ⊥) → P (slice_get xs i) → P (slice_get (xs ++ ys) i)
got_append P [] ys i n p = absurd (n p)
got_append P (x ∷ xs) ys zero n p = p
got_append P (x ∷ xs) ys (suc i) n p = got_append P xs ys i n p

started : (w : World) (k : ℕ) → ThreadsStand w → ThreadsStand (with_new_thread w (new_thread k))
started w k f = record {
  threads = each_of_both ThreadStands w.threads (new_thread k ∷ []) f.threads ((refl, omega arith), tt);
  owners = λ class owner p. by class owner (f.owners class owner p);
}
  where
    by : (class : List ℕ) (owner : ℕ) → Initializes (thread_at w owner) class → Initializes (thread_at (with_new_thread w (new_thread k)) owner) class
    by class zero i = i
    by class (suc n) i = got_append (λ o. Initializes o class) w.threads (new_thread k ∷ []) n (λ b. b) i

-- a call's local variables: an argument that is a long has its second one unset
unset_whole : (count : ℕ) → LongsAreWhole (unset count)
unset_whole zero n k e = cc
unset_whole (suc count) zero k e = cc
unset_whole (suc count) (suc n) k e = unset_whole count n k e

arguments_whole : (vs : List Value) (rest : List (Option Value)) → LongsAreWhole rest → LongsAreWhole (locals_of vs ++ rest)
arguments_whole [] rest r n k e = r n k e
arguments_whole (Int i ∷ vs) rest r zero k e = cc
arguments_whole (Int i ∷ vs) rest r (suc n) k e = arguments_whole vs rest r n k e
arguments_whole (Null ∷ vs) rest r zero k e = cc
arguments_whole (Null ∷ vs) rest r (suc n) k e = arguments_whole vs rest r n k e
arguments_whole (Ref i ∷ vs) rest r zero k e = cc
arguments_whole (Ref i ∷ vs) rest r (suc n) k e = arguments_whole vs rest r n k e
arguments_whole (Long i ∷ vs) rest r zero k e = refl
arguments_whole (Long i ∷ vs) rest r (suc zero) k e = cc
arguments_whole (Long i ∷ vs) rest r (suc (suc n)) k e = arguments_whole vs rest r n k e

call_whole : (code : Code) (vs : List Value) → IsWellFormed (activation_of code vs)
call_whole code vs = record { room = omega arith; longs = arguments_whole vs (unset (code.max_locals - length (locals_of vs))) (unset_whole (code.max_locals - length (locals_of vs))) }

-- frames that stand, and so many
abbrev Stand : List Frame → Type 0
Stand fs = FramesStand fs × (length fs ≤ 512)

goes_stand : (program : List ClassParts) (n : ℕ) (fs gs : List Frame) (c : Option (List ℕ × ClassState)) → Goes program n fs c gs → Stand fs → Stand gs
goes_stand program n _ _ _ (moved s b z) f = ((record { room = b f.0.0.room; longs = f.0.0.longs }, f.0.1), f.1)
goes_stand program n _ _ _ (acted {a = a} op d e) f = (((subst (KeepsForm a) e (plain_keeps op a f.0.0)).1, f.0.1), f.1)
goes_stand program n _ _ _ (called s vs found code lock b d x y l z) f = ((call_whole code vs, (record { room = b f.0.0.room; longs = f.0.0.longs }, f.0.1)), d)
goes_stand program n _ _ _ (gave s b) f = ((record { room = b; longs = f.0.1.0.longs }, f.0.1.1), omega (arith, f.1))
goes_stand program n _ _ _ left f = (f.0.1, omega (arith, f.1))
goes_stand program n _ _ _ (needed class b z) f = (f.0, b)
goes_stand program n _ _ _ unneeded f = (f.0, omega (arith, f.1))
goes_stand program n _ _ _ begun f = f
goes_stand program n _ _ _ onward f = f
goes_stand program n _ _ _ (upward above b) f = (f.0, b)
goes_stand program n _ _ _ (initialized found code b x y) f = ((call_whole code [], f.0), b)
goes_stand program n _ _ _ finished f = (f.0, omega (arith, f.1))
goes_stand program n _ _ _ (entered found code k lock x y l) f = ((call_whole code (Ref k ∷ []), subst FramesStand (sym f.0) tt), f.1)

drops_stand : (fs gs : List Frame) (c : Option (List ℕ × ClassState)) → Drops fs c gs → Stand fs → Stand gs
drops_stand _ _ _ no_frame f = f
drops_stand _ _ _ a_method f = (f.0.1, omega (arith, f.1))
drops_stand _ _ _ an_initialization f = (f.0, omega (arith, f.1))
drops_stand _ _ _ a_refusal f = (f.0, omega (arith, f.1))
drops_stand _ _ _ an_entry f = (subst FramesStand (sym f.0) tt, omega (arith, f.1))

turn_stands : (w : World) (n : ℕ) (t s : Thread) (c : Option (List ℕ × ClassState)) → Turn w n t c s → ThreadStands t → ThreadStands s
turn_stands w n t _ _ (ends fs d x) f = (tt, omega arith)
turn_stands w n t _ _ (goes_on fs d x) f = goes_stand w.program n fs _ _ x (subst Stand d f)
turn_stands w n t _ _ (raises k) f = f
turn_stands w n t _ _ (catches {m = m} {a = a} {o = o} {fs = fs} type h k d x b) f = let g : Stand (method_frame m a o ∷ fs) = subst Stand d f in ((record { room = b; longs = g.0.0.longs }, g.0.1), g.1)
turn_stands w n t _ _ (drops fs k d x) f = drops_stand fs _ _ x (subst Stand d f)
turn_stands w n t _ _ (dies fs class d x) f = (tt, omega arith)

-- a class other than the one that comes to another state
abbrev IsOther : Option (List ℕ × ClassState) → List ℕ → Type 0
IsOther None class = Unit {0}
IsOther (Some c) class = c.0 ≡ class → ⊥

-- the frame of an initialization that is dropped is of that class alone
not_begun : (class of : List ℕ) (stage : Stage) → HasBegun class of stage → of ≡ class
not_begun class of Begin b = absurd b
not_begun class of Superclass b = b
not_begun class of Initializer b = b
not_begun class of End b = b

goes_initialize : (program : List ClassParts) (n : ℕ) (fs gs : List Frame) (c : Option (List ℕ × ClassState)) → Goes program n fs c gs → (class : List ℕ) → IsOther c class → Initialize fs class → Initialize gs class
goes_initialize program n _ _ _ (moved s b z) class q i = i
goes_initialize program n _ _ _ (acted op d e) class q i = i
goes_initialize program n _ _ _ (called s vs found code lock b d x y l z) class q i = i
goes_initialize program n _ _ _ (gave s b) class q i = i
goes_initialize program n _ _ _ left class q i = i
goes_initialize program n _ _ _ (needed of b z) class q i = inr i
goes_initialize program n _ _ _ unneeded class q (inl b) = absurd b
goes_initialize program n _ _ _ unneeded class q (inr i) = i
goes_initialize program n _ _ _ begun class q (inl b) = absurd b
goes_initialize program n _ _ _ begun class q (inr i) = inr i
goes_initialize program n _ _ _ onward class q i = i
goes_initialize program n _ _ _ (upward above b) class q i = inr i
goes_initialize program n _ _ _ (initialized found code b x y) class q i = i
goes_initialize program n _ _ _ (finished {class = of} {stage = stage}) class q (inl b) = absurd (q (not_begun class of stage b))
goes_initialize program n _ _ _ finished class q (inr i) = i
goes_initialize program n _ _ _ (entered found code k lock x y l) class q i = i

drops_initialize : (fs gs : List Frame) (c : Option (List ℕ × ClassState)) → Drops fs c gs → (class : List ℕ) → IsOther c class → Initialize fs class → Initialize gs class
drops_initialize _ _ _ no_frame class q i = i
drops_initialize _ _ _ a_method class q i = i
drops_initialize _ _ _ (an_initialization {class = of} {stage = stage}) class q (inl b) = absurd (q (not_begun class of stage b))
drops_initialize _ _ _ an_initialization class q (inr i) = i
drops_initialize _ _ _ a_refusal class q (inl b) = absurd b
drops_initialize _ _ _ a_refusal class q (inr i) = i
drops_initialize _ _ _ an_entry class q i = i

last_initializes : (fs : List Frame) → IsLast fs → FramesStand fs → (class : List ℕ) → Initialize fs class → ⊥
last_initializes _ none_left f class i = i
last_initializes _ last_method f class i = i
last_initializes _ at_entry f class i = subst (λ fs. Initialize fs class) f i

turn_initializes : (w : World) (n : ℕ) (t s : Thread) (c : Option (List ℕ × ClassState)) → Turn w n t c s → ThreadStands t → (class : List ℕ) → IsOther c class → Initialize t.frames class → Initialize s.frames class
turn_initializes w n t _ _ (ends fs d x) f class q i = last_initializes fs x (subst FramesStand d f.0) class (subst (λ fs. Initialize fs class) d i)
turn_initializes w n t _ _ (goes_on fs d x) f class q i = goes_initialize w.program n fs _ _ x class q (subst (λ fs. Initialize fs class) d i)
turn_initializes w n t _ _ (raises k) f class q i = i
turn_initializes w n t _ _ (catches type h k d x b) f class q i = subst (λ fs. Initialize fs class) d i
turn_initializes w n t _ _ (drops fs k d x) f class q i = drops_initialize fs _ _ x class q (subst (λ fs. Initialize fs class) d i)
turn_initializes w n t _ _ (dies fs of d x) f class q i = drops_initialize fs _ _ x class q (subst (λ fs. Initialize fs class) d i)

abbrev its_class : Option (List ℕ × ClassState) → List ℕ
its_class None = []
its_class (Some c) = c.0

abbrev its_state : Option (List ℕ × ClassState) → ClassState
its_state None = Done
its_state (Some c) = c.1

drops_own : (fs gs : List Frame) (c : Option (List ℕ × ClassState)) → Drops fs c gs → (class : List ℕ) (owner : ℕ) → c ≡ Some (class, InProgress owner) → ⊥
drops_own _ _ _ no_frame class owner e = cc
drops_own _ _ _ a_method class owner e = cc
drops_own _ _ _ an_initialization class owner e = let g : Failed ≡ InProgress owner = ap its_state e in cc
drops_own _ _ _ a_refusal class owner e = cc
drops_own _ _ _ an_entry class owner e = cc

-- a class that comes to be in progress is the thread's, and one of its frames is of it
turn_owns : (w : World) (n : ℕ) (t s : Thread) (c : Option (List ℕ × ClassState)) → Turn w n t c s → (class : List ℕ) (owner : ℕ) → c ≡ Some (class, InProgress owner) → (owner ≡ n) × Initialize s.frames class
turn_owns w n t _ _ (ends fs d x) class owner e = cc
turn_owns w n t _ _ (goes_on fs {gs = gs} {c = c} d x) class owner e = by fs gs c x e
  where
    by : (fs gs : List Frame) (c : Option (List ℕ × ClassState)) → Goes w.program n fs c gs → c ≡ Some (class, InProgress owner) → (owner ≡ n) × Initialize gs class
    by _ _ _ (moved s b z) e = cc
    by _ _ _ (acted op d e) g = cc
    by _ _ _ (called s vs found code lock b d x y l z) e = cc
    by _ _ _ (gave s b) e = cc
    by _ _ _ left e = cc
    by _ _ _ (needed of b z) e = cc
    by _ _ _ unneeded e = cc
    by _ _ _ begun e = let same : InProgress n ≡ InProgress owner = ap its_state e in (let d : owner ≡ n = cc in d, inl (ap its_class e))
    by _ _ _ onward e = cc
    by _ _ _ (upward above b) e = cc
    by _ _ _ (initialized found code b x y) e = cc
    by _ _ _ finished e = let g : Done ≡ InProgress owner = ap its_state e in cc
    by _ _ _ (entered found code k lock x y l) e = cc
turn_owns w n t _ _ (raises k) class owner e = cc
turn_owns w n t _ _ (catches type h k d x b) class owner e = cc
turn_owns w n t _ _ (drops fs k d x) class owner e = absurd (drops_own fs _ _ x class owner e)
turn_owns w n t _ _ (dies fs of d x) class owner e = absurd (drops_own fs _ _ x class owner e)

-- the classes of a world behind a step
abbrev restates : List Progress → Option (List ℕ × ClassState) → List Progress
restates ps None = ps
restates ps (Some c) = set_state_in ps c.0 c.1

changes_restate : (w : World) (n : ℕ) (c : Option (List ℕ × ClassState)) (v u : World) → Changes Same (twin w) n c v u → (v.threads ≡ w.threads) × (v.classes ≡ restates w.classes c)
changes_restate w n _ _ _ same = (refl, refl)
changes_restate w n _ _ _ (stored i r e d x a) = (refl, refl)
changes_restate w n _ _ _ (sets x a) = (refl, refl)
changes_restate w n _ _ _ (locks x) = (refl, refl)
changes_restate w n _ _ _ (states class state) = (refl, refl)
changes_restate w n _ _ _ (begins class) = (refl, refl)
changes_restate w n _ _ _ (writes bytes) = (refl, refl)

turned_stand : (w v : World) (n : ℕ) (t s : Thread) → StepsIn w n t → v.threads ≡ w.threads → (c : Option (List ℕ × ClassState)) → v.classes ≡ restates w.classes c → Turn w n t c s → ThreadsStand (with_thread v n s)
turned_stand w v n t s h e c d x = by c d x
  where
    own : ThreadStands t
    own = its_frames w n t h.world h.thread

    by : (c : Option (List ℕ × ClassState)) → v.classes ≡ restates w.classes c → Turn w n t c s → ThreadsStand (with_thread v n s)
    by None d x = kept w v n t s h e d (turn_stands w n t s None x own) (λ class i. turn_initializes w n t s None x own class tt i)
    by (Some c) d x = restated w v n t s c.0 c.1 h e d (turn_stands w n t s (Some c) x own)
        (λ owner p. turn_owns w n t s (Some c) x c.0 owner (ap (λ state. Some (c.0, state)) p)) (λ class apart i. turn_initializes w n t s (Some c) x own class apart i)

comes_stand : (w : World) (n : ℕ) (t : Thread) → StepsIn w n t → (x y : Next) → Comes Same (twin w) n t t x y → Behind ThreadsStand x
comes_stand w n t h _ _ stopped = tt
comes_stand w n t h _ _ (blocked x) = tt
comes_stand w n t h _ _ (went {w = v} {v = u} {s = s} d c x y) = let f = changes_restate w n d v u c in turned_stand w v n t s h f.0 d f.1 x.turn
comes_stand w n t h _ _ (makes os {s = s} a x y) = turned_stand w (with_objects w os) n t s h refl None refl x.turn
comes_stand w n t h _ _ (fails class os {s = s} a x y) = turned_stand w (with_objects (with_state w class Failed) os) n t s h refl (Some (class, Failed)) refl x.turn
comes_stand w n t h _ _ (starts {k = k} {s = s} r x y) = started (with_thread w n s) k (turned_stand w w n t s h refl None refl x.turn)

pub events_keep_frames : EventsKeepFrames
events_keep_frames w e f = event_keeps ThreadsStand w f (λ s. record { threads = f.threads; owners = f.owners }) (λ n t d r. comes_stand w n t (record { world = f; thread = d }) _ _ (twin_step w n t)) e

-- a load: no class is in progress
none_begun : (cs : List ClassParts) (class : List ℕ) (owner : ℕ) → state_in (map (λ c. record { class = c.name; state = NotBegun }) cs) class ≡ InProgress owner → ⊥
none_begun [] class owner e = cc
none_begun (c ∷ cs) class owner e = by (none_begun cs class owner) (same_text c.name class) e
  where
    by : (state_in (map (λ x. record { class = x.name; state = NotBegun }) cs) class ≡ InProgress owner → ⊥) → (b : Bool) → (elim b as (λ _. ClassState) [ true ↦ NotBegun | false ↦ state_in (map (λ x. record { class = x.name; state = NotBegun }) cs) class ]) ≡ InProgress owner → ⊥
    by ih true h = cc
    by ih false h = ih h

first_stands : (found : Option FoundMethod) → ThreadStands (first_thread found)
first_stands None = (tt, omega arith)
first_stands (Some m) = by m.method.code
  where
    by : (code : Option Code) → let fs : List Frame = elim code as (λ _. List Frame) [ None ↦ [] | Some c ↦ initialization_frame m.class.name Begin ∷ method_frame (name_of_method m) (activation_of c (Ref 1 ∷ [])) None ∷ [] ] in FramesStand fs × (length fs ≤ 512)
    by None = (tt, omega arith)
    by (Some c) = ((call_whole c (Ref 1 ∷ []), tt), omega arith)

load_stands : (program : List ClassParts) (limit : ℕ) → ThreadsStand (loaded_world program limit)
unfolding loaded_world
load_stands program limit = record { threads = (first_stands (main_in program), tt); owners = λ class owner e. absurd (none_begun program class owner e) }

run_stands : (w : World) (es : List Event) → ThreadsStand w → ThreadsStand (run_from w es)
run_stands w [] f = f
run_stands w (e ∷ es) f = run_stands (after w e).world es (events_keep_frames w e f)

pub runs_keep_frames : RunsKeepFrames
runs_keep_frames program limit events = run_stands (loaded_world program limit) events (load_stands program limit)
