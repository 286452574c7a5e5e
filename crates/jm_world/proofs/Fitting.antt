-- What keeps references below the number of objects: lists, and worlds with a part changed.
use Rattle.std.proofs.Common.{◌≡◌, ℕ, ◌+◌, ◌-◌, ◌<◌, ◌≤◌, List, [], ◌∷◌, ◌++◌, Option, Some, None, refl, sym, subst, inl, inr, ◌⊎◌, length, arith, length-append}
use Rattle.std.specs.Prelude.{slice_set}
use Rattle.std.specs.List.{AllByRecursion}
use Rattle.jm_program.proofs.Sequences.{length_written}
use Rattle.jm_values.specs.Shape.{Among, option_shape}
use Rattle.jm_values.specs.Activation.{Activation}
use Rattle.jm_values.specs.Rename.{value_shape, stack_shape, locals_shape, refs_activation}
use Rattle.jm_values.specs.declared.value.Value.{Value}
use Rattle.jm_values.specs.declared.value.Value.TheVariants.{Int, Long, Null, Ref}
use Rattle.jm_values.proofs.Among.{among_left, among_right, among_split}
use Rattle.jm_values.proofs.Lists.{each_of_both, each_set}
use Rattle.jm_world.specs.Objects.{Object}
use Rattle.jm_world.specs.Frames.{Frame, method_frame, initialization_frame, entry_frame}
use Rattle.jm_world.specs.World.{World, Thread, Monitor, with_thread}
use Rattle.jm_world.specs.Next.{with_objects}
use Rattle.jm_world.specs.WellFormed.{ValueBelow, ValuesBelow, LocalBelow, LocalsBelow, NumberBelow, FrameBelow, FramesBelow, ThreadFits, MonitorFits, IsWellFormed}

-- lists
pub each_more : {A : Type 0} {P Q : A → Type 0} → ((x : A) → P x → Q x) → (xs : List A) → AllByRecursion P xs → AllByRecursion Q xs
each_more f [] a = tt
each_more f (x ∷ xs) a = (f x a.0, each_more f xs a.1)

pub each_two : {A : Type 0} {P Q R : A → Type 0} → ((x : A) → P x → Q x → R x) → (xs : List A) → AllByRecursion P xs → AllByRecursion Q xs → AllByRecursion R xs
each_two f [] a b = tt
each_two f (x ∷ xs) a b = (f x a.0 b.0, each_two f xs a.1 b.1)

-- more objects
pub value_more : (n m : ℕ) → n ≤ m → (v : Value) → ValueBelow n v → ValueBelow m v
value_more n m l (Ref k) b = omega (arith, l, b)
value_more n m l (Int i) b = tt
value_more n m l (Long i) b = tt
value_more n m l Null b = tt

pub local_more : (n m : ℕ) → n ≤ m → (v : Option Value) → LocalBelow n v → LocalBelow m v
local_more n m l None b = tt
local_more n m l (Some v) b = value_more n m l v b

pub number_more : (n m : ℕ) → n ≤ m → (o : Option ℕ) → NumberBelow n o → NumberBelow m o
number_more n m l None b = tt
number_more n m l (Some k) b = omega (arith, l, b)

pub values_more : (n m : ℕ) → n ≤ m → (vs : List Value) → ValuesBelow n vs → ValuesBelow m vs
values_more n m l vs b = each_more (value_more n m l) vs b

pub locals_more : (n m : ℕ) → n ≤ m → (vs : List (Option Value)) → LocalsBelow n vs → LocalsBelow m vs
locals_more n m l vs b = each_more (local_more n m l) vs b

pub frame_more : (n m : ℕ) → n ≤ m → (f : Frame) → FrameBelow n f → FrameBelow m f
frame_more n m l (method_frame name a monitor) b = (locals_more n m l a.locals b.0, values_more n m l a.stack b.1, number_more n m l monitor b.2)
frame_more n m l (initialization_frame class stage) b = tt
frame_more n m l entry_frame b = tt

pub frames_more : (n m : ℕ) → n ≤ m → (fs : List Frame) → FramesBelow n fs → FramesBelow m fs
frames_more n m l fs b = each_more (frame_more n m l) fs b

pub thread_more : (n m : ℕ) → n ≤ m → (t : Thread) → ThreadFits n t → ThreadFits m t
thread_more n m l t f = record {
  object = number_more n m l t.object f.object;
  pending = number_more n m l t.pending f.pending;
  frames = frames_more n m l t.frames f.frames;
  ended = f.ended;
}

pub monitor_more : (n m a b : ℕ) → n ≤ m → a ≤ b → (x : Monitor) → MonitorFits n a x → MonitorFits m b x
monitor_more n m a b l k x f = record {
  object = omega (arith, l, f.object);
  owner_from_one = f.owner_from_one;
  owner_made = omega (arith, k, f.owner_made);
  entered = f.entered;
  counted = f.counted;
}

-- references of an activation, as a list and part by part
pub among_value : (k : ℕ) (v : Value) (n : ℕ) → ValueBelow n v → Among k (value_shape.refs v) → k < n
among_value k (Ref j) n b (inl e) = subst (λ i. i < n) (sym e) b
among_value k (Ref j) n b (inr a) = absurd a
among_value k (Int i) n b a = absurd a
among_value k (Long i) n b a = absurd a
among_value k Null n b a = absurd a

pub among_values : (k n : ℕ) (vs : List Value) → ValuesBelow n vs → Among k (stack_shape.refs vs) → k < n
among_values k n [] b a = absurd a
among_values k n (v ∷ vs) b a = by (among_split k (value_shape.refs v) (stack_shape.refs vs) a) (among_values k n vs b.1)
  where
    by : Among k (value_shape.refs v) ⊎ Among k (stack_shape.refs vs) → (Among k (stack_shape.refs vs) → k < n) → k < n
    by (inl c) ih = among_value k v n b.0 c
    by (inr c) ih = ih c

among_local : (k : ℕ) (v : Option Value) (n : ℕ) → LocalBelow n v → Among k ((option_shape value_shape).refs v) → k < n
among_local k None n b a = absurd a
among_local k (Some v) n b a = among_value k v n b a

pub among_locals : (k n : ℕ) (vs : List (Option Value)) → LocalsBelow n vs → Among k (locals_shape.refs vs) → k < n
among_locals k n [] b a = absurd a
among_locals k n (v ∷ vs) b a = by (among_split k ((option_shape value_shape).refs v) (locals_shape.refs vs) a) (among_locals k n vs b.1)
  where
    by : Among k ((option_shape value_shape).refs v) ⊎ Among k (locals_shape.refs vs) → (Among k (locals_shape.refs vs) → k < n) → k < n
    by (inl c) ih = among_local k v n b.0 c
    by (inr c) ih = ih c

pub among_activation : (k n : ℕ) (a : Activation) → LocalsBelow n a.locals → ValuesBelow n a.stack → Among k (refs_activation a) → k < n
among_activation k n a ls vs m = by (among_split k (locals_shape.refs a.locals) (stack_shape.refs a.stack) m)
  where
    by : Among k (locals_shape.refs a.locals) ⊎ Among k (stack_shape.refs a.stack) → k < n
    by (inl c) = among_locals k n a.locals ls c
    by (inr c) = among_values k n a.stack vs c

value_from : (n : ℕ) (v : Value) → ((k : ℕ) → Among k (value_shape.refs v) → k < n) → ValueBelow n v
value_from n (Ref j) f = f j (inl refl)
value_from n (Int i) f = tt
value_from n (Long i) f = tt
value_from n Null f = tt

pub values_from : (n : ℕ) (vs : List Value) → ((k : ℕ) → Among k (stack_shape.refs vs) → k < n) → ValuesBelow n vs
values_from n [] f = tt
values_from n (v ∷ vs) f = (value_from n v (λ k a. f k (among_left k (value_shape.refs v) (stack_shape.refs vs) a)), values_from n vs (λ k a. f k (among_right k (value_shape.refs v) (stack_shape.refs vs) a)))

local_from : (n : ℕ) (v : Option Value) → ((k : ℕ) → Among k ((option_shape value_shape).refs v) → k < n) → LocalBelow n v
local_from n None f = tt
local_from n (Some v) f = value_from n v f

pub locals_from : (n : ℕ) (vs : List (Option Value)) → ((k : ℕ) → Among k (locals_shape.refs vs) → k < n) → LocalsBelow n vs
locals_from n [] f = tt
locals_from n (v ∷ vs) f = (local_from n v (λ k a. f k (among_left k ((option_shape value_shape).refs v) (locals_shape.refs vs) a)), locals_from n vs (λ k a. f k (among_right k ((option_shape value_shape).refs v) (locals_shape.refs vs) a)))

-- worlds with a part changed
pub with_thread_fits : (w : World) (number : ℕ) (t : Thread) → IsWellFormed w → ThreadFits (length w.heap) t → IsWellFormed (with_thread w number t)
with_thread_fits w number t f g = record {
  objects = f.objects;
  literals = f.literals;
  statics = f.statics;
  monitors = each_more (monitor_more (length w.heap) (length w.heap) (length w.threads) (length (slice_set w.threads (number - 1) t)) (omega arith) (omega (arith, length_written w.threads (number - 1) t))) w.monitors f.monitors;
  once = f.once;
  threads = each_set (ThreadFits (length w.heap)) w.threads (number - 1) t f.threads g;
}

-- a world with more objects: each of these names what is there with them
longer : (w : World) (os : List Object) → length w.heap ≤ length (w.heap ++ os)
longer w os = omega (arith, length-append w.heap os)

pub with_objects_longer : (w : World) (os : List Object) → length (with_objects w os).heap ≡ length w.heap + length os
with_objects_longer w os = length-append w.heap os

pub with_objects_fits : (w : World) (os : List Object) → IsWellFormed w → AllByRecursion (λ x. ValuesBelow (length (with_objects w os).heap) x.values) os → IsWellFormed (with_objects w os)
with_objects_fits w os f g =
    let n : ℕ = length w.heap in
    let m : ℕ = length (w.heap ++ os) in
    let l : length w.heap ≤ length (w.heap ++ os) = longer w os in
    record {
      objects = each_of_both (λ x. ValuesBelow m x.values) w.heap os (each_more (λ x b. values_more n m l x.values b) w.heap f.objects) g;
      literals = each_more (λ x b. omega (arith, l, b)) w.literals f.literals;
      statics = each_more (λ x b. value_more n m l x.value b) w.statics f.statics;
      monitors = each_more (monitor_more n m (length w.threads) (length w.threads) l (omega arith)) w.monitors f.monitors;
      once = f.once;
      threads = each_more (thread_more n m l) w.threads f.threads;
    }

-- a world with other monitors
abbrev pub with_monitors : World → List Monitor → World
with_monitors w ms = record w { monitors = ms }

-- a world with one more object
abbrev pub grown : World → Object → World
grown w o = with_objects w (o ∷ [])

pub grown_longer : (w : World) (o : Object) → length (grown w o).heap ≡ length w.heap + 1
grown_longer w o = with_objects_longer w (o ∷ [])

pub grown_fits : (w : World) (o : Object) → IsWellFormed w → ValuesBelow (length w.heap) o.values → IsWellFormed (grown w o)
grown_fits w o f g = with_objects_fits w (o ∷ []) f (values_more (length w.heap) (length (w.heap ++ o ∷ [])) (longer w (o ∷ [])) o.values g, tt)
