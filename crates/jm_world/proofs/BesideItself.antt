-- A world beside itself: what comes of a step, for laws of one world.
use Rattle.std.proofs.Common.{◌≡◌, ℕ, List, [], ◌∷◌, Option, Some, None, refl, subst}
use Rattle.std.specs.Prelude.{nat_eq, slice_get}
use Rattle.jm_values.specs.Activation.{Activation}
use Rattle.jm_values.specs.declared.value.Value.{Value}
use Rattle.jm_values.specs.declared.value.Value.TheVariants.{Int, Long, Null, Ref}
use Rattle.jm_world.specs.Objects.{Object}
use Rattle.jm_world.specs.Frames.{Frame, method_frame, initialization_frame, entry_frame}
use Rattle.jm_world.specs.World.{World, Thread, literal_in, static_in}
use Rattle.jm_world.specs.Monitors.{monitor_in}
use Rattle.jm_world.specs.Stepping.{step_thread}
use Rattle.jm_world.specs.SideBySide.{Values, ints, longs, nulls, refs, Lists, none, more, Options, neither, both, Objects, objects, Acts, acts, Frames, methods, initializations, entries, Held, held}
use Rattle.jm_world.proofs.WhatComes.{Running}
use Rattle.jm_world.specs.TwoWorlds.{Half, Two}
use Rattle.jm_world.proofs.WhatComes.{Alike, Comes}
use Rattle.jm_world.proofs.PlainSideBySide.{plain_alike}
use Rattle.jm_world.proofs.StepsSideBySide.{step_both}

abbrev pub Same : ℕ → ℕ → Type 0
Same k j = k ≡ j

abbrev pub half_of : World → Half
half_of w = record { heap = w.heap; literals = w.literals; statics = w.statics; monitors = w.monitors; threads = w.threads }

abbrev pub twin : World → Two
twin w = record { program = w.program; limit = w.limit; classes = w.classes; output = w.output; stop = w.stop; one = half_of w; other = half_of w }

pub value_itself : (v : Value) → Values Same v v
value_itself (Int n) = ints
value_itself (Long n) = longs
value_itself Null = nulls
value_itself (Ref k) = refs refl

pub list_itself : {A : Type 0} (P : A → A → Type 0) → ((x : A) → P x x) → (xs : List A) → Lists P xs xs
list_itself P f [] = none
list_itself P f (x ∷ xs) = more (f x) (list_itself P f xs)

pub option_itself : {A : Type 0} (P : A → A → Type 0) → ((x : A) → P x x) → (o : Option A) → Options P o o
option_itself P f None = neither
option_itself P f (Some x) = both (f x)

pub act_itself : (a : Activation) → Acts Same a a
act_itself a = acts (list_itself (Options (Values Same)) (option_itself (Values Same) value_itself) a.locals) (list_itself (Values Same) value_itself a.stack)

pub frame_itself : (f : Frame) → Frames Same f f
frame_itself (method_frame m a o) = methods (act_itself a) (option_itself Same (λ k. refl) o)
frame_itself (initialization_frame class stage) = initializations
frame_itself entry_frame = entries

pub object_itself : (o : Object) → Objects Same o o
object_itself o = objects (list_itself (Values Same) value_itself o.values)

pub running_itself : (t : Thread) → Running Same t t
running_itself t = record { object = option_itself Same (λ k. refl) t.object; frames = list_itself (Frames Same) frame_itself t.frames; pending = option_itself Same (λ k. refl) t.pending; ending = refl }

pub same_equal : (k j i l : ℕ) → Same k j → Same i l → nat_eq k i ≡ nat_eq j l
same_equal k j i l e f = cc

pub twin_alike : (w : World) → Alike Same (twin w)
twin_alike w = record {
  cells = refl;
  made = refl;
  objects = λ k j e. subst (λ j. Options (Objects Same) (slice_get w.heap k) (slice_get w.heap j)) e (option_itself (Objects Same) object_itself (slice_get w.heap k));
  literals = λ units. option_itself Same (λ k. refl) (literal_in w.literals units);
  statics = λ f. option_itself (Values Same) value_itself (static_in w.statics f);
  held = λ k j e. subst (λ j. Options Held (monitor_in w.monitors k) (monitor_in w.monitors j)) e (option_itself Held (λ m. held) (monitor_in w.monitors k));
  started = λ k j e. cc;
  plain = plain_alike Same same_equal;
}

-- what comes of a step
pub twin_step : (w : World) (n : ℕ) (t : Thread) → Comes Same (twin w) n t t (step_thread w n t) (step_thread w n t)
twin_step w n t = step_both Same (record { worlds = twin w; number = n; thread = t; thread' = t; alike = twin_alike w; running = running_itself t })
