-- An event keeps the frames of threads so that the method of each has code.
use Rattle.std.proofs.Common.{◌≡◌, ℕ, zero, suc, List, [], ◌∷◌, Option, Some, None, sym, subst}
use Rattle.std.specs.Prelude.{◌-◌, slice_set}
use Rattle.jm_program.specs.declared.class.ClassParts.{ClassParts}
use Rattle.jm_program.specs.declared.code.Code.{Code}
use Rattle.jm_values.specs.declared.value.Value.TheVariants.{Ref}
use Rattle.jm_values.proofs.Lists.{each_at, each_set, each_of_both}
use Rattle.jm_world.specs.Classes.{FoundMethod, name_of_method, method_named}
use Rattle.jm_world.specs.Frames.{Frame, method_frame, initialization_frame}
use Rattle.jm_world.specs.World.{World, Thread, with_thread, thread_at}
use Rattle.jm_world.specs.Next.{Next}
use Rattle.jm_world.specs.BuiltInMethods.{new_thread}
use Rattle.jm_world.specs.Invocation.{activation_of}
use Rattle.jm_world.specs.Loading.{first_thread, main_in, loaded_world}
use Rattle.jm_world.specs.Run.{after, run_from}
use Rattle.jm_world.specs.NamesOfRuns.{IsThere, HasBody, FramesHaveCode, ThreadsHaveCode, EventsKeepCode, RunsHaveCode}
use Rattle.jm_world.specs.declared.class_state.ClassState.{ClassState}
use Rattle.jm_world.specs.declared.event.Event.{Event}
use Rattle.jm_world.specs.declared.stage.Stage.TheVariants.{Begin}
use Rattle.jm_world.proofs.Turning.{Found, by_class, by_name, by_invokespecial, of_class, Goes, moved, acted, called, gave, left, needed, unneeded, begun, onward, upward, initialized, finished, entered, Drops, no_frame, a_method, an_initialization, a_refusal, an_entry, Turn, ends, goes_on, raises, catches, drops, dies}
use Rattle.jm_world.proofs.WhatComes.{same, stored, sets, locks, states, begins, writes, Changes, Comes, stopped, blocked, went, makes, fails, starts}
use Rattle.jm_world.proofs.FoundAgain.{CallRuns, resolved, selected, specially, initially, mainly}
use Rattle.jm_world.proofs.BesideItself.{Same, twin, twin_step}
use Rattle.jm_world.proofs.KeptByEvents.{Behind, event_keeps}

-- a method that was found and has code stands where its name says
found_runs : (program : List ClassParts) (found : FoundMethod) (code : Code) → Found program found → found.method.code ≡ Some code → HasBody (method_named program (name_of_method found))
found_runs program found code x e = by x (subst IsThere (sym e) tt)
  where
    by : Found program found → IsThere found.method.code → HasBody (method_named program (name_of_method found))
    by (by_class class name t d) = subst (CallRuns program) d (selected program class name t)
    by (by_name class name t d) = subst (CallRuns program) d (resolved program class name t)
    by (by_invokespecial here class m q d i c) = subst (λ p. CallRuns p (Some found)) q (subst (CallRuns here.world.program) d (specially here class m))
    by (of_class class d) = subst (CallRuns program) d (initially program class)

goes_run : (program : List ClassParts) (n : ℕ) (fs gs : List Frame) (c : Option (List ℕ × ClassState)) → Goes program n fs c gs → FramesHaveCode program fs → FramesHaveCode program gs
goes_run program n _ _ _ (moved s b i) f = f
goes_run program n _ _ _ (acted op d e) f = f
goes_run program n _ _ _ (called s vs found code lock b d x y l i) f = (found_runs program found code x y, f)
goes_run program n _ _ _ (gave s b) f = f.1
goes_run program n _ _ _ left f = f.1
goes_run program n _ _ _ (needed class b i) f = f
goes_run program n _ _ _ unneeded f = f
goes_run program n _ _ _ begun f = f
goes_run program n _ _ _ onward f = f
goes_run program n _ _ _ (upward above b) f = f
goes_run program n _ _ _ (initialized found code b x y) f = (found_runs program found code x y, f)
goes_run program n _ _ _ finished f = f
goes_run program n _ _ _ (entered found code k lock x y l) f = (found_runs program found code x y, f)

drops_run : (program : List ClassParts) (fs gs : List Frame) (c : Option (List ℕ × ClassState)) → Drops fs c gs → FramesHaveCode program fs → FramesHaveCode program gs
drops_run program _ _ _ no_frame f = f
drops_run program _ _ _ a_method f = f.1
drops_run program _ _ _ an_initialization f = f
drops_run program _ _ _ a_refusal f = f
drops_run program _ _ _ an_entry f = f

turn_runs : (w : World) (n : ℕ) (t s : Thread) (c : Option (List ℕ × ClassState)) → Turn w n t c s → FramesHaveCode w.program t.frames → FramesHaveCode w.program s.frames
turn_runs w n t _ _ (ends fs d x) f = tt
turn_runs w n t _ _ (goes_on fs d x) f = goes_run w.program n fs _ _ x (subst (FramesHaveCode w.program) d f)
turn_runs w n t _ _ (raises k) f = f
turn_runs w n t _ _ (catches {m = m} {a = a} {o = o} {fs = fs} type h k d x b) f = subst (FramesHaveCode w.program) d f
turn_runs w n t _ _ (drops fs k d x) f = drops_run w.program fs _ _ x (subst (FramesHaveCode w.program) d f)
turn_runs w n t _ _ (dies fs class d x) f = tt

its_code : (w : World) (number : ℕ) (t : Thread) → ThreadsHaveCode w → thread_at w number ≡ Some t → FramesHaveCode w.program t.frames
its_code w zero t f e = cc
its_code w (suc n) t f e = each_at (λ t. FramesHaveCode w.program t.frames) w.threads n t f e

module _ (w : World) (number : ℕ) (t : Thread) (h : ThreadsHaveCode w) (own : FramesHaveCode w.program t.frames) where
  put : (s : Thread) (c : Option (List ℕ × ClassState)) → Turn w number t c s → ThreadsHaveCode (with_thread w number s)
  put s c x = each_set (λ t. FramesHaveCode w.program t.frames) w.threads (number - 1) s h (turn_runs w number t s c x own)

  -- another world of the program, with these threads
  changed : (c : Option (List ℕ × ClassState)) (v u : World) (s : Thread) → Changes Same (twin w) number c v u → ThreadsHaveCode (with_thread w number s) → ThreadsHaveCode (with_thread v number s)
  changed _ _ _ s same f = f
  changed _ _ _ s (stored i r e d x a) f = f
  changed _ _ _ s (sets x a) f = f
  changed _ _ _ s (locks x) f = f
  changed _ _ _ s (states class state) f = f
  changed _ _ _ s (begins class) f = f
  changed _ _ _ s (writes bytes) f = f

  comes_run : (x y : Next) → Comes Same (twin w) number t t x y → Behind ThreadsHaveCode x
  comes_run _ _ stopped = tt
  comes_run _ _ (blocked x) = tt
  comes_run _ _ (went {w = v} {v = u} {s = s} d c x y) = changed d v u s c (put s d x.turn)
  comes_run _ _ (makes os {s = s} a x y) = put s None x.turn
  comes_run _ _ (fails class os {s = s} a x y) = put s _ x.turn
  comes_run _ _ (starts {k = k} {s = s} r x y) = each_of_both (λ t. FramesHaveCode w.program t.frames) (slice_set w.threads (number - 1) s) (new_thread k ∷ []) (put s None x.turn) (tt, tt)

pub events_keep_code : EventsKeepCode
events_keep_code w e h = event_keeps ThreadsHaveCode w h (λ s. h) (λ n t d r. comes_run w n t h (its_code w n t h d) _ _ (twin_step w n t)) e

first_runs : (program : List ClassParts) (found : Option FoundMethod) → CallRuns program found → FramesHaveCode program (first_thread found).frames
first_runs program None d = tt
first_runs program (Some m) d = by m.method.code d
  where
    by : (code : Option Code) → (IsThere code → HasBody (method_named program (name_of_method m))) → FramesHaveCode program (elim code as (λ _. List Frame) [ None ↦ [] | Some c ↦ initialization_frame m.class.name Begin ∷ method_frame (name_of_method m) (activation_of c (Ref 1 ∷ [])) None ∷ [] ])
    by None d = tt
    by (Some c) d = (d tt, tt)

loaded_runs : (program : List ClassParts) (limit : ℕ) → ThreadsHaveCode (loaded_world program limit)
unfolding loaded_world
loaded_runs program limit = (first_runs program (main_in program) (mainly program), tt)

run_runs : (w : World) (es : List Event) → ThreadsHaveCode w → ThreadsHaveCode (run_from w es)
run_runs w [] h = h
run_runs w (e ∷ es) h = run_runs (after w e).world es (events_keep_code w e h)

pub runs_have_code : RunsHaveCode
runs_have_code program limit events = run_runs (loaded_world program limit) events (loaded_runs program limit)
