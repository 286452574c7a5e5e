-- An event keeps the program, the fields of statics and the literals of a world.
use Rattle.std.proofs.Common.{◌≡◌, ℕ, List, [], ◌∷◌, Option, Some, None, Bool, true, false, refl, ap, ◌∙◌}
use Rattle.jm_program.specs.Flags.{is_static}
use Rattle.jm_program.specs.declared.class.ClassParts.{ClassParts}
use Rattle.jm_program.specs.declared.class.Field.{Field}
use Rattle.jm_program.specs.declared.constant.Constant.{Constant}
use Rattle.jm_values.specs.declared.value.Value.{Value}
use Rattle.jm_world.specs.Types.{narrow}
use Rattle.jm_world.specs.Classes.{class_named}
use Rattle.jm_world.specs.Objects.{FieldName, same_field}
use Rattle.jm_world.specs.World.{World, Thread, Static, Literal, set_static_in}
use Rattle.jm_world.specs.Next.{Next}
use Rattle.jm_world.specs.Initialization.{with_constant, with_constants, constant_value, constants_of}
use Rattle.jm_world.specs.Stepping.{step_thread}
use Rattle.jm_world.specs.NamesOfRuns.{fields_of, SameNames, EventsKeepNames}
use Rattle.jm_world.proofs.WhatComes.{same, stored, sets, locks, states, begins, writes, Changes, Comes, stopped, blocked, went, makes, fails, starts}
use Rattle.jm_world.specs.Run.{after, run_from}
use Rattle.jm_world.specs.declared.event.Event.{Event}
use Rattle.jm_world.specs.declared.class_state.ClassState.{ClassState}
use Rattle.jm_world.proofs.KeptByEvents.{Behind, event_keeps}
use Rattle.jm_world.proofs.BesideItself.{Same, twin, twin_step}

set_keeps : (ss : List Static) (f : FieldName) (v : Value) → fields_of (set_static_in ss f v) ≡ fields_of ss
set_keeps [] f v = refl
set_keeps (s ∷ ss) f v = by (same_field s.field f) (set_keeps ss f v)
  where
    by : (b : Bool) → fields_of (set_static_in ss f v) ≡ fields_of ss → fields_of (elim b as (λ _. List Static) [ true ↦ record { field = s.field; value = v } ∷ ss | false ↦ s ∷ set_static_in ss f v ]) ≡ fields_of (s ∷ ss)
    by true ih = refl
    by false ih = ap (λ l. s.field ∷ l) ih

one_set_keeps : (ls : List Literal) (c : ClassParts) (f : Field) (o : Option Constant) (ss : List Static) → fields_of (with_constant ls c f o ss) ≡ fields_of ss
one_set_keeps ls c f None ss = refl
one_set_keeps ls c f (Some x) ss = by (is_static f.flags)
  where
    by : (b : Bool) → fields_of (elim b as (λ _. List Static) [ true ↦ set_static_in ss (record { class = c.name; name = f.name; type = f.descriptor }) (narrow f.descriptor (constant_value ls x)) | false ↦ ss ]) ≡ fields_of ss
    by true = set_keeps ss (record { class = c.name; name = f.name; type = f.descriptor }) (narrow f.descriptor (constant_value ls x))
    by false = refl

all_set_keep : (ls : List Literal) (c : ClassParts) (fs : List Field) (ss : List Static) → fields_of (with_constants ls c fs ss) ≡ fields_of ss
all_set_keep ls c [] ss = refl
all_set_keep ls c (f ∷ fs) ss = all_set_keep ls c fs (with_constant ls c f f.constant ss) ∙ one_set_keeps ls c f f.constant ss

constants_keep : (w : World) (o : Option ClassParts) → fields_of (constants_of w o) ≡ fields_of w.statics
constants_keep w None = refl
constants_keep w (Some c) = all_set_keep w.literals c c.fields w.statics

changes_keep : (w : World) (n : ℕ) (c : Option (List ℕ × ClassState)) (v u : World) → Changes Same (twin w) n c v u → SameNames w v
changes_keep w n _ _ _ same = (refl, refl, refl)
changes_keep w n _ _ _ (stored i r e f x a) = (refl, refl, refl)
changes_keep w n _ _ _ (sets f {v = v} a) = (refl, refl, set_keeps w.statics f v)
changes_keep w n _ _ _ (locks x) = (refl, refl, refl)
changes_keep w n _ _ _ (states class state) = (refl, refl, refl)
changes_keep w n _ _ _ (begins class) = (refl, refl, constants_keep w (class_named w.program class))
changes_keep w n _ _ _ (writes bytes) = (refl, refl, refl)

come_keeps : (w : World) (n : ℕ) (t : Thread) (x y : Next) → Comes Same (twin w) n t t x y → Behind (SameNames w) x
come_keeps w n t _ _ stopped = tt
come_keeps w n t _ _ (blocked x) = tt
come_keeps w n t _ _ (went {w = v} {v = u} d c x y) = changes_keep w n d v u c
come_keeps w n t _ _ (makes os a x y) = (refl, refl, refl)
come_keeps w n t _ _ (fails class os a x y) = (refl, refl, refl)
come_keeps w n t _ _ (starts r x y) = (refl, refl, refl)

pub step_keeps : (w : World) (n : ℕ) (t : Thread) → Behind (SameNames w) (step_thread w n t)
step_keeps w n t = come_keeps w n t _ _ (twin_step w n t)

pub events_keep_names : EventsKeepNames
events_keep_names w e = event_keeps (SameNames w) w (refl, refl, refl) (λ s. (refl, refl, refl)) (λ n t d r. step_keeps w n t) e

pub run_keeps : (w : World) (es : List Event) → SameNames w (run_from w es)
run_keeps w [] = (refl, refl, refl)
run_keeps w (e ∷ es) =
    let one : SameNames w (after w e).world = events_keep_names w e in
    let more : SameNames (after w e).world (run_from (after w e).world es) = run_keeps (after w e).world es in
    (more.0 ∙ one.0, more.1 ∙ one.1, more.2 ∙ one.2)
