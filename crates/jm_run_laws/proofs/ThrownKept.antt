-- Events leave no other pending exception than a Throwable.
use Rattle.std.proofs.Common.{◌≡◌, ℕ, zero, suc, ◌≤◌, List, [], ◌∷◌, ◌++◌, Option, Some, None, Bool, true, false, length, refl, sym, ap, ◌∙◌, subst, arith}
use Rattle.std.specs.Prelude.{slice_get, slice_set, option_to_list}
use Rattle.jm_program.specs.Names.{same_text}
use Rattle.jm_program.specs.declared.class.ClassParts.{ClassParts}
use Rattle.jm_program.proofs.Truths.{both_true}
use Rattle.jm_builtins.specs.List.{the_builtins}
use Rattle.jm_world.specs.Types.{ObjectType, instance_of, array_of}
use Rattle.jm_world.specs.Classes.{built_in_named, class_named, height, throwable_class}
use Rattle.jm_world.specs.Hierarchy.{parents, holds_of_any, is_below, is_subclass}
use Rattle.jm_world.specs.Objects.{Object}
use Rattle.jm_world.specs.Frames.{Frame, method_frame, initialization_frame, entry_frame}
use Rattle.jm_world.specs.World.{World}
use Rattle.jm_world.specs.Next.{exception}
use Rattle.jm_world.specs.Throwing.{is_kind_of}
use Rattle.jm_world.specs.Loading.{first_objects, loaded_world}
use Rattle.jm_world.specs.Loads.{Loads}
use Rattle.jm_world.specs.Run.{after, run_from}
use Rattle.jm_world.proofs.Fitting.{each_more}
use Rattle.jm_world.proofs.KeepingNames.{events_keep_names}
use Rattle.jm_run_laws.specs.ExceptionsOfRuns.{is_throwable, IsThrowable, PendingIsThrowable, ThreadsThrow, EventsThrowThrowables, RunsThrowThrowables}
use Rattle.jm_run_laws.proofs.BuiltInFields.{built_in_there}
use Rattle.jm_world.proofs.Leaving.{is_bare, is_thrown_in, is_thrown}
use Rattle.jm_run_laws.proofs.Law.{Law, IsKept, EachBelow, Frames, Pending, Keeps}
use Rattle.jm_run_laws.proofs.EventsKept.{event_keeps, run_keeps}
use Rattle.jm_run_laws.proofs.LocalsKept.{nothing_of}
use Rattle.jm_run_laws.proofs.ObjectsKept.{same_program}

-- a built-in class that is below Throwable is so in every program that loads
thrown_below : (program : List ClassParts) → Loads program → (n m : ℕ) (name : List ℕ) → n ≤ m → is_thrown_in n name ≡ true → is_below m program name throwable_class ≡ true
thrown_below program loads zero m name l e = cc
thrown_below program loads (suc n) zero name l e = absurd (omega (arith, l))
thrown_below program loads (suc n) (suc m) name l e = by (same_text name throwable_class) e (λ s h. thrown_below program loads n m s (omega (arith, l)) h)
  where
    first : (b x : Bool) → b ≡ true → (elim b as (λ _. Bool) [ true ↦ true | false ↦ x ]) ≡ true
    first true x q = refl
    first false x q = cc

    above : (c : ClassParts) (o : Option (List ℕ)) → (elim o as (λ _. Bool) [ None ↦ false | Some s ↦ is_thrown_in n s ]) ≡ true → ((s : List ℕ) → is_thrown_in n s ≡ true → is_below m program s throwable_class ≡ true)
        → holds_of_any (λ parent. is_below m program parent throwable_class) (option_to_list o ++ c.interfaces) ≡ true
    above c None h ih = cc
    above c (Some s) h ih = first (is_below m program s throwable_class) (holds_of_any (λ parent. is_below m program parent throwable_class) c.interfaces) (ih s h)

    its : (o : Option ClassParts) → built_in_named the_builtins name ≡ o → (elim o as (λ _. Bool) [ None ↦ false | Some c ↦ elim c.superclass [ None ↦ false | Some s ↦ is_thrown_in n s ] ]) ≡ true
        → ((s : List ℕ) → is_thrown_in n s ≡ true → is_below m program s throwable_class ≡ true) → holds_of_any (λ parent. is_below m program parent throwable_class) (parents (class_named program name)) ≡ true
    its None q h ih = cc
    its (Some c) q h ih = subst (λ o. holds_of_any (λ parent. is_below m program parent throwable_class) (parents o) ≡ true) (sym (built_in_there program loads name c q)) (above c c.superclass h ih)

    by : (b : Bool) → (elim b as (λ _. Bool) [ true ↦ true | false ↦ elim (built_in_named the_builtins name) [ None ↦ false | Some c ↦ elim c.superclass [ None ↦ false | Some s ↦ is_thrown_in n s ] ] ]) ≡ true
        → ((s : List ℕ) → is_thrown_in n s ≡ true → is_below m program s throwable_class ≡ true) → (elim b as (λ _. Bool) [ true ↦ true | false ↦ holds_of_any (λ parent. is_below m program parent throwable_class) (parents (class_named program name)) ]) ≡ true
    by true h ih = refl
    by false h ih = its (built_in_named the_builtins name) refl h ih

thrown_there : (program : List ClassParts) → Loads program → (class : List ℕ) → is_thrown class ≡ true → is_subclass program class throwable_class ≡ true
unfolding is_subclass
thrown_there program loads class e = thrown_below program loads 6 (height program) class tall (both_true (is_bare class) (is_thrown_in 6 class) e).1
  where
    tall : 6 ≤ height program
    tall = let count : length the_builtins ≡ 29 = refl in omega (arith, count)

-- an object keeps its type
more_keep : (program : List ClassParts) (heap os : List Object) (k : ℕ) → IsThrowable program (slice_get heap k) → IsThrowable program (slice_get (heap ++ os) k)
more_keep program [] os k p = absurd p
more_keep program (x ∷ xs) os zero p = p
more_keep program (x ∷ xs) os (suc k) p = more_keep program xs os k p

changed_keep : (program : List ClassParts) (heap : List Object) (j : ℕ) (o new : Object) (k : ℕ) → new.type ≡ o.type → slice_get heap j ≡ Some o → IsThrowable program (slice_get heap k) → IsThrowable program (slice_get (slice_set heap j new) k)
changed_keep program [] j o new k t e p = absurd p
changed_keep program (x ∷ xs) zero o new zero t e p = let same : x ≡ o = cc in subst (λ y. is_throwable program y ≡ true) (ap (λ (z : Object). z.type) same ∙ sym t) p
changed_keep program (x ∷ xs) zero o new (suc k) t e p = p
changed_keep program (x ∷ xs) (suc j) o new zero t e p = p
changed_keep program (x ∷ xs) (suc j) o new (suc k) t e p = changed_keep program xs j o new k t e p

new_thrown : (program : List ClassParts) → Loads program → (heap : List Object) (class : List ℕ) → is_thrown class ≡ true → IsThrowable program (slice_get (heap ++ exception class ∷ []) (length heap))
new_thrown program loads [] class e = thrown_there program loads class e
new_thrown program loads (x ∷ xs) class e = new_thrown program loads xs class e

kind_thrown : (program : List ClassParts) (w : World) (type : ObjectType) → w.program ≡ program → is_kind_of w type throwable_class ≡ true → is_throwable program type ≡ true
kind_thrown program w (instance_of class) q r = subst (λ p. is_subclass p class throwable_class ≡ true) q r
kind_thrown program w (array_of component) q r = r

abbrev thrown_law : List ClassParts → Law
thrown_law program = record {
  Top = λ m a. Unit {0};
  Below = λ m a. Unit {0};
  Holds = λ o. Unit {0};
  Pends = λ heap k. IsThrowable program (slice_get heap k);
}

thrown_kept : (program : List ClassParts) → Loads program → IsKept program (thrown_law program)
thrown_kept program loads = record {
  rests = λ m a h. tt;
  stands = λ m a i h e. tt;
  pops = λ m a s h. tt;
  moves = λ m a s h. tt;
  acts = λ m a op b h e q. tt;
  handles = λ m a x s j h e. tt;
  begins = λ m code vs q l. tt;
  stored = λ o i v h. tt;
  arrays = λ t vs. tt;
  bare = λ class e. tt;
  instances = λ class e. tt;
  more = λ heap os k p. more_keep program heap os k p;
  changed = λ heap j o i v k e p. changed_keep program heap j o (record { type = o.type; values = slice_set o.values i v }) k refl e p;
  news = λ heap class e. new_thrown program loads heap class e;
  throws = λ w k o q e r. subst (IsThrowable program) (sym e) (kind_thrown program w o.type q r);
}

-- of frames nothing is said
below_so : (program : List ClassParts) (fs : List Frame) → EachBelow (thrown_law program) fs
below_so program [] = tt
below_so program (method_frame m a monitor ∷ fs) = (tt, below_so program fs)
below_so program (initialization_frame class stage ∷ fs) = below_so program fs
below_so program (entry_frame ∷ fs) = below_so program fs

frames_so : (program : List ClassParts) (fs : List Frame) → Frames (thrown_law program) fs
frames_so program [] = tt
frames_so program (method_frame m a monitor ∷ fs) = (tt, below_so program fs)
frames_so program (initialization_frame class stage ∷ fs) = below_so program fs
frames_so program (entry_frame ∷ fs) = below_so program fs

pends_so : (program : List ClassParts) (w : World) → w.program ≡ program → (o : Option ℕ) → Pending (thrown_law program) w.heap o → PendingIsThrowable w o
pends_so program w e None p = tt
pends_so program w e (Some k) p = subst (λ x. IsThrowable x (slice_get w.heap k)) (sym e) p

so_pends : (w : World) (o : Option ℕ) → PendingIsThrowable w o → Pending (thrown_law w.program) w.heap o
so_pends w None p = tt
so_pends w (Some k) p = p

told : (program : List ClassParts) (w : World) → w.program ≡ program → Keeps (thrown_law program) w → ThreadsThrow w
told program w e h = each_more (λ t f. pends_so program w e t.pending f.1) w.threads h.0

pub events_throw_throwables : EventsThrowThrowables
events_throw_throwables w e fits loads h = told w.program (after w e).world (events_keep_names w e).0
    (event_keeps (thrown_law w.program) w e fits loads (thrown_kept w.program loads) (each_more (λ t f. (frames_so w.program t.frames, so_pends w t.pending f)) w.threads h, nothing_of w.heap))

pub runs_throw_throwables : RunsThrowThrowables
runs_throw_throwables program limit events fits loads = told program (run_from (loaded_world program limit) events) (same_program program limit events)
    (run_keeps (thrown_law program) program limit events fits loads (thrown_kept program loads) (nothing_of (first_objects program)))
