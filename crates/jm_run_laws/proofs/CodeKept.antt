-- Events keep frames in the code of their methods.
use Rattle.std.proofs.Common.{◌≡◌, ℕ, ◌+◌, ◌<◌, ◌≤◌, List, [], ◌∷◌, Option, Some, None, true, length, refl, sym, ap, ◌∙◌, subst, arith}
use Rattle.std.specs.Prelude.{slice_get, nat_lt, nat_le, ◌&&◌}
use Rattle.std.specs.List.{AllByRecursion}
use Rattle.std.proofs.lemmas.Bool.{ltb-true}
use Rattle.jm_program.specs.Codes.{handler_fits, catch_type_fits}
use Rattle.jm_program.specs.declared.code.Handler.{Handler}
use Rattle.jm_program.specs.declared.class.Method.{Method}
use Rattle.jm_program.specs.Fits.{Fits}
use Rattle.jm_program.specs.declared.class.ClassParts.{ClassParts}
use Rattle.jm_program.specs.declared.code.Code.{Code}
use Rattle.jm_program.specs.declared.instruction.symbolic.Instr.TheVariants as instr
use Rattle.jm_program.proofs.Truths.{both_true, passed_at}
use Rattle.jm_values.specs.Activation.{Activation}
use Rattle.jm_values.specs.Outcome as outcome
use Rattle.jm_world.specs.Classes.{MethodName, method_named}
use Rattle.jm_world.specs.Objects.{Object}
use Rattle.jm_world.specs.Frames.{Frame, method_frame, initialization_frame, entry_frame}
use Rattle.jm_world.specs.World.{World}
use Rattle.jm_world.specs.Here.{moved_on}
use Rattle.jm_world.specs.Invocation.{activation_of}
use Rattle.jm_world.specs.Throwing.{handlers_of}
use Rattle.jm_world.specs.Loading.{first_objects, loaded_world}
use Rattle.jm_world.specs.Loads.{Loads}
use Rattle.jm_world.specs.Run.{after, run_from}
use Rattle.jm_world.proofs.Fitting.{each_more}
use Rattle.jm_world.proofs.KeepingNames.{events_keep_names, run_keeps as run_keeps_names}
use Rattle.jm_run_laws.specs.LocalsOfRuns.{code_of}
use Rattle.jm_run_laws.specs.InstructionsOfRuns.{StandsIn, StandsOrEnds, FramesWait, FramesInCode, ThreadsInCode, EventsStayInCode, RunsStayInCode}
use Rattle.jm_run_laws.proofs.PlainStays.{Stays}
use Rattle.jm_run_laws.proofs.LoadedCode.{CodeLoads, named_code, StandsAt, stands_at}
use Rattle.jm_run_laws.proofs.Law.{Law, IsKept, EachBelow, Frames, Pending, Keeps}
use Rattle.jm_run_laws.proofs.EventsKept.{event_keeps, run_keeps}
use Rattle.jm_run_laws.proofs.LocalsKept.{plainly, nothing_of}

abbrev code_law : List ClassParts → Law
code_law program = record {
  Top = λ m a. StandsOrEnds (code_of (method_named program m)) a;
  Below = λ m a. StandsIn (code_of (method_named program m)) a;
  Holds = λ o. Unit {0};
  Pends = λ heap k. Unit {0};
}

-- of a code that is there
in_code : (o : Option Code) (code : Code) (a : Activation) → o ≡ Some code → a.at < length code.instructions → StandsIn o a
in_code o code a e l = subst (λ x. StandsIn x a) (sym e) l

ends_code : (o : Option Code) (code : Code) (a : Activation) → o ≡ Some code → a.at ≤ length code.instructions → StandsOrEnds o a
ends_code o code a e l = subst (λ x. StandsOrEnds x a) (sym e) l

rested : (o : Option Code) (a : Activation) → StandsIn o a → StandsOrEnds o a
rested None a h = h
rested (Some code) a h = omega (arith, h)

same_place : (o : Option Code) (a b : Activation) → b.at ≡ a.at → StandsIn o a → StandsIn o b
same_place None a b e h = h
same_place (Some code) a b e h = omega (arith, e, h)

next_place : (o : Option Code) (a b : Activation) → b.at ≡ a.at + 1 → StandsIn o a → StandsOrEnds o b
next_place None a b e h = h
next_place (Some code) a b e h = omega (arith, e, h)

-- the target of a handler is in the code (JVMS 4.7.3)
handler_in_code : (count : ℕ) (h : Handler) → handler_fits count h ≡ true → h.target < count
handler_in_code count h f =
    ltb-true h.target count (both_true (nat_lt h.start h.end && nat_le h.end count) (nat_lt h.target count) (both_true (nat_lt h.start h.end && nat_le h.end count && nat_lt h.target count) (catch_type_fits h.catch_type) f).0).1

handled : (program : List ClassParts) → AllByRecursion Fits program → Loads program → (m : MethodName) (x : Handler) (j : ℕ) (b : Activation) → b.at ≡ x.target → slice_get (handlers_of (method_named program m)) j ≡ Some x → StandsOrEnds (code_of (method_named program m)) b
handled program fits loads m x j b t e = by (method_named program m) refl e
  where
    its : (code : Code) → code_of (method_named program m) ≡ Some code → slice_get code.handlers j ≡ Some x → StandsOrEnds (code_of (method_named program m)) b
    its code q h =
        let c : (slots : ℕ) × CodeLoads program slots code = named_code program fits loads m code q in
        let l : x.target < length code.instructions = handler_in_code (length code.instructions) x (passed_at (handler_fits (length code.instructions)) code.handlers j x c.1.handlers h) in
        ends_code (code_of (method_named program m)) code b q (omega (arith, t, l))

    coded : (y : Method) → method_named program m ≡ Some y → (o : Option Code) → y.code ≡ o → slice_get (elim o as (λ _. List Handler) [ None ↦ [] | Some code ↦ code.handlers ]) j ≡ Some x → StandsOrEnds (code_of (method_named program m)) b
    coded y n None r h = cc
    coded y n (Some code) r h = its code (ap code_of n ∙ r) h

    by : (o : Option Method) → method_named program m ≡ o → slice_get (handlers_of o) j ≡ Some x → StandsOrEnds (code_of (method_named program m)) b
    by None n h = cc
    by (Some y) n h = coded y n y.code refl h

code_kept : (program : List ClassParts) → AllByRecursion Fits program → Loads program → IsKept program (code_law program)
code_kept program fits loads = record {
  rests = λ m a h. rested (code_of (method_named program m)) a h;
  stands = λ m a i h e. (let s : StandsAt program m a.at i = stands_at program fits loads m a.at i e in in_code (code_of (method_named program m)) s.code a s.is s.within);
  pops = λ m a s h. same_place (code_of (method_named program m)) a (record { at = a.at; max_stack = a.max_stack; locals = a.locals; stack = s }) refl h;
  moves = λ m a s h. next_place (code_of (method_named program m)) a (moved_on a s) refl h;
  acts = λ m a op b h e q. (let p : (s : StandsAt program m a.at (instr.Plain op)) × Stays (length s.code.instructions) a (outcome.goes b) = plainly program fits loads m a op b e q in
      ends_code (code_of (method_named program m)) p.0.code b p.0.is p.1.1);
  handles = λ m a x s j h e. handled program fits loads m x j (record { at = x.target; max_stack = a.max_stack; locals = a.locals; stack = s }) refl e;
  begins = λ m code vs q l. in_code (code_of (method_named program m)) code (activation_of code vs) q (named_code program fits loads m code q).1.first;
  stored = λ o i v h. tt;
  arrays = λ t vs. tt;
  bare = λ class e. tt;
  instances = λ class e. tt;
  more = λ heap os k p. tt;
  changed = λ heap j o i v k e p. tt;
  news = λ heap class e. tt;
  throws = λ w k o q e r. tt;
}

-- the law says the same of all frames
below_wait : (program : List ClassParts) (fs : List Frame) → EachBelow (code_law program) fs → FramesWait program fs
below_wait program [] f = tt
below_wait program (method_frame m a monitor ∷ fs) f = (f.0, below_wait program fs f.1)
below_wait program (initialization_frame class stage ∷ fs) f = below_wait program fs f
below_wait program (entry_frame ∷ fs) f = below_wait program fs f

frames_in : (program : List ClassParts) (fs : List Frame) → Frames (code_law program) fs → FramesInCode program fs
frames_in program [] f = tt
frames_in program (method_frame m a monitor ∷ fs) f = (f.0, below_wait program fs f.1)
frames_in program (initialization_frame class stage ∷ fs) f = below_wait program fs f
frames_in program (entry_frame ∷ fs) f = below_wait program fs f

wait_below : (program : List ClassParts) (fs : List Frame) → FramesWait program fs → EachBelow (code_law program) fs
wait_below program [] f = tt
wait_below program (method_frame m a monitor ∷ fs) f = (f.0, wait_below program fs f.1)
wait_below program (initialization_frame class stage ∷ fs) f = wait_below program fs f
wait_below program (entry_frame ∷ fs) f = wait_below program fs f

in_frames : (program : List ClassParts) (fs : List Frame) → FramesInCode program fs → Frames (code_law program) fs
in_frames program [] f = tt
in_frames program (method_frame m a monitor ∷ fs) f = (f.0, wait_below program fs f.1)
in_frames program (initialization_frame class stage ∷ fs) f = wait_below program fs f
in_frames program (entry_frame ∷ fs) f = wait_below program fs f

nothing_pends : (program : List ClassParts) (heap : List Object) (o : Option ℕ) → Pending (code_law program) heap o
nothing_pends program heap None = tt
nothing_pends program heap (Some k) = tt

told : (program : List ClassParts) (w : World) → w.program ≡ program → Keeps (code_law program) w → ThreadsInCode w
told program w e h = subst (λ p. AllByRecursion (λ t. FramesInCode p t.frames) w.threads) (sym e) (each_more (λ t f. frames_in program t.frames f.0) w.threads h.0)

pub events_stay_in_code : EventsStayInCode
events_stay_in_code w e fits loads h = told w.program (after w e).world (events_keep_names w e).0
    (event_keeps (code_law w.program) w e fits loads (code_kept w.program fits loads) (each_more (λ t f. (in_frames w.program t.frames f, nothing_pends w.program w.heap t.pending)) w.threads h, nothing_of w.heap))

pub runs_stay_in_code : RunsStayInCode
unfolding loaded_world
runs_stay_in_code program limit events fits loads = told program (run_from (loaded_world program limit) events) (run_keeps_names (loaded_world program limit) events).0
    (run_keeps (code_law program) program limit events fits loads (code_kept program fits loads) (nothing_of (first_objects program)))
