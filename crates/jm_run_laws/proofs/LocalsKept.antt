-- Events keep the number of a frame's local variables.
use Rattle.std.proofs.Common.{◌≡◌, List, [], ◌∷◌, Option, Some, None, length, refl, sym, ◌∙◌, subst, ℕ}
use Rattle.std.specs.List.{AllByRecursion}
use Rattle.jm_program.specs.Fits.{Fits}
use Rattle.jm_program.specs.declared.class.ClassParts.{ClassParts}
use Rattle.jm_program.specs.declared.code.Code.{Code}
use Rattle.jm_program.specs.declared.instruction.plain.Plain.{Plain}
use Rattle.jm_program.specs.declared.instruction.symbolic.Instr.TheVariants as instr
use Rattle.jm_values.specs.Activation.{Activation}
use Rattle.jm_values.specs.Outcome as outcome
use Rattle.jm_values.specs.PlainRows.{row_plain}
use Rattle.jm_world.specs.Classes.{MethodName, method_named}
use Rattle.jm_world.specs.Objects.{Object}
use Rattle.jm_world.specs.Frames.{Frame, method_frame, initialization_frame, entry_frame}
use Rattle.jm_world.specs.World.{World}
use Rattle.jm_world.specs.Here.{moved_on}
use Rattle.jm_world.specs.Invocation.{locals_of, activation_of}
use Rattle.jm_world.specs.Stepping.{instruction_in}
use Rattle.jm_world.specs.Loading.{first_objects, loaded_world}
use Rattle.jm_world.specs.Loads.{Loads}
use Rattle.jm_world.specs.Run.{after, run_from}
use Rattle.jm_world.proofs.Fitting.{each_more}
use Rattle.jm_world.proofs.KeepingNames.{events_keep_names, run_keeps as run_keeps_names}
use Rattle.jm_run_laws.specs.LocalsOfRuns.{code_of, HasLocals, FramesHaveLocals, ThreadsHaveLocals, EventsKeepLocals, RunsHaveLocals}
use Rattle.jm_run_laws.proofs.PlainStays.{Stays, plain_stays}
use Rattle.jm_run_laws.proofs.LoadedCode.{StandsAt, stands_at}
use Rattle.jm_world.proofs.Arguments.{padded_to}
use Rattle.jm_run_laws.proofs.Law.{Law, IsKept, EachBelow, Frames, Pending, Keeps}
use Rattle.jm_run_laws.proofs.EventsKept.{event_keeps, run_keeps}

abbrev locals_law : List ClassParts → Law
locals_law program = record {
  Top = λ m a. HasLocals (code_of (method_named program m)) a;
  Below = λ m a. HasLocals (code_of (method_named program m)) a;
  Holds = λ o. Unit {0};
  Pends = λ heap k. Unit {0};
}

same_locals : (o : Option Code) (a b : Activation) → length b.locals ≡ length a.locals → HasLocals o a → HasLocals o b
same_locals None a b e h = h
same_locals (Some code) a b e h = e ∙ h

-- what a plain instruction of the code leaves
pub plainly : (program : List ClassParts) → AllByRecursion Fits program → Loads program → (m : MethodName) (a : Activation) (op : Plain) (b : Activation) (e : instruction_in (method_named program m) a.at ≡ Some (instr.Plain op)) → row_plain op a ≡ outcome.goes b
    → (s : StandsAt program m a.at (instr.Plain op)) × Stays (length s.code.instructions) a (outcome.goes b)
plainly program fits loads m a op b e q =
    let s : StandsAt program m a.at (instr.Plain op) = stands_at program fits loads m a.at (instr.Plain op) e in
    (s, subst (Stays (length s.code.instructions) a) q (plain_stays (length s.code.instructions) op a s.fits s.within))

locals_kept : (program : List ClassParts) → AllByRecursion Fits program → Loads program → IsKept program (locals_law program)
locals_kept program fits loads = record {
  rests = λ m a h. h;
  stands = λ m a i h e. h;
  pops = λ m a s h. same_locals (code_of (method_named program m)) a (record { at = a.at; max_stack = a.max_stack; locals = a.locals; stack = s }) refl h;
  moves = λ m a s h. same_locals (code_of (method_named program m)) a (moved_on a s) refl h;
  acts = λ m a op b h e q. same_locals (code_of (method_named program m)) a b (plainly program fits loads m a op b e q).1.0 h;
  handles = λ m a x s j h e. same_locals (code_of (method_named program m)) a (record { at = x.target; max_stack = a.max_stack; locals = a.locals; stack = s }) refl h;
  begins = λ m code vs q l. subst (λ o. HasLocals o (activation_of code vs)) (sym q) (padded_to code.max_locals (locals_of vs) l);
  stored = λ o i v h. tt;
  arrays = λ t vs. tt;
  bare = λ class e. tt;
  instances = λ class e. tt;
  more = λ heap os k p. tt;
  changed = λ heap j o i v k e p. tt;
  news = λ heap class e. tt;
  throws = λ w k o q e r. tt;
}

-- the law says the same of all frames
below_have : (program : List ClassParts) (fs : List Frame) → EachBelow (locals_law program) fs → FramesHaveLocals program fs
below_have program [] f = tt
below_have program (method_frame m a monitor ∷ fs) f = (f.0, below_have program fs f.1)
below_have program (initialization_frame class stage ∷ fs) f = below_have program fs f
below_have program (entry_frame ∷ fs) f = below_have program fs f

frames_have : (program : List ClassParts) (fs : List Frame) → Frames (locals_law program) fs → FramesHaveLocals program fs
frames_have program [] f = tt
frames_have program (method_frame m a monitor ∷ fs) f = (f.0, below_have program fs f.1)
frames_have program (initialization_frame class stage ∷ fs) f = below_have program fs f
frames_have program (entry_frame ∷ fs) f = below_have program fs f

have_below : (program : List ClassParts) (fs : List Frame) → FramesHaveLocals program fs → EachBelow (locals_law program) fs
have_below program [] f = tt
have_below program (method_frame m a monitor ∷ fs) f = (f.0, have_below program fs f.1)
have_below program (initialization_frame class stage ∷ fs) f = have_below program fs f
have_below program (entry_frame ∷ fs) f = have_below program fs f

have_frames : (program : List ClassParts) (fs : List Frame) → FramesHaveLocals program fs → Frames (locals_law program) fs
have_frames program [] f = tt
have_frames program (method_frame m a monitor ∷ fs) f = (f.0, have_below program fs f.1)
have_frames program (initialization_frame class stage ∷ fs) f = have_below program fs f
have_frames program (entry_frame ∷ fs) f = have_below program fs f

-- of objects nothing is said
pub nothing_of : {A : Type 0} (xs : List A) → AllByRecursion (λ x. Unit {0}) xs
nothing_of [] = tt
nothing_of (x ∷ xs) = (tt, nothing_of xs)

nothing_pends : (program : List ClassParts) (heap : List Object) (o : Option ℕ) → Pending (locals_law program) heap o
nothing_pends program heap None = tt
nothing_pends program heap (Some k) = tt

told : (program : List ClassParts) (w : World) → w.program ≡ program → Keeps (locals_law program) w → ThreadsHaveLocals w
told program w e h = subst (λ p. AllByRecursion (λ t. FramesHaveLocals p t.frames) w.threads) (sym e) (each_more (λ t f. frames_have program t.frames f.0) w.threads h.0)

pub events_keep_locals : EventsKeepLocals
events_keep_locals w e fits loads h = told w.program (after w e).world (events_keep_names w e).0
    (event_keeps (locals_law w.program) w e fits loads (locals_kept w.program fits loads) (each_more (λ t f. (have_frames w.program t.frames f, nothing_pends w.program w.heap t.pending)) w.threads h, nothing_of w.heap))

pub runs_have_locals : RunsHaveLocals
unfolding loaded_world
runs_have_locals program limit events fits loads = told program (run_from (loaded_world program limit) events) (run_keeps_names (loaded_world program limit) events).0
    (run_keeps (locals_law program) program limit events fits loads (locals_kept program fits loads) (nothing_of (first_objects program)))
