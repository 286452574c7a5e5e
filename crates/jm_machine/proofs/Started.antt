-- The state from which a run begins is that of the loaded world.
use Rattle.std.proofs.Common.{◌≡◌, ℕ, zero, suc, ◌+◌, ◌-◌, List, [], ◌∷◌, ◌++◌, Some, None, true, false, refl, sym, ap, ◌∙◌, subst, length}
use Rattle.std.proofs.Common.{replicate, arith}
use Rattle.std.specs.Prelude.{map, slice_get, reverse, ◌||◌}
use Rattle.std.proofs.lemmas.List.{length-replicate}
use Rattle.std.proofs.lemmas.Option.{slice_get_within}
use Rattle.jm_program.specs.declared.class.ClassParts.{ClassParts}
use Rattle.jm_program.specs.declared.class.Method.{Method}
use Rattle.jm_values.specs.Shape.{list_shape}
use Rattle.jm_values.specs.Rename.{locals_shape, rename_activation}
use Rattle.jm_values.specs.declared.value.Value.TheVariants.{Ref}
use Rattle.jm_world.specs.BuiltInMethods.{is_object_of}
use Rattle.jm_world.specs.Classes.{name_of_method, MethodName, method_named}
use Rattle.jm_world.specs.Frames.{Frame, method_frame, initialization_frame, rename_frame}
use Rattle.jm_world.specs.World.{running, is_running, refs_thread}
use Rattle.jm_values.specs.Content.{Content, AllResident, name_of}
use Rattle.jm_world.specs.Renaming.{static_shape, literal_shape, rename_thread}
use Rattle.jm_world.specs.Invocation.{padded, unset, locals_of, activation_of}
use Rattle.jm_world.specs.Loading.{loaded_world, literal_texts, first_statics, first_thread, first_frames as model_frames, main_in}
use Rattle.jm_world.specs.Matches.{Matches, places}
use Rattle.jm_world.specs.declared.class_state.ClassState.{ClassState}
use Rattle.jm_world.specs.declared.class_state.ClassState.TheVariants.{NotBegun}
use Rattle.jm_world.specs.declared.stage.Stage.TheVariants.{Begin}
use Rattle.jm_world.proofs.LoadsWellFormed.{runs_are_well_formed}
use Rattle.jm_heap.specs.declared.class_id.ClassId.{ClassId}
use Rattle.jm_linked.specs.Links.{LinkedView, IsLinked, MethodLinks, name_of_number, name_among, name_in_class, member_name}
use Rattle.jm_linked.specs.declared.method.LinkedMethod.{LinkedMethod}
use Rattle.jm_linked.specs.Named.{named_statics, named_literals, named_states}
use Rattle.jm_state.specs.Parts.{parts, thread_part, part_of_held, program_class_name, name_in_program, ending_part, frame_part}
use Rattle.jm_state.specs.Places.{held_thread}
use Rattle.jm_state.specs.View.{StateView}
use Rattle.jm_state.specs.Runnable.{IsRunnable, ThreadRuns}
use Rattle.jm_state.specs.declared.thread.Thread as held
use Rattle.jm_state.specs.declared.thread.Ending.TheVariants.{Running}
use Rattle.jm_machine.specs.Start.{first_frames}
use Rattle.jm_machine.proofs.Literals.{HasFirst, literals_refs, literals_are, all_there, next_is, objects_are, array_named, out_named}
use Rattle.jm_machine.proofs.MainMethod.{main_is}
use Rattle.jm_machine.proofs.StaticFields.{first_named, first_refs, first_length}
use Rattle.jm_machine.specs.StaticFields.{static_values}
use Rattle.jm_interp.proofs.Called.{unset_renamed}

-- local variables that are not set have no references
unset_refs : (n : ℕ) → locals_shape.refs (unset n) ≡ []
unset_refs zero = refl
unset_refs (suc n) = unset_refs n

-- the classes are not begun
states_are : (program : List ClassParts)
    → named_states program (replicate (length program) NotBegun) ≡ map (λ c. record { class = c.name; state = NotBegun }) program
states_are [] = refl
states_are (c ∷ cs) = ap (λ ps. record { class = c.name; state = NotBegun } ∷ ps) (states_are cs)

module _ (l : LinkedView) (linked : IsLinked l) where
  links : MethodLinks l linked.main
  links = linked.methods l.main linked.main linked.main_is

  names_agree : name_of_method (record { class = links.class; method = links.method }) ≡ name_of_method linked.found
  names_agree = sym (ap (λ o. name_in_class o linked.main.member) links.class_is ∙ ap (member_name links.class) links.method_is) ∙ linked.main_name

  code_found : linked.found.method.code ≡ Some links.code
  code_found =
      let named = subst (λ n. method_named l.program n ≡ Some links.method) names_agree links.named in
      ap (λ (x : Method). x.code) (main_is l.program linked.found links.method linked.found_is named) ∙ links.code_is

  number_named : name_of_number l l.main ≡ name_of_method linked.found
  unfolding name_of_number
  number_named = ap (name_among l.program) linked.main_is ∙ linked.main_name

  class_named_is : program_class_name l.program linked.main.class ≡ linked.found.class.name
  unfolding program_class_name
  class_named_is = ap name_in_program links.class_is ∙ ap (λ (n : MethodName). n.class) names_agree

  -- the first thread's frames, with references under other names
  activation_is : (f : ℕ → ℕ) (array : ℕ) → f array ≡ 1
      → rename_activation f (record {
        at = 0;
        max_stack = linked.main.max_stack;
        locals = padded linked.main.max_locals (locals_of (Ref array ∷ []));
        stack = [];
      })
      ≡ activation_of links.code (Ref 1 ∷ [])
  activation_is f array e =
      let rest : locals_shape.rename f (unset (linked.main.max_locals - 1)) ≡ unset (links.code.max_locals - 1) =
      unset_renamed f (linked.main.max_locals - 1) ∙ ap (λ n. unset (n - 1)) links.max_locals in
      λ i. record { at = 0; max_stack = links.max_stack i; locals = Some (Ref (e i)) ∷ rest i; stack = [] }

  model_frames_are : model_frames linked.found
      ≡ initialization_frame linked.found.class.name Begin ∷ method_frame (name_of_method linked.found) (activation_of links.code (Ref 1 ∷ [])) None ∷ []
  model_frames_are = ap (λ o. elim o as (λ v. List Frame) [
    | None ↦ []
    | Some code ↦ initialization_frame linked.found.class.name Begin ∷ method_frame (name_of_method linked.found) (activation_of code (Ref 1 ∷ [])) None ∷ []
  ]) code_found

  frames_are : (f : ℕ → ℕ) (array : ℕ) → f array ≡ 1
      → map (rename_frame f) (map (frame_part l) (reverse (first_frames l.main linked.main array))) ≡ model_frames linked.found
  frames_are f array e =
      (λ i. initialization_frame (class_named_is i) Begin ∷ method_frame (number_named i) (activation_is f array e i) None ∷ []) ∙ sym model_frames_are

-- the state from which a run begins
abbrev pub first_view : List ClassParts → ℕ → held.Thread → List ClassState → List ℕ → StateView
first_view program out t states strings = record {
  threads = t ∷ [];
  started = [];
  live = 1;
  statics = Ref out ∷ static_values program;
  classes = states;
  literals = strings;
  monitors = [];
  output = [];
  stop = None;
}

-- main's thread, with these frames and nothing else
pub record IsFirst (l : LinkedView) (t : held.Thread) (array : ℕ) : Type 0 where
  pub object : t.object ≡ None
  pub serial : t.serial ≡ None
  pub frames : (m : LinkedMethod) → slice_get l.methods l.main ≡ Some m → t.frames.items ≡ first_frames l.main m array
  pub pending : t.pending ≡ None
  pub ending : t.ending ≡ Running

module _ (l : LinkedView) (i : IsLinked l) (out array : ℕ) (t : held.Thread) (h : IsFirst l t array)
    (strings : List ℕ) (count : length strings ≡ length (literal_texts l.program)) where
  first_held : held_thread t ≡ record { object = None; serial = None; frames = reverse (first_frames l.main i.main array); pending = None; ending = Running }
  first_held =
      λ j. record { object = h.object j; serial = h.serial j; frames = reverse (h.frames i.main i.main_is j); pending = h.pending j; ending = h.ending j }

  thread_is : (f : ℕ → ℕ) → f array ≡ 1 → rename_thread f (thread_part l t) ≡ first_thread (main_in l.program)
  thread_is f e =
      ap (λ x. rename_thread f (part_of_held l x)) first_held
      ∙ ap (λ (fs : List Frame). record { object = None; frames = fs; pending = None; ending = running }) (frames_are l i f array e)
      ∙ ap first_thread (sym i.found_is)

  thread_refs : refs_thread (thread_part l t) ≡ array ∷ []
  thread_refs = ap (λ x. refs_thread (part_of_held l x)) first_held ∙ rw (unset_refs (i.main.max_locals - 1)) refl

  places_are : (c : Content ClassId) (states : List ClassState) → places (parts l c (first_view l.program out t states strings)) ≡ array ∷ out ∷ strings
  unfolding parts
  places_are c states =
      ap (λ xs. ((xs ++ []) ++ (list_shape static_shape).refs (named_statics (first_statics l.program) (Ref out ∷ static_values l.program)))
      ++ [] ++ (list_shape literal_shape).refs (named_literals (literal_texts l.program) strings)) thread_refs
      ∙ ap (λ xs. ((array ∷ []) ++ xs) ++ [] ++ (list_shape literal_shape).refs (named_literals (literal_texts l.program) strings)) (first_refs l.program out)
      ∙ ap (λ xs. ((array ∷ []) ++ (out ∷ [])) ++ [] ++ xs) (literals_refs (literal_texts l.program) strings count)

  -- it is that of the loaded world
  started : (limit : ℕ) (c : Content ClassId) (states : List ClassState) → HasFirst c (literal_texts l.program) out array strings
      → c.limit ≡ limit → states ≡ replicate (length l.program) NotBegun
      → Matches (parts l c (first_view l.program out t states strings)) (loaded_world l.program limit)
  unfolding parts loaded_world
  started limit c states first limit_is states_is = record {
    sound = first.holds.sound;
    resident = subst (AllResident c) (sym (places_are c states)) (all_there c (literal_texts l.program) out array strings first);
    limit = limit_is;
    next = next_is l.program c out array strings first;
    bound = (runs_are_well_formed l.program limit []).1;
    objects = λ k r. objects_are l.program c out array strings first k;
    threads = ap (λ x. x ∷ []) (thread_is (name_of c) (array_named c (literal_texts l.program) out array strings first));
    statics = first_named l.program out (name_of c) (out_named c (literal_texts l.program) out array strings first);
    monitors = refl;
    monitor_serials = refl;
    thread_serials = ap (λ o. o ∷ []) h.serial;
    literals = literals_are c (literal_texts l.program) out array strings first;
    program = refl;
    classes = ap (named_states l.program) states_is ∙ states_are l.program;
    output = refl;
    stop = refl;
  }

  -- and it keeps to what every state of a run keeps to
  starts : (states : List ClassState) → states ≡ replicate (length l.program) NotBegun → IsRunnable l (first_view l.program out t states strings)
  starts states states_is = record {
    threads = (
      subst (ThreadRuns l) (sym first_held) (record {
        frames = (slice_get_within l.program i.main.class _ (links l i).class_is, (slice_get_within l.methods l.main i.main i.main_is, tt));
        few = omega arith;
      }),
      tt,
    );
    live = ap (λ e. elim (is_running (ending_part l.program e)) as (λ v. ℕ) [ true ↦ 0 + 1 | false ↦ 0 ]) (sym h.ending);
    statics = first_length l.program out;
    literals = count;
    classes = ap length states_is ∙ length-replicate (length l.program) NotBegun;
    started = λ k. ap (λ o. is_object_of k o || false) (sym h.serial);
  }

  -- so the state does that is seen so
  pub begun : (limit : ℕ) (c : Content ClassId) (states : List ClassState) → HasFirst c (literal_texts l.program) out array strings
      → c.limit ≡ limit → states ≡ replicate (length l.program) NotBegun → (v : StateView) → v ≡ first_view l.program out t states strings
      → Matches (parts l c v) (loaded_world l.program limit) × IsRunnable l v
  begun limit c states first limit_is states_is v same = (
    subst (λ x. Matches (parts l c x) (loaded_world l.program limit)) (sym same) (started limit c states first limit_is states_is),
    subst (IsRunnable l) (sym same) (starts states states_is),
  )

-- as many states as classes
pub counted : (classes program : List ClassParts) (states : List ClassState) → states ≡ replicate (length classes) NotBegun → classes ≡ program
    → states ≡ replicate (length program) NotBegun
counted classes program states s e = s ∙ ap (λ cs. replicate (length cs) NotBegun) e
