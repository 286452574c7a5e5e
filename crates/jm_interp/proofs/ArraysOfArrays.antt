-- multianewarray: what its row comes to, where the machine stands.
use Rattle.std.proofs.Common.{◌≡◌, ℕ, zero, suc, ◌+◌, ◌-◌, ◌<◌, ◌≤◌, List, [], ◌∷◌, ◌++◌, Option, Some, None, true, false}
use Rattle.std.proofs.Common.{refl, sym, ap, ◌∙◌, subst, length, drop, get_or, reverse, append_assoc, arith}
use Rattle.std.proofs.lemmas.List.{append-nil, reverse-append}
use Rattle.std.specs.Prelude.{Result, Ok, Err, ℤ, map, nat_le, nat_lt, slice_get, slice_index_or, ◌&&◌}
use Rattle.std.proofs.Math.Path.{fun_ext}
use Rattle.std.proofs.lemmas.Bool.Decides.{nat_tests}
use Rattle.jm_program.specs.Instructions.{instr_fits, type_op_fits}
use Rattle.jm_program.specs.References.{class_ref_fits}
use Rattle.jm_program.specs.declared.class.ClassParts.{ClassParts}
use Rattle.jm_program.specs.declared.descriptor.BaseType.TheVariants as base
use Rattle.jm_program.specs.declared.descriptor.FieldType.{FieldType}
use Rattle.jm_program.specs.declared.instruction.operation.TypeOp.TheVariants.{NewArrays}
use Rattle.jm_program.specs.declared.reference.ClassRef.{ClassRef}
use Rattle.jm_program.specs.declared.reference.ClassRef.TheVariants as class_ref
use Rattle.jm_program.proofs.Truths.{both_true as both}
use Rattle.jm_builtins.specs.Numbers as built_in
use Rattle.jm_builtins.specs.declared.built_in_class.BuiltInClass.TheVariants.{NegativeArraySizeException}
use Rattle.jm_values.specs.Activation.{units}
use Rattle.jm_values.specs.ArraysOfArrays.{tree}
use Rattle.jm_values.specs.Content.{Content, name_of}
use Rattle.jm_values.specs.Objects.{default_of}
use Rattle.jm_values.specs.Rename.{rename}
use Rattle.jm_values.specs.declared.value.Value.{Value}
use Rattle.jm_values.specs.declared.value.Value.TheVariants.{Int, Long, Null, Ref}
use Rattle.jm_values.proofs.ArraysOfArrays.{retyped_dimension, tree_retyped}
use Rattle.jm_world.specs.ArraysOfArrays.{with_counts, with_lengths, element_type, push_all_new}
use Rattle.jm_world.specs.ArraysOfArrays as model
use Rattle.jm_world.specs.Here.{Here, throws}
use Rattle.jm_world.specs.Matches.{as_named}
use Rattle.jm_world.specs.Next.{Next}
use Rattle.jm_world.specs.Objects.{Object}
use Rattle.jm_world.specs.Stepping.{row, step_thread}
use Rattle.jm_world.specs.Types.{array_of, default_value, type_of_ref}
use Rattle.jm_world.specs.World.{World}
use Rattle.jm_heap.specs.NewObject.{operand_under}
use Rattle.jm_heap.specs.Trees.{component_below, dimensions_of}
use Rattle.jm_heap.specs.declared.class_id.ClassId.{ClassId}
use Rattle.jm_heap.specs.declared.class_id.Element.{Element}
use Rattle.jm_heap.specs.declared.class_id.Element.TheVariants as heap_element
use Rattle.jm_linked.specs.Links.{Links, NamesType}
use Rattle.jm_linked.specs.declared.instruction.LinkedInstr.TheVariants as linked
use Rattle.jm_linked.specs.declared.instruction.LinkedType.{LinkedType}
use Rattle.jm_state.specs.Parts.{element_named, named_type}
use Rattle.jm_state.specs.declared.state.State.{State}
use Rattle.jm_state.specs.declared.thread.Thread as held
use Rattle.jm_interp.specs.declared.at.At.{At}
use Rattle.jm_interp.specs.declared.top_object.Refusal.{Refusal}
use Rattle.jm_interp.specs.declared.top_object.Refusal.TheVariants.{Faults, Throws, OutOfMemory}
use Rattle.jm_interp.specs.ArrayRows.{component_of_type, held_element, length_in}
use Rattle.jm_interp.specs.ArraysOfArrays.{CountsForAll, IsLengthPushed, IsPushed, NegativeOrNoMemory, RefusedAs, and_then, counts_of, lengths_in, longer}
use Rattle.jm_interp.specs.At.{InMethod, StandsOn}
use Rattle.jm_interp.specs.Standing.{InAnyMethod}
use Rattle.jm_interp.specs.TopObject.{int_of, HasRoom, IsRefused, StepIs}
use Rattle.jm_interp.proofs.ArrayRows.{by_index, length_tested, named_element}
use Rattle.jm_interp.proofs.Here.{place, row_is}
use Rattle.jm_interp.proofs.OnThread.{Leads, read}
use Rattle.jm_interp.proofs.OnTop.{by, int_is, int_off, operands, step_is, is_refused, goes_by}
use Rattle.jm_interp.proofs.ReceiverRows.{below_there}
use Rattle.jm_frames.proofs.Units.{dropped}

-- the model's counts are those on top of the stack
drop_one : (d : ℕ) (s : List Value) → drop d (drop 1 s) ≡ drop (suc d) s
drop_one zero s = refl
drop_one (suc d) [] = refl
drop_one (suc d) (v ∷ s) = refl

counts_row : (here : Here) (d : ℕ) (counts : List ℤ) (s : List Value) (go : List ℤ → List Value → Next)
    → with_counts d counts s go ≡ by here (counts_of d counts s) (λ ns. go ns (drop d s))
counts_row here zero counts s go = refl
counts_row here (suc d) counts s go = int_is here s (λ n below. with_counts d (n ∷ counts) below go) ∙ found (int_of (slice_get s 0)) (λ n. counts_row here d (n ∷ counts) (drop 1 s) go)
  where
    found : (x : Result ℤ Refusal) → ((n : ℤ) → with_counts d (n ∷ counts) (drop 1 s) go ≡ by here (counts_of d (n ∷ counts) (drop 1 s)) (λ ns. go ns (drop d (drop 1 s))))
        → by here x (λ n. with_counts d (n ∷ counts) (drop 1 s) go)
        ≡ by here (and_then x (λ n. counts_of d (n ∷ counts) (drop 1 s))) (λ ns. go ns (drop (suc d) s))
    found (Ok n) later =
        later n
        ∙ ap (λ rest. by here (counts_of d (n ∷ counts) (drop 1 s)) (λ ns. go ns rest)) (drop_one d s)
    found (Err r) later = refl

lengths_row : (here : Here) (ns : List ℤ) (go : List ℕ → Next)
    → with_lengths here ns go ≡ by_index (lengths_in ns) go (throws here (built_in.name_of NegativeArraySizeException))
lengths_row here [] go = refl
lengths_row here (n ∷ ns) go = length_tested here n (λ k. with_lengths here ns (λ ks. go (k ∷ ks))) ∙ first (length_in n) (λ k. lengths_row here ns (λ ks. go (k ∷ ks)))
  where
    negative : Next
    negative = throws here (built_in.name_of NegativeArraySizeException)

    rest : (k : ℕ) (ks : Option (List ℕ)) → by_index ks (λ l. go (k ∷ l)) negative ≡ by_index (longer (Some k) ks) go negative
    rest k None = refl
    rest k (Some l) = refl

    first : (x : Option ℕ) → ((k : ℕ) → with_lengths here ns (λ ks. go (k ∷ ks)) ≡ by_index (lengths_in ns) (λ ks. go (k ∷ ks)) negative)
        → by_index x (λ k. with_lengths here ns (λ ks. go (k ∷ ks))) negative ≡ by_index (longer x (lengths_in ns)) go negative
    first None later = refl
    first (Some k) later = later k ∙ rest k (lengths_in ns)

-- they are the same by other names of references
counts_named : (f : ℕ → ℕ) (d : ℕ) (counts : List ℤ) (s : List Value) → counts_of d counts (map (rename f) s) ≡ counts_of d counts s
counts_named f zero counts s = refl
counts_named f (suc d) counts [] = refl
counts_named f (suc d) counts (Int n ∷ s) = counts_named f d (n ∷ counts) s
counts_named f (suc d) counts (Long n ∷ s) = refl
counts_named f (suc d) counts (Null ∷ s) = refl
counts_named f (suc d) counts (Ref p ∷ s) = refl

add_one : (n : ℕ) → n + 1 ≡ suc n
add_one n = omega arith

module _ (most depth left : ℕ) (items : List ℤ) (s : List Value) (all : depth + left ≡ most) (more : depth < most)
    (so : counts_of most [] s ≡ counts_of left (reverse items) (drop depth s)) where
  abbrev next_int : Result ℤ Refusal → ℕ → Result (List ℤ) Refusal
  next_int x l = and_then x (λ n. counts_of l (n ∷ reverse items) (drop 1 (drop depth s)))

  with_next : (l : ℕ) → left ≡ suc l → counts_of most [] s ≡ next_int (int_of (slice_get s depth)) l
  with_next l is =
      so
      ∙ ap (λ n. counts_of n (reverse items) (drop depth s)) is
      ∙ ap (λ x. next_int (int_of x) l) (below_there depth s)

  its_left : (l : ℕ) × (left ≡ suc l)
  its_left = by left refl
    where
      by : (n : ℕ) → left ≡ n → (l : ℕ) × (left ≡ suc l)
      by zero none = absurd (omega (arith, all, more, none))
      by (suc l) is = (l, is)

  pub counts_refuse : (r : Refusal) → RefusedAs (int_of (slice_get s depth)) r → RefusedAs (counts_of most [] s) r
  counts_refuse (Faults fault) is = with_next its_left.0 its_left.1 ∙ ap (λ x. next_int x its_left.0) is
  counts_refuse (Throws class) is = with_next its_left.0 its_left.1 ∙ ap (λ x. next_int x its_left.0) is
  counts_refuse OutOfMemory is = tt

  pub counts_more : (new : List ℤ) → IsPushed items new (int_of (slice_get s depth))
      → (l : ℕ) × (depth + 1 + l ≡ most) × (counts_of most [] s ≡ counts_of l (reverse new) (drop (depth + 1) s))
  counts_more new pushed = by (int_of (slice_get s depth)) refl pushed
    where
      by : (x : Result ℤ Refusal) → int_of (slice_get s depth) ≡ x → IsPushed items new x
          → (l : ℕ) × (depth + 1 + l ≡ most) × (counts_of most [] s ≡ counts_of l (reverse new) (drop (depth + 1) s))
      by (Err r) e none = absurd none
      by (Ok n) e put =
          let l = its_left in (
            l.0,
            omega (arith, all, l.1),
            with_next l.0 l.1
                ∙ ap (λ x. next_int x l.0) e
                ∙ ap (λ z. counts_of l.0 (n ∷ reverse items) z) (dropped depth s)
                ∙ ap (λ k. counts_of l.0 (n ∷ reverse items) (drop k s)) (sym (add_one depth))
                ∙ ap (λ z. counts_of l.0 z (drop (depth + 1) s)) (sym (reverse-append items (n ∷ [])) ∙ ap reverse (sym put)),
          )

pub counts_whole : (most depth left : ℕ) (items reversed : List ℤ) (s : List Value) → depth + left ≡ most → most ≤ depth
    → counts_of most [] s ≡ counts_of left (reverse items) (drop depth s) → reversed ≡ reverse items → counts_of most [] s ≡ Ok reversed
counts_whole most depth zero items reversed s all last so is = so ∙ ap Ok (sym is)
counts_whole most depth (suc left) items reversed s all last so is = absurd (omega (arith, all, last))

-- each is an operand, of one unit
counts_many : (d : ℕ) (counts : List ℤ) (s : List Value) (ns : List ℤ) → counts_of d counts s ≡ Ok ns
    → (length ns ≡ length counts + d) × (units (drop d s) + d ≡ units s)
counts_many zero counts s ns is = let same : counts ≡ ns = cc in (ap length (sym same) ∙ omega arith, omega arith)
counts_many (suc d) counts s ns is = found (int_of (slice_get s 0)) refl is (λ n. counts_many d (n ∷ counts) (drop 1 s) ns)
  where
    found : (x : Result ℤ Refusal) → int_of (slice_get s 0) ≡ x → and_then x (λ n. counts_of d (n ∷ counts) (drop 1 s)) ≡ Ok ns
        → ((n : ℤ) → counts_of d (n ∷ counts) (drop 1 s) ≡ Ok ns → (length ns ≡ suc (length counts) + d) × (units (drop d (drop 1 s)) + d ≡ units (drop 1 s)))
        → (length ns ≡ length counts + suc d) × (units (drop (suc d) s) + suc d ≡ units s)
    found (Err r) one rest later = cc
    found (Ok n) one rest later =
        let more = later n rest in
        let off = int_off 0 s one in
        let same : units (drop d (drop 1 s)) ≡ units (drop (suc d) s) = ap units (drop_one d s) in
        (omega (arith, more.0), omega (arith, more.1, off, same))

lengths_many : (ns : List ℤ) (ks : List ℕ) → lengths_in ns ≡ Some ks → length ks ≡ length ns
lengths_many [] ks is = let same : [] ≡ ks = cc in ap length (sym same)
lengths_many (n ∷ ns) ks is = found (length_in n) (lengths_in ns) refl is (lengths_many ns)
  where
    found : (x : Option ℕ) (rest : Option (List ℕ)) → lengths_in ns ≡ rest → longer x rest ≡ Some ks → ((l : List ℕ) → lengths_in ns ≡ Some l → length l ≡ length ns)
        → length ks ≡ suc (length ns)
    found None rest r e later = cc
    found (Some k) None r e later = cc
    found (Some k) (Some l) r e later = let same : k ∷ l ≡ ks = cc in ap length (sym same) ∙ ap suc (later l r)

-- what the code found of the thread that was read
module _ {H : Type 0} {content : H → Content ClassId} {at : At} {old : State H} {d : held.Thread} (got : d ≡ slice_index_or old.threads.items at.index d) where
  pub counts_found : (h : InMethod content at old) (P : List Value → Type 0) → InAnyMethod d (λ f below r. P f.activation.stack) → P h.frame.activation.stack
  counts_found h P is = is h.frame h.below _ (read h.on got)

  -- one reference is in the place of the counts
  pub room_for_all : {n : ℕ} {ns : List ℤ} → InAnyMethod d (λ f below r. counts_of n [] f.activation.stack ≡ Ok ns)
      → InAnyMethod d (λ f below r. 0 < n → units f.activation.stack ≤ f.activation.max_stack) → 0 < n → HasRoom content at old n Null
  room_for_all {n} {ns} is fits some h =
      let off = (counts_many n [] h.frame.activation.stack ns (is h.frame h.below _ (read h.on got))).1 in
      let fit = fits h.frame h.below _ (read h.on got) some in
      omega (arith, off, fit, some)

dimensions_fit : (class : ClassRef) (d : ℕ) → type_op_fits (NewArrays d) class ≡ true → (0 < d) × (d ≤ (type_of_ref class).dimensions)
dimensions_fit (class_ref.Class name) d e = let no = (both (class_ref_fits (class_ref.Class name)) false e).1 in cc
dimensions_fit (class_ref.Array t) d e =
    let tests = both (nat_lt 0 d) (nat_le d t.dimensions) (both (class_ref_fits (class_ref.Array t)) (nat_lt 0 d && nat_le d t.dimensions) e).1 in
    let low = tests.0 in let high = tests.1 in
    (grind (arith, nat_tests), grind (arith, nat_tests))

-- lengths behind others
abbrev pub behind : List ℕ → Option (List ℕ) → Option (List ℕ)
behind ks None = None
behind ks (Some rest) = Some (ks ++ rest)

pub behind_none : (x : Option (List ℕ)) → behind [] x ≡ x
behind_none None = refl
behind_none (Some l) = refl

drop_next : (i : ℕ) (ns : List ℤ) (d : ℤ) → i < length ns → drop i ns ≡ get_or ns i d ∷ drop (suc i) ns
drop_next i [] d l = absurd (omega (arith, l))
drop_next zero (n ∷ ns) d l = refl
drop_next (suc i) (n ∷ ns) d l = drop_next i ns d (omega (arith, l))

drop_at : (i : ℕ) (ns : List ℤ) (d : ℤ) → i < length ns → drop i ns ≡ get_or ns i d ∷ drop (i + 1) ns
drop_at i ns d l = drop_next i ns d l ∙ ap (λ k. get_or ns i d ∷ drop k ns) (sym (add_one i))

module _ (ns : List ℤ) (items : List ℕ) (i : ℕ) (n d : ℤ) (within : i < length ns) (read : n ≡ get_or ns i d)
    (so : lengths_in ns ≡ behind items (lengths_in (drop i ns))) where
  with_its : lengths_in ns ≡ behind items (longer (length_in n) (lengths_in (drop (i + 1) ns)))
  with_its =
      so
      ∙ ap (λ l. behind items (lengths_in l)) (drop_at i ns d within)
      ∙ ap (λ m. behind items (longer (length_in m) (lengths_in (drop (i + 1) ns)))) (sym read)

  pub lengths_refuse : (r : Refusal) → NegativeOrNoMemory (length_in n) r → NegativeOrNoMemory (lengths_in ns) r
  lengths_refuse (Faults fault) is = absurd is
  lengths_refuse (Throws class) is = (is.0, with_its ∙ ap (λ x. behind items (longer x (lengths_in (drop (i + 1) ns)))) is.1)
  lengths_refuse OutOfMemory is = tt

  pub lengths_more : (new : List ℕ) → IsLengthPushed items new (length_in n) → lengths_in ns ≡ behind new (lengths_in (drop (i + 1) ns))
  lengths_more new pushed = by (length_in n) refl pushed
    where
      moved : (k : ℕ) (x : Option (List ℕ)) → behind items (longer (Some k) x) ≡ behind (items ++ k ∷ []) x
      moved k None = refl
      moved k (Some l) = ap Some (sym (append_assoc items (k ∷ []) l))

      by : (x : Option ℕ) → length_in n ≡ x → IsLengthPushed items new x → lengths_in ns ≡ behind new (lengths_in (drop (i + 1) ns))
      by None e none = absurd none
      by (Some k) e put =
          with_its
          ∙ ap (λ x. behind items (longer x (lengths_in (drop (i + 1) ns)))) e
          ∙ moved k (lengths_in (drop (i + 1) ns))
          ∙ ap (λ l. behind l (lengths_in (drop (i + 1) ns))) (sym put)

drop_past : (ns : List ℤ) (i : ℕ) → length ns ≤ i → drop i ns ≡ []
drop_past [] zero l = refl
drop_past [] (suc i) l = refl
drop_past (n ∷ ns) zero l = absurd (omega (arith, l))
drop_past (n ∷ ns) (suc i) l = drop_past ns i (omega (arith, l))

pub lengths_whole : (ns : List ℤ) (items : List ℕ) (i : ℕ) → length ns ≤ i → lengths_in ns ≡ behind items (lengths_in (drop i ns)) → lengths_in ns ≡ Some items
lengths_whole ns items i last so = so ∙ ap (λ l. behind items (lengths_in l)) (drop_past ns i last) ∙ ap Some (append-nil items)

-- the row
module _ {H : Type 0} {content : H → Content ClassId} {at : At} {old : State H} {array : LinkedType} {d : ℕ}
    (h : StandsOn content at old (Links at.linked.now (linked.Type (NewArrays d) array))) where
  -- there are dimensions, as many as the type has or fewer
  pub has_some : (0 < d) × (d ≤ (type_of_ref h.is.0).dimensions)
  has_some = dimensions_fit h.is.0 d (subst (λ i. instr_fits h.count i ≡ true) h.is.1 h.fits)

  abbrev makes_all : World → List ℕ → Next
  makes_all w ks = push_all_new (place h.method w) (tree (model.dimensions_of (type_of_ref h.is.0) ks) (length w.heap)) (drop d (operands h.method))

  abbrev with_all : World → List ℤ → Next
  with_all w ns = with_lengths (place h.method w) ns (makes_all w)

  its_row : Leads h.method.on step_thread (λ w. by (place h.method w) (counts_of d [] (operands h.method)) (with_all w))
  its_row w m =
      row_is h w m
      ∙ ap (row (place h.method w)) h.is.1
      ∙ counts_row (place h.method w) d [] (operands h.method)
      (λ ns s. with_lengths (place h.method w) ns
      (λ ks. push_all_new (place h.method w) (tree (model.dimensions_of (type_of_ref h.is.0) ks) (length w.heap)) s))

  there : {r : Result (List ℤ) Refusal} → counts_of d [] h.method.frame.activation.stack ≡ r → counts_of d [] (operands h.method) ≡ r
  there e = counts_named (name_of (content old.heap)) d [] h.method.frame.activation.stack ∙ e

  pub counts_refused : (r : Refusal) → RefusedAs (counts_of d [] h.method.frame.activation.stack) r → IsRefused content at old r
  counts_refused (Faults fault) e = is_refused h.method (Faults fault) (goes_by h.method with_all its_row (there e))
  counts_refused (Throws class) e = is_refused h.method (Throws class) (goes_by h.method with_all its_row (there e))
  counts_refused OutOfMemory e = tt

  module _ {ns : List ℤ} (e : counts_of d [] h.method.frame.activation.stack ≡ Ok ns) where
    found_row : Leads h.method.on step_thread (λ w. by_index (lengths_in ns) (makes_all w) (throws (place h.method w) (built_in.name_of NegativeArraySizeException)))
    found_row w m = goes_by h.method with_all its_row (there e) w m ∙ lengths_row (place h.method w) ns (makes_all w)

    pub lengths_refused : (r : Refusal) → NegativeOrNoMemory (lengths_in ns) r → IsRefused content at old r
    lengths_refused (Faults fault) is = absurd is
    lengths_refused (Throws class) is = subst (λ c. IsRefused content at old (Throws c)) (sym is.0)
        (step_is h.method (λ here. throws here (built_in.name_of NegativeArraySizeException))
        (λ w m. found_row w m ∙ ap (λ x. by_index x (makes_all w) (throws (place h.method w) (built_in.name_of NegativeArraySizeException))) is.1))
    lengths_refused OutOfMemory is = tt

    pub counts_for_all : {ks : List ℕ} → lengths_in ns ≡ Some ks → HasRoom content at old d Null → CountsForAll content at old (type_of_ref h.is.0) d ks
    counts_for_all {ks} is room = record {
      step = step_is h.method
          (λ here. push_all_new here (tree (model.dimensions_of (type_of_ref h.is.0) ks) (length here.world.heap)) (drop d here.frame.stack))
          (λ w m. found_row w m ∙ ap (λ x. by_index x (makes_all w) (throws (place h.method w) (built_in.name_of NegativeArraySizeException))) is);
      room = room;
      many = lengths_many ns ks is ∙ (counts_many d [] h.method.frame.activation.stack ns e).0 ∙ omega arith;
    }

-- the dimensions by the classes' names
default_alike : (program : List ClassParts) (dimensions : ℕ) (e : Element)
    → default_of (operand_under dimensions e) ≡ default_value (record { dimensions = dimensions; element = element_named program e })
default_alike program zero (heap_element.Base base.Boolean) = refl
default_alike program zero (heap_element.Base base.Byte) = refl
default_alike program zero (heap_element.Base base.Char) = refl
default_alike program zero (heap_element.Base base.Short) = refl
default_alike program zero (heap_element.Base base.Int) = refl
default_alike program zero (heap_element.Base base.Long) = refl
default_alike program zero (heap_element.Base base.Float) = refl
default_alike program zero (heap_element.Base base.Double) = refl
default_alike program zero (heap_element.Class c) = refl
default_alike program (suc d) e = refl

dimensions_named : (program : List ClassParts) (ns : List ℕ) (dimensions : ℕ) (e : Element) (t : FieldType)
    → element_type t ≡ record { dimensions = dimensions; element = element_named program e }
    → map (retyped_dimension (named_type program)) (dimensions_of (record { dimensions = dimensions; element = e }) ns) ≡ model.dimensions_of t ns
unfolding named_type
dimensions_named program [] dimensions e t is = refl
dimensions_named program (n ∷ ns) dimensions e t is =
    ap (λ v. record { type = array_of (record { dimensions = dimensions; element = element_named program e }); count = n; element = v }
    ∷ map (retyped_dimension (named_type program)) (dimensions_of (record { dimensions = dimensions - 1; element = e }) ns)) (default_alike program dimensions e)
    ∙ ap (λ l. record { type = array_of own; count = n; element = default_value own } ∷ l) (dimensions_named program ns (dimensions - 1) e own refl)
    ∙ ap (λ x. record { type = array_of x; count = n; element = default_value x } ∷ model.dimensions_of x ns) (sym is)
  where
    own : FieldType
    own = record { dimensions = dimensions; element = element_named program e }

pub tree_named : (program : List ClassParts) (array : LinkedType) (t : FieldType) (ns : List ℕ) (k : ℕ) → NamesType program array t
    → map (as_named (named_type program)) (tree (dimensions_of (component_below (component_of_type array)) ns) k) ≡ tree (model.dimensions_of t ns) k
tree_named program array t ns k named =
    tree_retyped (named_type program) (dimensions_of (component_below (component_of_type array)) ns) k
    ∙ ap (λ ds. tree ds k) (dimensions_named program ns (array.dimensions - 1) (held_element array.element) t
    (ap (λ x. record { dimensions = x - 1; element = t.element }) named.dimensions
    ∙ ap (λ x. record { dimensions = array.dimensions - 1; element = x }) (sym (named_element program array.element t.element named.element))))

pub all_named : {H : Type 0} (content : H → Content ClassId) (at : At) (old : State H) (made other : ℕ → List Object) (d : ℕ) → ((k : ℕ) → made k ≡ other k)
    → StepIs content at old (λ here. push_all_new here (other (length here.world.heap)) (drop d here.frame.stack))
    → StepIs content at old (λ here. push_all_new here (made (length here.world.heap)) (drop d here.frame.stack))
all_named content at old made other d same step =
    subst (λ (g : ℕ → List Object). StepIs content at old (λ here. push_all_new here (g (length here.world.heap)) (drop d here.frame.stack))) (sym (fun_ext same)) step
