-- The words that rows are written in, in two worlds beside one another.
use Rattle.std.proofs.Common.{◌≡◌, ℕ, zero, suc, ◌+◌, ◌^◌, ◌<◌, ◌≤◌, List, [], ◌∷◌, ◌++◌, Option, Some, None, Bool, true, false, refl, length, drop, ap, ◌∙◌, arith, inl, inr, ℤ}
use Rattle.std.specs.Prelude.{◌-◌, slice_get, slice_set, map, nat_eq, nat_lt, nat_le, codes}
use Rattle.std.specs.List.{AllByRecursion, sum_by}
use Rattle.std.proofs.lemmas.Bool.{ltb-true, leb-true}
use Rattle.jm_program.specs.Descriptors.{slots}
use Rattle.jm_program.specs.declared.class.ClassParts.{ClassParts}
use Rattle.jm_program.specs.declared.descriptor.FieldType.{FieldType}
use Rattle.jm_program.specs.declared.instruction.operation.OperandType.{OperandType}
use Rattle.jm_program.specs.declared.instruction.operation.OperandType.TheVariants as operand
use Rattle.jm_values.specs.Activation.{Activation, units, category}
use Rattle.jm_values.specs.Objects.{copies, default_of}
use Rattle.jm_values.specs.Steps.{is_of}
use Rattle.jm_values.specs.declared.value.Value.{Value}
use Rattle.jm_values.specs.declared.value.Value.TheVariants.{Int, Long, Null, Ref}
use Rattle.jm_values.specs.declared.fault.TagFault.TheVariants.{WrongKind}
use Rattle.jm_world.specs.Types.{operand_of, default_value, narrow}
use Rattle.jm_world.specs.Objects.{Object, size, cells_of_all, instance_fields, new_instance, new_array}
use Rattle.jm_world.specs.Frames.{Frame, method_frame}
use Rattle.jm_world.specs.World.{World, Thread, Monitor, with_thread, state_of, reach_cells}
use Rattle.jm_world.specs.Next.{Next, goes, faults, make, numbers_from, with_objects, make_all, exception, throw}
use Rattle.jm_world.specs.Here.{with_frames, with_room, go_on_in, throws, push, push_new, with_operand, with_int, with_reference, with_arguments, with_object, with_depth, push_frame, is_ready, all_frames, when_initialized}
use Rattle.jm_world.specs.Invocation.{locals_of}
use Rattle.jm_world.specs.Monitors.{monitor_in, recounted, without_monitor, entered, enter, enter_if, left_in, leave, leave_if}
use Rattle.jm_world.specs.ArraysOfArrays.{first_made, push_all_new}
use Rattle.jm_world.proofs.Fitting.{grown, with_monitors}
use Rattle.jm_world.specs.SideBySide.{Values, ints, longs, nulls, refs, Lists, none, more, Options, neither, both, Objects, objects, Acts, acts, Frames, methods, initializations, entries, Held, held}
use Rattle.jm_world.specs.TwoWorlds.{Two, left, right}
use Rattle.jm_world.proofs.WhatComes.{Alike, IsNew, Grown, AreNew, Place, Stands, Locks, stay, again, left_one, left_last, for_monitor, Changes, same, locks, Comes, stopped, blocked, Turned, went, makes, fails, starts, Setting, here, here'}
use Rattle.jm_world.proofs.WhatComes as two
use Rattle.jm_world.proofs.Arguments.{one_more}
use Rattle.jm_world.proofs.Asking.{Asks}
use Rattle.jm_world.proofs.Leaving.{is_thrown, Thrown, by_row, Leaves, as_before, raised}
use Rattle.jm_world.proofs.Turning.{Turn, goes_on, moved, needed, raises}
use Rattle.jm_world.specs.declared.class_state.ClassState.{ClassState}

-- lists
pub lists_long : {A : Type 0} {P : A → A → Type 0} {xs ys : List A} → Lists P xs ys → length xs ≡ length ys
lists_long none = refl
lists_long (more p ps) = ap suc (lists_long ps)

pub got : {A : Type 0} {P : A → A → Type 0} {xs ys : List A} → Lists P xs ys → (i : ℕ) → Options P (slice_get xs i) (slice_get ys i)
got none i = neither
got (more p ps) zero = both p
got (more p ps) (suc i) = got ps i

pub set : {A : Type 0} {P : A → A → Type 0} {xs ys : List A} {x y : A} → Lists P xs ys → (i : ℕ) → P x y → Lists P (slice_set xs i x) (slice_set ys i y)
set none i p = none
set (more q ps) zero p = more p ps
set (more q ps) (suc i) p = more q (set ps i p)

pub joined : {A : Type 0} {P : A → A → Type 0} {xs ys us vs : List A} → Lists P xs ys → Lists P us vs → Lists P (xs ++ us) (ys ++ vs)
joined none qs = qs
joined (more p ps) qs = more p (joined ps qs)

pub lists_to : {A : Type 0} {P Q : A → A → Type 0} → ((x y : A) → P x y → Q x y) → {xs ys : List A} → Lists P xs ys → Lists Q xs ys
lists_to f none = none
lists_to f (more p ps) = more (f _ _ p) (lists_to f ps)

pub option_to : {A : Type 0} {P Q : A → A → Type 0} → ((x y : A) → P x y → Q x y) → {o q : Option A} → Options P o q → Options Q o q
option_to f neither = neither
option_to f (both p) = both (f _ _ p)

-- under a larger relation
module _ (R S : ℕ → ℕ → Type 0) (f : (k j : ℕ) → R k j → S k j) where
  pub value_to : (v u : Value) → Values R v u → Values S v u
  value_to _ _ ints = ints
  value_to _ _ longs = longs
  value_to _ _ nulls = nulls
  value_to _ _ (refs r) = refs (f _ _ r)

  pub act_to : (a b : Activation) → Acts R a b → Acts S a b
  act_to _ _ (acts ls s) = acts (lists_to (λ o p. option_to value_to) ls) (lists_to value_to s)

  pub frame_to : (a b : Frame) → Frames R a b → Frames S a b
  frame_to _ _ (methods a o) = methods (act_to _ _ a) (option_to f o)
  frame_to _ _ initializations = initializations
  frame_to _ _ entries = entries

  pub frames_to : {fs gs : List Frame} → Lists (Frames R) fs gs → Lists (Frames S) fs gs
  frames_to l = lists_to frame_to l

  pub object_to : (o b : Object) → Objects R o b → Objects S o b
  object_to _ _ (objects l) = objects (lists_to value_to l)

-- values
pub category_same : {R : ℕ → ℕ → Type 0} {v u : Value} → Values R v u → category v ≡ category u
category_same ints = refl
category_same longs = refl
category_same nulls = refl
category_same (refs r) = refl

pub units_same : {R : ℕ → ℕ → Type 0} {s r : List Value} → Lists (Values R) s r → units s ≡ units r
units_same none = refl
units_same (more v s) = cc (category_same v, units_same s)

pub type_same : {R : ℕ → ℕ → Type 0} {v u : Value} (type : OperandType) → Values R v u → is_of type v ≡ is_of type u
type_same type ints = refl
type_same type longs = refl
type_same type nulls = refl
type_same operand.Int (refs r) = refl
type_same operand.Long (refs r) = refl
type_same operand.Reference (refs r) = refl

pub narrowed : {R : ℕ → ℕ → Type 0} {v u : Value} (t : FieldType) → Values R v u → Values R (narrow t v) (narrow t u)
narrowed t ints = ints
narrowed t longs = longs
narrowed t nulls = nulls
narrowed t (refs r) = refs r

pub defaults : {R : ℕ → ℕ → Type 0} (t : FieldType) → Values R (default_value t) (default_value t)
defaults {R = R} t = by (operand_of t)
  where
    by : (o : OperandType) → Values R (default_of o) (default_of o)
    by operand.Int = ints
    by operand.Long = longs
    by operand.Reference = nulls

-- operands that are left: all, so many units at most, or some, when one was popped
abbrev pub Rest : (R : ℕ → ℕ → Type 0) → ℕ → List Value → List Value → Type 0
Rest R n s r = Lists (Values R) s r × (units s ≤ n)

abbrev pub Popped : (R : ℕ → ℕ → Type 0) → ℕ → List Value → List Value → Type 0
Popped R n s r = Lists (Values R) s r × (units s + 1 ≤ n)

pub less : {R : ℕ → ℕ → Type 0} (n : ℕ) (s r : List Value) → Popped R n s r → Rest R n s r
less n s r l = (l.0, omega (arith, l.1))

popped : {R : ℕ → ℕ → Type 0} (n : ℕ) (v : Value) (s r : List Value) → Lists (Values R) s r → units (v ∷ s) ≤ n → Popped R n s r
popped n (Int i) s r l b = (l, omega (arith, b))
popped n (Long i) s r l b = (l, omega (arith, b))
popped n Null s r l b = (l, omega (arith, b))
popped n (Ref k) s r l b = (l, omega (arith, b))

-- new objects without references
copied_new : (P : Value → Type 0) (n : ℕ) (v : Value) → P v → AllByRecursion P (copies n v)
copied_new P zero v h = tt
copied_new P (suc n) v h = (h, copied_new P n v h)

mapped_new : {A : Type 0} (P : Value → Type 0) (f : A → Value) (xs : List A) → ((x : A) → P (f x)) → AllByRecursion P (map f xs)
mapped_new P f [] h = tt
mapped_new P f (x ∷ xs) h = (h x, mapped_new P f xs h)

pub array_is_new : (p : Two) (t : FieldType) (n : ℕ) → AreNew p (new_array t n ∷ [])
array_is_new p t n = (copied_new (λ v. Values (IsNew p 1) v v) n (default_value t) (defaults t), tt)

pub instance_is_new : (p : Two) (program : List ClassParts) (class : List ℕ) → AreNew p (new_instance program class ∷ [])
instance_is_new p program class = (mapped_new (λ v. Values (IsNew p 1) v v) (λ f. default_value f.type) (instance_fields program class) (λ f. defaults f.type), tt)

-- what comes of a step in both worlds
module _ (R : ℕ → ℕ → Type 0) (e : Setting R) where
  abbrev pub w : World
  w = left e.worlds

  abbrev pub w' : World
  w' = right e.worlds

  abbrev pub Both : Next → Next → Type 0
  Both = Comes R e.worlds e.number e.thread e.thread'

  pub if_both : (b : Bool) (x y x' y' : Next) → Both x x' → Both y y' → Both (elim b [ true ↦ x | false ↦ y ]) (elim b [ true ↦ x' | false ↦ y' ])
  if_both true x y x' y' f g = f
  if_both false x y x' y' f g = g

  pub if_told : (b : Bool) (x y x' y' : Next) → (b ≡ true → Both x x') → (b ≡ false → Both y y') → Both (elim b [ true ↦ x | false ↦ y ]) (elim b [ true ↦ x' | false ↦ y' ])
  if_told true x y x' y' f g = f refl
  if_told false x y x' y' f g = g refl

  pub if_same : (b b' : Bool) → b ≡ b' → (x y x' y' : Next) → Both x x' → Both y y' → Both (elim b [ true ↦ x | false ↦ y ]) (elim b' [ true ↦ x' | false ↦ y' ])
  if_same true true d x y x' y' f g = f
  if_same false false d x y x' y' f g = g
  if_same true false d x y x' y' f g = cc
  if_same false true d x y x' y' f g = cc

  pub some_told : {A : Type 0} (o : Option A) (x x' : Next) (go go' : A → Next) → Both x x' → ((a : A) → o ≡ Some a → Both (go a) (go' a)) → Both (elim o [ None ↦ x | Some a ↦ go a ]) (elim o [ None ↦ x' | Some a ↦ go' a ])
  some_told None x x' go go' f g = f
  some_told (Some a) x x' go go' f g = g a refl

  pub option_both : {A : Type 0} (P : A → A → Type 0) (o o' : Option A) → Options P o o' → (x x' : Next) (go go' : A → Next) → Both x x' → ((a a' : A) → P a a' → Both (go a) (go' a'))
      → Both (elim o [ None ↦ x | Some a ↦ go a ]) (elim o' [ None ↦ x' | Some a ↦ go' a ])
  option_both P _ _ neither x x' go go' f g = f
  option_both P _ _ (both p) x x' go go' f g = g _ _ p

  pub same_told : (b b' : Bool) → b ≡ b' → (x y x' y' : Next) → (b ≡ true → Both x x') → Both y y' → Both (elim b [ true ↦ x | false ↦ y ]) (elim b' [ true ↦ x' | false ↦ y' ])
  same_told true true d x y x' y' f g = f refl
  same_told false false d x y x' y' f g = g
  same_told true false d x y x' y' f g = cc
  same_told false true d x y x' y' f g = cc

  -- of one option
  pub some_both : {A : Type 0} (o : Option A) (x x' : Next) (go go' : A → Next) → Both x x' → ((a : A) → Both (go a) (go' a)) → Both (elim o [ None ↦ x | Some a ↦ go a ]) (elim o [ None ↦ x' | Some a ↦ go' a ])
  some_both None x x' go go' f g = f
  some_both (Some a) x x' go go' f g = g a

  abbrev pub New : ℕ → ℕ → ℕ → Type 0
  New = Grown R e.worlds

  pub value_old : (c : ℕ) (v u : Value) → Values R v u → Values (New c) v u
  value_old c = value_to R (New c) (λ k j r. inl r)

  pub frames_old : (c : ℕ) {fs gs : List Frame} → Lists (Frames R) fs gs → Lists (Frames (New c)) fs gs
  frames_old c l = frames_to R (New c) (λ k j r. inl r) l

  pub new_number : (c i : ℕ) → i < c → New c (length w.heap + i) (length w'.heap + i)
  new_number c i l = inr (ap (λ n. n + i) e.alike.made, omega arith, omega (arith, l))

  pub new_one : (c : ℕ) → 0 < c → New c (length w.heap) (length w'.heap)
  new_one c l = inr (e.alike.made, omega arith, omega (arith, l))

  pub make_both : (o : Object) (go go' : World → ℕ → Next) → Both (go (grown w o) (length w.heap)) (go' (grown w' o) (length w'.heap)) → Both (make w o go) (make w' o go')
  make_both o go go' g = if_same (nat_lt w.limit (reach_cells w + size o)) _ (ap (λ c. nat_lt w.limit (c + size o)) e.alike.cells) _ _ _ _ stopped
      (if_same (nat_le (2 ^ 63) (length w.heap)) _ (ap (λ n. nat_le (2 ^ 63) n) e.alike.made) _ _ _ _ stopped g)

  pub make_all_both : (os : List Object) (go go' : World → List ℕ → Next) → Both (go (with_objects w os) (numbers_from (length w.heap) os)) (go' (with_objects w' os) (numbers_from (length w'.heap) os)) → Both (make_all w os go) (make_all w' os go')
  make_all_both os go go' g = if_same (nat_lt w.limit (reach_cells w + cells_of_all os)) _ (ap (λ c. nat_lt w.limit (c + cells_of_all os)) e.alike.cells) _ _ _ _ stopped
      (if_same (nat_lt (2 ^ 63) (length w.heap + length os)) _ (ap (λ n. nat_lt (2 ^ 63) (n + length os)) e.alike.made) _ _ _ _ stopped g)

  -- with other frames
  pub framed : (fs gs : List Frame) (c : Option (List ℕ × ClassState)) → Turn w e.number e.thread c (record e.thread { frames = fs }) → Lists (Frames R) fs gs → Turned R e.worlds e.number e.thread e.thread' c (record e.thread { frames = fs }) (record e.thread' { frames = gs })
  framed fs gs c x l = record { object = refl; other = refl; frames = l; pending = e.running.pending; ending = e.running.ending; turn = x }

  pub framed_new : (n : ℕ) (fs gs : List Frame) (c : Option (List ℕ × ClassState)) → Turn w e.number e.thread c (record e.thread { frames = fs }) → Lists (Frames (New n)) fs gs → Turned (New n) e.worlds e.number e.thread e.thread' c (record e.thread { frames = fs }) (record e.thread' { frames = gs })
  framed_new n fs gs c x l = record { object = refl; other = refl; frames = l; pending = option_to (λ k j r. inl r) e.running.pending; ending = e.running.ending; turn = x }

  pub frames_both : (v v' : World) (fs gs : List Frame) (c : Option (List ℕ × ClassState)) → Turn w e.number e.thread c (record e.thread { frames = fs }) → Changes R e.worlds e.number c v v' → Lists (Frames R) fs gs → Both (goes (with_frames v e.number e.thread fs)) (goes (with_frames v' e.number e.thread' gs))
  frames_both v v' fs gs c x h l = went c h (framed fs gs c x l) as_before

  -- with other frames and a new exception
  abbrev thrown : Thread → World → ℕ → Next
  thrown t made k = goes (with_thread made e.number (record t { pending = Some k }))

  pub throw_both : (class : List ℕ) (fs gs : List Frame) → Thrown e.worlds.program class → ((k : ℕ) → Turn w e.number e.thread None (record e.thread { frames = fs; pending = Some k })) → Lists (Frames R) fs gs → Both (throw w e.number (record e.thread { frames = fs }) class) (throw w' e.number (record e.thread' { frames = gs }) class)
  throw_both class fs gs z x l = make_both (exception class) (thrown (record e.thread { frames = fs })) (thrown (record e.thread' { frames = gs })) (makes (exception class ∷ []) (tt, tt)
      (record { object = refl; other = refl; frames = frames_old 1 l; pending = both (new_one 1 (omega arith)); ending = e.running.ending; turn = x (length w.heap) }) (raised class z))

  pub throws_both : (q : Place) (class : List ℕ) → is_thrown class ≡ true → Both (throws (here e q) class) (throws (here' e q) class)
  throws_both q class z = throw_both class e.thread.frames e.thread'.frames (by_row z) raises e.running.frames

  -- the top frame
  pub top : (q : Place) (h : Stands R e q) (at : ℕ) (ls ls' : List (Option Value)) (s s' : List Value) → Lists (Options (Values R)) ls ls' → Lists (Values R) s s'
      → Lists (Frames R) (method_frame q.method (record { at = at; max_stack = q.max_stack; locals = ls; stack = s }) q.monitor ∷ q.below) (method_frame q.method (record { at = at; max_stack = q.max_stack; locals = ls'; stack = s' }) q.monitor' ∷ q.below')
  top q h at ls ls' s s' l r = more (methods (acts l r) h.monitor) h.below

  pub go_on_both : (q : Place) (h : Stands R e q) (v v' : World) (s s' : List Value) → Changes R e.worlds e.number None v v' → Rest R (units q.stack) s s' → Both (go_on_in (here e q) v s) (go_on_in (here' e q) v' s')
  go_on_both q h v v' s s' c r = frames_both v v' _ _ None (goes_on _ h.its (moved s (λ b. omega (arith, b, r.1)) h.stands)) c (top q h (q.at + 1) q.locals q.locals' s s' h.locals r.0)

  pub room_both : (q : Place) (s s' : List Value) (x x' : Next) → Lists (Values R) s s' → (units s ≤ q.max_stack → Both x x') → Both (with_room (here e q) s x) (with_room (here' e q) s' x')
  room_both q s s' x x' r f = same_told (nat_le (units s) q.max_stack) _ (ap (λ n. nat_le n q.max_stack) (units_same r)) _ _ _ _ (λ d. f (leb-true (units s) q.max_stack d)) stopped

  pub push_both : (q : Place) (h : Stands R e q) (v v' : Value) (s s' : List Value) → Values R v v' → Lists (Values R) s s' → Both (push (here e q) v s) (push (here' e q) v' s')
  push_both q h v v' s s' a r = room_both q (v ∷ s) (v' ∷ s') _ _ (more a r)
      (λ d. frames_both w w' _ _ None (goes_on _ h.its (moved (v ∷ s) (λ b. d) h.stands)) same (top q h (q.at + 1) q.locals q.locals' (v ∷ s) (v' ∷ s') h.locals (more a r)))

  -- with new objects and a result
  pub made_both : (q : Place) (h : Stands R e q) (os : List Object) (v v' : Value) (s s' : List Value) → units (v ∷ s) ≤ q.max_stack → AreNew e.worlds os → Leaves w e.thread.pending os e.thread.pending → Values (New (length os)) v v' → Lists (Values R) s s'
      → Both (go_on_in (here e q) (with_objects w os) (v ∷ s)) (go_on_in (here' e q) (with_objects w' os) (v' ∷ s'))
  made_both q h os v v' s s' d n z a r = makes os n (framed_new (length os) _ _ None (goes_on _ h.its (moved (v ∷ s) (λ b. d) h.stands))
      (more (methods (acts (lists_to (λ x y o. option_to (value_old (length os)) o) h.locals) (more a (lists_to (value_old (length os)) r))) (option_to (λ k j i. inl i) h.monitor)) (frames_old (length os) h.below))) z

  pub push_new_both : (q : Place) (h : Stands R e q) (o : Object) (s s' : List Value) → AreNew e.worlds (o ∷ []) → Leaves w e.thread.pending (o ∷ []) e.thread.pending → Lists (Values R) s s' → Both (push_new (here e q) o s) (push_new (here' e q) o s')
  push_new_both q h o s s' n z r = room_both q (Null ∷ s) (Null ∷ s') _ _ (more nulls r) (λ d. make_both o (λ made k. go_on_in (here e q) made (Ref k ∷ s)) (λ made k. go_on_in (here' e q) made (Ref k ∷ s')) (made_both q h (o ∷ []) _ _ s s' d n z (refs (new_one 1 (omega arith))) r))

  pub push_all_new_both : (q : Place) (h : Stands R e q) (os : List Object) (s s' : List Value) → AreNew e.worlds os → Leaves w e.thread.pending os e.thread.pending → Lists (Values R) s s' → Both (push_all_new (here e q) os s) (push_all_new (here' e q) os s')
  push_all_new_both q h os s s' n z r = room_both q (Null ∷ s) (Null ∷ s') _ _ (more nulls r) (λ d. make_all_both os (λ made ks. go_on_in (here e q) made (first_made ks ∷ s)) (λ made ks. go_on_in (here' e q) made (first_made ks ∷ s')) (made_both q h os _ _ s s' (omega (arith, d, one_unit (numbers_from (length w.heap) os))) n z (first os) r))
    where
      one_unit : (ks : List ℕ) → units (first_made ks ∷ s) ≡ units (Null ∷ s)
      one_unit [] = refl
      one_unit (k ∷ ks) = refl

      first : (os : List Object) → Values (New (length os)) (first_made (numbers_from (length w.heap) os)) (first_made (numbers_from (length w'.heap) os))
      first [] = nulls
      first (o ∷ os) = refs (new_one (length (o ∷ os)) (omega arith))

  -- operands
  operand_told : (n : ℕ) (type : OperandType) (s s' : List Value) (go go' : Value → List Value → Next) → Rest R n s s' → ((v v' : Value) (r r' : List Value) → s ≡ v ∷ r → is_of type v ≡ true → Values R v v' → Popped R n r r' → Both (go v r) (go' v' r')) → Both (with_operand type s go) (with_operand type s' go')
  operand_told n type s s' go go' l f = by s s' refl l.0 l.1
    where
      by : (t t' : List Value) → s ≡ t → Lists (Values R) t t' → units t ≤ n → Both (with_operand type t go) (with_operand type t' go')
      by _ _ d none b = stopped
      by _ _ d (more a m) b = same_told (is_of type _) _ (type_same type a) _ _ _ _ (λ y. f _ _ _ _ d y a (popped n _ _ _ m b)) stopped

  pub operand_both : (n : ℕ) (type : OperandType) (s s' : List Value) (go go' : Value → List Value → Next) → Rest R n s s' → ((v v' : Value) (r r' : List Value) → Values R v v' → Popped R n r r' → Both (go v r) (go' v' r')) → Both (with_operand type s go) (with_operand type s' go')
  operand_both n type s s' go go' l f = operand_told n type s s' go go' l (λ v v' r r' d y a m. f v v' r r' a m)

  pub int_both : (n : ℕ) (s s' : List Value) (go go' : ℤ → List Value → Next) → Rest R n s s' → ((i : ℤ) (r r' : List Value) → Popped R n r r' → Both (go i r) (go' i r')) → Both (with_int s go) (with_int s' go')
  int_both n s s' go go' l f = by s s' l.0 l.1
    where
      by : (s s' : List Value) → Lists (Values R) s s' → units s ≤ n → Both (with_int s go) (with_int s' go')
      by _ _ none b = stopped
      by _ _ (more (ints {n = i}) m) b = f i _ _ (popped n (Int i) _ _ m b)
      by _ _ (more longs m) b = stopped
      by _ _ (more nulls m) b = stopped
      by _ _ (more (refs r) m) b = stopped

  pub reference_both : (n : ℕ) (s s' : List Value) (go go' : Option ℕ → List Value → Next) → Rest R n s s' → ((k k' : Option ℕ) (r r' : List Value) → Options R k k' → Popped R n r r' → Both (go k r) (go' k' r')) → Both (with_reference s go) (with_reference s' go')
  reference_both n s s' go go' l f = by s s' l.0 l.1
    where
      by : (s s' : List Value) → Lists (Values R) s s' → units s ≤ n → Both (with_reference s go) (with_reference s' go')
      by _ _ none b = stopped
      by _ _ (more ints m) b = stopped
      by _ _ (more longs m) b = stopped
      by _ _ (more nulls m) b = f None None _ _ neither (popped n Null _ _ m b)
      by _ _ (more (refs {k = k} r) m) b = f _ _ _ _ (both r) (popped n (Ref k) _ _ m b)

  pub arguments_both : (n m : ℕ) (ts : List FieldType) (a a' s s' : List Value) (go go' : List Value → List Value → Next) → length (locals_of a) + sum_by slots ts ≤ m → Lists (Values R) a a' → Rest R n s s'
      → ((vs vs' r r' : List Value) → drop (length ts) s ≡ r → length (locals_of vs) ≤ m → Lists (Values R) vs vs' → Rest R n r r' → Both (go vs r) (go' vs' r')) → Both (with_arguments ts a s go) (with_arguments ts a' s' go')
  arguments_both n m [] a a' s s' go go' z b l f = f _ _ _ _ refl (omega (arith, z)) b l
  arguments_both n m (t ∷ ts) a a' s s' go go' z b l f = operand_told n (operand_of t) s s' _ _ l
      (λ v v' r r' d y c i. arguments_both n m ts (v ∷ a) (v' ∷ a') r r' go go' (one_more t ts v a m y z) (more c b) (less n r r' i) (λ vs us x x' p. f vs us x x' (ap (drop (suc (length ts))) d ∙ p)))

  pub object_both : (q : Place) (k k' : Option ℕ) (go go' : ℕ → Object → Next) → Options R k k'
      → ((i j : ℕ) (o o' : Object) → R i j → slice_get w.heap i ≡ Some o → slice_get w'.heap j ≡ Some o' → Objects R o o' → Both (go i o) (go' j o')) → Both (with_object (here e q) k go) (with_object (here' e q) k' go')
  object_both q _ _ go go' neither f = throws_both q (codes "java/lang/NullPointerException") refl
  object_both q _ _ go go' (both {x = i} {y = j} r) f = by (slice_get w.heap i) (slice_get w'.heap j) refl refl (e.alike.objects i j r)
    where
      by : (o o' : Option Object) → slice_get w.heap i ≡ o → slice_get w'.heap j ≡ o' → Options (Objects R) o o' → Both (elim o [ None ↦ faults WrongKind | Some o ↦ go i o ]) (elim o' [ None ↦ faults WrongKind | Some o ↦ go' j o ])
      by _ _ a b neither = stopped
      by _ _ a b (both x) = f i j _ _ r a b x

  -- the object that the first operand refers to
  pub referred_both : (q : Place) (n : ℕ) (s s' : List Value) (go go' : ℕ → Object → List Value → Next) → Rest R n s s'
      → ((k j : ℕ) (o o' : Object) (r r' : List Value) → slice_get s 0 ≡ Some (Ref k) → R k j → Objects R o o' → Popped R n r r' → Both (go k o r) (go' j o' r'))
      → Both (with_reference s (λ i r. with_object (here e q) i (λ k o. go k o r))) (with_reference s' (λ i r. with_object (here' e q) i (λ k o. go' k o r)))
  referred_both q n s s' go go' l f = by s s' refl l.0 l.1
    where
      by : (t t' : List Value) → s ≡ t → Lists (Values R) t t' → units t ≤ n → Both (with_reference t (λ i r. with_object (here e q) i (λ k o. go k o r))) (with_reference t' (λ i r. with_object (here' e q) i (λ k o. go' k o r)))
      by _ _ d none b = stopped
      by _ _ d (more ints m) b = stopped
      by _ _ d (more longs m) b = stopped
      by _ _ d (more nulls m) b = throws_both q (codes "java/lang/NullPointerException") refl
      by _ _ d (more {xs = xs} {ys = ys} (refs {k = k} {j = j} r) m) b = option_both (Objects R) _ _ (e.alike.objects k j r) (faults WrongKind) (faults WrongKind) (λ o. go k o xs) (λ o. go' j o ys) stopped
          (λ o o' x. f k j o o' xs ys (ap (λ t. slice_get t 0) d) r x (popped n (Ref k) _ _ m b))

  pub depth_both : (fs fs' : List Frame) (x x' : Next) → Lists (Frames R) fs fs' → (length fs < 512 → Both x x') → Both (with_depth w e.number e.thread fs x) (with_depth w' e.number e.thread' fs' x')
  depth_both fs fs' x x' l f = same_told (nat_lt (length fs) 512) _ (ap (λ n. nat_lt n 512) (lists_long l)) _ _ _ _ (λ d. f (ltb-true (length fs) 512 d)) (throw_both (codes "java/lang/StackOverflowError") e.thread.frames e.thread'.frames (by_row refl) raises e.running.frames)

  pub push_frame_both : (fs fs' : List Frame) (g g' : Frame) → (length fs < 512 → Turn w e.number e.thread None (record e.thread { frames = g ∷ fs })) → Lists (Frames R) fs fs' → Frames R g g' → Both (push_frame w e.number e.thread fs g) (push_frame w' e.number e.thread' fs' g')
  push_frame_both fs fs' g g' x l a = depth_both fs fs' _ _ l (λ d. frames_both w w' _ _ None (x d) same (more a l))

  pub all_of : (q : Place) → Stands R e q → Rest R (units q.stack) q.stack q.stack'
  all_of q h = (h.stack, omega arith)

  pub here_frames : (q : Place) → Stands R e q → Lists (Frames R) (all_frames (here e q)) (all_frames (here' e q))
  here_frames q h = top q h q.at q.locals q.locals' q.stack q.stack' h.locals h.stack

  pub initialized_both : (q : Place) (h : Stands R e q) (class : List ℕ) (x x' : Next) → Both x x' → Both (when_initialized (here e q) class x) (when_initialized (here' e q) class x')
  initialized_both q h class x x' f = if_both (is_ready (state_of w class) e.number) _ _ _ _ f (push_frame_both _ _ _ _ (λ d. goes_on _ h.its (needed class d h.stands)) (here_frames q h) initializations)

  -- monitors
  pub enter_both : (k j : ℕ) (go go' : World → Next) → Asks e.worlds.program e.thread.frames k → R k j → ((ms ms' : List Monitor) → Locks R e.worlds e.number ms ms' → Both (go (with_monitors w ms)) (go' (with_monitors w' ms'))) → Both (enter w e.number k go) (enter w' e.number j go')
  enter_both k j go go' x r f = by (monitor_in w.monitors k) (monitor_in w'.monitors j) refl refl (e.alike.held k j r)
    where
      by : (o o' : Option Monitor) → monitor_in w.monitors k ≡ o → monitor_in w'.monitors j ≡ o' → Options Held o o' → Both (entered w e.number k o go) (entered w' e.number j o' go')
      by _ _ a b neither = f _ _ (two.entered r a b)
      by _ _ a b (both (held {owner = owner} {count = count})) = if_told (nat_eq owner e.number) _ _ _ _ (λ d. if_told (nat_lt (count + 1) (2 ^ 31)) _ _ _ _ (λ c. f _ _ (again r a d c)) (λ c. stopped)) (λ d. blocked (for_monitor k _ x a d))

  pub enter_if_both : (o o' : Option ℕ) (go go' : World → Next) → ((k : ℕ) → o ≡ Some k → Asks e.worlds.program e.thread.frames k) → Options R o o' → ((ms ms' : List Monitor) → Locks R e.worlds e.number ms ms' → Both (go (with_monitors w ms)) (go' (with_monitors w' ms'))) → Both (enter_if w e.number o go) (enter_if w' e.number o' go')
  enter_if_both _ _ go go' x neither f = f _ _ stay
  enter_if_both _ _ go go' x (both {x = k} r) f = enter_both _ _ go go' (x k refl) r f

  left_both : (k j : ℕ) (x x' : Next) (go go' : World → Next) → R k j → Both x x' → ((ms ms' : List Monitor) → Locks R e.worlds e.number ms ms' → Both (go (with_monitors w ms)) (go' (with_monitors w' ms')))
      → (o o' : Option Monitor) → monitor_in w.monitors k ≡ o → Options Held o o' → Both (elim (elim (left_in w.monitors e.number k o) as (λ _. Option World) [ None ↦ None | Some ms ↦ Some (record w { monitors = ms }) ]) [ None ↦ x | Some l ↦ go l ]) (elim (elim (left_in w'.monitors e.number j o') as (λ _. Option World) [ None ↦ None | Some ms ↦ Some (record w' { monitors = ms }) ]) [ None ↦ x' | Some l ↦ go' l ])
  left_both k j x x' go go' r f g _ _ a neither = f
  left_both k j x x' go go' r f g _ _ a (both (held {owner = owner} {count = count})) = by (nat_eq owner e.number) (nat_lt 1 count) refl refl
    where
      leaves : (ms : List Monitor) (i : ℕ) → Bool → Bool → Option (List Monitor)
      leaves ms i a b = elim a [ false ↦ None | true ↦ elim b [ true ↦ Some (recounted ms i (count - 1)) | false ↦ Some (without_monitor ms i) ] ]

      by : (b c : Bool) → nat_eq owner e.number ≡ b → nat_lt 1 count ≡ c → Both (elim (elim (leaves w.monitors k b c) as (λ _. Option World) [ None ↦ None | Some ms ↦ Some (record w { monitors = ms }) ]) [ None ↦ x | Some l ↦ go l ]) (elim (elim (leaves w'.monitors j b c) as (λ _. Option World) [ None ↦ None | Some ms ↦ Some (record w' { monitors = ms }) ]) [ None ↦ x' | Some l ↦ go' l ])
      by false c d h = f
      by true true d h = g _ _ (left_one r a d h)
      by true false d h = g _ _ (left_last r a d h)

  pub leave_both : (k j : ℕ) (x x' : Next) (go go' : World → Next) → R k j → Both x x' → ((ms ms' : List Monitor) → Locks R e.worlds e.number ms ms' → Both (go (with_monitors w ms)) (go' (with_monitors w' ms')))
      → Both (elim (leave w e.number k) [ None ↦ x | Some l ↦ go l ]) (elim (leave w' e.number j) [ None ↦ x' | Some l ↦ go' l ])
  leave_both k j x x' go go' r f g = left_both k j x x' go go' r f g (monitor_in w.monitors k) (monitor_in w'.monitors j) refl (e.alike.held k j r)

  pub leave_if_both : (o o' : Option ℕ) (x x' : Next) (go go' : World → Next) → Options R o o' → Both x x' → ((ms ms' : List Monitor) → Locks R e.worlds e.number ms ms' → Both (go (with_monitors w ms)) (go' (with_monitors w' ms')))
      → Both (elim (leave_if w e.number o) [ None ↦ x | Some l ↦ go l ]) (elim (leave_if w' e.number o') [ None ↦ x' | Some l ↦ go' l ])
  leave_if_both _ _ x x' go go' neither f g = g _ _ stay
  leave_if_both _ _ x x' go go' (both r) f g = leave_both _ _ x x' go go' r f g
