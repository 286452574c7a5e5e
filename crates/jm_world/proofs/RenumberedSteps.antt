-- A step of worlds that are one but for numbers leads to such worlds.
use Rattle.std.proofs.Common.{◌≡◌, ℕ, zero, suc, ◌+◌, ◌<◌, List, [], ◌∷◌, ◌++◌, Option, Some, None, Bool, true, false, refl, sym, ap, subst, ◌∙◌, length, inl, inr, arith, length-append}
use Rattle.std.specs.Prelude.{◌-◌, nat_eq, slice_get, slice_set}
use Rattle.std.specs.List.{AllByRecursion}
use Rattle.std.proofs.lemmas.Bool.{eqb-true, eq-eqb}
use Rattle.std.proofs.lemmas.Bool.Decides.{nat_tests}
use Rattle.jm_program.specs.Flags.{is_static}
use Rattle.jm_program.specs.declared.class.ClassParts.{ClassParts}
use Rattle.jm_program.specs.declared.class.Field.{Field}
use Rattle.jm_program.specs.declared.constant.Constant.{Constant}
use Rattle.jm_program.specs.declared.constant.Constant.TheVariants as constant
use Rattle.jm_program.proofs.Sequences.{length_written}
use Rattle.jm_values.specs.declared.value.Value.{Value}
use Rattle.jm_values.specs.declared.value.Value.TheVariants.{Null, Ref}
use Rattle.jm_values.proofs.Lists.{set_there}
use Rattle.jm_world.specs.Types.{narrow}
use Rattle.jm_world.specs.Classes.{class_named}
use Rattle.jm_world.specs.Objects.{Object, FieldName, same_field}
use Rattle.jm_world.specs.World.{World, Thread, Static, Monitor, Literal, with_thread, with_state, set_static_in, set_state_in, literal_in}
use Rattle.jm_world.specs.Next.{Next, goes, stops, blocks, with_objects}
use Rattle.jm_world.specs.BuiltInMethods.{with_new_thread, new_thread}
use Rattle.jm_world.specs.Initialization.{constant_value, with_constant, with_constants, constants_of}
use Rattle.jm_world.specs.declared.class_state.ClassState.{ClassState}
use Rattle.jm_world.specs.declared.class_state.ClassState.TheVariants.{InProgress, Failed}
use Rattle.jm_world.specs.declared.stop.Stop.{Stop}
use Rattle.jm_world.specs.Monitors.{monitor_in}
use Rattle.jm_world.proofs.MonitorsInAnyOrder.{none_in, entered_alike, recounted_alike, left_alike}
use Rattle.jm_world.specs.SideBySide.{Held, Values, ints, longs, nulls, Lists, none, more, Options, neither, both, Objects, objects, Acts, Frames, entries}
use Rattle.jm_world.specs.SideBySide as alike
use Rattle.jm_world.specs.TwoWorlds.{Two, left, right}
use Rattle.jm_world.proofs.WhatComes.{IsNew, Grown, AreNew, Locks, stay, entered, again, left_one, left_last, Changes, same, stored, sets, locks, states, begins, writes, Comes, stopped, blocked, Turned, went, makes, fails, starts}
use Rattle.jm_world.specs.UpToNumbers.{Are, are}
use Rattle.jm_world.specs.Renumbered.{Renames, Near, Literals, literals, Statics, statics, MonitorsAlike, Threads, Renumbered}
use Rattle.jm_world.proofs.WordsSideBySide.{set, joined, lists_to, option_to, value_to, frames_to, object_to, narrowed}
use Rattle.jm_world.proofs.RenumberedReadAlike.{literal_found}

-- lists
pub get_other : {A : Type 0} (xs : List A) (i j : ℕ) (x : A) → (i ≡ j → ⊥) → slice_get (slice_set xs i x) j ≡ slice_get xs j
get_other [] i j x e = refl
get_other (y ∷ xs) zero zero x e = absurd (e refl)
get_other (y ∷ xs) zero (suc j) x e = refl
get_other (y ∷ xs) (suc i) zero x e = refl
get_other (y ∷ xs) (suc i) (suc j) x e = get_other xs i j x (λ d. e (ap suc d))

apart : (i j : ℕ) → nat_eq i j ≡ false → i ≡ j → ⊥
apart i j e d = let h : nat_eq i j ≡ true = eq-eqb i j d in cc

get_front : {A : Type 0} (xs ys : List A) (i : ℕ) → i < length xs → slice_get (xs ++ ys) i ≡ slice_get xs i
get_front [] ys i l = absurd (omega arith)
get_front (x ∷ xs) ys zero l = refl
get_front (x ∷ xs) ys (suc i) l = get_front xs ys i (omega (arith, l))

get_behind : {A : Type 0} (xs ys : List A) (i : ℕ) → slice_get (xs ++ ys) (length xs + i) ≡ slice_get ys i
get_behind [] ys i = ap (slice_get ys) (let h : 0 + i ≡ i = omega arith in h)
get_behind (x ∷ xs) ys i = ap (slice_get (x ∷ (xs ++ ys))) (let h : suc (length xs) + i ≡ suc (length xs + i) = omega arith in h) ∙ get_behind xs ys i

-- what comes of a step: more numbers may be in use
pub data Follow (R : ℕ → ℕ → Type 0) : Next → Next → Type 0 where
  stop_both : {s : Stop} → Follow R (stops s) (stops s)
  block_both : Follow R blocks blocks
  go_both : {w v : World} → Are R w v → Follow R (goes w) (goes v)
  go_more : (p : Two) (c : ℕ) {w v : World} → Are (Grown R p c) w v → Follow R (goes w) (goes v)

-- under another relation that relates the same numbers
module _ (R S : ℕ → ℕ → Type 0) (to : (k j : ℕ) → R k j → S k j) (from : (k j : ℕ) → S k j → R k j) where
  near_as : (n k j : ℕ) → Near R n k j → Near S n k j
  near_as n k j x = (x.0, x.1, λ i l s. x.2 i l (from i l s))

  thread_as : (n : ℕ) (t u : Thread) → Threads R n t u → Threads S n t u
  thread_as n t u x = record { ending = x.ending; frames = frames_to R S to x.frames; pending = option_to to x.pending; object = option_to (near_as n) x.object; live = λ e. option_to to (x.live e) }

  literal_as : (s t : Literal) → Literals R s t → Literals S s t
  literal_as _ _ (literals r) = literals (to _ _ r)

  static_as : (s t : Static) → Statics R s t → Statics S s t
  static_as _ _ (statics a) = statics (value_to R S to _ _ a)

  pub are_as : (w v : World) → Are R w v → Are S w v
  are_as _ _ (are {p = p} m) = are {p = p} (record {
    made = m.made;
    names = record { below = λ k j s. m.names.below k j (from k j s); equal = λ k j i l a b. m.names.equal k j i l (from k j a) (from i l b) };
    objects = λ k j s. option_to (object_to R S to) (m.objects k j (from k j s));
    literals = lists_to literal_as m.literals;
    statics = lists_to static_as m.statics;
    monitors = record {
      held = λ k j s. m.monitors.held k j (from k j s);
      forth = λ k a. let q = m.monitors.forth k a in (q.0, to k q.0 q.1, q.2);
      back = λ j a. let q = m.monitors.back j a in (q.0, to q.0 j q.1, q.2);
      once = m.monitors.once;
      once' = m.monitors.once';
    };
    threads = lists_to (thread_as (length p.one.heap)) m.threads;
  })

module _ (R : ℕ → ℕ → Type 0) where
  -- threads
  near : (n : ℕ) → Renames R n → (o p : Option ℕ) → Options R o p → Options (Near R n) o p
  near n names _ _ neither = neither
  near n names _ _ (both r) = both ((names.below _ _ r).0, (names.below _ _ r).1, λ i l q. names.equal _ _ i l r q)

  turned : (p q : Two) (i : ℕ) (c : Option (List ℕ × ClassState)) (n : ℕ) → Renames R n → (t u s r : Thread) → Options R t.object u.object → Turned R q i t u c s r → Threads R n s r
  turned p q i c n names t u s r o x = record {
    ending = x.ending;
    frames = x.frames;
    pending = x.pending;
    object = near n names s.object r.object here;
    live = λ e. here;
  }
    where
      here : Options R s.object r.object
      here = subst (λ a. Options R a r.object) (sym x.object) (subst (λ b. Options R t.object b) (sym x.other) o)

  put : (q : Two) (c : Option (List ℕ × ClassState)) (w v : World) (n : ℕ) (t u s r : Thread) → Are R w v → Options R t.object u.object → Turned R q n t u c s r → Are R (with_thread w n s) (with_thread v n r)
  put q c _ _ n t u s r (are {p = p} m) o x = are {p = record p { one = record p.one { threads = slice_set p.one.threads (n - 1) s }; other = record p.other { threads = slice_set p.other.threads (n - 1) r } }}
      (record { made = m.made; names = m.names; objects = m.objects; literals = m.literals; statics = m.statics; monitors = m.monitors; threads = set m.threads (n - 1) (turned p q n c (length p.one.heap) m.names t u s r o x) })

  -- parts
  pub static_set : (ss rs : List Static) → Lists (Statics R) ss rs → (f : FieldName) (v u : Value) → Values R v u → Lists (Statics R) (set_static_in ss f v) (set_static_in rs f u)
  static_set _ _ none f v u a = none
  static_set _ _ (more {xs = ss} {ys = rs} (statics {field = field} {v = x} {u = y} b) l) f v u a = by (same_field field f) (static_set _ _ l f v u a)
    where
      by : (c : Bool) → Lists (Statics R) (set_static_in ss f v) (set_static_in rs f u)
          → Lists (Statics R) (elim c as (λ _. List Static) [ true ↦ record { field = field; value = v } ∷ ss | false ↦ record { field = field; value = x } ∷ set_static_in ss f v ]) (elim c as (λ _. List Static) [ true ↦ record { field = field; value = u } ∷ rs | false ↦ record { field = field; value = y } ∷ set_static_in rs f u ])
      by true h = more (statics a) l
      by false h = more (statics b) h

  constant_alike : (ls ks : List Literal) → Lists (Literals R) ls ks → (c : Constant) → Values R (constant_value ls c) (constant_value ks c)
  constant_alike ls ks l (constant.Int n) = ints
  constant_alike ls ks l (constant.Long n) = longs
  constant_alike ls ks l (constant.String units) = by (literal_in ls units) (literal_in ks units) (literal_found R ls ks l units)
    where
      by : (o b : Option ℕ) → Options R o b → Values R (elim o as (λ _. Value) [ None ↦ Null | Some k ↦ Ref k ]) (elim b as (λ _. Value) [ None ↦ Null | Some k ↦ Ref k ])
      by _ _ neither = nulls
      by _ _ (both r) = alike.refs r

  constant_set : (ls ks : List Literal) → Lists (Literals R) ls ks → (c : ClassParts) (f : Field) (o : Option Constant) (ss rs : List Static) → Lists (Statics R) ss rs → Lists (Statics R) (with_constant ls c f o ss) (with_constant ks c f o rs)
  constant_set ls ks l c f None ss rs m = m
  constant_set ls ks l c f (Some x) ss rs m = by (is_static f.flags)
    where
      name : FieldName
      name = record { class = c.name; name = f.name; type = f.descriptor }

      by : (b : Bool) → Lists (Statics R) (elim b as (λ _. List Static) [ true ↦ set_static_in ss (record { class = c.name; name = f.name; type = f.descriptor }) (narrow f.descriptor (constant_value ls x)) | false ↦ ss ]) (elim b as (λ _. List Static) [ true ↦ set_static_in rs (record { class = c.name; name = f.name; type = f.descriptor }) (narrow f.descriptor (constant_value ks x)) | false ↦ rs ])
      by true = static_set ss rs m _ _ _ (narrowed f.descriptor (constant_alike ls ks l x))
      by false = m

  pub constants_set : (ls ks : List Literal) → Lists (Literals R) ls ks → (c : ClassParts) (fs : List Field) (ss rs : List Static) → Lists (Statics R) ss rs → Lists (Statics R) (with_constants ls c fs ss) (with_constants ks c fs rs)
  constants_set ls ks l c [] ss rs m = m
  constants_set ls ks l c (f ∷ fs) ss rs m = constants_set ls ks l c fs _ _ (constant_set ls ks l c f f.constant ss rs m)

  all_constants : (p : Two) → Renumbered R p → (o : Option ClassParts) → Lists (Statics R) (constants_of (left p) o) (constants_of (right p) o)
  all_constants p m None = m.statics
  all_constants p m (Some c) = constants_set p.one.literals p.other.literals m.literals c c.fields p.one.statics p.other.statics m.statics

  module _ (n : ℕ) (names : Renames R n) where
    object_set : (these those : List Object) → ((k j : ℕ) → R k j → Options (Objects R) (slice_get these k) (slice_get those j)) → (k j : ℕ) (o b x y : Object) → R k j → slice_get these k ≡ Some o → slice_get those j ≡ Some b → Objects R x y
        → (i l : ℕ) → R i l → Options (Objects R) (slice_get (slice_set these k x) i) (slice_get (slice_set those j y) l)
    object_set these those like k j o b x y r e f z i l q = by (nat_eq k i) (nat_eq j l) (names.equal k j i l r q) refl refl
      where
        by : (c d : Bool) → c ≡ d → nat_eq k i ≡ c → nat_eq j l ≡ d → Options (Objects R) (slice_get (slice_set these k x) i) (slice_get (slice_set those j y) l)
        by true true h a c = subst (λ i. Options (Objects R) (slice_get (slice_set these k x) i) (slice_get (slice_set those j y) l)) (eqb-true k i a)
            (subst (λ l. Options (Objects R) (slice_get (slice_set these k x) k) (slice_get (slice_set those j y) l)) (eqb-true j l c)
            (subst (λ o. Options (Objects R) o (slice_get (slice_set those j y) j)) (sym (set_there these k o x e)) (subst (λ b. Options (Objects R) (Some x) b) (sym (set_there those j b y f)) (both z))))
        by false false h a c = subst (λ o. Options (Objects R) o (slice_get (slice_set those j y) l)) (sym (get_other these k i x (apart k i a))) (subst (λ b. Options (Objects R) (slice_get these i) b) (sym (get_other those j l y (apart j l c))) (like i l q))
        by true false h a c = cc
        by false true h a c = cc

  -- worlds
  changed : (p : Two) (n : ℕ) → Renumbered R p → (c : Option (List ℕ × ClassState)) (w v : World) → Changes R p n c w v → Are R w v
  changed p n m _ _ _ same = are m
  changed p n m _ _ _ (stored {k = k} {j = j} i {o = o} {b = b} {v = v} {u = u} r e f x a) = are {p = record p { one = record p.one { heap = slice_set p.one.heap k (set_in o v) }; other = record p.other { heap = slice_set p.other.heap j (set_in b u) } }} (record {
    made = length_written p.one.heap k (set_in o v) ∙ m.made ∙ sym (length_written p.other.heap j (set_in b u));
    names = subst (Renames R) (sym (length_written p.one.heap k (set_in o v))) m.names;
    objects = object_set (length p.one.heap) m.names p.one.heap p.other.heap m.objects k j o b (set_in o v) (set_in b u) r e f (in_object o b x);
    literals = m.literals;
    statics = m.statics;
    monitors = m.monitors;
    threads = subst (λ n. Lists (Threads R n) p.one.threads p.other.threads) (sym (length_written p.one.heap k (set_in o v))) m.threads;
  })
    where
      set_in : Object → Value → Object
      set_in o v = record { type = o.type; values = slice_set o.values i v }

      in_object : (o b : Object) → Objects R o b → Objects R (set_in o v) (set_in b u)
      in_object _ _ (objects l) = objects (set l i a)
  changed p n m _ _ _ (sets f {v = v} {u = u} a) = are {p = record p { one = record p.one { statics = set_static_in p.one.statics f v }; other = record p.other { statics = set_static_in p.other.statics f u } }}
      (record { made = m.made; names = m.names; objects = m.objects; literals = m.literals; statics = static_set _ _ m.statics f v u a; monitors = m.monitors; threads = m.threads })
  changed p n m _ _ _ (locks {ms = ms} {ns = ns} x) = are {p = record p { one = record p.one { monitors = ms }; other = record p.other { monitors = ns } }}
      (record { made = m.made; names = m.names; objects = m.objects; literals = m.literals; statics = m.statics; monitors = by ms ns x; threads = m.threads })
    where
      by : (ms ns : List Monitor) → Locks R p n ms ns → MonitorsAlike R ms ns
      by _ _ stay = m.monitors
      by _ _ (entered r e f) = entered_alike R m.names.equal p.one.monitors p.other.monitors m.monitors n 1 _ _ r e f
      by _ _ (again {m = x} r e d c) = recounted_alike R m.names.equal p.one.monitors p.other.monitors m.monitors (x.count + 1) _ _ r
      by _ _ (left_one {m = x} r e d c) = recounted_alike R m.names.equal p.one.monitors p.other.monitors m.monitors (x.count - 1) _ _ r
      by _ _ (left_last r e d c) = left_alike R m.names.equal p.one.monitors p.other.monitors m.monitors _ _ r
  changed p n m _ _ _ (states class state) = are {p = record p { classes = set_state_in p.classes class state }}
      (record { made = m.made; names = m.names; objects = m.objects; literals = m.literals; statics = m.statics; monitors = m.monitors; threads = m.threads })
  changed p n m _ _ _ (begins class) = are {p = record p { classes = set_state_in p.classes class (InProgress n); one = record p.one { statics = constants_of (left p) (class_named p.program class) }; other = record p.other { statics = constants_of (right p) (class_named p.program class) } }}
      (record { made = m.made; names = m.names; objects = m.objects; literals = m.literals; statics = all_constants p m (class_named p.program class); monitors = m.monitors; threads = m.threads })
  changed p n m _ _ _ (writes bytes) = are {p = record p { output = p.output ++ bytes }}
      (record { made = m.made; names = m.names; objects = m.objects; literals = m.literals; statics = m.statics; monitors = m.monitors; threads = m.threads })

  -- new objects
  module _ (p : Two) (m : Renumbered R p) (c : ℕ) where
    n : ℕ
    n = length p.one.heap

    grown_names : Renames (Grown R p c) (n + c)
    unfolding n
    grown_names = record { below = below; equal = equal }
      where
        below : (k j : ℕ) → Grown R p c k j → (k < n + c) × (j < n + c)
        below k j (inl r) = let b = m.names.below k j r in (omega (arith, b), omega (arith, b))
        below k j (inr q) = (omega (arith, q), omega (arith, q))

        equal : (k j i l : ℕ) → Grown R p c k j → Grown R p c i l → nat_eq k i ≡ nat_eq j l
        equal k j i l (inl r) (inl q) = m.names.equal k j i l r q
        equal k j i l (inr r) (inr q) = cc (r.0, q.0)
        equal k j i l (inl r) (inr q) = let b = m.names.below k j r in grind (arith, nat_tests, b, q)
        equal k j i l (inr q) (inl r) = let b = m.names.below i l r in grind (arith, nat_tests, b, q)

    to_grown : (k j : ℕ) → R k j → Grown R p c k j
    to_grown k j r = inl r

    threads_grown : (ts us : List Thread) → Lists (Threads R n) ts us → Lists (Threads (Grown R p c) (n + c)) ts us
    unfolding n
    threads_grown ts us l = lists_to one l
      where
        near_grown : (k j : ℕ) → Near R n k j → Near (Grown R p c) (n + c) k j
        near_grown k j x = (omega (arith, x), omega (arith, x), other)
          where
            other : (i l : ℕ) → Grown R p c i l → nat_eq k i ≡ nat_eq j l
            other i l (inl r) = x.2 i l r
            other i l (inr q) = grind (arith, nat_tests, x, q)

        one : (t u : Thread) → Threads R n t u → Threads (Grown R p c) (n + c) t u
        one t u x = record {
          ending = x.ending;
          frames = frames_to R (Grown R p c) to_grown x.frames;
          pending = option_to to_grown x.pending;
          object = option_to near_grown x.object;
          live = λ e. option_to to_grown (x.live e);
        }

    literal_grown : (s t : Literal) → Literals R s t → Literals (Grown R p c) s t
    literal_grown _ _ (literals r) = literals (inl r)

    static_grown : (s t : Static) → Statics R s t → Statics (Grown R p c) s t
    static_grown _ _ (statics a) = statics (value_to R (Grown R p c) to_grown _ _ a)

    monitors_grown : MonitorsAlike (Grown R p c) p.one.monitors p.other.monitors
    unfolding n
    monitors_grown = record { held = held; forth = λ k a. let q = m.monitors.forth k a in (q.0, inl q.1, q.2); back = λ j a. let q = m.monitors.back j a in (q.0, inl q.1, q.2); once = m.monitors.once; once' = m.monitors.once' }
      where
        held : (k j : ℕ) → Grown R p c k j → Options Held (monitor_in p.one.monitors k) (monitor_in p.other.monitors j)
        held k j (inl r) = m.monitors.held k j r
        held k j (inr q) = subst (λ x. Options Held x (monitor_in p.other.monitors j)) (sym (none_in p.one.monitors k (λ a. let f = m.monitors.forth k a in let b = m.names.below k f.0 f.1 in omega (arith, b, q))))
            (subst (λ x. Options Held None x) (sym (none_in p.other.monitors j (λ a. let f = m.monitors.back j a in let b = m.names.below f.0 j f.1 in omega (arith, b, q)))) neither)

  values_new : (S Q : ℕ → ℕ → Type 0) → ((k j : ℕ) → S k j → Q k j) → (vs : List Value) → AllByRecursion (λ v. Values S v v) vs → Lists (Values Q) vs vs
  values_new S Q f [] a = none
  values_new S Q f (v ∷ vs) a = more (value_to S Q f v v a.0) (values_new S Q f vs a.1)

  objects_new : (S Q : ℕ → ℕ → Type 0) → ((k j : ℕ) → S k j → Q k j) → (os : List Object) → AllByRecursion (λ o. AllByRecursion (λ v. Values S v v) o.values) os → (i : ℕ) → Options (Objects Q) (slice_get os i) (slice_get os i)
  objects_new S Q f [] a i = neither
  objects_new S Q f (o ∷ os) a zero = both (objects (values_new S Q f o.values a.0))
  objects_new S Q f (o ∷ os) a (suc i) = objects_new S Q f os a.1 i

  grown_are : (p : Two) (os : List Object) → Renumbered R p → AreNew p os → Are (Grown R p (length os)) (with_objects (left p) os) (with_objects (right p) os)
  unfolding n
  grown_are p os m a = are {p = record p { one = record p.one { heap = p.one.heap ++ os }; other = record p.other { heap = p.other.heap ++ os } }} (record {
    made = length-append p.one.heap os ∙ ap (λ n. n + length os) m.made ∙ sym (length-append p.other.heap os);
    names = subst (Renames (Grown R p (length os))) long (grown_names p m (length os));
    objects = found;
    literals = lists_to (literal_grown p m (length os)) m.literals;
    statics = lists_to (static_grown p m (length os)) m.statics;
    monitors = monitors_grown p m (length os);
    threads = subst (λ n. Lists (Threads (Grown R p (length os)) n) p.one.threads p.other.threads) long (threads_grown p m (length os) p.one.threads p.other.threads m.threads);
  })
    where
      long : length p.one.heap + length os ≡ length (p.one.heap ++ os)
      long = sym (length-append p.one.heap os)

      S : ℕ → ℕ → Type 0
      S = Grown R p (length os)

      at_new : (i k j : ℕ) → k ≡ length p.one.heap + i → j ≡ length p.other.heap + i → Options (Objects (Grown R p (length os))) (slice_get (p.one.heap ++ os) k) (slice_get (p.other.heap ++ os) j)
      at_new i k j e f = subst (λ k. Options (Objects (Grown R p (length os))) (slice_get (p.one.heap ++ os) k) (slice_get (p.other.heap ++ os) j)) (sym e)
          (subst (λ j. Options (Objects (Grown R p (length os))) (slice_get (p.one.heap ++ os) (length p.one.heap + i)) (slice_get (p.other.heap ++ os) j)) (sym f)
          (subst (λ o. Options (Objects (Grown R p (length os))) o (slice_get (p.other.heap ++ os) (length p.other.heap + i))) (sym (get_behind p.one.heap os i))
          (subst (λ b. Options (Objects (Grown R p (length os))) (slice_get os i) b) (sym (get_behind p.other.heap os i)) (objects_new (IsNew p (length os)) (Grown R p (length os)) (λ k j q. inr q) os a i))))

      found : (k j : ℕ) → Grown R p (length os) k j → Options (Objects (Grown R p (length os))) (slice_get (p.one.heap ++ os) k) (slice_get (p.other.heap ++ os) j)
      found k j (inl r) = let b = m.names.below k j r in
          subst (λ o. Options (Objects (Grown R p (length os))) o (slice_get (p.other.heap ++ os) j)) (sym (get_front p.one.heap os k b.0))
          (subst (λ o. Options (Objects (Grown R p (length os))) (slice_get p.one.heap k) o) (sym (get_front p.other.heap os j (omega (arith, b, m.made)))) (option_to (object_to R (Grown R p (length os)) (λ k j r. inl r)) (m.objects k j r)))
      found k j (inr q) = at_new (k - length p.one.heap) k j (omega (arith, q)) (omega (arith, q, m.made))

  -- what comes of a step
  started : (w v : World) (k j : ℕ) → Are R w v → R k j → Are R (with_new_thread w (new_thread k)) (with_new_thread v (new_thread j))
  started _ _ k j (are {p = p} m) r = are {p = record p { one = record p.one { threads = p.one.threads ++ new_thread k ∷ [] }; other = record p.other { threads = p.other.threads ++ new_thread j ∷ [] } }}
      (record { made = m.made; names = m.names; objects = m.objects; literals = m.literals; statics = m.statics; monitors = m.monitors; threads = joined m.threads (more new none) })
    where
      new : Threads R (length p.one.heap) (new_thread k) (new_thread j)
      new = record { ending = refl; frames = more entries none; pending = neither; object = near (length p.one.heap) m.names (Some k) (Some j) (both r); live = λ e. both r }

pub comes_follow : (R : ℕ → ℕ → Type 0) (p : Two) (n : ℕ) (t u : Thread) → Renumbered R p → Options R t.object u.object → (x y : Next) → Comes R p n t u x y → Follow R x y
comes_follow R p n t u m o _ _ stopped = stop_both
comes_follow R p n t u m o _ _ (blocked x) = block_both
comes_follow R p n t u m o _ _ (went {w = w} {v = v} {s = s} {r = r} d c x y) = go_both (put R p d w v n t u s r (changed R p n m d w v c) o x)
comes_follow R p n t u m o _ _ (makes os {s = s} {r = r} a x y) = go_more p (length os) (put (Grown R p (length os)) p None (with_objects (left p) os) (with_objects (right p) os) n t u s r (grown_are R p os m a) (option_to (λ k j q. inl q) o) x)
comes_follow R p n t u m o _ _ (fails class os {s = s} {r = r} a x y) = go_more p (length os)
    (put (Grown R p (length os)) p (Some (class, Failed)) (with_objects (with_state (left p) class Failed) os) (with_objects (with_state (right p) class Failed) os) n t u s r
    (grown_are R (record p { classes = set_state_in p.classes class Failed }) os (record { made = m.made; names = m.names; objects = m.objects; literals = m.literals; statics = m.statics; monitors = m.monitors; threads = m.threads }) a) (option_to (λ k j q. inl q) o) x)
comes_follow R p n t u m o _ _ (starts {k = k} {j = j} {s = s} {r = r} q x y) = go_both (started R (with_thread (left p) n s) (with_thread (right p) n r) k j (put R p None (left p) (right p) n t u s r (are m) o x) q)
