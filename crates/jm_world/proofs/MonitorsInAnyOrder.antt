-- Monitors of two worlds under any one-to-one renaming: they are in the order of their objects' numbers in each, so they
-- are compared as a map.
use Rattle.std.proofs.Common.{◌≡◌, ◌⊎◌, ℕ, List, [], ◌∷◌, Option, Some, None, Bool, true, false, refl, sym, ap, subst, ◌∙◌, inl, inr}
use Rattle.std.specs.Prelude.{nat_eq, nat_lt, option_map}
use Rattle.std.proofs.lemmas.Bool.{eqb-true, eq-eqb}
use Rattle.jm_values.specs.Shape.{Among}
use Rattle.jm_values.specs.Reach.{AllDistinct}
use Rattle.jm_world.specs.World.{Monitor}
use Rattle.jm_world.specs.Monitors.{monitor_in, with_monitor, recounted, without_monitor}
use Rattle.std.proofs.lemmas.Bool.Decides.{nat_tests}
use Rattle.std.specs.Prelude.{flat_map}
use Rattle.std.proofs.Common.{arith}
use Rattle.jm_world.specs.World.{refs_monitor}
use Rattle.jm_world.specs.SideBySide.{Options, neither, both, Held, held}
use Rattle.jm_world.specs.Renumbered.{held_objects, MonitorsAlike}
use Rattle.jm_world.proofs.ReachInAnyOrder.{without, still_among, other_among, distinct_without, none_without}
use Rattle.jm_world.proofs.PlainSideBySide.{one_name, one_number}

differ : (k i : ℕ) → nat_eq k i ≡ false → k ≡ i → ⊥
differ k i e d = let h : nat_eq k i ≡ true = eq-eqb k i d in cc

pub none_in : (ms : List Monitor) (i : ℕ) → (Among i (held_objects ms) → ⊥) → monitor_in ms i ≡ None
none_in [] i n = refl
none_in (x ∷ xs) i n = pick (nat_eq x.object i) refl (none_in xs i (λ a. n (inr a)))
  where
    pick : (b : Bool) → nat_eq x.object i ≡ b → monitor_in xs i ≡ None → elim b as (λ _. Option Monitor) [ true ↦ Some x | false ↦ monitor_in xs i ] ≡ None
    pick true e ih = absurd (n (inl (sym (eqb-true x.object i e))))
    pick false e ih = ih

pub not_in : (ms : List Monitor) (i : ℕ) → monitor_in ms i ≡ None → Among i (held_objects ms) → ⊥
not_in [] i e a = a
not_in (x ∷ xs) i e a = pick (nat_eq x.object i) refl e a (not_in xs i)
  where
    pick : (b : Bool) → nat_eq x.object i ≡ b → elim b as (λ _. Option Monitor) [ true ↦ Some x | false ↦ monitor_in xs i ] ≡ None → (i ≡ x.object) ⊎ Among i (held_objects xs) → (monitor_in xs i ≡ None → Among i (held_objects xs) → ⊥) → ⊥
    pick true f e a ih = cc
    pick false f e (inl d) ih = differ x.object i f (sym d)
    pick false f e (inr a) ih = ih e a

pub some_in : (ms : List Monitor) (i : ℕ) (m : Monitor) → monitor_in ms i ≡ Some m → Among i (held_objects ms)
some_in [] i m e = cc
some_in (x ∷ xs) i m e = pick (nat_eq x.object i) refl e (some_in xs i m)
  where
    pick : (b : Bool) → nat_eq x.object i ≡ b → elim b as (λ _. Option Monitor) [ true ↦ Some x | false ↦ monitor_in xs i ] ≡ Some m → (monitor_in xs i ≡ Some m → Among i (held_objects xs)) → (i ≡ x.object) ⊎ Among i (held_objects xs)
    pick true f e ih = inl (sym (eqb-true x.object i f))
    pick false f e ih = inr (ih e)

-- what is found of monitors with a new one
in_more : (ms : List Monitor) (new : Monitor) (i : ℕ) → monitor_in ms new.object ≡ None → monitor_in (with_monitor ms new) i ≡ elim (nat_eq new.object i) as (λ _. Option Monitor) [ true ↦ Some new | false ↦ monitor_in ms i ]
in_more [] new i e = refl
in_more (m ∷ ms) new i e = by (nat_lt new.object m.object) (nat_eq m.object new.object) refl e (in_more ms new i)
  where
    pick : (d f : Bool) → nat_eq m.object i ≡ d → nat_eq new.object i ≡ f → nat_eq m.object new.object ≡ false → (o : Option Monitor) → o ≡ elim f as (λ _. Option Monitor) [ true ↦ Some new | false ↦ monitor_in ms i ]
        → elim d as (λ _. Option Monitor) [ true ↦ Some m | false ↦ o ] ≡ elim f as (λ _. Option Monitor) [ true ↦ Some new | false ↦ elim d as (λ _. Option Monitor) [ true ↦ Some m | false ↦ monitor_in ms i ] ]
    pick true true y z x o ih = absurd (differ m.object new.object x (eqb-true m.object i y ∙ sym (eqb-true new.object i z)))
    pick true false y z x o ih = refl
    pick false true y z x o ih = ih
    pick false false y z x o ih = ih

    by : (b c : Bool) → nat_eq m.object new.object ≡ c → elim c as (λ _. Option Monitor) [ true ↦ Some m | false ↦ monitor_in ms new.object ] ≡ None
        → (monitor_in ms new.object ≡ None → monitor_in (with_monitor ms new) i ≡ elim (nat_eq new.object i) as (λ _. Option Monitor) [ true ↦ Some new | false ↦ monitor_in ms i ])
        → monitor_in (elim b as (λ _. List Monitor) [ true ↦ new ∷ m ∷ ms | false ↦ m ∷ with_monitor ms new ]) i ≡ elim (nat_eq new.object i) as (λ _. Option Monitor) [ true ↦ Some new | false ↦ elim (nat_eq m.object i) as (λ _. Option Monitor) [ true ↦ Some m | false ↦ monitor_in ms i ] ]
    by b true x e ih = cc
    by true false x e ih = refl
    by false false x e ih = pick (nat_eq m.object i) (nat_eq new.object i) refl refl x _ (ih e)

more_among : (ms : List Monitor) (new : Monitor) (i : ℕ) → Among i (held_objects (with_monitor ms new)) → (i ≡ new.object) ⊎ Among i (held_objects ms)
more_among [] new i a = a
more_among (m ∷ ms) new i a = by (nat_lt new.object m.object) (more_among ms new i) a
  where
    by : (b : Bool) → (Among i (held_objects (with_monitor ms new)) → (i ≡ new.object) ⊎ Among i (held_objects ms))
        → Among i (held_objects (elim b as (λ _. List Monitor) [ true ↦ new ∷ m ∷ ms | false ↦ m ∷ with_monitor ms new ])) → (i ≡ new.object) ⊎ ((i ≡ m.object) ⊎ Among i (held_objects ms))
    by true ih a = a
    by false ih (inl e) = inr (inl e)
    by false ih (inr a) = elim (ih a) [ inl e ↦ inl e | inr b ↦ inr (inr b) ]

among_more : (ms : List Monitor) (new : Monitor) (i : ℕ) → (i ≡ new.object) ⊎ Among i (held_objects ms) → Among i (held_objects (with_monitor ms new))
among_more [] new i a = a
among_more (m ∷ ms) new i a = by (nat_lt new.object m.object) (among_more ms new i) a
  where
    by : (b : Bool) → ((i ≡ new.object) ⊎ Among i (held_objects ms) → Among i (held_objects (with_monitor ms new)))
        → (i ≡ new.object) ⊎ ((i ≡ m.object) ⊎ Among i (held_objects ms)) → Among i (held_objects (elim b as (λ _. List Monitor) [ true ↦ new ∷ m ∷ ms | false ↦ m ∷ with_monitor ms new ]))
    by true ih a = a
    by false ih (inl e) = inr (ih (inl e))
    by false ih (inr (inl e)) = inl e
    by false ih (inr (inr a)) = inr (ih (inr a))

-- of monitors with another count
abbrev counted : ℕ → Monitor → Monitor
counted count m = record { object = m.object; owner = m.owner; count = count }

in_recounted : (ms : List Monitor) (k count i : ℕ) → monitor_in (recounted ms k count) i ≡ elim (nat_eq k i) as (λ _. Option Monitor) [ true ↦ option_map (counted count) (monitor_in ms i) | false ↦ monitor_in ms i ]
in_recounted [] k count i = by (nat_eq k i)
  where
    by : (b : Bool) → None ≡ elim b as (λ _. Option Monitor) [ true ↦ None | false ↦ None ]
    by true = refl
    by false = refl
in_recounted (m ∷ ms) k count i = by (nat_eq m.object k) refl (in_recounted ms k count i)
  where
    first : (c d : Bool) → nat_eq m.object i ≡ c → nat_eq k i ≡ d → nat_eq m.object k ≡ true
        → elim c as (λ _. Option Monitor) [ true ↦ Some (counted count m) | false ↦ monitor_in ms i ]
        ≡ elim d as (λ _. Option Monitor) [ true ↦ option_map (counted count) (elim c as (λ _. Option Monitor) [ true ↦ Some m | false ↦ monitor_in ms i ]) | false ↦ elim c as (λ _. Option Monitor) [ true ↦ Some m | false ↦ monitor_in ms i ] ]
    first true true y z x = refl
    first true false y z x = absurd (differ k i z (sym (eqb-true m.object k x) ∙ eqb-true m.object i y))
    first false true y z x = absurd (differ m.object i y (eqb-true m.object k x ∙ eqb-true k i z))
    first false false y z x = refl

    other : (c d : Bool) → nat_eq m.object i ≡ c → nat_eq k i ≡ d → nat_eq m.object k ≡ false → (o : Option Monitor)
        → o ≡ elim d as (λ _. Option Monitor) [ true ↦ option_map (counted count) (monitor_in ms i) | false ↦ monitor_in ms i ]
        → elim c as (λ _. Option Monitor) [ true ↦ Some m | false ↦ o ]
        ≡ elim d as (λ _. Option Monitor) [ true ↦ option_map (counted count) (elim c as (λ _. Option Monitor) [ true ↦ Some m | false ↦ monitor_in ms i ]) | false ↦ elim c as (λ _. Option Monitor) [ true ↦ Some m | false ↦ monitor_in ms i ] ]
    other true true y z x o ih = absurd (differ m.object k x (eqb-true m.object i y ∙ sym (eqb-true k i z)))
    other true false y z x o ih = refl
    other false true y z x o ih = ih
    other false false y z x o ih = ih

    by : (b : Bool) → nat_eq m.object k ≡ b → monitor_in (recounted ms k count) i ≡ elim (nat_eq k i) as (λ _. Option Monitor) [ true ↦ option_map (counted count) (monitor_in ms i) | false ↦ monitor_in ms i ]
        → monitor_in (elim b as (λ _. List Monitor) [ true ↦ counted count m ∷ ms | false ↦ m ∷ recounted ms k count ]) i
        ≡ elim (nat_eq k i) as (λ _. Option Monitor) [ true ↦ option_map (counted count) (elim (nat_eq m.object i) as (λ _. Option Monitor) [ true ↦ Some m | false ↦ monitor_in ms i ]) | false ↦ elim (nat_eq m.object i) as (λ _. Option Monitor) [ true ↦ Some m | false ↦ monitor_in ms i ] ]
    by true x ih = first (nat_eq m.object i) (nat_eq k i) refl refl x
    by false x ih = other (nat_eq m.object i) (nat_eq k i) refl refl x _ ih

pub objects_recounted : (ms : List Monitor) (k count : ℕ) → held_objects (recounted ms k count) ≡ held_objects ms
objects_recounted [] k count = refl
objects_recounted (m ∷ ms) k count = by (nat_eq m.object k) (objects_recounted ms k count)
  where
    by : (b : Bool) → held_objects (recounted ms k count) ≡ held_objects ms → held_objects (elim b as (λ _. List Monitor) [ true ↦ counted count m ∷ ms | false ↦ m ∷ recounted ms k count ]) ≡ m.object ∷ held_objects ms
    by true ih = refl
    by false ih = ap (λ l. m.object ∷ l) ih

-- of monitors without one, where no object's stands twice
in_left : (ms : List Monitor) (k i : ℕ) → AllDistinct (held_objects ms) → monitor_in (without_monitor ms k) i ≡ elim (nat_eq k i) as (λ _. Option Monitor) [ true ↦ None | false ↦ monitor_in ms i ]
in_left [] k i d = by (nat_eq k i)
  where
    by : (b : Bool) → None ≡ elim b as (λ _. Option Monitor) [ true ↦ None | false ↦ None ]
    by true = refl
    by false = refl
in_left (m ∷ ms) k i d = by (nat_eq m.object k) refl (in_left ms k i d.1)
  where
    none_in : (ms : List Monitor) → (Among i (held_objects ms) → ⊥) → monitor_in ms i ≡ None
    none_in [] n = refl
    none_in (x ∷ xs) n = pick (nat_eq x.object i) refl (none_in xs (λ a. n (inr a)))
      where
        pick : (b : Bool) → nat_eq x.object i ≡ b → monitor_in xs i ≡ None → elim b as (λ _. Option Monitor) [ true ↦ Some x | false ↦ monitor_in xs i ] ≡ None
        pick true e ih = absurd (n (inl (sym (eqb-true x.object i e))))
        pick false e ih = ih

    first : (c f : Bool) → nat_eq m.object i ≡ c → nat_eq k i ≡ f → nat_eq m.object k ≡ true
        → monitor_in ms i ≡ elim f as (λ _. Option Monitor) [ true ↦ None | false ↦ elim c as (λ _. Option Monitor) [ true ↦ Some m | false ↦ monitor_in ms i ] ]
    first c true y z x = none_in ms (λ a. d.0 (subst (λ n. Among n (held_objects ms)) (sym (eqb-true m.object k x ∙ eqb-true k i z)) a))
    first true false y z x = absurd (differ k i z (sym (eqb-true m.object k x) ∙ eqb-true m.object i y))
    first false false y z x = refl

    other : (c f : Bool) → nat_eq m.object i ≡ c → nat_eq k i ≡ f → nat_eq m.object k ≡ false → (o : Option Monitor) → o ≡ elim f as (λ _. Option Monitor) [ true ↦ None | false ↦ monitor_in ms i ]
        → elim c as (λ _. Option Monitor) [ true ↦ Some m | false ↦ o ] ≡ elim f as (λ _. Option Monitor) [ true ↦ None | false ↦ elim c as (λ _. Option Monitor) [ true ↦ Some m | false ↦ monitor_in ms i ] ]
    other true true y z x o ih = absurd (differ m.object k x (eqb-true m.object i y ∙ sym (eqb-true k i z)))
    other true false y z x o ih = refl
    other false true y z x o ih = ih
    other false false y z x o ih = ih

    by : (b : Bool) → nat_eq m.object k ≡ b → monitor_in (without_monitor ms k) i ≡ elim (nat_eq k i) as (λ _. Option Monitor) [ true ↦ None | false ↦ monitor_in ms i ]
        → monitor_in (elim b as (λ _. List Monitor) [ true ↦ ms | false ↦ m ∷ without_monitor ms k ]) i ≡ elim (nat_eq k i) as (λ _. Option Monitor) [ true ↦ None | false ↦ elim (nat_eq m.object i) as (λ _. Option Monitor) [ true ↦ Some m | false ↦ monitor_in ms i ] ]
    by true x ih = first (nat_eq m.object i) (nat_eq k i) refl refl x
    by false x ih = other (nat_eq m.object i) (nat_eq k i) refl refl x _ ih

pub more_distinct : (ms : List Monitor) (new : Monitor) → (Among new.object (held_objects ms) → ⊥) → AllDistinct (held_objects ms) → AllDistinct (held_objects (with_monitor ms new))
more_distinct [] new n d = (n, tt)
more_distinct (m ∷ ms) new n d = by (nat_lt new.object m.object) (more_distinct ms new (λ a. n (inr a)) d.1)
  where
    by : (b : Bool) → AllDistinct (held_objects (with_monitor ms new)) → AllDistinct (held_objects (elim b as (λ _. List Monitor) [ true ↦ new ∷ m ∷ ms | false ↦ m ∷ with_monitor ms new ]))
    by true ih = (n, d)
    by false ih = (λ a. not_new (more_among ms new m.object a), ih)
      where
        not_new : (m.object ≡ new.object) ⊎ Among m.object (held_objects ms) → ⊥
        not_new (inl e) = n (inl (sym e))
        not_new (inr a) = d.0 a

pub objects_left : (ms : List Monitor) (k : ℕ) → held_objects (without_monitor ms k) ≡ without (held_objects ms) k
unfolding without
objects_left [] k = refl
objects_left (m ∷ ms) k = by (nat_eq m.object k) (nat_eq k m.object) (grind (arith, nat_tests)) (objects_left ms k)
  where
    by : (b c : Bool) → b ≡ c → held_objects (without_monitor ms k) ≡ without (held_objects ms) k → held_objects (elim b as (λ _. List Monitor) [ true ↦ ms | false ↦ m ∷ without_monitor ms k ]) ≡ elim c as (λ _. List ℕ) [ true ↦ held_objects ms | false ↦ m.object ∷ without (held_objects ms) k ]
    by true true e ih = refl
    by false false e ih = ap (λ l. m.object ∷ l) ih
    by true false e ih = cc
    by false true e ih = cc

pub roots_held : (ms : List Monitor) → held_objects ms ≡ flat_map refs_monitor ms
roots_held [] = refl
roots_held (m ∷ ms) = ap (λ l. m.object ∷ l) (roots_held ms)

module _ (R : ℕ → ℕ → Type 0) (equal : (k j i l : ℕ) → R k j → R i l → nat_eq k i ≡ nat_eq j l) where
  count_held : (count : ℕ) (o p : Option Monitor) → Options Held o p → Options Held (option_map (counted count) o) (option_map (counted count) p)
  count_held count _ _ neither = neither
  count_held count _ _ (both held) = both held

  pub entered_alike : (ms ns : List Monitor) → MonitorsAlike R ms ns → (owner count k j : ℕ) → R k j → monitor_in ms k ≡ None → monitor_in ns j ≡ None
      → MonitorsAlike R (with_monitor ms (record { object = k; owner = owner; count = count })) (with_monitor ns (record { object = j; owner = owner; count = count }))
  entered_alike ms ns a owner count k j r e f = record {
    held = λ i l q. subst (λ x. Options Held x (monitor_in (with_monitor ns n) l)) (sym (in_more ms m i e)) (subst (λ y. Options Held (elim (nat_eq k i) as (λ _. Option Monitor) [ true ↦ Some m | false ↦ monitor_in ms i ]) y) (sym (in_more ns n l f)) (by i l (nat_eq k i) (nat_eq j l) (equal k j i l r q) (a.held i l q)));
    forth = λ i x. forth i (more_among ms m i x);
    back = λ l x. back l (more_among ns n l x);
    once = more_distinct ms m (not_in ms k e) a.once;
    once' = more_distinct ns n (not_in ns j f) a.once';
  }
    where
      m : Monitor
      m = record { object = k; owner = owner; count = count }

      n : Monitor
      n = record { object = j; owner = owner; count = count }

      by : (i l : ℕ) (b c : Bool) → b ≡ c → Options Held (monitor_in ms i) (monitor_in ns l) → Options Held (elim b as (λ _. Option Monitor) [ true ↦ Some (record { object = k; owner = owner; count = count }) | false ↦ monitor_in ms i ]) (elim c as (λ _. Option Monitor) [ true ↦ Some (record { object = j; owner = owner; count = count }) | false ↦ monitor_in ns l ])
      by i l true true d h = both held
      by i l false false d h = h
      by i l true false d h = cc
      by i l false true d h = cc

      forth : (i : ℕ) → (i ≡ k) ⊎ Among i (held_objects ms) → (l : ℕ) × R i l × Among l (held_objects (with_monitor ns (record { object = j; owner = owner; count = count })))
      forth i (inl d) = (j, subst (λ z. R z j) (sym d) r, among_more ns n j (inl refl))
      forth i (inr x) = let q = a.forth i x in (q.0, q.1, among_more ns n q.0 (inr q.2))

      back : (l : ℕ) → (l ≡ j) ⊎ Among l (held_objects ns) → (i : ℕ) × R i l × Among i (held_objects (with_monitor ms (record { object = k; owner = owner; count = count })))
      back l (inl d) = (k, subst (R k) (sym d) r, among_more ms m k (inl refl))
      back l (inr x) = let q = a.back l x in (q.0, q.1, among_more ms m q.0 (inr q.2))

  pub recounted_alike : (ms ns : List Monitor) → MonitorsAlike R ms ns → (count k j : ℕ) → R k j → MonitorsAlike R (recounted ms k count) (recounted ns j count)
  recounted_alike ms ns a count k j r = record {
    held = λ i l q. subst (λ x. Options Held x (monitor_in (recounted ns j count) l)) (sym (in_recounted ms k count i)) (subst (λ y. Options Held (elim (nat_eq k i) as (λ _. Option Monitor) [ true ↦ option_map (counted count) (monitor_in ms i) | false ↦ monitor_in ms i ]) y) (sym (in_recounted ns j count l)) (by i l (nat_eq k i) (nat_eq j l) (equal k j i l r q) (a.held i l q)));
    forth = λ i x. subst (λ os. (l : ℕ) × R i l × Among l os) (sym (objects_recounted ns j count)) (a.forth i (subst (Among i) (objects_recounted ms k count) x));
    back = λ l x. subst (λ os. (i : ℕ) × R i l × Among i os) (sym (objects_recounted ms k count)) (a.back l (subst (Among l) (objects_recounted ns j count) x));
    once = subst AllDistinct (sym (objects_recounted ms k count)) a.once;
    once' = subst AllDistinct (sym (objects_recounted ns j count)) a.once';
  }
    where
      by : (i l : ℕ) (b c : Bool) → b ≡ c → Options Held (monitor_in ms i) (monitor_in ns l) → Options Held (elim b as (λ _. Option Monitor) [ true ↦ option_map (counted count) (monitor_in ms i) | false ↦ monitor_in ms i ]) (elim c as (λ _. Option Monitor) [ true ↦ option_map (counted count) (monitor_in ns l) | false ↦ monitor_in ns l ])
      by i l true true d h = count_held count _ _ h
      by i l false false d h = h
      by i l true false d h = cc
      by i l false true d h = cc

  pub left_alike : (ms ns : List Monitor) → MonitorsAlike R ms ns → (k j : ℕ) → R k j → MonitorsAlike R (without_monitor ms k) (without_monitor ns j)
  left_alike ms ns a k j r = record {
    held = λ i l q. subst (λ x. Options Held x (monitor_in (without_monitor ns j) l)) (sym (in_left ms k i a.once)) (subst (λ y. Options Held (elim (nat_eq k i) as (λ _. Option Monitor) [ true ↦ None | false ↦ monitor_in ms i ]) y) (sym (in_left ns j l a.once')) (by i l (nat_eq k i) (nat_eq j l) (equal k j i l r q) (a.held i l q)));
    forth = λ i x. forth i (subst (Among i) (objects_left ms k) x);
    back = λ l x. back l (subst (Among l) (objects_left ns j) x);
    once = subst AllDistinct (sym (objects_left ms k)) (distinct_without (held_objects ms) k a.once);
    once' = subst AllDistinct (sym (objects_left ns j)) (distinct_without (held_objects ns) j a.once');
  }
    where
      by : (i l : ℕ) (b c : Bool) → b ≡ c → Options Held (monitor_in ms i) (monitor_in ns l) → Options Held (elim b as (λ _. Option Monitor) [ true ↦ None | false ↦ monitor_in ms i ]) (elim c as (λ _. Option Monitor) [ true ↦ None | false ↦ monitor_in ns l ])
      by i l true true d h = neither
      by i l false false d h = h
      by i l true false d h = cc
      by i l false true d h = cc

      forth : (i : ℕ) → Among i (without (held_objects ms) k) → (l : ℕ) × R i l × Among l (held_objects (without_monitor ns j))
      forth i x = let q = a.forth i (still_among (held_objects ms) k i x) in
          (q.0, q.1, subst (Among q.0) (sym (objects_left ns j)) (other_among (held_objects ns) j q.0 (λ e. none_without (held_objects ms) k a.once (subst (λ z. Among z (without (held_objects ms) k)) (one_number R equal i k j (subst (R i) e q.1) r) x)) q.2))

      back : (l : ℕ) → Among l (without (held_objects ns) j) → (i : ℕ) × R i l × Among i (held_objects (without_monitor ms k))
      back l x = let q = a.back l (still_among (held_objects ns) j l x) in
          (q.0, q.1, subst (Among q.0) (sym (objects_left ms k)) (other_among (held_objects ms) k q.0 (λ e. none_without (held_objects ns) j a.once' (subst (λ z. Among z (without (held_objects ns) j)) (one_name R equal k l j (subst (λ z. R z l) e q.1) r) x)) q.2))
