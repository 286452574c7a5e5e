-- A plain instruction does alike in two frames that are alike.
use Rattle.std.proofs.Common.{◌≡◌, ℕ, List, [], ◌∷◌, Option, Some, None, Bool, true, false, refl, sym, ap, subst, ◌∙◌, inl, inr, ◌⊎◌}
use Rattle.std.specs.Prelude.{map, nat_eq, flat_map}
use Rattle.std.proofs.lemmas.Bool.{eqb-true, eq-eqb}
use Rattle.jm_program.specs.declared.instruction.plain.Plain.{Plain}
use Rattle.jm_values.specs.Shape.{Among, IsOneToOne, Shape, list_shape, option_shape}
use Rattle.jm_values.specs.Activation.{Activation}
use Rattle.jm_values.specs.Outcome.{Outcome}
use Rattle.jm_values.specs.Outcome as outcome
use Rattle.jm_values.specs.Rename.{rename, refs, value_shape, stack_shape, locals_shape, rename_activation, rename_outcome, refs_activation}
use Rattle.jm_values.specs.PlainRows.{row_plain}
use Rattle.jm_values.specs.declared.value.Value.{Value}
use Rattle.jm_values.specs.declared.value.Value.TheVariants.{Int, Long, Null, Ref}
use Rattle.jm_values.proofs.Among.{among_left, among_right}
use Rattle.jm_values.proofs.NaturalRows.{plain_natural}
use Rattle.jm_values.proofs.NoNewReferences.{brings_none}
use Rattle.jm_world.specs.SideBySide.{Values, ints, longs, nulls, Lists, none, more, Options, neither, both, Acts, acts}
use Rattle.jm_world.proofs.WhatComes.{Outcomes}
use Rattle.jm_world.specs.SideBySide as alike
use Rattle.jm_world.proofs.WhatComes as coming
use Rattle.jm_world.proofs.WordsSideBySide.{joined}

-- the references of what is alike are alike, one by one
pub value_refs : {R : ℕ → ℕ → Type 0} (v u : Value) → Values R v u → Lists R (refs v) (refs u)
value_refs _ _ ints = none
value_refs _ _ longs = none
value_refs _ _ nulls = none
value_refs _ _ (alike.refs r) = more r none

pub option_refs_alike : {R : ℕ → ℕ → Type 0} {A : Type 0} (s : Shape A) (P : A → A → Type 0) → ((x y : A) → P x y → Lists R (s.refs x) (s.refs y)) → (o p : Option A) → Options P o p → Lists R ((option_shape s).refs o) ((option_shape s).refs p)
option_refs_alike s P f _ _ neither = none
option_refs_alike s P f _ _ (both a) = f _ _ a

pub flat_alike : {R : ℕ → ℕ → Type 0} {A : Type 0} (g : A → List ℕ) (P : A → A → Type 0) → ((x y : A) → P x y → Lists R (g x) (g y)) → (xs ys : List A) → Lists P xs ys → Lists R (flat_map g xs) (flat_map g ys)
flat_alike g P f _ _ none = none
flat_alike g P f _ _ (more a l) = joined (f _ _ a) (flat_alike g P f _ _ l)

pub stack_refs : {R : ℕ → ℕ → Type 0} (s r : List Value) → Lists (Values R) s r → Lists R (stack_shape.refs s) (stack_shape.refs r)
stack_refs {R = R} s r l = flat_alike refs (Values R) value_refs s r l

pub act_refs : {R : ℕ → ℕ → Type 0} (a b : Activation) → Acts R a b → Lists R (refs_activation a) (refs_activation b)
act_refs {R = R} _ _ (acts ls s) = joined (flat_alike (option_shape value_shape).refs (Options (Values R)) (option_refs_alike value_shape (Values R) value_refs) _ _ ls) (stack_refs _ _ s)

-- the number beside another one
partner : List ℕ → List ℕ → ℕ → ℕ
partner [] js p = p
partner (k ∷ ks) [] p = p
partner (k ∷ ks) (j ∷ js) p = elim (nat_eq p k) [ true ↦ j | false ↦ partner ks js p ]

partner_is : (R : ℕ → ℕ → Type 0) (ks js : List ℕ) → Lists R ks js → (p : ℕ) → Among p ks → R p (partner ks js p)
unfolding partner
partner_is R _ _ none p a = absurd a
partner_is R _ _ (more {x = k} {y = j} {xs = ks} {ys = js} r l) p a = by (nat_eq p k) refl a (λ i. partner_is R ks js l p i)
  where
    by : (b : Bool) → nat_eq p k ≡ b → (p ≡ k) ⊎ Among p ks → (Among p ks → R p (partner ks js p)) → R p (elim b as (λ _. ℕ) [ true ↦ j | false ↦ partner ks js p ])
    by true e i ih = subst (λ x. R x j) (sym (eqb-true p k e)) r
    by false e (inl d) ih = let h : nat_eq p k ≡ true = eq-eqb p k d in cc
    by false e (inr i) ih = ih i

module _ (R : ℕ → ℕ → Type 0) (equal : (k j i l : ℕ) → R k j → R i l → nat_eq k i ≡ nat_eq j l) where
  pub one_name : (k j i : ℕ) → R k j → R k i → j ≡ i
  one_name k j i r q = let h : nat_eq k k ≡ true = eq-eqb k k refl in eqb-true j i (sym (equal k j k i r q) ∙ h)

  pub one_number : (k i j : ℕ) → R k j → R i j → k ≡ i
  one_number k i j r q = let h : nat_eq j j ≡ true = eq-eqb j j refl in eqb-true k i (equal k j i j r q ∙ h)

  module _ (f : ℕ → ℕ) where
    value_named : (v u : Value) → Values R v u → ((p : ℕ) → Among p (refs v) → R p (f p)) → u ≡ rename f v
    value_named _ _ ints h = refl
    value_named _ _ longs h = refl
    value_named _ _ nulls h = refl
    value_named _ _ (alike.refs {k = k} {j = j} r) h = ap Ref (one_name k j (f k) r (h k (inl refl)))

    local_named : (o p : Option Value) → Options (Values R) o p → ((k : ℕ) → Among k ((option_shape value_shape).refs o) → R k (f k)) → p ≡ (option_shape value_shape).rename f o
    local_named _ _ neither h = refl
    local_named _ _ (both a) h = ap Some (value_named _ _ a h)

    list_named : {A : Type 0} (s : Shape A) (P : A → A → Type 0) → ((x y : A) → P x y → ((p : ℕ) → Among p (s.refs x) → R p (f p)) → y ≡ s.rename f x) → (xs ys : List A) → Lists P xs ys → ((p : ℕ) → Among p ((list_shape s).refs xs) → R p (f p)) → ys ≡ map (s.rename f) xs
    list_named s P g _ _ none h = refl
    list_named s P g _ _ (more {x = x} {xs = xs} a l) h = cc (g _ _ a (λ p i. h p (among_left p (s.refs x) ((list_shape s).refs xs) i)), list_named s P g _ _ l (λ p i. h p (among_right p (s.refs x) ((list_shape s).refs xs) i)))

    act_named : (a b : Activation) → Acts R a b → ((p : ℕ) → Among p (refs_activation a) → R p (f p)) → b ≡ rename_activation f a
    act_named _ _ (acts {ls = ls} {s = s} x y) h = cc (
      list_named (option_shape value_shape) (Options (Values R)) local_named _ _ x (λ p i. h p (among_left p (locals_shape.refs ls) (stack_shape.refs s) i)),
      list_named value_shape (Values R) value_named _ _ y (λ p i. h p (among_right p (locals_shape.refs ls) (stack_shape.refs s) i)),
    )

    value_like : (v : Value) → ((p : ℕ) → Among p (refs v) → R p (f p)) → Values R v (rename f v)
    value_like (Int n) h = ints
    value_like (Long n) h = longs
    value_like Null h = nulls
    value_like (Ref k) h = alike.refs (h k (inl refl))

    local_like : (o : Option Value) → ((p : ℕ) → Among p ((option_shape value_shape).refs o) → R p (f p)) → Options (Values R) o ((option_shape value_shape).rename f o)
    local_like None h = neither
    local_like (Some v) h = both (value_like v h)

    list_like : {A : Type 0} (s : Shape A) (P : A → A → Type 0) → ((x : A) → ((p : ℕ) → Among p (s.refs x) → R p (f p)) → P x (s.rename f x)) → (xs : List A) → ((p : ℕ) → Among p ((list_shape s).refs xs) → R p (f p)) → Lists P xs (map (s.rename f) xs)
    list_like s P g [] h = none
    list_like s P g (x ∷ xs) h = more (g x (λ p i. h p (among_left p (s.refs x) ((list_shape s).refs xs) i))) (list_like s P g xs (λ p i. h p (among_right p (s.refs x) ((list_shape s).refs xs) i)))

    act_like : (a : Activation) → ((p : ℕ) → Among p (refs_activation a) → R p (f p)) → Acts R a (rename_activation f a)
    act_like a h = acts (list_like (option_shape value_shape) (Options (Values R)) local_like a.locals (λ p i. h p (among_left p (locals_shape.refs a.locals) (stack_shape.refs a.stack) i)))
        (list_like value_shape (Values R) value_like a.stack (λ p i. h p (among_right p (locals_shape.refs a.locals) (stack_shape.refs a.stack) i)))

  pub plain_alike : (op : Plain) (a b : Activation) → Acts R a b → Outcomes R (row_plain op a) (row_plain op b)
  plain_alike op a b x = subst (λ o. Outcomes R (row_plain op a) o) (sym same) (by (row_plain op a) refl)
    where
      f : ℕ → ℕ
      f = partner (refs_activation a) (refs_activation b)

      is : (p : ℕ) → Among p (refs_activation a) → R p (f p)
      is = partner_is R (refs_activation a) (refs_activation b) (act_refs a b x)

      one : IsOneToOne f (refs_activation a)
      one p q i j e = one_number p q (f q) (subst (R p) e (is p i)) (is q j)

      same : row_plain op b ≡ rename_outcome f (row_plain op a)
      same = ap (row_plain op) (act_named f a b x is) ∙ plain_natural op f a one

      by : (o : Outcome) → row_plain op a ≡ o → Outcomes R o (rename_outcome f o)
      by (outcome.goes c) e = coming.go (act_like f c (λ p i. is p (brings_none (row_plain op) (plain_natural op) a c e p i)))
      by (outcome.throws class) e = coming.throw
      by (outcome.faults fault) e = coming.fault
