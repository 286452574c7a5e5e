-- What is above a class, along its chain.
use Rattle.std.proofs.Common.{◌≡◌, ℕ, zero, suc, ◌+◌, ◌<◌, ◌≤◌, ◌⊎◌, inl, inr, List, [], ◌∷◌, ◌++◌, Option, Some, None, Bool, true, false, length}
use Rattle.std.proofs.Common.{refl, sym, ◌∙◌, ap, subst, arith, slice_get}
use Rattle.std.specs.Prelude.{IfSome, option_map, option_to_list}
use Rattle.jm_program.specs.Names.{same_text}
use Rattle.jm_program.specs.declared.class.ClassParts.{ClassParts}
use Rattle.jm_world.specs.Classes.{class_named, height}
use Rattle.jm_world.specs.Hierarchy.{chain, holds_of_any, is_below, is_subclass, parents, up_from}
use Rattle.jm_tables.specs.declared.extent.DeclaredFields.{DeclaredFields}
use Rattle.jm_tables.specs.Layouts.{AreFields, IsAlong}
use Rattle.jm_tables.specs.Numbering.{name_of}
use Rattle.jm_tables.proofs.LayoutLaws.{there, up_one, rest}

pub any_more : (test more : List ℕ → Bool) → ((x : List ℕ) → test x ≡ true → more x ≡ true) → (xs : List (List ℕ)) → holds_of_any test xs ≡ true
    → holds_of_any more xs ≡ true
any_more test more h [] e = cc
any_more test more h (x ∷ xs) e = by (test x) (more x) (h x) (any_more test more h xs) e
  where
    by : (s t : Bool) → (s ≡ true → t ≡ true) → (holds_of_any test xs ≡ true → holds_of_any more xs ≡ true)
        → (elim s as (λ _. Bool) [ true ↦ true | false ↦ holds_of_any test xs ]) ≡ true
        → (elim t as (λ _. Bool) [ true ↦ true | false ↦ holds_of_any more xs ]) ≡ true
    by s true k later e = refl
    by false false k later e = later e
    by true false k later e = let no : false ≡ true = k refl in cc

-- more steps up find what fewer find
pub below_more_steps : (program : List ClassParts) (n m : ℕ) (name above : List ℕ) → n ≤ m → is_below n program name above ≡ true
    → is_below m program name above ≡ true
below_more_steps program zero m name above l e = cc
below_more_steps program (suc n) zero name above l e = absurd (omega (arith, l))
below_more_steps program (suc n) (suc m) name above l e =
    by (same_text name above)
    (any_more (λ p. is_below n program p above) (λ p. is_below m program p above) (λ p h. below_more_steps program n m p above (omega (arith, l)) h)
    (parents (class_named program name))) e
  where
    by : (t : Bool)
        → (holds_of_any (λ p. is_below n program p above) (parents (class_named program name)) ≡ true
        → holds_of_any (λ p. is_below m program p above) (parents (class_named program name)) ≡ true)
        → (elim t as (λ _. Bool) [ true ↦ true | false ↦ holds_of_any (λ p. is_below n program p above) (parents (class_named program name)) ]) ≡ true
        → (elim t as (λ _. Bool) [ true ↦ true | false ↦ holds_of_any (λ p. is_below m program p above) (parents (class_named program name)) ]) ≡ true
    by true h e = refl
    by false h e = h e

module _ (program : List ClassParts) (names : List (List ℕ)) (classes : List DeclaredFields) (are : AreFields program names classes) (above : List ℕ) where
  abbrev Along : List ClassParts → Type 0
  Along cs = (k : ℕ) × (c : ClassParts) × (slice_get cs k ≡ Some c)
      × ((same_text c.name above ≡ true) ⊎ (holds_of_any (λ i. is_subclass program i above) c.interfaces ≡ true))

  along : (n class : ℕ) → n ≤ height program → class < length names → is_below n program (name_of names class) above ≡ true
      → Along (up_from n program (name_of names class))
  unfolding is_subclass
  along zero class l less e = cc
  along (suc n) class l less e =
      let d = there classes class (omega (arith, less, are.many)) in
      let p = are.each class d.0 d.1 in
      subst Along (sym (up_one program names classes are n class d.0 d.1))
      (by p.parts p.name d.0.superclass (λ s within h. along n s (omega (arith, l)) within h) p.within (same_text (name_of names class) above) refl
      (sym (ap (λ o. elim (same_text (name_of names class) above) as (λ _. Bool) [
        | true ↦ true
        | false ↦ holds_of_any (λ q. is_below n program q above) (parents o)
      ]) p.named
      ∙ ap (λ o. elim (same_text (name_of names class) above) as (λ _. Bool)
      [ true ↦ true | false ↦ holds_of_any (λ q. is_below n program q above) (option_to_list o ++ p.parts.interfaces) ]) (sym p.superclass)) ∙ e))
    where
      interface : (c : ClassParts) (cs : List ClassParts) → holds_of_any (λ q. is_below n program q above) c.interfaces ≡ true → Along (c ∷ cs)
      interface c cs h = (
        0,
        c,
        refl,
        inr (any_more (λ q. is_below n program q above) (λ q. is_below (height program) program q above)
            (λ q g. below_more_steps program n (height program) q above (omega (arith, l)) g) c.interfaces h),
      )

      by : (c : ClassParts) → c.name ≡ name_of names class → (s : Option ℕ)
          → ((k : ℕ) → k < length names → is_below n program (name_of names k) above ≡ true → Along (up_from n program (name_of names k)))
          → IfSome s (λ k. k < length names) → (t : Bool) → same_text (name_of names class) above ≡ t
          → (elim t as (λ _. Bool) [
            | true ↦ true
            | false ↦ holds_of_any (λ q. is_below n program q above) (option_to_list (option_map
                (name_of names) s) ++ c.interfaces)
          ]) ≡ true
          → Along (c ∷ rest program names classes are n s)
      by c name s later within true t e = (0, c, refl, inl (ap (λ m. same_text m above) name ∙ t))
      by c name None later within false t e = interface c [] e
      by c name (Some s) later within false t e = up (is_below n program (name_of names s) above) refl e
        where
          up : (b : Bool) → is_below n program (name_of names s) above ≡ b
              → (elim b as (λ _. Bool) [ true ↦ true | false ↦ holds_of_any (λ q. is_below n program q above) c.interfaces ]) ≡ true
              → Along (c ∷ up_from n program (name_of names s))
          up true b h = let a = later s within b in (suc a.0, a.1, a.2, a.3)
          up false b h = interface c (up_from n program (name_of names s)) h

  pub is_along : (class : ℕ) → class < length names → is_subclass program (name_of names class) above ≡ true → IsAlong program (name_of names class) above
  unfolding is_subclass chain
  is_along class less e = along (height program) class (omega arith) less e
