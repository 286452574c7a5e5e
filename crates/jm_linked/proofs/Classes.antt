-- The classes of a linked program.
use Rattle.std.proofs.Common.{◌≡◌, ℕ, zero, suc, List, [], ◌∷◌, Option, Some, None, Bool, true, false, refl, ap, ◌∙◌, subst}
use Rattle.std.specs.Prelude.{slice_get, slice_set, ◌||◌, unwrap_or}
use Rattle.std.specs.Cmp.Lexicographic as texts
use Rattle.jm_program.specs.Names.{same_text}
use Rattle.jm_program.specs.declared.class.ClassParts.{ClassParts}
use Rattle.jm_program.proofs.Texts.{text_itself}
use Rattle.jm_program.proofs.Truths.{right_false}
use Rattle.jm_world.specs.Classes.{class_among, class_named}
use Rattle.jm_world.specs.Loads.{Loads, refusal, duplicates, is_named_among, when, duplicate_class}
use Rattle.jm_world.specs.World.{Progress, state_in, set_state_in}
use Rattle.jm_world.specs.declared.class_state.ClassState.{ClassState}
use Rattle.jm_world.proofs.Refusing.{not_refused, first_none, second_none}
use Rattle.jm_linked.specs.Links.{NamesClass, class_name_of}
use Rattle.jm_linked.specs.Named.{named_states}
use Rattle.jm_linked.proofs.BuiltIns.{AreOthers}

pub left_false : (a b : Bool) → (a || b) ≡ false → a ≡ false
left_false true b e = cc
left_false false b e = refl

others_of : (name : List ℕ) (seen : List ClassParts) → is_named_among seen name ≡ false → AreOthers name seen
others_of name [] e = tt
others_of name (c ∷ cs) e = (
  left_false (same_text c.name name) (is_named_among cs name) e,
  others_of name cs
      (right_false (same_text c.name name) (is_named_among cs name) e),
)

-- a class is named otherwise than those before it
fresh : (seen cs : List ClassParts) (k : ℕ) (d : ClassParts) → duplicates seen cs ≡ None → slice_get cs k ≡ Some d → AreOthers d.name seen
fresh seen [] k d e at = cc
fresh seen (c ∷ cs) zero d e at =
    let s : c ≡ d = cc in
    subst (λ (x : ClassParts). AreOthers x.name seen) s
    (others_of c.name seen (not_refused (is_named_among seen c.name) (duplicate_class c.name)
    (first_none (when (is_named_among seen c.name) (duplicate_class c.name)) (duplicates (c ∷ seen) cs) e)))
fresh seen (c ∷ cs) (suc k) d e at = (fresh (c ∷ seen) cs k d
    (second_none (when (is_named_among seen c.name) (duplicate_class c.name)) (duplicates (c ∷ seen) cs) e) at).1

after : (seen : List ClassParts) (c : ClassParts) (cs : List ClassParts) → duplicates seen (c ∷ cs) ≡ None → duplicates (c ∷ seen) cs ≡ None
after seen c cs e = second_none (when (is_named_among seen c.name) (duplicate_class c.name)) (duplicates (c ∷ seen) cs) e

-- the state of the class of a number
state_found : (seen cs : List ClassParts) (ss : List ClassState) (k : ℕ) (d : ClassParts) (s : ClassState) → duplicates seen cs ≡ None → slice_get cs k ≡
    Some d → slice_get ss k ≡ Some s → state_in (named_states cs ss) d.name ≡ s
state_found seen [] ss k d s e at there = cc
state_found seen (c ∷ cs) [] k d s e at there = cc
state_found seen (c ∷ cs) (t ∷ ss) zero d s e at there =
    let x : c ≡ d = cc in
    let y : t ≡ s = cc in
    ap (λ (z : ClassParts). elim (same_text z.name d.name) as (λ _. ClassState) [ true ↦ t | false ↦ state_in (named_states cs ss) d.name ]) x
    ∙ ap (λ b. elim b as (λ _. ClassState) [ true ↦ t | false ↦ state_in (named_states cs ss) d.name ]) (text_itself d.name)
    ∙ y
state_found seen (c ∷ cs) (t ∷ ss) (suc k) d s e at there =
    ap (λ b. elim b as (λ _. ClassState) [ true ↦ t | false ↦ state_in (named_states cs ss) d.name ]) (fresh (c ∷ seen) cs k d (after seen c cs e) at).0
    ∙ state_found (c ∷ seen) cs ss k d s (after seen c cs e) at there

state_set : (seen cs : List ClassParts) (ss : List ClassState) (k : ℕ) (d : ClassParts) (s : ClassState) → duplicates seen cs ≡ None → slice_get cs k ≡ Some
    d → set_state_in (named_states cs ss) d.name s ≡ named_states cs (slice_set ss k s)
state_set seen [] ss k d s e at = cc
state_set seen (c ∷ cs) [] k d s e at = refl
state_set seen (c ∷ cs) (t ∷ ss) zero d s e at =
    let x : c ≡ d = cc in
    let rest = named_states cs ss in
    let both : List Progress = record { class = c.name; state = s } ∷ rest in
    ap (λ (z : ClassParts). elim (same_text z.name d.name) as (λ _. List Progress)
    [ true ↦ both | false ↦ record { class = c.name; state = t } ∷ set_state_in rest d.name s ]) x
    ∙ ap (λ b. elim b as (λ _. List Progress) [ true ↦ both | false ↦ record { class = c.name; state = t } ∷ set_state_in rest d.name s ]) (text_itself d.name)
state_set seen (c ∷ cs) (t ∷ ss) (suc k) d s e at =
    let rest = named_states cs ss in
    ap (λ b. elim b as (λ _. List Progress) [
      | true ↦ record { class = c.name; state = s } ∷ rest
      | false ↦ record { class = c.name; state = t } ∷
          set_state_in rest d.name s
    ]) (fresh (c ∷ seen) cs k d (after seen c cs e) at).0
    ∙ ap (λ l. let p : Progress = record { class = c.name; state = t } in p ∷ l) (state_set (c ∷ seen) cs ss k d s (after seen c cs e) at)

class_found : (seen cs : List ClassParts) (k : ℕ) (d : ClassParts) → duplicates seen cs ≡ None → slice_get cs k ≡ Some d → class_among cs d.name ≡ Some d
class_found seen [] k d e at = cc
class_found seen (c ∷ cs) zero d e at =
    let x : c ≡ d = cc in
    ap (λ (z : ClassParts). elim (same_text z.name d.name) as (λ _. Option ClassParts) [ true ↦ Some z | false ↦ class_among cs d.name ]) x
    ∙ ap (λ b. elim b as (λ _. Option ClassParts) [ true ↦ Some d | false ↦ class_among cs d.name ]) (text_itself d.name)
class_found seen (c ∷ cs) (suc k) d e at =
    ap (λ b. elim b as (λ _. Option ClassParts) [ true ↦ Some c | false ↦ class_among cs d.name ]) (fresh (c ∷ seen) cs k d (after seen c cs e) at).0
    ∙ class_found (c ∷ seen) cs k d (after seen c cs e) at

pub distinct : (program : List ClassParts) → Loads program → duplicates [] program ≡ None
unfolding refusal
distinct program e = first_none _ _ e

pub state_is : (program : List ClassParts) → Loads program → (ss : List ClassState) (k : ℕ) (d : ClassParts) (s : ClassState) → slice_get program k ≡ Some d
    → slice_get ss k ≡ Some s → state_in (named_states program ss) d.name ≡ s
state_is program loads ss k d s at there = state_found [] program ss k d s (distinct program loads) at there

pub states_set : (program : List ClassParts) → Loads program → (ss : List ClassState) (k : ℕ) (d : ClassParts) (s : ClassState) → slice_get program k ≡ Some
    d → set_state_in (named_states program ss) d.name s ≡ named_states program (slice_set ss k s)
states_set program loads ss k d s at = state_set [] program ss k d s (distinct program loads) at

pub class_is : (program : List ClassParts) → Loads program → (k : ℕ) (d : ClassParts) → slice_get program k ≡ Some d → class_named program d.name ≡ Some d
unfolding class_named
class_is program loads k d at = class_found [] program k d (distinct program loads) at

-- the name of a class by its number
pub class_name_is : (program : List ClassParts) (n : ℕ) (name : List ℕ) → NamesClass program n name → class_name_of program n ≡ name
unfolding class_name_of
class_name_is program n name named = ap (λ o. unwrap_or o []) named
