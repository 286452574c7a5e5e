-- The first empty range among the items that are left, at the i-th.
use Rattle.std.proofs.Common.{◌≡◌, ℕ, suc, ◌+◌, ◌<◌, ◌≤◌, List, ◌∷◌, length, get_or, drop, Option, Some, None, sym, ap, ◌∙◌, add-one, arith, length-drop, drop-cons}
use Rattle.std.proofs.lemmas.List.{nil_from_length}
use Rattle.jm_class_format.specs.Symbols.{or_else}
use Rattle.jm_jasmin_ops.specs.declared.fault.AsmFault.{AsmFault}
use Rattle.jm_jasmin.specs.declared.item.Item.{Item}
use Rattle.jm_jasmin.specs.Body.{empty_range_in, empty_range}

at_item : (v : List ℕ → Option ℕ) (n : ℕ) (is : List Item) (i : ℕ) (x : Item) → i < length is → x ≡ get_or is i x → empty_range v n (drop i is) ≡ or_else (empty_range_in v n x) (empty_range v n (drop (i + 1) is))
unfolding empty_range
at_item v n is i x lt same =
    let here : drop i is ≡ x ∷ drop (i + 1) is = drop-cons is i x lt ∙ rw add-one (ap (λ (z : Item). z ∷ drop (suc i) is) (sym same)) in
    ap (empty_range v n) here

pub ranges_next : (v : List ℕ → Option ℕ) (n : ℕ) (is : List Item) (i : ℕ) (x : Item) → i < length is → x ≡ get_or is i x → empty_range_in v n x ≡ None → empty_range v n (drop i is) ≡ empty_range v n (drop (i + 1) is)
ranges_next v n is i x lt same none = at_item v n is i x lt same ∙ ap (λ (o : Option AsmFault). or_else o (empty_range v n (drop (i + 1) is))) none

pub ranges_found : (v : List ℕ → Option ℕ) (n : ℕ) (is : List Item) (i : ℕ) (x : Item) (e : AsmFault) → i < length is → x ≡ get_or is i x → empty_range_in v n x ≡ Some e → empty_range v n (drop i is) ≡ Some e
ranges_found v n is i x e lt same found = at_item v n is i x lt same ∙ ap (λ (o : Option AsmFault). or_else o (empty_range v n (drop (i + 1) is))) found

pub ranges_done : (v : List ℕ → Option ℕ) (n : ℕ) (is : List Item) (i : ℕ) → length is ≤ i → empty_range v n (drop i is) ≡ None
unfolding empty_range
ranges_done v n is i le = ap (empty_range v n) (nil_from_length (drop i is) (omega (arith, length-drop i is)))

pub ruleset range_steps = (ranges_next, ranges_found, ranges_done)
