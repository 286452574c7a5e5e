-- A search among entries, and one among what they say; a search in one group after another; the lines of one group after another.
use Rattle.std.proofs.Common.{◌≡◌, Bool, true, false, cond, List, [], ◌∷◌, ◌++◌, Option, Some, None, refl, sym, ap, ap₂, ◌∙◌}
use Rattle.std.specs.Prelude.{find, map, ◌||◌}
use Rattle.std.specs.List.{list_any}
use Rattle.std.specs.Option.{option_map, option_or}
use Rattle.jm_explain.specs.Items.{Item, item}
use Rattle.jm_explain.specs.declared.entry.Entry.{Entry}

pub any_viewed : {X Y : Type 0} (view : X → Y) (is : Y → Bool) (xs : List X) → list_any (λ (x : X). is (view x)) xs ≡ list_any is (map view xs)
any_viewed view is [] = refl
any_viewed view is (x ∷ xs) = ap (λ (b : Bool). is (view x) || b) (any_viewed view is xs)

chosen : {X Y : Type 0} (view : X → Y) (b : Bool) (x : X) (o : Option X) (p : Option Y) → option_map view o ≡ p → option_map view (cond b (Some x) o) ≡ cond b (Some (view x)) p
chosen view true x o p same = refl
chosen view false x o p same = same

pub find_viewed : {X Y : Type 0} (view : X → Y) (is : Y → Bool) (xs : List X) → option_map view (find (λ (x : X). is (view x)) xs) ≡ find is (map view xs)
find_viewed view is [] = refl
find_viewed {X} view is (x ∷ xs) = chosen view (is (view x)) x (find (λ (x : X). is (view x)) xs) (find is (map view xs)) (find_viewed view is xs)

chosen_or : {Y : Type 0} (b : Bool) (y : Y) (o p q : Option Y) → o ≡ option_or p q → cond b (Some y) o ≡ option_or (cond b (Some y) p) q
chosen_or true y o p q same = refl
chosen_or false y o p q same = same

find_in_two : {Y : Type 0} (is : Y → Bool) (ys zs : List Y) → find is (ys ++ zs) ≡ option_or (find is ys) (find is zs)
find_in_two is [] zs = refl
find_in_two is (y ∷ ys) zs = chosen_or (is y) y (find is (ys ++ zs)) (find is ys) (find is zs) (find_in_two is ys zs)

mapped_or : {X Y : Type 0} (view : X → Y) (p q : Option X) → option_map view (option_or p q) ≡ option_or (option_map view p) (option_map view q)
mapped_or view None q = refl
mapped_or view (Some x) q = refl

-- what a group's entries give, a search in the group gives
pub found_first : (is : Item → Bool) (es : List Entry) (group : List Item) (r : Option Entry) → map item es ≡ group → option_map item r ≡ find is (map item es)
    → option_map item r ≡ find is group
found_first is es group r same found = found ∙ ap (find is) same

-- a search in groups and then in one more
pub found_or : (is : Item → Bool) (es : List Entry) (all group : List Item) (p q r : Option Entry) → map item es ≡ group → option_map item p ≡ find is all
    → option_map item q ≡ find is (map item es) → r ≡ option_or p q → option_map item r ≡ find is (all ++ group)
found_or is es all group p q r same first second both =
    ap (option_map item) both ∙ mapped_or item p q ∙ ap₂ option_or first (found_first is es group q same second) ∙ sym (find_in_two is all group)
