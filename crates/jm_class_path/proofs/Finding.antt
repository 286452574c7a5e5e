-- Files that are found in some places are found in more.
use Rattle.std.proofs.Common.{◌≡◌, ℕ, ◌<◌, List, [], ◌∷◌, length, get_or, zero, suc, true, sym, ap, subst, Contains, map, arith}
use Rattle.std.specs.List.{flat_map}
use Rattle.std.specs.Prelude.{Option, Some, None, Result, Ok, Err, IfOk, IfSome, if◌then◌else◌}
use Rattle.std.proofs.lemmas.List.Elements.{Contains-append_left, Contains-append_right}
use Rattle.jm_program.specs.declared.class.ClassParts.{ClassParts}
use Rattle.jm_class_path.specs.Files.{FileFacts, IsFoundAs, IsFoundIn}
use Rattle.jm_class_path.specs.Places.{paths_below, places, stays_below}
use Rattle.jm_class_path.specs.Uses.{Name}
use Rattle.jm_class_path.specs.declared.folders.Found.{Found}

-- what one of a list comes to is among what they all come to
contains_of_one : {X Y : Type 0} (g : X → Y) (f : Y → List (List ℕ)) (xs : List X) (i : ℕ) (x : X) (p : List ℕ) → i < length xs → x ≡ get_or xs i x → Contains (f (g x)) p
    → Contains (flat_map f (map g xs)) p
contains_of_one g f [] i x p lt is there = absurd (omega arith)
contains_of_one g f (z ∷ zs) zero x p lt is there = Contains-append_left (f (g z)) (flat_map f (map g zs)) p (subst (λ w. Contains (f (g w)) p) is there)
contains_of_one g f (z ∷ zs) (suc i) x p lt is there = Contains-append_right (f (g z)) (flat_map f (map g zs)) p (contains_of_one g f zs i x p (omega arith) is there)

in_more : {F : Type 0} (facts : FileFacts F) (xs ys : List (List ℕ)) (name : Name) (file : F) (class : Option ClassParts) → ((p : List ℕ) → Contains xs p → Contains ys p)
    → IsFoundIn facts xs name file class → IsFoundIn facts ys name file class
in_more facts xs ys name file class more f = record { lies = more (facts.name_of file) f.lies; is_read = f.is_read; holds = f.holds; named = f.named }

-- the second of two places
second_of : (a b t : List ℕ) → t ≡ b → (p : List ℕ) → Contains (t ∷ []) p → Contains (a ∷ b ∷ []) p
second_of a b t same p there = Contains-append_right (a ∷ []) (b ∷ []) p (subst (λ x. Contains (x ∷ []) p) same there)

module _ {F E : Type 0} (facts : FileFacts F) (a b t : List ℕ) (name : Name) (same : t ≡ b) where
  pub in_second_place : (r : Result (Option (Found F)) E) → IfOk r (λ found. IfSome found (λ f. IsFoundIn facts (t ∷ []) name f.file f.class))
      → IfOk r (λ found. IfSome found (λ f. IsFoundIn facts (a ∷ b ∷ []) name f.file f.class))
  in_second_place (Ok None) is = is
  in_second_place (Ok (Some f)) is = in_more facts (t ∷ []) (a ∷ b ∷ []) name f.file f.class (second_of a b t same) is
  in_second_place (Err e) is = is

module _ {F X : Type 0} (facts : FileFacts F) (bytes_of : X → List ℕ) (folders : List X) (name : Name) (stays : stays_below name ≡ true) where
  all_places : flat_map (paths_below name) (map bytes_of folders) ≡ places (map bytes_of folders) name
  all_places = ap (λ b. if b then flat_map (paths_below name) (map bytes_of folders) else []) (sym stays)

  -- what is found below one of the folders
  in_one_folder : (i : ℕ) (folder : X) → i < length folders → folder ≡ get_or folders i folder → (file : F) (class : Option ClassParts)
      → IsFoundIn facts (paths_below name (bytes_of folder)) name file class → IsFoundAs facts (map bytes_of folders) name file class
  in_one_folder i folder lt is file class found =
      in_more facts (paths_below name (bytes_of folder)) (places (map bytes_of folders) name) name file class
      (λ p there. subst (λ (ps : List (List ℕ)). Contains ps p) all_places (contains_of_one bytes_of (paths_below name) folders i folder p lt is there)) found

  pub below_one_folder : (i : ℕ) (folder : X) → i < length folders → folder ≡ get_or folders i folder → (text : List ℕ) → text ≡ bytes_of folder
      → (found : Option (Found F)) (f : Found F) → found ≡ Some f → IfSome found (λ f. IsFoundIn facts (paths_below name text) name f.file f.class)
      → IsFoundAs facts (map bytes_of folders) name f.file f.class
  below_one_folder i folder lt is text same found f there so =
      let here : IsFoundIn facts (paths_below name text) name f.file f.class = subst (λ (o : Option (Found F)). IfSome o (λ f. IsFoundIn facts (paths_below name text) name f.file f.class)) there so in
      in_one_folder i folder lt is f.file f.class (subst (λ t. IsFoundIn facts (paths_below name t) name f.file f.class) same here)
