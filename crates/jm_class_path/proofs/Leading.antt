-- Lookups that lead from one search to another, and one more.
use Rattle.std.proofs.Common.{◌≡◌, ℕ, ◌+◌, ◌-◌, ◌<◌, List, [], ◌∷◌, ◌++◌, length, Option, Some, None, refl, sym, ap, ap₂, subst, ◌∙◌, append-nil, arith, length-append}
use Rattle.std.specs.Prelude.{IfSome, map, option_map}
use Rattle.std.proofs.lemmas.List.{map_push}
use Rattle.std.proofs.lemmas.List.Concat.{flat_map-append}
use Rattle.std.proofs.lemmas.List.Elements.{All-push}
use Rattle.jm_program.specs.declared.class.ClassParts.{ClassParts}
use Rattle.jm_class_path.specs.declared.folders.Found.{Found}
use Rattle.jm_class_path.specs.Lookups.{Finds, IsLookup, Lead, Lookup, class_of_found, if_found, step_of}
use Rattle.jm_class_path.specs.Search.{Leads, Search, Step, looked_for, next_name}
use Rattle.jm_class_path.specs.Uses.{Name}
use Rattle.jm_class_path.proofs.Steps.{one_step_more}

same_some : {A : Type 0} (a b : A) → Some a ≡ Some b → a ≡ b
same_some a b e = cc

pub no_lookup : {F : Type 0} (finds : Finds F) (from to : Search) (files : List F) → to ≡ from → files ≡ [] → Lead finds from to files
no_lookup {F} finds from to files same none = record { lookups = []; each = λ k d lt. absurd (omega arith); led = same; found = none }

-- the search behind a name that was looked for
pub behind_name : (s t : Search) (name : Name) (class : Option ClassParts) → next_name s ≡ Some name
    → option_map (λ n. looked_for s n class) (next_name s) ≡ Some t → looked_for s name class ≡ t
behind_name s t name class next is = same_some _ _ (sym (ap (option_map (λ n. looked_for s n class)) next) ∙ is)

known_more : (s : Search) (name : Name) (class : Option ClassParts) → (looked_for s name class).known ≡ s.known ++ name ∷ []
known_more s name None = refl
known_more s name (Some class) = refl

-- one name more is known
pub one_known : (s t : Search) (name : Name) (class : Option ClassParts) → looked_for s name class ≡ t → length t.known ≡ length s.known + 1
one_known s t name class is = ap (λ (u : Search). length u.known) (sym is) ∙ ap length (known_more s name class) ∙ length-append s.known (name ∷ [])

module _ {F : Type 0} (finds : Finds F) (from s t : Search) (files more : List F) (name : Name) (found : Option (F × Option ClassParts)) where
  pub one_lookup_more : Lead finds from s files → next_name s ≡ Some name → IfSome found (λ f. finds name f.0 f.1)
      → looked_for s name (class_of_found found) ≡ t → more ≡ files ++ if_found found → Lead finds from t more
  one_lookup_more lead next is after longer =
      let l : Lookup F = record { name = name; found = found } in
      let led : Leads from (map step_of lead.lookups ++ step_of l ∷ []) (looked_for s name (class_of_found found)) =
      one_step_more from s (map step_of lead.lookups) name (class_of_found found) lead.led next in
      record {
        lookups = lead.lookups ++ l ∷ [];
        each = All-push (IsLookup finds) lead.lookups l lead.each is;
        led = subst (λ (steps : List Step). Leads from steps t) (sym (map_push step_of lead.lookups l)) (subst (λ (u : Search). Leads from (map step_of lead.lookups ++ step_of l ∷ []) u) after led);
        found =
            longer ∙ ap₂ (λ (a b : List F). a ++ b) lead.found (sym (append-nil (if_found found)))
            ∙ sym (flat_map-append (λ (k : Lookup F). if_found k.found) lead.lookups (l ∷ []));
      }

pub falls_short : (n a b : ℕ) → b ≡ a + 1 → a < n → n - b < n - a
falls_short n a b more few = omega arith

-- what is found, as a pair
abbrev pub pair_of : {F : Type 0} → Option (Found F) → Option (F × Option ClassParts)
pair_of found = option_map (λ f. (f.file, f.class)) found

pub finds_pair : {F : Type 0} (finds : F → Option ClassParts → Type 0) (found : Option (Found F)) → IfSome found (λ f. finds f.file f.class) → IfSome (pair_of found) (λ p. finds p.0 p.1)
finds_pair finds None is = tt
finds_pair finds (Some f) is = is
