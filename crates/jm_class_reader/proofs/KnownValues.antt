-- A known value is found by its use, and stays known beside others.
use Rattle.std.proofs.Common.{◌≡◌, ◌+◌, ◌≤◌, ℕ, Bool, true, false, cond, List, [], ◌∷◌, Option, Some, None, Result, Ok, refl, ap, subst, ◌∙◌}
use Rattle.std.specs.Map.{lookup}
use Rattle.std.specs.Option.{unwrap_or}
use Rattle.indexmap.specs.IndexMap.{IndexMap, get, insert_entry}
use Rattle.std.specs.Option.{ok_or}
use Rattle.std.proofs.lemmas.Bool.{leb-true}
use Rattle.jm_bytes.specs.Reading.{and_then}
use Rattle.jm_program.specs.Descriptors.{argument_slots}
use Rattle.jm_program.specs.declared.descriptor.MethodDescriptor.{MethodDescriptor}
use Rattle.jm_class_format.specs.Symbols.{method_type_of}
use Rattle.jm_class_format.proofs.SymbolsFit.{method_type_kept}
use Rattle.jm_class_format.specs.declared.constant_pool.Entry.{Entry}
use Rattle.jm_class_format.specs.declared.read_fault.ReadFault.{ReadFault}
use Rattle.jm_class_format.specs.FileFaults.{bad_index}
use Rattle.jm_class_format.specs.PoolLookups.{text_at}
use Rattle.jm_class_reader.specs.Known.{of_text, Known}

abbrev never : {A : Type 0} → Option A → Type 0
never None = Unit {0}
never (Some x) = ⊥

module _ {U A : Type 0} (eq : U → U → Bool) (sound : (a b : U) → eq a b ≡ true → a ≡ b) (spelled : U → Result A ReadFault) where
  looked_up : (u : U) (es : List (U × A)) (x : A) → Known spelled es → lookup (eq u) es ≡ Some x → spelled u ≡ Ok x
  looked_up u [] x known none = absurd (subst never none tt)
  looked_up u (e ∷ es) x known found = by (eq u e.0) refl (looked_up u es x known.1) found
    where
      by : (b : Bool) → eq u e.0 ≡ b → (lookup (eq u) es ≡ Some x → spelled u ≡ Ok x) → cond b (Some e.1) (lookup (eq u) es) ≡ Some x → spelled u ≡ Ok x
      by true same rest here = rw (sound u e.0 same) (known.0 ∙ ap (λ o. Ok (unwrap_or o e.1)) here)
      by false other rest there = rest there

  pub found : {S : Type 0} (m : IndexMap U A S) (u : U) (x : A) → Known spelled m.entries → get eq m u ≡ Some x → spelled u ≡ Ok x
  found m u x known there = looked_up u m.entries x known there

  pub kept : (es : List (U × A)) (u : U) (x : A) → Known spelled es → spelled u ≡ Ok x → Known spelled (insert_entry eq es u x)
  kept [] u x known is = (is, tt)
  kept (e ∷ es) u x known is = by (eq u e.0) refl (kept es u x known.1 is)
    where
      by : (b : Bool) → eq u e.0 ≡ b → Known spelled (insert_entry eq es u x) → Known spelled (cond b ((e.0, x) ∷ es) (e ∷ insert_entry eq es u x))
      by true same rest = (subst (λ v. spelled v ≡ Ok x) (sound u e.0 same) is, known.1)
      by false other rest = (known.0, rest)

-- what the text spells that stands at an index
pub at_text : {A : Type 0} (pool : List Entry) (spelled : List ℕ → Result A ReadFault) (index : ℕ) (units : List ℕ) → text_at pool index ≡ Some units → of_text pool spelled index ≡ spelled units
at_text pool spelled index units stands = ap (λ o. and_then (ok_or o (bad_index index)) spelled) stands

-- the slots of a method type that was read
pub method_few : (receiver : ℕ) (units : List ℕ) (d : MethodDescriptor) → method_type_of receiver units ≡ Ok d → argument_slots d + receiver ≤ 255
method_few receiver units d h = leb-true (argument_slots d + receiver) 255 (method_type_kept receiver units d h).2
