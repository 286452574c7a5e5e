-- What a collection leaves, beside what is kept.
use Rattle.std.specs.Prelude.{◌≡◌, ◌≢◌, ◌<◌, ℕ, List, Some}
use Rattle.jm_values.specs.Objects.{ObjectOf}
use Rattle.jm_values.specs.Content.{Content, Kept, Reached, serial_at, object_at}
use Rattle.jm_heap.specs.declared.heap.Kind.{Kind}
use Rattle.jm_heap.specs.declared.heap.Kind.TheVariants.{Minor, Full}

-- what is left is as it was
abbrev pub IsAsBefore : {T : Type 0} → Content T → Content T → Type 0
IsAsBefore old new = (k : ℕ) (o : ObjectOf _) → object_at new k ≡ Some o → object_at old k ≡ Some o

-- what is left, beside what has the next serial, is as it was
abbrev pub IsAsBeforeMaking : {T : Type 0} → Content T → Content T → Type 0
IsAsBeforeMaking old new = (k : ℕ) (o : ObjectOf _) → k ≢ old.next → object_at new k ≡ Some o → object_at old k ≡ Some o

-- what is left, of what had been made before, is as it was
abbrev pub AreAsBeforeMaking : {T : Type 0} → Content T → Content T → Type 0
AreAsBeforeMaking old new = (k : ℕ) (o : ObjectOf _) → k < old.next → object_at new k ≡ Some o → object_at old k ≡ Some o

-- a full collection leaves only what is reached
abbrev pub LeavesReached : {T : Type 0} → Kind → Content T → List ℕ → Content T → Type 0
LeavesReached Minor old roots new = Unit {0}
LeavesReached Full old roots new = (k : ℕ) (o : ObjectOf _) → object_at new k ≡ Some o → Reached old roots k

-- what is reached keeps its place
abbrev pub IsUnmoved : {T : Type 0} → Content T → List ℕ → Content T → Type 0
IsUnmoved old roots new = (p k : ℕ) → Reached old roots k → serial_at old p ≡ Some k → serial_at new p ≡ Some k

-- what is left where all was collected or nothing, and nothing moved
pub record IsTidied {T : Type 0} (old : Content T) (roots : List ℕ) (new : Content T) : Type 0 where
  pub kept : Kept old roots new roots
  pub next : new.next ≡ old.next
  pub as_before : IsAsBefore old new
  pub places : IsUnmoved old roots new

-- what a full collection that moves nothing leaves
pub record Collected {T : Type 0} (old : Content T) (roots : List ℕ) (new : Content T) : Type 0 where
  pub kept : Kept old roots new roots
  pub next : new.next ≡ old.next
  pub as_before : IsAsBefore old new
  pub only : (k : ℕ) (o : ObjectOf T) → object_at new k ≡ Some o → Reached old roots k
  pub places : IsUnmoved old roots new

-- what a collection of a kind leaves that moves nothing, nor the roots: a minor one leaves all as it was
abbrev pub LeavesUnmoved : {T : Type 0} → Kind → Content T → Content T → List ℕ → List ℕ → Type 0
LeavesUnmoved Minor old new roots moved = (new ≡ old) × (moved ≡ roots)
LeavesUnmoved Full old new roots moved = Collected old roots new × (moved ≡ roots)
