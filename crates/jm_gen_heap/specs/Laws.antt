-- The laws of the generations, each over what lies at places.
use Rattle.std.specs.Prelude.{ℕ, List}
use Rattle.jm_values.specs.Rename.{refs}
use Rattle.jm_values.specs.Content.{AllResident, IsSet}
use Rattle.jm_values.specs.declared.value.Value.{Value}
use Rattle.jm_heap.specs.Allocation.{MadeHere}
use Rattle.jm_blocks.specs.Objects.{Object}
use Rattle.jm_copy.specs.Image.{bare}
use Rattle.jm_gen_heap.specs.Generations.{Generations}
use Rattle.jm_gen_heap.specs.Residents.{content_of}
use Rattle.jm_gen_heap.specs.Invariant.{AreGenerations}
use Rattle.jm_gen_heap.specs.Steps.{IsNew, IsPut, IsWritten}
use Rattle.jm_gen_heap.specs.Collections.{AreCollected, AreCollectedYoung, LeavesAllReached, LeavesOldAndReached}

-- a new object in a nursery is made as a heap makes it without a collection
abbrev pub PutIsMade : Generations → Generations → Type 0
PutIsMade g h = (p : ℕ) (o : Object) → IsPut g h p o → IsNew g o → MadeHere (content_of g) (content_of h) p (bare o) × AreGenerations h

-- a value that names residents is set as a heap sets it
abbrev pub WrittenIsSet : Generations → Generations → Type 0
WrittenIsSet g h =
    (p i : ℕ) (v : Value) → IsWritten g h p i v → AllResident (content_of g) (refs v) → IsSet (content_of g) (content_of h) p i v × AreGenerations h

-- a full collection leaves exactly what the roots reach
abbrev pub FullLeavesReached : Generations → Generations → Type 0
FullLeavesReached g h = (roots moved : List ℕ) → AllResident (content_of g) roots → AreCollected g h roots moved → LeavesAllReached g h roots moved

-- a minor one leaves exactly the old objects and the young ones that it mapped
abbrev pub MinorLeavesOld : Generations → Generations → Type 0
MinorLeavesOld g h =
    (roots moved : List ℕ) → AllResident (content_of g) roots → AreCollectedYoung g h roots moved → LeavesOldAndReached g h roots moved
