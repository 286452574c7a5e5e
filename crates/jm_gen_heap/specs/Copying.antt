-- What a collection by a collector leaves of stores, and what is put in the place of others.
use Rattle.std.specs.Prelude.{◌≡◌, ℕ, List}
use Rattle.jm_blocks.specs.Stores.{Blocks, store_cells}
use Rattle.jm_nursery.specs.Nurseries.{Young}
use Rattle.jm_copy.specs.Collected.{IsCollected}
use Rattle.jm_gen_heap.specs.Collections.{AreSurvivors, AreWhole, IsWhole}

-- the first nursery has the young survivors
pub record IsCopied
    (condemned : List Blocks) (before : Blocks) (roots : List ℕ)
    (nurseries : List Blocks) (tenured : Blocks) (promoted new_roots : List ℕ) : Type 0 where
  pub young : Blocks
  pub survivors : AreSurvivors young nurseries
  pub collected : IsCollected condemned before roots young tenured promoted new_roots

-- nurseries and a store of old objects, whose cells are counted, were put in the place of others
pub record ArePutIn (before after : Young) (nurseries : List Blocks) (store tenured : Blocks) (count : ℕ) : Type 0 where
  pub young : after ≡ record { limit = before.limit; lanes = nurseries }
  pub old : tenured ≡ store
  pub counted : count ≡ store_cells store.lists
  pub young_whole : AreWhole nurseries
  pub old_whole : IsWhole store
