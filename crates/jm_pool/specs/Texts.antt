-- Texts of a pool that are handed out with their indexes.
use Rattle.std.specs.Prelude.{◌≡◌, List, Some}
use Rattle.jm_class_format.specs.declared.constant_pool.Entry.{Entry}
use Rattle.jm_class_format.specs.PoolLookups.{text_at}
use Rattle.jm_pool.specs.declared.look_ups.Text.{Text}
use Rattle.jm_pool.specs.declared.look_ups.Member.{Member}

-- the code units stand at the index
abbrev pub Stands : List Entry → Text → Type 0
Stands pool text = text_at pool text.index ≡ Some text.units.now

-- those of a class, of a name and of a descriptor
abbrev pub AllStand : List Entry → Member → Type 0
AllStand pool member = Stands pool member.class × Stands pool member.name × Stands pool member.descriptor
