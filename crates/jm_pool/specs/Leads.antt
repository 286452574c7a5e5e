-- The bits that a first byte of a code unit gives are few (JVMS 4.4.7).
use Rattle.std.specs.Prelude.{◌<◌}
use Rattle.jm_class_format.specs.declared.constant_pool.Lead.{Lead}
use Rattle.jm_class_format.specs.declared.constant_pool.Lead.TheVariants.{One, Two, Three}

abbrev pub HasFewBits : Lead → Type 0
HasFewBits (One bits) = bits < 128
HasFewBits (Two bits) = bits < 32
HasFewBits (Three bits) = bits < 16
