-- Access flags (JVMS 4.1, 4.5, 4.6).
use Rattle.std.specs.Prelude.{ℕ, Bool, bit_and, ◌==◌}
use Rattle.jm_program.specs.declared.flags.AccessFlags.{AccessFlags}

-- all bits of the mask are set
abbrev pub has : ℕ → AccessFlags → Bool
has mask flags = bit_and flags.bits mask == mask

abbrev pub is_private : AccessFlags → Bool
is_private = has 0x0002

abbrev pub is_static : AccessFlags → Bool
is_static = has 0x0008

-- of a method
abbrev pub is_synchronized : AccessFlags → Bool
is_synchronized = has 0x0020

-- of a method
abbrev pub is_native : AccessFlags → Bool
is_native = has 0x0100

-- of a class
abbrev pub is_interface : AccessFlags → Bool
is_interface = has 0x0200

abbrev pub is_abstract : AccessFlags → Bool
is_abstract = has 0x0400
