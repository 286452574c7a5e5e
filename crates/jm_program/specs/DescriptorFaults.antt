-- When a text is refused as a descriptor.
use Rattle.std.specs.Prelude.{◌≡◌, ℕ, List, Option, Some, None, Result, Ok, Err, IsTrue, false}
use Rattle.jm_program.specs.Descriptors.{Spells, HasShape, is_descriptor}
use Rattle.jm_program.specs.declared.descriptor.Descriptor.{Descriptor}
use Rattle.jm_program.specs.declared.fault.DescriptorFault.{DescriptorFault}
use Rattle.jm_program.specs.declared.fault.DescriptorFault.TheVariants.{BadDescriptor, BadName, OutOfMemory}

-- Ok is what the text spells. 1 comes where the text has the shape of no descriptor, 2 where it
-- has the shape of one with a name that is none. Want of memory says nothing.
abbrev pub Parses : List ℕ → Result Descriptor DescriptorFault → Type 0
Parses text (Ok d) = Spells text d
Parses text (Err BadDescriptor) = (d : Descriptor) → ¬ (HasShape text d)
Parses text (Err BadName) = (d : Descriptor) × HasShape text d × ¬ (IsTrue (is_descriptor d))
Parses text (Err OutOfMemory) = Unit {0}

-- nothing was read, unless memory ran out
abbrev pub Fails : {Y : Type 0} → DescriptorFault → Option Y → Type 0
Fails BadDescriptor read = read ≡ None
Fails BadName read = ⊥
Fails OutOfMemory read = Unit {0}

-- what a function returned is what is read
abbrev pub GivesShape : {X : Type 0} → Result X DescriptorFault → Option X → Type 0
GivesShape (Ok x) read = read ≡ Some x
GivesShape (Err fault) read = Fails fault read

-- the same, seen by view
abbrev pub GivesFront : {X Y : Type 0} → (X → Y) → Result X DescriptorFault → Option Y → Type 0
GivesFront view (Ok x) read = read ≡ Some (view x)
GivesFront view (Err fault) read = Fails fault read

-- a descriptor that was read, once its names were tested
abbrev pub NamesOf : Descriptor → Result Descriptor DescriptorFault → Type 0
NamesOf d (Ok e) = (d ≡ e) × IsTrue (is_descriptor d)
NamesOf d (Err BadName) = is_descriptor d ≡ false
NamesOf d (Err _) = ⊥
