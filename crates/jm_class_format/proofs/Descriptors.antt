-- A parsed descriptor is the one that a class file's text spells, and its fault the one that comes there.
use Rattle.std.proofs.Common.{◌≡◌, ℕ, Bool, true, false, List, Option, Some, None, Result, Ok, Err, refl}
use Rattle.std.proofs.lemmas.Bool.{false_from_ne_true}
use Rattle.jm_bytes.specs.Reading.{GivesAll, fault_as}
use Rattle.jm_program.specs.Descriptors.{HasShape, is_descriptor}
use Rattle.jm_program.specs.DescriptorFaults.{Parses}
use Rattle.jm_program.specs.DescriptorReading.{whole_descriptor}
use Rattle.jm_program.proofs.NameShapes.{descriptor_shape}
use Rattle.jm_program.proofs.WholeDescriptors.{whole_sound}
use Rattle.jm_program.proofs.Parsing.{shape_read}
use Rattle.jm_program.specs.declared.descriptor.Descriptor.{Descriptor}
use Rattle.jm_program.specs.declared.fault.DescriptorFault.{DescriptorFault}
use Rattle.jm_program.specs.declared.fault.DescriptorFault.TheVariants as descriptor
use Rattle.jm_class_format.specs.declared.read_fault.ReadFault.{ReadFault}
use Rattle.jm_class_format.specs.declared.read_fault.ReadFault.TheVariants as fault
use Rattle.jm_class_format.specs.FileFaults.{of_descriptor}
use Rattle.jm_class_format.specs.Symbols.{descriptor_of}

-- what the shape that was read comes to, once its names are tested
shape_named : (units : List ℕ) (d : Descriptor) (b : Bool) → whole_descriptor units ≡ Some d → is_descriptor d ≡ b → descriptor_of units ≡ (elim b as (λ _. Result Descriptor ReadFault) [ true ↦ Ok d | false ↦ Err fault.BadName ])
unfolding descriptor_of
shape_named units d true read test = rw (read, test) refl
shape_named units d false read test = rw (read, test) refl

no_shape : (units : List ℕ) → whole_descriptor units ≡ None → descriptor_of units ≡ Err fault.BadDescriptor
unfolding descriptor_of
no_shape units read = rw read refl

none_read : (units : List ℕ) (o : Option Descriptor) → whole_descriptor units ≡ o → ((d : Descriptor) → ¬ (HasShape units d)) → whole_descriptor units ≡ None
none_read units None read none = read
none_read units (Some d) read none = absurd (none d (whole_sound units d read))

pub descriptor_parsed : (units : List ℕ) (r : Result Descriptor DescriptorFault) → Parses units r → GivesAll (λ d. d) fault.OutOfMemory (fault_as of_descriptor r) (descriptor_of units)
descriptor_parsed units (Ok d) h = shape_named units d true (shape_read units d (h.0, descriptor_shape d h.1)) h.1
descriptor_parsed units (Err descriptor.BadDescriptor) h = λ other. no_shape units (none_read units (whole_descriptor units) refl h)
descriptor_parsed units (Err descriptor.BadName) h = λ other. shape_named units h.0 false (shape_read units h.0 h.1) (false_from_ne_true (is_descriptor h.0) h.2)
descriptor_parsed units (Err descriptor.OutOfMemory) h = λ other. absurd (other refl)
