-- What a text that is parsed as a descriptor is as the type of a method.
use Rattle.std.proofs.Common.{◌≡◌, ℕ, List, Option, Some, None, IsTrue, Bool, true, false, refl}
use Rattle.std.specs.Prelude.{Ok, Err}
use Rattle.jm_program.specs.DescriptorFaults.{Parses}
use Rattle.jm_program.specs.DescriptorReading.{whole_descriptor}
use Rattle.jm_program.specs.declared.fault.DescriptorFault.{DescriptorFault}
use Rattle.jm_program.specs.declared.fault.DescriptorFault.TheVariants.{BadDescriptor, BadName, OutOfMemory}
use Rattle.jm_program.specs.Descriptors.{HasShape, Spells, is_descriptor, is_method_type}
use Rattle.jm_program.specs.declared.descriptor.Descriptor.{Descriptor}
use Rattle.jm_program.specs.declared.descriptor.Descriptor.TheVariants.{Field, Method}
use Rattle.jm_program.specs.declared.descriptor.FieldType.{FieldType}
use Rattle.jm_program.specs.declared.descriptor.MethodDescriptor.{MethodDescriptor}
use Rattle.jm_program.proofs.NameShapes.{descriptor_shape}
use Rattle.jm_program.proofs.Parsing.{shape_read}
use Rattle.jm_program.proofs.WholeDescriptors.{whole_sound}
use Rattle.jm_debug.specs.Commands.{◌>>=◌, method_of, method_type}

spelled : (text : List ℕ) (d : Descriptor) → Spells text d → method_type text ≡ method_of d
spelled text d spells = let shape : HasShape text d = (spells.0, descriptor_shape d spells.1) in rw (shape_read text d shape) refl

pub of_a_method : (text : List ℕ) (d : Descriptor) (m : MethodDescriptor) → Parses text (Ok d) → d ≡ Method m → method_type text ≡ Some m
of_a_method text d m spells is =
    let spells-m : Spells text (Method m) = rw is at spells in
    let fits : is_method_type m ≡ true = spells-m.1 in
    rw (spelled text (Method m) spells-m, fits) refl

pub of_a_field : (text : List ℕ) (d : Descriptor) (t : FieldType) → Parses text (Ok d) → d ≡ Field t → method_type text ≡ None
of_a_field text d t spells is = rw (spelled text d spells, is) refl

none_read : (text : List ℕ) (read : Option Descriptor) → whole_descriptor text ≡ read → ((d : Descriptor) → HasShape text d → ⊥) → (read >>= method_of) ≡ None
none_read text None is none = refl
none_read text (Some d) is none = absurd (none d (whole_sound text d is))

unnamed_on : (m : MethodDescriptor) (fits : Bool) → is_method_type m ≡ fits → (IsTrue (is_method_type m) → ⊥) → method_of (Method m) ≡ None
unnamed_on m true is not = absurd (not is)
unnamed_on m false is not = rw is refl

unnamed : (d : Descriptor) → (IsTrue (is_descriptor d) → ⊥) → method_of d ≡ None
unnamed (Field t) not = refl
unnamed (Method m) not = unnamed_on m (is_method_type m) refl not

-- a text that was refused, unless memory ran out
pub of_no_shape : (text : List ℕ) (fault : DescriptorFault) → Parses text (Err fault) → fault ≡ BadDescriptor → method_type text ≡ None
of_no_shape text BadDescriptor none is = none_read text (whole_descriptor text) refl none
of_no_shape text BadName named is = cc
of_no_shape text OutOfMemory said is = cc

pub of_a_bad_name : (text : List ℕ) (fault : DescriptorFault) → Parses text (Err fault) → fault ≡ BadName → method_type text ≡ None
of_a_bad_name text BadDescriptor none is = cc
of_a_bad_name text BadName named is = rw (shape_read text named.0 named.1) (unnamed named.0 named.2)
of_a_bad_name text OutOfMemory said is = cc
