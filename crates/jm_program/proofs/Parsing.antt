-- What was read as a descriptor, or was not, is what the text spells.
use Rattle.std.proofs.Common.{◌≡◌, ℕ, Bool, true, false, List, Option, Some, None, refl, sym, ap, subst, ◌∙◌, IsTrue}
use Rattle.std.specs.Prelude.{Result, Ok, Err}
use Rattle.jm_program.specs.DescriptorReading.{whole_descriptor}
use Rattle.jm_program.specs.DescriptorFaults.{Parses, Fails, NamesOf}
use Rattle.jm_program.specs.Descriptors.{descriptor_text, is_descriptor, is_shape, HasShape, Spells}
use Rattle.jm_program.specs.declared.descriptor.Descriptor.{Descriptor}
use Rattle.jm_program.specs.declared.fault.DescriptorFault.{DescriptorFault}
use Rattle.jm_program.specs.declared.fault.DescriptorFault.TheVariants.{BadDescriptor, BadName, OutOfMemory}
use Rattle.std.proofs.lemmas.Option.{same_Some}
use Rattle.jm_program.proofs.NameShapes.{descriptor_shape}
use Rattle.jm_program.proofs.WholeDescriptors.{whole_sound, whole_complete}

-- a text that has the shape of a descriptor is read as it
pub shape_read : (text : List ℕ) (d : Descriptor) → HasShape text d → whole_descriptor text ≡ Some d
shape_read text d h = ap whole_descriptor h.0 ∙ whole_complete d h.1

-- what became of the descriptor that was read
pub named : (text : List ℕ) (d : Descriptor) (r : Result Descriptor DescriptorFault) → whole_descriptor text ≡ Some d → NamesOf d r → Parses text r
named text d (Ok e) read is = subst (λ (x : Descriptor). (text ≡ descriptor_text x) × IsTrue (is_descriptor x)) is.0 ((whole_sound text d read).0, is.1)
named text d (Err BadName) read other = (d, whole_sound text d read, λ is. cc)
named text d (Err BadDescriptor) read never = absurd never
named text d (Err OutOfMemory) read never = tt

pub refused : (text : List ℕ) (fault : DescriptorFault) → Fails fault (whole_descriptor text) → Parses text (Err fault)
refused text BadDescriptor none = λ d shape. let read = shape_read text d shape in cc
refused text BadName never = absurd never
refused text OutOfMemory none = tt

pub one_shape : (text : List ℕ) (d e : Descriptor) → HasShape text d → HasShape text e → d ≡ e
one_shape text d e h k = same_Some d e (sym (shape_read text d h) ∙ shape_read text e k)

pub one_spelling : (text : List ℕ) (d e : Descriptor) → Spells text d → Spells text e → d ≡ e
one_spelling text d e h k = one_shape text d e (h.0, descriptor_shape d h.1) (k.0, descriptor_shape e k.1)
