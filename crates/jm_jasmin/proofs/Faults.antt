-- A fault of a name or a type, as its line has it.
use Rattle.std.proofs.Common.{◌≡◌, ℕ, Result, Err, ap}
use Rattle.jm_bytes.specs.Reading.{fault_as}
use Rattle.jm_class_format.specs.declared.read_fault.ReadFault.{ReadFault}
use Rattle.jm_class_format.specs.declared.read_fault.ReadFault.TheVariants as read
use Rattle.jm_jasmin_ops.specs.Faults.{of_read}
use Rattle.jm_jasmin_ops.specs.declared.fault.AsmFault.TheVariants as fault

pub fault_seen : {A : Type 0} (line : ℕ) (e : ReadFault) (r : Result A ReadFault) → (¬ (e ≡ read.OutOfMemory) → r ≡ Err e) → ¬ (of_read line e ≡ fault.OutOfMemory) → fault_as (of_read line) r ≡ Err (of_read line e)
fault_seen line e r h other = ap (fault_as (of_read line)) (h (λ is. other (ap (of_read line) is)))
