-- A fault at the end of the text is never the want of memory.
use Rattle.std.proofs.Common.{◌≡◌, Result, Err, refl, ap, ◌∙◌}
use Rattle.jm_jasmin_ops.specs.declared.fault.AsmFault.{AsmFault}
use Rattle.jm_jasmin_ops.specs.declared.fault.AsmFault.TheVariants as fault
use Rattle.jm_jasmin.specs.Text.{fault_at_end, with_end}

memory_stays : (end : AsmFault) → fault_at_end end fault.OutOfMemory ≡ fault.OutOfMemory
unfolding fault_at_end
memory_stays end = refl

pub end_seen : {A : Type 0} (end e : AsmFault) (r : Result A AsmFault) → (¬ (e ≡ fault.OutOfMemory) → r ≡ Err e) → ¬ (fault_at_end end e ≡ fault.OutOfMemory) → with_end end r ≡ Err (fault_at_end end e)
unfolding with_end
end_seen end e r h other = rw (h (λ is. other (ap (fault_at_end end) is ∙ memory_stays end))) refl
