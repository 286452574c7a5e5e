-- What is told of a main class that is named and not there.
use Rattle.std.specs.Prelude.{◌≡◌, ◌⊎◌, ℕ, List, Some}
use Rattle.jm_class_path.specs.Uses.{Name}
use Rattle.jm_execute.specs.Endings.{LinesTold}
use Rattle.jm_execute.specs.Reasons.{not_linked, reason_line}
use Rattle.jm_execute.specs.Reports.{memory_line}
use Rattle.jm_execute.specs.Written.{Watch, Words}
use Rattle.jm_explain.specs.declared.status.Status.{Status}
use Rattle.jm_explain.specs.declared.status.Status.TheVariants as ends
use Rattle.jm_linker.specs.declared.fault.LinkFault.TheVariants.{NoClass}

-- as linking tells of a class that is not there
abbrev pub no_class_line : Name → List ℕ
no_class_line name = reason_line (not_linked (NoClass name))

-- the line and the status say so, or that memory was refused
abbrev pub TellsNoMain : {E : Type 0} → Words E → Name → Status → Watch E → Watch E → Type 0
TellsNoMain w name status err new_err =
    ((status ≡ ends.Refused) × LinesTold w (Some (no_class_line name)) new_err.failed err new_err)
    ⊎ ((status ≡ ends.OutOfMemory) × LinesTold w (Some memory_line) new_err.failed err new_err)
