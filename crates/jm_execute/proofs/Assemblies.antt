-- What the bytes of an assembly say of its text.
use Rattle.std.proofs.Common.{◌≡◌, List, ℕ, Result, Ok, Err, subst, ap, sym}
use Rattle.std.specs.Prelude.{Vec, IfOk}
use Rattle.std.specs.declared.alloc.Global.{Global}
use Rattle.jm_class_format.specs.ClassFile.{Spells}
use Rattle.jm_execute.specs.Refusals.{Gives, GivesAssembled}
use Rattle.jm_execute.specs.declared.refusal.Obstacle.{Obstacle}
use Rattle.jm_execute.proofs.Chains.{hindered}
use Rattle.jm_bytes.specs.Reading.{and_then, fault_as}
use Rattle.jm_program.specs.declared.class.ClassParts.{ClassParts}
use Rattle.jm_class_writer.specs.ClassParts.{written}
use Rattle.jm_class_writer.specs.declared.fault.WriteFault.{WriteFault}
use Rattle.jm_jasmin_ops.specs.declared.fault.AsmFault.{AsmFault}
use Rattle.jm_execute.specs.ProgramFiles.{in_text}
use Rattle.jm_execute.specs.Reasons as reason
use Rattle.jm_execute.specs.Verdicts.{Cause, Verdict, assembles, because, written_class}

-- the end of the chain: the class of a text of this name and its bytes
abbrev pub of_written : List ℕ → ClassParts → Result (List ℕ) WriteFault → Verdict
of_written name class bytes = and_then (fault_as (λ fault. because (reason.no_class_file name fault)) bytes) (λ bytes. Ok (assembles class bytes))

abbrev pub of_denoted : List ℕ → Result ClassParts AsmFault → Verdict
of_denoted name denoted = and_then (fault_as (λ fault. because (reason.no_class name (in_text fault))) denoted) (λ class. of_written name class (written class))

bytes_of_written : (name : List ℕ) (made class : ClassParts) (bytes : List ℕ) (w : Result (List ℕ) WriteFault) → of_written name made w ≡ Ok (assembles class bytes) → (made ≡ class) × (w ≡ Ok bytes)
bytes_of_written name made class bytes (Ok b) h = (cc, cc)
bytes_of_written name made class bytes (Err e) h = absurd cc

pub class_of_denoted : (name : List ℕ) (denoted : Result ClassParts AsmFault) (class : ClassParts) (bytes : List ℕ) → of_denoted name denoted ≡ Ok (assembles class bytes) → (denoted ≡ Ok class) × (written class ≡ Ok bytes)
class_of_denoted name (Ok made) class bytes h =
    let (same, is) = bytes_of_written name made class bytes (written made) h in
    (cc, subst (λ c. written c ≡ Ok bytes) same is)
class_of_denoted name (Err e) class bytes h = absurd cc

-- ---- the steps of an assembly

pub assembled_by : (r : Result (Vec ℕ Global) Obstacle) (name : List ℕ) (class : ClassParts) → Gives r (written_class name class) (λ b. b.items) → IfOk r (λ b. Spells b.items class)
    → GivesAssembled r (and_then (written_class name class) (λ bytes. Ok (assembles class bytes)))
assembled_by (Ok b) name class is spelled = record { class = class; assembles_is = ap (λ s. and_then s (λ bytes. Ok (assembles class bytes))) is; spelled = spelled }
assembled_by (Err o) name class is spelled = hindered (written_class name class) (λ bytes. Ok (assembles class bytes)) o is

pub assembled_next : {A : Type 0} (r : Result (Vec ℕ Global) Obstacle) (step : Result A Cause) (next : A → Verdict) (a : A) → step ≡ Ok a → GivesAssembled r (next a) → GivesAssembled r (and_then step next)
assembled_next r step next a is h = subst (GivesAssembled r) (sym (ap (λ s. and_then s next) is)) h
