-- What a call that writes a class gave is a class file that spells the class.
use Rattle.std.proofs.Common.{◌≡◌, ℕ, List, Result, Ok, Err, OnOk, IfOk, IfErr, sym, ap, ◌∙◌}
use Rattle.jm_bytes.specs.Reading.{GivesAll}
use Rattle.jm_program.specs.Fits.{Fits}
use Rattle.jm_program.specs.declared.class.ClassParts.{ClassParts}
use Rattle.jm_class_format.specs.ClassFile.{Spells, class_file}
use Rattle.jm_class_writer.specs.declared.fault.WriteFault.{WriteFault}
use Rattle.jm_class_writer.specs.declared.fault.WriteFault.TheVariants.{TooMany, OutOfMemory}
use Rattle.jm_class_writer.specs.ClassParts.{written}
use Rattle.jm_class_writer.specs.Ranges.{InRange}
use Rattle.jm_class_writer.specs.Limits.{WithinLimits}
use Rattle.jm_class_writer.proofs.BodyLaws.{code_law}
use Rattle.jm_class_writer.proofs.FileLaws.{written_spelled}
use Rattle.jm_class_writer.proofs.LimitLaws.{never_too_many}

pub spelled_given : {V : Type 0} (items : V → List ℕ) (c : ClassParts) (r : Result V WriteFault) → Fits c → OnOk r (InRange c) → GivesAll items OutOfMemory r (written c) → IfOk r (λ v. Spells (items v) c)
spelled_given items c (Ok v) fits range given = written_spelled code_law c (items v) range fits given
spelled_given items c (Err e) fits range given = tt

pub read_back_given : {V : Type 0} (items : V → List ℕ) (c : ClassParts) (r : Result V WriteFault) → Fits c → OnOk r (InRange c) → GivesAll items OutOfMemory r (written c) → IfOk r (λ v. class_file.read (items v) ≡ Ok c)
read_back_given items c (Ok v) fits range given = class_file.complete (items v) c (written_spelled code_law c (items v) range fits given)
read_back_given items c (Err e) fits range given = tt

pub limit_given : {V : Type 0} (items : V → List ℕ) (c : ClassParts) (r : Result V WriteFault) → Fits c → GivesAll items OutOfMemory r (written c) → IfErr r (λ e. e ≡ TooMany → ¬ (WithinLimits c))
limit_given items c (Ok v) fits given = tt
limit_given items c (Err e) fits given = λ is within.
    (let other : ¬ (e ≡ OutOfMemory) = λ memory. (let same : TooMany ≡ OutOfMemory = sym is ∙ memory in absurd cc) in
    never_too_many c within fits (given other ∙ ap (λ (f : WriteFault). Err f) is))
