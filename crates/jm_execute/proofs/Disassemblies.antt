-- What the text of a class says of the class of its file.
use Rattle.std.proofs.Common.{◌≡◌, ℕ, List, Bool, Result, Ok, Err, ap, subst, sym}
use Rattle.std.specs.Prelude.{IfErr, IfOk}
use Rattle.jm_bytes.specs.Reading.{and_then}
use Rattle.jm_program.specs.declared.class.ClassParts.{ClassParts}
use Rattle.jm_execute.specs.ClassTexts.{IsTextOf}
use Rattle.jm_execute.specs.Endings.{Disassembles}
use Rattle.jm_execute.specs.Refusals.{GivesText, Hinders}
use Rattle.jm_execute.specs.Verdicts.{Cause, Verdict, disassembles}
use Rattle.jm_execute.specs.declared.disassembly.ClassText.{ClassText}
use Rattle.jm_execute.specs.declared.refusal.Obstacle.{Obstacle}
use Rattle.jm_execute.specs.declared.refusal.Obstacle.TheVariants.{OutOfMemory}

-- the chain behind the class
abbrev pub of_class : List ℕ → Bool → Result ClassParts Cause → Verdict
of_class name commented said = and_then said (λ class. Ok (disassembles name commented class))

pub text_given : (commented : Bool) (r : Result ClassText Obstacle) (said : Result ClassParts Cause) (class : ClassParts) → said ≡ Ok class
    → IfOk r (IsTextOf commented class) → IfErr r (λ o. o ≡ OutOfMemory) → GivesText commented r said
text_given commented (Ok text) said class is made memory = (class, is, made)
text_given commented (Err o) said class is made memory = subst (Hinders said) (sym memory) tt

pub disassembles_by : (name : List ℕ) (commented : Bool) (said : Result ClassParts Cause) (class : ClassParts) (text : ClassText) → said ≡ Ok class → IsTextOf commented class text
    → Disassembles (of_class name commented said) name commented class
disassembles_by name commented said class text is made = record { disassembles_is = ap (of_class name commented) is; denotes = made.denotes }

pub class_said : (name other : List ℕ) (comments commented : Bool) (said : Result ClassParts Cause) (class : ClassParts)
    → of_class name comments said ≡ Ok (disassembles other commented class) → said ≡ Ok class
class_said name other comments commented (Ok made) class h = cc
class_said name other comments commented (Err e) class h = absurd cc
