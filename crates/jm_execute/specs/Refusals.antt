-- What a step answers: what its definition says, or the refusal that says why there is nothing.
use Rattle.std.specs.declared.alloc.Global.{Global}
use Rattle.std.specs.Prelude.{◌≡◌, ℕ, Vec, Result, Ok, Err, Bool, ⊤}
use Rattle.jm_execute.specs.ProgramFiles.{in_text, in_class_file}
use Rattle.jm_execute.specs.Reasons.{Reason, not_read, no_class, no_class_file, not_linked, heap_too_small, no_event}
use Rattle.jm_execute.specs.Verdicts.{Cause, because, Verdict}
use Rattle.jm_program.specs.declared.class.ClassParts.{ClassParts}
use Rattle.jm_execute.specs.ClassTexts.{IsTextOf}
use Rattle.jm_execute.specs.Endings.{Assembles}
use Rattle.jm_execute.specs.declared.disassembly.ClassText.{ClassText}
use Rattle.jm_execute.specs.declared.refusal.Refusal.{Refusal}
use Rattle.jm_execute.specs.declared.refusal.Refusal.TheVariants as refusal
use Rattle.jm_execute.specs.declared.refusal.Obstacle.{Obstacle}
use Rattle.jm_execute.specs.declared.refusal.Obstacle.TheVariants.{Refused, OutOfMemory}

-- the reason that it says
abbrev pub reason_of : Refusal → Reason
reason_of (refusal.NotRead file) = not_read file.now
reason_of (refusal.BadClass file fault) = no_class file.now (in_class_file fault)
reason_of (refusal.BadText file fault) = no_class file.now (in_text fault)
reason_of (refusal.Unwritten file fault) = no_class_file file.now fault
reason_of (refusal.Unlinked fault) = not_linked fault
reason_of refusal.HeapTooSmall = heap_too_small
reason_of (refusal.BadSchedule line) = no_event line

-- nothing is there, for that reason; memory may be refused at any time
abbrev pub Hinders : {A : Type 0} → Result A Cause → Obstacle → Type 0
Hinders said (Refused r) = said ≡ Err (because (reason_of r))
Hinders said OutOfMemory = ⊤

-- the answer, seen so, is what is said
abbrev pub Gives : {A B : Type 0} → Result B Obstacle → Result A Cause → (B → A) → Type 0
Gives (Ok answer) said view = said ≡ Ok (view answer)
Gives (Err obstacle) said view = Hinders said obstacle

-- the bytes of the class file, which spell the class
abbrev pub GivesAssembled : Result (Vec ℕ Global) Obstacle → Verdict → Type 0
GivesAssembled (Ok bytes) v = Assembles v bytes.items
GivesAssembled (Err obstacle) v = Hinders v obstacle

-- the text of the class that is said
abbrev pub GivesText : Bool → Result ClassText Obstacle → Result ClassParts Cause → Type 0
GivesText commented (Ok text) said = (class : ClassParts) × (said ≡ Ok class) × IsTextOf commented class text
GivesText commented (Err obstacle) said = Hinders said obstacle
