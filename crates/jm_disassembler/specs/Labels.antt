-- The labels of a text, by the numbers of the instructions that they stand before.
use Rattle.std.specs.Prelude.{ℕ, ◌+◌, Bool, true, false, List, [], ◌∷◌, ◌++◌, length, replicate, set, get_or}
use Rattle.std.specs.Fmt.{decimal}
use Rattle.std.specs.List.{flat_map}
use Rattle.jm_program.specs.declared.code.Code.{Code}
use Rattle.jm_program.specs.declared.code.Handler.{Handler}
use Rattle.jm_program.specs.declared.instruction.plain.SwitchPair.{SwitchPair}
use Rattle.jm_program.specs.declared.instruction.plain.Plain.{Plain}
use Rattle.jm_program.specs.declared.instruction.plain.Plain.TheVariants as plain
use Rattle.jm_program.specs.declared.instruction.symbolic.Instr.{Instr}
use Rattle.jm_program.specs.declared.instruction.symbolic.Instr.TheVariants as instr

-- L12
abbrev pub label_name : ℕ → List ℕ
label_name n = 76 ∷ decimal n

-- L12:
abbrev pub label_word : ℕ → List ℕ
label_word n = label_name n ++ 58 ∷ []

-- ---- where labels stand

-- the instructions that an instruction jumps to
abbrev pub pair_targets : List SwitchPair → List ℕ
pair_targets [] = []
pair_targets (p ∷ ps) = p.target ∷ pair_targets ps

abbrev pub plain_targets : Plain → List ℕ
plain_targets (plain.Branch op target) = target ∷ []
plain_targets (plain.TableSwitch t) = t.default ∷ t.targets
plain_targets (plain.LookupSwitch l) = l.default ∷ pair_targets l.pairs
plain_targets _ = []

abbrev pub instr_targets : Instr → List ℕ
instr_targets (instr.Plain p) = plain_targets p
instr_targets _ = []

-- the places of a row of the exception table
abbrev pub handler_places : Handler → List ℕ
handler_places h = h.start ∷ h.end ∷ h.target ∷ []

-- marks, and those of some more places
abbrev pub marked : List Bool → List ℕ → List Bool
marked marks [] = marks
marked marks (p ∷ ps) = marked (set marks p true) ps

-- one mark for each instruction and one behind the last: where a label stands
abbrev pub marks_of : Code → List Bool
marks_of c =
    marked (marked (replicate (length c.instructions + 1) false) (flat_map instr_targets c.instructions)) (flat_map handler_places c.handlers)

-- whether a label stands before the instruction of that number
abbrev pub is_marked : List Bool → ℕ → Bool
is_marked marks n = get_or marks n false
