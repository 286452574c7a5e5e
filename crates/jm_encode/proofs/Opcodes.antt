-- An instruction from its opcode and its operands.
use Rattle.std.proofs.Common.{◌≡◌, ℕ, List, [], ◌∷◌, Some, refl, sym, arith}
use Rattle.std.proofs.lemmas.List.{append-nil}
use Rattle.jm_bytes.specs.Format.{Format, done, ◌>>=◌}
use Rattle.jm_class_format.specs.declared.opcode.Opcode.{Opcode}
use Rattle.jm_class_format.specs.declared.instruction.IndexedInstr.{IndexedInstr}
use Rattle.jm_class_format.specs.Opcodes.{opcode_at}
use Rattle.jm_class_format.specs.Instructions.{instruction, operands}

pub instruction_text : (at byte : ℕ) (op : Opcode) (back : List ℕ) (instr : IndexedInstr) → opcode_at byte ≡ Some op → (operands at op).Spells back instr → (instruction at).Spells (byte ∷ back) instr
unfolding instruction
instruction_text at byte op back instr e h =
    record {
      front = byte ∷ [];
      back = back;
      value = byte;
      parts = refl;
      first = (refl, omega arith);
      second = record { front = []; back = back; value = op; parts = refl; first = (refl, e); second = h };
    }

-- the last part, and what is made of it
pub last_text : {F A B : Type 0} (f : Format F A) (g : A → B) (text : List ℕ) (x : A) → f.Spells text x → (f >>= (λ x. done (g x))).Spells text (g x)
last_text f g text x h = record { front = text; back = []; value = x; parts = sym (append-nil text); first = h; second = (refl, refl) }
