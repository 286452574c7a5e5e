-- Variables, operands, literals and static fields; what there is not.
use Rattle.std.specs.Prelude.{List, [], ◌∷◌, refl, codes, negsuc}
use Rattle.jm_program.specs.declared.class.ClassParts.{ClassParts}
use Rattle.jm_program.specs.declared.instruction.plain.Simple.TheVariants as simple
use Rattle.jm_program.specs.declared.instruction.operation.SmallLong.TheVariants as small_long
use Rattle.jm_program.specs.declared.instruction.operation.ShortIndex.TheVariants as short
use Rattle.jm_program.specs.declared.instruction.operation.OperandType.TheVariants as operand
use Rattle.jm_world.specs.Written.{main, one_byte, ldc_int, ldc_text, aconst_null, return}
use Rattle.jm_debug.proofs.Sessions.Computed.{answers_within, Goes}

abbrev values : List ClassParts
values = main (
    one_byte (simple.LongConstant small_long.One) ∷ one_byte (simple.Store operand.Long short.Two) ∷ ldc_int (negsuc 6) ∷ one_byte (simple.Store operand.Int short.One)
    ∷ ldc_text (codes "hi") ∷ aconst_null ∷ one_byte (simple.LongConstant small_long.Zero) ∷ return ∷ []) ∷ []

each_kind_of_value : Goes values (
    (codes "locals 1 0", codes "none\n")
    ∷ (codes "locals 1 1", codes "0 = #1\n")
    ∷ (codes "step 1 10", codes "done\n")
    ∷ (codes "locals 1 0", codes "0 = #1\n1 = int -7\n2 = long 1\n")
    ∷ (codes "stack 1 0", codes "0 = #3\n1 = null\n2 = long 0\n")
    ∷ (codes "object #3", codes "#3 java/lang/String 3 cells\njava/lang/String.value [C = #2\n")
    ∷ (codes "object #2", codes "#2 [C 4 cells\n[0] = int 104\n[1] = int 105\n")
    ∷ (codes "statics java/lang/System", codes "out Ljava/io/PrintStream; = #0\n")
    ∷ (codes "statics Main", codes "none\n")
    ∷ (codes "monitors", codes "none\n")
    ∷ [])
unfolding answers_within
each_kind_of_value = refl

what_there_is_not : Goes values (
    (codes "where 0", codes "? 81 NoSuch\n")
    ∷ (codes "where 2", codes "? 81 NoSuch\n")
    ∷ (codes "locals 0 0", codes "? 81 NoSuch\n")
    ∷ (codes "locals 2 0", codes "? 81 NoSuch\n")
    ∷ (codes "locals 1 2", codes "? 81 NoSuch\n")
    ∷ (codes "stack 1 18446744073709551615", codes "? 81 NoSuch\n")
    ∷ (codes "object #4", codes "? 81 NoSuch\n")
    ∷ (codes "statics A", codes "? 81 NoSuch\n")
    ∷ (codes "statics [C", codes "? 81 NoSuch\n")
    ∷ (codes "step 2", codes "none\n")
    ∷ (codes "step 0 3", codes "none\n")
    ∷ (codes "step 1 12", codes "ended\n")
    ∷ (codes "locals 1 0", codes "? 81 NoSuch\n")
    ∷ (codes "where 1", codes "ended\n")
    ∷ [])
unfolding answers_within
what_there_is_not = refl
