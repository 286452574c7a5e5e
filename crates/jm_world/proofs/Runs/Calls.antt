-- Arguments, results, literals and superclasses.
use Rattle.std.specs.Prelude.{◌≡◌, ℕ, List, [], ◌∷◌, Some, refl, codes, pos}
use Rattle.jm_program.specs.declared.class.ClassParts.{ClassParts}
use Rattle.jm_program.specs.declared.constant.Constant.TheVariants as constant
use Rattle.jm_program.specs.declared.descriptor.MethodDescriptor.{MethodDescriptor}
use Rattle.jm_program.specs.declared.instruction.symbolic.Instr.TheVariants as instr
use Rattle.jm_program.specs.declared.instruction.plain.Simple.TheVariants as simple
use Rattle.jm_program.specs.declared.instruction.operation.Integral.TheVariants as integral
use Rattle.jm_program.specs.declared.instruction.operation.Arithmetic.TheVariants as arithmetic
use Rattle.jm_program.specs.declared.instruction.operation.Conversion.TheVariants as conversion
use Rattle.jm_program.specs.declared.instruction.operation.OperandType.TheVariants as operand
use Rattle.jm_program.specs.declared.instruction.operation.SmallInt.{SmallInt}
use Rattle.jm_program.specs.declared.instruction.operation.SmallInt.TheVariants as small
use Rattle.jm_program.specs.declared.instruction.operation.ShortIndex.TheVariants as short
use Rattle.jm_values.specs.declared.value.Value.TheVariants.{Ref}
use Rattle.jm_values.specs.declared.fault.TagFault.TheVariants as fault
use Rattle.jm_world.specs.World.{live_among}
use Rattle.jm_world.specs.Written.{main, class, class_below, main_method, method, field, iconst, one_byte, pop, getstatic, invokestatic, out, println, int, long, return, ireturn, nothing_to, nothing_to_nothing, new, ldc_text, code_with}
use Rattle.jm_world.specs.declared.stop.Stop.TheVariants as stop
use Rattle.jm_world.proofs.Runs.Computed.{computed, steps, operands, where_is, in_method}

-- a long argument takes two local variables: f(long, int) is their difference
abbrev difference : MethodDescriptor
difference = record { parameters = long ∷ int ∷ []; return_type = Some int }

abbrev with_long : List ClassParts
with_long = class (codes "Main") [] (
    main_method [] (out ∷ instr.Constant (constant.Long (pos 50)) ∷ iconst small.Three ∷ invokestatic (codes "Main") (codes "f") difference ∷ println int ∷ return ∷ [])
    ∷ method 0x0008 (codes "f") difference
    (one_byte (simple.Load operand.Long short.Zero) ∷ one_byte (simple.Convert conversion.LongToInt) ∷ one_byte (simple.Load operand.Int short.Two) ∷ one_byte (simple.Arithmetic arithmetic.Sub integral.Int) ∷ ireturn ∷ [])
    ∷ []) ∷ []

a_long_takes_two_locals : (computed with_long (steps 14 1)).output ≡ codes "47\n"
unfolding computed
a_long_takes_two_locals = refl

-- a result that the caller has no room for stops the world at the return, and changes nothing else
abbrev no_room : List ClassParts
no_room = class (codes "Main") [] (
    main_method [] (invokestatic (codes "Main") (codes "g") nothing_to_nothing ∷ return ∷ [])
    ∷ record (method 0x0008 (codes "g") nothing_to_nothing []) {
      code = Some (record (code_with [] (invokestatic (codes "Main") (codes "h") (nothing_to int) ∷ pop ∷ return ∷ [])) { max_stack = 0 });
    }
    ∷ method 0x0008 (codes "h") (nothing_to int) (iconst small.Five ∷ ireturn ∷ [])
    ∷ []) ∷ []

no_room_for_a_result : (computed no_room (steps 7 1)).stop ≡ Some (stop.TagFault fault.Overflow)
unfolding computed
no_room_for_a_result = refl

the_return_is_not_made : where_is (computed no_room (steps 7 1)) 1 ≡ in_method (codes "Main") (codes "h") 1 ∷ in_method (codes "Main") (codes "g") 0 ∷ in_method (codes "Main") (codes "main") 0 ∷ []
unfolding computed
the_return_is_not_made = refl

-- a return of another kind than the method's
another_kind_of_return : (computed (main (iconst small.One ∷ ireturn ∷ []) ∷ []) (steps 5 1)).stop ≡ Some (stop.TagFault fault.WrongTag)
unfolding computed
another_kind_of_return = refl

an_empty_stack_comes_first : (computed (main (ireturn ∷ []) ∷ []) (steps 4 1)).stop ≡ Some (stop.TagFault fault.Underflow)
unfolding computed
an_empty_stack_comes_first = refl

past_the_end : (computed (main (iconst small.One ∷ []) ∷ []) (steps 5 1)).stop ≡ Some (stop.TagFault fault.NoInstruction)
unfolding computed
past_the_end = refl

-- equal literals are one String, numbered after its chars
equal_literals_are_one : operands (computed (main (ldc_text (codes "a") ∷ ldc_text (codes "b") ∷ ldc_text (codes "a") ∷ return ∷ []) ∷ []) (steps 6 1)) 1 ≡ Ref 3 ∷ Ref 5 ∷ Ref 3 ∷ []
unfolding computed
equal_literals_are_one = refl

-- a superclass is initialized before its subclass, once
abbrev says : List ℕ → List ℕ → SmallInt → ClassParts
says superclass name n = class_below superclass [] name (field 0x0008 (codes "x") int ∷ []) (method 0x0008 (codes "<clinit>") nothing_to_nothing (out ∷ iconst n ∷ println int ∷ return ∷ []) ∷ [])

abbrev both_speak : List ClassParts
both_speak = main (new (codes "T") ∷ getstatic (codes "S") (codes "x") int ∷ new (codes "T") ∷ return ∷ [])
    ∷ says (codes "java/lang/Object") (codes "S") small.One ∷ says (codes "S") (codes "T") small.Two ∷ []

a_superclass_speaks_first : (computed both_speak (steps 40 1)).output ≡ codes "1\n2\n"
unfolding computed
a_superclass_speaks_first = refl

and_all_is_done : live_among (computed both_speak (steps 40 1)).threads ≡ 0
unfolding computed
and_all_is_done = refl
