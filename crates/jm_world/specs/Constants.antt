-- ldc of an int or a string, and ldc2_w of a long (JVMS 6.5 ldc, ldc2_w).
use Rattle.std.specs.Prelude.{Some, None}
use Rattle.jm_program.specs.declared.constant.Constant.{Constant}
use Rattle.jm_program.specs.declared.constant.Constant.TheVariants as constant
use Rattle.jm_values.specs.declared.value.Value.TheVariants.{Int, Long, Ref}
use Rattle.jm_values.specs.declared.fault.TagFault.TheVariants.{WrongKind}
use Rattle.jm_world.specs.World.{literal_in}
use Rattle.jm_world.specs.Next.{Next, faults}
use Rattle.jm_world.specs.Here.{Here, push}

-- the String of the literal, which the load has made
abbrev pub row_constant : Here → Constant → Next
row_constant here (constant.Int n) = push here (Int n) here.frame.stack
row_constant here (constant.Long n) = push here (Long n) here.frame.stack
row_constant here (constant.String units) = elim (literal_in here.world.literals units) [ None ↦ faults WrongKind | Some k ↦ push here (Ref k) here.frame.stack ]
