-- Uses that are equal to the map are the same.
use Rattle.std.proofs.Common.{rules, ◌≡◌, true}
use Rattle.jm_class_reader.specs.declared.symbols.NameUse.{NameUse}
use Rattle.jm_class_reader.specs.declared.symbols.MethodTypeUse.{MethodTypeUse}
use Rattle.jm_class_reader.specs.declared.operand.Operand.{Operand}
use Rattle.jm_class_reader.specs.contracts.symbols.NameUsePartialEq.TheImpl as name_use
use Rattle.jm_class_reader.specs.contracts.symbols.MethodTypeUsePartialEq.TheImpl as method_type_use
use Rattle.jm_class_reader.specs.contracts.operand.OperandPartialEq.TheImpl as operand_use

pub same_name : (a b : NameUse) → name_use.ghosts.eq a b ≡ true → a ≡ b
same_name a b h = search rules

pub same_method_type : (a b : MethodTypeUse) → method_type_use.ghosts.eq a b ≡ true → a ≡ b
same_method_type a b h = search rules

pub same_operand : (a b : Operand) → operand_use.ghosts.eq a b ≡ true → a ≡ b
same_operand a b h = search rules
