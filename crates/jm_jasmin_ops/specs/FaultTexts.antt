-- How a fault is printed: the number and the name, and in round brackets its line or what is left out.
use Rattle.std.specs.Prelude.{ℕ, List, ◌++◌, codes}
use Rattle.std.specs.Fmt.{decimal}
use Rattle.jm_class_format.specs.FaultTexts.{left_out_part_text}
use Rattle.jm_class_format.specs.Mnemonics.{left_out_mnemonic}
use Rattle.jm_jasmin_ops.specs.declared.directive.LeftOutDirective.{LeftOutDirective}
use Rattle.jm_jasmin_ops.specs.declared.directive.LeftOutDirective.TheVariants as directive
use Rattle.jm_jasmin_ops.specs.declared.fault.AsmLeftOut.{AsmLeftOut}
use Rattle.jm_jasmin_ops.specs.declared.fault.AsmLeftOut.TheVariants as what
use Rattle.jm_jasmin_ops.specs.declared.fault.AsmFault.{AsmFault}
use Rattle.jm_jasmin_ops.specs.declared.fault.AsmFault.TheVariants as fault

-- a directive (Jasmin User Guide, "Directives")
unfoldable pub directive_text : LeftOutDirective → List ℕ
directive_text directive.Annotation = codes ".annotation"
directive_text directive.Attribute = codes ".attribute"
directive_text directive.Debug = codes ".debug"
directive_text directive.Deprecated = codes ".deprecated"
directive_text directive.Enclosing = codes ".enclosing"
directive_text directive.Inner = codes ".inner"
directive_text directive.Set = codes ".set"
directive_text directive.Signature = codes ".signature"
directive_text directive.Stack = codes ".stack"

-- what the profile leaves out
unfoldable pub left_out_text : AsmLeftOut → List ℕ
left_out_text (what.Instruction op) = left_out_mnemonic op
left_out_text (what.Part part) = left_out_part_text part
left_out_text what.Offset = codes "numeric branch offset"
left_out_text (what.Directive directive) = directive_text directive

-- why a text is no class
unfoldable pub fault_text : AsmFault → List ℕ
fault_text (fault.BadDescriptor line) = codes "1 BadDescriptor(" ++ decimal line ++ codes ")"
fault_text (fault.BadName line) = codes "2 BadName(" ++ decimal line ++ codes ")"
fault_text (fault.BadToken line) = codes "40 BadToken(" ++ decimal line ++ codes ")"
fault_text (fault.Syntax line) = codes "41 Syntax(" ++ decimal line ++ codes ")"
fault_text (fault.DuplicateLabel line) = codes "42 DuplicateLabel(" ++ decimal line ++ codes ")"
fault_text (fault.NoLabel line) = codes "43 NoLabel(" ++ decimal line ++ codes ")"
fault_text (fault.BadCount line) = codes "45 BadCount(" ++ decimal line ++ codes ")"
fault_text (fault.LeftOut what line) = codes "46 LeftOut(" ++ left_out_text what ++ codes ")"
fault_text fault.OutOfMemory = codes "61 OutOfMemory"
