-- The table of opcodes, in the groups of JVMS 7. What an opcode stands for, and which are left out.
use Rattle.std.specs.Prelude.{ℕ, List, [], ◌∷◌, ◌++◌, map, Option, Some, None, ◌==◌, nat_le, if◌then◌else◌}
use Rattle.jm_class_format.specs.declared.opcode.Opcode.{Opcode}
use Rattle.jm_class_format.specs.declared.opcode.Opcode.TheVariants as opcode
use Rattle.jm_class_format.specs.declared.opcode.LeftOutOp.TheVariants as left_out
use Rattle.jm_program.specs.declared.instruction.plain.Simple.TheVariants as simple
use Rattle.jm_program.specs.declared.instruction.operation.OperandType.TheVariants as operand
use Rattle.jm_program.specs.declared.instruction.operation.Integral.TheVariants as integral
use Rattle.jm_program.specs.declared.instruction.operation.ShortIndex.TheVariants as short
use Rattle.jm_program.specs.declared.instruction.operation.SmallInt.TheVariants as int
use Rattle.jm_program.specs.declared.instruction.operation.SmallLong.TheVariants as long
use Rattle.jm_program.specs.declared.instruction.operation.StackOp.TheVariants as stack_op
use Rattle.jm_program.specs.declared.instruction.operation.Arithmetic.TheVariants as arithmetic
use Rattle.jm_program.specs.declared.instruction.operation.Shift.TheVariants as shift
use Rattle.jm_program.specs.declared.instruction.operation.Bitwise.TheVariants as bitwise
use Rattle.jm_program.specs.declared.instruction.operation.Conversion.TheVariants as conversion
use Rattle.jm_program.specs.declared.instruction.operation.Comparison.TheVariants as comparison
use Rattle.jm_program.specs.declared.instruction.operation.Equality.TheVariants as equality
use Rattle.jm_program.specs.declared.instruction.operation.Branch.TheVariants as branch
use Rattle.jm_program.specs.declared.instruction.operation.ArrayKind.TheVariants as elements
use Rattle.jm_program.specs.declared.instruction.operation.ArrayOp.TheVariants as array
use Rattle.jm_program.specs.declared.instruction.operation.ReturnOp.TheVariants as return
use Rattle.jm_program.specs.declared.instruction.operation.MonitorOp.TheVariants as monitor
use Rattle.jm_program.specs.declared.instruction.operation.FieldOp.TheVariants as field
use Rattle.jm_program.specs.declared.instruction.operation.InvokeOp.TheVariants as invoke
use Rattle.jm_program.specs.declared.instruction.operation.TypeOp.{TypeOp}
use Rattle.jm_program.specs.declared.instruction.operation.TypeOp.TheVariants as type

-- 0 to 20
unfoldable pub constants : List (ℕ × Opcode)
constants =
    (0, opcode.Simple simple.Nop) ∷
    (1, opcode.Simple simple.Null) ∷
    (2, opcode.Simple (simple.IntConstant int.MinusOne)) ∷
    (3, opcode.Simple (simple.IntConstant int.Zero)) ∷
    (4, opcode.Simple (simple.IntConstant int.One)) ∷
    (5, opcode.Simple (simple.IntConstant int.Two)) ∷
    (6, opcode.Simple (simple.IntConstant int.Three)) ∷
    (7, opcode.Simple (simple.IntConstant int.Four)) ∷
    (8, opcode.Simple (simple.IntConstant int.Five)) ∷
    (9, opcode.Simple (simple.LongConstant long.Zero)) ∷
    (10, opcode.Simple (simple.LongConstant long.One)) ∷
    (11, opcode.LeftOut left_out.FConst0) ∷
    (12, opcode.LeftOut left_out.FConst1) ∷
    (13, opcode.LeftOut left_out.FConst2) ∷
    (14, opcode.LeftOut left_out.DConst0) ∷
    (15, opcode.LeftOut left_out.DConst1) ∷
    (16, opcode.PushByte) ∷
    (17, opcode.PushShort) ∷
    (18, opcode.LoadConstant) ∷
    (19, opcode.LoadConstantWide) ∷
    (20, opcode.LoadLong) ∷ []

-- 21 to 53
unfoldable pub loads : List (ℕ × Opcode)
loads =
    (21, opcode.Load operand.Int) ∷
    (22, opcode.Load operand.Long) ∷
    (23, opcode.LeftOut left_out.FLoad) ∷
    (24, opcode.LeftOut left_out.DLoad) ∷
    (25, opcode.Load operand.Reference) ∷
    (26, opcode.Simple (simple.Load operand.Int short.Zero)) ∷
    (27, opcode.Simple (simple.Load operand.Int short.One)) ∷
    (28, opcode.Simple (simple.Load operand.Int short.Two)) ∷
    (29, opcode.Simple (simple.Load operand.Int short.Three)) ∷
    (30, opcode.Simple (simple.Load operand.Long short.Zero)) ∷
    (31, opcode.Simple (simple.Load operand.Long short.One)) ∷
    (32, opcode.Simple (simple.Load operand.Long short.Two)) ∷
    (33, opcode.Simple (simple.Load operand.Long short.Three)) ∷
    (34, opcode.LeftOut left_out.FLoad0) ∷
    (35, opcode.LeftOut left_out.FLoad1) ∷
    (36, opcode.LeftOut left_out.FLoad2) ∷
    (37, opcode.LeftOut left_out.FLoad3) ∷
    (38, opcode.LeftOut left_out.DLoad0) ∷
    (39, opcode.LeftOut left_out.DLoad1) ∷
    (40, opcode.LeftOut left_out.DLoad2) ∷
    (41, opcode.LeftOut left_out.DLoad3) ∷
    (42, opcode.Simple (simple.Load operand.Reference short.Zero)) ∷
    (43, opcode.Simple (simple.Load operand.Reference short.One)) ∷
    (44, opcode.Simple (simple.Load operand.Reference short.Two)) ∷
    (45, opcode.Simple (simple.Load operand.Reference short.Three)) ∷
    (46, opcode.Array (array.Load elements.Int)) ∷
    (47, opcode.Array (array.Load elements.Long)) ∷
    (48, opcode.LeftOut left_out.FALoad) ∷
    (49, opcode.LeftOut left_out.DALoad) ∷
    (50, opcode.Array (array.Load elements.Reference)) ∷
    (51, opcode.Array (array.Load elements.Byte)) ∷
    (52, opcode.Array (array.Load elements.Char)) ∷
    (53, opcode.Array (array.Load elements.Short)) ∷ []

-- 54 to 86
unfoldable pub stores : List (ℕ × Opcode)
stores =
    (54, opcode.Store operand.Int) ∷
    (55, opcode.Store operand.Long) ∷
    (56, opcode.LeftOut left_out.FStore) ∷
    (57, opcode.LeftOut left_out.DStore) ∷
    (58, opcode.Store operand.Reference) ∷
    (59, opcode.Simple (simple.Store operand.Int short.Zero)) ∷
    (60, opcode.Simple (simple.Store operand.Int short.One)) ∷
    (61, opcode.Simple (simple.Store operand.Int short.Two)) ∷
    (62, opcode.Simple (simple.Store operand.Int short.Three)) ∷
    (63, opcode.Simple (simple.Store operand.Long short.Zero)) ∷
    (64, opcode.Simple (simple.Store operand.Long short.One)) ∷
    (65, opcode.Simple (simple.Store operand.Long short.Two)) ∷
    (66, opcode.Simple (simple.Store operand.Long short.Three)) ∷
    (67, opcode.LeftOut left_out.FStore0) ∷
    (68, opcode.LeftOut left_out.FStore1) ∷
    (69, opcode.LeftOut left_out.FStore2) ∷
    (70, opcode.LeftOut left_out.FStore3) ∷
    (71, opcode.LeftOut left_out.DStore0) ∷
    (72, opcode.LeftOut left_out.DStore1) ∷
    (73, opcode.LeftOut left_out.DStore2) ∷
    (74, opcode.LeftOut left_out.DStore3) ∷
    (75, opcode.Simple (simple.Store operand.Reference short.Zero)) ∷
    (76, opcode.Simple (simple.Store operand.Reference short.One)) ∷
    (77, opcode.Simple (simple.Store operand.Reference short.Two)) ∷
    (78, opcode.Simple (simple.Store operand.Reference short.Three)) ∷
    (79, opcode.Array (array.Store elements.Int)) ∷
    (80, opcode.Array (array.Store elements.Long)) ∷
    (81, opcode.LeftOut left_out.FAStore) ∷
    (82, opcode.LeftOut left_out.DAStore) ∷
    (83, opcode.Array (array.Store elements.Reference)) ∷
    (84, opcode.Array (array.Store elements.Byte)) ∷
    (85, opcode.Array (array.Store elements.Char)) ∷
    (86, opcode.Array (array.Store elements.Short)) ∷ []

-- 87 to 95
unfoldable pub stack : List (ℕ × Opcode)
stack =
    (87, opcode.Simple (simple.Stack stack_op.Pop)) ∷
    (88, opcode.Simple (simple.Stack stack_op.Pop2)) ∷
    (89, opcode.Simple (simple.Stack stack_op.Dup)) ∷
    (90, opcode.Simple (simple.Stack stack_op.DupX1)) ∷
    (91, opcode.Simple (simple.Stack stack_op.DupX2)) ∷
    (92, opcode.Simple (simple.Stack stack_op.Dup2)) ∷
    (93, opcode.Simple (simple.Stack stack_op.Dup2X1)) ∷
    (94, opcode.Simple (simple.Stack stack_op.Dup2X2)) ∷
    (95, opcode.Simple (simple.Stack stack_op.Swap)) ∷ []

-- 96 to 132
unfoldable pub math : List (ℕ × Opcode)
math =
    (96, opcode.Simple (simple.Arithmetic arithmetic.Add integral.Int)) ∷
    (97, opcode.Simple (simple.Arithmetic arithmetic.Add integral.Long)) ∷
    (98, opcode.LeftOut left_out.FAdd) ∷
    (99, opcode.LeftOut left_out.DAdd) ∷
    (100, opcode.Simple (simple.Arithmetic arithmetic.Sub integral.Int)) ∷
    (101, opcode.Simple (simple.Arithmetic arithmetic.Sub integral.Long)) ∷
    (102, opcode.LeftOut left_out.FSub) ∷
    (103, opcode.LeftOut left_out.DSub) ∷
    (104, opcode.Simple (simple.Arithmetic arithmetic.Mul integral.Int)) ∷
    (105, opcode.Simple (simple.Arithmetic arithmetic.Mul integral.Long)) ∷
    (106, opcode.LeftOut left_out.FMul) ∷
    (107, opcode.LeftOut left_out.DMul) ∷
    (108, opcode.Simple (simple.Arithmetic arithmetic.Div integral.Int)) ∷
    (109, opcode.Simple (simple.Arithmetic arithmetic.Div integral.Long)) ∷
    (110, opcode.LeftOut left_out.FDiv) ∷
    (111, opcode.LeftOut left_out.DDiv) ∷
    (112, opcode.Simple (simple.Arithmetic arithmetic.Rem integral.Int)) ∷
    (113, opcode.Simple (simple.Arithmetic arithmetic.Rem integral.Long)) ∷
    (114, opcode.LeftOut left_out.FRem) ∷
    (115, opcode.LeftOut left_out.DRem) ∷
    (116, opcode.Simple (simple.Negate integral.Int)) ∷
    (117, opcode.Simple (simple.Negate integral.Long)) ∷
    (118, opcode.LeftOut left_out.FNeg) ∷
    (119, opcode.LeftOut left_out.DNeg) ∷
    (120, opcode.Simple (simple.Shift shift.Left integral.Int)) ∷
    (121, opcode.Simple (simple.Shift shift.Left integral.Long)) ∷
    (122, opcode.Simple (simple.Shift shift.Right integral.Int)) ∷
    (123, opcode.Simple (simple.Shift shift.Right integral.Long)) ∷
    (124, opcode.Simple (simple.Shift shift.UnsignedRight integral.Int)) ∷
    (125, opcode.Simple (simple.Shift shift.UnsignedRight integral.Long)) ∷
    (126, opcode.Simple (simple.Bitwise bitwise.And integral.Int)) ∷
    (127, opcode.Simple (simple.Bitwise bitwise.And integral.Long)) ∷
    (128, opcode.Simple (simple.Bitwise bitwise.Or integral.Int)) ∷
    (129, opcode.Simple (simple.Bitwise bitwise.Or integral.Long)) ∷
    (130, opcode.Simple (simple.Bitwise bitwise.Xor integral.Int)) ∷
    (131, opcode.Simple (simple.Bitwise bitwise.Xor integral.Long)) ∷
    (132, opcode.Increment) ∷ []

-- 133 to 147
unfoldable pub conversions : List (ℕ × Opcode)
conversions =
    (133, opcode.Simple (simple.Convert conversion.IntToLong)) ∷
    (134, opcode.LeftOut left_out.I2F) ∷
    (135, opcode.LeftOut left_out.I2D) ∷
    (136, opcode.Simple (simple.Convert conversion.LongToInt)) ∷
    (137, opcode.LeftOut left_out.L2F) ∷
    (138, opcode.LeftOut left_out.L2D) ∷
    (139, opcode.LeftOut left_out.F2I) ∷
    (140, opcode.LeftOut left_out.F2L) ∷
    (141, opcode.LeftOut left_out.F2D) ∷
    (142, opcode.LeftOut left_out.D2I) ∷
    (143, opcode.LeftOut left_out.D2L) ∷
    (144, opcode.LeftOut left_out.D2F) ∷
    (145, opcode.Simple (simple.Convert conversion.IntToByte)) ∷
    (146, opcode.Simple (simple.Convert conversion.IntToChar)) ∷
    (147, opcode.Simple (simple.Convert conversion.IntToShort)) ∷ []

-- 148 to 166
unfoldable pub comparisons : List (ℕ × Opcode)
comparisons =
    (148, opcode.Simple simple.CompareLongs) ∷
    (149, opcode.LeftOut left_out.FCmpL) ∷
    (150, opcode.LeftOut left_out.FCmpG) ∷
    (151, opcode.LeftOut left_out.DCmpL) ∷
    (152, opcode.LeftOut left_out.DCmpG) ∷
    (153, opcode.Branch (branch.If comparison.Equal)) ∷
    (154, opcode.Branch (branch.If comparison.NotEqual)) ∷
    (155, opcode.Branch (branch.If comparison.Less)) ∷
    (156, opcode.Branch (branch.If comparison.GreaterOrEqual)) ∷
    (157, opcode.Branch (branch.If comparison.Greater)) ∷
    (158, opcode.Branch (branch.If comparison.LessOrEqual)) ∷
    (159, opcode.Branch (branch.IfInts comparison.Equal)) ∷
    (160, opcode.Branch (branch.IfInts comparison.NotEqual)) ∷
    (161, opcode.Branch (branch.IfInts comparison.Less)) ∷
    (162, opcode.Branch (branch.IfInts comparison.GreaterOrEqual)) ∷
    (163, opcode.Branch (branch.IfInts comparison.Greater)) ∷
    (164, opcode.Branch (branch.IfInts comparison.LessOrEqual)) ∷
    (165, opcode.Branch (branch.IfReferences equality.Equal)) ∷
    (166, opcode.Branch (branch.IfReferences equality.NotEqual)) ∷ []

-- 167 to 177
unfoldable pub control : List (ℕ × Opcode)
control =
    (167, opcode.Branch branch.Goto) ∷
    (168, opcode.LeftOut left_out.Jsr) ∷
    (169, opcode.LeftOut left_out.Ret) ∷
    (170, opcode.TableSwitch) ∷
    (171, opcode.LookupSwitch) ∷
    (172, opcode.Return return.Int) ∷
    (173, opcode.Return return.Long) ∷
    (174, opcode.LeftOut left_out.FReturn) ∷
    (175, opcode.LeftOut left_out.DReturn) ∷
    (176, opcode.Return return.Reference) ∷
    (177, opcode.Return return.Void) ∷ []

-- 178 to 195
unfoldable pub references : List (ℕ × Opcode)
references =
    (178, opcode.Field field.GetStatic) ∷
    (179, opcode.Field field.PutStatic) ∷
    (180, opcode.Field field.GetField) ∷
    (181, opcode.Field field.PutField) ∷
    (182, opcode.Invoke invoke.Virtual) ∷
    (183, opcode.Invoke invoke.Special) ∷
    (184, opcode.Invoke invoke.Static) ∷
    (185, opcode.InvokeInterface) ∷
    (186, opcode.LeftOut left_out.InvokeDynamic) ∷
    (187, opcode.New) ∷
    (188, opcode.NewArray) ∷
    (189, opcode.Type type.NewArray) ∷
    (190, opcode.Array array.Length) ∷
    (191, opcode.Throw) ∷
    (192, opcode.Type type.CheckCast) ∷
    (193, opcode.Type type.InstanceOf) ∷
    (194, opcode.Monitor monitor.Enter) ∷
    (195, opcode.Monitor monitor.Exit) ∷ []

-- 196 to 201
unfoldable pub extended : List (ℕ × Opcode)
extended =
    (196, opcode.Wide) ∷
    (197, opcode.NewArrays) ∷
    (198, opcode.Branch (branch.IfNull equality.Equal)) ∷
    (199, opcode.Branch (branch.IfNull equality.NotEqual)) ∷
    (200, opcode.BranchWide branch.GotoW) ∷
    (201, opcode.LeftOut left_out.JsrW) ∷ []

-- what the opcode of such an instruction stands for: multianewarray has an operand more than the others
abbrev pub type_opcode : TypeOp → Opcode
type_opcode (type.NewArrays d) = opcode.NewArrays
type_opcode op = opcode.Type op

-- what the row of a number says
abbrev pub row_at : {X : Type 0} → List (ℕ × X) → ℕ → Option X
row_at [] n = None
row_at (row ∷ rows) n = if n == row.0 then Some row.1 else row_at rows n

-- 202 to 255 are no opcodes
unfoldable pub opcode_at : ℕ → Option Opcode
opcode_at byte =
    if nat_le byte 20 then row_at constants byte
    else if nat_le byte 53 then row_at loads byte
    else if nat_le byte 86 then row_at stores byte
    else if nat_le byte 95 then row_at stack byte
    else if nat_le byte 132 then row_at math byte
    else if nat_le byte 147 then row_at conversions byte
    else if nat_le byte 166 then row_at comparisons byte
    else if nat_le byte 177 then row_at control byte
    else if nat_le byte 195 then row_at references byte
    else row_at extended byte

-- what the bytes from 0 on stand for, as the groups say one after the other
unfoldable pub opcodes : List Opcode
opcodes = map (λ (row : ℕ × Opcode). row.1) (constants ++ (loads ++ (stores ++ (stack ++ (math ++ (conversions ++ (comparisons ++ (control ++ (references ++ extended)))))))))
