-- No line feed stands in the text of a fault.
use Rattle.std.proofs.Common.{◌≡◌, ℕ, zero, suc, ◌+◌, ◌/◌, ◌%◌, ◌==◌, List, [], ◌∷◌, ◌++◌, Bool, true, false, refl, ap, ◌∙◌, not, codes, nat_lt, arith}
use Rattle.std.specs.Prelude.{◌&&◌, if◌then◌else◌}
use Rattle.std.specs.Fmt.{decimal, digit_glyph, digits, digits_onto}
use Rattle.std.proofs.lemmas.List.Folds.{list_all-append}
use Rattle.jm_class_format.specs.FaultTexts as class_file
use Rattle.jm_class_format.specs.FaultTexts.{code_fault_text, left_out_part_text, pool_fault_text}
use Rattle.jm_class_format.specs.Mnemonics.{left_out_mnemonic}
use Rattle.jm_class_format.specs.declared.fault.PoolFault.{PoolFault}
use Rattle.jm_class_format.specs.declared.fault.PoolFault.TheVariants as pool
use Rattle.jm_class_format.specs.declared.fault.CodeFault.{CodeFault}
use Rattle.jm_class_format.specs.declared.fault.CodeFault.TheVariants as code
use Rattle.jm_class_format.specs.declared.opcode.LeftOutOp.{LeftOutOp}
use Rattle.jm_class_format.specs.declared.opcode.LeftOutOp.TheVariants as left_out
use Rattle.jm_class_format.specs.declared.read_fault.LeftOutPart.{LeftOutPart}
use Rattle.jm_class_format.specs.declared.read_fault.LeftOutPart.TheVariants as part
use Rattle.jm_class_format.specs.declared.read_fault.ReadFault.{ReadFault}
use Rattle.jm_class_format.specs.declared.read_fault.ReadFault.TheVariants as read
use Rattle.jm_jasmin_ops.specs.FaultTexts as text
use Rattle.jm_jasmin_ops.specs.FaultTexts.{directive_text, left_out_text}
use Rattle.jm_jasmin_ops.specs.declared.directive.LeftOutDirective.{LeftOutDirective}
use Rattle.jm_jasmin_ops.specs.declared.directive.LeftOutDirective.TheVariants as directive
use Rattle.jm_jasmin_ops.specs.declared.fault.AsmLeftOut.{AsmLeftOut}
use Rattle.jm_jasmin_ops.specs.declared.fault.AsmLeftOut.TheVariants as what
use Rattle.jm_jasmin_ops.specs.declared.fault.AsmFault.{AsmFault}
use Rattle.jm_jasmin_ops.specs.declared.fault.AsmFault.TheVariants as asm
use Rattle.jm_execute.specs.Checks.{is_one_line}
use Rattle.jm_execute.specs.ProgramFiles.{FileFault, in_text, in_class_file}
use Rattle.jm_execute.specs.Reasons.{file_fault_text}

joined : (xs ys : List ℕ) → is_one_line xs ≡ true → is_one_line ys ≡ true → is_one_line (xs ++ ys) ≡ true
joined xs ys first second = list_all-append (λ b. not (b == 10)) xs ys ∙ ap (λ b. b && is_one_line ys) first ∙ second

-- what stands between two texts, as in brackets
between : (front middle rest : List ℕ) → is_one_line front ≡ true → is_one_line middle ≡ true → is_one_line rest ≡ true → is_one_line (front ++ middle ++ rest) ≡ true
between front middle rest a b c = joined (front ++ middle) rest (joined front middle a b) c

-- ---- numbers

glyph_line : (d : ℕ) → not (digit_glyph false d == 10) ≡ true
glyph_line d = by (nat_lt d 10)
  where
    by : (small : Bool) → not ((if small then 48 + d else (87 + d)) == 10) ≡ true
    by true = grind arith
    by false = grind arith

digits_line : (k n : ℕ) (behind : List ℕ) → is_one_line behind ≡ true → is_one_line (digits_onto k 10 false n behind) ≡ true
digits_line zero n behind is = is
digits_line (suc k) n behind is = by (n / 10 == 0) (digits_line k (n / 10) (digit ∷ behind) more)
  where
    digit : ℕ
    digit = digit_glyph false (n % 10)

    more : is_one_line (digit ∷ behind) ≡ true
    more = ap (λ b. b && is_one_line behind) (glyph_line (n % 10)) ∙ is

    by : (last : Bool) → is_one_line (digits_onto k 10 false (n / 10) (digit ∷ behind)) ≡ true → is_one_line (if last then digit ∷ behind else digits_onto k 10 false (n / 10) (digit ∷ behind)) ≡ true
    by true rest = more
    by false rest = rest

number_line : (n : ℕ) → is_one_line (decimal n) ≡ true
unfolding digits
number_line n = digits_line 64 n [] refl

-- ---- a class file

mnemonic_line : (op : LeftOutOp) → is_one_line (left_out_mnemonic op) ≡ true
unfolding left_out_mnemonic
mnemonic_line left_out.FConst0 = refl
mnemonic_line left_out.FConst1 = refl
mnemonic_line left_out.FConst2 = refl
mnemonic_line left_out.DConst0 = refl
mnemonic_line left_out.DConst1 = refl
mnemonic_line left_out.FLoad = refl
mnemonic_line left_out.DLoad = refl
mnemonic_line left_out.FLoad0 = refl
mnemonic_line left_out.FLoad1 = refl
mnemonic_line left_out.FLoad2 = refl
mnemonic_line left_out.FLoad3 = refl
mnemonic_line left_out.DLoad0 = refl
mnemonic_line left_out.DLoad1 = refl
mnemonic_line left_out.DLoad2 = refl
mnemonic_line left_out.DLoad3 = refl
mnemonic_line left_out.FALoad = refl
mnemonic_line left_out.DALoad = refl
mnemonic_line left_out.FStore = refl
mnemonic_line left_out.DStore = refl
mnemonic_line left_out.FStore0 = refl
mnemonic_line left_out.FStore1 = refl
mnemonic_line left_out.FStore2 = refl
mnemonic_line left_out.FStore3 = refl
mnemonic_line left_out.DStore0 = refl
mnemonic_line left_out.DStore1 = refl
mnemonic_line left_out.DStore2 = refl
mnemonic_line left_out.DStore3 = refl
mnemonic_line left_out.FAStore = refl
mnemonic_line left_out.DAStore = refl
mnemonic_line left_out.FAdd = refl
mnemonic_line left_out.DAdd = refl
mnemonic_line left_out.FSub = refl
mnemonic_line left_out.DSub = refl
mnemonic_line left_out.FMul = refl
mnemonic_line left_out.DMul = refl
mnemonic_line left_out.FDiv = refl
mnemonic_line left_out.DDiv = refl
mnemonic_line left_out.FRem = refl
mnemonic_line left_out.DRem = refl
mnemonic_line left_out.FNeg = refl
mnemonic_line left_out.DNeg = refl
mnemonic_line left_out.I2F = refl
mnemonic_line left_out.I2D = refl
mnemonic_line left_out.L2F = refl
mnemonic_line left_out.L2D = refl
mnemonic_line left_out.F2I = refl
mnemonic_line left_out.F2L = refl
mnemonic_line left_out.F2D = refl
mnemonic_line left_out.D2I = refl
mnemonic_line left_out.D2L = refl
mnemonic_line left_out.D2F = refl
mnemonic_line left_out.FCmpL = refl
mnemonic_line left_out.FCmpG = refl
mnemonic_line left_out.DCmpL = refl
mnemonic_line left_out.DCmpG = refl
mnemonic_line left_out.Jsr = refl
mnemonic_line left_out.Ret = refl
mnemonic_line left_out.FReturn = refl
mnemonic_line left_out.DReturn = refl
mnemonic_line left_out.InvokeDynamic = refl
mnemonic_line left_out.JsrW = refl
mnemonic_line left_out.FloatArray = refl
mnemonic_line left_out.DoubleArray = refl

part_line : (p : LeftOutPart) → is_one_line (left_out_part_text p) ≡ true
unfolding left_out_part_text
part_line part.Float = refl
part_line part.Double = refl
part_line part.MethodHandle = refl
part_line part.MethodType = refl
part_line part.InvokeDynamic = refl
part_line part.Native = refl
part_line part.StaticSynchronized = refl
part_line part.InterfaceMethod = refl
part_line part.Finalize = refl
part_line part.FloatType = refl
part_line part.DoubleType = refl
part_line part.LdcClass = refl

pool_line : (fault : PoolFault) → is_one_line (pool_fault_text fault) ≡ true
unfolding pool_fault_text
pool_line (pool.BadTag tag) = between (codes "20 BadTag(") (decimal tag) (codes ")") refl (number_line tag) refl
pool_line (pool.BadIndex index) = between (codes "21 BadIndex(") (decimal index) (codes ")") refl (number_line index) refl
pool_line pool.BadUtf8 = refl
pool_line pool.Cut = refl
pool_line pool.OutOfMemory = refl

code_line : (fault : CodeFault) → is_one_line (code_fault_text fault) ≡ true
unfolding code_fault_text
code_line (code.BadOpcode at) = between (codes "10 BadOpcode(") (decimal at) (codes ")") refl (number_line at) refl
code_line (code.LeftOut op) = between (codes "11 LeftOut(") (left_out_mnemonic op) (codes ")") refl (mnemonic_line op) refl
code_line (code.Cut at) = between (codes "12 Cut(") (decimal at) (codes ")") refl (number_line at) refl
code_line code.BadTarget = refl
code_line code.OutOfMemory = refl

class_file_line : (fault : ReadFault) → is_one_line (class_file.fault_text fault) ≡ true
unfolding class_file.fault_text
class_file_line read.BadDescriptor = refl
class_file_line read.BadName = refl
class_file_line (read.Code fault) = code_line fault
class_file_line (read.Pool fault) = pool_line fault
class_file_line read.Magic = refl
class_file_line read.Version = refl
class_file_line read.Cut = refl
class_file_line read.Trailing = refl
class_file_line read.BadAttribute = refl
class_file_line (read.LeftOut p) = between (codes "35 LeftOut(") (left_out_part_text p) (codes ")") refl (part_line p) refl
class_file_line read.OutOfMemory = refl

-- ---- a text

directive_line : (d : LeftOutDirective) → is_one_line (directive_text d) ≡ true
unfolding directive_text
directive_line directive.Annotation = refl
directive_line directive.Attribute = refl
directive_line directive.Debug = refl
directive_line directive.Deprecated = refl
directive_line directive.Enclosing = refl
directive_line directive.Inner = refl
directive_line directive.Set = refl
directive_line directive.Signature = refl
directive_line directive.Stack = refl

left_out_line : (w : AsmLeftOut) → is_one_line (left_out_text w) ≡ true
unfolding left_out_text
left_out_line (what.Instruction op) = mnemonic_line op
left_out_line (what.Part p) = part_line p
left_out_line what.Offset = refl
left_out_line (what.Directive d) = directive_line d

text_line : (fault : AsmFault) → is_one_line (text.fault_text fault) ≡ true
unfolding text.fault_text
text_line (asm.BadDescriptor line) = between (codes "1 BadDescriptor(") (decimal line) (codes ")") refl (number_line line) refl
text_line (asm.BadName line) = between (codes "2 BadName(") (decimal line) (codes ")") refl (number_line line) refl
text_line (asm.BadToken line) = between (codes "40 BadToken(") (decimal line) (codes ")") refl (number_line line) refl
text_line (asm.Syntax line) = between (codes "41 Syntax(") (decimal line) (codes ")") refl (number_line line) refl
text_line (asm.DuplicateLabel line) = between (codes "42 DuplicateLabel(") (decimal line) (codes ")") refl (number_line line) refl
text_line (asm.NoLabel line) = between (codes "43 NoLabel(") (decimal line) (codes ")") refl (number_line line) refl
text_line (asm.BadCount line) = between (codes "45 BadCount(") (decimal line) (codes ")") refl (number_line line) refl
text_line (asm.LeftOut w line) = between (codes "46 LeftOut(") (left_out_text w) (codes ")") refl (left_out_line w) refl
text_line asm.OutOfMemory = refl

pub one_line : (fault : FileFault) → is_one_line (file_fault_text fault) ≡ true
one_line (in_text fault) = text_line fault
one_line (in_class_file fault) = class_file_line fault
