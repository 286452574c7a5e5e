-- The line of a method: .method [flags] NAMEDESC (Jasmin User Guide, "Method Definitions").
use Rattle.std.specs.Prelude.{ℕ, ◌-◌, ◌==◌, Bool, not, ◌&&◌, ◌||◌, if◌then◌else◌, List, length, take, drop, Option, Some, None, Result, Ok, Err}
use Rattle.std.specs.List.{position}
use Rattle.jm_program.specs.Flags.{is_static, is_synchronized, is_abstract}
use Rattle.jm_program.specs.Names.{is_init, is_clinit}
use Rattle.jm_program.specs.Fits.{is_class_initializer, is_finalizer}
use Rattle.jm_program.specs.declared.class.Method.{Method}
use Rattle.jm_class_format.specs.Members.{own_receiver}
use Rattle.jm_class_format.specs.declared.read_fault.LeftOutPart.{LeftOutPart}
use Rattle.jm_class_format.specs.declared.read_fault.LeftOutPart.TheVariants as part
use Rattle.jm_jasmin_lex.specs.Token.{TokenParts}
use Rattle.jm_jasmin_ops.specs.declared.fault.AsmFault.{AsmFault}
use Rattle.jm_jasmin_ops.specs.declared.fault.AsmFault.TheVariants as fault
use Rattle.jm_jasmin_ops.specs.declared.fault.AsmLeftOut.TheVariants as left_out
use Rattle.jm_jasmin.specs.Lines.{◌>>=◌, line_number}
use Rattle.jm_jasmin.specs.Words.{with_length_from, flags_before}
use Rattle.jm_jasmin.specs.Symbols.{method_name, method_type, units_at}

-- an abstract method is an instance method and no initializer (JVMS 4.6)
unfoldable pub is_misplaced_abstract : Method → Bool
is_misplaced_abstract m = is_abstract m.flags && (is_static m.flags || is_init m.name || is_clinit m.name)

-- what the profile leaves out: static synchronized methods, finalize()V, and methods of an interface that are neither abstract nor its
-- initializer
unfoldable pub left_out_method : Bool → Method → Option LeftOutPart
left_out_method in_interface m =
    if is_static m.flags && is_synchronized m.flags then Some part.StaticSynchronized
    else if is_finalizer m then Some part.Finalize
    else if in_interface && not (is_abstract m.flags) && not (is_class_initializer m) then Some part.InterfaceMethod
    else None

abbrev pub unless_left_out : ℕ → Method → Option LeftOutPart → Result Method AsmFault
unless_left_out line m None = Ok m
unless_left_out line m (Some p) = Err (fault.LeftOut (left_out.Part p) line)

unfoldable pub declarable : Bool → ℕ → Method → Result Method AsmFault
declarable in_interface line m = if is_misplaced_abstract m then Err (fault.Syntax line) else unless_left_out line m (left_out_method in_interface m)

-- the name up to the first ( and the type from it on, in a line
unfoldable pub named_method : ℕ → ℕ → List ℕ → ℕ → Result Method AsmFault
named_method line flags units at = do
  name ← method_name line (take at units)
  t ← method_type line (own_receiver (record { bits = flags })) (drop at units)
  Ok (record { flags = record { bits = flags }; name = name; descriptor = t; code = None })

abbrev pub parted_method : ℕ → ℕ → List ℕ → Option ℕ → Result Method AsmFault
parted_method line flags units None = Err (fault.Syntax line)
parted_method line flags units (Some at) = named_method line flags units at

-- a method without its code
unfoldable pub method_line : Bool → List TokenParts → Result Method AsmFault
method_line in_interface line = do
  _ ← with_length_from line 2
  flags ← flags_before 0 line (length line - 1)
  units ← units_at line (length line - 1)
  m ← parted_method (line_number line) flags units (position (λ u. u == 40) units)
  declarable in_interface (line_number line) m
