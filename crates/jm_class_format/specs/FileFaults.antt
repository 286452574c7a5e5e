-- How the faults of the layers below are seen in a class file.
use Rattle.std.specs.Prelude.{ℕ, ◌==◌, if◌then◌else◌}
use Rattle.jm_class_format.specs.declared.read_fault.LeftOutPart.TheVariants as part
use Rattle.jm_class_format.specs.declared.fault.PoolFault.{PoolFault}
use Rattle.jm_class_format.specs.declared.fault.PoolFault.TheVariants as pool
use Rattle.jm_program.specs.declared.fault.DescriptorFault.{DescriptorFault}
use Rattle.jm_program.specs.declared.fault.DescriptorFault.TheVariants as descriptor
use Rattle.jm_class_format.specs.declared.fault.CodeFault.{CodeFault}
use Rattle.jm_class_format.specs.declared.fault.CodeFault.TheVariants as code
use Rattle.jm_class_format.specs.declared.read_fault.ReadFault.{ReadFault}
use Rattle.jm_class_format.specs.declared.read_fault.ReadFault.TheVariants as fault

-- entries of JVMS 4.4 that the profile leaves out, by their tags (table 4.4-A)
unfoldable pub left_out_tag : ℕ → ReadFault
left_out_tag n =
    if n == 4 then fault.LeftOut part.Float
    else if n == 6 then fault.LeftOut part.Double
    else if n == 15 then fault.LeftOut part.MethodHandle
    else if n == 16 then fault.LeftOut part.MethodType
    else if n == 18 then fault.LeftOut part.InvokeDynamic
    else fault.Pool (pool.BadTag n)

-- a fault of the pool
abbrev pub of_pool : PoolFault → ReadFault
of_pool (pool.BadTag n) = left_out_tag n
of_pool pool.OutOfMemory = fault.OutOfMemory
of_pool other = fault.Pool other

-- a fault of a method's code
abbrev pub of_code : CodeFault → ReadFault
of_code code.OutOfMemory = fault.OutOfMemory
of_code other = fault.Code other

-- a text that is no descriptor
abbrev pub of_descriptor : DescriptorFault → ReadFault
of_descriptor descriptor.BadDescriptor = fault.BadDescriptor
of_descriptor descriptor.BadName = fault.BadName
of_descriptor descriptor.OutOfMemory = fault.OutOfMemory

-- an index that names no entry of the kind that its place needs
abbrev pub bad_index : ℕ → ReadFault
bad_index i = fault.Pool (pool.BadIndex i)
