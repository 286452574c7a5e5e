-- How the faults of the layers below are seen by who writes a class.
use Rattle.jm_pool.specs.declared.builder_fault.BuilderFault.{BuilderFault}
use Rattle.jm_pool.specs.declared.builder_fault.BuilderFault.TheVariants as builder
use Rattle.jm_encode.specs.declared.fault.EncodeFault.{EncodeFault}
use Rattle.jm_encode.specs.declared.fault.EncodeFault.TheVariants as encode
use Rattle.jm_class_writer.specs.declared.fault.WriteFault.{WriteFault}
use Rattle.jm_class_writer.specs.declared.fault.WriteFault.TheVariants as fault

abbrev pub of_builder : BuilderFault → WriteFault
of_builder builder.PoolFull = fault.PoolFull
of_builder builder.TooMany = fault.TooMany
of_builder builder.OutOfMemory = fault.OutOfMemory

-- each target of a class's code is an instruction, so that the first never comes
abbrev pub of_encode : EncodeFault → WriteFault
of_encode encode.BadTarget = fault.BranchTooFar
of_encode encode.BranchTooFar = fault.BranchTooFar
of_encode encode.CodeTooLong = fault.CodeTooLong
of_encode encode.OutOfMemory = fault.OutOfMemory
