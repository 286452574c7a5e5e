use Rattle.std.proofs.Common.{arith}
use Rattle.jm_encode.proofs.Codes.{starts_length, start_below, starts_rise}
use Rattle.jm_encode.proofs.laws.starts_rise.Goals as goal

pub returns-clause-count : goal.returns-clause-count
returns-clause-count c at instrs = starts_length at instrs

pub returns-clause-rising : goal.returns-clause-rising
returns-clause-rising c instrs i j less lt = starts_rise 0 instrs i j less (omega (arith, starts_length 0 instrs))

pub returns-clause-inside : goal.returns-clause-inside
returns-clause-inside c instrs i lt = start_below 0 instrs i (omega (arith, starts_length 0 instrs))
