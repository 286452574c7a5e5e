use Rattle.std.proofs.Common.{sym, ap, ◌∙◌}
use Rattle.jm_class_format.specs.NamedCode.{named}
use Rattle.jm_class_reader.specs.Known.{indexed_of}
use Rattle.jm_class_reader.proofs.SameUses.{same_operand}
use Rattle.jm_class_reader.proofs.KnownValues.{found}
use Rattle.jm_class_reader.proofs.symbols.Symbols.instruction.Goals as goal

pub returns-in-Some : goal.returns-in-Some
returns-in-Some c =
    ap (λ p. named p (indexed_of c.args.operand)) (sym c.self.view_is)
    ∙ found _ same_operand (λ u. named c.self.inside.pool.now (indexed_of u)) c.self.inside.instructions c.args.operand c.in-Some.known.now c.self.invariant.instructions (sym c.in-Some.ensures.value)
