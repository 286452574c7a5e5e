use Rattle.std.proofs.Common.{ap, ◌∙◌}
use Rattle.jm_class_format.specs.NamedCode.{named}
use Rattle.jm_class_reader.specs.Known.{indexed_of}
use Rattle.jm_class_reader.proofs.SameUses.{same_operand}
use Rattle.jm_class_reader.proofs.KnownValues.{kept}
use Rattle.jm_class_reader.proofs.symbols.Symbols.keep.Goals as goal

pub invariant_of-self-2 : goal.invariant_of-self-2
invariant_of-self-2 c =
    let known = kept _ same_operand (λ u. named c.self.inside.pool.now (indexed_of u)) c.self.inside.instructions.entries c.args.operand c.args.instr c.self.invariant.instructions (ap (λ p. named p (indexed_of c.args.operand)) c.self.view_is ∙ c.requires) in
    record { names = c.self.invariant.names; field_types = c.self.invariant.field_types; method_types = c.self.invariant.method_types; strings = c.self.invariant.strings; instructions = rw c.in_ok-insert.ensures.entries known }
