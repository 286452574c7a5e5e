use Rattle.std.proofs.Common.{◌≡◌, Ok, Some, sym, ap, ◌∙◌}
use Rattle.jm_class_format.specs.PoolLookups.{text_at}
use Rattle.jm_class_format.specs.Symbols.{method_type_of}
use Rattle.jm_class_reader.specs.Known.{of_text}
use Rattle.jm_class_reader.proofs.SameUses.{same_method_type}
use Rattle.jm_class_reader.proofs.KnownValues.{kept, at_text}
use Rattle.jm_class_reader.proofs.symbols.Symbols.keep_method_type.Goals as goal

pub invariant_of-self-2 : goal.invariant_of-self-2
invariant_of-self-2 c =
    let pool = c.self.inside.pool.now in
    let stands : text_at pool c.args.text.index ≡ Some c.args.text.units.now = ap (λ p. text_at p c.args.text.index) c.self.view_is ∙ c.requires.stands in
    let is : of_text pool (method_type_of c.args.receiver) c.args.text.index ≡ Ok c.in_ok-copy.copy =
    at_text pool (method_type_of c.args.receiver) c.args.text.index c.args.text.units.now stands ∙ c.requires.is ∙ ap (λ x. Ok x) (sym c.in_ok-copy.ensures) in
    let known = kept _ same_method_type (λ u. of_text pool (method_type_of u.receiver) u.index) c.self.inside.method_types.entries (record { receiver = c.args.receiver; index = c.args.text.index }) c.in_ok-copy.copy c.self.invariant.method_types is in
    record { names = c.self.invariant.names; field_types = c.self.invariant.field_types; method_types = rw c.in_ok-insert.ensures.entries known; strings = c.self.invariant.strings; instructions = c.self.invariant.instructions }
