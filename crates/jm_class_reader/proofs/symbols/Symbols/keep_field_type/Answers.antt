use Rattle.std.proofs.Common.{◌≡◌, Ok, Some, sym, ap, ◌∙◌}
use Rattle.std.proofs.lemmas.Bool.{eqb-true}
use Rattle.jm_class_format.specs.PoolLookups.{text_at}
use Rattle.jm_class_format.specs.Symbols.{field_type_of}
use Rattle.jm_class_reader.specs.Known.{of_text}
use Rattle.jm_class_reader.proofs.KnownValues.{kept, at_text}
use Rattle.jm_class_reader.proofs.symbols.Symbols.keep_field_type.Goals as goal

pub invariant_of-self-2 : goal.invariant_of-self-2
invariant_of-self-2 c =
    let pool = c.self.inside.pool.now in
    let stands : text_at pool c.args.text.index ≡ Some c.args.text.units.now = ap (λ p. text_at p c.args.text.index) c.self.view_is ∙ c.requires.stands in
    let is : of_text pool field_type_of c.args.text.index ≡ Ok c.in_ok-copy.copy =
    at_text pool field_type_of c.args.text.index c.args.text.units.now stands ∙ c.requires.is ∙ ap (λ x. Ok x) (sym c.in_ok-copy.ensures) in
    let known = kept _ (λ a b h. eqb-true a b h) (of_text pool field_type_of) c.self.inside.field_types.entries c.args.text.index c.in_ok-copy.copy c.self.invariant.field_types is in
    record { names = c.self.invariant.names; field_types = rw c.in_ok-insert.ensures.entries known; method_types = c.self.invariant.method_types; strings = c.self.invariant.strings; instructions = c.self.invariant.instructions }
