use Rattle.std.proofs.Common.{◌≡◌, Ok, Some, sym, ap, ◌∙◌}
use Rattle.jm_class_format.specs.PoolLookups.{text_at}
use Rattle.jm_class_format.specs.Symbols.{method_type_of}
use Rattle.jm_class_reader.specs.Known.{of_text}
use Rattle.jm_class_reader.proofs.SameUses.{same_method_type}
use Rattle.jm_class_reader.proofs.KnownValues.{found, at_text, method_few}
use Rattle.jm_class_reader.proofs.symbols.Symbols.method_type.Goals as goal

pub returns-in-Some-clause-given : goal.returns-in-Some-clause-given
returns-in-Some-clause-given c =
    let pool = c.self.inside.pool.now in
    let stands : text_at pool c.args.text.index ≡ Some c.args.text.units.now = ap (λ p. text_at p c.args.text.index) c.self.view_is ∙ c.requires in
    sym (at_text pool (method_type_of c.args.receiver) c.args.text.index c.args.text.units.now stands)
    ∙ found _ same_method_type (λ u. of_text pool (method_type_of u.receiver) u.index) c.self.inside.method_types (record { receiver = c.args.receiver; index = c.args.text.index }) c.in-Some.known.now c.self.invariant.method_types (sym c.in-Some.ensures.value)
    ∙ ap (λ x. Ok x) (sym c.in_ok-method_type.ensures)

pub returns-in-Some-clause-few : goal.returns-in-Some-clause-few
returns-in-Some-clause-few c = method_few c.args.receiver c.args.text.units.now c.in_ok-method_type.method_type (returns-in-Some-clause-given c)
