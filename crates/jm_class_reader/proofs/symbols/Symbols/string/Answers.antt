use Rattle.std.proofs.Common.{rules, ◌≡◌, Ok, Some, sym, ap, ◌∙◌}
use Rattle.std.proofs.lemmas.Bool.{eqb-true}
use Rattle.jm_class_format.specs.PoolLookups.{text_at}
use Rattle.jm_class_reader.specs.Known.{of_text}
use Rattle.jm_class_reader.proofs.KnownValues.{found, at_text}
use Rattle.jm_class_reader.proofs.symbols.Symbols.string.Goals as goal

pub returns-in-Some-clause-given : goal.returns-in-Some-clause-given
returns-in-Some-clause-given c =
    let pool = c.self.inside.pool.now in
    let stands : text_at pool c.args.text.index ≡ Some c.args.text.units.now = ap (λ p. text_at p c.args.text.index) c.self.view_is ∙ c.requires in
    sym (at_text pool Ok c.args.text.index c.args.text.units.now stands)
    ∙ found _ (λ a b h. eqb-true a b h) (of_text pool Ok) c.self.inside.strings c.args.text.index c.in-Some.known.now c.self.invariant.strings (sym c.in-Some.ensures.value)
    ∙ ap (λ x. Ok x) (sym c.in_ok-units.ensures)
