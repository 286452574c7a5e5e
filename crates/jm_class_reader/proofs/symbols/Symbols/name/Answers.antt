use Rattle.std.proofs.Common.{◌≡◌, Ok, Some, sym, ap, ◌∙◌}
use Rattle.jm_class_format.specs.PoolLookups.{text_at}
use Rattle.jm_class_reader.specs.Known.{name_of, of_text}
use Rattle.jm_class_reader.proofs.SameUses.{same_name}
use Rattle.jm_class_reader.proofs.KnownValues.{found, at_text}
use Rattle.jm_class_reader.proofs.symbols.Symbols.name.Goals as goal

pub returns-in-Some-clause-given : goal.returns-in-Some-clause-given
returns-in-Some-clause-given c =
    let pool = c.self.inside.pool.now in
    let stands : text_at pool c.args.text.index ≡ Some c.args.text.units.now = ap (λ p. text_at p c.args.text.index) c.self.view_is ∙ c.requires in
    sym (at_text pool (name_of c.args.kind) c.args.text.index c.args.text.units.now stands)
    ∙ found _ same_name (λ u. of_text pool (name_of u.kind) u.index) c.self.inside.names (record { kind = c.args.kind; index = c.args.text.index }) c.in-Some.known.now c.self.invariant.names (sym c.in-Some.ensures.value)
    ∙ ap (λ x. Ok x) (sym c.in_ok-name.ensures)
