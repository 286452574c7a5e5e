-- The next name stands behind those that are known.
use Rattle.std.proofs.Common.{sym, ap, ◌∙◌}
use Rattle.std.specs.List.{flat_map}
use Rattle.jm_class_path.specs.Search.{next_name}
use Rattle.jm_class_path.specs.Uses.{uses}
use Rattle.jm_class_path.proofs.Known.{next_at}
use Rattle.jm_class_path.proofs.class_path.ClassPath.next_name.Goals as goal

pub returns-clause-name : goal.returns-clause-name
returns-clause-name c =
    let inside = c.self.inside in
    c.get_index.ensures.key
    ∙ sym (next_at inside.names.keys (flat_map uses inside.classes.items) inside.known (record { within = inside.within; all = inside.used }))
    ∙ ap next_name c.self.view_is
