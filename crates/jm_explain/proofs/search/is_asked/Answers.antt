-- A name is looked for among the names as they stand.
use Rattle.std.proofs.Common.{◌∙◌}
use Rattle.std.specs.Str.{bytes_eq}
use Rattle.jm_explain.proofs.Finding.{any_viewed}
use Rattle.jm_explain.proofs.search.is_asked.Goals as goal

pub returns-in-Name : goal.returns-in-Name
returns-in-Name c = rw c.in-Name.is (c.contains.ensures.value ∙ any_viewed (λ name. name.now) (λ name. bytes_eq name c.in-Name.name.now) c.args.entry.now.names.now)
