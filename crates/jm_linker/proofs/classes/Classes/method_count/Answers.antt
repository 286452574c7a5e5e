-- As many as are listed.
use Rattle.std.proofs.Common.{length, sym, ap, ◌∙◌}
use Rattle.jm_world.specs.Classes.{FoundMethod}
use Rattle.jm_linker.specs.declared.selectors.ClassMethod.{ClassMethod}
use Rattle.jm_linker.proofs.ClassLaws.{length_map}
use Rattle.jm_linker.proofs.classes.Classes.method_count.Goals as goal

pub returns : goal.returns
returns c =
    let methods = c.args.self.now.methods.items in
    c.len.ensures ∙ c.args.self.now.methods.ok.0
    ∙ sym (length_map (λ (m : ClassMethod). let f : FoundMethod = record { class = m.class.now; method = m.method.now } in f) methods)
    ∙ ap length c.args.self.now.listed
