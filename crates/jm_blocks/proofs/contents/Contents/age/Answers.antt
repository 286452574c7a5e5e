use Rattle.std.proofs.Common.{arith, ap, ◌∙◌}
use Rattle.jm_blocks.proofs.Spelling.{entry_there, object_is}
use Rattle.jm_blocks.proofs.contents.Contents.age.Goals as goal

pub index-entry-requires : goal.index-entry-requires
index-entry-requires c =
    let w = entry_there c.self.inside.entries.items c.self.inside.values c.args.self.now c.args.index c.requires.0 c.self.view_is c.requires.1 in
    omega (arith, w, c.self.inside.entries.ok.0)

pub returns : goal.returns
returns c o e = c.age.ensures ∙ ap (λ x. x.age) (object_is c.self.inside.entries.items c.self.inside.values c.args.self.now c.args.index c.index-entry.result.now o c.self.view_is c.index-entry.ensures e)
