use Rattle.std.proofs.Common.{arith, ap, length}
use Rattle.std.proofs.lemmas.Option.{slice_get_past}
use Rattle.jm_blocks.proofs.Spelling.{object_there, length_spelled}
use Rattle.jm_blocks.proofs.contents.Contents.object.Goals as goal

pub returns-then-index-len-clause-value : goal.returns-then-index-len-clause-value
returns-then-index-len-clause-value c =
    let many = length_spelled c.self.inside.entries.items c.self.inside.values in
    slice_get_past c.args.self.now c.args.index (omega (arith, many, ap length c.self.view_is, c.len.ensures, c.if-index-len.true, c.self.inside.entries.ok.0))

pub object_at-requires : goal.object_at-requires
object_at-requires c = object_there c.args.self.now c.args.index (omega (arith, length_spelled c.self.inside.entries.items c.self.inside.values, ap length c.self.view_is, c.len.ensures, c.if-index-len.false, c.self.inside.entries.ok.0))
