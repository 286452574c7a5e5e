-- One more key.
use Rattle.std.proofs.Common.{arith}
use Rattle.jm_linker.proofs.KeyLaws.{keys_more}
use Rattle.jm_linker.proofs.key.type_keys.Goals as goal

pub loop-field_type-preserved : goal.loop-field_type-preserved
loop-field_type-preserved c =
    keys_more c.loop-field_type.keys.items c.push.new.self.items c.args.types.now c.loop-field_type.field_type-index c.type_key.result c.field_type-item.result (omega arith) c.field_type-item.is c.in_ok-push.ensures.items c.loop-field_type.invariant c.type_key.ensures
