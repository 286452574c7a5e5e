use Rattle.jm_class_format.specs.ModifiedUtf8.{text, text_bytes}
use Rattle.jm_pool.proofs.ModifiedText.{text_spelled, text_only}
use Rattle.jm_pool.proofs.laws.text_read_back.Goals as goal

pub returns-clause-back : goal.returns-clause-back
returns-clause-back c = text.complete (text_bytes c.args.units.now) c.args.units.now (text_spelled c.args.units.now 0 c.type_inv.units)

pub returns-clause-only : goal.returns-clause-only
returns-clause-only c bytes is = text_only c.args.units.now 0 bytes (text.sound bytes c.args.units.now is)
