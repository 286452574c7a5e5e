-- What the rows have is what is selected.
use Rattle.std.proofs.Common.{Option, ℕ, subst, sym, arith}
use Rattle.jm_world.specs.Resolution.{select}
use Rattle.jm_tables.specs.Numbering.{name_of}
use Rattle.jm_tables.specs.MethodTables.{IsNumberOf}
use Rattle.jm_tables.proofs.MethodLaws.{selected}
use Rattle.jm_tables.proofs.method_table.MethodTable.of.Goals as goal

pub returns-in-Some-clause-selected : goal.returns-in-Some-clause-selected
returns-in-Some-clause-selected c = λ program names methods selector name t small are class less.
    let rows = (rw c.in-Some.is at c.in_ok-rows.ensures).rows in
    subst (λ (o : Option ℕ). IsNumberOf methods o (select program (name_of names class) name t))
    (sym (rows class selector (omega (arith, less, are.many)) small))
    (selected program names methods selector name t c.args.classes.now are class less)
