use Rattle.std.proofs.Common.{[], subst}
use Rattle.std.specs.Prelude.{IfErr}
use Rattle.jm_interp.specs.ArraysOfArrays.{RefusedAs, counts_of}
use Rattle.jm_interp.proofs.arrays_of_arrays.counts_at.Goals as goal

pub returns-clause-err : goal.returns-clause-err
returns-clause-err c = λ f below r s.
    subst (λ v. IfErr c.counts_in.result (λ why. RefusedAs (counts_of c.args.dimensions [] v.activation.stack) why)) (c.top_method.ensures f below r s) c.counts_in.ensures.err
