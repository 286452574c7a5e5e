-- What holds of a result that is an error, where std has no such lemma.
use Rattle.std.specs.Prelude.{Result, Ok, Err, OnErr}

pub on_err : {T E P : Type 0} (r : Result T E) → P → OnErr r P
on_err (Ok x) p = tt
on_err (Err e) p = p
