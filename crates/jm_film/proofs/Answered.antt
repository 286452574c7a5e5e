-- What is so whatever was answered.
use Rattle.std.specs.Prelude.{Result, Ok, Err, OnOk}

pub of_answer : {A E : Type 0} (P : Type 0) (r : Result A E) → P → OnOk r P
of_answer P (Ok a) p = p
of_answer P (Err e) p = tt
