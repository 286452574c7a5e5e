use Rattle.std.proofs.Common.{◌≡◌, ◌∙◌, arith}
use Rattle.jm_values.proofs.Marking.{object_there, value_there, looked_more, all_looked}
use Rattle.jm_machine.proofs.reached.mark_object.Goals as goal

pub length-index-end-requires : goal.length-index-end-requires
length-index-end-requires g c = object_there _ _ c.requires.there

pub get-requires : goal.get-requires
get-requires g c = value_there _ _ c.requires.there c.length-index-end.ensures (omega arith)

pub loop-index-preserved : goal.loop-index-preserved
loop-index-preserved g c =
    let before = c.loop-index.invariant in
    let one = c.in_ok-mark_value.ensures in
    record {
      marked = looked_more _ _ c.get.result c.get.ensures.value before.marked one.marked;
      places = λ all. one.places (before.places all);
    }

pub returns : goal.returns
returns g c =
    let n : c.loop-index.index ≡ c.length-index-end.result = omega arith in
    let whole = c.loop-index.invariant in
    record {
      marked = all_looked _ _ c.requires.there (λ k o a b. n ∙ c.length-index-end.ensures k o a b) whole.marked;
      places = whole.places;
    }
