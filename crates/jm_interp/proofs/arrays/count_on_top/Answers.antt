use mir.Syntax.{w32}
use mir.Val.{SFits}
use Rattle.std.proofs.Common.{rules, refl, ap, ◌∙◌}
use Rattle.std.proofs.Math.Facts.{to_z-of_z}
use Rattle.std.proofs.lemmas.Result.{err_from_is_err_and}
use Rattle.jm_values.specs.declared.value.Value.TheVariants.{Null}
use Rattle.jm_interp.specs.ArrayRows.{length_in}
use Rattle.jm_interp.proofs.ArrayRows.{count_refused, negative, counts, room_of_int}
use Rattle.jm_interp.proofs.OnTop.{found_int}
use Rattle.jm_interp.proofs.arrays.count_on_top.Goals as goal

pub returns-in_err-count : goal.returns-in_err-count
returns-in_err-count g c t h =
    let left = err_from_is_err_and c.from_residual.result c.from_residual.ensures.1 in
    rw (left.1, left.2) (count_refused t h (found_int h.method 0 c.index.ensures c.in_err-count.ensures.value))

pub returns-in-Some : goal.returns-in-Some
returns-in-Some g c t h =
    let e = found_int h.method 0 c.index.ensures c.in_ok-count.ensures.value in
    let fits : SFits w32 c.in_ok-count.count = search rules in
    counts t h e (c.length_in.ensures ∙ ap length_in (to_z-of_z fits)) c.in-Some.is
    (room_of_int c.index.ensures c.in_ok-count.ensures.room c.in_ok-count.ensures.value Null refl)

pub returns-in-None : goal.returns-in-None
returns-in-None g c t h =
    let e = found_int h.method 0 c.index.ensures c.in_ok-count.ensures.value in
    let fits : SFits w32 c.in_ok-count.count = search rules in
    negative t h e (c.length_in.ensures ∙ ap length_in (to_z-of_z fits)) c.in-None.is
