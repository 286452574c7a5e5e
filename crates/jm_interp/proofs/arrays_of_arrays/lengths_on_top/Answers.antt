-- What was read is what the row is given.
use Rattle.std.proofs.Common.{[], Ok, ◌≡◌, ◌∙◌, ap, sym}
use Rattle.std.proofs.lemmas.Result.{IfErr-weaker, IfOk-weaker}
use Rattle.jm_interp.specs.ArraysOfArrays.{RefusedAs, counts_of, lengths_in}
use Rattle.jm_interp.proofs.ArraysOfArrays.{counts_for_all, counts_found, counts_refused, has_some, lengths_refused, room_for_all}
use Rattle.jm_interp.proofs.arrays_of_arrays.lengths_on_top.Goals as goal

pub returns-in-Ok-clause-ok : goal.returns-in-Ok-clause-ok
returns-in-Ok-clause-ok g c = λ h.
    let e = counts_found c.index.ensures h.method (λ s. counts_of c.args.dimensions [] s ≡ Ok c.in-Ok.counts.items) c.in-Ok.ensures.ok in
    let room = room_for_all c.index.ensures c.in-Ok.ensures.ok c.in-Ok.ensures.room (has_some h).0 in
    IfOk-weaker c.lengths_of.result _ _ (λ lengths is. counts_for_all h e (ap lengths_in (sym c.as_slice.ensures.value) ∙ is) room) c.lengths_of.ensures.ok

pub returns-in-Ok-clause-err : goal.returns-in-Ok-clause-err
returns-in-Ok-clause-err g c =
    let h = c.requires in
    let e = counts_found c.index.ensures h.method (λ s. counts_of c.args.dimensions [] s ≡ Ok c.in-Ok.counts.items) c.in-Ok.ensures.ok in
    IfErr-weaker c.lengths_of.result _ _ (λ why is. lengths_refused h (e ∙ ap Ok (sym c.as_slice.ensures.value)) why is) c.lengths_of.ensures.err

pub returns-in-Err-clause-err : goal.returns-in-Err-clause-err
returns-in-Err-clause-err g c =
    counts_refused c.requires c.in-Err.refusal
    (counts_found c.index.ensures c.requires.method (λ s. RefusedAs (counts_of c.args.dimensions [] s) c.in-Err.refusal) c.in-Err.ensures.err)
