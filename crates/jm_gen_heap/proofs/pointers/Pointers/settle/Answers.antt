use Rattle.std.proofs.Common.{◌++◌, ap, refl, subst, ◌∙◌}
use Rattle.jm_values.proofs.Among.{among_left}
use Rattle.jm_values.proofs.Outcomes.{on_err}
use Rattle.jm_gen_heap.specs.Pointers.{Noted, Covers, Grows, IsSettled, StillPoint}
use Rattle.jm_gen_heap.proofs.Noting.{grows_more, grows_then, settled, still_grown}
use Rattle.jm_gen_heap.proofs.pointers.Pointers.settle.Goals as goal

pub returns-in_err-note_pointers-clause-err : goal.returns-in_err-note_pointers-clause-err
returns-in_err-note_pointers-clause-err c =
    let i = c.self.inside in
    let before = i.before.items in
    let promoted = i.promoted.items in
    let new = c.note_pointers.new.noted in
    let first : Grows before i.noted new = subst (λ ps. Grows ps i.noted new) c.as_slice.ensures.value c.note_pointers.ensures.grows in
    let g : Grows (before ++ promoted) i.noted new = grows_more before (before ++ promoted) i.noted new (λ q h. among_left q before promoted h) first in
    let old : Noted = record { noted = i.noted; left = before ++ promoted } in
    let s = still_grown c.args.store.now old (record { noted = new; left = before ++ promoted }) g refl in
    on_err c.from_residual.result (subst (λ n. StillPoint c.args.store.now n (record { noted = new; left = before ++ promoted })) c.self.view_is s)

pub returns-in_err-note_pointers-2-clause-err : goal.returns-in_err-note_pointers-2-clause-err
returns-in_err-note_pointers-2-clause-err c =
    let i = c.self.inside in
    let before = i.before.items in
    let promoted = i.promoted.items in
    let new = c.note_pointers-2.new.noted in
    let g : Grows (before ++ promoted) i.noted new = grows_then before promoted i.noted c.note_pointers.new.noted new
    (subst (λ ps. Grows ps i.noted c.note_pointers.new.noted) c.as_slice.ensures.value c.note_pointers.ensures.grows)
    (subst (λ ps. Grows ps c.note_pointers.new.noted new) c.as_slice-2.ensures.value c.note_pointers-2.ensures.grows) in
    let old : Noted = record { noted = i.noted; left = before ++ promoted } in
    let s = still_grown c.args.store.now old (record { noted = new; left = before ++ promoted }) g refl in
    on_err c.from_residual-in_err-note_pointers-2.result (subst (λ n. StillPoint c.args.store.now n (record { noted = new; left = before ++ promoted })) c.self.view_is s)

pub returns-clause-ok : goal.returns-clause-ok
returns-clause-ok c =
    let i = c.self.inside in
    let old : Noted = record { noted = i.noted; left = i.before.items ++ i.promoted.items } in
    let new : Noted = record { noted = c.note_pointers-2.new.noted; left = c.clear.new.self.items ++ c.clear-2.new.self.items } in
    let none = ap (λ xs. xs ++ c.clear-2.new.self.items) c.clear.ensures.items ∙ c.clear-2.ensures.items in
    let mid = c.note_pointers.new.noted in
    let s = settled c.args.store.now old new i.before.items i.promoted.items mid refl
    (subst (λ ps. Grows ps i.noted mid) c.as_slice.ensures.value c.note_pointers.ensures.grows)
    (subst (λ ps. Covers c.args.store.now ps mid) c.as_slice.ensures.value c.in_ok-note_pointers.ensures.ok)
    (subst (λ ps. Grows ps mid new.noted) c.as_slice-2.ensures.value c.note_pointers-2.ensures.grows)
    (subst (λ ps. Covers c.args.store.now ps new.noted) c.as_slice-2.ensures.value c.in_ok-note_pointers-2.ensures.ok) none in
    subst (λ n. IsSettled c.args.store.now n new) c.self.view_is s
