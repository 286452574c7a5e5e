-- One more method, which can be selected or cannot.
use Rattle.std.proofs.Common.{◌≡◌, ◌+◌, ◌<◌, [], length, get_or, take, refl, sym, ap, subst, ◌∙◌, arith}
use Rattle.std.proofs.lemmas.Option.{slice_get_read}
use Rattle.std.specs.Prelude.{slice_get}
use Rattle.jm_linked.specs.Methods.{all_methods}
use Rattle.jm_linker.specs.Selectors.{AreOwnCells}
use Rattle.jm_linker.proofs.AboveLaws.{not_none}
use Rattle.jm_linker.proofs.SelectedLaws.{cells_more, cells_past, no_cells, standing_selector}
use Rattle.jm_linker.proofs.selected.own_methods.Goals.{then-can_be_selected+in_ok-key+in-Some+in_ok-number+in_ok-push, else-can_be_selected}
use Rattle.jm_linker.proofs.selected.own_methods.Goals as goal

pub loop-index-init : goal.loop-index-init
loop-index-init c =
    subst (AreOwnCells c.args.classes.now.program.now c.args.class.now []) (sym c.new-own.ensures.items) (no_cells c.args.classes.now.program.now c.args.class.now)

pub unreachable-requires : goal.unreachable-requires
unreachable-requires c =
    let items = c.as_slice-method-items.result.now in
    let i = c.loop-index.index in
    let m = c.method-item.result in
    let there = standing_selector c.args.classes.now.program.now (c.args.before + i) (record { class = c.args.class.now; method = m })
    (c.requires i m (ap (λ ms. slice_get ms i) (sym c.as_slice-method-items.ensures) ∙ slice_get_read items (length items) i m refl (omega arith) c.method-item.is)) in
    not_none _ there (sym (c.selector.ensures m.name m.descriptor c.in_ok-key.ensures) ∙ c.in_default.is)

pub loop-index-preserved : goal.loop-index-preserved
loop-index-preserved c =
    let program = c.args.classes.now.program.now in
    let class = c.args.class.now in
    let items = c.as_slice-method-items.result.now in
    let i = c.loop-index.index in
    let m = c.method-item.result in
    let own = c.loop-index.own.items in
    let within : i < length class.methods = subst (λ ms. i < length ms) c.as_slice-method-items.ensures (omega arith) in
    let is : m ≡ get_or class.methods i m = c.method-item.is ∙ ap (λ ms. get_or ms i m) c.as_slice-method-items.ensures in
    elim c.if-can_be_selected.branch [
      | then-can_be_selected+in_ok-key+in-Some+in_ok-number+in_ok-push w ↦
          subst (λ o. AreOwnCells program class (take (i + 1) class.methods) o.items) (sym w.own-is)
          (subst (AreOwnCells program class (take (i + 1) class.methods)) (sym w.in_ok-push.ensures.items)
          (cells_more program class i m own w.in-Some.column w.in_ok-number.number within is (sym w.if-can_be_selected.ensures)
          (sym (w.selector.ensures m.name m.descriptor w.in_ok-key.ensures) ∙ w.in-Some.is) w.in_ok-number.ensures.1
          (ap (λ n. slice_get (all_methods program) n) w.in_ok-number.ensures.0 ∙ c.requires i m (slice_get_read class.methods (length class.methods) i m refl within is))
          c.loop-index.invariant))
      | else-can_be_selected w ↦
          subst (λ o. AreOwnCells program class (take (i + 1) class.methods) o.items) (sym w.own-is)
          (cells_past program class class.methods i m own within is (sym w.if-can_be_selected.ensures) c.loop-index.invariant)
    ]
