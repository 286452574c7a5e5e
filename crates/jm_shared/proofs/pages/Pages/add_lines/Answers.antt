-- One page more, and then the one that is written on.
use Rattle.std.proofs.Common.{ap, subst, ◌∙◌, ◌≤◌, length, take}
use Rattle.jm_shared.specs.Records.{Writes}
use Rattle.jm_shared.specs.Pages.{PagesView, flat}
use Rattle.jm_shared.proofs.PageEvents.{on_ok}
use Rattle.jm_shared.proofs.Records.{all_write, page_writes}
use Rattle.jm_shared.proofs.pages.Pages.add_lines.Goals as goal

pub loop-page-preserved : goal.loop-page-preserved
loop-page-preserved c =
    page_writes c.deref-page-items.result.now c.loop-page.page-index c.page-item.result _ _ _ _ _ _ c.loop-page-test.true
    (subst (λ xs. Writes xs c.loop-page.text.bytes.items c.loop-page.text.turns c.add_all.new.self.bytes.items c.add_all.new.self.turns) (c.deref.ensures.value ∙ ap (λ p. p.items) c.page-item.is) c.in_ok-add_all.ensures)
    c.loop-page.invariant

pub returns : goal.returns
returns c = on_ok _ _ c.add_all-2.result c.add_all-2.ensures (λ more.
    let old = c.args.text.now in
    let new = c.add_all-2.new.self in
    let now = c.loop-page.text in
    subst (λ (v : PagesView). Writes v.items old.bytes.items old.turns new.bytes.items new.turns) c.self.view_is
    (all_write c.self.inside.full.items c.self.inside.here.items c.loop-page.page-index _ _ _ _ _ _ (subst (λ ps. length ps ≤ c.loop-page.page-index) c.deref-page-items.ensures.value c.loop-page-test.false)
    (subst (λ xs. Writes xs now.bytes.items now.turns new.bytes.items new.turns) c.deref-2.ensures.value more)
    (subst (λ ps. Writes (flat (take c.loop-page.page-index ps)) old.bytes.items old.turns now.bytes.items now.turns) c.deref-page-items.ensures.value c.loop-page.invariant)))
