-- One more class.
use Rattle.std.proofs.Common.{◌≡◌, ◌∙◌, ◌+◌, ◌++◌, ◌<◌, ℕ, List, None, get_or, length, length-append, take, refl, sym, ap, subst, arith}
use Rattle.jm_tables.specs.declared.layout.ClassLayout.{ClassLayout}
use Rattle.jm_tables.specs.declared.layout.FieldNumber.{FieldNumber}
use Rattle.jm_tables.specs.Layouts.{IsRow, slots_from, statics_among}
use Rattle.jm_tables.proofs.RowLaws.{row_more, statics_more}
use Rattle.jm_tables.proofs.layout.lay_out.Goals as goal

pub loop-declared-preserved : goal.loop-declared-preserved
loop-declared-preserved c =
    let class : c.in-Ok.class ≡ c.loop-declared.declared-index = c.in-Ok.ensures.1 ∙ c.len.ensures ∙ c.loop-declared.rows.ok.0
    ∙ c.loop-declared.invariant.many in
    record {
      many = ap (λ (rows : List ClassLayout). length rows) c.in_ok-push.ensures.items ∙ length-append c.loop-declared.rows.items _
          ∙ ap (λ n. n + 1) c.loop-declared.invariant.many;
      rows = subst (λ (rows : List ClassLayout). (k : ℕ) → k < c.loop-declared.declared-index + 1 → IsRow c.args.classes.now c.args.extents.now rows k)
          (sym c.in_ok-push.ensures.items)
          (row_more c.args.classes.now c.args.extents.now c.loop-declared.rows.items c.loop-declared.declared-index c.declared-item.result c.in-Some.extent
          c.in_ok-slots.slots c.loop-declared-test.true c.declared-item.is c.loop-declared.invariant.many
          (ap (λ n. get_or c.args.extents.now n None) (sym class) ∙ sym c.in-Some.ensures)
          (c.in_ok-slots.ensures.slots ∙ ap (λ (xs : List FieldNumber). slots_from c.in-Some.extent.inherited (length xs) c.declared-item.result.fields.now)
          c.loop-declared.invariant.statics)
          c.loop-declared.invariant.rows);
      statics = c.in_ok-slots.ensures.statics
          ∙ ap (λ (xs : List FieldNumber). xs ++ statics_among c.in-Ok.class 0 c.declared-item.result.fields.now) c.loop-declared.invariant.statics
          ∙ sym (statics_more c.args.classes.now c.loop-declared.declared-index c.in-Ok.class c.declared-item.result c.loop-declared-test.true
          c.declared-item.is class);
    }
