use Rattle.std.proofs.Common.{◌∙◌, sym, subst}
use Rattle.jm_values.specs.Shape.{Among}
use Rattle.jm_heap.specs.Elements.{elements, element_kind}
use Rattle.jm_copy.proofs.Listed.{ref_at}
use Rattle.jm_copy.proofs.Scanning.{reference_fits}
use Rattle.jm_copy.proofs.copies.first_named.Goals as goal

pub named_below-requires : goal.named_below-requires
named_below-requires c = record {
  within = c.end_of-end.ensures.within;
  none = c.end_of-end.ensures.none;
  fits = reference_fits (element_kind c.args.values) (sym c.is_plain.ensures.value ∙ c.if-is_plain.false);
}

pub returns-then-is_plain : goal.returns-then-is_plain
returns-then-is_plain c i p from below h = subst (Among p) (c.is_plain.ensures.none c.if-is_plain.true) (ref_at (elements c.args.values) i p h)
