use Rattle.std.proofs.Common.{◌≡◌, ◌∷◌, ◌++◌, [], ◌∙◌, ap, refl, arith, length, map}
use Rattle.std.specs.Prelude.{slice_get}
use Rattle.jm_heap.specs.Elements.{elements}
use Rattle.jm_heap.specs.Packing.{kind_of, reference}
use Rattle.jm_blocks.specs.Objects.{Object, object_of}
use Rattle.jm_par_copy.proofs.Alone.{length_map, object_same, put_is, same_header}
use Rattle.jm_par_copy.proofs.large.put_references.Goals as goal

pub object_at-requires : goal.object_at-requires
object_at-requires c = let a = c.requires.array in (object_of a.0 (map reference a.1), ap (λ b. slice_get b 0) a.2)

pub bump-requires-clause-short : goal.bump-requires-clause-short
bump-requires-clause-short c =
    let a = c.requires.array in
    let e = c.object_at.ensures in
    let same = ap (λ (o : Object). length o.values) (same_header c.args.piece.now c.object_at.result.0 a.0 (elements c.object_at.result.1) a.1 a.2 e.value) in
    let old = length_map reference a.1 in
    let new = length_map reference c.args.references.now in
    omega (arith, e.short, same, old, new, a.4)

pub bump-requires-clause-same : goal.bump-requires-clause-same
bump-requires-clause-same c =
    let a = c.requires.array in
    a.5 ∙ ap (λ (o : Object). kind_of o.class) (same_header c.args.piece.now c.object_at.result.0 a.0 (elements c.object_at.result.1) a.1 a.2 c.object_at.ensures.value)

pub returns : goal.returns
returns c = record {
  ok = λ h rs is.
      let x = c.args.piece.now in
      let qs = c.args.references.now in
      let header = c.object_at.result.0 in
      let vs = elements c.object_at.result.1 in
      let n = c.in_ok-note_first.ensures in
      let same = same_header x header h vs rs is c.object_at.ensures.value in
      let block : c.bump.new.self ≡ object_of h (map reference qs) ∷ [] = c.in_ok-bump.ensures.ok ∙ ap (λ b. b ++ object_of header (map reference qs) ∷ []) c.new-block.ensures ∙ ap (λ (o : Object). o ∷ []) (object_same header h vs (map reference rs) (map reference qs) same) in
      put_is x (record { lane = c.note_first.new.piece.lane; number = c.note_first.new.piece.number; block = c.bump.new.self; mark = 1; pointing = c.note_first.new.piece.pointing }) h rs qs c.points_into.result c.requires.piece c.requires.array.3 is block refl n.lane n.number c.points_into.ensures n.young n.old;
}
