-- One more row.
use Rattle.std.proofs.Common.{◌≡◌, ◌∙◌, ◌+◌, ◌++◌, ◌∷◌, [], suc, take, get_or, sym, ap, subst, arith}
use Rattle.std.proofs.Math.Seq.{take-suc}
use Rattle.jm_tables.specs.Placing.{ArePlaced}
use Rattle.jm_tables.proofs.PlacingLaws.{placed_push}
use Rattle.jm_tables.proofs.inheritance.rows_of.Goals as goal

pub loop-class-preserved : goal.loop-class-preserved
loop-class-preserved c =
    let more : take (c.loop-class.class-index + 1) c.args.classes.now ≡ take c.loop-class.class-index c.args.classes.now ++ get_or c.args.classes.now
    c.loop-class.class-index 0 ∷ [] =
    (let next : c.loop-class.class-index + 1 ≡ suc c.loop-class.class-index = omega arith in ap (λ n. take n c.args.classes.now) next
    ∙ take-suc c.args.classes.now c.loop-class.class-index 0 c.loop-class-test.true) in
    subst (λ cs. ArePlaced c.args.places.now cs c.push.new.self.items) (sym more)
    (subst (ArePlaced c.args.places.now (take c.loop-class.class-index c.args.classes.now ++ get_or c.args.classes.now c.loop-class.class-index 0 ∷ []))
    (sym c.in_ok-push.ensures.items)
    (placed_push c.args.places.now (take c.loop-class.class-index c.args.classes.now) c.loop-class.rows.items
    (get_or c.args.classes.now c.loop-class.class-index 0) c.in-Some.row c.loop-class.invariant c.in-Some.ensures.found))
