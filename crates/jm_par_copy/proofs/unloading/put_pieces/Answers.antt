use Rattle.std.proofs.Common.{◌≡◌, ◌≢◌, ◌∷◌, [], ◌∙◌, rules, refl, sym, subst}
use Rattle.jm_par_copy.proofs.Redealing.{none_left}
use Rattle.jm_par_copy.proofs.Loads.{ArePut, all_put, first_beside, none_put, one_put}
use Rattle.jm_par_copy.proofs.unloading.put_pieces.Goals as goal

pub loop-piece-init : goal.loop-piece-init
loop-piece-init c =
    let all : c.into_iter-piece-iterator.result.rest.items ≡ c.args.pieces.items = search rules in
    subst (λ rest. ArePut c.args.young.now c.args.promoted.now c.args.pieces.items c.args.young.now c.args.promoted.now rest) (sym all) (none_put c.args.young.now c.args.promoted.now c.args.pieces.items c.requires.loads c.requires.beside)

pub put_by_lane-requires : goal.put_by_lane-requires
put_by_lane-requires c =
    let steps : c.loop-piece.piece-iterator.rest.items ≡ c.in-Some.piece ∷ c.next.new.self.rest.items = search rules in
    let i = subst (λ rest. ArePut c.args.young.now c.args.promoted.now c.args.pieces.items c.loop-piece.young c.loop-piece.promoted rest) steps c.loop-piece.invariant in
    let lanes : c.loop-piece.young.lane ≢ c.loop-piece.promoted.lane = λ e. c.requires.lanes (sym i.young_lane ∙ e ∙ i.old_lane) in
    record {
      lanes = lanes;
      piece = i.loads.pieces 0 c.in-Some.piece refl;
      lane = i.loads.lanes 0 c.in-Some.piece refl;
      beside = first_beside c.loop-piece.young c.loop-piece.promoted c.in-Some.piece c.next.new.self.rest.items i.beside;
    }

pub loop-piece-preserved : goal.loop-piece-preserved
loop-piece-preserved c =
    let steps : c.loop-piece.piece-iterator.rest.items ≡ c.in-Some.piece ∷ c.next.new.self.rest.items = search rules in
    let i = subst (λ rest. ArePut c.args.young.now c.args.promoted.now c.args.pieces.items c.loop-piece.young c.loop-piece.promoted rest) steps c.loop-piece.invariant in
    one_put c.args.young.now c.args.promoted.now c.loop-piece.young c.loop-piece.promoted c.put_by_lane.new.young c.put_by_lane.new.promoted c.args.pieces.items c.next.new.self.rest.items c.in-Some.piece i c.in_ok-put_by_lane.ensures

pub returns : goal.returns
returns c =
    let none : c.loop-piece.piece-iterator.rest.items ≡ [] = none_left c.loop-piece.piece-iterator.rest.items c.loop-piece.piece-iterator.rest.len (search rules) c.in-None.ensures.steps.0 in
    all_put c.args.young.now c.args.promoted.now c.loop-piece.young c.loop-piece.promoted c.args.pieces.items (subst (λ rest. ArePut c.args.young.now c.args.promoted.now c.args.pieces.items c.loop-piece.young c.loop-piece.promoted rest) none c.loop-piece.invariant)
