use Rattle.std.proofs.Common.{◌≡◌, ◌∷◌, ◌++◌, [], rules, sym, subst, arith}
use Rattle.jm_par_copy.specs.Dealing.{AreDealt}
use Rattle.jm_par_copy.proofs.Redealing.{dealt_more, dealt_none, none_left, keep_seats, many_seats, seats_then}
use Rattle.jm_par_copy.proofs.dealing.deal_out.Goals as goal

pub loop-piece-init : goal.loop-piece-init
loop-piece-init c =
    let cs = c.args.copiers.now.items in
    let aside = c.args.aside.now.items in
    let all : c.into_iter-piece-iterator.result.rest.items ≡ c.args.pieces.items = search rules in
    (subst (λ left. AreDealt cs (c.args.pieces.items ++ aside) cs (left ++ aside)) (sym all) (dealt_none cs (c.args.pieces.items ++ aside)), c.requires.some, keep_seats cs)

pub returns-in_err-next-clause-seats : goal.returns-in_err-next-clause-seats
returns-in_err-next-clause-seats c = seats_then c.args.copiers.now.items c.loop-piece.copiers.items c.deal_one.new.copiers.items c.loop-piece.invariant.2 c.deal_one.ensures.seats

pub loop-piece-preserved : goal.loop-piece-preserved
loop-piece-preserved c =
    let cs = c.args.copiers.now.items in
    let ds = c.loop-piece.copiers.items in
    let es = c.deal_one.new.copiers.items in
    let all = c.args.pieces.items ++ c.args.aside.now.items in
    let steps : c.loop-piece.piece-iterator.rest.items ≡ c.in-Some.piece ∷ c.next.new.self.rest.items = search rules in
    let f = subst (λ left. AreDealt cs all ds (left ++ c.loop-piece.aside.items)) steps c.loop-piece.invariant.0 in
    let many = many_seats ds es c.deal_one.ensures.seats in
    let next = c.in_ok-next.ensures.next in (
      dealt_more cs ds es all c.next.new.self.rest.items c.loop-piece.aside.items c.deal_one.new.aside.items c.in-Some.piece f c.in_ok-next.ensures.dealt,
      omega (arith, many, next),
      seats_then cs ds es c.loop-piece.invariant.2 c.deal_one.ensures.seats,
    )

pub returns-clause-dealt : goal.returns-clause-dealt
returns-clause-dealt c =
    let cs = c.args.copiers.now.items in
    let none : c.loop-piece.piece-iterator.rest.items ≡ [] = none_left c.loop-piece.piece-iterator.rest.items c.loop-piece.piece-iterator.rest.len (search rules) c.in-None.ensures.steps.0 in
    subst (λ left. AreDealt cs (c.args.pieces.items ++ c.args.aside.now.items) c.loop-piece.copiers.items (left ++ c.loop-piece.aside.items)) none c.loop-piece.invariant.0
