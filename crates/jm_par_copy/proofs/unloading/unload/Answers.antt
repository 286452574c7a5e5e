use Rattle.std.proofs.Common.{◌≡◌, List, rules, sym, subst}
use Rattle.jm_par_copy.specs.Ending.{AreLoads, IsBeside, IsLoaded, stored}
use Rattle.jm_par_copy.specs.Holding.{held_objects}
use Rattle.jm_par_copy.specs.declared.piece.Piece.{Piece}
use Rattle.jm_par_copy.proofs.Loads.{beside_first, given_beside, given_loads, loaded_then}
use Rattle.jm_par_copy.proofs.unloading.unload.Goals as goal

pub unload_own-requires-clause-beside : goal.unload_own-requires-clause-beside
unload_own-requires-clause-beside c = beside_first (stored c.args.copier.now.own.to.young c.args.copier.now.own.to.tenured) (held_objects c.args.copier.now.given.items) c.args.young.now c.args.promoted.now c.requires.beside

pub put_pieces-requires-clause-loads : goal.put_pieces-requires-clause-loads
put_pieces-requires-clause-loads c =
    let young = c.unload_own.new.young in
    let old = c.unload_own.new.promoted in
    let given : c.replace-given.result.items ≡ c.args.copier.now.given.items = search rules in
    subst (λ (xs : List Piece). AreLoads young.lane old.lane xs) (sym given) (given_loads c.args.copier.now c.args.young.now c.args.promoted.now c.requires.lanes c.requires.load young old c.in_ok-unload_own.ensures.loaded)

pub put_pieces-requires-clause-beside : goal.put_pieces-requires-clause-beside
put_pieces-requires-clause-beside c =
    let young = c.unload_own.new.young in
    let old = c.unload_own.new.promoted in
    let given : c.replace-given.result.items ≡ c.args.copier.now.given.items = search rules in
    subst (λ (xs : List Piece). IsBeside (held_objects xs) young old) (sym given) (given_beside c.args.copier.now c.args.young.now c.args.promoted.now c.requires.lanes c.requires.load young old c.in_ok-unload_own.ensures.loaded c.requires.beside)

pub returns-clause-loaded : goal.returns-clause-loaded
returns-clause-loaded c =
    let young = c.unload_own.new.young in
    let old = c.unload_own.new.promoted in
    let given : c.replace-given.result.items ≡ c.args.copier.now.given.items = search rules in
    loaded_then (stored c.args.copier.now.own.to.young c.args.copier.now.own.to.tenured) (held_objects c.args.copier.now.given.items) c.args.young.now c.args.promoted.now young old c.put_pieces.new.young c.put_pieces.new.promoted c.in_ok-unload_own.ensures.loaded (subst (λ (xs : List Piece). IsLoaded (held_objects xs) young old c.put_pieces.new.young c.put_pieces.new.promoted) given c.in_ok-put_pieces.ensures)
