use Rattle.std.proofs.Common.{refl, length}
use Rattle.std.proofs.lemmas.Option.{slice_get_read}
use Rattle.jm_par_copy.proofs.Alone.{large_is_reached}
use Rattle.jm_par_copy.proofs.Copiers.{all_are_ready}
use Rattle.jm_par_copy.proofs.Going.{jointly_keeps}
use Rattle.jm_par_copy.proofs.jointly.scan_at.Goals as goal

pub scan_large-requires-clause-ready : goal.scan_large-requires-clause-ready
scan_large-requires-clause-ready g c κs within = all_are_ready c.args.round.now.from.stores.now c.args.round.now.from.roots.now c.args.round.now.words.now c.args.copiers.now.items c.args.aside.now.items c.requires.copying

pub scan_large-requires-clause-piece : goal.scan_large-requires-clause-piece
scan_large-requires-clause-piece g c κs within = c.requires.copying.pieces c.args.number c.index_mut.result.now (slice_get_read c.args.aside.now.items (length c.args.aside.now.items) c.args.number c.index_mut.result.now refl c.requires.there c.index_mut.ensures.value)

pub scan_large-requires-clause-reach : goal.scan_large-requires-clause-reach
scan_large-requires-clause-reach g c κs within h rs is mark i p at o e =
    let there = slice_get_read c.args.aside.now.items (length c.args.aside.now.items) c.args.number c.index_mut.result.now refl c.requires.there c.index_mut.ensures.value in
    large_is_reached c.args.round.now.from.stores.now c.args.round.now.from.roots.now c.args.round.now.words.now c.args.copiers.now.items c.args.aside.now.items c.args.number c.index_mut.result.now h rs i p o c.args.round.now.source.lanes c.requires.copying there mark is at e

pub returns-clause-copying : goal.returns-clause-copying
returns-clause-copying g c =
    let there = slice_get_read c.args.aside.now.items (length c.args.aside.now.items) c.args.number c.index_mut.result.now refl c.requires.there c.index_mut.ensures.value in
    (jointly_keeps c.args.round.now.from.stores.now c.args.round.now.from.roots.now c.args.round.now.words.now c.args.copiers.now.items c.scan_large.new.copiers.items c.args.aside.now.items c.args.number c.index_mut.result.now c.scan_large.new.piece c.args.round.now.source.lanes c.requires.copying there c.in_ok-scan_large.ensures.ok).0

pub returns-clause-placed : goal.returns-clause-placed
returns-clause-placed g c =
    let there = slice_get_read c.args.aside.now.items (length c.args.aside.now.items) c.args.number c.index_mut.result.now refl c.requires.there c.index_mut.ensures.value in
    (jointly_keeps c.args.round.now.from.stores.now c.args.round.now.from.roots.now c.args.round.now.words.now c.args.copiers.now.items c.scan_large.new.copiers.items c.args.aside.now.items c.args.number c.index_mut.result.now c.scan_large.new.piece c.args.round.now.source.lanes c.requires.copying there c.in_ok-scan_large.ensures.ok).1
