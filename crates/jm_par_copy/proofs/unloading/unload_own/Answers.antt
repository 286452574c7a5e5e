use Rattle.jm_par_copy.proofs.Loads.{own_loaded, own_old_beside, own_young_beside}
use Rattle.jm_par_copy.proofs.Merged.{beside_over}
use Rattle.jm_par_copy.proofs.unloading.unload_own.Goals as goal

pub move_all-requires : goal.move_all-requires
move_all-requires c = record {
  lane = c.requires.load.young_lane;
  over = beside_over c.args.copier.now.own.to.young c.args.young.now c.requires.load.young_lane (own_young_beside c.args.copier.now c.args.young.now c.args.promoted.now c.requires.lanes c.requires.load c.requires.beside);
}

pub move_all-requires-2 : goal.move_all-requires-2
move_all-requires-2 c = record {
  lane = c.requires.load.old_lane;
  over = beside_over c.args.copier.now.own.to.tenured c.args.promoted.now c.requires.load.old_lane (own_old_beside c.args.copier.now c.args.young.now c.args.promoted.now c.requires.lanes c.requires.load c.requires.beside);
}

pub returns-clause-loaded : goal.returns-clause-loaded
returns-clause-loaded c = own_loaded c.args.copier.now c.args.young.now c.args.promoted.now c.requires.lanes c.requires.load c.move_all.new.to c.move_all-2.new.to c.move_all.ensures.lane c.move_all-2.ensures.lane c.in_ok-move_all.ensures.ok c.in_ok-move_all-2.ensures.ok
