-- A level down.
use Rattle.jm_tables.proofs.node.+write.Given as goal

abbrev pub decreases-write : goal.decreases-write
decreases-write l = l.levels
