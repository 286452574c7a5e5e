-- Two worlds that share their program, limit, class states, output and stop.
use Rattle.std.specs.Prelude.{ℕ, List, Option}
use Rattle.jm_program.specs.declared.class.ClassParts.{ClassParts}
use Rattle.jm_world.specs.Objects.{Object}
use Rattle.jm_world.specs.World.{World, Thread, Static, Progress, Monitor, Literal}
use Rattle.jm_world.specs.declared.stop.Stop.{Stop}

-- what need not be the same
pub record Half : Type 0 where
  pub heap : List Object
  pub literals : List Literal
  pub statics : List Static
  pub monitors : List Monitor
  pub threads : List Thread

pub record Two : Type 0 where
  pub program : List ClassParts
  pub limit : ℕ
  pub classes : List Progress
  pub output : List ℕ
  pub stop : Option Stop
  pub one : Half
  pub other : Half

abbrev pub world_of : Two → Half → World
world_of p h = record {
  program = p.program;
  limit = p.limit;
  heap = h.heap;
  literals = h.literals;
  statics = h.statics;
  classes = p.classes;
  monitors = h.monitors;
  threads = h.threads;
  output = p.output;
  stop = p.stop;
}

abbrev pub left : Two → World
left p = world_of p p.one

abbrev pub right : Two → World
right p = world_of p p.other
