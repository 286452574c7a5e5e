use Rattle.std.proofs.Common.{◌≡◌, take, drop}
use Rattle.std.specs.List.{All}
use Rattle.jm_class_writer.specs.Drafts.{all_of}
use Rattle.jm_class_writer.specs.ClassParts.{put_class, put_interfaces}
use Rattle.jm_class_writer.specs.Ranges.{UnitsInRange}
use Rattle.jm_class_writer.proofs.class_file.put_interfaces.Given as goal

abbrev pub invariant-loop-name : goal.invariant-loop-name
invariant-loop-name l = record {
  so_far : all_of put_class (drop l.name-index l.names) l.draft ≡ put_interfaces l.names l.fn.draft;
  range : All UnitsInRange (take l.name-index l.names);
}
