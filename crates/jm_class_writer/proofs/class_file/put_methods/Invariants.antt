use Rattle.std.proofs.Common.{◌≡◌, take, drop}
use Rattle.std.specs.List.{All}
use Rattle.jm_class_writer.specs.Drafts.{all_of}
use Rattle.jm_class_writer.specs.ClassParts.{put_method, put_methods}
use Rattle.jm_class_writer.specs.Ranges.{MethodInRange}
use Rattle.jm_class_writer.proofs.class_file.put_methods.Given as goal

abbrev pub invariant-loop-method : goal.invariant-loop-method
invariant-loop-method l = record {
  so_far : all_of put_method (drop l.method-index l.methods) l.draft ≡ put_methods l.methods l.fn.draft;
  range : All MethodInRange (take l.method-index l.methods);
}
