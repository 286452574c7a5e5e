use Rattle.std.proofs.Common.{◌≡◌, take, drop}
use Rattle.std.specs.List.{All}
use Rattle.jm_class_writer.specs.Drafts.{all_of}
use Rattle.jm_class_writer.specs.ClassParts.{put_field, put_fields}
use Rattle.jm_class_writer.specs.Ranges.{FieldInRange}
use Rattle.jm_class_writer.proofs.class_file.put_fields.Given as goal

abbrev pub invariant-loop-field : goal.invariant-loop-field
invariant-loop-field l = record {
  so_far : all_of put_field (drop l.field-index l.fields) l.draft ≡ put_fields l.fields l.fn.draft;
  range : All FieldInRange (take l.field-index l.fields);
}
