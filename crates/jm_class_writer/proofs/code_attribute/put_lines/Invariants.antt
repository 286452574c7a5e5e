use Rattle.std.proofs.Common.{◌≡◌, drop}
use Rattle.jm_class_writer.specs.Drafts.{all_of}
use Rattle.jm_class_writer.specs.CodeParts.{put_line, put_lines}
use Rattle.jm_class_writer.proofs.code_attribute.put_lines.Given as goal

abbrev pub invariant-loop-line : goal.invariant-loop-line
invariant-loop-line l = all_of (put_line l.code) (drop l.line-index l.lines) l.draft ≡ put_lines l.code l.lines l.fn.draft
