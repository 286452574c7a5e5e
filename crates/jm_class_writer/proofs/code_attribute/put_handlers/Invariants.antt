use Rattle.std.proofs.Common.{◌≡◌, take, drop}
use Rattle.std.specs.List.{All}
use Rattle.jm_class_writer.specs.Drafts.{all_of}
use Rattle.jm_class_writer.specs.CodeParts.{put_handler, put_handlers}
use Rattle.jm_class_writer.specs.Ranges.{HandlerInRange}
use Rattle.jm_class_writer.proofs.code_attribute.put_handlers.Given as goal

abbrev pub invariant-loop-handler : goal.invariant-loop-handler
invariant-loop-handler l = record {
  so_far : all_of (put_handler l.code) (drop l.handler-index l.handlers) l.draft ≡ put_handlers l.code l.handlers l.fn.draft;
  range : All HandlerInRange (take l.handler-index l.handlers);
}
