-- The files so far were looked at.
use Rattle.std.proofs.Common.{◌≡◌, ◌++◌, take}
use Rattle.std.specs.String.{string_bytes}
use Rattle.jm_execute.specs.Checks.{classes_held, refused_lines}
use Rattle.jm_execute.proofs.checking.see_more.Given as goal

abbrev pub invariant-loop-file : goal.invariant-loop-file
invariant-loop-file l =
    (l.seen.classes.items ≡ l.initial.seen.classes.items ++ classes_held (take l.file-index l.files))
    × (string_bytes l.seen.refused ≡ string_bytes l.initial.seen.refused ++ refused_lines l.placed (take l.file-index l.files))
    × (l.seen.main ≡ l.initial.seen.main)
