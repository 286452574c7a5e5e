-- The offsets of the numbers that a code's tables name.
use Rattle.std.specs.List.{All}
use Rattle.std.specs.Result.{IsOk}
use Rattle.jm_program.specs.declared.code.Code.{Code}
use Rattle.jm_encode.specs.declared.encoded.EncodedCode.{EncodedCode}
use Rattle.jm_class_writer.specs.CodeParts.{start_of, end_of}

-- each number of the exception table and of the line numbers has one (JVMS 4.7.3, 4.7.12)
abbrev pub PlacesFound : EncodedCode → Code → Type 0
PlacesFound e c =
    All (λ h. IsOk (start_of e h.start) × IsOk (end_of e h.end) × IsOk (start_of e h.target)) c.handlers
    × All (λ l. IsOk (start_of e l.start)) c.lines
