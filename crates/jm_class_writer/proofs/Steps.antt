-- What the steps of a part that stands behind its length come to.
use Rattle.std.proofs.Common.{◌≡◌, List, Ok, refl}
use Rattle.std.specs.Prelude.{codes}
use Rattle.jm_program.specs.declared.code.LineNumber.{LineNumber}
use Rattle.jm_encode.specs.declared.encoded.EncodedCode.{EncodedCode}
use Rattle.jm_class_writer.specs.Drafts.{DraftParts, put_u2, opened, closed, with_length}
use Rattle.jm_class_writer.specs.CodeParts.{put_name, put_lines, put_line_table}

pub line_table_steps : (code : EncodedCode) (ls : List LineNumber) (d d1 d2 d3 : DraftParts) → put_u2 1 d ≡ Ok (tt, d1) → put_name (codes "LineNumberTable") d1 ≡ Ok (tt, d2) → put_lines code ls (opened d2) ≡ Ok (tt, d3)
    → put_line_table code ls d ≡ closed d2.written d3
unfolding put_line_table with_length
line_table_steps code ls d d1 d2 d3 h1 h2 h3 = rw (h1, h2, h3) refl
