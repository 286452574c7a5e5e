-- The rows of a source, by computation.
use Rattle.std.specs.Prelude.{◌≡◌, codes, refl}
use Rattle.jm_page.specs.Escapes.{escaped_byte}
use Rattle.jm_page.specs.Listings.{source_byte, source_lines}

two_lines : source_lines (codes "if (1 < 2)\n\tprint();\n") ≡ codes " if (1 \\u003C 2)\n \\u0009print();\n \n"
unfolding source_lines source_byte escaped_byte
two_lines = refl
