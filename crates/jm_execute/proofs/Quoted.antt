-- One line more of a text.
use Rattle.std.proofs.Common.{◌≡◌, ℕ, suc, ◌+◌, List, [], Bool, true, false, ap, sym, ◌∙◌, arith}
use Rattle.std.specs.Prelude.{if◌then◌else◌}
use Rattle.std.specs.Str.{is_utf8}
use Rattle.jm_execute.specs.Quotes.{behind_line, behind_lines, text_in}

pub one_more : (n : ℕ) (bytes rest : List ℕ) → rest ≡ behind_lines n bytes → behind_line rest ≡ behind_lines (n + 1) bytes
one_more n bytes rest so_far =
    let one : suc n ≡ n + 1 = omega arith in
    ap behind_line so_far ∙ ap (λ (m : ℕ). behind_lines m bytes) one

-- a line that is UTF-8, and one that is not
pub text_in_line : (line : List ℕ) → is_utf8 line ≡ true → line ≡ text_in line
text_in_line line utf8 = ap (λ (b : Bool). if b then line else []) (sym utf8)

pub no_text_in : (line : List ℕ) → is_utf8 line ≡ false → [] ≡ text_in line
no_text_in line other = ap (λ (b : Bool). if b then line else []) (sym other)
