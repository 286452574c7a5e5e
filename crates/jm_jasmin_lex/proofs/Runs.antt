-- Closed runs of the definitions.
use Rattle.std.proofs.Common.{◌≡◌, ℕ, List, [], ◌∷◌, Some, None, Ok, Err, refl}
use Rattle.std.specs.Prelude.{codes, pos, neg_ℤ, ◌^◌}
use Rattle.std.specs.Str.{chars}
use Rattle.jm_jasmin_lex.specs.declared.fault.LexFault.TheVariants.{BadToken}
use Rattle.jm_jasmin_lex.specs.declared.token.TokenKind.TheVariants.{Word, Text}
use Rattle.jm_jasmin_lex.specs.Token.{TokenParts}
use Rattle.jm_jasmin_lex.specs.Signs.{sign_of, signs, opened, in_text, in_escape, in_digits, step}
use Rattle.jm_jasmin_lex.specs.Tokens.{next_line, lexed_from, lexed_of, all_or_bad, tokens_of}
use Rattle.jm_jasmin_lex.specs.Lines.{line_len, first_line}
use Rattle.jm_jasmin_lex.specs.Literals.{hexadecimal_value, escaped_unit, part_after, units_at, units_from, units_of_literal}
use Rattle.jm_jasmin_lex.specs.Integers.{numeral, integer_of}

abbrev word : ℕ → ℕ → List ℕ → TokenParts
word start line text = record { kind = Word; text = text; start = start; line = line }

abbrev string : ℕ → ℕ → List ℕ → TokenParts
string start line text = record { kind = Text; text = text; start = start; line = line }

-- ---- words, lines and comments

-- a line ends by CR LF or LF
two_lines : tokens_of (codes "L:\r\n ldc 5\n") ≡ Ok (word 0 1 (codes "L:") ∷ word 5 2 (codes "ldc") ∷ word 9 2 (codes "5") ∷ [])
unfolding sign_of signs opened in_text in_escape in_digits step next_line lexed_from lexed_of all_or_bad tokens_of
two_lines = refl

-- the last line may lack its end, and a tab parts words
no_line_end : tokens_of (codes "\n\ngoto\tL") ≡ Ok (word 2 3 (codes "goto") ∷ word 7 3 (codes "L") ∷ [])
unfolding sign_of signs opened in_text in_escape in_digits step next_line lexed_from lexed_of all_or_bad tokens_of
no_line_end = refl

-- ; opens a comment at the start of a line and behind a blank, and is a character of a word elsewhere
comments : tokens_of (codes "; a\n.field x LA;;b ; c\n;") ≡ Ok (word 4 2 (codes ".field") ∷ word 11 2 (codes "x") ∷ word 13 2 (codes "LA;;b") ∷ [])
unfolding sign_of signs opened in_text in_escape in_digits step next_line lexed_from lexed_of all_or_bad tokens_of
comments = refl

-- CR elsewhere, and a quote inside a word, are characters of the word
strange_words : tokens_of (codes "a\rb c\"d \r") ≡ Ok (word 0 1 (codes "a\rb") ∷ word 4 1 (codes "c\"d") ∷ word 8 1 (codes "\r") ∷ [])
unfolding sign_of signs opened in_text in_escape in_digits step next_line lexed_from lexed_of all_or_bad tokens_of
strange_words = refl

no_text : tokens_of [] ≡ Ok []
unfolding signs step next_line lexed_from lexed_of all_or_bad tokens_of
no_text = refl

-- ---- strings

strings : tokens_of (codes "ldc \"a;b \\\" c\\u00e9\" ; d") ≡ Ok (word 0 1 (codes "ldc") ∷ string 4 1 (codes "\"a;b \\\" c\\u00e9\"") ∷ [])
unfolding sign_of signs opened in_text in_escape in_digits step next_line lexed_from lexed_of all_or_bad tokens_of
strings = refl

-- a string is closed in its line
open_string : tokens_of (codes "\n ldc \"a\n\"") ≡ Err (BadToken 2)
unfolding sign_of signs opened in_text in_escape in_digits step next_line lexed_from lexed_of all_or_bad tokens_of
open_string = refl

open_at_the_end : tokens_of (codes "\"a") ≡ Err (BadToken 1)
unfolding sign_of signs opened in_text in_escape in_digits step next_line lexed_from lexed_of all_or_bad tokens_of
open_at_the_end = refl

-- nothing stands right behind it
closed_by_a_word : tokens_of (codes "\"a\";b") ≡ Err (BadToken 1)
unfolding sign_of signs opened in_text in_escape in_digits step next_line lexed_from lexed_of all_or_bad tokens_of
closed_by_a_word = refl

other_escape : tokens_of (codes "\"\\r\"") ≡ Err (BadToken 1)
unfolding sign_of signs opened in_text in_escape in_digits step next_line lexed_from lexed_of all_or_bad tokens_of
other_escape = refl

three_digits : tokens_of (codes "\"\\u00e\"") ≡ Err (BadToken 1)
unfolding sign_of signs opened in_text in_escape in_digits step next_line lexed_from lexed_of all_or_bad tokens_of
three_digits = refl

-- the tokens before a bad one
before_a_bad_one : lexed_of (codes "a\nb \"\n") ≡ record { tokens = word 0 1 (codes "a") ∷ word 2 2 (codes "b") ∷ []; bad_line = Some 2 }
unfolding sign_of signs opened in_text in_escape in_digits step next_line lexed_from lexed_of
before_a_bad_one = refl

-- ---- lines of tokens

lines : first_line (word 0 1 [] ∷ word 2 1 [] ∷ word 4 3 [] ∷ word 6 1 [] ∷ []) ≡ (word 0 1 [] ∷ word 2 1 [] ∷ [], word 4 3 [] ∷ word 6 1 [] ∷ [])
unfolding line_len first_line
lines = refl

no_line : first_line [] ≡ ([], [])
unfolding line_len first_line
no_line = refl

-- ---- values

escapes : units_of_literal (codes "\"a\\n\\t\\\"\\\\\\u00eF\\uD800z\"") ≡ 97 ∷ 10 ∷ 9 ∷ 34 ∷ 92 ∷ 0xEF ∷ 0xD800 ∷ 122 ∷ []
unfolding chars hexadecimal_value escaped_unit part_after units_at units_from units_of_literal
escapes = refl

-- a supplementary character gives two units
supplementary : units_of_literal (34 ∷ 0xC3 ∷ 0xA9 ∷ 0xF0 ∷ 0x9F ∷ 0x98 ∷ 0x80 ∷ 34 ∷ []) ≡ 0xE9 ∷ 0xD83D ∷ 0xDE00 ∷ []
unfolding chars hexadecimal_value escaped_unit part_after units_at units_from units_of_literal
supplementary = refl

decimal : integer_of (codes "0012") ≡ Some (pos 12)
unfolding numeral integer_of
decimal = refl

negative_one : integer_of (codes "-12") ≡ Some (neg_ℤ (pos 12))
unfolding numeral integer_of
negative_one = refl

hexadecimal : integer_of (codes "0x0aF") ≡ Some (pos 175)
unfolding numeral integer_of
hexadecimal = refl

least : integer_of (codes "-9223372036854775808") ≡ Some (neg_ℤ (pos (2 ^ 63)))
unfolding numeral integer_of
least = refl

too_large : integer_of (codes "9223372036854775808") ≡ None
unfolding numeral integer_of
too_large = refl

no_digits : (integer_of (codes "-") ≡ None) × (integer_of (codes "0x") ≡ None) × (integer_of [] ≡ None)
unfolding numeral integer_of
no_digits = (refl, refl, refl)

no_sign : (integer_of (codes "+1") ≡ None) × (integer_of (codes "-0x1") ≡ None) × (integer_of (codes "0x-1") ≡ None) × (integer_of (codes "1a") ≡ None)
unfolding numeral integer_of
no_sign = (refl, refl, refl, refl)
