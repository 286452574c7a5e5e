-- By what an item is asked for: its number, or one of its names.
use Rattle.std.specs.Prelude.{◌≡◌, ◌<◌, ◌^◌, Bool}
use Rattle.std.specs.Str.Parse.{IsNumeral, digits_value, without_leading_plus}
use Rattle.jm_explain.specs.Items.{Item, Text, is_named, is_of}
use Rattle.jm_explain.specs.declared.search.Asked.{Asked}
use Rattle.jm_explain.specs.declared.search.Asked.TheVariants.{Number, Name}

abbrev pub is_asked : Asked → Item → Bool
is_asked (Number n) i = is_of n i
is_asked (Name name) i = is_named name.now i

-- the decimal digits of a word, with or without a plus, are those of a number of 32 bits
abbrev pub IsNumber : Text → Type 0
IsNumber word = IsNumeral 10 (without_leading_plus word) × (digits_value 10 (without_leading_plus word) < 2 ^ 32)

-- what a word asks for: that number, and else what has the word as its name
abbrev pub Asks : Text → Asked → Type 0
Asks word (Number n) = IsNumber word × (n ≡ digits_value 10 (without_leading_plus word))
Asks word (Name name) = ¬ (IsNumber word) × (name.now ≡ word)
