-- What is said of a number, and how it is laid out.
use Rattle.std.specs.Prelude.{ℕ, List, ◌++◌, codes, Bool, ◌==◌, map}
use Rattle.std.specs.Fmt.{decimal}
use Rattle.std.specs.List.{flat_map, list_any}
use Rattle.std.specs.Str.{bytes_eq}
use Rattle.jm_explain.specs.declared.entry.Entry.{Entry}

abbrev pub Text : Type 0
Text = List ℕ

pub record Item : Type 0 where
  pub number : ℕ
  pub name : Text
  pub names : List Text
  pub meaning : Text
  pub example : Text
  pub advice : Text

-- what an entry says
abbrev pub item : Entry → Item
item e = record { number = e.number; name = e.name.now; names = map (λ n. n.now) e.names.now; meaning = e.meaning.now; example = e.example.now; advice = e.advice.now }

abbrev pub is_of : ℕ → Item → Bool
is_of n i = i.number == n

-- a word is one of its names
abbrev pub is_named : Text → Item → Bool
is_named word i = list_any (λ name. bytes_eq name word) i.names

-- its line in the list of all
abbrev pub item_line : Item → Text
item_line i = decimal i.number ++ (codes " " ++ (i.name ++ (codes ": " ++ (i.meaning ++ codes "\n"))))

-- all that is said of it: that line, an example, and what to do
abbrev pub item_text : Item → Text
item_text i =
    decimal i.number ++ (codes " " ++ (i.name ++ (codes ": " ++ (i.meaning ++ (codes "\n\nFor example: " ++ (i.example
    ++ (codes "\n\nWhat to do: " ++ (i.advice ++ codes "\n"))))))))

-- a line for each, in their order
abbrev pub list_of : List Item → Text
list_of items = flat_map item_line items
