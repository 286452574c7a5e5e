-- The name of a class as a user writes it, and where its file lies below a folder.
use Rattle.std.specs.Prelude.{ℕ, List, [], ◌∷◌, ◌++◌, length, Bool, not, ◌&&◌, ◌||◌, ◌==◌, nat_lt, nat_le, codes, map, if◌then◌else◌}
use Rattle.std.specs.List.{flat_map, list_all, slice_split}
use Rattle.jm_program.specs.Names.{same_text}
use Rattle.jm_program.specs.Texts.{utf16_of}
use Rattle.jm_world.specs.Text.{utf8_text}
use Rattle.jm_class_path.specs.Uses.{Name}

-- a name of a class as a user writes it, its.name or its/name
abbrev pub slash_for_dot : ℕ → ℕ
slash_for_dot u = if u == 46 then 47 else u

abbrev pub written_name : List ℕ → Name
written_name text = map slash_for_dot (utf16_of text)

-- no control character (U+0000 to U+001F, U+007F to U+009F)
abbrev pub is_file_unit : ℕ → Bool
is_file_unit u = not (nat_lt u 32 || (nat_le 127 u && nat_lt u 160))

-- a part of a name that can be one of a path, which leads one folder down: it is not empty, and neither . nor ..
abbrev pub is_file_part : List ℕ → Bool
is_file_part part = not (length part == 0) && not (same_text part (codes ".")) && not (same_text part (codes "..")) && list_all is_file_unit part

-- each part of the name, between its slashes, is one; so it leads nowhere but below the folder
abbrev pub stays_below : Name → Bool
stays_below name = list_all is_file_part (slice_split (λ u. u == 47) name)

-- a folder in front of what lies in it; one of no letters is the folder that jm runs in
abbrev pub lead : List ℕ → List ℕ
lead [] = []
lead (c ∷ cs) = c ∷ cs ++ codes "/"

-- the path of a class's file below a folder, in UTF-8, with its ending
unfoldable pub path : List ℕ → Name → List ℕ → List ℕ
path folder name ending = lead folder ++ utf8_text name ++ ending

-- below one folder: a class file, and then an assembler text
abbrev pub paths_below : Name → List ℕ → List (List ℕ)
paths_below name folder = path folder name (codes ".class") ∷ path folder name (codes ".j") ∷ []

-- the paths under which a class is looked for, one after the other
abbrev pub places : List (List ℕ) → Name → List (List ℕ)
places folders name = if stays_below name then flat_map (paths_below name) folders else []
