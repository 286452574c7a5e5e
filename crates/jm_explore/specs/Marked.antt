-- Bytes as lines behind a mark.
use Rattle.std.specs.Prelude.{ℕ, List, [], ◌∷◌, ◌++◌, codes, nat_eq, Bool, if◌then◌else◌}
use Rattle.std.specs.List.{slice_split}

abbrev pub Text : Type 0
Text = List ℕ

-- what stands behind the last line feed, if there is anything: it gets a line feed, and a line \ says so
abbrev pub unended : Text → Text → Text
unended mark [] = []
unended mark (b ∷ bs) = mark ++ ((b ∷ bs) ++ codes "\n\\\n")

-- each line behind the mark, and its line feed
abbrev pub marked_lines : Text → List Text → Text
marked_lines mark [] = []
marked_lines mark (last ∷ []) = unended mark last
marked_lines mark (line ∷ next ∷ lines) = mark ++ (line ++ (codes "\n" ++ marked_lines mark (next ∷ lines)))

abbrev pub marked : Text → Text → Text
marked mark bytes = marked_lines mark (slice_split (λ b. nat_eq b 10) bytes)

-- the mark where a line begins, and the line \ where one has not ended
abbrev pub mark_where : Bool → Text → Text
mark_where begins mark = if begins then mark else []

abbrev pub end_where : Bool → Text
end_where begins = if begins then [] else codes "\n\\\n"
