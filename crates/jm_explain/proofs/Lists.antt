-- The lines of one group after another.
use Rattle.std.proofs.Common.{◌≡◌, List, [], ◌++◌, sym, ap, ap₂, ◌∙◌}
use Rattle.std.specs.Prelude.{map}
use Rattle.std.specs.List.{flat_map}
use Rattle.std.proofs.lemmas.Grind.{flat_map-append}
use Rattle.std.proofs.lemmas.List.Folds.{flat_map-map}
use Rattle.jm_explain.specs.Items.{Item, Text, item, item_line, list_of}
use Rattle.jm_explain.specs.declared.entry.Entry.{Entry}

-- the lines of entries are those of what they say
lines_said : (es : List Entry) (group : List Item) → map item es ≡ group → flat_map (λ (e : Entry). item_line (item e)) es ≡ list_of group
lines_said es group same = sym (flat_map-map item_line item es) ∙ ap list_of same

pub first_lines : (es : List Entry) (group : List Item) (before after : Text) → map item es ≡ group → before ≡ []
    → after ≡ before ++ flat_map (λ (e : Entry). item_line (item e)) es → after ≡ list_of group
first_lines es group before after same empty written = written ∙ ap₂ (λ (t u : Text). t ++ u) empty (lines_said es group same)

-- groups, and then one more
pub more_lines : (es : List Entry) (all group : List Item) (before after : Text) → map item es ≡ group → before ≡ list_of all
    → after ≡ before ++ flat_map (λ (e : Entry). item_line (item e)) es → after ≡ list_of (all ++ group)
more_lines es all group before after same so_far written =
    written ∙ ap₂ (λ (t u : Text). t ++ u) so_far (lines_said es group same) ∙ sym (flat_map-append item_line all group)
