-- What a linked program numbers, by its names.
use Rattle.std.specs.Prelude.{ℕ, List, [], ◌∷◌}
use Rattle.jm_program.specs.declared.class.ClassParts.{ClassParts}
use Rattle.jm_values.specs.declared.value.Value.{Value}
use Rattle.jm_world.specs.World.{Static, Progress, Literal}
use Rattle.jm_world.specs.declared.class_state.ClassState.{ClassState}

-- the static fields by name, with these values
abbrev pub named_statics : List Static → List Value → List Static
named_statics [] vs = []
named_statics (s ∷ ss) [] = []
named_statics (s ∷ ss) (v ∷ vs) = record { field = s.field; value = v } ∷ named_statics ss vs

-- the classes by name, with these states
abbrev pub named_states : List ClassParts → List ClassState → List Progress
named_states [] ss = []
named_states (c ∷ cs) [] = []
named_states (c ∷ cs) (s ∷ ss) = record { class = c.name; state = s } ∷ named_states cs ss

-- the literals by their texts, with the Strings at these places
abbrev pub named_literals : List (List ℕ) → List ℕ → List Literal
named_literals [] ps = []
named_literals (t ∷ ts) [] = []
named_literals (t ∷ ts) (p ∷ ps) = record { units = t; string = p } ∷ named_literals ts ps
