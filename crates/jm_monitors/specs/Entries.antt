-- The entries of a map from serials, as the monitors that they are.
use Rattle.std.specs.Prelude.{ℕ, List, [], ◌∷◌, map}
use Rattle.jm_monitors.specs.HeldMonitors.{HeldMonitor}
use Rattle.jm_monitors.specs.declared.held.Held.{Held}

abbrev pub held_at : ℕ → Held → HeldMonitor
held_at serial h = record { serial = serial; place = h.place; owner = h.owner; count = h.count }

abbrev pub held_of : List (ℕ × Held) → List HeldMonitor
held_of es = map (λ e. held_at e.0 e.1) es

-- with its object at the first of these places
abbrev pub moved_to : List ℕ → Held → Held
moved_to [] h = h
moved_to (p ∷ ps) h = record { place = p; owner = h.owner; count = h.count }
