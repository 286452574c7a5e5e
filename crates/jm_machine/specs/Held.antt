-- Held monitors beside the heap of their objects.
use Rattle.std.specs.Prelude.{◌≡◌, List, map}
use Rattle.jm_values.specs.Content.{Content, name_of}
use Rattle.jm_monitors.specs.HeldMonitors.{HeldMonitor}

-- the serial of each is that of the object at its place
abbrev pub AreNamed : {T : Type 0} → Content T → List HeldMonitor → Type 0
AreNamed c hs = map (λ (h : HeldMonitor). h.serial) hs ≡ map (λ (h : HeldMonitor). name_of c h.place) hs
