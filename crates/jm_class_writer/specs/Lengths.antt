-- Parts that stand behind their length (JVMS 4.7, attribute_length).
use Rattle.std.specs.Prelude.{◌≡◌, Err}
use Rattle.jm_class_writer.specs.declared.fault.WriteFault.{WriteFault}
use Rattle.jm_class_writer.specs.Drafts.{DraftParts, Drafting, opened, with_length}

-- such a part has no fault but its own, since four bytes can say its length
abbrev pub LengthFits : Drafting (Unit {0}) → DraftParts → Type 0
LengthFits body d = (e : WriteFault) → with_length body d ≡ Err e → body (opened d) ≡ Err e
