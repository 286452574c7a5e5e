-- Views of a world that were written, and that there are not.
use Rattle.std.proofs.Common.{◌≡◌, ℕ, List, true, false, Option, Some, None, refl, sym, ap, ◌∙◌}
use Rattle.std.specs.Prelude.{is_some, slice_get, option_map}
use Rattle.std.specs.Option.{option_and_then}
use Rattle.jm_program.specs.declared.class.ClassParts.{ClassParts}
use Rattle.jm_world.specs.Classes.{class_named}
use Rattle.jm_world.specs.Frames.{Frame}
use Rattle.jm_world.specs.World.{World, Thread, thread_at}
use Rattle.jm_machine.specs.Readers.{frame_at}
use Rattle.jm_debug.specs.Views.{Lines, lines_from, static_lines, statics_lines, frame_of, locals_of_frame, stack_of_frame, locals_lines, stack_lines}
use Rattle.jm_debug.specs.Session.{bytes_of}

same_frame : (o : Option Thread) (depth : ℕ) → option_and_then (λ (t : Thread). slice_get t.frames depth) o ≡ frame_at o depth
same_frame None depth = refl
same_frame (Some t) depth = refl

no_frame : (view : Frame → Lines) (w : World) (n depth : ℕ) → frame_at (thread_at w n) depth ≡ None → option_map view (frame_of w n depth) ≡ None
no_frame view w n depth none = ap (option_map view) (same_frame (thread_at w n) depth ∙ none)

a_frame : (view : Frame → Lines) (w : World) (n depth : ℕ) (f : Frame) (text : List ℕ) → frame_at (thread_at w n) depth ≡ Some f → text ≡ bytes_of (view f)
    → option_map bytes_of (option_map view (frame_of w n depth)) ≡ Some text
a_frame view w n depth f text is written = ap (λ o. option_map bytes_of (option_map view o)) (same_frame (thread_at w n) depth ∙ is) ∙ ap Some (sym written)

pub no_locals : (w : World) (n depth : ℕ) → frame_at (thread_at w n) depth ≡ None → locals_lines w n depth ≡ None
unfolding locals_lines
no_locals = no_frame locals_of_frame

pub locals_shown : (w : World) (n depth : ℕ) (f : Frame) (text : List ℕ) → frame_at (thread_at w n) depth ≡ Some f → text ≡ bytes_of (locals_of_frame f)
    → option_map bytes_of (locals_lines w n depth) ≡ Some text
unfolding locals_lines
locals_shown = a_frame locals_of_frame

pub no_stack : (w : World) (n depth : ℕ) → frame_at (thread_at w n) depth ≡ None → stack_lines w n depth ≡ None
unfolding stack_lines
no_stack = no_frame stack_of_frame

pub stack_shown : (w : World) (n depth : ℕ) (f : Frame) (text : List ℕ) → frame_at (thread_at w n) depth ≡ Some f → text ≡ bytes_of (stack_of_frame f)
    → option_map bytes_of (stack_lines w n depth) ≡ Some text
unfolding stack_lines
stack_shown = a_frame stack_of_frame

none_of : (lines : Lines) (o : Option ClassParts) → is_some o ≡ false → option_map (λ (c : ClassParts). lines) o ≡ None
none_of lines None none = refl
none_of lines (Some c) none = cc

some_of : (lines : Lines) (o : Option ClassParts) → is_some o ≡ true → option_map (λ (c : ClassParts). lines) o ≡ Some lines
some_of lines None some = cc
some_of lines (Some c) some = refl

pub no_statics : (w : World) (class : List ℕ) (program : List ClassParts) → program ≡ w.program → is_some (class_named program class) ≡ false → statics_lines w class ≡ None
unfolding statics_lines
no_statics w class program is none = none_of (lines_from (static_lines class) 0 w.statics) (class_named w.program class) (rw is at none)

pub statics_shown : (w : World) (class : List ℕ) (program : List ClassParts) (text : List ℕ) → program ≡ w.program → is_some (class_named program class) ≡ true
    → text ≡ bytes_of (lines_from (static_lines class) 0 w.statics) → option_map bytes_of (statics_lines w class) ≡ Some text
unfolding statics_lines
statics_shown w class program text is some written =
    ap (option_map bytes_of) (some_of (lines_from (static_lines class) 0 w.statics) (class_named w.program class) (rw is at some)) ∙ ap Some (sym written)
