-- What is shown of a thread.
use Rattle.std.proofs.Common.{◌≡◌, ℕ, zero, suc, ◌<◌, ◌≤◌, List, true, Option, Some, None, length, refl, sym, ap, arith}
use Rattle.std.specs.Prelude.{option_map}
use Rattle.std.proofs.lemmas.Option.{slice_get_past}
use Rattle.jm_program.specs.declared.class.ClassParts.{ClassParts}
use Rattle.jm_program.proofs.Sequences.{got_past}
use Rattle.jm_world.specs.World.{World, Thread, Ending, running, returned, ended_by, thread_at, is_running}
use Rattle.jm_debug.specs.Views.{running_lines, thread_lines, where_lines}
use Rattle.jm_debug.specs.Session.{bytes_of}

pub of_running : (program : List ClassParts) (t : Thread) (e : Ending) → is_running e ≡ true → thread_lines program t e ≡ running_lines program t
of_running program t running is = refl
of_running program t returned is = cc
of_running program t (ended_by class) is = cc

no_thread_at : (w : World) (n : ℕ) → length w.threads < n → thread_at w n ≡ None
no_thread_at w zero past = refl
no_thread_at w (suc n) past = slice_get_past w.threads n (omega arith)

pub no_thread : (w : World) (n : ℕ) → length w.threads < n → where_lines w n ≡ None
unfolding where_lines
no_thread w n past = ap (option_map (λ (t : Thread). thread_lines w.program t t.ending)) (no_thread_at w n past)

pub thread_zero : (w : World) → where_lines w 0 ≡ None
unfolding where_lines
thread_zero w = refl

-- a thread that there is, and one that there is not
shown_of : (w : World) (o : Option Thread) (text : List ℕ) → (o ≡ None → ⊥) → ((t : Thread) → o ≡ Some t → text ≡ bytes_of (thread_lines w.program t t.ending))
    → option_map bytes_of (option_map (λ (t : Thread). thread_lines w.program t t.ending) o) ≡ Some text
shown_of w None text some written = absurd (some refl)
shown_of w (Some t) text some written = ap Some (sym (written t refl))

not_none : (w : World) (n : ℕ) → 0 < n → n ≤ length w.threads → thread_at w n ≡ None → ⊥
not_none w zero some within none = absurd (omega arith)
not_none w (suc n) some within none = let past : length w.threads ≤ n = got_past w.threads n none in absurd (omega arith)

pub thread_shown : (w : World) (n : ℕ) (text : List ℕ) → 0 < n → n ≤ length w.threads → ((t : Thread) → thread_at w n ≡ Some t → text ≡ bytes_of (thread_lines w.program t t.ending))
    → option_map bytes_of (where_lines w n) ≡ Some text
unfolding where_lines
thread_shown w n text some within written = shown_of w (thread_at w n) text (not_none w n some within) written
