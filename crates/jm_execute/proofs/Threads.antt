-- The threads of a world, one thread more.
use Rattle.std.proofs.Common.{◌≡◌, ℕ, zero, suc, ◌+◌, ◌<◌, List, [], ◌∷◌, ◌++◌, refl, sym, ap, ◌∙◌, take, length, arith, add-one, append_assoc, append-nil, slice_get, Bool, true, false, is_some, ◌||◌, ◌≢◌, codes}
use Rattle.std.specs.Fmt.{decimal}
use Rattle.std.proofs.lemmas.Bool.{or_left, or_right}
use Rattle.jm_world.specs.World.{World, Thread, thread_at}
use Rattle.jm_world.proofs.RunsOn.{thread_after}
use Rattle.jm_machine.specs.Threads.{class_of_ending, class_ended_by}
use Rattle.jm_execute.specs.Reports.{thread_line, thread_lines, any_ended_by, live_line}

lines_more_from : (start : ℕ) (ts : List Thread) (k : ℕ) → k < length ts → thread_lines start (take (suc k) ts) ≡ thread_lines start (take k ts) ++ thread_line (start + k) (class_ended_by (slice_get ts k))
lines_more_from start [] k h = absurd (omega arith)
lines_more_from start (t ∷ ts) zero h = append-nil (thread_line start (class_of_ending t.ending)) ∙ ap (λ n. thread_line n (class_of_ending t.ending)) (omega arith)
lines_more_from start (t ∷ ts) (suc k) h =
    let one = thread_line start (class_of_ending t.ending) in
    ap (λ l. one ++ l) (lines_more_from (start + 1) ts k (omega arith))
    ∙ sym (append_assoc one (thread_lines (start + 1) (take k ts)) (thread_line (start + 1 + k) (class_ended_by (slice_get ts k))))
    ∙ ap (λ n. (one ++ thread_lines (start + 1) (take k ts)) ++ thread_line n (class_ended_by (slice_get ts k))) (omega arith)

pub lines_more : (w : World) (k : ℕ) → k < length w.threads → thread_lines 1 (take (k + 1) w.threads) ≡ thread_lines 1 (take k w.threads) ++ thread_line (k + 1) (class_ended_by (thread_at w (k + 1)))
lines_more w k h =
    ap (λ n. thread_lines 1 (take n w.threads)) (add-one k)
    ∙ lines_more_from 1 w.threads k h
    ∙ ap (λ n. thread_lines 1 (take k w.threads) ++ thread_line n (class_ended_by (slice_get w.threads k))) (omega arith)
    ∙ ap (λ t. thread_lines 1 (take k w.threads) ++ thread_line (k + 1) (class_ended_by t)) (sym (thread_after w k))

or_more : (b x y : Bool) → (x ≡ false → y ≡ false) → (b || x) ≡ false → (b || y) ≡ false
or_more true x y f h = h
or_more false x y f h = f h

or_false : (b : Bool) → b ≡ false → (b || false) ≡ false
or_false true h = h
or_false false h = h

any_more_from : (ts : List Thread) (k : ℕ) → k < length ts → is_some (class_ended_by (slice_get ts k)) ≡ false → any_ended_by (take k ts) ≡ false → any_ended_by (take (suc k) ts) ≡ false
any_more_from [] k h one none = absurd (omega arith)
any_more_from (t ∷ ts) zero h one none = or_false (is_some (class_of_ending t.ending)) one
any_more_from (t ∷ ts) (suc k) h one none = or_more (is_some (class_of_ending t.ending)) (any_ended_by (take k ts)) (any_ended_by (take (suc k) ts)) (any_more_from ts k (omega arith) one) none

pub any_more : (w : World) (k : ℕ) → k < length w.threads → any_ended_by (take k w.threads) ≡ false → is_some (class_ended_by (thread_at w (k + 1))) ≡ false → any_ended_by (take (k + 1) w.threads) ≡ false
any_more w k h none one =
    ap (λ n. any_ended_by (take n w.threads)) (add-one k)
    ∙ any_more_from w.threads k h (ap (λ t. is_some (class_ended_by t)) (sym (thread_after w k)) ∙ one) none

any_at_from : (ts : List Thread) (k : ℕ) → k < length ts → is_some (class_ended_by (slice_get ts k)) ≡ true → any_ended_by ts ≡ true
any_at_from [] k h one = absurd (omega arith)
any_at_from (t ∷ ts) zero h one = or_left (is_some (class_of_ending t.ending)) (any_ended_by ts) one
any_at_from (t ∷ ts) (suc k) h one = or_right (is_some (class_of_ending t.ending)) (any_ended_by ts) (any_at_from ts k (omega arith) one)

pub any_at : (w : World) (k : ℕ) → k < length w.threads → is_some (class_ended_by (thread_at w (k + 1))) ≡ true → any_ended_by w.threads ≡ true
any_at w k h one = any_at_from w.threads k h (ap (λ t. is_some (class_ended_by t)) (sym (thread_after w k)) ∙ one)

pub some_live : (n : ℕ) → n ≢ 0 → live_line n ≡ codes "jm: " ++ (decimal n ++ codes " threads not ended\n")
some_live zero h = absurd (h refl)
some_live (suc n) h = refl
