-- Frames, threads, statics, monitors and literals keep to the laws of shapes.
use Rattle.std.proofs.Common.{◌≡◌, ℕ, List, [], ◌∷◌, ◌++◌, Option, length, refl, sym, ap, ◌∙◌, subst, inl, arith}
use Rattle.std.specs.Prelude.{map}
use Rattle.jm_program.proofs.Sequences.{none_left}
use Rattle.jm_values.specs.Shape.{Shape, IsShape, ShapeLaws, AgreeOn, pair_shape}
use Rattle.jm_values.specs.Rename.{value_shape, activation_shape}
use Rattle.jm_values.proofs.Shapes.{option_is_shape, list_is_shape, pair_is_shape}
use Rattle.jm_values.proofs.Renaming.{value_is_shape, activation_is_shape}
use Rattle.jm_world.specs.Frames.{Frame, method_frame, initialization_frame, entry_frame, number_shape, optional_number_shape, method_part_shape, frame_shape, frames_shape, refilled_method}
use Rattle.jm_world.specs.World.{Ending, running, returned, ended_by, Thread, Static, Monitor, Literal, held_shape}
use Rattle.jm_world.specs.Renaming.{thread_shape, static_shape, monitor_shape, literal_shape, running_with, ended_with}

-- a whole made of a part by a constructor has the part's laws
through : {A B : Type 0} (s : Shape A) (t : Shape B) (put : B → A)
    → ((f : ℕ → ℕ) (b : B) → s.rename f (put b) ≡ put (t.rename f b))
    → ((b : B) → s.refs (put b) ≡ t.refs b)
    → ((ns : List ℕ) (b : B) → s.refill ns (put b) ≡ put (t.refill ns b))
    → (b : B) → ShapeLaws B t b → ShapeLaws A s (put b)
through s t put named listed filled b l = record {
  keeps = named (λ p. p) b ∙ ap put l.keeps;
  composes = λ f g. ap (s.rename f) (named g b) ∙ named f (t.rename g b) ∙ ap put (l.composes f g) ∙ sym (named (λ p. f (g p)) b);
  agrees = λ f g e. named f b ∙ ap put (l.agrees f g (subst (λ ns. AgreeOn f g ns) (listed b) e)) ∙ sym (named g b);
  renamed = λ f. ap s.refs (named f b) ∙ listed (t.rename f b) ∙ l.renamed f ∙ ap (map f) (sym (listed b));
  refilled = λ ns rest e. ap s.refs (filled (ns ++ rest) b) ∙ listed (t.refill (ns ++ rest) b) ∙ l.refilled ns rest (e ∙ ap length (listed b));
  moved = λ f g ns rest e. ap (s.rename g) (filled (ns ++ rest) b) ∙ named g (t.refill (ns ++ rest) b) ∙ ap put (l.moved f g ns rest (e ∙ ap (map f) (listed b))) ∙ sym (named f b);
}

number_is_shape : IsShape ℕ number_shape
number_is_shape k = record {
  keeps = refl;
  composes = λ f g. refl;
  agrees = λ f g e. e k (inl refl);
  renamed = λ f. refl;
  refilled = refilled;
  moved = moved;
}
  where
    refilled : (ns rest : List ℕ) → length ns ≡ 1 → number_shape.refs (number_shape.refill (ns ++ rest) k) ≡ ns
    refilled [] rest e = absurd (omega arith)
    refilled (n ∷ []) rest e = refl
    refilled (n ∷ m ∷ ns) rest e = absurd (omega arith)

    moved : (f g : ℕ → ℕ) (ns rest : List ℕ) → map g ns ≡ f k ∷ [] → number_shape.rename g (number_shape.refill (ns ++ rest) k) ≡ f k
    moved f g [] rest e = cc
    moved f g (n ∷ ns) rest e = cc

optional_number_is_shape : IsShape (Option ℕ) optional_number_shape
optional_number_is_shape = option_is_shape number_shape number_is_shape

-- what has no references
plain_laws : {A : Type 0} (s : Shape A) (x : A) → ((f : ℕ → ℕ) → s.rename f x ≡ x) → s.refs x ≡ [] → ((ns : List ℕ) → s.refill ns x ≡ x) → ShapeLaws A s x
plain_laws s x named listed filled = record {
  keeps = named (λ p. p);
  composes = λ f g. ap (s.rename f) (named g) ∙ named f ∙ sym (named (λ p. f (g p)));
  agrees = λ f g e. named f ∙ sym (named g);
  renamed = λ f. ap s.refs (named f) ∙ listed ∙ ap (map f) (sym listed);
  refilled = λ ns rest e. ap s.refs (filled (ns ++ rest)) ∙ listed ∙ sym (none_left ns (e ∙ ap length listed));
  moved = λ f g ns rest e. ap (s.rename g) (filled (ns ++ rest)) ∙ named g ∙ sym (named f);
}

pub frame_is_shape : IsShape Frame frame_shape
frame_is_shape (method_frame m a o) = through frame_shape method_part_shape (refilled_method m) (λ f b. refl) (λ b. refl) (λ ns b. refl) (a, o)
    (pair_is_shape activation_shape optional_number_shape activation_is_shape optional_number_is_shape (a, o))
frame_is_shape (initialization_frame class stage) = plain_laws frame_shape (initialization_frame class stage) (λ f. refl) refl (λ ns. refl)
frame_is_shape entry_frame = plain_laws frame_shape entry_frame (λ f. refl) refl (λ ns. refl)

held_is_shape : IsShape (Option ℕ × List Frame) held_shape
held_is_shape = pair_is_shape optional_number_shape frames_shape optional_number_is_shape (list_is_shape frame_shape frame_is_shape)

thread_laws : (o : Option ℕ) (fs : List Frame) (p : Option ℕ) (e : Ending) → ShapeLaws Thread thread_shape (record { object = o; frames = fs; pending = p; ending = e })
thread_laws o fs p running = through thread_shape (pair_shape optional_number_shape held_shape) running_with (λ f b. refl) (λ b. refl) (λ ns b. refl) (o, (p, fs))
    (pair_is_shape optional_number_shape held_shape optional_number_is_shape held_is_shape (o, (p, fs)))
thread_laws o fs p returned = through thread_shape held_shape (ended_with returned o) (λ f b. refl) (λ b. refl) (λ ns b. refl) (p, fs) (held_is_shape (p, fs))
thread_laws o fs p (ended_by class) = through thread_shape held_shape (ended_with (ended_by class) o) (λ f b. refl) (λ b. refl) (λ ns b. refl) (p, fs) (held_is_shape (p, fs))

pub thread_is_shape : IsShape Thread thread_shape
thread_is_shape t = thread_laws t.object t.frames t.pending t.ending

pub static_is_shape : IsShape Static static_shape
static_is_shape s = through static_shape value_shape (λ v. record { field = s.field; value = v }) (λ f b. refl) (λ b. refl) (λ ns b. refl) s.value (value_is_shape s.value)

pub monitor_is_shape : IsShape Monitor monitor_shape
monitor_is_shape m = through monitor_shape number_shape (λ k. record { object = k; owner = m.owner; count = m.count }) (λ f b. refl) (λ b. refl) (λ ns b. refl) m.object (number_is_shape m.object)

pub literal_is_shape : IsShape Literal literal_shape
literal_is_shape l = through literal_shape number_shape (λ k. record { units = l.units; string = k }) (λ f b. refl) (λ b. refl) (λ ns b. refl) l.string (number_is_shape l.string)
