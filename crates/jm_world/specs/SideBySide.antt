-- Values, objects and frames of two worlds beside one another, under a relation of their objects' numbers.
use Rattle.std.specs.Prelude.{ℕ, List, [], ◌∷◌, Option, Some, None, ℤ}
use Rattle.jm_values.specs.Activation.{Activation}
use Rattle.jm_values.specs.declared.value.Value.{Value}
use Rattle.jm_values.specs.declared.value.Value.TheVariants.{Int, Long, Null, Ref}
use Rattle.jm_world.specs.Types.{ObjectType}
use Rattle.jm_world.specs.Classes.{MethodName}
use Rattle.jm_world.specs.Objects.{Object}
use Rattle.jm_world.specs.Frames.{Frame, method_frame, initialization_frame, entry_frame}
use Rattle.jm_world.specs.World.{Monitor}
use Rattle.jm_world.specs.declared.stage.Stage.{Stage}

pub data Values (R : ℕ → ℕ → Type 0) : Value → Value → Type 0 where
  ints : {n : ℤ} → Values R (Int n) (Int n)
  longs : {n : ℤ} → Values R (Long n) (Long n)
  nulls : Values R Null Null
  refs : {k j : ℕ} → R k j → Values R (Ref k) (Ref j)

-- element by element
pub data Lists {A : Type 0} (P : A → A → Type 0) : List A → List A → Type 0 where
  none : Lists P [] []
  more : {x y : A} {xs ys : List A} → P x y → Lists P xs ys → Lists P (x ∷ xs) (y ∷ ys)

pub data Options {A : Type 0} (P : A → A → Type 0) : Option A → Option A → Type 0 where
  neither : Options P None None
  both : {x y : A} → P x y → Options P (Some x) (Some y)

pub data Objects (R : ℕ → ℕ → Type 0) : Object → Object → Type 0 where
  objects : {type : ObjectType} {vs us : List Value} → Lists (Values R) vs us → Objects R (record { type = type; values = vs }) (record { type = type; values = us })

pub data Acts (R : ℕ → ℕ → Type 0) : Activation → Activation → Type 0 where
  acts : {at max_stack : ℕ} {ls ks : List (Option Value)} {s r : List Value} → Lists (Options (Values R)) ls ks → Lists (Values R) s r
      → Acts R (record { at = at; max_stack = max_stack; locals = ls; stack = s }) (record { at = at; max_stack = max_stack; locals = ks; stack = r })

pub data Frames (R : ℕ → ℕ → Type 0) : Frame → Frame → Type 0 where
  methods : {m : MethodName} {a b : Activation} {o p : Option ℕ} → Acts R a b → Options R o p → Frames R (method_frame m a o) (method_frame m b p)
  initializations : {class : List ℕ} {stage : Stage} → Frames R (initialization_frame class stage) (initialization_frame class stage)
  entries : Frames R entry_frame entry_frame

-- held by the same thread, so many times
pub data Held : Monitor → Monitor → Type 0 where
  held : {k j owner count : ℕ} → Held (record { object = k; owner = owner; count = count }) (record { object = j; owner = owner; count = count })
