-- Rows of instructions that touch one frame alone.
use Rattle.std.proofs.Common.{◌≡◌, ℕ, refl, sym, ap, ◌∙◌}
use Rattle.jm_values.specs.Activation.{Activation}
use Rattle.jm_values.specs.Outcome.{goes}
use Rattle.jm_values.specs.Rename.{refs_activation, rename_activation, rename_outcome}
use Rattle.jm_values.specs.Shape.{IsOneToOne}
use Rattle.jm_values.specs.declared.value.Value.TheVariants as value
use Rattle.jm_values.proofs.NaturalRows.{plain_natural}
use Rattle.jm_values.proofs.NaturalSteps.{push_natural}
use Rattle.jm_program.specs.declared.instruction.symbolic.Instr.{Instr}
use Rattle.jm_world.specs.Here.{Here}
use Rattle.jm_world.specs.Stepping.{from_outcome, row}
use Rattle.jm_world.proofs.Pushing.{push_is}
use Rattle.jm_linked.specs.Links.{LinkedView, Links}
use Rattle.jm_linked.specs.declared.instruction.LinkedInstr.{LinkedInstr}
use Rattle.jm_linked.specs.declared.instruction.LinkedInstr.TheVariants as linked
use Rattle.jm_interp.specs.PlainRuns.{row_alone}

-- a row does not depend on how references are named
pub alone_natural : (i : LinkedInstr) (f : ℕ → ℕ) (a : Activation) → IsOneToOne f (refs_activation a)
    → row_alone i (rename_activation f a) ≡ rename_outcome f (row_alone i a)
alone_natural (linked.Plain op) f a one = plain_natural op f a one
alone_natural (linked.Int n) f a one = push_natural f a (value.Int n) a.stack
alone_natural (linked.Long n) f a one = push_natural f a (value.Long n) a.stack
alone_natural (linked.Literal n) f a one = refl
alone_natural (linked.Return op) f a one = refl
alone_natural (linked.Array op) f a one = refl
alone_natural linked.Throw f a one = refl
alone_natural (linked.Monitor op) f a one = refl
alone_natural linked.SystemOut f a one = refl
alone_natural (linked.Field op n) f a one = refl
alone_natural (linked.Print p) f a one = refl
alone_natural (linked.Special n) f a one = refl
alone_natural (linked.NoSpecial n) f a one = refl
alone_natural (linked.Invoke op n) f a one = refl
alone_natural (linked.New n) f a one = refl
alone_natural (linked.Type op t) f a one = refl

-- where it leads to an activation, it is the row of the instruction that it is linked from
pub alone_is : (l : LinkedView) (i : LinkedInstr) (symbolic : Instr) (here : Here) (a b : Activation) → Links l i symbolic → row_alone i a ≡ goes b
    → row here symbolic ≡ from_outcome here (row_alone i here.frame)
alone_is l (linked.Plain op) symbolic here a b is leads = ap (row here) is
alone_is l (linked.Int n) symbolic here a b is leads = ap (row here) is ∙ sym (push_is here (value.Int n) here.frame.stack)
alone_is l (linked.Long n) symbolic here a b is leads = ap (row here) is ∙ sym (push_is here (value.Long n) here.frame.stack)
alone_is l (linked.Literal n) symbolic here a b is leads = absurd (cc)
alone_is l (linked.Return op) symbolic here a b is leads = absurd (cc)
alone_is l (linked.Array op) symbolic here a b is leads = absurd (cc)
alone_is l linked.Throw symbolic here a b is leads = absurd (cc)
alone_is l (linked.Monitor op) symbolic here a b is leads = absurd (cc)
alone_is l linked.SystemOut symbolic here a b is leads = absurd (cc)
alone_is l (linked.Field op n) symbolic here a b is leads = absurd (cc)
alone_is l (linked.Print p) symbolic here a b is leads = absurd (cc)
alone_is l (linked.Special n) symbolic here a b is leads = absurd (cc)
alone_is l (linked.NoSpecial n) symbolic here a b is leads = absurd (cc)
alone_is l (linked.Invoke op n) symbolic here a b is leads = absurd (cc)
alone_is l (linked.New n) symbolic here a b is leads = absurd (cc)
alone_is l (linked.Type op t) symbolic here a b is leads = absurd (cc)
