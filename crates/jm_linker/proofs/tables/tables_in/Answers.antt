-- The tables of what was gathered.
use Rattle.std.proofs.Common.{◌≡◌, ℕ, ◌<◌, length, subst}
use Rattle.std.specs.Prelude.{IfSome}
use Rattle.jm_world.specs.Classes.{height}
use Rattle.jm_world.specs.Hierarchy.{is_subclass}
use Rattle.jm_tables.specs.Hierarchies.{is_above}
use Rattle.jm_tables.specs.Numbering.{name_of}
use Rattle.jm_linked.specs.Tables.{all_names}
use Rattle.jm_linker.proofs.AboveLaws.{not_none}
use Rattle.jm_linker.proofs.InheritedLaws.{are_heirs, own_cells}
use Rattle.jm_linker.proofs.tables.tables_in.Goals as goal

pub of-requires : goal.of-requires
of-requires c =
    let program = c.args.classes.now.program.now in
    own_cells program (height program) c.args.declarations.now c.requires.declarations

pub unreachable-requires : goal.unreachable-requires
unreachable-requires c = not_none _ (c.in_ok-hierarchy.ensures.made c.requires.order) c.in_default.is

pub returns : goal.returns
returns c =
    let program = c.args.classes.now.program.now in
    let names = all_names program in
    record {
      hierarchy = subst (λ o. IfSome o (λ h. (class above : ℕ) → class < length names → above < length names
          → is_above h class above ≡ is_subclass program (name_of names class) (name_of names above)))
          c.in-Some.is (c.in_ok-hierarchy.ensures.above_them program names (are_heirs program c.args.declarations.now c.requires.loads c.requires.declarations));
      layout = c.in_ok-of_fields.ensures.layout;
      kinds = c.in_ok-of_fields.ensures.kinds;
      selected = c.in_ok-selected.ensures;
      codes = c.in_ok-own.ensures.codes;
      superclasses = c.in_ok-of_fields.ensures.superclasses;
      initializers = c.in_ok-own.ensures.initializers;
      constants = c.in_ok-own.ensures.constants;
    }
