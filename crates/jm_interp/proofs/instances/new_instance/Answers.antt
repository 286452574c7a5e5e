-- A new instance of a class that can be used.
use Rattle.std.proofs.Common.{◌≡◌, ◌∙◌, List, Some, None, ap, sym}
use Rattle.std.specs.Borrow.{Bor}
use Rattle.std.specs.Prelude.{option_map}
use Rattle.jm_program.specs.declared.instruction.operation.OperandType.{OperandType}
use Rattle.jm_linked.specs.declared.tables.Tables.{Tables}
use Rattle.jm_tables.specs.FieldKinds.{kinds_at}
use Rattle.jm_interp.proofs.NewRow.{kinds_known, makes_instance, model_kinds, overflows, room_for}
use Rattle.jm_interp.proofs.instances.new_instance.Goals as goal

pub unreachable-requires : goal.unreachable-requires
unreachable-requires g c =
    let there : option_map (λ (kinds : Bor (List OperandType)). kinds.now) None ≡ Some (model_kinds c.args.at.linked.now.program c.requires.instruction.is.0) =
    ap (option_map (λ (kinds : Bor (List OperandType)). kinds.now)) (sym c.in_default.is) ∙ c.kinds.ensures
    ∙ ap (λ (tables : Tables). kinds_at tables.kinds c.args.class) c.tables.ensures ∙ kinds_known c.args.class c.requires.instruction c.requires.usable in
    cc

pub make_on_top-requires-clause-step : goal.make_on_top-requires-clause-step
make_on_top-requires-clause-step g c =
    let there : option_map (λ (kinds : Bor (List OperandType)). kinds.now) (Some c.in-Some.fields)
    ≡ Some (model_kinds c.args.at.linked.now.program c.requires.instruction.is.0) =
    ap (option_map (λ (kinds : Bor (List OperandType)). kinds.now)) (sym c.in-Some.is) ∙ c.kinds.ensures
    ∙ ap (λ (tables : Tables). kinds_at tables.kinds c.args.class) c.tables.ensures ∙ kinds_known c.args.class c.requires.instruction c.requires.usable in
    makes_instance c.args.class c.requires.instruction c.requires.usable c.in-Some.fields (let some = there in cc)

pub make_on_top-requires-clause-room : goal.make_on_top-requires-clause-room
make_on_top-requires-clause-room g c = room_for c.top_method.result.now c.index.ensures c.top_method.ensures (sym c.if-not-has_room.false ∙ c.has_room.ensures)

pub refuse-requires-clause-refused : goal.refuse-requires-clause-refused
refuse-requires-clause-refused g c = overflows c.args.class c.requires.instruction c.requires.usable c.top_method.result.now c.index.ensures
    c.top_method.ensures
    (sym c.if-not-has_room.true ∙ c.has_room.ensures)
