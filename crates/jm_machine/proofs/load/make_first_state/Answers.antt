use Rattle.std.proofs.Common.{refl, [], ◌∷◌, None, ap, ◌∙◌}
use Rattle.jm_values.specs.declared.value.Value.TheVariants.{Ref}
use Rattle.jm_world.specs.Loading.{literal_texts}
use Rattle.jm_state.specs.declared.thread.Ending.TheVariants.{Running}
use Rattle.jm_state.specs.declared.thread.Thread as held
use Rattle.jm_machine.specs.StaticFields.{static_values}
use Rattle.jm_machine.proofs.Folds.{pushed}
use Rattle.jm_machine.proofs.Literals.{first_of, has_room}
use Rattle.jm_machine.proofs.Started.{begun, counted}
use Rattle.jm_machine.proofs.load.make_first_state.Goals as goal

pub make_first_objects-requires-clause-room : goal.make_first_objects-requires-clause-room
make_first_objects-requires-clause-room g c =
    let linked = c.classes-program.ensures.linked in
    has_room c.args.linked.now.program c.literals.result.now _ (c.literals.ensures ∙ linked.literals) c.requires.room

pub returns : goal.returns
returns g c =
    let l = c.args.linked.now in
    let linked = c.classes-program.ensures.linked in
    let out = c.get-out.result in
    let first = first_of _ (literal_texts l.program) _ _ _ _ _ (c.literals.ensures ∙ linked.literals) c.in_ok-places.ensures.holds
    c.get-out.ensures c.get-arguments.ensures c.in_ok-literals.ensures in
    let t : held.Thread = record { object = None; serial = None; frames = c.in_ok-frames.frames; pending = None; ending = Running } in
    let threads = pushed c.in_ok-threads.threads.items c.push_reserved.new.self.items [] t c.push_reserved.ensures.items c.in_ok-threads.ensures.items in
    let statics = c.in_ok-statics.ensures ∙ ap (λ cs. Ref out ∷ static_values cs) c.classes-program.ensures.classes in
    let states = c.in_ok-classes.classes in
    let strings = c.in_ok-literals.literals.items in
    let both = begun l linked out c.get-arguments.result t
    (record { object = refl; serial = refl; frames = c.in_ok-frames.ensures; pending = refl; ending = refl }) strings first.1
    _ _ states first.0 c.in_ok-places.ensures.limit
    (counted c.classes-program.result.now l.program states c.in_ok-classes.ensures c.classes-program.ensures.classes)
    _ (λ j. record {
      threads = threads j;
      started = c.new-2.ensures.empty j;
      live = 1;
      statics = statics j;
      classes = states;
      literals = strings;
      monitors = c.new-3.ensures j;
      output = c.new-4.ensures.items j;
      stop = None;
    }) in
    record { loaded = both.0; runs = both.1 }
