use Rattle.std.proofs.Common.{[], ◌∷◌, ◌++◌, ap, ◌∙◌, refl, arith}
use Rattle.std.proofs.lemmas.List.{length-map}
use Rattle.std.specs.Prelude.{map}
use Rattle.jm_state.specs.Parts.{thread_part}
use Rattle.jm_interp.proofs.Started.{live_few, among_more}
use Rattle.jm_interp.proofs.thread_starts.add_thread.Goals as goal

pub overflow_add-state : goal.overflow_add-state
overflow_add-state g c =
    let s = c.args.state.now in
    let part = thread_part c.args.at.linked.now in
    let few = live_few (map part s.threads.items) in
    let long = length-map s.threads.items part in
    let live = c.requires.live in
    let own = s.threads.ok.0 in
    let most = s.threads.ok.1 in
    let fits = c.push_reserved.new.self.ok.1 in
    let more = c.push_reserved.ensures.len in
    let same = c.reserve.ensures.len in
    omega arith

pub returns-in-Ok-clause-added : goal.returns-in-Ok-clause-added
returns-in-Ok-clause-added g c = record {
  thread = c.in_ok-thread.thread;
  is_new = c.in_ok-thread.ensures;
  threads = c.push_reserved.ensures.items ∙ ap (λ ts. ts ++ c.in_ok-thread.thread ∷ []) c.reserve.ensures.items;
  live = refl;
  started = among_more c.args.serial c.args.state.now.started.keys c.insert.new.self.keys c.in-Ok.ensures.updates.0;
  rest = refl;
}
