-- Where the main class stands among the classes of the files.
use Rattle.std.proofs.Common.{◌≡◌, ℕ, List, Some, Bor}
use Rattle.jm_class_path.specs.Places.{written_name}
use Rattle.jm_class_path.proofs.MainClass.{named_so, with_main_there, without_main}
use Rattle.jm_class_path.proofs.main_class.with_main.Goals as goal

pub returns-in_ok-put_in_front-in-Some-main_at : goal.returns-in_ok-put_in_front-in-Some-main_at
returns-in_ok-put_in_front-in-Some-main_at g c =
    let is : c.args.main ≡ Some c.in-Some.text = cc in
    let named = named_so (λ (text : Bor (List ℕ)). written_name text.now) c.args.main c.in-Some.text c.in_ok-name.name is c.in_ok-name.ensures in
    with_main_there g.R.FileReader.facts _ c.in_ok-name.name named c.args.files.items c.deref.result.now c.deref.ensures.value c.in_ok-classes.classes.items c.in_ok-classes.ensures
    c.deref-2.result.now c.deref-2.ensures.value c.in-Some-main_at.number c.put_in_front.new.files.items c.in-Some-main_at.ensures.place
    c.in_ok-put_in_front-in-Some-main_at.ensures

pub returns-in-None : goal.returns-in-None
returns-in-None g c =
    let is : c.args.main ≡ Some c.in-Some.text = cc in
    let named = named_so (λ (text : Bor (List ℕ)). written_name text.now) c.args.main c.in-Some.text c.in_ok-name.name is c.in_ok-name.ensures in (
      named,
      without_main g.R.FileReader.facts _ c.in_ok-name.name named c.args.files.items c.deref.result.now c.deref.ensures.value c.in_ok-classes.classes.items c.in_ok-classes.ensures
          c.deref-2.result.now c.deref-2.ensures.value c.in-None.ensures.place,
    )
