use Rattle.std.proofs.Common.{◌≢◌, ◌∙◌, sym}
use Rattle.jm_copy.specs.declared.copies.Copies.{Copies}
use Rattle.jm_par_copy.proofs.Begun.{last_is_kept}
use Rattle.jm_par_copy.proofs.seating.own_stores.Goals as goal

pub returns : goal.returns
returns c =
    let to : Copies = (record { words = c.in_ok-words.words; young = c.in_ok-young.young; tenured = c.in_ok-tenured.tenured; kept = c.last-kept.result }) in
    let young = c.in_ok-young.ensures in
    let old = c.in_ok-tenured.ensures in
    let apart : to.tenured.lane ≢ to.young.lane = λ e. c.requires.apart (sym old.lane ∙ e ∙ young.lane) in
    let last = last_is_kept to.tenured to.kept c.last-kept.ensures in
    record {
      fresh = record { young = young.empty; kept = last.0; last = last.1; apart = apart };
      ends = record { copier = c.requires.number; young = young.ends; old = old.ends };
      young_lane = young.lane;
      tenured_lane = old.lane;
      begun = old.begun;
    }
