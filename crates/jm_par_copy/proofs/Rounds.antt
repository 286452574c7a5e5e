-- Rounds of some copiers and of others.
use Rattle.std.proofs.Common.{◌≡◌, ◌<◌, ◌≤◌, ℕ, List, [], ◌∷◌, ◌++◌, Bool, Global, Vec, true, false, sym, ◌∙◌, subst}
use Rattle.jm_blocks.specs.Stores.{Blocks}
use Rattle.jm_forward.specs.Hands.{TableView}
use Rattle.jm_par_copy.specs.Roots.{AreRootsOf, IsRooted}
use Rattle.jm_values.specs.declared.place.Place.{Place}
use Rattle.jm_heap.specs.declared.lies.Reference.{Reference}
use Rattle.jm_copy.proofs.Marking.{marks_stay}
use Rattle.jm_par_copy.specs.Holding.{held_objects, held_progress}
use Rattle.jm_par_copy.specs.Notes.{KeepsListed}
use Rattle.jm_par_copy.specs.Working.{IsWorking, KeepsWorking, scan_progress}
use Rattle.jm_par_copy.proofs.Beside.{given_still, same_more, same_refl}
use Rattle.jm_par_copy.proofs.ByPosition.{rooted_grows}
use Rattle.jm_par_copy.proofs.Claiming.{claiming_more, claims_still, learns_more}
use Rattle.jm_par_copy.specs.Round.{AreRound, IsKept, IsReady, IsRound, IsScan}
use Rattle.jm_par_copy.specs.Claiming.{KeepsClaiming, LearnsMore}
use Rattle.jm_par_copy.specs.declared.round.Own.{Own}
use Rattle.jm_par_copy.specs.declared.copier.Copier.{Copier}

rounds_more : (stores : List Blocks) (roots : List ℕ) (fs rs ds es : List Copier) → AreRound stores roots fs ds → AreRound stores roots rs es → AreRound stores roots (fs ++ rs) (ds ++ es)
rounds_more stores roots [] rs [] es f g = g
rounds_more stores roots [] rs (d ∷ ds) es f g = absurd f
rounds_more stores roots (c ∷ fs) rs [] es f g = absurd f
rounds_more stores roots (c ∷ fs) rs (d ∷ ds) es f g = (f.0, rounds_more stores roots fs rs ds es f.1 g)

pub rounds_joined : (stores : List Blocks) (roots : List ℕ) (cs fs rs ds es : List Copier) → cs ≡ fs ++ rs → AreRound stores roots fs ds → AreRound stores roots rs es → AreRound stores roots cs (ds ++ es)
rounds_joined stores roots cs fs rs ds es e f g = subst (λ xs. AreRound stores roots xs (ds ++ es)) (sym e) (rounds_more stores roots fs rs ds es f g)

-- one step after another
pub kept_then : (stores : List Blocks) (roots : List ℕ) (c d e : Copier) → IsKept stores roots c d → IsKept stores roots d e → IsKept stores roots c e
kept_then stores roots c d e f g = record {
  holding = λ base held k w. g.holding base held k (f.holding base held k w);
  given = g.given;
  same = same_more c.given.items d.given.items e.given.items f.same g.same;
  marks = g.marks;
  ended = g.ended;
  learns = learns_more c.own.seat.hand d.own.seat.hand e.own.seat.hand f.learns g.learns;
  noting = λ n. g.noting (f.noting n);
}

-- a copier that has forwarded places, and nothing else
abbrev pub after_share : Copier → Own → Vec Place Global → Vec Reference Global → Bool → Bool → Copier
after_share c own roots span rooted refused = record { own = own; marks = c.marks; pointing = c.pointing; given = c.given; roots = roots; rooted = rooted; ended = false; refused = refused; stopped = c.stopped; span = span; room = c.room }

pub share_kept : (stores : List Blocks) (roots : List ℕ) (words : TableView) (c : Copier) (own : Own) (places : Vec Place Global) (span : Vec Reference Global) (rooted refused : Bool) → IsReady stores roots words c → KeepsClaiming c.own own → KeepsWorking stores roots c.own.seat.hand own.seat.hand c.own.to own.to → KeepsListed c.own.to own.to → LearnsMore c.own.seat.hand own.seat.hand → IsKept stores roots c (after_share c own places span rooted refused)
share_kept stores roots words c own places span rooted refused ready on working listed learns =
    let xs = c.given.items in
    let m = c.marks in
    record {
      holding = λ base held k w. subst (λ lane. IsWorking stores roots base held k (held_objects xs) own.seat.hand own.to (scan_progress lane m (held_objects xs) (held_progress xs))) (sym on.stays.young_lane) (working base held k (held_objects xs) (scan_progress c.own.to.young.lane m (held_objects xs) (held_progress xs)) w);
      given = given_still c.own own xs on ready.given;
      same = same_refl xs;
      marks = marks_stay c.own.to own.to m on.stays ready.marks;
      ended = λ t. let two : false ≡ true = t in cc;
      learns = learns;
      noting = λ n. record { young = on.stays.young_lane ∙ n.young; own = listed 1 m.tenured c.pointing.items n.own; given = n.given };
    }

-- a copier with the new places of its roots is ready to scan
pub ready_then : (stores : List Blocks) (roots : List ℕ) (words : TableView) (c d : Copier) → IsReady stores roots words c → KeepsClaiming c.own d.own → IsKept stores roots c d → (d.rooted ≡ true) × IsRooted stores roots d → IsReady stores roots words d
ready_then stores roots words c d ready on kept rooted = record {
  claims = claims_still stores words c.own d.own on ready.claims;
  marks = kept.marks;
  given = kept.given;
  number = subst (λ k. (k < words.copiers) × (words.copiers ≤ 16)) (sym on.number) ready.number;
  rooted = record { none = λ e. let two : true ≡ false = sym rooted.0 ∙ e in cc; all = λ e. rooted.1 };
  holding = let w = ready.holding in (w.0, w.1, w.2, kept.holding w.0 w.1 w.2 w.3);
}

-- the roots are forwarded first, and then blocks are scanned
pub round_of : (stores : List Blocks) (roots : List ℕ) (c d e : Copier) → KeepsClaiming c.own d.own → IsKept stores roots c d → (d.rooted ≡ true) × IsRooted stores roots d → IsScan stores roots d e → IsRound stores roots c e
round_of stores roots c d e on kept rooted scan =
    record {
      on = claiming_more c.own d.own e.own on scan.on;
      rooted = λ f.
          let knows = (scan.kept f).learns.knows in
          let grown = rooted_grows stores roots d.own.seat.hand.known e.own.seat.hand.known d.own.number d.own.seat.hand.copiers d.roots.items knows rooted.1 in (
            scan.rooted ∙ rooted.0,
            subst (λ ps. AreRootsOf stores roots e.own.seat.hand.known e.own.number e.own.seat.hand.copiers ps) (sym scan.places)
                (subst (λ x. AreRootsOf stores roots e.own.seat.hand.known x e.own.seat.hand.copiers d.roots.items) (sym scan.on.number)
                (subst (λ n. AreRootsOf stores roots e.own.seat.hand.known d.own.number n d.roots.items) (sym scan.on.copiers) grown)),
          );
      kept = λ f. kept_then stores roots c d e kept (scan.kept f);
    }

-- a growth was refused when the roots were forwarded
pub refused_round : (stores : List Blocks) (roots : List ℕ) (c d e : Copier) → KeepsClaiming c.own d.own → e ≡ record { own = d.own; marks = d.marks; pointing = d.pointing; given = d.given; roots = d.roots; rooted = d.rooted; ended = d.ended; refused = true; stopped = d.stopped; span = d.span; room = d.room } → IsRound stores roots c e
refused_round stores roots c d e on is = subst (λ z. IsRound stores roots c z) (sym is) (record {
  on = on;
  rooted = λ f. let two : true ≡ false = f in cc;
  kept = λ f. let two : true ≡ false = f in cc;
})
