-- What a step puts spells a value, in every pool that begins with the entries so far.
use Rattle.std.proofs.Common.{◌≡◌, ℕ, Bool, true, false, cond, ltb, List, [], ◌++◌, Option, Some, Result, Ok, Err, refl, sym, ap, subst, ◌∙◌, append_assoc, arith}
use Rattle.std.specs.Int.{w16, w32, to_be_bytes}
use Rattle.std.proofs.lemmas.Bool.{ltb-true}
use Rattle.std.proofs.lemmas.List.{append-nil}
use Rattle.jm_bytes.specs.Laws.{and_then_ok}
use Rattle.jm_bytes.specs.Reading.{and_then}
use Rattle.jm_bytes.specs.Format.{Format, ◌>>=◌, done, outcome, given, guard, u2, u4}
use Rattle.jm_bytes.proofs.Spelled.{u2_text, u4_text, then_text, guard_text}
use Rattle.jm_class_format.specs.declared.constant_pool.Entry.{Entry}
use Rattle.jm_class_format.specs.declared.read_fault.ReadFault.{ReadFault}
use Rattle.jm_pool.specs.Building.{Begins, Sound}
use Rattle.jm_class_writer.specs.declared.fault.WriteFault.TheVariants as fault
use Rattle.jm_class_writer.specs.Drafts.{DraftParts, Drafting, add_bytes, put_u2, put_u4}

-- ---- steps

-- the value and the draft of a step that did not fail
pub step_ok : {A B : Type 0} (f : Drafting A) (g : A → Drafting B) (a : DraftParts) (z : B × DraftParts) → and_then (f a) (λ x. g x.0 x.1) ≡ Ok z → (x : A × DraftParts) × (f a ≡ Ok x) × (g x.0 x.1 ≡ Ok z)
step_ok f g a z h = and_then_ok (f a) (λ x. g x.0 x.1) z h

-- ---- growth

pub record Grows (before after : DraftParts) : Type 0 where
  pub begins : Begins before.entries after.entries
  pub sound : Sound before.entries → Sound after.entries

pub begins_same : (entries : List Entry) → Begins entries entries
begins_same entries = ([], sym (append-nil entries))

pub begins_on : (a b c : List Entry) → Begins a b → Begins b c → Begins a c
begins_on a b c h k = (h.0 ++ k.0, k.1 ∙ ap (λ (e : List Entry). e ++ k.0) h.1 ∙ append_assoc a h.0 k.0)

pub grows_same : (a b : DraftParts) → b.entries ≡ a.entries → Grows a b
grows_same a b same = record { begins = ([], same ∙ sym (append-nil a.entries)); sound = λ s. subst Sound (sym same) s }

pub grows_on : (a b c : DraftParts) → Grows a b → Grows b c → Grows a c
grows_on a b c h k = record { begins = begins_on a.entries b.entries c.entries h.begins k.begins; sound = λ s. k.sound (h.sound s) }

-- ---- bytes that spell a value

pub record Writes {A : Type 0} (format : List Entry → Format ReadFault A) (v : A) (before after : DraftParts) : Type 0 where
  pub text : List ℕ
  pub bytes : after.written ≡ before.written ++ text
  pub grows : Grows before after
  pub spells : (final : List Entry) → Begins after.entries final → (format final).Spells text v

pub writes_then : {A B : Type 0} (f : List Entry → Format ReadFault A) (g : List Entry → A → Format ReadFault B) (x : A) (y : B) (a b c : DraftParts)
    → Writes f x a b → Writes (λ es. g es x) y b c → Writes (λ es. f es >>= g es) y a c
writes_then f g x y a b c h k = record {
  text = h.text ++ k.text;
  bytes = k.bytes ∙ ap (λ (t : List ℕ). t ++ k.text) h.bytes ∙ append_assoc a.written h.text k.text;
  grows = grows_on a b c h.grows k.grows;
  spells = λ final begins. then_text (f final) (g final) h.text k.text x y (h.spells final (begins_on b.entries c.entries final k.grows.begins begins)) (k.spells final begins);
}

-- nothing is put
writes_nothing : {A : Type 0} (f : List Entry → Format ReadFault A) (v : A) (a : DraftParts) → ((final : List Entry) → Begins a.entries final → (f final).Spells [] v) → Writes f v a a
writes_nothing f v a h = record { text = []; bytes = sym (append-nil a.written); grows = grows_same a a refl; spells = h }

pub writes_done : {A : Type 0} (v : A) (a : DraftParts) → Writes (λ es. done v) v a a
writes_done v a = writes_nothing (λ es. done v) v a (λ final b. (refl, refl))

pub writes_outcome : {A : Type 0} (r : List Entry → Result A ReadFault) (v : A) (a : DraftParts) → ((final : List Entry) → Begins a.entries final → r final ≡ Ok v) → Writes (λ es. outcome (r es)) v a a
writes_outcome r v a h = writes_nothing (λ es. outcome (r es)) v a (λ final b. (refl, h final b))

pub writes_given : {A : Type 0} (e : ReadFault) (o : List Entry → Option A) (v : A) (a : DraftParts) → ((final : List Entry) → Begins a.entries final → o final ≡ Some v) → Writes (λ es. given e (o es)) v a a
writes_given e o v a h = writes_nothing (λ es. given e (o es)) v a (λ final b. (refl, h final b))

pub writes_guard : (e : ReadFault) (b : Bool) (a : DraftParts) → b ≡ true → Writes (λ es. guard e b) tt a a
writes_guard e b a h = writes_nothing (λ es. guard e b) tt a (λ final begins. guard_text e b h)

-- a last part whose value is made into another
pub writes_last : {A B : Type 0} (f : List Entry → Format ReadFault A) (g : A → B) (x : A) (a b : DraftParts) → Writes f x a b → Writes (λ es. f es >>= (λ y. done (g y))) (g x) a b
writes_last f g x a b h = writes_then f (λ es y. done (g y)) x (g x) a b b h (writes_done (g x) b)

-- ---- numbers

pub only_put : (b : Bool) (a : DraftParts) (z : Unit {0} × DraftParts) → cond b (Ok (tt, a)) (Err fault.TooMany) ≡ Ok z → (b ≡ true) × (a ≡ z.1)
only_put true a z h = (refl, cc)
only_put false a z h = absurd cc

puts : {A : Type 0} (f : List Entry → Format ReadFault A) (v : A) (text : List ℕ) (a b : DraftParts) → add_bytes text a ≡ b → ((final : List Entry) → (f final).Spells text v) → Writes f v a b
puts f v text a b same h = record {
  text = text;
  bytes = sym (ap (λ (d : DraftParts). d.written) same);
  grows = grows_same a b (sym (ap (λ (d : DraftParts). d.entries) same));
  spells = λ final begins. h final;
}

pub writes_u2 : (e : ReadFault) (n : ℕ) (a : DraftParts) (z : Unit {0} × DraftParts) → put_u2 n a ≡ Ok z → Writes (λ es. u2 e) n a z.1
unfolding put_u2
writes_u2 e n a z h =
    let g = only_put (ltb n 65536) (add_bytes (to_be_bytes w16 n) a) z h in
    puts (λ es. u2 e) n (to_be_bytes w16 n) a z.1 g.1 (λ final. u2_text n (omega (arith, ltb-true n 65536 g.0)))

pub writes_u4 : (e : ReadFault) (n : ℕ) (a : DraftParts) (z : Unit {0} × DraftParts) → put_u4 n a ≡ Ok z → Writes (λ es. u4 e) n a z.1
unfolding put_u4
writes_u4 e n a z h =
    let g = only_put (ltb n 4294967296) (add_bytes (to_be_bytes w32 n) a) z h in
    puts (λ es. u4 e) n (to_be_bytes w32 n) a z.1 g.1 (λ final. u4_text n (omega (arith, ltb-true n 4294967296 g.0)))
