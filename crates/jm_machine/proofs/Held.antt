-- Held monitors that are told one after the other.
use Rattle.std.proofs.Common.{◌≡◌, ◌≢◌, ℕ, List, [], ◌∷◌, ◌++◌, Option, Some, None, true, false, refl, sym, ap, ◌∙◌, subst, inl, inr, arith}
use Rattle.std.proofs.Common.{append_assoc, append-nil}
use Rattle.std.specs.Prelude.{map}
use Rattle.std.proofs.lemmas.List.{map-append}
use Rattle.std.specs.List.Sorted.{IsStrictlySortedBy}
use Rattle.std.specs.Ordering.{nat_cmp}
use Rattle.jm_program.proofs.Numbers.{found_itself, found_unequal}
use Rattle.jm_values.specs.Shape.{Among, list_shape}
use Rattle.jm_values.specs.Content.{Content, AllResident, serial_at, name_of}
use Rattle.jm_values.proofs.SoundContents.{name_is}
use Rattle.jm_monitors.specs.Entries.{held_at}
use Rattle.jm_monitors.specs.HeldMonitors.{HeldMonitor, AreHeld, held_shape, held_in, monitor_of, monitors_of}
use Rattle.jm_monitors.specs.declared.held.Held.{Held}
use Rattle.jm_machine.specs.declared.monitor.WorldMonitor.{WorldMonitor}
use Rattle.jm_machine.specs.Held.{AreNamed}
use Rattle.jm_machine.specs.Readers.{model_monitor}
use Rattle.jm_machine.proofs.ReachedObjects.{all_above}

-- the places of held monitors
abbrev pub places_of_held : List HeldMonitor → List ℕ
places_of_held hs = (list_shape held_shape).refs hs

-- some have been told, and the places of the others are left
pub record ToldBefore (hs : List HeldMonitor) (told : List WorldMonitor) (places : List ℕ) : Type 0 where
  pub before : List HeldMonitor
  pub after : List HeldMonitor
  pub whole : before ++ after ≡ hs
  pub same : map model_monitor told ≡ monitors_of before
  pub left : places_of_held after ≡ places

pub none_told : (hs : List HeldMonitor) (told : List WorldMonitor) (left : List ℕ) → told ≡ [] → left ≡ places_of_held hs → ToldBefore hs told left
none_told hs told left none all = record { before = []; after = hs; whole = refl; same = ap (map model_monitor) none; left = sym all }

pub all_told : (hs : List HeldMonitor) (told : List WorldMonitor) (left : List ℕ) → ToldBefore hs told left → left ≡ []
    → map model_monitor told ≡ monitors_of hs
all_told hs told left t none =
    t.same ∙ ap monitors_of (sym (append-nil t.before) ∙ ap (λ hs. t.before ++ hs) (sym (no_more t.after (t.left ∙ none))) ∙ t.whole)
  where
    no_more : (hs : List HeldMonitor) → places_of_held hs ≡ [] → hs ≡ []
    no_more [] e = refl
    no_more (h ∷ hs) e = cc

-- the next of them
record IsNext (hs : List HeldMonitor) (p : ℕ) (rest : List ℕ) : Type 0 where
  held : HeldMonitor
  after : List HeldMonitor
  is : hs ≡ held ∷ after
  place : held.place ≡ p
  left : places_of_held after ≡ rest

next_is : (hs : List HeldMonitor) (p : ℕ) (rest : List ℕ) → places_of_held hs ≡ p ∷ rest → IsNext hs p rest
next_is [] p rest e = cc
next_is (h ∷ hs) p rest e = record { held = h; after = hs; is = refl; place = cc; left = cc }

serial_among : (before after : List HeldMonitor) (h : HeldMonitor) → Among h.serial (map (λ (x : HeldMonitor). x.serial) (before ++ h ∷ after))
serial_among [] after h = inl refl
serial_among (x ∷ before) after h = inr (serial_among before after h)

found_in : (before after : List HeldMonitor) (h : HeldMonitor) → IsStrictlySortedBy nat_cmp (map (λ (x : HeldMonitor). x.serial) (before ++ h ∷ after))
    → held_in (before ++ h ∷ after) h.serial ≡ Some h
unfolding IsStrictlySortedBy
found_in [] after h sorted = ap (λ b. elim b as (λ _. Option HeldMonitor) [ true ↦ Some h | false ↦ held_in after h.serial ]) (found_itself h.serial)
found_in (x ∷ before) after h sorted =
    let low = all_above x.serial _ sorted.0 h.serial (serial_among before after h) in
    let other : x.serial ≢ h.serial = λ e. omega arith in
    ap (λ b. elim b as (λ _. Option HeldMonitor) [ true ↦ Some x | false ↦ held_in (before ++ h ∷ after) h.serial ]) (found_unequal x.serial h.serial other)
    ∙ found_in before after h sorted.1

-- so is its name
named_in : (f : ℕ → ℕ) (before after : List HeldMonitor) (h : HeldMonitor)
    → map (λ (x : HeldMonitor). x.serial) (before ++ h ∷ after) ≡ map (λ (x : HeldMonitor). f x.place) (before ++ h ∷ after) → h.serial ≡ f h.place
named_in f [] after h e = cc
named_in f (x ∷ before) after h e =
    let rest : map (λ (x : HeldMonitor). x.serial) (before ++ h ∷ after) ≡ map (λ (x : HeldMonitor). f x.place) (before ++ h ∷ after) = cc in
    named_in f before after h rest

place_among : (before after : List HeldMonitor) (h : HeldMonitor) → Among h.place (places_of_held (before ++ h ∷ after))
place_among [] after h = inl refl
place_among (x ∷ before) after h = inr (place_among before after h)

module _ {T : Type 0} (c : Content T) (hs : List HeldMonitor) (told : List WorldMonitor) (p : ℕ) (rest left : List ℕ) (t : ToldBefore hs told left)
    (split : left ≡ p ∷ rest) where
  next : IsNext t.after p rest
  next = next_is t.after p rest (t.left ∙ split)

  parted : hs ≡ t.before ++ next.held ∷ next.after
  parted = sym t.whole ∙ ap (λ xs. t.before ++ xs) next.is

  pub place_resident : AllResident c (places_of_held hs) → (k : ℕ) × (serial_at c p ≡ Some k)
  place_resident all =
      let here = subst (λ n. Among n (places_of_held (t.before ++ next.held ∷ next.after))) next.place (place_among t.before next.after next.held) in
      all p (subst (λ xs. Among p (places_of_held xs)) (sym parted) here)

  module _ (named : AreNamed c hs) (are : AreHeld hs) (k : ℕ) (lies : serial_at c p ≡ Some k) where
    serial_is : next.held.serial ≡ k
    serial_is =
        named_in (name_of c) t.before next.after next.held
        (subst (λ xs. map (λ (x : HeldMonitor). x.serial) xs ≡ map (λ (x : HeldMonitor). name_of c x.place) xs) parted named)
        ∙ ap (name_of c) next.place ∙ name_is c p k lies

    found : held_in hs k ≡ Some next.held
    found =
        ap (λ xs. held_in xs k) parted ∙ ap (held_in (t.before ++ next.held ∷ next.after)) (sym serial_is)
        ∙ found_in t.before next.after next.held (subst (λ xs. IsStrictlySortedBy nat_cmp (map (λ (x : HeldMonitor). x.serial) xs)) parted are.ordered)

    pub not_none : None ≡ held_in hs k → ⊥
    not_none e = let bad : None ≡ Some next.held = e ∙ found in cc

    pub one_told : (h : Held) (m : WorldMonitor) (now : List WorldMonitor) → Some (held_at k h) ≡ held_in hs k → model_monitor m ≡ monitor_of (held_at k h)
        → now ≡ told ++ m ∷ [] → ToldBefore hs now rest
    one_told h m now is same more =
        let held : held_at k h ≡ next.held = (let e : Some (held_at k h) ≡ Some next.held = is ∙ found in cc) in
        record {
          before = t.before ++ next.held ∷ [];
          after = next.after;
          whole = append_assoc t.before (next.held ∷ []) next.after ∙ sym parted;
          same =
              ap (map model_monitor) more ∙ map-append model_monitor told (m ∷ [])
              ∙ (λ i. t.same i ++ (same ∙ ap monitor_of held) i ∷ [])
              ∙ sym (map-append monitor_of t.before (next.held ∷ []));
          left = next.left;
        }
