-- What is written for a switch spells it, its targets as offsets, and those offsets have the numbers of the targets.
use Rattle.std.proofs.Common.{◌≡◌, ℕ, suc, ◌+◌, ◌-◌, ◌*◌, ◌^◌, ◌<◌, ◌≤◌, Bool, true, List, [], ◌∷◌, ◌++◌, length, map, replicate, Some, None, Ok, refl, sym, ap, subst, ◌∙◌, append_assoc, arith}
use Rattle.std.specs.Prelude.{ℤ, pos, ◌+ℤ◌, ◌-ℤ◌, int_le, nat_lt, ◌&&◌, FitsSigned, All}
use Rattle.std.specs.Int.{w32, to_be_bytes}
use Rattle.std.proofs.lemmas.Int.{ints}
use Rattle.std.proofs.lemmas.Bool.Decides.{nat_tests}
use Rattle.std.proofs.lemmas.List.{append-nil, length-append, length-replicate}
use Rattle.std.proofs.lemmas.List.Elements.{All-head, All-tail}
use Rattle.jm_bytes.specs.Reading.{and_then, each}
use Rattle.jm_bytes.specs.Format.{many, repeated}
use Rattle.jm_bytes.specs.Laws.{and_then_ok, same_Ok}
use Rattle.jm_bytes.specs.Writing.{signed_bytes}
use Rattle.jm_bytes.proofs.Spelled.{s4_text, repeated_text, guard_text}
use Rattle.jm_program.specs.Instructions.{has_high, is_above, keys_rise}
use Rattle.jm_program.specs.declared.instruction.plain.SwitchPair.{SwitchPair}
use Rattle.jm_program.specs.declared.instruction.plain.TableSwitch.{TableSwitch}
use Rattle.jm_program.specs.declared.instruction.plain.LookupSwitch.{LookupSwitch}
use Rattle.jm_program.specs.declared.instruction.plain.Plain.TheVariants as plain
use Rattle.jm_program.proofs.Truths.{both_true as both}
use Rattle.jm_program.proofs.Sequences.{got_last}
use Rattle.jm_class_format.specs.declared.fault.CodeFault.TheVariants as code_fault
use Rattle.jm_class_format.specs.declared.instruction.IndexedInstr.TheVariants as indexed
use Rattle.jm_class_format.specs.Instructions.{far_target, padding, natural, count_from, switch_range, table_switch, last_key, next_pair, pair_count, lookup_switch}
use Rattle.jm_class_format.specs.Code.{number_of, table_numbered, pair_numbered, lookup_numbered}
use Rattle.jm_encode.specs.declared.fault.EncodeFault.{EncodeFault}
use Rattle.jm_encode.specs.Encoding.{padding_size, far_text, texts, switch_text, range_text, table_text, pair_text, lookup_text}
use Rattle.jm_encode.specs.Ranges.{PairInRange}
use Rattle.jm_encode.proofs.Targets.{offset_in, AreStarts, far_is, number_there}

-- ---- with offsets for targets

abbrev pub table_at : List ℕ → TableSwitch → TableSwitch
table_at starts t = record { low = t.low; targets = map (offset_in starts) t.targets; default = offset_in starts t.default }

abbrev pub pair_at : List ℕ → SwitchPair → SwitchPair
pair_at starts pair = record { key = pair.key; target = offset_in starts pair.target }

abbrev pub lookup_at : List ℕ → LookupSwitch → LookupSwitch
lookup_at starts l = record { pairs = map (pair_at starts) l.pairs; default = offset_in starts l.default }

-- ---- targets

pub record TargetsSpelled (starts : List ℕ) (at : ℕ) (targets : List ℕ) (text : List ℕ) : Type 0 where
  pub size : length text ≡ 4 * length targets
  pub spelled : (many (length targets) (far_target at)).Spells text (map (offset_in starts) targets)
  pub numbered : each (number_of starts) (map (offset_in starts) targets) ≡ Ok targets

pub targets_are : (starts : List ℕ) (at : ℕ) (targets : List ℕ) (text : List ℕ) → AreStarts starts → at ≤ 65535 → texts (far_text starts at) targets ≡ Ok text → TargetsSpelled starts at targets text
unfolding texts many each
targets_are starts at [] text good low h =
    subst (TargetsSpelled starts at []) (same_Ok {F = EncodeFault} [] text h) (record { size = refl; spelled = (refl, refl); numbered = refl })
targets_are starts at (target ∷ targets) text good low h =
    let a = and_then_ok (far_text starts at target) (λ front. and_then (texts (far_text starts at) targets) (λ back. Ok (front ++ back))) text h in
    let b = and_then_ok (texts (far_text starts at) targets) (λ back. Ok (a.0 ++ back)) text a.2 in
    let here = far_is starts at target a.0 good low a.1 in
    let further = targets_are starts at targets b.0 good low b.1 in
    let size : length (a.0 ++ b.0) ≡ 4 * suc (length targets) = omega (arith, length-append a.0 b.0, here.1, further.size) in
    let numbered : each (number_of starts) (map (offset_in starts) (target ∷ targets)) ≡ Ok (target ∷ targets) = rw (number_there starts target good here.0, further.numbered) refl in
    subst (TargetsSpelled starts at (target ∷ targets)) (same_Ok {F = EncodeFault} (a.0 ++ b.0) text b.2) (record {
      size = size;
      spelled = record {
        front = a.0;
        back = b.0;
        value = offset_in starts target;
        parts = refl;
        first = here.2;
        second = record { front = b.0; back = []; value = map (offset_in starts) targets; parts = sym (append-nil b.0); first = further.spelled; second = (refl, refl) };
      };
      numbered = numbered;
    })

-- ---- tableswitch

padding_is : (at : ℕ) → (padding at).Spells (replicate (padding_size at) 0) (replicate (padding_size at) 0)
unfolding padding
padding_is at = (length-replicate (padding_size at) 0, refl)

high_fits : (low : ℤ) (count : ℕ) → FitsSigned w32 low → 0 < count → int_le (low +ℤ pos count) (pos 2147483648) ≡ true → FitsSigned w32 ((low +ℤ pos count) -ℤ pos 1)
high_fits low count fits some le = grind (arith, ints)

count_is : (low : ℤ) (count : ℕ) → 0 < count → count_from low ((low +ℤ pos count) -ℤ pos 1) ≡ Some count
unfolding count_from natural
count_is low count some =
    let between : ((low +ℤ pos count) -ℤ pos 1) -ℤ low ≡ pos (count - 1) = omega (arith, ints) in
    let back : count - 1 + 1 ≡ count = omega arith in
    rw between (ap (λ (n : ℕ). Some n) back)

range_is : (at : ℕ) (low : ℤ) (count : ℕ) → FitsSigned w32 low → 0 < count → int_le (low +ℤ pos count) (pos 2147483648) ≡ true → (switch_range at).Spells (range_text low count) (low, count)
unfolding switch_range range_text
range_is at low count fits some le =
    let high : ℤ = (low +ℤ pos count) -ℤ pos 1 in
    record {
      front = signed_bytes w32 low;
      back = signed_bytes w32 high;
      value = low;
      parts = refl;
      first = s4_text low fits;
      second = record {
        front = signed_bytes w32 high;
        back = [];
        value = high;
        parts = refl;
        first = s4_text high (high_fits low count fits some le);
        second = record { front = []; back = []; value = count; parts = refl; first = (refl, count_is low count some); second = (refl, refl) };
      };
    }

pub range_size : (low : ℤ) (count : ℕ) → length (range_text low count) ≡ 8
unfolding range_text
range_size low count = refl

signed_size : (z : ℤ) → length (signed_bytes w32 z) ≡ 4
signed_size z = refl

has_high_parts : (count : ℕ) (b : Bool) → (nat_lt 0 count && b) ≡ true → (0 < count) × (b ≡ true)
has_high_parts count b h = grind (arith, nat_tests)

pub record TableSpelled (starts : List ℕ) (at : ℕ) (t : TableSwitch) (back : List ℕ) : Type 0 where
  pub size : length back ≡ padding_size at + 12 + 4 * length t.targets
  pub spelled : (table_switch at).Spells back (indexed.Plain (plain.TableSwitch (table_at starts t)))
  pub numbered : table_numbered starts (table_at starts t) ≡ Ok t

pub table_is : (starts : List ℕ) (at : ℕ) (t : TableSwitch) (text : List ℕ) → AreStarts starts → at ≤ 65535 → FitsSigned w32 t.low → has_high t ≡ true → table_text starts at t ≡ Ok text
    → (back : List ℕ) × (text ≡ 170 ∷ back) × TableSpelled starts at t back
unfolding table_text switch_text table_switch table_numbered
table_is starts at t text good low range rule h =
    let a = and_then_ok (far_text starts at t.default) (λ default. and_then (texts (far_text starts at) t.targets) (λ targets. Ok (switch_text at 170 ++ (default ++ (range_text t.low (length t.targets) ++ targets))))) text h in
    let b = and_then_ok (texts (far_text starts at) t.targets) (λ targets. Ok (switch_text at 170 ++ (a.0 ++ (range_text t.low (length t.targets) ++ targets)))) text a.2 in
    let default = far_is starts at t.default a.0 good low a.1 in
    let targets = targets_are starts at t.targets b.0 good low b.1 in
    let high = has_high_parts (length t.targets) (int_le (t.low +ℤ pos (length t.targets)) (pos 2147483648)) rule in
    let zeros : List ℕ = replicate (padding_size at) 0 in
    let range_bytes : List ℕ = range_text t.low (length t.targets) in
    let back : List ℕ = zeros ++ (a.0 ++ (range_bytes ++ b.0)) in
    let size : length back ≡ padding_size at + 12 + 4 * length t.targets =
    omega (arith, length-append zeros (a.0 ++ (range_bytes ++ b.0)), length-append a.0 (range_bytes ++ b.0), length-append range_bytes b.0, length-replicate {A = ℕ} (padding_size at) 0, range_size t.low (length t.targets), default.1, targets.size) in
    let numbered : table_numbered starts (table_at starts t) ≡ Ok t = rw (number_there starts t.default good default.0, targets.numbered) refl in (
      back,
      sym (same_Ok {F = EncodeFault} (170 ∷ back) text b.2),
      record {
        size = size;
        spelled = record {
          front = zeros;
          back = a.0 ++ (range_bytes ++ b.0);
          value = zeros;
          parts = refl;
          first = padding_is at;
          second = record {
            front = a.0;
            back = range_bytes ++ b.0;
            value = offset_in starts t.default;
            parts = refl;
            first = default.2;
            second = record {
              front = range_bytes;
              back = b.0;
              value = (t.low, length t.targets);
              parts = refl;
              first = range_is at t.low (length t.targets) range high.0 high.1;
              second = record { front = b.0; back = []; value = map (offset_in starts) t.targets; parts = sym (append-nil b.0); first = targets.spelled; second = (refl, refl) };
            };
          };
        };
        numbered = numbered;
      },
    )

-- ---- lookupswitch

last_key_is : (pairs : List SwitchPair) (pair : SwitchPair) → last_key (pairs ++ pair ∷ []) ≡ Some pair.key
last_key_is pairs pair =
    let place : length (pairs ++ pair ∷ []) - 1 ≡ length pairs = omega (arith, length-append pairs (pair ∷ [])) in
    rw (place, got_last pairs pair) refl

pub record PairsSpelled (starts : List ℕ) (at : ℕ) (front pairs : List SwitchPair) (text : List ℕ) : Type 0 where
  pub size : length text ≡ 8 * length pairs
  pub spelled : (repeated (length pairs) (next_pair at) front).Spells text (front ++ map (pair_at starts) pairs)
  pub numbered : each (pair_numbered starts) (map (pair_at starts) pairs) ≡ Ok pairs

pair_is : (starts : List ℕ) (at : ℕ) (front : List SwitchPair) (pair : SwitchPair) (target : List ℕ) → FitsSigned w32 pair.key → is_above (last_key front) pair.key ≡ true → (far_target at).Spells target (offset_in starts pair.target) → (next_pair at front).Spells (signed_bytes w32 pair.key ++ target) (front ++ pair_at starts pair ∷ [])
unfolding next_pair
pair_is starts at front pair target range above h =
    record {
      front = signed_bytes w32 pair.key;
      back = target;
      value = pair.key;
      parts = refl;
      first = s4_text pair.key range;
      second = record {
        front = [];
        back = target;
        value = tt;
        parts = refl;
        first = guard_text (code_fault.BadOpcode at) (is_above (last_key front) pair.key) above;
        second = record { front = target; back = []; value = offset_in starts pair.target; parts = sym (append-nil target); first = h; second = (refl, refl) };
      };
    }

pair_number : (starts : List ℕ) (pair : SwitchPair) → AreStarts starts → pair.target < length starts → pair_numbered starts (pair_at starts pair) ≡ Ok pair
unfolding pair_numbered
pair_number starts pair good lt = rw (number_there starts pair.target good lt) refl

pub pairs_are : (starts : List ℕ) (at : ℕ) (front pairs : List SwitchPair) (text : List ℕ) → AreStarts starts → at ≤ 65535 → All PairInRange pairs → keys_rise (last_key front) pairs ≡ true → texts (pair_text starts at) pairs ≡ Ok text → PairsSpelled starts at front pairs text
unfolding texts pair_text repeated each
pairs_are starts at front [] text good low range rise h =
    subst (PairsSpelled starts at front []) (same_Ok {F = EncodeFault} [] text h) (record { size = refl; spelled = (refl, sym (append-nil front)); numbered = refl })
pairs_are starts at front (pair ∷ pairs) text good low range rise h =
    let a = and_then_ok (pair_text starts at pair) (λ front. and_then (texts (pair_text starts at) pairs) (λ back. Ok (front ++ back))) text h in
    let b = and_then_ok (texts (pair_text starts at) pairs) (λ back. Ok (a.0 ++ back)) text a.2 in
    let c = and_then_ok (far_text starts at pair.target) (λ target. Ok (signed_bytes w32 pair.key ++ target)) a.0 a.1 in
    let one : signed_bytes w32 pair.key ++ c.0 ≡ a.0 = same_Ok {F = EncodeFault} (signed_bytes w32 pair.key ++ c.0) a.0 c.2 in
    let target = far_is starts at pair.target c.0 good low c.1 in
    let keys = both (is_above (last_key front) pair.key) (keys_rise (Some pair.key) pairs) rise in
    let rises : keys_rise (last_key (front ++ pair_at starts pair ∷ [])) pairs ≡ true = rw (last_key_is front (pair_at starts pair)) keys.1 in
    let here = pair_is starts at front pair c.0 (All-head PairInRange pair pairs range) keys.0 target.2 in
    let further = pairs_are starts at (front ++ pair_at starts pair ∷ []) pairs b.0 good low (All-tail PairInRange pair pairs range) rises b.1 in
    let text_is : (signed_bytes w32 pair.key ++ c.0) ++ b.0 ≡ text = ap (λ (t : List ℕ). t ++ b.0) one ∙ same_Ok {F = EncodeFault} (a.0 ++ b.0) text b.2 in
    let size : length ((signed_bytes w32 pair.key ++ c.0) ++ b.0) ≡ 8 * suc (length pairs) = omega (arith, length-append (signed_bytes w32 pair.key ++ c.0) b.0, length-append (signed_bytes w32 pair.key) c.0, signed_size pair.key, target.1, further.size) in
    let all : (front ++ pair_at starts pair ∷ []) ++ map (pair_at starts) pairs ≡ front ++ (pair_at starts pair ∷ map (pair_at starts) pairs) = simp append_assoc in
    let spelled = repeated_text (length pairs) (next_pair at) front (front ++ pair_at starts pair ∷ []) ((front ++ pair_at starts pair ∷ []) ++ map (pair_at starts) pairs) (signed_bytes w32 pair.key ++ c.0) b.0 here further.spelled in
    let numbered : each (pair_numbered starts) (map (pair_at starts) (pair ∷ pairs)) ≡ Ok (pair ∷ pairs) = rw (pair_number starts pair good target.0, further.numbered) refl in
    subst (PairsSpelled starts at front (pair ∷ pairs)) text_is (record {
      size = size;
      spelled = subst (λ (ps : List SwitchPair). (repeated (suc (length pairs)) (next_pair at) front).Spells ((signed_bytes w32 pair.key ++ c.0) ++ b.0) ps) all spelled;
      numbered = numbered;
    })

-- so many, which is written as a number without a sign and read as one with a sign
count_fits : (at count : ℕ) → count < 2 ^ 31 → (pair_count at).Spells (to_be_bytes w32 count) count
unfolding pair_count natural
count_fits at count lt =
    let fits : FitsSigned w32 (pos count) = record { sfits = lt } in
    record { front = to_be_bytes w32 count; back = []; value = pos count; parts = refl; first = s4_text (pos count) fits; second = (refl, refl) }

pub record LookupSpelled (starts : List ℕ) (at : ℕ) (l : LookupSwitch) (back : List ℕ) : Type 0 where
  pub size : length back ≡ padding_size at + 8 + 8 * length l.pairs
  pub spelled : (lookup_switch at).Spells back (indexed.Plain (plain.LookupSwitch (lookup_at starts l)))
  pub numbered : lookup_numbered starts (lookup_at starts l) ≡ Ok l

pub lookup_is : (starts : List ℕ) (at : ℕ) (l : LookupSwitch) (text : List ℕ) → AreStarts starts → at ≤ 65535 → All PairInRange l.pairs → keys_rise None l.pairs ≡ true → length l.pairs < 2 ^ 31 → lookup_text starts at l ≡ Ok text
    → (back : List ℕ) × (text ≡ 171 ∷ back) × LookupSpelled starts at l back
unfolding lookup_text switch_text lookup_switch lookup_numbered
lookup_is starts at l text good low range rise few h =
    let a = and_then_ok (far_text starts at l.default) (λ default. and_then (texts (pair_text starts at) l.pairs) (λ pairs. Ok (switch_text at 171 ++ (default ++ (to_be_bytes w32 (length l.pairs) ++ pairs))))) text h in
    let b = and_then_ok (texts (pair_text starts at) l.pairs) (λ pairs. Ok (switch_text at 171 ++ (a.0 ++ (to_be_bytes w32 (length l.pairs) ++ pairs)))) text a.2 in
    let default = far_is starts at l.default a.0 good low a.1 in
    let pairs = pairs_are starts at [] l.pairs b.0 good low range rise b.1 in
    let zeros : List ℕ = replicate (padding_size at) 0 in
    let count : List ℕ = to_be_bytes w32 (length l.pairs) in
    let back : List ℕ = zeros ++ (a.0 ++ (count ++ b.0)) in
    let size : length back ≡ padding_size at + 8 + 8 * length l.pairs =
    omega (arith, length-append zeros (a.0 ++ (count ++ b.0)), length-append a.0 (count ++ b.0), length-append count b.0, length-replicate {A = ℕ} (padding_size at) 0, default.1, pairs.size) in
    let numbered : lookup_numbered starts (lookup_at starts l) ≡ Ok l = rw (number_there starts l.default good default.0, pairs.numbered) refl in (
      back,
      sym (same_Ok {F = EncodeFault} (171 ∷ back) text b.2),
      record {
        size = size;
        spelled = record {
          front = zeros;
          back = a.0 ++ (count ++ b.0);
          value = zeros;
          parts = refl;
          first = padding_is at;
          second = record {
            front = a.0;
            back = count ++ b.0;
            value = offset_in starts l.default;
            parts = refl;
            first = default.2;
            second = record {
              front = count;
              back = b.0;
              value = length l.pairs;
              parts = refl;
              first = count_fits at (length l.pairs) few;
              second = record { front = b.0; back = []; value = map (pair_at starts) l.pairs; parts = sym (append-nil b.0); first = pairs.spelled; second = (refl, refl) };
            };
          };
        };
        numbered = numbered;
      },
    )
