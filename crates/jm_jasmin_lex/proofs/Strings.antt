-- What the loop over the characters of a string keeps.
use Rattle.std.proofs.Common.{◌≡◌, ℕ, List, [], ◌∷◌, ◌++◌, ◌+◌, ◌*◌, refl, sym, ap, ◌∙◌, append_assoc}
use Rattle.std.proofs.lemmas.List.{append-nil}
use Rattle.jm_jasmin_lex.specs.declared.string.Part.{Part}
use Rattle.jm_jasmin_lex.specs.declared.string.Part.TheVariants.{Before, Plain}
use Rattle.std.specs.Str.{chars}
use Rattle.std.specs.Char.Escape.{encode_utf16}
use Rattle.jm_jasmin_lex.specs.Literals.{hexadecimal_value, escaped_unit, part_after, units_at, units_from, units_of_literal, Value, none, character, line_feed, tab, quote, backslash, unit}

-- the units of the characters so far, before those of what follows
pub record UnitsSoFar (seen units : List ℕ) (part : Part) : Type 0 where
  pub units_are : (rest : List ℕ) → units_from Before (seen ++ rest) ≡ units ++ units_from part rest

pub units_next : (seen units after : List ℕ) (part next : Part) (c : ℕ) → UnitsSoFar seen units part → after ≡ units ++ units_at part c → next ≡ part_after part c → UnitsSoFar (seen ++ c ∷ []) after next
unfolding units_from
units_next seen units after part next c h e k = record {
  units_are = λ rest. rw (append_assoc seen (c ∷ []) rest, e, k) (h.units_are (c ∷ rest) ∙ sym (append_assoc units (units_at part c) (units_from (part_after part c) rest)));
}

pub units_done : (seen units : List ℕ) (part : Part) → UnitsSoFar seen units part → units_from Before seen ≡ units
unfolding units_from
units_done seen units part h = sym (ap (units_from Before) (append-nil seen)) ∙ h.units_are [] ∙ append-nil units

-- ---- the value by rules

value_read : (cs units : List ℕ) → Value cs units → units_from Plain (cs ++ 34 ∷ []) ≡ units
unfolding units_from units_at part_after escaped_unit
value_read cs units none = refl
value_read cs units (character c {cs = others} {units = more} n m q) = rw (n, m) (ap (λ (x : List ℕ). encode_utf16 c ++ x) (value_read others more q))
value_read cs units (line_feed {cs = others} {units = more} q) = ap (λ (x : List ℕ). 10 ∷ x) (value_read others more q)
value_read cs units (tab {cs = others} {units = more} q) = ap (λ (x : List ℕ). 9 ∷ x) (value_read others more q)
value_read cs units (quote {cs = others} {units = more} q) = ap (λ (x : List ℕ). 34 ∷ x) (value_read others more q)
value_read cs units (backslash {cs = others} {units = more} q) = ap (λ (x : List ℕ). 92 ∷ x) (value_read others more q)
value_read cs units (unit a b c d {cs = others} {units = more} q) = ap (λ (x : List ℕ). (((hexadecimal_value a * 16 + hexadecimal_value b) * 16 + hexadecimal_value c) * 16 + hexadecimal_value d) ∷ x) (value_read others more q)

pub value_of_literal : (text cs units : List ℕ) → chars text ≡ 34 ∷ (cs ++ 34 ∷ []) → Value cs units → units_of_literal text ≡ units
unfolding units_of_literal units_from units_at part_after
value_of_literal text cs units is q = rw is (value_read cs units q)
