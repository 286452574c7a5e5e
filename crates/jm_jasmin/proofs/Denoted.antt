-- A class that a text denotes keeps the rules of a class.
use Rattle.std.proofs.Common.{◌≡◌, ℕ, Bool, List, [], ◌∷◌, ◌++◌, Option, Some, None, Result, Ok, Err, subst}
use Rattle.jm_bytes.specs.Reading.{and_then}
use Rattle.jm_bytes.specs.Laws.{and_then_ok, same_Ok}
use Rattle.jm_program.specs.Flags.{is_interface}
use Rattle.jm_program.specs.Fits.{Fits}
use Rattle.jm_program.specs.declared.class.ClassParts.{ClassParts}
use Rattle.jm_jasmin_lex.specs.Token.{TokenParts}
use Rattle.jm_jasmin_lex.specs.Tokens.{lexed_of}
use Rattle.jm_jasmin_ops.specs.declared.fault.AsmFault.{AsmFault}
use Rattle.jm_jasmin_ops.specs.declared.fault.AsmFault.TheVariants as fault
use Rattle.jm_jasmin.specs.Header.{header}
use Rattle.jm_jasmin.specs.Fields.{fields}
use Rattle.jm_jasmin.specs.Methods.{methods}
use Rattle.jm_jasmin.proofs.HeaderFits.{header_fits}
use Rattle.jm_jasmin.proofs.FieldsFit.{fields_fit}
use Rattle.jm_jasmin.proofs.ClassFits.{methods_fit, class_keeps}
use Rattle.jm_jasmin.specs.Text.{end_of_text, parts_of, text_ends, class_of, with_end, last_line, before_line, read_lexed, denoted}

pub class_of_fits : (ts : List TokenParts) (c : ClassParts) → class_of ts ≡ Ok c → Fits c
unfolding class_of
class_of_fits ts c h =
    let hs = and_then_ok (header ts) _ c h in
    let fs = and_then_ok (fields hs.0.1) _ c hs.2 in
    let ms = and_then_ok (methods (is_interface hs.0.0.flags) fs.0.1) _ c fs.2 in
    let es = and_then_ok (text_ends ms.0.1) _ c ms.2 in
    let in_interface : Bool = is_interface hs.0.0.flags in
    subst Fits (same_Ok {F = AsmFault} (parts_of hs.0.0 fs.0.0 ms.0.0) c es.2) (class_keeps hs.0.0 fs.0.0 ms.0.0 (header_fits ts hs.0 hs.1) (fields_fit hs.0.1 fs.0 fs.1) (methods_fit in_interface fs.0.1 ms.0 ms.1))

ended : {A : Type 0} (end : AsmFault) (r : Result A AsmFault) (x : A) → with_end end r ≡ Ok x → r ≡ Ok x
unfolding with_end
ended end (Ok y) x h = h
ended end (Err e) x h = absurd cc

never : {A B : Type 0} (r : Result A AsmFault) (e : AsmFault) (x : B) → and_then r (λ _. Err e) ≡ Ok x → ⊥
never (Ok y) e x h = cc
never (Err d) e x h = cc

lexed_fits : (ts : List TokenParts) (bad : Option ℕ) (c : ClassParts) → read_lexed ts bad ≡ Ok c → Fits c
lexed_fits ts None c h = class_of_fits (ts ++ end_of_text ∷ []) c (ended (fault.Syntax (last_line ts)) (class_of (ts ++ end_of_text ∷ [])) c h)
lexed_fits ts (Some line) c h = absurd (never (with_end (fault.BadToken line) (class_of (before_line line ts ++ end_of_text ∷ []))) (fault.BadToken line) c h)

pub denoted_fits : (text : List ℕ) (c : ClassParts) → denoted text ≡ Ok c → Fits c
unfolding denoted
denoted_fits text c h = lexed_fits (lexed_of text).tokens (lexed_of text).bad_line c h
