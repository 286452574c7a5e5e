-- The lines of a class are read as their forms say.
use Rattle.std.proofs.Common.{◌≡◌, ℕ, Bool, true, false, List, [], ◌∷◌, ◌++◌, length, Option, Result, Ok, refl, sym, arith, subst, append_assoc}
use Rattle.std.specs.Prelude.{codes}
use Rattle.std.proofs.lemmas.List.{append-nil}
use Rattle.jm_program.specs.Flags.{is_interface}
use Rattle.jm_program.specs.declared.class.ClassParts.{ClassParts}
use Rattle.jm_program.specs.declared.class.Field.{Field}
use Rattle.jm_program.specs.declared.class.Method.{Method}
use Rattle.jm_program.specs.declared.class.Version.{Version}
use Rattle.jm_program.specs.declared.code.Code.{Code}
use Rattle.jm_jasmin_lex.specs.Token.{TokenParts}
use Rattle.jm_jasmin_ops.specs.declared.fault.AsmFault.{AsmFault}
use Rattle.jm_jasmin.specs.Lines.{line_number, by_line, required, optional}
use Rattle.jm_jasmin.specs.Words.{with_length}
use Rattle.jm_jasmin.specs.Header.{version_or_default, version_line, source_line, declared_at, class_line, interfaces, header}
use Rattle.jm_jasmin.specs.declared.header.Declared.{Declared}
use Rattle.jm_jasmin.specs.declared.header.Header.{Header}
use Rattle.jm_jasmin.specs.declared.item.Item.{Item}
use Rattle.jm_jasmin.specs.Fields.{field_line, fields}
use Rattle.jm_jasmin.specs.MethodHeader.{method_line}
use Rattle.jm_jasmin.specs.Items.{items_of}
use Rattle.jm_jasmin.specs.Body.{code_of}
use Rattle.jm_jasmin.specs.Methods.{end_line, with_code, method_body, methods}
use Rattle.jm_jasmin.specs.Methods.{method as method_at_front}
use Rattle.jm_jasmin.specs.Text.{parts_of, text_ends, class_of}
use Rattle.jm_jasmin.specs.WordForms.{Line, bare}
use Rattle.jm_jasmin.specs.Each.{OneLine, AtMostOne, EachOf}
use Rattle.jm_jasmin.specs.Each.OneLine.{one_line}
use Rattle.jm_jasmin.specs.Each.AtMostOne.{left_out, given}
use Rattle.jm_jasmin.specs.Each.EachOf.{none, more}
use Rattle.jm_jasmin.specs.HeaderForms.{VersionLine, SourceLine, ClassLine, SuperLine, ImplementsLine}
use Rattle.jm_jasmin.specs.HeaderForms.VersionLine.{bytecode}
use Rattle.jm_jasmin.specs.HeaderForms.SourceLine.{source}
use Rattle.jm_jasmin.specs.HeaderForms.ClassLine.{class, interface}
use Rattle.jm_jasmin.specs.HeaderForms.SuperLine.{super}
use Rattle.jm_jasmin.specs.HeaderForms.ImplementsLine.{implements}
use Rattle.jm_jasmin.specs.FieldForms.{FieldLine}
use Rattle.jm_jasmin.specs.FieldForms.FieldLine.{plain, valued}
use Rattle.jm_jasmin.specs.MethodForms.{MethodLines}
use Rattle.jm_jasmin.specs.MethodForms.MethodLine.{method as method_words}
use Rattle.jm_jasmin.specs.MethodForms.MethodLines.{method as method_lines}
use Rattle.jm_jasmin.specs.ClassForms.{ClassLines}
use Rattle.jm_jasmin.specs.ClassForms.ClassLines.{class_lines}
use Rattle.jm_jasmin.proofs.WordForms.{standing, Says, Goes, opens, line_read, required_read, optional_read, optional_absent, begins_says, each_read, ended}
use Rattle.jm_jasmin.proofs.HeaderForms.{version_reads, source_reads, super_reads, implements_reads, class_read}
use Rattle.jm_jasmin.proofs.FieldForms.{field_reads}
use Rattle.jm_jasmin.proofs.MethodForms.{GoesAt, line_read_at, method_line_reads}
use Rattle.jm_jasmin.proofs.BodyForms.{body_read, code_any}

-- ---- a method

end_reads : (number : ℕ) (at : ℕ → ℕ) → end_line (standing number at (bare (codes ".end") ∷ bare (codes "method") ∷ [])) ≡ Ok number
unfolding end_line with_length line_number
end_reads number at = refl

end_read : (behind : List Line) (us : List TokenParts) → Says ((bare (codes ".end") ∷ bare (codes "method") ∷ []) ∷ behind) us
    → GoesAt (required (codes ".end") end_line us) (λ n. n) behind us
unfolding required
end_read behind us says =
    let l : Line = bare (codes ".end") ∷ bare (codes "method") ∷ [] in
    let g = line_read_at end_line (λ n. n) l behind us says end_reads in
    (g.0, (g.1.0, rw (begins_says (codes ".end") (l ∷ behind) us says) g.1.1, g.1.2, g.1.3))

method_by : (in_interface : Bool) (us a b c : List TokenParts) (m : Method) (items : List Item) (last : ℕ) (code : Option Code)
    → by_line (method_line in_interface) us ≡ Ok (m, a) → items_of m a ≡ Ok (items, b)
    → required (codes ".end") end_line b ≡ Ok (last, c) → code_of m (line_number us) last items ≡ Ok code
    → method_at_front in_interface us ≡ Ok (with_code m code, c)
unfolding method_at_front method_body
method_by in_interface us a b c m items last code h i r k = rw (h, i, r, k) refl

method_read : (in_interface : Bool) (ls behind : List Line) (x : Method) (us : List TokenParts) → MethodLines in_interface ls x → Says (ls ++ behind) us
    → Goes (method_at_front in_interface us) x behind us
unfolding items_of
method_read in_interface ls behind x us (method_lines head body m items code p q k) says =
    let end : Line = bare (codes ".end") ∷ bare (codes "method") ∷ [] in
    let here : Says (head ∷ (body ++ end ∷ behind)) us = subst (λ (l : List Line). Says (head ∷ l) us) (append_assoc body (end ∷ []) behind) says in
    let g = line_read (method_line in_interface) m head (body ++ end ∷ behind) us here (method_line_reads in_interface head m p) in
    let r = body_read m (end ∷ behind) refl [] body items q (length g.0) g.0 [] refl (omega arith) g.2 in
    let e = end_read behind r.0 r.4 in
    let code_is = code_any m (line_number us) e.0 r.1 code (subst (λ (l : List Item). code_of m 0 0 l ≡ Ok code) (sym r.3) k) in
    (e.1.0, method_by in_interface us g.0 r.0 e.1.0 m r.1 e.0 code g.1 r.2 e.1.1 code_is, e.1.2, omega (arith, g.3, r.5, e.1.3))

-- ---- which lines begin with which directive

version_opens : (l : Line) (lines : List Line) (v : Version) → VersionLine l v → opens (codes ".bytecode") (l ∷ lines) ≡ true
version_opens l lines v (bytecode text w h) = refl

source_opens : (l : Line) (lines : List Line) (name : List ℕ) → SourceLine l name
    → (opens (codes ".source") (l ∷ lines) ≡ true) × (opens (codes ".bytecode") (l ∷ lines) ≡ false)
source_opens l lines name (source text) = (refl, refl)

class_opens : (l : Line) (lines : List Line) (d : Declared) → ClassLine l d
    → (opens (codes ".source") (l ∷ lines) ≡ false) × (opens (codes ".bytecode") (l ∷ lines) ≡ false)
class_opens l lines d (class flags text name bits q k) = (refl, refl)
class_opens l lines d (interface flags text name bits q k) = (refl, refl)

no_version : (sources : List Line) (s : Option (List ℕ)) (l : Line) (d : Declared) (lines : List Line) → AtMostOne SourceLine sources s → ClassLine l d
    → opens (codes ".bytecode") (sources ++ l ∷ lines) ≡ false
no_version sources s l d lines left_out p = (class_opens l lines d p).1
no_version sources s l d lines (given k x h) p = (source_opens k (l ∷ lines) x h).1

super_opens : (l : Line) (lines : List Line) (name : List ℕ) → SuperLine l name → opens (codes ".super") (l ∷ lines) ≡ true
super_opens l lines name (super text n h) = refl

implements_opens : (ls behind : List Line) (name : List ℕ) → OneLine ImplementsLine ls name → opens (codes ".implements") (ls ++ behind) ≡ true
implements_opens ls behind name (one_line l x (implements text n h)) = refl

field_opens : (ls behind : List Line) (f : Field) → OneLine FieldLine ls f
    → (opens (codes ".field") (ls ++ behind) ≡ true) × (opens (codes ".implements") (ls ++ behind) ≡ false)
field_opens ls behind f (one_line l x (plain flags text type name bits t q hn ht other)) = (refl, refl)
field_opens ls behind f (one_line l x (valued flags text type name bits t word kind c q hn ht static hk v)) = (refl, refl)

method_opens : (in_interface : Bool) (ls behind : List Line) (m : Method) → MethodLines in_interface ls m
    → (opens (codes ".method") (ls ++ behind) ≡ true) × (opens (codes ".field") (ls ++ behind) ≡ false) × (opens (codes ".implements") (ls ++ behind) ≡ false)
method_opens in_interface ls behind x (method_lines head body m items code (method_words flags text name types bits d q e all hn ht ha hl) r k) =
    (refl, refl, refl)

closed : {A : Type 0} (P : List Line → A → Type 0) (directive : List ℕ) → ((ls behind : List Line) (x : A) → P ls x → opens directive (ls ++ behind) ≡ false)
    → (lines : List Line) (xs : List A) (behind : List Line) → EachOf P lines xs → opens directive behind ≡ false → opens directive (lines ++ behind) ≡ false
closed P directive shut lines xs behind none off = off
closed P directive shut lines xs behind (more ls x {rest = others} p q) off =
    subst (λ (l : List Line). opens directive l ≡ false) (sym (append_assoc ls others behind)) (shut ls (others ++ behind) x p)

-- ---- the parts of a class

optional_part : {A : Type 0} (P : Line → A → Type 0) (directive : List ℕ) (f : List TokenParts → Result A AsmFault)
    → ((l : Line) (lines : List Line) (x : A) → P l x → opens directive (l ∷ lines) ≡ true)
    → ((l : Line) (x : A) → P l x → (number : ℕ) (at : ℕ → ℕ) → f (standing number at l) ≡ Ok x)
    → (lines : List Line) (o : Option A) → AtMostOne P lines o → (behind : List Line) → opens directive behind ≡ false → (us : List TokenParts)
    → Says (lines ++ behind) us
    → (rest : List TokenParts) × (optional directive f us ≡ Ok (o, rest)) × Says behind rest
optional_part P directive f on reads lines o left_out behind off us says = (us, optional_absent directive f behind us says off, says)
optional_part P directive f on reads lines o (given l x h) behind off us says =
    let g = optional_read directive f x l behind us says (on l behind x h) (reads l x h) in
    (g.0, g.1, g.2)

implements_read : (ls behind : List Line) (name : List ℕ) (us : List TokenParts) → OneLine ImplementsLine ls name → Says (ls ++ behind) us
    → Goes (by_line class_line us) name behind us
implements_read ls behind name us (one_line l x h) says = line_read class_line x l behind us says (implements_reads l x h)

field_read : (ls behind : List Line) (f : Field) (us : List TokenParts) → OneLine FieldLine ls f → Says (ls ++ behind) us
    → Goes (by_line field_line us) f behind us
field_read ls behind f us (one_line l x h) says = line_read field_line x l behind us says (field_reads l x h)

header_by : (us a b c d e : List TokenParts) (version : Option Version) (source_name : Option (List ℕ)) (declared : Declared) (superclass : List ℕ)
    (names : List (List ℕ))
    → optional (codes ".bytecode") version_line us ≡ Ok (version, a) → optional (codes ".source") source_line a ≡ Ok (source_name, b)
    → declared_at b ≡ Ok (declared, c)
    → required (codes ".super") class_line c ≡ Ok (superclass, d) → interfaces d ≡ Ok (names, e)
    → header us ≡ Ok (
      record {
        version = version_or_default version;
        source_file = source_name;
        flags = declared.flags;
        name = declared.name;
        superclass = superclass;
        interfaces = names;
      },
      e,
    )
unfolding header
header_by us a b c d e version source_name declared superclass names hv hs hd hu hi = rw (hv, hs, hd, hu, hi) refl

class_by : (us a b c : List TokenParts) (h : Header) (fs : List Field) (ms : List Method) → header us ≡ Ok (h, a) → fields a ≡ Ok (fs, b)
    → methods (is_interface h.flags) b ≡ Ok (ms, c) → line_number c ≡ 0 → class_of us ≡ Ok (parts_of h fs ms)
unfolding class_of text_ends
class_by us a b c h fs ms hh hf hm end = rw (hh, hf, hm, end) refl

pub class_read_whole : (lines : List Line) (c : ClassParts) → ClassLines lines c → (us : List TokenParts) → Says lines us → class_of us ≡ Ok c
unfolding interfaces fields methods
class_read_whole lines c (class_lines vs ss dl ul is fls mls version source_name d superclass names fs ms pv ps pd pu pi pf pm) us says =
    let v = optional_part VersionLine (codes ".bytecode") version_line version_opens version_reads vs version pv (ss ++ dl ∷ ul ∷ (is ++ (fls ++ mls)))
    (no_version ss source_name dl d (ul ∷ (is ++ (fls ++ mls))) ps pd) us says in
    let s = optional_part SourceLine (codes ".source") source_line (λ l more x h. (source_opens l more x h).0) source_reads ss source_name ps
    (dl ∷ ul ∷ (is ++ (fls ++ mls))) (class_opens dl (ul ∷ (is ++ (fls ++ mls))) d pd).0 v.0 v.2 in
    let k = class_read dl d pd (ul ∷ (is ++ (fls ++ mls))) s.0 s.2 in
    let u = required_read (codes ".super") class_line superclass ul (is ++ (fls ++ mls)) k.0 k.2 (super_opens ul (is ++ (fls ++ mls)) superclass pu)
    (super_reads ul superclass pu) in
    let no_method : (directive : List ℕ) → ((ls behind : List Line) (x : Method) → MethodLines (is_interface d.flags) ls x → opens directive (ls ++ behind)
    ≡ false) → opens directive mls ≡ false
    = λ directive shut. subst (λ (l : List Line). opens directive l ≡ false) (append-nil mls)
    (closed (MethodLines (is_interface d.flags)) directive shut mls ms [] pm refl) in
    let behind_fields : opens (codes ".field") mls ≡ false = no_method (codes ".field") (λ ls more x h. (method_opens (is_interface d.flags) ls more x h).1) in
    let behind_implements : opens (codes ".implements") (fls ++ mls) ≡ false =
    closed (OneLine FieldLine) (codes ".implements") (λ ls more x h. (field_opens ls more x h).1) fls fs mls pf
    (no_method (codes ".implements") (λ ls more x h. (method_opens (is_interface d.flags) ls more x h).2)) in
    let i = each_read (OneLine ImplementsLine) (codes ".implements") (by_line class_line) implements_opens implements_read is names pi (fls ++ mls)
    behind_implements (length u.0) u.0 [] (omega arith) u.2 in
    let f = each_read (OneLine FieldLine) (codes ".field") (by_line field_line) (λ ls more x h. (field_opens ls more x h).0) field_read fls fs pf mls
    behind_fields (length i.0) i.0 [] (omega arith) i.2 in
    let last : Says (mls ++ []) f.0 = subst (λ (l : List Line). Says l f.0) (sym (append-nil mls)) f.2 in
    let m = each_read (MethodLines (is_interface d.flags)) (codes ".method") (method_at_front (is_interface d.flags))
    (λ ls more x h. (method_opens (is_interface d.flags) ls more x h).0) (method_read (is_interface d.flags)) mls ms pm [] refl (length f.0) f.0 []
    (omega arith) last in
    class_by us i.0 f.0 m.0 _ fs ms (header_by us v.0 s.0 k.0 u.0 i.0 version source_name d superclass names v.1 s.1 k.1 u.1 i.1) f.1 m.1 (ended m.0 m.2)
