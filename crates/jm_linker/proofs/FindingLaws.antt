-- What is told one by one; the first of it is why the program does not load.
use Rattle.std.proofs.Common.{◌≡◌, ℕ, map, ◌+◌, ◌<◌, ◌≤◌, List, [], ◌∷◌, ◌++◌, Option, Some, None, length, get_or, take, drop, refl, sym, ap, ◌∙◌, append_assoc, append-nil, not, option_map}
use Rattle.std.proofs.lemmas.List.{drop_more, take_more, drop_all}
use Rattle.jm_program.specs.declared.class.ClassParts.{ClassParts}
use Rattle.jm_program.specs.declared.class.Method.{Method}
use Rattle.jm_program.specs.declared.code.Code.{Code}
use Rattle.jm_program.specs.declared.code.Handler.{Handler}
use Rattle.jm_program.specs.declared.instruction.symbolic.Instr.{Instr}
use Rattle.jm_world.specs.Classes.{class_named}
use Rattle.jm_world.specs.Loading.{main_in}
use Rattle.jm_world.specs.Loads.{Refusal, or_else, when, first_of_all, duplicate_class, no_main, is_named_among, duplicates, duplicate_members, superclass_refusal, interface_of_kind, parents_refusal, cycle_refusal, is_main, instruction_refusal, catch_refusal, method_code_refusal, refusal}
use Rattle.jm_linker.specs.Answers.{SaysWhy}
use Rattle.jm_linker.specs.declared.fault.LinkFault.{LinkFault}
use Rattle.jm_linker.specs.declared.fault.LinkFault.TheVariants as fault
use Rattle.jm_linker.specs.declared.members.Members.{Members}
use Rattle.jm_linker.specs.declared.finding.Site.{Site}
use Rattle.jm_linker.specs.declared.finding.Site.TheVariants as site
use Rattle.jm_linker.specs.declared.finding.Finding.{Finding}
use Rattle.jm_linker.specs.Findings.{load_fault, found, each, named_again, members_again, parents_found, cycle_found, main_found, code_found, method_found, methods_found, findings, first_fault}
use Rattle.jm_linker.proofs.MethodLaws.{map_more}
use Rattle.jm_linker.proofs.Seen.{named_end, duplicates_alike}

-- ---- along a list

-- one more is told
pub each_goes_on : {A : Type 0} (tell : ℕ → A → List Finding) (xs : List A) (i : ℕ) (x : A) (now then whole : List Finding) → i < length xs → x ≡ get_or xs i x → then ≡ now ++ tell i x → now ++ each tell i (drop i xs) ≡ whole → then ++ each tell (i + 1) (drop (i + 1) xs) ≡ whole
each_goes_on tell xs i x now then whole l is more h =
    let here : each tell i (drop i xs) ≡ tell i x ++ each tell (i + 1) (drop (i + 1) xs) = rw (drop_more xs i x l, ← is) refl in
    ap (λ t. t ++ each tell (i + 1) (drop (i + 1) xs)) more
    ∙ append_assoc now (tell i x) (each tell (i + 1) (drop (i + 1) xs))
    ∙ ap (λ t. now ++ t) (sym here)
    ∙ h

-- all are told
pub each_ends : {A : Type 0} (tell : ℕ → A → List Finding) (xs : List A) (i : ℕ) (now whole : List Finding) → length xs ≤ i → now ++ each tell i (drop i xs) ≡ whole → now ≡ whole
each_ends tell xs i now whole l h = sym (append-nil now) ∙ ap (λ ys. now ++ each tell i ys) (sym (drop_all i xs l)) ∙ h

-- one more class is looked at by its name
pub named_goes_on : (xs : List ClassParts) (i : ℕ) (x : ClassParts) (now then whole : List Finding) → i < length xs → x ≡ get_or xs i x
    → then ≡ now ++ found (site.Class i) (when (is_named_among (take i xs) x.name) (duplicate_class x.name))
    → now ++ named_again (take i xs) i (drop i xs) ≡ whole → then ++ named_again (take (i + 1) xs) (i + 1) (drop (i + 1) xs) ≡ whole
named_goes_on xs i x now then whole l is more h =
    let one = found (site.Class i) (when (is_named_among (take i xs) x.name) (duplicate_class x.name)) in
    let rest = named_again (take i xs ++ x ∷ []) (i + 1) (drop (i + 1) xs) in
    let here : named_again (take i xs) i (drop i xs) ≡ one ++ rest = rw (drop_more xs i x l, ← is) refl in
    let seen : take (i + 1) xs ≡ take i xs ++ x ∷ [] = rw (take_more xs i x l, ← is) refl in
    ap (λ s. then ++ named_again s (i + 1) (drop (i + 1) xs)) seen
    ∙ ap (λ t. t ++ rest) more
    ∙ append_assoc now one rest
    ∙ ap (λ t. now ++ t) (sym here)
    ∙ h

pub named_ends : (xs : List ClassParts) (i : ℕ) (now whole : List Finding) → length xs ≤ i → now ++ named_again (take i xs) i (drop i xs) ≡ whole → now ≡ whole
named_ends xs i now whole l h = sym (append-nil now) ∙ ap (λ ys. now ++ named_again (take i xs) i ys) (sym (drop_all i xs l)) ∙ h

-- one more class has its members
pub classes_more : (xs : List ClassParts) (i : ℕ) (x : ClassParts) (all more : List Members) (m : Members) → i < length xs → x ≡ get_or xs i x → map (λ (k : Members). k.class.now) all ≡ take i xs
    → m.class.now ≡ x → more ≡ all ++ m ∷ [] → map (λ (k : Members). k.class.now) more ≡ take (i + 1) xs
classes_more xs i x all more m l is so_far same pushed =
    let seen : take (i + 1) xs ≡ take i xs ++ x ∷ [] = rw (take_more xs i x l, ← is) refl in
    ap (map (λ (k : Members). k.class.now)) pushed
    ∙ map_more (λ (k : Members). k.class.now) all m
    ∙ ap (λ ks. ks ++ m.class.now ∷ []) so_far
    ∙ ap (λ k. take i xs ++ k ∷ []) same
    ∙ sym seen

-- nothing is noted of what is not refused
pub nothing_noted : (s : Site) (fs : List Finding) (reason : Option Refusal) → reason ≡ None → fs ≡ fs ++ found s reason
nothing_noted s fs reason e = sym (append-nil fs) ∙ ap (λ r. fs ++ found s r) (sym e)

-- what is noted of a fault
pub noted : (s : Site) (f : LinkFault) (reason : Option Refusal) → SaysWhy f reason → (f ≡ fault.OutOfMemory → ⊥) → record { site = s; fault = f } ∷ [] ≡ found s reason
noted s (fault.DuplicateClass name) reason e other = sym (ap (found s) e)
noted s (fault.DuplicateMember name) reason e other = sym (ap (found s) e)
noted s (fault.NoClass name) reason e other = sym (ap (found s) e)
noted s (fault.Cycle name) reason e other = sym (ap (found s) e)
noted s (fault.NoField name) reason e other = sym (ap (found s) e)
noted s (fault.NoMethod name) reason e other = sym (ap (found s) e)
noted s (fault.WrongKind name) reason e other = sym (ap (found s) e)
noted s fault.NoMain reason e other = sym (ap (found s) e)
noted s fault.OutOfMemory reason e other = absurd (other refl)

-- ---- the first of it

abbrev why : Option Refusal → Option LinkFault
why reason = option_map load_fault reason

abbrev or_fault : Option LinkFault → Option LinkFault → Option LinkFault
or_fault None o = o
or_fault (Some f) o = Some f

why_or : (a b : Option Refusal) → or_fault (why a) (why b) ≡ why (or_else a b)
why_or None b = refl
why_or (Some r) b = refl

first_append : (xs ys : List Finding) → first_fault (xs ++ ys) ≡ or_fault (first_fault xs) (first_fault ys)
first_append [] ys = refl
first_append (x ∷ xs) ys = refl

-- the first of two lists, of which the first of each is known
join : (xs ys : List Finding) (a b : Option Refusal) → first_fault xs ≡ why a → first_fault ys ≡ why b → first_fault (xs ++ ys) ≡ why (or_else a b)
join xs ys a b p q = first_append xs ys ∙ ap (λ o. or_fault o (first_fault ys)) p ∙ ap (or_fault (why a)) q ∙ why_or a b

first_found : (s : Site) (r : Option Refusal) → first_fault (found s r) ≡ why r
first_found s None = refl
first_found s (Some r) = refl

first_each : {A : Type 0} (tell : ℕ → A → List Finding) (check : A → Option Refusal) → ((n : ℕ) (x : A) → first_fault (tell n x) ≡ why (check x)) → (n : ℕ) (xs : List A) → first_fault (each tell n xs) ≡ why (first_of_all check xs)
first_each tell check same n [] = refl
first_each tell check same n (x ∷ xs) = join (tell n x) (each tell (n + 1) xs) (check x) (first_of_all check xs) (same n x) (first_each tell check same (n + 1) xs)

first_named : (seen : List ClassParts) (n : ℕ) (cs : List ClassParts) → first_fault (named_again seen n cs) ≡ why (duplicates seen cs)
first_named seen n [] = refl
first_named seen n (c ∷ cs) =
    let again = when (is_named_among seen c.name) (duplicate_class c.name) in
    join (found (site.Class n) again) (named_again (seen ++ c ∷ []) (n + 1) cs) again (duplicates (c ∷ seen) cs)
    (first_found (site.Class n) again)
    (first_named (seen ++ c ∷ []) (n + 1) cs ∙ ap why (sym (duplicates_alike cs (c ∷ seen) (seen ++ c ∷ []) (named_end seen c))))

first_parents : (program : List ClassParts) (n : ℕ) (c : ClassParts) → first_fault (parents_found program n c) ≡ why (parents_refusal program c)
first_parents program n c =
    let of_kind = λ (name : List ℕ). interface_of_kind name (class_named program name) in
    let interface = λ (i : ℕ) (name : List ℕ). found (site.Interface n i) (of_kind name) in
    let superclass = superclass_refusal program c c.superclass in
    join (found (site.Superclass n) superclass) (each interface 0 c.interfaces) superclass (first_of_all of_kind c.interfaces)
    (first_found (site.Superclass n) superclass)
    (first_each interface of_kind (λ i name. first_found (site.Interface n i) (of_kind name)) 0 c.interfaces)

first_code : (program : List ClassParts) (n m : ℕ) (code : Code) → first_fault (code_found program n m code) ≡ why (or_else (first_of_all (instruction_refusal program) code.instructions) (first_of_all (catch_refusal program) code.handlers))
first_code program n m code =
    let instruction = λ (i : ℕ) (x : Instr). found (site.Instruction n m i) (instruction_refusal program x) in
    let handler = λ (h : ℕ) (x : Handler). found (site.Handler n m h) (catch_refusal program x) in
    join (each instruction 0 code.instructions) (each handler 0 code.handlers) (first_of_all (instruction_refusal program) code.instructions) (first_of_all (catch_refusal program) code.handlers)
    (first_each instruction (instruction_refusal program) (λ i x. first_found (site.Instruction n m i) (instruction_refusal program x)) 0 code.instructions)
    (first_each handler (catch_refusal program) (λ h x. first_found (site.Handler n m h) (catch_refusal program x)) 0 code.handlers)

first_method : (program : List ClassParts) (n m : ℕ) (method : Method) → first_fault (method_found program n m method) ≡ why (method_code_refusal program method)
first_method program n m method = by method.code
  where
    by : (code : Option Code) → first_fault (elim code as (λ _. List Finding) [ None ↦ [] | Some code ↦ code_found program n m code ])
        ≡ why (elim code as (λ _. Option Refusal) [ None ↦ None | Some code ↦ or_else (first_of_all (instruction_refusal program) code.instructions) (first_of_all (catch_refusal program) code.handlers) ])
    by None = refl
    by (Some code) = first_code program n m code

-- one behind the other, taken together from the last on
six : (a b c d e f : List Finding) → a ++ b ++ c ++ d ++ e ++ f ≡ a ++ (b ++ (c ++ (d ++ (e ++ f))))
six a b c d e f =
    append_assoc (a ++ b ++ c ++ d) e f
    ∙ append_assoc (a ++ b ++ c) d (e ++ f)
    ∙ append_assoc (a ++ b) c (d ++ (e ++ f))
    ∙ append_assoc a b (c ++ (d ++ (e ++ f)))

-- why a program does not load is the first that is told
pub first_is_why : (program : List ClassParts) → first_fault (findings program) ≡ option_map load_fault (refusal program)
unfolding refusal
first_is_why program =
    let named = first_named [] 0 program in
    let members = first_each members_again duplicate_members (λ n c. first_found (site.Class n) (duplicate_members c)) 0 program in
    let parents = first_each (parents_found program) (parents_refusal program) (first_parents program) 0 program in
    let cycles = first_each (cycle_found program) (cycle_refusal program) (λ n c. first_found (site.Class n) (cycle_refusal program c)) 0 program in
    let main = first_found site.Main (when (not (is_main (main_in program))) no_main) in
    let methods = first_each (methods_found program) (λ (c : ClassParts). first_of_all (method_code_refusal program) c.methods)
    (λ n c. first_each (method_found program n) (method_code_refusal program) (first_method program n) 0 c.methods) 0 program in
    ap first_fault (six (named_again [] 0 program) (each members_again 0 program) (each (parents_found program) 0 program) (each (cycle_found program) 0 program) (main_found program) (each (methods_found program) 0 program))
    ∙ join _ _ _ _ named (join _ _ _ _ members (join _ _ _ _ parents (join _ _ _ _ cycles (join _ _ _ _ main methods))))

-- ---- nothing is told of a program that loads

none_told : (fs : List Finding) → first_fault fs ≡ None → fs ≡ []
none_told [] e = refl
none_told (f ∷ fs) e = cc

no_reason : (r : Option Refusal) → why r ≡ None → r ≡ None
no_reason None e = refl
no_reason (Some r) e = cc

-- nothing is told exactly where the program loads
pub nothing_is_told : (program : List ClassParts) → refusal program ≡ None → findings program ≡ []
nothing_is_told program loads = none_told (findings program) (first_is_why program ∙ ap why loads)

pub loads_unless_told : (program : List ClassParts) → findings program ≡ [] → refusal program ≡ None
loads_unless_told program none = no_reason (refusal program) (sym (first_is_why program) ∙ ap first_fault none)
