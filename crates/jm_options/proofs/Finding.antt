-- What the matches of a subcommand hold, from what the calls of clap say of them.
use Rattle.std.proofs.Common.{◌≡◌, true, false, find, [], ◌∷◌, inl, inr, ℕ, ◌<◌, ◌≤◌, ◌^◌, List, Option, Some, None, Result, Ok, Err, refl, sym, ap, ◌∙◌, subst, codes, arith, ap₂}
use Rattle.std.proofs.lemmas.Slice.Eq.{bytes_eq-Decides}
use Rattle.std.specs.Prelude.{option_map, unwrap_or, IfSome, MatchOption, MatchResult, IsOkAnd, IsErrAnd}
use Rattle.std.specs.Str.{bytes_eq}
use Rattle.std.specs.String.{string_bytes}
use Rattle.std.specs.Str.Parse.{ParsesUnsigned, digits_value, without_leading_plus}
use Rattle.std.specs.Box.{box_value}
use Rattle.clap.specs.Words.{ReadsOne, Row, found_of, rows_of, Text, all_of, first_of, fault_of, is_simple, is_simple_and_free, HasKind, Kinds, kind_of, subcommand_of, subcommand_name_of, subcommand_rows_of}
use Rattle.clap.specs.declared.parser.matches.ArgMatches.{ArgMatches}
use Rattle.clap.specs.declared.parser.matches.ArgMatches.TheViews.{out-ArgMatches, out-SubCommand}
use Rattle.clap.specs.declared.error.Error.{Error}
use Rattle.clap.specs.declared.error.kind.ErrorKind.TheVariants as kind
use Rattle.jm_options.specs.Asked.{SpellsNumber, HoldsNumber, MayHoldNumber, HoldsSerialRun, HoldsRun, HoldsStress, stress_word, HoldsReplay, HoldsExplore, HoldsCheck, HoldsTrace, HoldsFilm, HoldsAssemble, HoldsDisassemble, HoldsDebug, HoldsAsked, HoldsEntry, HoldsExplain, HoldsNamed, Holds, Subcommand, Finds, AnswersTo, name_of}
use Rattle.jm_options.specs.CommandLine.{jm}
use Rattle.jm_options.specs.declared.request.Options.{Options}
use Rattle.jm_options.specs.declared.request.Options.TheVariants.{Run, Replay, Explore, Check, Why, Trace, Film, Assemble, Disassemble, Debug, Explain, Version}
use Rattle.jm_options.specs.declared.request.RunOptions.{RunOptions}
use Rattle.jm_options.specs.declared.request.Stress.{Stress}
use Rattle.jm_options.specs.declared.request.Stress.TheVariants.{Minor, Full}
use Rattle.jm_options.specs.declared.request.ReplayOptions.{ReplayOptions}
use Rattle.jm_options.specs.declared.request.ExploreOptions.{ExploreOptions}
use Rattle.jm_options.specs.declared.request.CheckOptions.{CheckOptions}
use Rattle.jm_options.specs.declared.request.SerialRun.{SerialRun}
use Rattle.jm_options.specs.declared.request.TraceOptions.{TraceOptions}
use Rattle.jm_options.specs.declared.request.FilmOptions.{FilmOptions}
use Rattle.jm_options.specs.declared.request.AssembleOptions.{AssembleOptions}
use Rattle.jm_options.specs.declared.request.DisassembleOptions.{DisassembleOptions}
use Rattle.jm_options.specs.declared.request.DebugOptions.{DebugOptions}
use Rattle.jm_options.specs.declared.request.ExplainOptions.{ExplainOptions}
use Rattle.jm_options.specs.declared.fault.UsageFault.{UsageFault}
use Rattle.jm_explain.specs.Asked.{Asks as AsksFor, is_asked}
use Rattle.jm_explain.specs.declared.search.Asked.{Asked}
use Rattle.jm_explain.specs.declared.search.Asked.TheVariants.{Number, Name}
use Rattle.jm_explain.specs.Items.{Item, is_named, is_of, item}
use Rattle.jm_explain.specs.Table.{items}
use Rattle.jm_explain.specs.declared.entry.Entry.{Entry}
use Rattle.jm_options.specs.declared.fault.UsageFault.TheVariants.{Usage, OutOfMemory}

-- ---- what is found for a request

pub none_found : {A : Type 0} (IsHeld : A → Type 0) (fault : UsageFault) → ((o : A) → IsHeld o → ⊥) → Finds {A = A} (Err fault) IsHeld
none_found IsHeld (Usage text) none = none
none_found IsHeld OutOfMemory none = tt

-- where a part of a request is held in no form, the request is not
none_of_part : {A B : Type 0} (IsPart : B → Type 0) (IsHeld : A → Type 0) (fault : UsageFault) → Finds {A = B} (Err fault) IsPart
    → (part : A → B) → ((o : A) → IsHeld o → IsPart (part o)) → Finds {A = A} (Err fault) IsHeld
none_of_part IsPart IsHeld (Usage text) none part held = λ o is. none (part o) (held o is)
none_of_part IsPart IsHeld OutOfMemory none part held = tt

-- what a `?` gives back there
pub lacks_part : {A B : Type 0} (IsPart : B → Type 0) (IsHeld : A → Type 0) (r : Result A UsageFault) (fault : UsageFault) → IsErrAnd r (λ f. f ≡ fault)
    → Finds {A = B} (Err fault) IsPart → (part : A → B) → ((o : A) → IsHeld o → IsPart (part o)) → Finds r IsHeld
lacks_part IsPart IsHeld (Ok o) fault same none part held = absurd same
lacks_part IsPart IsHeld (Err f) fault same none part held = rw same (none_of_part IsPart IsHeld fault none part held)

-- ---- a number

-- what reads a text reads a number of 32 bits
abbrev Reads32 : {E : Type 0} → (List ℕ → Result ℕ E → Type 0) → Type 0
Reads32 {E} G = (u : List ℕ) (x : Result ℕ E) → G u x → ParsesUnsigned 32 10 u x

pub number_there : {E : Type 0} (G : List ℕ → Result ℕ E → Type 0) → Reads32 G → (text : Option Text) (n : ℕ) → (text ≡ None → Some n ≡ None)
    → ((t : Text) → text ≡ Some t → ReadsOne G t (Some n)) → (t : Text) × (text ≡ Some t) × SpellsNumber t n
number_there G only None n none reads = absurd (let no = none refl in cc)
number_there G only (Some t) n none reads =
    let parsed = only t (Ok n) (reads t refl) in
    (t, refl, record { digits = parsed.0.0; value = sym parsed.1 })

pub no_number : {E : Type 0} (G : List ℕ → Result ℕ E → Type 0) → Reads32 G → (t : Text) (n : ℕ) → ReadsOne G t None → SpellsNumber t n → n < 2 ^ 32 → ⊥
no_number G only t n reads spells small =
    let value = spells.value in
    let fits : digits_value 10 (without_leading_plus t) < 2 ^ 32 = omega arith in
    only t (Err reads.0) reads.1 (spells.digits, fits)

pub one_number : (t u : Text) (n m : ℕ) → Some t ≡ Some u → SpellsNumber t n → SpellsNumber u m → n ≡ m
one_number t u n m same first second =
    let text : t ≡ u = cc in
    let a = first.value in
    let b = second.value in
    sym a ∙ ap (λ (x : Text). digits_value 10 (without_leading_plus x)) text ∙ b

-- of a name one number is held
pub same_number : (name : Text) (low high : ℕ) (rows : List Row) (n m : ℕ) → HoldsNumber name low high rows n → HoldsNumber name low high rows m → n ≡ m
same_number name low high rows n m first second = one_number first.text second.text n m (sym first.given ∙ second.given) first.spelled second.spelled

-- a text is there, and no number within the limits
pub no_given : (name : Text) (low high : ℕ) (rows : List Row) (t : Text) → Some t ≡ first_of name rows → ((n : ℕ) → HoldsNumber name low high rows n → ⊥)
    → (o : Option ℕ) → MayHoldNumber name low high rows o → ⊥
no_given name low high rows t given none None holds = let is = given ∙ holds in cc
no_given name low high rows t given none (Some n) holds = none n holds

-- a number that is given is within the limits
pub given_least : (name : Text) (low high : ℕ) (rows : List Row) (o : Option ℕ) → MayHoldNumber name low high rows o → IfSome o (λ n. low ≤ n)
given_least name low high rows None holds = tt
given_least name low high rows (Some n) holds = holds.at_least

pub given_most : (name : Text) (low high : ℕ) (rows : List Row) (o : Option ℕ) → MayHoldNumber name low high rows o → IfSome o (λ n. n ≤ high)
given_most name low high rows None holds = tt
given_most name low high rows (Some n) holds = holds.at_most

-- ---- a text

same_text : (t u : Text) → Some t ≡ Some u → t ≡ u
same_text t u same = ap (λ (o : Option Text). unwrap_or o []) same

pub no_text : (name : Text) (rows : List Row) (t : Text) → None ≡ first_of name rows → first_of name rows ≡ Some t → ⊥
no_text name rows t none some = let is = none ∙ some in cc

pub no_files : (rows : List Row) (files : List Text) → None ≡ all_of (codes "file") rows → all_of (codes "file") rows ≡ Some files → ⊥
no_files rows files none some = let is = none ∙ some in cc

-- ---- the collections between the events of a run

pub other_word : (word : Text) → (word ≡ codes "minor" → ⊥) → (word ≡ codes "full" → ⊥) → (s : Stress) → word ≡ stress_word s → ⊥
other_word word minor full Minor same = minor same
other_word word minor full Full same = full same

-- a word is there, and it is that of no kind
pub no_kind : (rows : List Row) (workers : ℕ) (t : Text) → Some t ≡ first_of (codes "stress") rows → ((s : Stress) → t ≡ stress_word s → ⊥)
    → (o : Option Stress) → HoldsStress rows workers o → ⊥
no_kind rows workers t given none None holds = let is = given ∙ holds in cc
no_kind rows workers t given none (Some s) holds = none s (same_text t (stress_word s) (given ∙ holds.0))

-- a word is there, and several workers
pub not_alone : (rows : List Row) (workers : ℕ) (t : Text) → Some t ≡ first_of (codes "stress") rows → (workers ≡ 1 → ⊥)
    → (o : Option Stress) → HoldsStress rows workers o → ⊥
not_alone rows workers t given several None holds = let is = given ∙ holds in cc
not_alone rows workers t given several (Some s) holds = several holds.1

-- what is wrong with the collections is wrong with the run
pub lacks_stress : (rows : List Row) (workers : ℕ) (r : Result RunOptions UsageFault) (fault : UsageFault) → IsErrAnd r (λ f. f ≡ fault)
    → HoldsNumber (codes "workers") 1 16 rows workers → Finds {A = Option Stress} (Err fault) (HoldsStress rows workers) → Finds r (HoldsRun rows)
lacks_stress rows workers r fault same there none = lacks_part (HoldsStress rows workers) (HoldsRun rows) r fault same none (λ o. o.stress)
    (λ o holds. subst (λ n. HoldsStress rows n o.stress) (same_number (codes "workers") 1 16 rows o.workers workers holds.workers there) holds.stress)

-- ---- one word for both files of an assembly

pub one_word : (rows : List Row) (input output : Text) → Some input ≡ first_of (codes "input") rows → Some output ≡ first_of (codes "output") rows
    → bytes_eq input output ≡ true → (o : AssembleOptions) → HoldsAssemble rows o → ⊥
one_word rows input output first second same o holds =
    let a : input ≡ string_bytes o.input = same_text input (string_bytes o.input) (first ∙ holds.input) in
    let b : output ≡ string_bytes o.output = same_text output (string_bytes o.output) (second ∙ holds.output) in
    let apart : bytes_eq input output ≡ false = ap₂ bytes_eq a b ∙ holds.apart in
    cc

-- ---- what is to be explained

-- of one word one thing is said
same_found : (word : Text) (a b : Asked) → AsksFor word a → AsksFor word b → find (is_asked a) items ≡ find (is_asked b) items
same_found word (Number n) (Number m) first second = ap (λ (k : ℕ). find (is_of k) items) (first.1 ∙ sym second.1)
same_found word (Number n) (Name b) first second = absurd (second.0 first.0)
same_found word (Name a) (Number m) first second = absurd (first.0 second.0)
same_found word (Name a) (Name b) first second = ap (λ (t : Text). find (is_named t) items) (first.1 ∙ sym second.1)

pub no_entry : (rows : List Row) (t : Text) (a : Asked) → Some t ≡ first_of (codes "number") rows → AsksFor t a → None ≡ find (is_asked a) items → (i : Item) → HoldsEntry rows i → ⊥
no_entry rows t a given asks none i holds =
    let word : t ≡ holds.word = same_text t holds.word (given ∙ holds.given) in
    let is : None ≡ Some i = none ∙ same_found holds.word a holds.asked (subst (λ (w : Text). AsksFor w a) word asks) holds.asks ∙ holds.said in
    cc

asked_or_not : (rows : List Row) (t : Text) (asked : Option Entry) → Some t ≡ first_of (codes "number") rows → ((i : Item) → HoldsEntry rows i → ⊥)
    → HoldsAsked rows (option_map item asked) → ⊥
asked_or_not rows t None given none holds = let is = given ∙ holds in cc
asked_or_not rows t (Some e) given none holds = none (item e) holds

pub none_explained : (rows : List Row) (t : Text) → Some t ≡ first_of (codes "number") rows → ((i : Item) → HoldsEntry rows i → ⊥)
    → (o : ExplainOptions) → HoldsExplain rows o → ⊥
none_explained rows t given none o holds = asked_or_not rows t o.entry given none holds.asked

-- ---- the subcommand

firsts : {A : Type 0} (f : A → Text) (g : A → List Row) (o : Option A) → option_map f o ≡ option_map (λ (p : Subcommand). p.0) (option_map (λ a. (f a, g a)) o)
firsts f g None = refl
firsts f g (Some a) = refl

name_of_rows : (m : ArgMatches) → subcommand_name_of m ≡ option_map (λ (p : Subcommand). p.0) (subcommand_rows_of m)
name_of_rows m = firsts (λ b. (out-SubCommand (box_value b)).name.now) (λ b. rows_of (found_of (out-SubCommand (box_value b)).matches)) (out-ArgMatches m).subcommand

is_pair : (s : Option Subcommand) (name : Text) (rows : List Row) → option_map (λ (p : Subcommand). p.0) s ≡ Some name → option_map (λ (p : Subcommand). p.1) s ≡ Some rows → s ≡ Some (name, rows)
is_pair None name rows first second = cc
is_pair (Some p) name rows first second =
    let a : p.0 ≡ name = cc in
    let b : p.1 ≡ rows = cc in
    ap₂ (λ (x : Text) (y : List Row). Some (x, y)) a b

-- the subcommand of a name, with its matches
pub subcommand_is : (m : ArgMatches) (name : Text) (rows : List Row) → subcommand_name_of m ≡ Some name → option_map (λ (p : Subcommand). p.1) (subcommand_rows_of m) ≡ Some rows
    → subcommand_rows_of m ≡ Some (name, rows)
subcommand_is m name rows named is = is_pair (subcommand_rows_of m) name rows (sym (name_of_rows m) ∙ named) is

-- what is found by the name of the subcommand and its matches is what it asks for
pub finds_met : (s : Option Subcommand) (name : Text) (rows : List Row) (found : Result Options UsageFault) → s ≡ Some (name, rows) → Finds found (HoldsNamed name rows)
    → Finds found (Holds s)
finds_met s name rows (Ok o) is holds = record { used = (name, rows); met = is; named = holds }
finds_met s name rows (Err (Usage text)) is none = λ o holds.
    let same : holds.used ≡ (name, rows) = ap (λ (x : Option Subcommand). unwrap_or x (name, rows)) (sym holds.met ∙ is) in
    none o (subst (λ (p : Subcommand). HoldsNamed p.0 p.1 o) same holds.named)
finds_met s name rows (Err OutOfMemory) is none = tt

pub none_met : (m : ArgMatches) → None ≡ subcommand_name_of m → (o : Options) → Holds (subcommand_rows_of m) o → ⊥
none_met m none o holds = let is = none ∙ name_of_rows m ∙ ap (option_map (λ (p : Subcommand). p.0)) holds.met in cc

-- where a subcommand has one of two names, and they differ
apart : (a b : Text) → bytes_eq a b ≡ false → a ≡ b → ⊥
apart a b differ same = let is : bytes_eq a b ≡ true = (bytes_eq-Decides a b).1 same in cc

-- what is found in the matches is what is found for the subcommand
finds_named : {A : Type 0} (IsHeld : A → Type 0) (asks : A → Options) (name : Text) (rows : List Row) (r : Result A UsageFault) (found : Result Options UsageFault)
    → ((o : A) → IsHeld o → HoldsNamed name rows (asks o)) → (((o : A) → IsHeld o → ⊥) → (o : Options) → HoldsNamed name rows o → ⊥)
    → Finds r IsHeld → MatchResult r (λ o. IsOkAnd found (λ given. given ≡ asks o)) (λ fault. found ≡ Err fault) → Finds found (HoldsNamed name rows)
finds_named IsHeld asks name rows (Ok o) (Ok given) there none holds same = rw same (there o holds)
finds_named IsHeld asks name rows (Ok o) (Err fault) there none holds same = absurd same
finds_named IsHeld asks name rows (Err (Usage text)) found there none holds same = rw same (none holds)
finds_named IsHeld asks name rows (Err OutOfMemory) found there none holds same = rw same tt

no_run : (name : Text) (rows : List Row) → name ≡ codes "run" → ((o : RunOptions) → HoldsRun rows o → ⊥) → (o : Options) → HoldsNamed name rows o → ⊥
no_run name rows is none (Run o) holds = none o holds.held
no_run name rows is none other holds = apart (codes "run") (name_of other) refl (sym is ∙ holds.named)

pub finds_run : (name : Text) (rows : List Row) (r : Result RunOptions UsageFault) (found : Result Options UsageFault) → name ≡ codes "run" → Finds r (HoldsRun rows)
    → MatchResult r (λ o. IsOkAnd found (λ given. given ≡ Run o)) (λ fault. found ≡ Err fault) → Finds found (HoldsNamed name rows)
finds_run name rows r found is = finds_named (HoldsRun rows) Run name rows r found (λ o holds. record { named = is; held = holds }) (no_run name rows is)

no_replay : (name : Text) (rows : List Row) → name ≡ codes "replay" → ((o : ReplayOptions) → HoldsReplay rows o → ⊥) → (o : Options) → HoldsNamed name rows o → ⊥
no_replay name rows is none (Replay o) holds = none o holds.held
no_replay name rows is none other holds = apart (codes "replay") (name_of other) refl (sym is ∙ holds.named)

pub finds_replay : (name : Text) (rows : List Row) (r : Result ReplayOptions UsageFault) (found : Result Options UsageFault) → name ≡ codes "replay" → Finds r (HoldsReplay rows)
    → MatchResult r (λ o. IsOkAnd found (λ given. given ≡ Replay o)) (λ fault. found ≡ Err fault) → Finds found (HoldsNamed name rows)
finds_replay name rows r found is = finds_named (HoldsReplay rows) Replay name rows r found (λ o holds. record { named = is; held = holds }) (no_replay name rows is)

no_exploration : (name : Text) (rows : List Row) → name ≡ codes "explore" → ((o : ExploreOptions) → HoldsExplore rows o → ⊥) → (o : Options) → HoldsNamed name rows o → ⊥
no_exploration name rows is none (Explore o) holds = none o holds.held
no_exploration name rows is none other holds = apart (codes "explore") (name_of other) refl (sym is ∙ holds.named)

pub finds_exploration : (name : Text) (rows : List Row) (r : Result ExploreOptions UsageFault) (found : Result Options UsageFault) → name ≡ codes "explore" → Finds r (HoldsExplore rows)
    → MatchResult r (λ o. IsOkAnd found (λ given. given ≡ Explore o)) (λ fault. found ≡ Err fault) → Finds found (HoldsNamed name rows)
finds_exploration name rows r found is = finds_named (HoldsExplore rows) Explore name rows r found (λ o holds. record { named = is; held = holds }) (no_exploration name rows is)

no_checking : (name : Text) (rows : List Row) → name ≡ codes "check" → ((o : CheckOptions) → HoldsCheck rows o → ⊥) → (o : Options) → HoldsNamed name rows o → ⊥
no_checking name rows is none (Check o) holds = none o holds.held
no_checking name rows is none other holds = apart (codes "check") (name_of other) refl (sym is ∙ holds.named)

pub finds_checking : (name : Text) (rows : List Row) (r : Result CheckOptions UsageFault) (found : Result Options UsageFault) → name ≡ codes "check" → Finds r (HoldsCheck rows)
    → MatchResult r (λ o. IsOkAnd found (λ given. given ≡ Check o)) (λ fault. found ≡ Err fault) → Finds found (HoldsNamed name rows)
finds_checking name rows r found is = finds_named (HoldsCheck rows) Check name rows r found (λ o holds. record { named = is; held = holds }) (no_checking name rows is)

no_reason : (name : Text) (rows : List Row) → name ≡ codes "why" → ((o : SerialRun) → HoldsSerialRun 10000000 rows o → ⊥) → (o : Options) → HoldsNamed name rows o → ⊥
no_reason name rows is none (Why o) holds = none o holds.held
no_reason name rows is none other holds = apart (codes "why") (name_of other) refl (sym is ∙ holds.named)

pub finds_reason : (name : Text) (rows : List Row) (r : Result SerialRun UsageFault) (found : Result Options UsageFault) → name ≡ codes "why" → Finds r (HoldsSerialRun 10000000 rows)
    → MatchResult r (λ o. IsOkAnd found (λ given. given ≡ Why o)) (λ fault. found ≡ Err fault) → Finds found (HoldsNamed name rows)
finds_reason name rows r found is = finds_named (HoldsSerialRun 10000000 rows) Why name rows r found (λ o holds. record { named = is; held = holds }) (no_reason name rows is)

no_trace : (name : Text) (rows : List Row) → name ≡ codes "trace" → ((o : TraceOptions) → HoldsTrace rows o → ⊥) → (o : Options) → HoldsNamed name rows o → ⊥
no_trace name rows is none (Trace o) holds = none o holds.held
no_trace name rows is none other holds = apart (codes "trace") (name_of other) refl (sym is ∙ holds.named)

pub finds_trace : (name : Text) (rows : List Row) (r : Result TraceOptions UsageFault) (found : Result Options UsageFault) → name ≡ codes "trace" → Finds r (HoldsTrace rows)
    → MatchResult r (λ o. IsOkAnd found (λ given. given ≡ Trace o)) (λ fault. found ≡ Err fault) → Finds found (HoldsNamed name rows)
finds_trace name rows r found is = finds_named (HoldsTrace rows) Trace name rows r found (λ o holds. record { named = is; held = holds }) (no_trace name rows is)

no_film : (name : Text) (rows : List Row) → name ≡ codes "film" → ((o : FilmOptions) → HoldsFilm rows o → ⊥) → (o : Options) → HoldsNamed name rows o → ⊥
no_film name rows is none (Film o) holds = none o holds.held
no_film name rows is none other holds = apart (codes "film") (name_of other) refl (sym is ∙ holds.named)

pub finds_film : (name : Text) (rows : List Row) (r : Result FilmOptions UsageFault) (found : Result Options UsageFault) → name ≡ codes "film" → Finds r (HoldsFilm rows)
    → MatchResult r (λ o. IsOkAnd found (λ given. given ≡ Film o)) (λ fault. found ≡ Err fault) → Finds found (HoldsNamed name rows)
finds_film name rows r found is = finds_named (HoldsFilm rows) Film name rows r found (λ o holds. record { named = is; held = holds }) (no_film name rows is)

no_assembly : (name : Text) (rows : List Row) → name ≡ codes "asm" → ((o : AssembleOptions) → HoldsAssemble rows o → ⊥) → (o : Options) → HoldsNamed name rows o → ⊥
no_assembly name rows is none (Assemble o) holds = none o holds.held
no_assembly name rows is none other holds = apart (codes "asm") (name_of other) refl (sym is ∙ holds.named)

pub finds_assembly : (name : Text) (rows : List Row) (r : Result AssembleOptions UsageFault) (found : Result Options UsageFault) → name ≡ codes "asm" → Finds r (HoldsAssemble rows)
    → MatchResult r (λ o. IsOkAnd found (λ given. given ≡ Assemble o)) (λ fault. found ≡ Err fault) → Finds found (HoldsNamed name rows)
finds_assembly name rows r found is = finds_named (HoldsAssemble rows) Assemble name rows r found (λ o holds. record { named = is; held = holds }) (no_assembly name rows is)

no_disassembly : (name : Text) (rows : List Row) → name ≡ codes "dis" → ((o : DisassembleOptions) → HoldsDisassemble rows o → ⊥) → (o : Options) → HoldsNamed name rows o → ⊥
no_disassembly name rows is none (Disassemble o) holds = none o holds.held
no_disassembly name rows is none other holds = apart (codes "dis") (name_of other) refl (sym is ∙ holds.named)

pub finds_disassembly : (name : Text) (rows : List Row) (r : Result DisassembleOptions UsageFault) (found : Result Options UsageFault) → name ≡ codes "dis" → Finds r (HoldsDisassemble rows)
    → MatchResult r (λ o. IsOkAnd found (λ given. given ≡ Disassemble o)) (λ fault. found ≡ Err fault) → Finds found (HoldsNamed name rows)
finds_disassembly name rows r found is = finds_named (HoldsDisassemble rows) Disassemble name rows r found (λ o holds. record { named = is; held = holds }) (no_disassembly name rows is)

no_debugger : (name : Text) (rows : List Row) → name ≡ codes "debug" → ((o : DebugOptions) → HoldsDebug rows o → ⊥) → (o : Options) → HoldsNamed name rows o → ⊥
no_debugger name rows is none (Debug o) holds = none o holds.held
no_debugger name rows is none other holds = apart (codes "debug") (name_of other) refl (sym is ∙ holds.named)

pub finds_debugger : (name : Text) (rows : List Row) (r : Result DebugOptions UsageFault) (found : Result Options UsageFault) → name ≡ codes "debug" → Finds r (HoldsDebug rows)
    → MatchResult r (λ o. IsOkAnd found (λ given. given ≡ Debug o)) (λ fault. found ≡ Err fault) → Finds found (HoldsNamed name rows)
finds_debugger name rows r found is = finds_named (HoldsDebug rows) Debug name rows r found (λ o holds. record { named = is; held = holds }) (no_debugger name rows is)

no_explanation : (name : Text) (rows : List Row) → name ≡ codes "explain" → ((o : ExplainOptions) → HoldsExplain rows o → ⊥) → (o : Options) → HoldsNamed name rows o → ⊥
no_explanation name rows is none (Explain o) holds = none o holds.held
no_explanation name rows is none other holds = apart (codes "explain") (name_of other) refl (sym is ∙ holds.named)

pub finds_explanation : (name : Text) (rows : List Row) (r : Result ExplainOptions UsageFault) (found : Result Options UsageFault) → name ≡ codes "explain" → Finds r (HoldsExplain rows)
    → MatchResult r (λ o. IsOkAnd found (λ given. given ≡ Explain o)) (λ fault. found ≡ Err fault) → Finds found (HoldsNamed name rows)
finds_explanation name rows r found is = finds_named (HoldsExplain rows) Explain name rows r found (λ o holds. record { named = is; held = holds }) (no_explanation name rows is)

pub other_name : (name : Text) (rows : List Row) → (name ≡ codes "run" → ⊥) → (name ≡ codes "replay" → ⊥) → (name ≡ codes "explore" → ⊥) → (name ≡ codes "check" → ⊥) → (name ≡ codes "why" → ⊥) → (name ≡ codes "trace" → ⊥) → (name ≡ codes "film" → ⊥) → (name ≡ codes "asm" → ⊥)
    → (name ≡ codes "dis" → ⊥) → (name ≡ codes "debug" → ⊥) → (name ≡ codes "explain" → ⊥) → (name ≡ codes "version" → ⊥)
    → (o : Options) → HoldsNamed name rows o → ⊥
other_name name rows run replay explore check why trace film asm dis debug explain version (Run o) holds = run holds.named
other_name name rows run replay explore check why trace film asm dis debug explain version (Replay o) holds = replay holds.named
other_name name rows run replay explore check why trace film asm dis debug explain version (Explore o) holds = explore holds.named
other_name name rows run replay explore check why trace film asm dis debug explain version (Check o) holds = check holds.named
other_name name rows run replay explore check why trace film asm dis debug explain version (Why o) holds = why holds.named
other_name name rows run replay explore check why trace film asm dis debug explain version (Trace o) holds = trace holds.named
other_name name rows run replay explore check why trace film asm dis debug explain version (Film o) holds = film holds.named
other_name name rows run replay explore check why trace film asm dis debug explain version (Assemble o) holds = asm holds.named
other_name name rows run replay explore check why trace film asm dis debug explain version (Disassemble o) holds = dis holds.named
other_name name rows run replay explore check why trace film asm dis debug explain version (Debug o) holds = debug holds.named
other_name name rows run replay explore check why trace film asm dis debug explain version (Explain o) holds = explain holds.named
other_name name rows run replay explore check why trace film asm dis debug explain version Version holds = version holds.named

-- ---- the words

pub answered : (words : List Text) (r : Result Options UsageFault) → fault_of jm words ≡ [] → Finds r (Holds (subcommand_of jm words)) → AnswersTo words r
answered words (Ok o) taken found = record { taken = taken; held = found }
answered words (Err (Usage text)) taken none = λ o asks. none o asks.held
answered words (Err OutOfMemory) taken none = tt

pub not_taken : (words : List Text) (fault : UsageFault) → (fault_of jm words ≡ [] → fault ≡ OutOfMemory) → AnswersTo words (Err fault)
not_taken words (Usage text) memory = λ o asks. let is = memory asks.taken in cc
not_taken words OutOfMemory memory = tt

-- an error of no kind comes for want of memory
pub for_memory : (kinds : Kinds) (e : Error) → kinds ≡ [] → HasKind kinds e → kind_of e ≡ kind.OutOfMemory
for_memory [] e none has = elim has [ inl memory ↦ memory | inr never ↦ absurd never ]
for_memory (k ∷ kinds) e none has = cc

pub is_simple_jm : is_simple jm ≡ true
unfolding jm
is_simple_jm = refl

pub is_free_jm : is_simple_and_free jm ≡ true
unfolding jm
is_free_jm = refl
