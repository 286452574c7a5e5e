-- Names of classes by number.
use Rattle.std.proofs.Common.{◌≡◌, ℕ, zero, suc, ◌+◌, ◌-◌, ◌<◌, ◌≤◌, List, [], ◌∷◌, ◌++◌, Some, None, sym, ap, ◌∙◌, subst, length, get_or, arith}
use Rattle.std.specs.Prelude.{map, slice_get, option_map, unwrap_or}
use Rattle.std.proofs.lemmas.Option.{slice_get-map, slice_get-get_or, slice_get_past}
use Rattle.std.proofs.lemmas.List.{length-map}
use Rattle.jm_program.specs.declared.class.ClassParts.{ClassParts}
use Rattle.jm_program.proofs.Sequences.{got_within}
use Rattle.jm_builtins.specs.declared.built_in.BuiltIn.{BuiltIn}
use Rattle.jm_builtins.specs.List.{the_builtins}
use Rattle.jm_linked.specs.Links.{class_name_of}

pub in_second : {A : Type 0} (xs ys : List A) (n k : ℕ) → n ≡ length xs + k → slice_get (xs ++ ys) n ≡ slice_get ys k
in_second [] ys n k e = let same : n ≡ k = omega arith in ap (slice_get ys) same
in_second (x ∷ xs) ys zero k e = absurd (omega arith)
in_second (x ∷ xs) ys (suc n) k e = in_second xs ys n k (omega arith)

-- of a built-in class
pub built_in_name : (program : List ClassParts) (bs : List BuiltIn) (n : ℕ) (b : BuiltIn) → bs ≡ the_builtins → n < length bs → b ≡ get_or bs n b → b.name ≡ class_name_of program n
unfolding class_name_of
built_in_name program bs n b e l g =
    let here : slice_get the_builtins n ≡ Some b = ap (λ (xs : List BuiltIn). slice_get xs n) (sym e) ∙ slice_get-get_or bs n b l ∙ ap Some (sym g) in
    let within : n < length (map (λ x. x.name) the_builtins) = subst (λ k. n < k) (ap length e ∙ sym (length-map the_builtins (λ (x : BuiltIn). x.name))) l in
    sym (ap (λ o. unwrap_or o []) (got_within (map (λ (x : BuiltIn). x.name) the_builtins) (map (λ (x : ClassParts). x.name) program) n within ∙ slice_get-map (λ (x : BuiltIn). x.name) the_builtins n ∙ ap (option_map (λ (x : BuiltIn). x.name)) here))

after_built_ins : (program : List ClassParts) (n k : ℕ) → n ≡ length the_builtins + k → class_name_of program n ≡ unwrap_or (option_map (λ (x : ClassParts). x.name) (slice_get program k)) []
unfolding class_name_of
after_built_ins program n k e =
    ap (λ o. unwrap_or o []) (in_second (map (λ (x : BuiltIn). x.name) the_builtins) (map (λ (x : ClassParts). x.name) program) n k (e ∙ ap (λ m. m + k) (sym (length-map the_builtins (λ (x : BuiltIn). x.name)))) ∙ slice_get-map (λ (x : ClassParts). x.name) program k)

-- of a class of the program
pub program_name : (program them : List ClassParts) (bs : List BuiltIn) (n : ℕ) (c : ClassParts) → bs ≡ the_builtins → them ≡ program → length bs ≤ n → n - length bs < length them → c ≡ get_or them (n - length bs) c → c.name ≡ class_name_of program n
program_name program them bs n c e same l b g =
    let many : length bs ≡ length the_builtins = ap length e in
    let here : slice_get program (n - length bs) ≡ Some c = ap (λ (xs : List ClassParts). slice_get xs (n - length bs)) (sym same) ∙ slice_get-get_or them (n - length bs) c b ∙ ap Some (sym g) in
    sym (after_built_ins program n (n - length bs) (omega arith) ∙ ap (λ x. unwrap_or (option_map (λ (y : ClassParts). y.name) x) []) here)

-- of no class
pub no_name : (program them : List ClassParts) (bs : List BuiltIn) (n : ℕ) → bs ≡ the_builtins → them ≡ program → length bs ≤ n → length them ≤ n - length bs → [] ≡ class_name_of program n
no_name program them bs n e same l b =
    let many : length bs ≡ length the_builtins = ap length e in
    let past : slice_get program (n - length bs) ≡ None = ap (λ (xs : List ClassParts). slice_get xs (n - length bs)) (sym same) ∙ slice_get_past them (n - length bs) b in
    sym (after_built_ins program n (n - length bs) (omega arith) ∙ ap (λ x. unwrap_or (option_map (λ (y : ClassParts). y.name) x) []) past)
