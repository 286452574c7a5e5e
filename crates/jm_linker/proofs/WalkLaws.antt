-- One more turn of a walk up.
use Rattle.std.proofs.Common.{◌≡◌, ◌≢◌, ℕ, zero, suc, ◌+◌, ◌-◌, ◌<◌, Bool, true, false, List, [], ◌∷◌, ◌++◌, Option, Some, None, refl, sym, ap, subst, ◌∙◌, ◌≤◌, cond, append_assoc, nat_eq, arith}
use Rattle.std.specs.Prelude.{option_to_list}
use Rattle.std.proofs.lemmas.Bool.Decides.{nat_tests}
use Rattle.std.specs.BTreeMap.{BTreeMap, get}
use Rattle.std.specs.Cmp.{unsigned_tied}
use Rattle.std.specs.Map.{lookup}
use Rattle.std.specs.Ordering.{is_eq, nat_cmp}
use Rattle.jm_program.specs.declared.class.ClassParts.{ClassParts}
use Rattle.jm_world.specs.Classes.{class_named, height}
use Rattle.jm_world.specs.Hierarchy.{up_from, chain}
use Rattle.jm_world.specs.Resolution.{first_found, interfaces_first}
use Rattle.jm_linked.specs.Links.{NamesClass}
use Rattle.jm_linker.specs.declared.walk.Pending.{Pending}
use Rattle.jm_linker.specs.Walks.{AllVain, Gives, Says, AllSay, above_from, above_any, or_found, found_pending, first_along}

or_none : (a : Option ClassParts) → or_found a None ≡ a
or_none None = refl
or_none (Some c) = refl

or_assoc : (a b c : Option ClassParts) → or_found (or_found a b) c ≡ or_found a (or_found b c)
or_assoc None b c = refl
or_assoc (Some a) b c = refl

first_found-cons : (f : List ℕ → Option ClassParts) (x : List ℕ) (xs : List (List ℕ)) → first_found f (x ∷ xs) ≡ or_found (f x) (first_found f xs)
first_found-cons f x xs = by (f x)
  where
    by : (o : Option ClassParts) → (elim o as (λ _. Option ClassParts) [ Some a ↦ Some a | None ↦ first_found f xs ]) ≡ or_found o (first_found f xs)
    by None = refl
    by (Some c) = refl

first_found-append : (f : List ℕ → Option ClassParts) (xs ys : List (List ℕ)) → first_found f (xs ++ ys) ≡ or_found (first_found f xs) (first_found f ys)
first_found-append f [] ys = refl
first_found-append f (x ∷ xs) ys =
    first_found-cons f x (xs ++ ys) ∙ ap (or_found (f x)) (first_found-append f xs ys) ∙ sym (or_assoc (f x) (first_found f xs) (first_found f ys))
    ∙ ap (λ o. or_found o (first_found f ys)) (sym (first_found-cons f x xs))

any_cons : (test : ClassParts → Bool) (d : ℕ) (program : List ClassParts) (x : List ℕ) (xs : List (List ℕ)) → above_any test d program (x ∷ xs) ≡ or_found (above_from test d program x) (above_any test d program xs)
unfolding above_any
any_cons test d program x xs = first_found-cons (above_from test d program) x xs

any_append : (test : ClassParts → Bool) (d : ℕ) (program : List ClassParts) (xs ys : List (List ℕ)) → above_any test d program (xs ++ ys) ≡ or_found (above_any test d program xs) (above_any test d program ys)
unfolding above_any
any_append test d program xs ys = first_found-append (above_from test d program) xs ys

any_nil : (test : ClassParts → Bool) (d : ℕ) (program : List ClassParts) → above_any test d program [] ≡ None
unfolding above_any
any_nil test d program = refl

any_zero : (test : ClassParts → Bool) (program : List ClassParts) (xs : List (List ℕ)) → above_any test zero program xs ≡ None
unfolding above_any above_from
any_zero test program [] = refl
any_zero test program (x ∷ xs) = any_zero test program xs

-- the last one is looked at first
pub pushed : (test : ClassParts → Bool) (program : List ClassParts) (ps : List Pending) (p : Pending) → found_pending test program (ps ++ p ∷ []) ≡ or_found (above_any test p.depth program p.names.now) (found_pending test program ps)
unfolding found_pending
pushed test program [] p = sym (or_none (above_any test p.depth program p.names.now))
pushed test program (q ∷ qs) p =
    ap (λ o. or_found o (above_any test q.depth program q.names.now)) (pushed test program qs p)
    ∙ or_assoc (above_any test p.depth program p.names.now) (found_pending test program qs) (above_any test q.depth program q.names.now)

pub none_pending : (test : ClassParts → Bool) (program : List ClassParts) → found_pending test program [] ≡ None
unfolding found_pending
none_pending test program = refl

-- no more classes up
pub too_deep : (test : ClassParts → Bool) (program : List ClassParts) (ps qs : List Pending) (p : Pending) → qs ≡ ps ++ p ∷ [] → p.depth ≡ 0 → found_pending test program qs ≡ found_pending test program ps
too_deep test program ps qs p e z =
    ap (found_pending test program) e ∙ pushed test program ps p ∙ ap (λ d. or_found (above_any test d program p.names.now) (found_pending test program ps)) z
    ∙ ap (λ o. or_found o (found_pending test program ps)) (any_zero test program p.names.now)

pub no_more : (test : ClassParts → Bool) (program : List ClassParts) (ps qs : List Pending) (p : Pending) → qs ≡ ps ++ p ∷ [] → p.names.now ≡ [] → found_pending test program qs ≡ found_pending test program ps
no_more test program ps qs p e z =
    ap (found_pending test program) e ∙ pushed test program ps p ∙ ap (λ xs. or_found (above_any test p.depth program xs) (found_pending test program ps)) z
    ∙ ap (λ o. or_found o (found_pending test program ps)) (any_nil test p.depth program)

-- the last ones pending are looked at: their first name is taken, and the others are left
pub record Takes (before after : List Pending) (next : Pending) (name : List ℕ) : Type 0 where
  pub under : List Pending
  pub left : Pending
  pub was : before ≡ under ++ next ∷ []
  pub names : next.names.now ≡ name ∷ left.names.now
  pub depth : left.depth ≡ next.depth
  pub below : left.below ≡ next.below
  pub now : after ≡ under ++ left ∷ []

pub takes : {before after : List Pending} {next : Pending} {name : List ℕ} (under : List Pending) (left : Pending) → before ≡ under ++ next ∷ [] → after ≡ under ++ left ∷ [] → next.names.now ≡ name ∷ left.names.now
    → left.depth ≡ next.depth → left.below ≡ next.below → Takes before after next name
takes under left was now names depth below = record { under = under; left = left; was = was; names = names; depth = depth; below = below; now = now }

-- what stands behind the first name
others_found : (test : ClassParts → Bool) (program : List ClassParts) {before after : List Pending} {p : Pending} {x : List ℕ} (t : Takes before after p x)
    → above_any test p.depth program p.names.now ≡ or_found (above_from test p.depth program x) (above_any test t.left.depth program t.left.names.now)
others_found test program {p} {x} t =
    ap (above_any test p.depth program) t.names ∙ any_cons test p.depth program x t.left.names.now
    ∙ ap (λ d. or_found (above_from test p.depth program x) (above_any test d program t.left.names.now)) (sym t.depth)

-- the first name, and then the others
pub found_by_first_name : (test : ClassParts → Bool) (program : List ClassParts) {before after : List Pending} {p : Pending} {x : List ℕ} → Takes before after p x
    → found_pending test program before ≡ or_found (above_from test p.depth program x) (found_pending test program after)
found_by_first_name test program {p} {x} t =
    ap (found_pending test program) t.was ∙ pushed test program t.under p ∙ ap (λ o. or_found o (found_pending test program t.under)) (others_found test program t)
    ∙ or_assoc (above_from test p.depth program x) (above_any test t.left.depth program t.left.names.now) (found_pending test program t.under)
    ∙ ap (or_found (above_from test p.depth program x)) (sym (pushed test program t.under t.left) ∙ ap (found_pending test program) (sym t.now))

-- a name of no class, of the class that is sought, and of another
pub no_such : (test : ClassParts → Bool) (program : List ClassParts) (d : ℕ) (x : List ℕ) → class_named program x ≡ None → above_from test d program x ≡ None
unfolding above_from
no_such test program zero x e = refl
no_such test program (suc d) x e = ap (λ o. elim o as (λ _. Option ClassParts) [ None ↦ None | Some c ↦ elim (test c) as (λ _. Option ClassParts) [ true ↦ Some c | false ↦ first_found (above_from test d program) (interfaces_first c) ] ]) e

pub is_here : (test : ClassParts → Bool) (program : List ClassParts) (d : ℕ) (x : List ℕ) (c : ClassParts) → d ≢ 0 → class_named program x ≡ Some c → test c ≡ true → above_from test d program x ≡ Some c
unfolding above_from
is_here test program zero x c ne e t = absurd (ne refl)
is_here test program (suc d) x c ne e t =
    ap (λ o. elim o as (λ _. Option ClassParts) [ None ↦ None | Some c ↦ elim (test c) as (λ _. Option ClassParts) [ true ↦ Some c | false ↦ first_found (above_from test d program) (interfaces_first c) ] ]) e
    ∙ ap (λ b. elim b as (λ _. Option ClassParts) [ true ↦ Some c | false ↦ first_found (above_from test d program) (interfaces_first c) ]) t

pub is_above : (test : ClassParts → Bool) (program : List ClassParts) (d : ℕ) (x : List ℕ) (c : ClassParts) → d ≢ 0 → class_named program x ≡ Some c → test c ≡ false → above_from test d program x ≡ above_any test (d - 1) program (interfaces_first c)
unfolding above_from above_any
is_above test program zero x c ne e t = absurd (ne refl)
is_above test program (suc d) x c ne e t =
    let one : suc d - 1 ≡ d = omega arith in
    ap (λ o. elim o as (λ _. Option ClassParts) [ None ↦ None | Some c ↦ elim (test c) as (λ _. Option ClassParts) [ true ↦ Some c | false ↦ first_found (above_from test d program) (interfaces_first c) ] ]) e
    ∙ ap (λ b. elim b as (λ _. Option ClassParts) [ true ↦ Some c | false ↦ first_found (above_from test d program) (interfaces_first c) ]) t
    ∙ ap (λ n. first_found (above_from test n program) (interfaces_first c)) (sym one)

-- the walk begins with the names
pub only_pending : (test : ClassParts → Bool) (program : List ClassParts) (d : ℕ) (ps qs : List Pending) (p : Pending) → ps ≡ [] → qs ≡ ps ++ p ∷ [] → p.depth ≡ d → found_pending test program qs ≡ above_any test d program p.names.now
only_pending test program d ps qs p none e same =
    ap (found_pending test program) e ∙ pushed test program ps p ∙ ap (λ o. or_found (above_any test p.depth program p.names.now) o) (ap (found_pending test program) none ∙ none_pending test program)
    ∙ or_none (above_any test p.depth program p.names.now) ∙ ap (λ n. above_any test n program p.names.now) same

-- the first name decides, or it does not
pub here_first : (a b whole rest : Option ClassParts) (c : ClassParts) → whole ≡ or_found a rest → a ≡ Some c → whole ≡ b → Some c ≡ b
here_first a b whole rest c e f g = sym (e ∙ ap (λ o. or_found o rest) f) ∙ g

pub nothing_first : (a b whole rest : Option ClassParts) → whole ≡ or_found a rest → a ≡ None → whole ≡ b → rest ≡ b
nothing_first a b whole rest e f g = sym (e ∙ ap (λ o. or_found o rest) f) ∙ g

-- one class further along the superclasses
pub along_more : (test : ClassParts → Bool) (program : List ClassParts) (h i : ℕ) (name : List ℕ) (c : ClassParts) (s : List ℕ) → i < h → class_named program name ≡ Some c → test c ≡ false → c.superclass ≡ Some s → first_along test (up_from (h - i) program name) ≡ first_along test (up_from (h - (i + 1)) program s)
along_more test program h i name c s l is other super =
    let more : h - i ≡ suc (h - (i + 1)) = omega arith in
    ap (λ n. first_along test (up_from n program name)) more
    ∙ ap (λ o. first_along test (elim o as (λ _. List ClassParts) [ None ↦ [] | Some k ↦ elim k.superclass as (λ _. List ClassParts) [ None ↦ k ∷ [] | Some t ↦ k ∷ up_from (h - (i + 1)) program t ] ])) is
    ∙ ap (λ o. first_along test (elim o as (λ _. List ClassParts) [ None ↦ c ∷ [] | Some t ↦ c ∷ up_from (h - (i + 1)) program t ])) super
    ∙ ap (λ b. elim b as (λ _. Option ClassParts) [ true ↦ Some c | false ↦ first_along test (up_from (h - (i + 1)) program s) ]) other

pub along_from : (test : ClassParts → Bool) (program : List ClassParts) (name : List ℕ) → first_along test (up_from (height program - 0) program name) ≡ first_along test (chain program name)
unfolding chain
along_from test program name = let all : height program - 0 ≡ height program = omega arith in ap (λ n. first_along test (up_from n program name)) all

-- what is pending in two parts
found_append : (test : ClassParts → Bool) (program : List ClassParts) (ps qs : List Pending) → found_pending test program (ps ++ qs) ≡ or_found (found_pending test program qs) (found_pending test program ps)
unfolding found_pending
found_append test program [] qs = sym (or_none (found_pending test program qs))
found_append test program (p ∷ ps) qs =
    ap (λ o. or_found o (above_any test p.depth program p.names.now)) (found_append test program ps qs)
    ∙ or_assoc (found_pending test program qs) (found_pending test program ps) (above_any test p.depth program p.names.now)

say_upper : (test : ClassParts → Bool) (program : List ClassParts) (ps qs : List Pending) → AllSay test program (ps ++ qs) → AllSay test program qs
unfolding AllSay
say_upper test program [] qs a = a
say_upper test program (p ∷ ps) qs a = say_upper test program ps qs a.1

says_same : (test : ClassParts → Bool) (program : List ClassParts) (p : Pending) (a b : Option ClassParts) → a ≡ b → Says test program p a → Says test program p b
says_same test program p a b e h = subst (λ o. Says test program p o) e h

-- other names in the place of the last ones, of which the same is found
say_other : (test : ClassParts → Bool) (program : List ClassParts) (ps qs rs : List Pending) → found_pending test program qs ≡ found_pending test program rs → AllSay test program (ps ++ qs) → AllSay test program rs → AllSay test program (ps ++ rs)
unfolding AllSay found_pending
say_other test program [] qs rs e a b = b
say_other test program (p ∷ ps) qs rs e a b =
    let same : found_pending test program (ps ++ qs) ≡ found_pending test program (ps ++ rs) = found_append test program ps qs ∙ ap (λ o. or_found o (found_pending test program ps)) e ∙ sym (found_append test program ps rs) in
    (says_same test program p _ _ (ap (λ o. or_found o (above_any test p.depth program p.names.now)) same) a.0, say_other test program ps qs rs e a.1 b)

one_pending : (test : ClassParts → Bool) (program : List ClassParts) (p : Pending) → found_pending test program (p ∷ []) ≡ above_any test p.depth program p.names.now
unfolding found_pending
one_pending test program p = refl

say_one : (test : ClassParts → Bool) (program : List ClassParts) (p : Pending) → AllSay test program (p ∷ []) → Says test program p (above_any test p.depth program p.names.now)
unfolding AllSay found_pending
say_one test program p a = a.0

one_says : (test : ClassParts → Bool) (program : List ClassParts) (p : Pending) → Says test program p (above_any test p.depth program p.names.now) → AllSay test program (p ∷ [])
unfolding AllSay found_pending
one_says test program p h = (h, tt)

nil_right : (ps : List Pending) → ps ++ [] ≡ ps
nil_right [] = refl
nil_right (p ∷ ps) = ap (λ qs. p ∷ qs) (nil_right ps)

none_says : (test : ClassParts → Bool) (program : List ClassParts) → AllSay test program []
unfolding AllSay
none_says test program = tt

-- names of which nothing is found are dropped
pub say_dropped : (test : ClassParts → Bool) (program : List ClassParts) (ps qs : List Pending) (p : Pending) → qs ≡ ps ++ p ∷ [] → above_any test p.depth program p.names.now ≡ None → AllSay test program qs → AllSay test program ps
say_dropped test program ps qs p e none a =
    subst (AllSay test program) (nil_right ps)
    (say_other test program ps (p ∷ []) [] (one_pending test program p ∙ none ∙ sym (none_pending test program)) (subst (AllSay test program) e a) (none_says test program))

pub deep_none : (test : ClassParts → Bool) (program : List ClassParts) (p : Pending) → p.depth ≡ 0 → above_any test p.depth program p.names.now ≡ None
deep_none test program p z = ap (λ d. above_any test d program p.names.now) z ∙ any_zero test program p.names.now

pub empty_none : (test : ClassParts → Bool) (program : List ClassParts) (p : Pending) → p.names.now ≡ [] → above_any test p.depth program p.names.now ≡ None
empty_none test program p z = ap (λ xs. above_any test p.depth program xs) z ∙ any_nil test p.depth program

-- the last names above a class, when none are left
pub was_vain : (test : ClassParts → Bool) (program : List ClassParts) (ps qs : List Pending) (p : Pending) → qs ≡ ps ++ p ∷ [] → p.names.now ≡ [] → AllSay test program qs → Says test program p None
was_vain test program ps qs p e z a = says_same test program p _ _ (empty_none test program p z) (say_one test program p (say_upper test program ps (p ∷ []) (subst (AllSay test program) e a)))

pub begin_says : (test : ClassParts → Bool) (program : List ClassParts) (ps qs : List Pending) (p : Pending) → ps ≡ [] → qs ≡ ps ++ p ∷ [] → p.below ≡ None → AllSay test program qs
begin_says test program ps qs p none e below =
    subst (AllSay test program) (sym (e ∙ ap (λ xs. xs ++ p ∷ []) none))
    (one_says test program p (subst (λ o. elim o as (λ _. Type 0) [ None ↦ Unit {0} | Some n ↦ Gives test (suc p.depth) program n (above_any test p.depth program p.names.now) ]) (sym below) tt))

-- a walk over fewer classes is in vain where one over more is
none_of_names : (f g : List ℕ → Option ClassParts) → ((y : List ℕ) → f y ≡ None → g y ≡ None) → (xs : List (List ℕ)) → first_found f xs ≡ None → first_found g xs ≡ None
none_of_names f g h [] e = refl
none_of_names f g h (y ∷ ys) e = by (none_of_names f g h ys) (f y) refl e
  where
    by : (first_found f ys ≡ None → first_found g ys ≡ None) → (o : Option ClassParts) → f y ≡ o → (elim o as (λ _. Option ClassParts) [ Some a ↦ Some a | None ↦ first_found f ys ]) ≡ None → (elim (g y) as (λ _. Option ClassParts) [ Some a ↦ Some a | None ↦ first_found g ys ]) ≡ None
    by more None is d = ap (λ o. elim o as (λ _. Option ClassParts) [ Some a ↦ Some a | None ↦ first_found g ys ]) (h y is) ∙ more d
    by more (Some c) is d = cc

less_vain : (test : ClassParts → Bool) (program : List ClassParts) (m d : ℕ) (x : List ℕ) → m ≤ d → above_from test d program x ≡ None → above_from test m program x ≡ None
unfolding above_from
less_vain test program zero d x l e = refl
less_vain test program (suc m) zero x l e = absurd (omega (arith, l))
less_vain test program (suc m) (suc d) x l e = by (λ y h. less_vain test program m d y (omega (arith, l)) h) (class_named program x) e
  where
    tested : ((y : List ℕ) → above_from test d program y ≡ None → above_from test m program y ≡ None) → (c : ClassParts) (t : Bool) → (elim t as (λ _. Option ClassParts) [ true ↦ Some c | false ↦ first_found (above_from test d program) (interfaces_first c) ]) ≡ None → (elim t as (λ _. Option ClassParts) [ true ↦ Some c | false ↦ first_found (above_from test m program) (interfaces_first c) ]) ≡ None
    tested more c true h = h
    tested more c false h = none_of_names (above_from test d program) (above_from test m program) more (interfaces_first c) h

    by : ((y : List ℕ) → above_from test d program y ≡ None → above_from test m program y ≡ None) → (o : Option ClassParts) → (elim o as (λ _. Option ClassParts) [ None ↦ None | Some c ↦ elim (test c) as (λ _. Option ClassParts) [ true ↦ Some c | false ↦ first_found (above_from test d program) (interfaces_first c) ] ]) ≡ None → (elim o as (λ _. Option ClassParts) [ None ↦ None | Some c ↦ elim (test c) as (λ _. Option ClassParts) [ true ↦ Some c | false ↦ first_found (above_from test m program) (interfaces_first c) ] ]) ≡ None
    by more None h = refl
    by more (Some c) h = tested more c (test c) h

pub is_vain : (test : ClassParts → Bool) (program : List ClassParts) (depth most : ℕ) (name : List ℕ) → depth ≤ most → above_from test (suc most) program name ≡ None → above_from test (suc depth) program name ≡ None
is_vain test program depth most name l e = less_vain test program (suc depth) (suc most) name (omega (arith, l)) e

-- numbers that are told to be equal
nat_ties : (m n : ℕ) → is_eq (nat_cmp m n) ≡ true → m ≡ n
nat_ties m n e = let same : nat_eq m n ≡ true = sym (unsigned_tied m n) ∙ e in grind (arith, nat_tests, same)

-- a number names one class
one_name : (program : List ClassParts) (number : ℕ) (x y : List ℕ) → NamesClass program number x → NamesClass program number y → x ≡ y
one_name program number x y e f = cc

-- one more walk that is kept
pub kept_more : (test : ClassParts → Bool) (program : List ClassParts) (old now : BTreeMap ℕ ℕ) (p : Pending) (number : ℕ) → p.below ≡ Some number → ((q : ℕ) → get nat_cmp now q ≡ cond (is_eq (nat_cmp number q)) (Some p.depth) (get nat_cmp old q)) → AllVain test program old → Says test program p None → AllVain test program now
kept_more test program old now p number below updates vain says = λ q depth kept. by q depth (is_eq (nat_cmp number q)) refl (sym (updates q) ∙ kept)
  where
    said : Gives test (suc p.depth) program number None
    said = subst (λ o. elim o as (λ _. Type 0) [ None ↦ Unit {0} | Some n ↦ Gives test (suc p.depth) program n None ]) below says

    same : (depth : ℕ) → Some p.depth ≡ Some depth → p.depth ≡ depth
    same depth e = cc

    by : (q depth : ℕ) (t : Bool) → is_eq (nat_cmp number q) ≡ t → cond t (Some p.depth) (get nat_cmp old q) ≡ Some depth → Gives test (suc depth) program q None
    by q depth true e f = subst (λ n. Gives test (suc n) program q None) (same depth f) (subst (λ n. Gives test (suc p.depth) program n None) (nat_ties number q e) said)
    by q depth false e f = vain q depth f

-- of names above the same class the same is said
says_as : (test : ClassParts → Bool) (program : List ClassParts) (p q : Pending) → q.depth ≡ p.depth → q.below ≡ p.below → (found : Option ClassParts) → Says test program p found → Says test program q found
says_as test program p q depth below found h =
    subst (λ o. elim o as (λ _. Type 0) [ None ↦ Unit {0} | Some n ↦ Gives test (suc q.depth) program n found ]) (sym below)
    (subst (λ d. elim p.below as (λ _. Type 0) [ None ↦ Unit {0} | Some n ↦ Gives test (suc d) program n found ]) (sym depth) h)

-- a name of which nothing is found
pub say_skipped : (test : ClassParts → Bool) (program : List ClassParts) {before after : List Pending} {p : Pending} {x : List ℕ} → Takes before after p x
    → above_from test p.depth program x ≡ None → AllSay test program before → AllSay test program after
say_skipped test program {p} {x} t none a =
    let q = t.left in
    let same : above_any test p.depth program p.names.now ≡ above_any test q.depth program q.names.now = others_found test program t ∙ ap (λ o. or_found o (above_any test q.depth program q.names.now)) none in
    let all = subst (AllSay test program) t.was a in
    subst (AllSay test program) (sym t.now)
    (say_other test program t.under (p ∷ []) (q ∷ []) (one_pending test program p ∙ same ∙ sym (one_pending test program q)) all
    (one_says test program q (says_as test program p q t.depth t.below _ (says_same test program p _ _ same (say_one test program p (say_upper test program t.under (p ∷ []) all))))))

three_found : (test : ClassParts → Bool) (program : List ClassParts) (q s i : Pending) → found_pending test program (q ∷ s ∷ i ∷ []) ≡ or_found (or_found (above_any test i.depth program i.names.now) (above_any test s.depth program s.names.now)) (above_any test q.depth program q.names.now)
unfolding found_pending
three_found test program q s i = refl

three_say : (test : ClassParts → Bool) (program : List ClassParts) (q s i : Pending) → Says test program q (found_pending test program (q ∷ s ∷ i ∷ [])) → Says test program s (or_found (above_any test i.depth program i.names.now) (above_any test s.depth program s.names.now)) → i.below ≡ None → AllSay test program (q ∷ s ∷ i ∷ [])
unfolding AllSay found_pending
three_say test program q s i a b below = (a, (b, (subst (λ o. elim o as (λ _. Type 0) [ None ↦ Unit {0} | Some n ↦ Gives test (suc i.depth) program n (above_any test i.depth program i.names.now) ]) (sym below) tt, tt)))

-- a turn to a class in which nothing is found: behind the names that are left come those above it
pub record Climbs (test : ClassParts → Bool) (program : List ClassParts) (before after : List Pending) : Type 0 where
  pub next : Pending
  pub name : List ℕ
  pub number : ℕ
  pub class : ClassParts
  pub between : List Pending
  pub taken : Takes before between next name
  pub goes_on : next.depth ≢ 0
  pub numbered : NamesClass program number name
  pub named : class_named program name ≡ Some class
  pub not_found : test class ≡ false
  pub superclass : Pending
  pub superclass_names : superclass.names.now ≡ option_to_list class.superclass
  pub superclass_depth : superclass.depth ≡ next.depth - 1
  pub superclass_below : superclass.below ≡ Some number
  pub interfaces : Pending
  pub interfaces_names : interfaces.names.now ≡ class.interfaces
  pub interfaces_depth : interfaces.depth ≡ next.depth - 1
  pub interfaces_below : interfaces.below ≡ None
  pub with_superclass : List Pending
  pub pushed : with_superclass ≡ between ++ superclass ∷ []
  pub now : after ≡ with_superclass ++ interfaces ∷ []

-- the names above the class give what the class gives
climbs_found : (test : ClassParts → Bool) (program : List ClassParts) {before after : List Pending} (t : Climbs test program before after)
    → or_found (above_any test t.interfaces.depth program t.interfaces.names.now) (above_any test t.superclass.depth program t.superclass.names.now) ≡ above_from test t.next.depth program t.name
climbs_found test program t =
    let d : ℕ = t.next.depth - 1 in
    let above : (p : Pending) (xs : List (List ℕ)) → p.names.now ≡ xs → p.depth ≡ d → above_any test p.depth program p.names.now ≡ above_any test d program xs =
    λ p xs e f. ap (above_any test p.depth program) e ∙ ap (λ n. above_any test n program xs) f in
    ap (λ o. or_found o (above_any test t.superclass.depth program t.superclass.names.now)) (above t.interfaces t.class.interfaces t.interfaces_names t.interfaces_depth)
    ∙ ap (or_found (above_any test d program t.class.interfaces)) (above t.superclass (option_to_list t.class.superclass) t.superclass_names t.superclass_depth)
    ∙ sym (any_append test d program t.class.interfaces (option_to_list t.class.superclass)) ∙ sym (is_above test program t.next.depth t.name t.class t.goes_on t.named t.not_found)

-- what the names of the superclass say of the class
climbs_say : (test : ClassParts → Bool) (program : List ClassParts) {before after : List Pending} (t : Climbs test program before after)
    → Says test program t.superclass (or_found (above_any test t.interfaces.depth program t.interfaces.names.now) (above_any test t.superclass.depth program t.superclass.names.now))
climbs_say test program t =
    let s = t.superclass in
    let found : Option ClassParts = or_found (above_any test t.interfaces.depth program t.interfaces.names.now) (above_any test s.depth program s.names.now) in
    let one : suc s.depth ≡ t.next.depth = omega (arith, t.superclass_depth, t.goes_on) in
    subst (λ o. elim o as (λ _. Type 0) [ None ↦ Unit {0} | Some n ↦ Gives test (suc s.depth) program n found ]) (sym t.superclass_below)
    (λ name is. ap (above_from test (suc s.depth) program) (one_name program t.number name t.name is t.numbered) ∙ ap (λ n. above_from test n program t.name) one ∙ sym (climbs_found test program t))

-- the same is found, and said
pub say_above : (test : ClassParts → Bool) (program : List ClassParts) {before after : List Pending} → Climbs test program before after → AllSay test program before
    → (found_pending test program before ≡ found_pending test program after) × AllSay test program after
say_above test program {after} t a =
    let p = t.next in
    let ps = t.taken.under in
    let q = t.taken.left in
    let s = t.superclass in
    let i = t.interfaces in
    let whole : found_pending test program (q ∷ s ∷ i ∷ []) ≡ above_any test p.depth program p.names.now =
    three_found test program q s i ∙ ap (λ o. or_found o (above_any test q.depth program q.names.now)) (climbs_found test program t) ∙ sym (others_found test program t.taken) in
    let list : after ≡ ps ++ q ∷ s ∷ i ∷ [] =
    t.now ∙ ap (λ ys. ys ++ i ∷ []) (t.pushed ∙ ap (λ ys. ys ++ s ∷ []) t.taken.now) ∙ append_assoc (ps ++ q ∷ []) (s ∷ []) (i ∷ []) ∙ append_assoc ps (q ∷ []) (s ∷ i ∷ []) in
    let same : found_pending test program (p ∷ []) ≡ found_pending test program (q ∷ s ∷ i ∷ []) = one_pending test program p ∙ sym whole in
    let all = subst (AllSay test program) t.taken.was a in
    let was = say_one test program p (say_upper test program ps (p ∷ []) all) in (
      ap (found_pending test program) t.taken.was ∙ found_append test program ps (p ∷ []) ∙ ap (λ o. or_found o (found_pending test program ps)) same
          ∙ sym (found_append test program ps (q ∷ s ∷ i ∷ [])) ∙ ap (found_pending test program) (sym list),
      subst (AllSay test program) (sym list)
          (say_other test program ps (p ∷ []) (q ∷ s ∷ i ∷ []) same all
          (three_say test program q s i (says_as test program p q t.taken.depth t.taken.below _ (says_same test program p _ _ (sym whole) was)) (climbs_say test program t) t.interfaces_below)),
    )

-- no walk is kept yet
pub none_kept : (test : ClassParts → Bool) (program : List ClassParts) (kept : BTreeMap ℕ ℕ) → kept.entries ≡ [] → AllVain test program kept
none_kept test program kept e = λ number depth is. by number depth (get nat_cmp kept number) (ap (lookup (λ k. is_eq (nat_cmp number k))) e) is
  where
    by : (number depth : ℕ) (o : Option ℕ) → o ≡ None → o ≡ Some depth → Gives test (suc depth) program number None
    by number depth None e f = cc
    by number depth (Some d) e f = cc
