-- Readers that read the same whatever stands behind, and with more levels: how they are put together.
use Rattle.std.proofs.Common.{◌≡◌, ℕ, zero, suc, ◌≤◌, Bool, true, false, cond, ltb, List, [], ◌∷◌, length, Option, Some, None, Ok, Err, refl, ap, ◌∙◌, subst, arith}
use Rattle.std.proofs.lemmas.Bool.{ltb-false, le-ltb}
use Rattle.jr_base.specs.declared.kind.Kind.{Kind}
use Rattle.jr_base.specs.declared.kind.Symbol.{Symbol}
use Rattle.jr_base.specs.declared.kind.Symbol.TheVariants as y
use Rattle.jr_base.specs.declared.kind.Keyword.{Keyword}
use Rattle.jr_parse_laws.specs.declared.fault.Fault.TheVariants.{TooDeep}
use Rattle.jr_parse_laws.specs.Parsers.{Outcome, Parser, and_then, first, pure, refuse, is_at, is_at_word, is_word, expect, expect_word, identifier, begins_with, many_from, many, after_comma, commas, optional, ◌>>=◌, ◌>>◌}
use Rattle.jr_parse_laws.proofs.Outcomes.{and_then_alike}
use Rattle.jr_parse_laws.proofs.Exact.{word_token}
use Rattle.jr_parse_laws.proofs.Lists.{Shortens}
use Rattle.jr_parse_starts.specs.Starts.{within, over}
use Rattle.jr_parse_expr.specs.Exprs.{next_token, skipping, any_commas}
use Rattle.jr_parse_expr.proofs.Locals.{Kept, Local, along, at_token, local_pure, local_refuse, local_bind, local_skip, local_next, local_over, local_one, local_expect, local_identifier, Looks, on_kept, cond_local, local_if, looks_at, looks_first, kept_same, local_many}

-- as a record, so that the readers are found
pub record Near (room other : ℕ) (le : room ≤ other) {A : Type 0} (p q : Parser A) : Type 0 where
  pub kept : Local room other le p q

pub then : {room other : ℕ} {le : room ≤ other} {A B : Type 0} {p q : Parser A} {f g : A → Parser B} → Near room other le p q → ((a : A) → Near room other le (f a) (g a)) → Near room other le (p >>= f) (q >>= g)
then {room = room} {other = other} {le = le} {p = p} {q = q} {f = f} {g = g} one next = record { kept = local_bind room other le p q f g one.kept (λ a. (next a).kept) }

pub gives : {room other : ℕ} {le : room ≤ other} {A : Type 0} (a : A) → Near room other le (pure a) (pure a)
gives {room = room} {other = other} {le = le} a = record { kept = local_pure room other le a }

pub refuses : {room other : ℕ} {le : room ≤ other} {A : Type 0} → Near room other le {A = A} refuse refuse
refuses {room = room} {other = other} {le = le} = record { kept = local_refuse room other le }

pub symbol : {room other : ℕ} {le : room ≤ other} (s : Symbol) → Near room other le (expect s) (expect s)
symbol {room = room} {other = other} {le = le} s = record { kept = local_expect room other le s }

pub word : {room other : ℕ} {le : room ≤ other} (w : Keyword) → Near room other le (expect_word w) (expect_word w)
word {room = room} {other = other} {le = le} w = record { kept = local_one room other le (expect_word w) (λ u. _) (word_token w) }

pub ident : {room other : ℕ} {le : room ≤ other} → Near room other le identifier identifier
ident {room = room} {other = other} {le = le} = record { kept = local_identifier room other le }

pub skips : {room other : ℕ} {le : room ≤ other} {A : Type 0} {p q : Parser A} → Near room other le p q → Near room other le (skipping p) (skipping q)
skips {room = room} {other = other} {le = le} {p = p} {q = q} one = record { kept = local_skip room other le p q one.kept }

-- a part and a symbol, or a symbol and a part
pub closed : {room other : ℕ} {le : room ≤ other} {A B : Type 0} {p q : Parser A} (s : Symbol) (f : A → B) → Near room other le p q → Near room other le (p >>= (λ a. expect s >> pure (f a))) (q >>= (λ a. expect s >> pure (f a)))
closed s f one = then one (λ a. then (symbol s) (λ u. gives (f a)))

-- ---- by what comes first

pub if_at : {room other : ℕ} {le : room ≤ other} {A : Type 0} {p p' q q' : Parser A} (s : Symbol) → Near room other le p p' → Near room other le q q'
    → Near room other le (λ ts. cond (is_at s ts) (p ts) (q ts)) (λ ts. cond (is_at s ts) (p' ts) (q' ts))
if_at {room = room} {other = other} {le = le} {p = p} {p' = p'} {q = q} {q' = q'} s one two = record { kept = local_if room other le (is_at s) p p' q q' (looks_at room other le s) one.kept two.kept }

looks_word : (room other : ℕ) (le : room ≤ other) (w : Keyword) → Looks room other le (is_at_word w)
looks_word room other le w [] [] e = refl
looks_word room other le w [] (k ∷ us) e = absurd (cc)
looks_word room other le w (k ∷ ts) [] e = absurd (cc)
looks_word room other le w (k ∷ ts) (j ∷ us) e = let same : k ≡ j = cc in ap (is_word w) same

pub if_word : {room other : ℕ} {le : room ≤ other} {A : Type 0} {p p' q q' : Parser A} (w : Keyword) → Near room other le p p' → Near room other le q q'
    → Near room other le (λ ts. cond (is_at_word w ts) (p ts) (q ts)) (λ ts. cond (is_at_word w ts) (p' ts) (q' ts))
if_word {room = room} {other = other} {le = le} {p = p} {p' = p'} {q = q} {q' = q'} w one two = record { kept = local_if room other le (is_at_word w) p p' q q' (looks_word room other le w) one.kept two.kept }

if_first : {room other : ℕ} {le : room ≤ other} {A : Type 0} {p p' q q' : Parser A} (h : Option Kind → Bool) → Near room other le p p' → Near room other le q q'
    → Near room other le (λ ts. cond (h (first ts)) (p ts) (q ts)) (λ ts. cond (h (first ts)) (p' ts) (q' ts))
if_first {room = room} {other = other} {le = le} {p = p} {p' = p'} {q = q} {q' = q'} h one two = record { kept = local_if room other le (λ ts. h (first ts)) p p' q q' (looks_first room other le h) one.kept two.kept }

pub if_so : {room other : ℕ} {le : room ≤ other} {A : Type 0} {p p' q q' : Parser A} (b : Bool) → Near room other le p p' → Near room other le q q' → Near room other le (λ ts. cond b (p ts) (q ts)) (λ ts. cond b (p' ts) (q' ts))
if_so {room = room} {other = other} {le = le} {p = p} {p' = p'} {q = q} {q' = q'} b one two = record { kept = cond_local room other le p p' q q' one.kept two.kept b }

-- a reader that is told by its token, which it reads itself
abbrev pub told : {A : Type 0} → (Kind → Parser A) → Parser A
told f [] = refuse []
told f (token ∷ ts) = f token (token ∷ ts)

abbrev told_by : {A : Type 0} → (Kind → Parser A) → Option Kind → Parser A
told_by f None = refuse
told_by f (Some token) = f token

told_is : {A : Type 0} (f : Kind → Parser A) (ts : List Kind) → told_by f (first ts) ts ≡ told f ts
told_is f [] = refl
told_is f (token ∷ ts) = refl

pub by_token : {room other : ℕ} {le : room ≤ other} {A : Type 0} (f g : Kind → Parser A) → ((token : Kind) (ts : List Kind) → Kept room other le (g token) (token ∷ ts) (f token (token ∷ ts))) → Near room other le (told f) (told g)
by_token {room = room} {other = other} {le = le} f g one = record { kept = go } where
  go : Local room other le (told f) (told g)
  go [] = kept_same room other le (λ us. told_by g (first us) us) (told g) (told_is g) [] (refuse []) (on_kept room other le first (told_by g) (looks_first room other le (λ o. o)) [] (refuse []) (local_refuse room other le []))
  go (token ∷ ts) =
      kept_same room other le (λ us. told_by g (first us) us) (told g) (told_is g) (token ∷ ts) (f token (token ∷ ts)) (on_kept room other le first (told_by g) (looks_first room other le (λ o. o)) (token ∷ ts) (f token (token ∷ ts)) (one token ts))

pub same_as : {room other : ℕ} {le : room ≤ other} {A : Type 0} (p p' q q' : Parser A) → ((ts : List Kind) → p ts ≡ p' ts) → ((ts : List Kind) → q ts ≡ q' ts) → Near room other le p q → Near room other le p' q'
same_as {room = room} {other = other} {le = le} p p' q q' one two near = record { kept = λ ts. subst (Kept room other le q' ts) (one ts) (kept_same room other le q q' two ts (p ts) (near.kept ts)) }

pub by_next : {room other : ℕ} {le : room ≤ other} {A : Type 0} (f g : Kind → Parser A) → ((token : Kind) (ts : List Kind) → Kept room other le (next_token g) (token ∷ ts) (f token ts)) → Near room other le (next_token f) (next_token g)
by_next {room = room} {other = other} {le = le} f g one = record { kept = local_next room other le f g one }

pub if_levels : {room other : ℕ} {le : room ≤ other} {A : Type 0} {p q : Parser A} (levels : ℕ) → Near room other le p q → Near room other le (over levels room p) (over levels other q)
if_levels {room = room} {other = other} {le = le} {p = p} {q = q} levels one = record { kept = local_over room other le levels p q one.kept }

-- a token that forces levels
pub forced : {room other : ℕ} {le : room ≤ other} {A : Type 0} (p q q' : Parser A) (levels : ℕ) (token : Kind) (ts : List Kind) → ((us : List Kind) → q' (token ∷ us) ≡ within levels other token q us) → Near room other le p q
    → Kept room other le q' (token ∷ ts) (within levels room token p ts)
forced {room = room} {other = other} {le = le} p q q' levels token ts same near = go (ltb room levels) refl where
  go : (b : Bool) → ltb room levels ≡ b → Kept room other le q' (token ∷ ts) (cond b (Err (TooDeep, token ∷ ts)) (p ts))
  go true e = λ wider. at_token room other le q' TooDeep token ts (λ us. same us ∙ (let n : other ≡ room = wider in rw (n, e) refl))
  go false e = along room other le q q' token ts (p ts) (λ us. same us ∙ rw (le-ltb other levels (let l = ltb-false room levels e in omega arith)) refl) (near.kept ts)

-- one that forces none
pub passed : {room other : ℕ} {le : room ≤ other} {A : Type 0} (p q q' : Parser A) (token : Kind) (ts : List Kind) → ((us : List Kind) → q' (token ∷ us) ≡ q us) → Near room other le p q → Kept room other le q' (token ∷ ts) (p ts)
passed {room = room} {other = other} {le = le} p q q' token ts same near = along room other le q q' token ts (p ts) same (near.kept ts)

-- ---- items

pub several : {room other : ℕ} {le : room ≤ other} {A : Type 0} {p q : Parser A} (starts : Option Kind → Bool) → starts None ≡ false → Shortens p → Shortens q → Near room other le p q → Near room other le (many starts p) (many starts q)
several {room = room} {other = other} {le = le} {p = p} {q = q} starts silent shorter shorter' one = record { kept = local_many room other le starts p q silent shorter shorter' one.kept }

pub perhaps : {room other : ℕ} {le : room ≤ other} {A : Type 0} {p q : Parser A} (starts : Option Kind → Bool) → Near room other le p q → Near room other le (optional starts p) (optional starts q)
perhaps starts one = if_first starts (then one (λ a. gives (Some a))) (gives None)

pub behind_comma : {room other : ℕ} {le : room ≤ other} {A : Type 0} {p q : Parser A} → Near room other le p q → Near room other le (after_comma p) (after_comma q)
behind_comma one = then (symbol y.Comma) (λ u. one)

pub with_commas : {room other : ℕ} {le : room ≤ other} {A : Type 0} {p q : Parser A} → Shortens (after_comma p) → Shortens (after_comma q) → Near room other le p q → Near room other le (commas p) (commas q)
with_commas shorter shorter' one = then one (λ a. then (several (begins_with y.Comma) refl shorter shorter' (behind_comma one)) (λ all. gives (a ∷ all)))

pub any_with_commas : {room other : ℕ} {le : room ≤ other} {A : Type 0} {p q : Parser A} (starts : Option Kind → Bool) → Shortens (after_comma p) → Shortens (after_comma q) → Near room other le p q
    → Near room other le (any_commas starts p) (any_commas starts q)
any_with_commas starts shorter shorter' one = if_first starts (with_commas shorter shorter' one) (gives [])

-- items that take a token where one begins
abbrev pub guarded : {A : Type 0} → (Option Kind → Bool) → Parser A → Parser A
guarded starts item ts = cond (starts (first ts)) (item ts) (refuse ts)

guarded_turn : {A : Type 0} (b : Bool) (item : Parser A) (ts : List Kind) (f g : List Kind → Outcome (List A)) → ((rest : List Kind) → f rest ≡ g rest)
    → cond b (and_then (cond b (item ts) (refuse ts)) (λ a rest. and_then (f rest) (λ all rest. Ok (a ∷ all, rest)))) (Ok ([], ts)) ≡ cond {A = Outcome (List A)} b (and_then (item ts) (λ a rest. and_then (g rest) (λ all rest. Ok (a ∷ all, rest)))) (Ok ([], ts))
guarded_turn true item ts f g same = and_then_alike (item ts) _ _ (λ a rest. ap (λ o. and_then o (λ all rest. Ok (a ∷ all, rest))) (same rest))
guarded_turn false item ts f g same = refl

guarded_from : {A : Type 0} (starts : Option Kind → Bool) (item : Parser A) (turns : ℕ) (ts : List Kind) → many_from starts (guarded starts item) turns ts ≡ many_from starts item turns ts
guarded_from starts item zero ts = refl
guarded_from starts item (suc turns) ts =
    guarded_turn (starts (first ts)) item ts (many_from starts (guarded starts item) turns) (many_from starts item turns) (guarded_from starts item turns)

guarded_many : {A : Type 0} (starts : Option Kind → Bool) (item : Parser A) (ts : List Kind) → many starts (guarded starts item) ts ≡ many starts item ts
unfolding many
guarded_many starts item ts = guarded_from starts item (length ts) ts

pub several_begun : {room other : ℕ} {le : room ≤ other} {A : Type 0} {p q : Parser A} (starts : Option Kind → Bool) → starts None ≡ false → Shortens (guarded starts p) → Shortens (guarded starts q) → Near room other le p q
    → Near room other le (many starts p) (many starts q)
several_begun {p = p} {q = q} starts silent shorter shorter' one =
    same_as (many starts (guarded starts p)) (many starts p) (many starts (guarded starts q)) (many starts q) (guarded_many starts p) (guarded_many starts q) (several starts silent shorter shorter' (if_first starts one refuses))
