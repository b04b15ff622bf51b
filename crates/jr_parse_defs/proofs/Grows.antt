-- What stands before a fault begins a tree: from parts to the whole, for trees with a shape and a depth.
use Rattle.std.proofs.Common.{◌≡◌, ℕ, suc, ◌≤◌, Bool, true, false, ◌||◌, cond, ltb, List, [], ◌∷◌, ◌++◌, length, Option, None, Ok, Err, refl, sym, ap, subst, ◌⊎◌, inl, inr, arith}
use Rattle.std.proofs.lemmas.Bool.{ltb-false}
use Rattle.std.specs.List.{AllByRecursion}
use Rattle.jr_base.specs.declared.text.Text.{Text}
use Rattle.jr_base.specs.declared.kind.Kind.{Kind}
use Rattle.jr_base.specs.declared.kind.Kind.TheVariants as kind
use Rattle.jr_base.specs.declared.kind.Symbol.{Symbol}
use Rattle.jr_base.specs.declared.kind.Keyword.{Keyword}
use Rattle.jr_tree.specs.Depth.{deepest}
use Rattle.jr_parse_laws.specs.declared.fault.Fault.{Fault}
use Rattle.jr_parse_laws.specs.declared.fault.Fault.TheVariants.{NoTree, TooDeep}
use Rattle.jr_parse_laws.specs.Parsers.{Outcome, Parser, and_then, first, expect, expect_word, identifier, is_at, is_at_word, many}
use Rattle.jr_parse_laws.proofs.Outcomes.{chosen, err_is, is_symbol_is, is_word_is, Before, After, stops}
use Rattle.jr_parse_laws.proofs.Stops.{Leading, leading_nothing}
use Rattle.jr_parse_laws.proofs.Exact.{symbol_token, word_token, identifier_token, expect_sound, word_sound}
use Rattle.jr_parse_expr.specs.Exprs.{skipping}
use Rattle.jr_parse_expr.proofs.Growths.{Growing, leading_then, grows, none_grows, deep_grows}
use Rattle.jr_parse_defs.specs.Writing.{write_many}
use Rattle.jr_parse_defs.proofs.Lists.{Sound, list_stop}

pub record Low {A : Type 0} (Shape : A → Type 0) (depth : A → ℕ) (r : ℕ) (a : A) : Type 0 where
  pub shaped : Shape a
  pub low : depth a ≤ r

-- ---- exits

-- a part stops
pub part : {A B : Type 0} {Shape : A → Type 0} {depth : A → ℕ} {write : A → List Kind → List Kind} {Shape' : B → Type 0} {depth' : B → ℕ} {write' : B → List Kind → List Kind} {room room' : ℕ} {ts : List Kind} {stop : Fault × List Kind}
    {into : List Kind → List Kind} → Leading into → (whole : A → B) (after : List Kind → List Kind) → ((a : A) (z : List Kind) → write' (whole a) z ≡ into (write a (after z)))
    → ((a : A) → Shape a → Shape' (whole a)) → ((a : A) → depth a ≤ room → depth' (whole a) ≤ room') → Growing (Low Shape depth) write room ts stop → Growing (Low Shape' depth') write' room' (into ts) stop
part {depth' = depth'} {room = room} {room' = room'} {ts = ts} {stop = stop} {into = into} leading whole after spelled shape low g =
    grows room room' ts stop into leading whole after spelled (λ r a is. (depth' (whole a), record { shaped = shape a is.shaped; low = omega arith })) (λ a is. record { shaped = shape a is.shaped; low = low a is.low }) g

-- a token is missing
pub gone : {B : Type 0} {Shape' : B → Type 0} {depth' : B → ℕ} {write' : B → List Kind → List Kind} {room' : ℕ} {ts : List Kind} {stop : Fault × List Kind} {into : List Kind → List Kind} → (NoTree, ts) ≡ stop → Leading into
    → (tree : B) (after : List Kind → List Kind) → ((z : List Kind) → write' tree z ≡ into (after z)) → Shape' tree → depth' tree ≤ room' → Growing (Low Shape' depth') write' room' (into ts) stop
gone {Shape' = Shape'} {depth' = depth'} {write' = write'} {room' = room'} {ts = ts} {into = into} same leading tree after spelled shape low =
    subst (Growing (Low Shape' depth') write' room' (into ts)) same (none_grows room' ts into leading tree after spelled (record { shaped = shape; low = low }))

-- a level is missing
pub deeps : {B : Type 0} {Shape' : B → Type 0} {depth' : B → ℕ} {write' : B → List Kind → List Kind} {room' : ℕ} {token : Kind} {ts : List Kind} {stop : Fault × List Kind} {into : List Kind → List Kind} → (TooDeep, token ∷ ts) ≡ stop
    → Leading into → (tree : B) (after : List Kind → List Kind) → ((z : List Kind) → write' tree z ≡ into (after z)) → Shape' tree → depth' tree ≤ room'
    → (tall : B) (past : List Kind → List Kind) → ((z : List Kind) → write' tall z ≡ into (token ∷ past z)) → Shape' tall → Growing (Low Shape' depth') write' room' (into (token ∷ ts)) stop
deeps {Shape' = Shape'} {depth' = depth'} {write' = write'} {room' = room'} {token = token} {ts = ts} {into = into} same leading tree after spelled shape low tall past spelled_tall shape_tall =
    subst (Growing (Low Shape' depth') write' room' (into (token ∷ ts))) same
    (deep_grows room' token ts into leading tree after spelled (record { shaped = shape; low = low }) (depth' tall) tall past spelled_tall (record { shaped = shape_tall; low = omega arith }))

-- the same tree, seen in another way
pub seen : {A : Type 0} {Is : ℕ → A → Type 0} {Shape : A → Type 0} {depth : A → ℕ} {write : A → List Kind → List Kind} (room : ℕ) (ts : List Kind) (stop : Fault × List Kind)
    → ((r : ℕ) (a : A) → Is r a → Shape a × (depth a ≤ r)) → Growing Is write room ts stop → Growing (Low Shape depth) write room ts stop
seen room ts stop to g =
    grows room room ts stop (λ z. z) leading_nothing (λ a. a) (λ z. z) (λ a z. refl) (λ r a is. (r, (let both = to r a is in record { shaped = both.0; low = both.1 }))) (λ a is. let both = to room a is in record { shaped = both.0; low = both.1 }) g

-- ---- one after the other

pub on : {A B : Type 0} {o : Outcome A} {f : A → Parser B} {stop : Fault × List Kind} {Goal : Type 0} → and_then o f ≡ Err stop → (o ≡ Err stop → Goal) → ((a : A) (us : List Kind) → o ≡ Ok (a, us) → f a us ≡ Err stop → Goal) → Goal
on {o = o} {f = f} {stop = stop} h one more =
    elim (stops o f stop h) [
      | Before e ↦ one e
      | After a us e d ↦ more a us e d
    ]

-- a part that is the last
pub last : {A B : Type 0} {o : Outcome A} {f : A → Parser B} {stop : Fault × List Kind} → and_then o f ≡ Err stop → ((a : A) (us : List Kind) → f a us ≡ Err stop → ⊥) → o ≡ Err stop
last h over = on h (λ e. e) (λ a us e d. absurd (over a us d))

pub symbol_on : {B : Type 0} {f : Unit {0} → Parser B} {stop : Fault × List Kind} (s : Symbol) (ts : List Kind) (Goal : List Kind → Type 0) → and_then (expect s ts) f ≡ Err stop
    → ((NoTree, ts) ≡ stop → Goal ts) → ((u : Unit {0}) (us : List Kind) → f u us ≡ Err stop → Goal (kind.Sym s ∷ us)) → Goal ts
symbol_on {stop = stop} s ts Goal h one more = on h (λ e. one ((symbol_token s).stops ts stop e)) (λ u us e d. subst Goal (sym (expect_sound s ts (u, us) e)) (more u us d))

pub word_on : {B : Type 0} {f : Unit {0} → Parser B} {stop : Fault × List Kind} (w : Keyword) (ts : List Kind) (Goal : List Kind → Type 0) → and_then (expect_word w ts) f ≡ Err stop
    → ((NoTree, ts) ≡ stop → Goal ts) → ((u : Unit {0}) (us : List Kind) → f u us ≡ Err stop → Goal (kind.Word w ∷ us)) → Goal ts
word_on {stop = stop} w ts Goal h one more = on h (λ e. one ((word_token w).stops ts stop e)) (λ u us e d. subst Goal (sym (word_sound w ts (u, us) e)) (more u us d))

pub ident_on : {B : Type 0} {f : Text → Parser B} {stop : Fault × List Kind} (ts : List Kind) (Goal : List Kind → Type 0) → and_then (identifier ts) f ≡ Err stop
    → ((NoTree, ts) ≡ stop → Goal ts) → ((n : Text) (us : List Kind) → f n us ≡ Err stop → Goal (kind.Ident n ∷ us)) → Goal ts
ident_on {stop = stop} ts Goal h one more = on h (λ e. one (identifier_token.stops ts stop e)) (λ n us e d. subst Goal (sym (identifier_token.took ts (n, us) e)) (more n us d))

-- a symbol that ends the tree
pub ends_with : {B : Type 0} {f : Unit {0} → Parser B} {stop : Fault × List Kind} (s : Symbol) (ts : List Kind) → and_then (expect s ts) f ≡ Err stop → ((u : Unit {0}) (us : List Kind) → f u us ≡ Err stop → ⊥)
    → (NoTree, ts) ≡ stop
ends_with {stop = stop} s ts h over = (symbol_token s).stops ts stop (last h over)

pub choose : {A : Type 0} {x y z : A} {Goal : Type 0} (b : Bool) → cond b x y ≡ z → (b ≡ true → x ≡ z → Goal) → (b ≡ false → y ≡ z → Goal) → Goal
choose {x = x} {y = y} {z = z} b h one two =
    elim (chosen b x y z h) [
      | inl t ↦ one t.0 t.1
      | inr t ↦ two t.0 t.1
    ]

-- where a symbol or a word stands, or not
pub at_symbol : {A : Type 0} {p : Parser A} {y z : Outcome A} (s : Symbol) (ts : List Kind) (Goal : List Kind → Type 0) → cond (is_at s ts) (skipping p ts) y ≡ z
    → ((us : List Kind) → p us ≡ z → Goal (kind.Sym s ∷ us)) → (is_at s ts ≡ false → y ≡ z → Goal ts) → Goal ts
at_symbol s [] Goal h one two = two refl h
at_symbol s (token ∷ us) Goal h one two = choose (is_at s (token ∷ us)) h (λ t g. subst (λ token. Goal (token ∷ us)) (sym (is_symbol_is s token t)) (one us g)) two

pub at_word : {A : Type 0} {p : Parser A} {y z : Outcome A} (w : Keyword) (ts : List Kind) (Goal : List Kind → Type 0) → cond (is_at_word w ts) (skipping p ts) y ≡ z
    → ((us : List Kind) → p us ≡ z → Goal (kind.Word w ∷ us)) → (is_at_word w ts ≡ false → y ≡ z → Goal ts) → Goal ts
at_word w [] Goal h one two = two refl h
at_word w (token ∷ us) Goal h one two = choose (is_at_word w (token ∷ us)) h (λ t g. subst (λ token. Goal (token ∷ us)) (sym (is_word_is w token t)) (one us g)) two

-- a token that forces so many levels
pub forces : {A : Type 0} {o : Outcome A} {stop : Fault × List Kind} {Goal : Type 0} (room levels : ℕ) (token : Kind) (ts : List Kind) → cond (ltb room levels) (Err (TooDeep, token ∷ ts)) o ≡ Err stop
    → (ltb room levels ≡ true → (TooDeep, token ∷ ts) ≡ stop → Goal) → (levels ≤ room → o ≡ Err stop → Goal) → Goal
forces room levels token ts h one two = choose (ltb room levels) h (λ t g. one t (err_is g)) (λ f g. two (ltb-false room levels f) g)

-- ---- lists

pub leading_many : {A : Type 0} (write : A → List Kind → List Kind) → ((a : A) → Leading (write a)) → (all : List A) → Leading (write_many write all)
leading_many write each [] = leading_nothing
leading_many write each (a ∷ all) = leading_then (each a) (leading_many write each all)

pub many_append : {A : Type 0} (write : A → List Kind → List Kind) (all more : List A) (z : List Kind) → write_many write (all ++ more) z ≡ write_many write all (write_many write more z)
many_append write [] more z = refl
many_append write (a ∷ all) more z = ap (write a) (many_append write all more z)

deepest_append : {A : Type 0} (depth : A → ℕ) (room : ℕ) (all more : List A) → deepest depth all ≤ room → deepest depth more ≤ room → deepest depth (all ++ more) ≤ room
deepest_append depth room [] more l m = m
deepest_append depth room (a ∷ all) more l m = let n = deepest_append depth room all more (omega arith) m in omega arith

-- items that were read, and then more
pub shaped_append : {A : Type 0} {Is : A → Type 0} {Shape : A → Type 0} → ((a : A) → Is a → Shape a) → (all more : List A) → AllByRecursion Is all → AllByRecursion Shape more → AllByRecursion Shape (all ++ more)
shaped_append shape [] more h g = g
shaped_append shape (a ∷ all) more h g = (shape a h.0, shaped_append shape all more h.1 g)

-- of trees without levels
abbrev pub flat : {A : Type 0} → A → ℕ
flat a = 0

pub flat_list : {A : Type 0} (room : ℕ) (all : List A) → deepest flat all ≤ room
flat_list room [] = omega arith
flat_list room (a ∷ all) = let l = flat_list room all in omega arith

pub either : (b c : Bool) → (b || c) ≡ true → (b ≡ true) ⊎ (c ≡ true)
either true c h = inl refl
either false c h = inr h

-- where a list stops: Q says what list it is, and an item may be missing altogether where there is no level for it
pub many_grow : {A : Type 0} {Q : List A → Type 0} (depth : A → ℕ) (starts : Option Kind → Bool) (item : Parser A) (silent : starts None ≡ false) (Is : A → Type 0) (write : A → List Kind → List Kind) (sound : Sound Is write item)
    (longer : (a : A) (rest : List Kind) → Is a → suc (length rest) ≤ length (write a rest)) (room : ℕ)
    → ((a : A) → Leading (write a)) → ((all more : List A) → AllByRecursion Is all → Q more → Q (all ++ more)) → ((all : List A) → AllByRecursion Is all → deepest depth all ≤ room)
    → (ts : List Kind) (stop : Fault × List Kind) → many starts item ts ≡ Err stop
    → ((us : List Kind) → starts (first us) ≡ true → item us ≡ Err stop → Growing (Low Q (deepest depth)) (write_many write) room us stop) → Growing (Low Q (deepest depth)) (write_many write) room ts stop
many_grow {Q = Q} depth starts item silent Is write sound longer room leading extends low ts stop h one =
    let s = list_stop starts item silent Is write sound longer ts stop h in
    subst (λ ts. Growing (Low Q (deepest depth)) (write_many write) room ts stop) (sym s.split)
    (part (leading_many write leading s.all) (λ more. s.all ++ more) (λ z. z) (λ more z. many_append write s.all more z) (λ more q. extends s.all more s.are q) (λ more l. deepest_append depth room s.all more (low s.all s.are) l)
    (one s.rest s.begun s.stopped))

-- one item
pub one_of : {A : Type 0} {Q : List A → Type 0} {Shape : A → Type 0} {depth : A → ℕ} {write : A → List Kind → List Kind} {room : ℕ} {ts : List Kind} {stop : Fault × List Kind} → ((a : A) → Shape a → Q (a ∷ []))
    → Growing (Low Shape depth) write room ts stop → Growing (Low Q (deepest depth)) (write_many write) room ts stop
one_of is g = part leading_nothing (λ a. a ∷ []) (λ z. z) (λ a z. refl) is (λ a l. omega arith) g
