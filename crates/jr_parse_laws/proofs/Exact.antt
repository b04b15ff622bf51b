-- Readers that are exact in both directions, and the rules of a grammar: readers with what they read.
use Rattle.std.proofs.Common.{◌≡◌, ℕ, ◌≤◌, List, [], ◌∷◌, ◌++◌, Option, Ok, Err, refl, sym, ap, ◌∙◌, subst, ⊎_elim}
use Rattle.std.specs.Prelude.{⊤}
use Rattle.jr_base.specs.declared.text.Text.{Text}
use Rattle.jr_base.specs.declared.kind.Symbol.{Symbol}
use Rattle.jr_base.specs.declared.kind.Keyword.{Keyword}
use Rattle.jr_base.specs.declared.kind.Kind.{Kind}
use Rattle.jr_base.specs.declared.kind.Kind.TheVariants.{Word, Ident, Sym}
use Rattle.jr_parse_laws.specs.declared.fault.Fault.{Fault}
use Rattle.jr_parse_laws.specs.declared.fault.Fault.TheVariants.{NoTree}
use Rattle.jr_parse_laws.specs.Parsers.{first, Parser, expect, expect_word, identifier, is_symbol, is_word}
use Rattle.jr_parse_laws.specs.Viable.{Stuck}
use Rattle.jr_parse_laws.proofs.Outcomes.{chosen, ok_is, err_is, ok_err, err_ok, no_first, one_first, is_symbol_is, symbol_is, is_word_is, word_is}
use Rattle.jr_parse_laws.proofs.Stops.{none_here, leading_nothing}

pub record Parsed {A : Type 0} (Is : ℕ → A → Type 0) (write : A → List Kind → List Kind) (ends : A → Option Kind → Type 0) (room : ℕ) (ts : List Kind) (y : A × List Kind) : Type 0 where
  pub is : Is room y.0
  pub written : ts ≡ write y.0 y.1
  pub ended : ends y.0 (first y.1)

-- In the rooms that can hold a tree, reading gives what is written, and stops at the first token that no tree allows.
pub record Exact {A : Type 0} (Can : ℕ → Type 0) (Is : ℕ → A → Type 0) (write : A → List Kind → List Kind) (ends : A → Option Kind → Type 0) (read : ℕ → Parser A) : Type 0 where
  pub complete : (room : ℕ) (a : A) (rest : List Kind) → Is room a → ends a (first rest) → read room (write a rest) ≡ Ok (a, rest)
  pub sound : (room : ℕ) (ts : List Kind) (y : A × List Kind) → read room ts ≡ Ok y → Parsed Is write ends room ts y
  pub stuck : (room : ℕ) (ts : List Kind) (stop : Fault × List Kind) → Can room → read room ts ≡ Err stop → Stuck Is write read room ts stop.0 stop.1
  pub front : (a : A) (front rest : List Kind) → write a (front ++ rest) ≡ write a front ++ rest
  pub wider : (room other : ℕ) (a : A) → room ≤ other → Is room a → Is other a
  pub sample : (room : ℕ) → Can room → (a : A) × Is room a

-- a reader with its grammar: where there is room, what is a tree, how it is written, what cannot follow it
pub record Rule (A : Type 0) : Type 1 where
  pub Can : ℕ → Type 0
  pub Is : ℕ → A → Type 0
  pub write : A → List Kind → List Kind
  pub ends : A → Option Kind → Type 0
  pub read : ℕ → Parser A
  pub exact : Exact Can Is write ends read

-- ---- one token

abbrev pub any : {A : Type 0} → A → Option Kind → Type 0
any a o = ⊤

abbrev pub always : ℕ → Type 0
always room = ⊤

abbrev pub is_any : {A : Type 0} → ℕ → A → Type 0
is_any room a = ⊤

-- a reader of one token, told by that token alone
pub record OneToken {A : Type 0} (read : Parser A) (spelled : A → Kind) : Type 0 where
  pub takes : (a : A) (ts : List Kind) → read (spelled a ∷ ts) ≡ Ok (a, ts)
  pub took : (ts : List Kind) (y : A × List Kind) → read ts ≡ Ok y → ts ≡ spelled y.0 ∷ y.1
  pub stops : (ts : List Kind) (stop : Fault × List Kind) → read ts ≡ Err stop → (NoTree, ts) ≡ stop
  pub alone : (ts w : List Kind) → read ts ≡ Err (NoTree, ts) → first ts ≡ first w → read w ≡ Err (NoTree, w)

abbrev pub write_one : {A : Type 0} → (A → Kind) → A → List Kind → List Kind
write_one spelled a rest = spelled a ∷ rest

pub one_exact : {A : Type 0} (read : Parser A) (spelled : A → Kind) → A → OneToken read spelled → Exact always is_any (write_one spelled) any (λ room. read)
one_exact read spelled sample one = record {
  complete = λ room a rest is ended. one.takes a rest;
  sound = λ room ts y h. record { is = tt; written = one.took ts y h; ended = tt };
  stuck = λ room ts stop can h.
      let same = one.stops ts stop h in
      let gone : read ts ≡ Err (NoTree, ts) = h ∙ ap Err (sym same) in
      subst (λ (stop : Fault × List Kind). Stuck is_any (write_one spelled) (λ room. read) room ts stop.0 stop.1) same
      (none_here room ts (λ ts. ts) leading_nothing sample (λ z. spelled sample ∷ z) (λ z. refl) tt (λ r w le e. one.alone ts w gone e));
  front = λ a front rest. refl;
  wider = λ room other a le is. tt;
  sample = λ room can. (sample, tt);
}

abbrev pub one : {A : Type 0} (read : Parser A) (spelled : A → Kind) → A → OneToken read spelled → Rule A
one read spelled sample h = record { Can = always; Is = is_any; write = write_one spelled; ends = any; read = λ room. read; exact = one_exact read spelled sample h }

pub expect_sound : (s : Symbol) (ts : List Kind) (y : Unit {0} × List Kind) → expect s ts ≡ Ok y → ts ≡ Sym s ∷ y.1
expect_sound s [] y h = absurd (err_ok h)
expect_sound s (k ∷ ts) y h =
    ⊎_elim (λ t. ap (λ k. k ∷ ts) (is_symbol_is s k t.0) ∙ ap (λ (y : Unit {0} × List Kind). Sym s ∷ y.1) (ok_is t.1)) (λ t. absurd (err_ok t.1)) (chosen (is_symbol s k) _ _ _ h)

expect_stops : (s : Symbol) (ts : List Kind) (stop : Fault × List Kind) → expect s ts ≡ Err stop → (NoTree, ts) ≡ stop
expect_stops s [] stop h = err_is h
expect_stops s (k ∷ ts) stop h = ⊎_elim (λ t. absurd (ok_err t.1)) (λ t. err_is t.1) (chosen (is_symbol s k) _ _ _ h)

expect_alone : (s : Symbol) (ts w : List Kind) → expect s ts ≡ Err (NoTree, ts) → first ts ≡ first w → expect s w ≡ Err (NoTree, w)
expect_alone s [] w h e = rw (no_first w e) refl
expect_alone s (k ∷ ts) w h e =
    ⊎_elim (λ t. absurd (ok_err t.1)) (λ t. let v = one_first k w e in rw (v.1, t.0) refl) (chosen (is_symbol s k) _ _ _ h)

pub symbol_token : (s : Symbol) → OneToken (expect s) (λ u. Sym s)
symbol_token s = record {
  takes = λ u ts. rw symbol_is refl;
  took = expect_sound s;
  stops = expect_stops s;
  alone = expect_alone s;
}

-- a symbol
abbrev pub the : Symbol → Rule (Unit {0})
the s = one (expect s) (λ u. Sym s) tt (symbol_token s)

pub word_sound : (w : Keyword) (ts : List Kind) (y : Unit {0} × List Kind) → expect_word w ts ≡ Ok y → ts ≡ Word w ∷ y.1
word_sound w [] y h = absurd (err_ok h)
word_sound w (k ∷ ts) y h =
    ⊎_elim (λ t. ap (λ k. k ∷ ts) (is_word_is w k t.0) ∙ ap (λ (y : Unit {0} × List Kind). Word w ∷ y.1) (ok_is t.1)) (λ t. absurd (err_ok t.1)) (chosen (is_word w k) _ _ _ h)

word_stops : (v : Keyword) (ts : List Kind) (stop : Fault × List Kind) → expect_word v ts ≡ Err stop → (NoTree, ts) ≡ stop
word_stops v [] stop h = err_is h
word_stops v (k ∷ ts) stop h = ⊎_elim (λ t. absurd (ok_err t.1)) (λ t. err_is t.1) (chosen (is_word v k) _ _ _ h)

word_alone : (v : Keyword) (ts w : List Kind) → expect_word v ts ≡ Err (NoTree, ts) → first ts ≡ first w → expect_word v w ≡ Err (NoTree, w)
word_alone v [] w h e = rw (no_first w e) refl
word_alone v (k ∷ ts) w h e =
    ⊎_elim (λ t. absurd (ok_err t.1)) (λ t. let u = one_first k w e in rw (u.1, t.0) refl) (chosen (is_word v k) _ _ _ h)

pub word_token : (w : Keyword) → OneToken (expect_word w) (λ u. Word w)
word_token w = record {
  takes = λ u ts. rw word_is refl;
  took = word_sound w;
  stops = word_stops w;
  alone = word_alone w;
}

-- a word
abbrev pub the_word : Keyword → Rule (Unit {0})
the_word w = one (expect_word w) (λ u. Word w) tt (word_token w)

identifier_sound : (ts : List Kind) (y : Text × List Kind) → identifier ts ≡ Ok y → ts ≡ Ident y.0 ∷ y.1
identifier_sound [] y h = absurd (err_ok h)
identifier_sound (Ident name ∷ ts) y h = ap (λ (y : Text × List Kind). Ident y.0 ∷ y.1) (ok_is h)
identifier_sound (k ∷ ts) y h = absurd (err_ok h)

identifier_stops : (ts : List Kind) (stop : Fault × List Kind) → identifier ts ≡ Err stop → (NoTree, ts) ≡ stop
identifier_stops [] stop h = err_is h
identifier_stops (Ident name ∷ ts) stop h = absurd (ok_err h)
identifier_stops (k ∷ ts) stop h = err_is h

identifier_alone : (ts w : List Kind) → identifier ts ≡ Err (NoTree, ts) → first ts ≡ first w → identifier w ≡ Err (NoTree, w)
identifier_alone [] w h e = rw (no_first w e) refl
identifier_alone (Ident name ∷ ts) w h e = absurd (ok_err h)
identifier_alone (k ∷ ts) w h e = let v = one_first k w e in rw v.1 refl

pub identifier_token : OneToken identifier Ident
identifier_token = record {
  takes = λ name ts. refl;
  took = identifier_sound;
  stops = identifier_stops;
  alone = identifier_alone;
}

-- an identifier
abbrev pub an_identifier : Rule Text
an_identifier = one identifier Ident [] identifier_token
