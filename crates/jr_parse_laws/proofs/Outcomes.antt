-- Outcomes: what follows from one.
use Rattle.std.proofs.Common.{◌≡◌, Bool, true, false, cond, List, [], ◌∷◌, Some, None, Result, Ok, Err, refl, ap, ◌⊎◌, inl, inr, rules}
use denote.Enum.Bare.{same_true, true_same}
use Rattle.jr_base.specs.contracts.kind.Symbol.{the_type as symbol_type}
use Rattle.jr_base.specs.contracts.kind.Keyword.{the_type as word_type}
use Rattle.jr_base.specs.declared.kind.Symbol.{Symbol}
use Rattle.jr_base.specs.declared.kind.Keyword.{Keyword}
use Rattle.jr_base.specs.declared.kind.Kind.{Kind}
use Rattle.jr_base.specs.declared.kind.Kind.TheVariants.{Word, Sym}
use Rattle.jr_parse_laws.specs.declared.fault.Fault.{Fault}
use Rattle.jr_parse_laws.specs.declared.fault.Fault.TheVariants.{NoTree, TooDeep, OutOfMemory}
use Rattle.jr_parse_laws.specs.Parsers.{Outcome, Parser, and_then, Fails, Reads, first, is_symbol, is_word}

pub bind_ok : {A B : Type 0} (o : Outcome A) (f : A → Parser B) (y : B × List Kind) → and_then o f ≡ Ok y → (p : A × List Kind) × (o ≡ Ok p) × (f p.0 p.1 ≡ Ok y)
bind_ok (Ok p) f y e = (p, refl, e)
bind_ok (Err e) f y h = absurd (cc)

pub and_then_alike : {A B : Type 0} (o : Outcome A) (f g : A → Parser B) → ((a : A) (ts : List Kind) → f a ts ≡ g a ts) → and_then o f ≡ and_then o g
and_then_alike (Ok p) f g h = h p.0 p.1
and_then_alike (Err e) f g h = refl

pub and_then_when : {A B : Type 0} (o : Outcome A) (f g : A → Parser B) → ((a : A) (ts : List Kind) → o ≡ Ok (a, ts) → f a ts ≡ g a ts) → and_then o f ≡ and_then o g
and_then_when (Ok p) f g h = h p.0 p.1 refl
and_then_when (Err e) f g h = refl

pub chosen : {A : Type 0} (b : Bool) (x y z : A) → cond b x y ≡ z → ((b ≡ true) × (x ≡ z)) ⊎ ((b ≡ false) × (y ≡ z))
chosen true x y z e = inl (refl, e)
chosen false x y z e = inr (refl, e)

pub cond_alike : {A : Type 0} (b : Bool) (x y y' : A) → (b ≡ false → y ≡ y') → cond b x y ≡ cond b x y'
cond_alike true x y y' h = refl
cond_alike false x y y' h = h refl

pub cond_same : {A : Type 0} (b : Bool) (x x' y : A) → (b ≡ true → x ≡ x') → cond b x y ≡ cond b x' y
cond_same true x x' y h = h refl
cond_same false x x' y h = refl

pub some_is : {A : Type 0} {x y : A} → Some x ≡ Some y → x ≡ y
some_is e = cc

pub ok_is : {A : Type 0} {x y : A × List Kind} → ◌≡◌ {A = Outcome A} (Ok x) (Ok y) → x ≡ y
ok_is e = cc

pub err_is : {A : Type 0} {x y : Fault × List Kind} → ◌≡◌ {A = Outcome A} (Err x) (Err y) → x ≡ y
err_is e = cc

pub err_ok : {A : Type 0} {x : A × List Kind} {e : Fault × List Kind} → ◌≡◌ {A = Outcome A} (Err e) (Ok x) → ⊥
err_ok e = cc

pub ok_err : {A : Type 0} {x : A × List Kind} {e : Fault × List Kind} → ◌≡◌ {A = Outcome A} (Ok x) (Err e) → ⊥
ok_err e = cc

-- where a sequence stops
pub data Stops {A B : Type 0} (o : Outcome A) (f : A → Parser B) (stop : Fault × List Kind) : Type 0 where
  Before : o ≡ Err stop → Stops o f stop
  After : (a : A) (ts : List Kind) → o ≡ Ok (a, ts) → f a ts ≡ Err stop → Stops o f stop

pub stops : {A B : Type 0} (o : Outcome A) (f : A → Parser B) (stop : Fault × List Kind) → and_then o f ≡ Err stop → Stops o f stop
stops (Ok p) f stop e = After p.0 p.1 refl e
stops (Err x) f stop e = Before (ap Err (err_is e))

pub fails_on : {A B : Type 0} (o : Outcome A) (f : A → Parser B) (e : Fault) (new : List Kind) → Fails o e new → Fails (and_then o f) e new
fails_on o f NoTree new h = rw h refl
fails_on o f TooDeep new h = rw h refl
fails_on o f OutOfMemory new h = tt

-- ---- symbols and words

pub is_symbol_is : (s : Symbol) (k : Kind) → is_symbol s k ≡ true → k ≡ Sym s
is_symbol_is s (Sym t) e = ap Sym (same_true symbol_type (search rules) t s e)
is_symbol_is s _ e = absurd (cc)

pub symbol_is : (s : Symbol) → is_symbol s (Sym s) ≡ true
symbol_is s = true_same symbol_type s s refl

pub is_word_is : (w : Keyword) (k : Kind) → is_word w k ≡ true → k ≡ Word w
is_word_is w (Word v) e = ap Word (same_true word_type (search rules) v w e)
is_word_is w _ e = absurd (cc)

pub word_is : (w : Keyword) → is_word w (Word w) ≡ true
word_is w = true_same word_type w w refl

-- ---- the first token

pub no_first : (w : List Kind) → None ≡ first w → w ≡ []
no_first [] e = refl
no_first (k ∷ w) e = absurd (cc)

pub one_first : (k : Kind) (w : List Kind) → Some k ≡ first w → (rest : List Kind) × (w ≡ k ∷ rest)
one_first k [] e = absurd (cc)
one_first k (j ∷ w) e = (w, let same : j ≡ k = cc in ap (λ k. k ∷ w) same)

-- a fault that is handed on
pub reads_err : {A B : Type 0} (view : B → A) (o : Outcome A) (result : Result B Fault) (f : Fault) (new : List Kind) → result ≡ Err f → Fails o f new → Reads view o result new
reads_err view o result f new e h = rw e h
