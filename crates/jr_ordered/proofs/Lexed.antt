-- The tokens that a text reads as stand apart.
use Rattle.std.proofs.Common.{◌≡◌, ℕ, zero, suc, ◌+◌, ◌<◌, ◌≤◌, ◌^◌, List, [], ◌∷◌, length, drop, refl, ap, arith}
use Rattle.std.specs.Prelude.{slice_get}
use Rattle.std.specs.List.{AllByRecursion}
use Rattle.jr_base.specs.Reading.{Reads, here, gap, token}
use Rattle.jr_base.specs.declared.token.Token.{Token}
use Rattle.jr_defs.specs.declared.program.UnitAt.{UnitAt}
use Rattle.jr_defs.specs.Program.{AreUnitsOf}
use Rattle.jr_lex.proofs.Classes.{token_some}
use Rattle.jr_marks.specs.Places.{AreApart, tokens_by}
use Rattle.jr_ordered.specs.Lexed.{TokensStandApart, UnitsHaveTokensApart}
use Rattle.jr_ordered.proofs.StandApart.{AreBehind, none_behind, joined}

-- the tokens stand behind the place where they begin
reads_behind : (bytes : List ℕ) (start stop : ℕ) (ts : List Token) → Reads bytes start ts stop → AreBehind start ts
reads_behind bytes start _ _ here = none_behind start
reads_behind bytes start stop ts (gap {end = end} g rest) =
    let behind = reads_behind bytes end stop ts rest in
    let more = g.1 in
    record { apart = behind.apart; begins = λ k d lt. let b = behind.begins k d lt in omega arith }
reads_behind bytes start stop (t ∷ ts) (token first longest rest) =
    let some = token_some (drop start bytes) longest.0 t.kind longest.2.stands in
    let more = longest.1 in
    joined start t ts ((omega arith, omega arith), reads_behind bytes t.span.end stop ts rest)

-- each has a byte of its own
reads_few : (bytes : List ℕ) (start stop : ℕ) (ts : List Token) → Reads bytes start ts stop → start + length ts ≤ stop
reads_few bytes start _ _ here = omega arith
reads_few bytes start stop ts (gap {end = end} g rest) = let behind = reads_few bytes end stop ts rest in let more = g.1 in omega arith
reads_few bytes start stop (t ∷ ts) (token first longest rest) =
    let some = token_some (drop start bytes) longest.0 t.kind longest.2.stands in
    let more = longest.1 in
    let behind = reads_few bytes t.span.end stop ts rest in omega arith

pub tokens_apart : TokensStandApart
tokens_apart bytes tokens lexed = record { apart = (reads_behind bytes 0 (length bytes) tokens lexed.reads).apart; few = (let few = reads_few bytes 0 (length bytes) tokens lexed.reads in omega arith) }

-- of each unit
record HasApart (ts : List Token) : Type 0 where
  apart : AreApart ts
  few : length ts < 2 ^ 32

no_tokens : HasApart []
no_tokens = record { apart = (none_behind 0).apart; few = omega arith }

unit_apart : (found : List (List ℕ × List ℕ)) (units : List UnitAt) → AreUnitsOf found units → AllByRecursion (λ file. length file.1 < 2 ^ 32) found → (u : ℕ) → HasApart (tokens_by (slice_get units u))
unit_apart _ _ AreUnitsOf.none small zero = no_tokens
unit_apart _ _ AreUnitsOf.none small (suc u) = no_tokens
unit_apart ((path, bytes) ∷ found) (one ∷ units) (AreUnitsOf.more is rest) small zero =
    let read = tokens_apart bytes one.tokens is.reads.lexed in let few = read.few in let least = small.0 in record { apart = read.apart; few = omega arith }
unit_apart ((path, bytes) ∷ found) (one ∷ units) (AreUnitsOf.more is rest) small (suc u) = unit_apart found units rest small.1 u

as_many : (found : List (List ℕ × List ℕ)) (units : List UnitAt) → AreUnitsOf found units → length units ≡ length found
as_many _ _ AreUnitsOf.none = refl
as_many (file ∷ found) (one ∷ units) (AreUnitsOf.more is rest) = ap suc (as_many found units rest)

pub units_apart : UnitsHaveTokensApart
units_apart found units are small two = record {
  prelude = (let many = as_many found units are in omega arith);
  apart = λ u. (unit_apart found units are small u).apart;
  counts = λ u. (unit_apart found units are small u).few;
}
