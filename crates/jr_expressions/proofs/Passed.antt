-- Parts that become arguments and lengths one by one.
use Rattle.std.proofs.Common.{◌≡◌, refl, sym, ◌∙◌, ap, subst, ℕ, zero, suc, ◌+◌, ◌<◌, ◌≤◌, ◌^◌, true, false, List, [], ◌∷◌, ◌++◌, append-nil, append_assoc, length, Option, Some, None, nat_lt, arith, drop}
use Rattle.std.proofs.lemmas.Bool.{false≢true}
use Rattle.std.proofs.lemmas.Bool.Decides.{Decides-ltb}
use Rattle.std.proofs.lemmas.Option.{none-some}
use Rattle.std.proofs.Math.Seq.{drop-length}
use Rattle.std.specs.Prelude.{option_map, slice_get}
use Rattle.jr_core.specs.declared.code.Code.{Code}
use Rattle.jr_defs.specs.declared.referent.RowType.{RowType}
use Rattle.jr_tree.specs.Rows.{end}
use Rattle.jr_codes.specs.declared.source.Source.{Source}
use Rattle.jr_codes.specs.Facts.{Facts}
use Rattle.jr_codes.specs.Making.{Below, code_if, BeginsFrom, Parted}
use Rattle.jr_codes.specs.Waiting.{top_before, StandsBefore}
use Rattle.jr_codes.specs.Conversions.{int, converted, Converts}
use Rattle.jr_expressions.specs.Calls.{before, arguments_as, arguments_by, arguments}
use Rattle.jr_expressions.specs.Expressions.{lengths}
use Rattle.jr_supers.specs.Signatures.{AreSignatures, nth_of}
use Rattle.jr_codes.specs.Reads.{rows_of, table_of, signatures_of, facts, Becomes}
use Rattle.jr_expressions.specs.Passing.{AddsArgument, TakesArguments, AddsLength, TakesLengths}
use Rattle.jr_expressions.proofs.Standing.{first_or, others, found_stands}
use Rattle.jr_expressions.proofs.Operated.{one_counted}

-- ---- the first part of those inside a row

pub record TopTaken (e r : ℕ) (a : Code) (now left rest : Below) : Type 0 where
  pub more : Below
  pub is : left ≡ (r, a) ∷ more
  pub parted : Parted e now more rest

not_behind : (e r : ℕ) → r < e → e ≤ r → ⊥
not_behind e r lt le = omega (arith, lt, le)

pub top_taken : (e r : ℕ) (a : Code) (now left rest : Below) → nat_lt r e ≡ true → Parted e ((r, a) ∷ now) left rest → TopTaken e r a now left rest
top_taken e r a now [] rest lt h = absurd (not_behind e r ((Decides-ltb r e).0 lt) (subst (BeginsFrom e) (sym h.is) h.after))
top_taken e r a now (p ∷ ps) rest lt h = record {
  more = ps;
  is = ap (λ x. x ∷ ps) (sym (ap (first_or (r, a)) h.is));
  parted = record { is = ap others h.is; inside = h.inside.1; after = h.after };
}

pub none_left : (e : ℕ) (now left rest : Below) → top_before e now ≡ false → Parted e now left rest → left ≡ []
none_left e now [] rest top h = refl
none_left e now (p ∷ ps) rest top h = absurd (false≢true (sym top ∙ ap (top_before e) h.is ∙ (Decides-ltb p.0 e).1 h.inside.0))

rest_left : (e : ℕ) (now left rest : Below) → left ≡ [] → Parted e now left rest → now ≡ rest
rest_left e now left rest none h = h.is ∙ ap (λ all. all ++ rest) none

shorter : (n m : ℕ) → m ≡ suc n → n < m
shorter n m is = omega (arith, is)

-- ---- codes that were made, before others

abbrev pub behind_made : List Code → Option (List Code) → Option (List Code)
behind_made all None = None
behind_made all (Some more) = Some (all ++ more)

made_more : (all : List Code) (a : Code) (o : Option (List Code)) → behind_made all (before (Some a) o) ≡ behind_made (all ++ a ∷ []) o
made_more all a None = refl
made_more all a (Some more) = ap Some (sym (append_assoc all (a ∷ []) more))

made_none : (o : Option (List Code)) → o ≡ behind_made [] o
made_none None = refl
made_none (Some more) = refl

length_more : (all : List Code) (a : Code) → length (all ++ a ∷ []) ≡ suc (length all)
length_more [] a = refl
length_more (x ∷ all) a = ap suc (length_more all a)

abbrev count_or : ℕ → Option ℕ → ℕ
count_or n None = n
count_or n (Some m) = m

abbrev type_or : RowType → Option RowType → RowType
type_or a None = a
type_or a (Some b) = b

drop_one : (types : List RowType) (k : ℕ) (to : RowType) → slice_get types k ≡ Some to → drop k types ≡ to ∷ drop (suc k) types
drop_one [] zero to h = absurd (none-some _ h)
drop_one [] (suc k) to h = absurd (none-some _ h)
drop_one (a ∷ types) zero to h = ap (λ o. type_or a o ∷ types) h
drop_one (a ∷ types) (suc k) to h = drop_one types k to h

-- ---- arguments

pub record ArgumentsLeft (s : Source) (m e : ℕ) (now parts rest : Below) (all : List Code) : Type 0 where
  pub left : Below
  pub parted : Parted e now left rest
  pub is : (types : List RowType) → (facts s).parameters m ≡ Some types → arguments_as (facts s) types parts ≡ behind_made all (arguments_as (facts s) (drop (length all) types) left)

pub record ArgumentsSo (s : Source) (m e : ℕ) (first now : Below) (all : List Code) : Type 0 where
  pub so : AreSignatures (rows_of s) (table_of s) (signatures_of s) → (parts rest : Below) → Parted e first parts rest → ArgumentsLeft s m e now parts rest all

pub arguments_none : (s : Source) (m e : ℕ) (first : Below) → ArgumentsSo s m e first first []
arguments_none s m e first = record {
  so = λ signed parts rest h. record { left = parts; parted = h; is = λ types has. made_none (arguments_as (facts s) types parts) };
}

one_argument : (f : Facts) (types : List RowType) (all : List Code) (to : RowType) (r : ℕ) (given made : Code) (left more : Below) → slice_get types (length all) ≡ Some to
    → left ≡ (r, given) ∷ more → converted f r to given ≡ Some made
    → behind_made all (arguments_as f (drop (length all) types) left) ≡ behind_made (all ++ made ∷ []) (arguments_as f (drop (suc (length all)) types) more)
one_argument f types all to r given made left more get is conv =
    ap (λ ts. behind_made all (arguments_as f ts left)) (drop_one types (length all) to get)
    ∙ ap (λ ps. behind_made all (arguments_as f (to ∷ drop (suc (length all)) types) ps)) is
    ∙ ap (λ o. behind_made all (before o (arguments_as f (drop (suc (length all)) types) more))) conv
    ∙ made_more all made (arguments_as f (drop (suc (length all)) types) more)

as_added : (f : Facts) (types : List RowType) (all after : List Code) (made : Code) (more : Below) → after ≡ all ++ made ∷ []
    → behind_made (all ++ made ∷ []) (arguments_as f (drop (suc (length all)) types) more) ≡ behind_made after (arguments_as f (drop (length after) types) more)
as_added f types all after made more adds =
    ap (λ k. behind_made (all ++ made ∷ []) (arguments_as f (drop k types) more)) (sym (length_more all made))
    ∙ ap (λ xs. behind_made xs (arguments_as f (drop (length xs) types) more)) (sym adds)

pub arguments_more : (s : Source) (m e row : ℕ) (first old new : Below) (all after : List Code) → ArgumentsSo s m e first old all → StandsBefore e old (Some row) → AddsArgument s m row old new all after
    → ArgumentsSo s m e first new after
arguments_more s m e row first old new all after so lt one = record {
  so = λ signed parts rest h.
      let was = so.so signed parts rest h in
      let top = top_taken e row one.takes.given new was.left rest lt (subst (λ now. Parted e now was.left rest) one.takes.was was.parted) in
      record {
        left = top.more;
        parted = top.parted;
        is = λ types has.
            was.is types has
            ∙ one_argument (facts s) types all one.to row one.takes.given one.made was.left top.more (sym (ap (λ o. nth_of o (length all)) has) ∙ one.wanted signed) top.is one.takes.is
            ∙ as_added (facts s) types all after one.made top.more one.adds;
      };
}

pub adds_argument : {s : Source} {m row : ℕ} {old new : Below} {all after : List Code} {to : RowType} {made : Code}
    → (AreSignatures (rows_of s) (table_of s) (signatures_of s) → nth_of ((facts s).parameters m) (length all) ≡ Some to) → Converts (facts s) row to old new made → after ≡ all ++ made ∷ []
    → AddsArgument s m row old new all after
adds_argument {to = to} {made = made} wanted takes adds = record { to = to; made = made; wanted = wanted; takes = takes; adds = adds }

pub argument_shorter : (s : Source) (m row : ℕ) (old new : Below) (all after : List Code) → AddsArgument s m row old new all after → length new < length old
argument_shorter s m row old new all after one = shorter (length new) (length old) (ap length one.takes.was)

no_more : (f : Facts) (types : List RowType) (all : List Code) → types ≡ [] → behind_made all (arguments_as f types []) ≡ Some all
no_more f types all none = ap (λ ts. behind_made all (arguments_as f ts [])) none ∙ ap Some (append-nil all)

some_count : (n m : ℕ) → Some n ≡ Some m → n ≡ m
some_count n m h = ap (λ o. count_or n o) h

some_types : (o : Option (List RowType)) (f : Facts) (parts : Below) (all : List Code) → option_map (λ types. length types) o ≡ Some (length all)
    → ((types : List RowType) → o ≡ Some types → length types ≡ length all → arguments_as f types parts ≡ Some all) → arguments_by o f parts ≡ Some all
some_types None f parts all count h = absurd (none-some _ count)
some_types (Some types) f parts all count h = h types refl (some_count (length types) (length all) count)

all_passed : (types : List RowType) (all : List Code) → length types ≡ length all → drop (length all) types ≡ []
all_passed types all count = ap (λ k. drop k types) (sym count) ∙ drop-length types

pub arguments_all : (s : Source) (m e : ℕ) (first now : Below) (all : List Code) → ArgumentsSo s m e first now all → StandsBefore e now None
    → (AreSignatures (rows_of s) (table_of s) (signatures_of s) → option_map (λ types. length types) ((facts s).parameters m) ≡ Some (length all)) → TakesArguments s m e first now all
arguments_all s m e first now all so none count = record {
  each = λ signed parts rest h.
      let was = so.so signed parts rest h in let empty = none_left e now was.left rest none was.parted in
      record {
        leaves = rest_left e now was.left rest empty was.parted;
        is = some_types ((facts s).parameters m) (facts s) parts all (count signed) (λ types has many.
            was.is types has ∙ ap (λ ps. behind_made all (arguments_as (facts s) (drop (length all) types) ps)) empty
            ∙ no_more (facts s) (drop (length all) types) all (all_passed types all many));
      };
}

pub arguments_become : {s : Source} {n m e : ℕ} {old mid new : Below} {all : List Code} (g : List Code → Code) → (n + 1 < 2 ^ 32 → e ≡ end (rows_of s) n) → TakesArguments s m e old mid all
    → new ≡ (n, g all) ∷ mid → Becomes s n (λ parts. code_if (option_map g (arguments (facts s) m parts))) old new
arguments_become {s} {n} {m} {e} {old} {mid} {new} {all} g same takes st = record {
  stands = λ read parts rest h lone.
      let taken = takes.each read.signatures parts rest (subst (λ k. Parted k old parts rest) (sym (same (one_counted read))) h) in
      found_stands (option_map g (arguments (facts s) m parts)) (g all) n parts rest new (ap (option_map g) taken.is) (st ∙ ap (λ r. (n, g all) ∷ r) taken.leaves);
}

-- ---- lengths

pub record LengthsLeft (f : Facts) (e : ℕ) (now parts rest : Below) (all : List Code) : Type 0 where
  pub left : Below
  pub parted : Parted e now left rest
  pub is : lengths f parts ≡ behind_made all (lengths f left)

pub record LengthsSo (f : Facts) (e : ℕ) (first now : Below) (all : List Code) : Type 0 where
  pub so : (parts rest : Below) → Parted e first parts rest → LengthsLeft f e now parts rest all

pub lengths_none : (f : Facts) (e : ℕ) (first : Below) → LengthsSo f e first first []
lengths_none f e first = record { so = λ parts rest h. record { left = parts; parted = h; is = made_none (lengths f parts) } }

pub lengths_more : (f : Facts) (e row : ℕ) (first old new : Below) (all after : List Code) → LengthsSo f e first old all → StandsBefore e old (Some row) → AddsLength f row old new all after
    → LengthsSo f e first new after
lengths_more f e row first old new all after so lt one = record {
  so = λ parts rest h.
      let was = so.so parts rest h in
      let top = top_taken e row one.takes.given new was.left rest lt (subst (λ now. Parted e now was.left rest) one.takes.was was.parted) in
      record {
        left = top.more;
        parted = top.parted;
        is = was.is ∙ ap (λ ps. behind_made all (lengths f ps)) top.is ∙ ap (λ o. behind_made all (before o (lengths f top.more))) one.takes.is
            ∙ made_more all one.made (lengths f top.more) ∙ ap (λ xs. behind_made xs (lengths f top.more)) (sym one.adds);
      };
}

pub adds_length : {f : Facts} {row : ℕ} {old new : Below} {all after : List Code} {made : Code} → Converts f row int old new made → after ≡ all ++ made ∷ [] → AddsLength f row old new all after
adds_length {made = made} takes adds = record { made = made; takes = takes; adds = adds }

pub length_shorter : (f : Facts) (row : ℕ) (old new : Below) (all after : List Code) → AddsLength f row old new all after → length new < length old
length_shorter f row old new all after one = shorter (length new) (length old) (ap length one.takes.was)

pub lengths_all : (f : Facts) (e : ℕ) (first now : Below) (all : List Code) → LengthsSo f e first now all → StandsBefore e now None → TakesLengths f e first now all
lengths_all f e first now all so none = record {
  each = λ parts rest h.
      let was = so.so parts rest h in let empty = none_left e now was.left rest none was.parted in
      record {
        leaves = rest_left e now was.left rest empty was.parted;
        is = was.is ∙ ap (λ ps. behind_made all (lengths f ps)) empty ∙ ap Some (append-nil all);
      };
}
