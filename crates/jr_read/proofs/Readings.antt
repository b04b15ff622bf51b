-- Files with their tokens and trees, one after another.
use Rattle.std.proofs.Common.{◌≡◌, ℕ, zero, suc, ◌+◌, ◌<◌, ◌≤◌, nat_lt, Bool, true, false, List, [], ◌∷◌, ◌++◌, length, map, get_or, Some, None, Ok, Err, Result, refl, sym, ap, subst, ◌∙◌, arith}
use Rattle.std.proofs.lemmas.Bool.{ltb-false}
use Rattle.std.specs.List.{AllByRecursion}
use Rattle.jr_tree.specs.Shape.{IsShaped}
use Rattle.jr_base.specs.declared.limits.Size.TheVariants as size
use Rattle.jr_base.specs.declared.limits.TheConstants.Limits as limits
use Rattle.jr_defs.specs.Program.{IsUnitOf, AreUnitsOf, none as no_units, more as more_units}
use Rattle.jr_defs.specs.Program.{prelude_files}
use Rattle.jr_defs.specs.Prelude.{lang_text, io_text}
use Rattle.jr_defs.specs.declared.program.UnitAt.{UnitAt}
use Rattle.std.specs.Prelude.{codes}
use Rattle.std.specs.FinMap as files
use Rattle.jr_base.specs.Files.{FileMap}
use Rattle.jr_defs.specs.declared.program.Program.{Program}
use Rattle.jr_base.specs.declared.ids.CuId.{CuId}
use Rattle.jr_base.specs.declared.token.Token.{Token}
use Rattle.jr_read.specs.Reading.{IsLexed, AreLexed, none, more, AreLexedUpTo, IsFaultOf, IsUnlexed, IsLexing, AreUnits, IsTreeOf, AreTrees, no_trees, more_trees, IsUnparsed, IsParsing, offset_of, ParsesAs, unit_files, ReadsAs, no_tokens, tokens as many_tokens, no_unit, program as one_program, memory}
use Rattle.jr_read.specs.declared.fault.ReadFault.{ReadFault}
use Rattle.jr_read.specs.declared.fault.ReadFault.TheVariants as fault
use Rattle.jr_read.specs.Sizes.{first_too_large}
use Rattle.jr_read.specs.declared.lexed.Lexed.{Lexed}

pub lexed_count : {fs : List (List ℕ × List ℕ)} {all : List Lexed} → AreLexed fs all → length all ≡ length fs
lexed_count none = refl
lexed_count (more one rest) = ap suc (lexed_count rest)

pub lexed_more : {fs : List (List ℕ × List ℕ)} {all : List Lexed} {path bytes : List ℕ} {one : Lexed} → AreLexed fs all → IsLexed path bytes one → AreLexed (fs ++ (path, bytes) ∷ []) (all ++ one ∷ [])
lexed_more none last = more last none
lexed_more (more one rest) last = more one (lexed_more rest last)

pub trees_more : {all : List Lexed} {units : List UnitAt} {one : Lexed} {u : UnitAt} → AreTrees all units → IsTreeOf one u → AreTrees (all ++ one ∷ []) (units ++ u ∷ [])
trees_more no_trees last = more_trees last no_trees
trees_more (more_trees one rest) last = more_trees one (trees_more rest last)

pub trees_count : {all : List Lexed} {units : List UnitAt} → AreTrees all units → length units ≡ length all
trees_count no_trees = refl
trees_count (more_trees one rest) = ap suc (trees_count rest)

pub trees_are_units : {all : List Lexed} {units : List UnitAt} → AreTrees all units → AreUnits all
trees_are_units no_trees = tt
trees_are_units (more_trees {u = u} one rest) = ((u.unit, one.reading), trees_are_units rest)

pub unit_of : {path bytes : List ℕ} {one : Lexed} {u : UnitAt} → IsLexed path bytes one → IsTreeOf one u → IsUnitOf path bytes u
unit_of {bytes = bytes} {one = one} {u = u} lexed tree = record {
  at = tree.at ∙ lexed.at;
  holds = tree.holds ∙ lexed.holds;
  reads = record {
    lexed = rw (sym tree.written) at lexed.reads;
    written = ap (map (λ t. t.kind)) tree.written ∙ sym tree.reading.written;
    shaped = tree.reading.shaped;
    shallow = tree.reading.low;
  };
}

pub units_of : {fs : List (List ℕ × List ℕ)} {all : List Lexed} {units : List UnitAt} → AreLexed fs all → AreTrees all units → AreUnitsOf fs units
units_of none no_trees = no_units
units_of (more lexed more_lexed) (more_trees tree trees) = more_units (unit_of lexed tree) (units_of more_lexed trees)

pub units_shaped : {fs : List (List ℕ × List ℕ)} {units : List UnitAt} → AreUnitsOf fs units → AllByRecursion IsShaped (map (λ u. u.unit) units)
units_shaped no_units = tt
units_shaped (more_units is rest) = (is.reads.shaped, units_shaped rest)

-- where no size passes its limit, there are at most 4,096 files
pub few_files : (fs : List (List ℕ × List ℕ)) → first_too_large fs ≡ None → length fs ≤ limits.FILES
few_files fs unlimited = decided (nat_lt limits.FILES (length fs)) refl
  where
    none_some : None ≡ Some size.Files → ⊥
    none_some e = cc

    first_many : nat_lt limits.FILES (length fs) ≡ true → first_too_large fs ≡ Some size.Files
    first_many many = rw many refl

    decided : (b : Bool) → nat_lt limits.FILES (length fs) ≡ b → length fs ≤ limits.FILES
    decided true many = absurd (none_some (sym unlimited ∙ first_many many))
    decided false few = ltb-false limits.FILES (length fs) few

-- ---- tokens, one file after another

append_one : {A : Type 0} (done rest : List A) (x : A) → (done ++ x ∷ []) ++ rest ≡ done ++ x ∷ rest
append_one [] rest x = refl
append_one (y ∷ done) rest x = ap (λ all. y ∷ all) (append_one done rest x)

pub append_none : {A : Type 0} (done : List A) → done ++ [] ≡ done
append_none [] = refl
append_none (y ∷ done) = ap (λ all. y ∷ all) (append_none done)

module _ (front found : List (List ℕ × List ℕ)) (all : List Lexed) where
  pub lexed_start : AreLexed front all → AreLexedUpTo front found all found
  lexed_start are = record { done = front; split = refl; lexed = are }

  pub lexed_end : AreLexedUpTo front found all [] → AreLexed (front ++ found) all
  lexed_end up_to = subst (λ (fs : List (List ℕ × List ℕ)). AreLexed fs all) (sym (append_none up_to.done) ∙ up_to.split) up_to.lexed

  module _ (path bytes : List ℕ) (rest : List (List ℕ × List ℕ)) (up_to : AreLexedUpTo front found all ((path, bytes) ∷ rest)) where
    pub lexed_step : (one : Lexed) → IsLexed path bytes one → AreLexedUpTo front found (all ++ one ∷ []) rest
    lexed_step one is = record {
      done = up_to.done ++ (path, bytes) ∷ [];
      split = append_one up_to.done rest (path, bytes) ∙ up_to.split;
      lexed = lexed_more up_to.lexed is;
    }

    pub lexing_stops : (cu : CuId) → cu.0 ≡ length all → (why : ReadFault) → IsUnlexed bytes cu why → IsLexing (front ++ found) why
    lexing_stops cu count (fault.Lex n why) is = record {
      front = up_to.done;
      file = (path, bytes);
      rest = rest;
      split = sym up_to.split;
      number = ap (λ (c : CuId). c.0) is.0 ∙ count ∙ lexed_count up_to.lexed;
      lexed = all;
      before = up_to.lexed;
      fault = is.1;
    }
    lexing_stops cu count fault.OutOfMemory is = tt
    lexing_stops cu count other is = absurd is

-- ---- trees, one file after another

pub parsing_stops : (lexed yielded rest : List Lexed) (one : Lexed) (units : List UnitAt) → lexed ≡ yielded ++ one ∷ rest → AreTrees yielded units → (cu : CuId) → cu.0 ≡ length units → (why : ReadFault)
    → IsUnparsed one cu why → IsParsing lexed why
parsing_stops lexed yielded rest one units split trees cu count (fault.Parse n why at) is = record {
  front = yielded;
  one = one;
  rest = rest;
  split = split;
  number = ap (λ (c : CuId). c.0) is.0 ∙ count ∙ trees_count trees;
  before = trees_are_units trees;
  fault = is.1;
  place = is.2;
}
parsing_stops lexed yielded rest one units split trees cu count fault.OutOfMemory is = tt
parsing_stops lexed yielded rest one units split trees cu count other is = absurd is

-- ---- offsets

pub offset_within : (tokens : List Token) (bytes : List ℕ) (number : ℕ) (token : Token) → number < length tokens → token ≡ get_or tokens number token → token.span.start ≡ offset_of tokens bytes number
offset_within [] bytes number token within is = absurd (omega arith)
offset_within (first ∷ tokens) bytes zero token within is = ap (λ (t : Token). t.span.start) is
offset_within (first ∷ tokens) bytes (suc number) token within is = offset_within tokens bytes number token (omega arith) is

pub offset_behind : (tokens : List Token) (bytes : List ℕ) (number : ℕ) → length tokens ≤ number → length bytes ≡ offset_of tokens bytes number
offset_behind [] bytes number behind = refl
offset_behind (first ∷ tokens) bytes zero behind = absurd (omega arith)
offset_behind (first ∷ tokens) bytes (suc number) behind = offset_behind tokens bytes number (omega arith)

-- ---- all together

module _ (found : FileMap) (lexed : List Lexed) (few : first_too_large (files.entries found) ≡ None) (are : AreLexed (unit_files found) lexed) where
  pub parsed_so : (result : Result Program ReadFault) → ParsesAs lexed result → ReadsAs found result
  parsed_so (Ok program) is = one_program few are is.0 (units_of are is.1)
  parsed_so (Err (fault.TooLarge size.Tokens)) is = many_tokens few are is
  parsed_so (Err (fault.TooLarge other)) is = absurd is
  parsed_so (Err (fault.Lex cu why)) is = absurd is
  parsed_so (Err (fault.Parse cu why at)) is = no_unit few are is.0 is.1
  parsed_so (Err fault.OutOfMemory) is = memory

pub lexing_so : (found : FileMap) → first_too_large (files.entries found) ≡ None → (why : ReadFault) → IsLexing (unit_files found) why → ReadsAs found (Err why)
lexing_so found few (fault.Lex cu why) is = no_tokens few is
lexing_so found few fault.OutOfMemory is = memory
lexing_so found few other is = absurd is

-- ---- the prelude

module _ (rest : List (List ℕ × List ℕ)) where
  pub lang_stops : (text : List ℕ) → text ≡ lang_text → (cu : CuId) → cu.0 ≡ 0 → (why : ReadFault) → IsUnlexed text cu why → IsLexing (prelude_files ++ rest) why
  lang_stops text is cu first (fault.Lex n why) unlexed = record {
    front = [];
    file = (codes "prelude/0", lang_text);
    rest = (codes "prelude/1", io_text) ∷ rest;
    split = refl;
    number = ap (λ (c : CuId). c.0) unlexed.0 ∙ first;
    lexed = [];
    before = none;
    fault = subst (λ (t : List ℕ). IsFaultOf t why) is unlexed.1;
  }
  lang_stops text is cu first fault.OutOfMemory unlexed = tt
  lang_stops text is cu first other unlexed = absurd unlexed

  pub io_stops : (lang : Lexed) (before_text text : List ℕ) → before_text ≡ lang_text → IsLexed (codes "prelude/0") before_text lang → text ≡ io_text → (cu : CuId) → cu.0 ≡ 1 → (why : ReadFault) → IsUnlexed text cu why
      → IsLexing (prelude_files ++ rest) why
  io_stops lang before_text text lang_is lexed is cu second (fault.Lex n why) unlexed = record {
    front = (codes "prelude/0", lang_text) ∷ [];
    file = (codes "prelude/1", io_text);
    rest = rest;
    split = refl;
    number = ap (λ (c : CuId). c.0) unlexed.0 ∙ second;
    lexed = lang ∷ [];
    before = more (subst (λ (t : List ℕ). IsLexed (codes "prelude/0") t lang) lang_is lexed) none;
    fault = subst (λ (t : List ℕ). IsFaultOf t why) is unlexed.1;
  }
  io_stops lang before_text text lang_is lexed is cu second fault.OutOfMemory unlexed = tt
  io_stops lang before_text text lang_is lexed is cu second other unlexed = absurd unlexed

pub prelude_lexed : (all : List Lexed) (lang io : Lexed) (lang_is io_is : List ℕ) → all ≡ lang ∷ io ∷ [] → lang_is ≡ lang_text → IsLexed (codes "prelude/0") lang_is lang → io_is ≡ io_text → IsLexed (codes "prelude/1") io_is io → AreLexed prelude_files all
prelude_lexed all lang io lang_is io_is are a lexed b lexed_too =
    subst (AreLexed prelude_files) (sym are) (more (subst (λ (t : List ℕ). IsLexed (codes "prelude/0") t lang) a lexed) (more (subst (λ (t : List ℕ). IsLexed (codes "prelude/1") t io) b lexed_too) none))

-- ---- one file more

length_more : {A : Type 0} (xs : List A) (x : A) → length (xs ++ x ∷ []) ≡ length xs + 1
length_more [] x = refl
length_more (y ∷ xs) x = omega (arith, length_more xs x)

pub counted : (all longer : List Lexed) (one : Lexed) (rest after : List (List ℕ × List ℕ)) (n : ℕ) {file : List ℕ × List ℕ} → longer ≡ all ++ one ∷ [] → rest ≡ file ∷ after → length all + length rest ≡ n → length longer + length after ≡ n
counted all longer one rest after n more_is rest_is count = omega (arith, ap length more_is, length_more all one, ap length rest_is, count)

pub lexed_on : (front found : List (List ℕ × List ℕ)) (all longer : List Lexed) (one : Lexed) → longer ≡ all ++ one ∷ [] → (path bytes : List ℕ) (rest after : List (List ℕ × List ℕ)) → rest ≡ (path, bytes) ∷ after
    → AreLexedUpTo front found all rest → IsLexed path bytes one → AreLexedUpTo front found longer after
lexed_on front found all longer one more_is path bytes rest after rest_is up_to is =
    subst (λ (xs : List Lexed). AreLexedUpTo front found xs after) (sym more_is)
    (lexed_step front found all path bytes after (subst (AreLexedUpTo front found all) rest_is up_to) one is)
