-- What a shape finds is what its candidate finds, and the first that fits is the first of the candidates.
use Rattle.std.proofs.Common.{◌≡◌, refl, sym, ◌∙◌, ap, ap₂, subst, arith, ℕ, zero, suc, ◌+◌, ◌-◌, ◌<◌, ◌≤◌, Bool, true, false, cond, List, [], ◌∷◌, ◌++◌, length, Option, Some, None, nat_lt}
use Rattle.std.proofs.lemmas.Bool.{false≢true}
use Rattle.std.proofs.lemmas.Option.{none-some, same_Some}
use Rattle.jr_base.specs.declared.text.Text.{Text}
use Rattle.jr_tree.specs.declared.label.NameKind.{NameKind}
use Rattle.jr_tree.specs.declared.label.NameKind.TheVariants as kind
use Rattle.jr_tree.specs.declared.label.Sought.{Sought}
use Rattle.jr_tree.specs.Rows.{Rows, name, sought_at}
use Rattle.jr_defs.specs.declared.referent.Referent.{Referent}
use Rattle.jr_defs.specs.declared.referent.Referent.TheVariants as referent
use Rattle.jr_defs.specs.declared.referent.RowType.{RowType}
use Rattle.jr_defs.specs.Referents.{Table}
use Rattle.jr_places.specs.Names.{name_row}
use Rattle.jr_shapes.specs.declared.spelling.Shape.{Shape}
use Rattle.jr_shapes.specs.declared.spelling.Shape.TheVariants as shape
use Rattle.jr_shapes.specs.declared.spelling.Suffix.{Suffix}
use Rattle.jr_shapes.specs.Names.{has_own_identifier, named_by, suffix, target_of}
use Rattle.jr_plain.specs.Overloads.{Types}
use Rattle.jr_with.specs.World.{world_of}
use Rattle.jr_with.specs.With.{look_with}
use Rattle.jr_lookup.specs.Outward.{IsNumberOf}
use Rattle.jr_lookup.proofs.Looking.{named_first}
use Rattle.jr_spelling_rules.specs.Candidates as candidate
use Rattle.jr_spelling_rules.specs.Candidates.{Candidate}
use Rattle.jr_spelling_rules.specs.Fitting.{first_such, fits_so, found, receiver_type, through}
use Rattle.jr_spelling_rules.specs.Naming.{Before, at_start, in_package, in_type, kind_before, left_behind, look_up, name_behind, qualify}
use Rattle.jr_spell.specs.declared.fitting.Fit.{Fit}
use Rattle.jr_spell.specs.declared.fitting.Looked.{Looked}
use Rattle.jr_spell.specs.declared.fitting.Way.{Way}
use Rattle.jr_spell.specs.declared.reference.Reference.{Reference}
use Rattle.jr_spell.specs.declared.speller.Speller.{Speller}
use Rattle.jr_spell.specs.Packaging.{IsNumber}
use Rattle.jr_spell.specs.Adding.{AreNumbersOf}
use Rattle.jr_spell.specs.Standing.{texts_of}
use Rattle.jr_spell.specs.Forming.{form_by}
use Rattle.jr_spell.specs.Shaping.{IsGiven, IsLookedAs, AreLooked, way_of, fits_at, IsFitOf, IsFirstOf, kept_by_names, others_from}
use Rattle.jr_spell.specs.Spellers.{rows_of, table_of, is_constant_variable, was_constant, HasTarget, IsSought, number_by, fits_looked, fit_by}
use Rattle.jr_spell.proofs.Named.{number_is}
use Rattle.jr_spell.proofs.Packed.{is_number}

-- ---- the name that a reference gets

module _ (p : Rows) (n : ℕ) (lock : Referent) (there : n < length p) (target : HasTarget p lock) where
  target_within : (f : Referent) → f ≡ lock → target_of f n < length p
  target_within (referent.Declared d level) e = target d (ap candidate.target (sym e))
  target_within referent.Unbound e = there
  target_within referent.Ambiguous e = there
  target_within referent.ArrayLength e = there
  target_within referent.Package e = there

  named_within_by : (b : Bool) → cond b (target_of lock n) n < length p
  named_within_by true = target_within lock refl
  named_within_by false = there

  pub named_within : named_by p n lock < length p
  named_within = named_within_by (has_own_identifier p n)

  pub is_number_by : IsNumber p (number_by p n lock)
  is_number_by = is_number p (named_by p n lock) named_within

  pub number_found : (at r : ℕ) → at ≡ named_by p n lock → (at < length p → r ≡ name_row p at) → r ≡ number_by p n lock
  number_found at r e h = h (subst (λ k. k < length p) (sym e) named_within) ∙ ap (name_row p) e

-- ---- what is known of a reference

pub is_name_number : (s : Speller) (r : Reference) → IsSought s r → IsNumberOf (rows_of s) r.name (name (rows_of s) r.name)
is_name_number s r sought = number_is (rows_of s) r.name (subst (IsNumber (rows_of s)) (sym sought.name_is) (is_number_by (rows_of s) r.row r.lock sought.there sought.target_there))

pub form_of : (s : Speller) (r : Reference) → IsSought s r → r.form ≡ form_by (rows_of s) (table_of s) r.row (candidate.target (table_of s r.row)) r.sought
form_of s r sought = sought.form_is ∙ ap (form_by (rows_of s) (table_of s) r.row (candidate.target (table_of s r.row))) (sym sought.at_row.sought_is)

-- of what is no call no arguments are said
pub given_of : (r : Reference) (given : Option (List RowType)) {all : List RowType} → candidate.is_call r.sought ≡ false → IsGiven r given all
given_of r given uncalled called = absurd (false≢true (sym uncalled ∙ called))

-- ---- behind packages and types

module _ (p : Rows) (t : Table) (given : Option (List RowType)) (n : ℕ) (shape : Shape) (trace : List Referent) where
  abbrev seen_by : Before → Text → Bool → Referent
  seen_by b x call = look_with p (world_of p t) (candidate.with_arguments p t given n (left_behind b)) n x (cond call (candidate.method_behind b) (name_behind b (candidate.kind_of (sought_at p n))))

  arguments_away : (b : Before) (k : NameKind) (x : Text) → look_up p t n b k x ≡ look_with p (world_of p t) (candidate.with_arguments p t given n (left_behind b)) n x (name_behind b k)
  arguments_away at_start kind.Variable x = refl
  arguments_away at_start kind.Type x = refl
  arguments_away at_start kind.PackageOrType x = refl
  arguments_away at_start kind.Ambiguous x = refl
  arguments_away at_start kind.Package x = refl
  arguments_away (in_package path) kind.Variable x = refl
  arguments_away (in_package path) kind.Type x = refl
  arguments_away (in_package path) kind.PackageOrType x = refl
  arguments_away (in_package path) kind.Ambiguous x = refl
  arguments_away (in_package path) kind.Package x = refl
  arguments_away (in_type c) kind.Variable x = refl
  arguments_away (in_type c) kind.Type x = refl
  arguments_away (in_type c) kind.PackageOrType x = refl
  arguments_away (in_type c) kind.Ambiguous x = refl
  arguments_away (in_type c) kind.Package x = refl

  pub found_behind : (b : Before) (seeks : Sought) (number : ℕ) (a : Referent) → seeks ≡ sought_at p n → candidate.is_call seeks ≡ false → number ≡ number_by p n (t n)
      → a ≡ look_up p t n b (candidate.kind_of seeks) (name p number) → a ≡ found p t n (candidate.behind p t given n shape trace b)
  found_behind b seeks number a e uncalled is h = h ∙ ap₂ (λ s m. look_up p t n b (candidate.kind_of s) (name p m)) e is
      ∙ ap (look_up p t n b (candidate.kind_of (sought_at p n))) (named_first p (named_by p n (t n)))
      ∙ arguments_away b (candidate.kind_of (sought_at p n)) (name p (named_by p n (t n)))
      ∙ ap (seen_by b (name p (named_by p n (t n)))) (sym (ap candidate.is_call (sym e) ∙ uncalled))

  pub no_receiver : (b : Before) → None ≡ receiver_type p (candidate.with_arguments p t given n (left_behind b))
  no_receiver at_start = refl
  no_receiver (in_package path) = refl
  no_receiver (in_type c) = refl

  abbrev behind_by : Option (Before × List Referent) → List Candidate
  behind_by o = elim o as (λ _. List Candidate) [ Some q ↦ candidate.behind p t given n shape q.1 q.0 ∷ [] | None ↦ [] ]

module _ (s : Speller) (given : Option (List RowType)) (shape : Shape) where
  abbrev p : Rows
  p = rows_of s

  abbrev t : Table
  t = table_of s

  pub looked_nowhere : (n : ℕ) (names : List Text) → qualify p t n (kind_before (candidate.kind_of (sought_at p n))) at_start names ≡ None
      → AreLooked s n shape None (candidate.behind_names p t given n shape names)
  looked_nowhere n names e = subst (AreLooked s n shape None) (sym (ap (behind_by p t given n shape []) e)) AreLooked.none

  looked_as : (n : ℕ) (b : Before) (looked : Looked) (form : Bool) → looked.found ≡ found p t n (candidate.behind p t given n shape looked.trace.items b) → looked.way ≡ way_of looked.found form
      → form ≡ candidate.is_variable (sought_at p n) → IsLookedAs s n looked (candidate.behind p t given n shape looked.trace.items b)
  looked_as n b looked form found_is way_is form_is = record {
    found_is = found_is;
    trace_is = refl;
    receiver_is = ap (λ (w : Way). w.receiver) way_is ∙ no_receiver p t given n shape looked.trace.items b;
    level_is = ap (λ (w : Way). w.level) way_is ∙ ap candidate.level_of found_is;
    form_is = ap (λ (w : Way). w.is_constant_form) way_is ∙ form_is;
  }

  pub looked_behind : (n : ℕ) (names : List Text) (b : Before) (looked : Looked) (form : Bool)
      → qualify p t n (kind_before (candidate.kind_of (sought_at p n))) at_start names ≡ Some (b, looked.trace.items)
      → looked.found ≡ found p t n (candidate.behind p t given n shape looked.trace.items b) → looked.way ≡ way_of looked.found form → form ≡ candidate.is_variable (sought_at p n)
      → AreLooked s n shape (Some looked) (candidate.behind_names p t given n shape names)
  looked_behind n names b looked form e found_is way_is form_is = subst (AreLooked s n shape (Some looked)) (sym (ap (behind_by p t given n shape []) e)) (AreLooked.some refl (looked_as n b looked form found_is way_is form_is))

-- ---- the first that fits

module _ (test : Candidate → Bool) where
  pub first_front : (a b : List Candidate) (c : Candidate) → first_such test a ≡ Some c → first_such test (a ++ b) ≡ Some c
  first_front [] b c e = absurd (none-some c e)
  first_front (x ∷ a) b c e = by (first_front a b c) (test x) e
    where
      by : (first_such test a ≡ Some c → first_such test (a ++ b) ≡ Some c) → (v : Bool) → cond v (Some x) (first_such test a) ≡ Some c → cond v (Some x) (first_such test (a ++ b)) ≡ Some c
      by more true e = e
      by more false e = more e

  pub first_behind : (a b : List Candidate) → first_such test a ≡ None → first_such test (a ++ b) ≡ first_such test b
  first_behind [] b e = refl
  first_behind (x ∷ a) b e = by (first_behind a b) (test x) e
    where
      by : (first_such test a ≡ None → first_such test (a ++ b) ≡ first_such test b) → (v : Bool) → cond v (Some x) (first_such test a) ≡ None → cond v (Some x) (first_such test (a ++ b)) ≡ first_such test b
      by more true e = absurd (none-some x (sym e))
      by more false e = more e

module _ (s : Speller) (n : ℕ) where
  abbrev first_of : List Candidate → Option Candidate
  first_of all = first_such (λ c. fits_at s n c) all

  pub fit_none : {o : Option Fit} {q : Option Candidate} → IsFitOf s n o q → o ≡ None → q ≡ None
  fit_none IsFitOf.none e = refl
  fit_none (IsFitOf.some {f = f} a b c) e = absurd (none-some f (sym e))

  fit_some : {o : Option Fit} {q : Option Candidate} → IsFitOf s n o q → (f : Fit) → o ≡ Some f → q ≡ None → ⊥
  fit_some IsFitOf.none f e none = none-some f e
  fit_some (IsFitOf.some {c = c} x y z) f e none = none-some c (sym none)

  -- the first of some is the first of all of them and others behind
  pub fit_front : (a b : List Candidate) (f : Fit) → IsFirstOf s n a (Some f) → IsFirstOf s n (a ++ b) (Some f)
  fit_front a b f h = by (first_of a) refl h
    where
      by : (q : Option Candidate) → first_of a ≡ q → IsFitOf s n (Some f) q → IsFirstOf s n (a ++ b) (Some f)
      by (Some c) e h = subst (IsFitOf s n (Some f)) (sym (first_front (λ c. fits_at s n c) a b c e)) h
      by None e h = absurd (fit_some h f refl refl)

  -- none of some fits, so it is the first of those behind
  pub fit_behind : (a b : List Candidate) {none : Option Fit} (o : Option Fit) → IsFirstOf s n a none → none ≡ None → IsFirstOf s n b o → IsFirstOf s n (a ++ b) o
  fit_behind a b o before is h = subst (IsFitOf s n o) (sym (first_behind (λ c. fits_at s n c) a b (fit_none before is))) h

  module _ (r : Reference) (at : r.row ≡ n) (shape : Shape) where
    fit_at : {looked : Looked} {c : Candidate} → IsLookedAs s n looked c → c.shape ≡ shape → (b : Bool) → fits_at s n c ≡ b → IsFitOf s n (fit_by b shape looked) (cond b (Some c) None)
    fit_at h e true is = IsFitOf.some (sym e) h.found_is h.trace_is
    fit_at h e false is = IsFitOf.none

    fits_same : {looked : Looked} {c : Candidate} → IsLookedAs s n looked c → fits_looked s r looked ≡ fits_at s n c
    fits_same {looked} {c} h =
        ap₂ (λ m f. fits_so (rows_of s) (table_of s) (is_constant_variable s) (was_constant s) m f looked.way.receiver looked.way.level looked.way.is_constant_form) at h.found_is
        ∙ ap₂ (λ a l. fits_so (rows_of s) (table_of s) (is_constant_variable s) (was_constant s) n (found (rows_of s) (table_of s) n c) a l looked.way.is_constant_form) h.receiver_is h.level_is
        ∙ ap (fits_so (rows_of s) (table_of s) (is_constant_variable s) (was_constant s) n (found (rows_of s) (table_of s) n c) (receiver_type (rows_of s) c.left) (through (rows_of s) (table_of s) n c)) h.form_is

    pub fit_looked : {o : Option Looked} {all : List Candidate} → AreLooked s n shape o all → (looked : Looked) → o ≡ Some looked → (fit : Option Fit) → fit ≡ fit_by (fits_looked s r looked) shape looked → IsFirstOf s n all fit
    fit_looked AreLooked.none looked e fit is = absurd (none-some looked e)
    fit_looked (AreLooked.some {looked = one} {c = c} as_shape h) looked e fit is = let same = same_Some one looked e in
        subst (λ f. IsFitOf s n f (first_of (c ∷ []))) (sym (is ∙ ap (λ (w : Looked). fit_by (fits_looked s r w) shape w) (sym same) ∙ ap (λ b. fit_by b shape one) (fits_same h)))
        (fit_at h as_shape (fits_at s n c) refl)

  pub fit_nowhere : {shape : Shape} {o : Option Looked} {all : List Candidate} → AreLooked s n shape o all → o ≡ None → IsFirstOf s n all None
  fit_nowhere AreLooked.none e = IsFitOf.none
  fit_nowhere (AreLooked.some {looked = looked} x h) e = absurd (none-some looked (sym e))

-- behind a package or a type
pub behind_fits : (s : Speller) (r : Reference) (given : Option (List RowType)) (shape : Shape) (b : Before) (looked : Looked) (form : Bool) (fit : Option Fit)
    → looked.found ≡ found (rows_of s) (table_of s) r.row (candidate.behind (rows_of s) (table_of s) given r.row shape looked.trace.items b) → looked.way ≡ way_of looked.found form → form ≡ candidate.is_variable (sought_at (rows_of s) r.row)
    → fit ≡ fit_by (fits_looked s r looked) shape looked → IsFirstOf s r.row (candidate.behind (rows_of s) (table_of s) given r.row shape looked.trace.items b ∷ []) fit
behind_fits s r given shape b looked form fit found_is way_is form_is e = fit_looked s r.row r refl shape
    (AreLooked.some {c = candidate.behind (rows_of s) (table_of s) given r.row shape looked.trace.items b} refl (looked_as s given shape r.row b looked form found_is way_is form_is)) looked refl fit e

-- ---- the ends of the name of a type

module _ (s : Speller) (n : ℕ) (given : Option (List RowType)) (c : ℕ) where
  abbrev named : ℕ → List Candidate
  named more = candidate.named (rows_of s) (table_of s) given n c more

  abbrev from : ℕ → ℕ → List Candidate
  from more left = candidate.named_from (rows_of s) (table_of s) given n c more left

  from_step : (more left : ℕ) → 0 < left → from more left ≡ named more ++ from (suc more) (left - 1)
  from_step more zero lt = absurd (omega arith)
  from_step more (suc left) lt = let e : left ≡ suc left - 1 = omega arith in ap (λ k. named more ++ from (suc more) k) e

  -- the first of all ends is that of those from here on
  abbrev pub IsFrom : ℕ → ℕ → Type 0
  IsFrom count more = first_of s n (from 0 count) ≡ first_of s n (from more (count - more))

  pub from_start : (count : ℕ) → IsFrom count 0
  from_start count = let e : count ≡ count - 0 = omega arith in ap (λ k. first_of s n (from 0 k)) e

  pub from_later : (count more : ℕ) {none : Option Fit} → IsFrom count more → more < count → IsFirstOf s n (named more) none → none ≡ None → IsFrom count (more + 1)
  from_later count more h lt before is = let next : suc more ≡ more + 1 = omega arith in let left : count - more - 1 ≡ count - (more + 1) = omega arith in
      h ∙ ap (first_of s n) (from_step more (count - more) (omega arith)) ∙ first_behind (λ k. fits_at s n k) (named more) (from (suc more) (count - more - 1)) (fit_none s n before is)
      ∙ ap₂ (λ m k. first_of s n (from m k)) next left

  pub from_here : (count more : ℕ) (f : Fit) → IsFrom count more → more < count → IsFirstOf s n (named more) (Some f) → IsFirstOf s n (from 0 count) (Some f)
  from_here count more f h lt is = subst (IsFitOf s n (Some f)) (sym (h ∙ ap (first_of s n) (from_step more (count - more) (omega arith))))
      (fit_front s n (named more) (from (suc more) (count - more - 1)) f is)

  pub from_end : (count more : ℕ) → IsFrom count more → count ≤ more → IsFirstOf s n (from 0 count) None
  from_end count more h le = let none : count - more ≡ 0 = omega arith in subst (IsFitOf s n None) (sym (h ∙ ap (λ k. first_of s n (from more k)) none)) IsFitOf.none

-- ---- one end of the name of a type

module _ (s : Speller) (n : ℕ) (given : Option (List RowType)) (end : Suffix) (more : ℕ) (size : end.count ≡ suc more) (names : List ℕ)
    (are : AreNumbersOf (rows_of s) (candidate.texts (rows_of s) (candidate.behind_first (suffix (rows_of s) end.count end.of))) names) where
  end_is : end ≡ candidate.suffix_of end.of (suc more)
  end_is = ap (λ k. candidate.suffix_of end.of k) size

  spelled_before : texts_of (rows_of s) names ≡ candidate.names_before (rows_of s) end.of more
  spelled_before = are.spells ∙ ap (λ k. candidate.texts (rows_of s) (candidate.behind_first (suffix (rows_of s) k end.of))) size

  pub named_looked : (o : Option Looked) → AreLooked s n (shape.Named end) o (candidate.behind_names (rows_of s) (table_of s) given n (shape.Named end) (texts_of (rows_of s) names))
      → AreLooked s n (shape.Named end) o (candidate.named (rows_of s) (table_of s) given n end.of more)
  named_looked o h = subst (AreLooked s n (shape.Named end) o) (ap₂ (λ e xs. candidate.behind_names (rows_of s) (table_of s) given n (shape.Named e) xs) end_is spelled_before) h

some_length : (c : ℕ) (rest : List ℕ) → 0 < length (c ∷ rest)
some_length c rest = omega arith

length_of : (p : Rows) (k c : ℕ) → 0 < k → 0 < length (suffix p k c)
length_of p zero c lt = absurd (omega arith)
length_of p (suc k) c lt = some_length c _

pub name_positive : (p : Rows) (c : ℕ) → c < length p → 0 < candidate.name_length p c
name_positive p c lt = length_of p (length p) c (omega arith)

-- ---- the old shape

module _ (p : Rows) (t : Table) (given : Option (List RowType)) (n : ℕ) where
  abbrev kept_by : Option (List Text) → List Candidate
  kept_by o = elim o as (λ _. List Candidate) [ Some names ↦ candidate.behind_names p t given n shape.Kept names | None ↦ [] ]

  pub kept_is : (names : List Text) → candidate.kept_names p t n ≡ Some names → (all : List Text) → all ≡ names → candidate.behind_names p t given n shape.Kept all ≡ kept_by_names p t given n
  kept_is names e all same = ap (candidate.behind_names p t given n shape.Kept) same ∙ sym (ap kept_by e)

  pub kept_is_none : candidate.kept_names p t n ≡ None → [] ≡ kept_by_names p t given n
  kept_is_none e = sym (ap kept_by e)

  pub old_by_names : (type_of : Types) → candidate.is_by_names p t n ≡ true → kept_by_names p t given n ≡ candidate.old p t type_of given n
  old_by_names type_of e = sym (ap (λ b. cond b (kept_by_names p t given n) (candidate.as_it_stands p t type_of given n ∷ [])) e)

  pub old_standing : (type_of : Types) → candidate.is_by_names p t n ≡ false → candidate.as_it_stands p t type_of given n ∷ [] ≡ candidate.old p t type_of given n
  old_standing type_of e = sym (ap (λ b. cond b (kept_by_names p t given n) (candidate.as_it_stands p t type_of given n ∷ [])) e)

  pub others_gone : (first : ℕ) → nat_lt n first ≡ true → [] ≡ others_from p t given n first
  others_gone first e = sym (ap (λ b. cond b [] (candidate.others p t given n)) e)

  pub others_there : (first : ℕ) → nat_lt n first ≡ false → candidate.others p t given n ≡ others_from p t given n first
  others_there first e = sym (ap (λ b. cond b [] (candidate.others p t given n)) e)
