-- The types of arguments and parameters of calls, and their spellings with casts.
use Rattle.std.proofs.Common.{◌≡◌, refl, sym, ◌∙◌, ap, ap₂, subst, arith, ℕ, zero, suc, ◌+◌, ◌<◌, ◌≤◌, Bool, true, false, not, ◌&&◌, cond, List, [], ◌∷◌, ◌++◌, append_assoc, append-nil, drop, length, Option, Some, None, option_map, nat_eq, nat_lt}
use Rattle.std.specs.Prelude.{slice_get}
use Rattle.std.specs.Option.{is_none}
use Rattle.std.proofs.Math.Dec.{eqb-suc-zero}
use Rattle.std.proofs.lemmas.Bool.{false≢true}
use Rattle.std.proofs.lemmas.List.{drop_all}
use Rattle.std.proofs.lemmas.Option.{none-some, same_Some}
use Rattle.jr_tree.specs.declared.label.Label.{Label}
use Rattle.jr_tree.specs.declared.label.Label.TheVariants as is
use Rattle.jr_tree.specs.declared.label.NameKind.{NameKind}
use Rattle.jr_tree.specs.declared.label.NameKind.TheVariants as kind
use Rattle.jr_tree.specs.declared.label.ReceiverKind.TheVariants as on
use Rattle.jr_tree.specs.declared.label.Sought.{Sought}
use Rattle.jr_tree.specs.Labels.{name_sought, sought_by}
use Rattle.jr_tree.specs.Rows.{Rows, end, label, sought_at}
use Rattle.jr_defs.specs.declared.referent.Element.{Element}
use Rattle.jr_defs.specs.declared.referent.Element.TheVariants as element
use Rattle.jr_defs.specs.declared.referent.Referent.{Referent}
use Rattle.jr_defs.specs.declared.referent.RowType.{RowType}
use Rattle.jr_defs.specs.Lookup.{arguments_by}
use Rattle.jr_defs.specs.Referents.{Table}
use Rattle.jr_plain.specs.Lookup.{arguments}
use Rattle.jr_plain.specs.Types.{parameters}
use Rattle.jr_supers.specs.Signatures.{nth_of}
use Rattle.jr_shapes.specs.declared.spelling.Spelling.{Spelling}
use Rattle.jr_shapes.specs.declared.spelling.TypeName.{TypeName}
use Rattle.jr_spelling_rules.specs.Candidates as candidate
use Rattle.jr_spelling_rules.specs.Candidates.{Candidate}
use Rattle.jr_spelling_rules.specs.Fitting.{first_such}
use Rattle.jr_spelling_rules.specs.Spelling.{Written, one_more, some_types, written_by, written_type, written_types}
use Rattle.jr_spell.specs.declared.added.Added.{Added as Code}
use Rattle.jr_spell.specs.declared.fitting.Fit.{Fit}
use Rattle.jr_spell.specs.declared.speller.Speller.{Speller}
use Rattle.jr_spell.specs.Adding.{IsAdded}
use Rattle.jr_spell.specs.Calling as calling
use Rattle.jr_spell.specs.Calling.{begins_behind, parameters_of, AreFirst, AreWrittenTo, IsFit, type_name, type_by, uncast_at, with_casts_at, cast_to_at, cast_at, cast_here_at}
use Rattle.jr_spell.specs.Shaping.{IsFitOf, IsFirstOf, fits_at, plainly, spelling_at}
use Rattle.jr_spell.specs.Spellers.{rows_of, table_of, types_of}
use Rattle.jr_spell.specs.Spelling.{IsWritten}

-- ---- where arguments begin

module _ (p : Rows) (o : ℕ) where
  abbrev first_by : Bool → ℕ
  first_by b = cond b (end p (o + 1)) (o + 1)

  begins_name : (k : NameKind) (q : Bool) → first_by (begins_behind (name_sought k q)) ≡ o + 1
  begins_name kind.Package q = refl
  begins_name kind.Variable true = refl
  begins_name kind.Variable false = refl
  begins_name kind.Type true = refl
  begins_name kind.Type false = refl
  begins_name kind.PackageOrType true = refl
  begins_name kind.PackageOrType false = refl
  begins_name kind.Ambiguous true = refl
  begins_name kind.Ambiguous false = refl

  begins_at : (l : Label) → first_by (begins_behind (sought_by l)) ≡ arguments_by l p o
  begins_at (is.Name kind place is_qualified) = begins_name kind is_qualified
  begins_at (is.Call on.Expression) = refl
  begins_at (is.Call on.Name) = refl
  begins_at (is.Call on.Absent) = refl
  begins_at (is.Call on.Super) = refl
  begins_at (is.Break true) = refl
  begins_at (is.Break false) = refl
  begins_at (is.Continue true) = refl
  begins_at (is.Continue false) = refl
  begins_at _ = refl

  pub begins : (b : Bool) {first : ℕ} {s : Sought} → b ≡ begins_behind s → s ≡ sought_at p o → first ≡ first_by b → first ≡ arguments_by (label p o) p o
  begins b told at is = is ∙ ap first_by (told ∙ ap begins_behind at) ∙ begins_at (label p o)

-- ---- types of parameters

get_more : (xs : List RowType) (n : ℕ) (a : RowType) → slice_get xs n ≡ Some a → drop n xs ≡ a ∷ drop (suc n) xs
get_more [] n a e = absurd (none-some a e)
get_more (x ∷ xs) zero a e = ap (λ b. b ∷ xs) (same_Some x a e)
get_more (x ∷ xs) (suc n) a e = get_more xs n a e

get_none : (xs : List RowType) (n : ℕ) → slice_get xs n ≡ None → n < length xs → ⊥
get_none [] n e lt = absurd (omega arith)
get_none (x ∷ xs) zero e lt = none-some x (sym e)
get_none (x ∷ xs) (suc n) e lt = get_none xs n e (omega arith)

module _ (found : Option (List RowType)) where
  pub first_start : (all : List RowType) → all ≡ [] → AreFirst all 0 found
  first_start all e = subst (λ xs. AreFirst xs 0 found) (sym e) (by found)
    where
      by : (f : Option (List RowType)) → AreFirst [] 0 f
      by (Some more) = refl
      by None = refl

  pub first_next : (count n next : ℕ) (all more : List RowType) (a : RowType) {one : Option RowType} → option_map (λ all. length all) found ≡ Some count → AreFirst all n found → one ≡ nth_of found n → one ≡ Some a
      → more ≡ all ++ a ∷ [] → next ≡ suc n → AreFirst more next found
  first_next count n next all more a counted h is e m on = subst (λ k. AreFirst more k found) (sym on) (by found (sym is ∙ e) h)
    where
      by : (f : Option (List RowType)) → nth_of f n ≡ Some a → AreFirst all n f → AreFirst more (suc n) f
      by None e h = absurd (none-some a e)
      by (Some xs) e h = ap (λ ys. Some (ys ++ drop (suc n) xs)) m ∙ ap Some (append_assoc all (a ∷ []) (drop (suc n) xs)) ∙ sym (ap (λ ys. Some (all ++ ys)) (get_more xs n a e)) ∙ h

  pub first_lost : (count n : ℕ) {one : Option RowType} → option_map (λ all. length all) found ≡ Some count → n < count → one ≡ nth_of found n → one ≡ None → ⊥
  first_lost count n counted lt is e = by found counted (sym is ∙ e)
    where
      by : (f : Option (List RowType)) → option_map (λ all. length all) f ≡ Some count → nth_of f n ≡ None → ⊥
      by None c e = none-some count c
      by (Some xs) c e = let size = same_Some (length xs) count c in get_none xs n e (omega (arith, size, lt))

  pub first_end : (count n : ℕ) (all : List RowType) → option_map (λ all. length all) found ≡ Some count → count ≤ n → AreFirst all n found → Some all ≡ found
  first_end count n all counted le h = by found counted h
    where
      by : (f : Option (List RowType)) → option_map (λ all. length all) f ≡ Some count → AreFirst all n f → Some all ≡ f
      by None c h = absurd (none-some count c)
      by (Some xs) c h = let size = same_Some (length xs) count c in sym (ap Some (append-nil all)) ∙ sym (ap (λ ys. Some (all ++ ys)) (drop_all n xs (omega (arith, size, le)))) ∙ h

pub uncounted : (found : Option (List RowType)) {count : Option ℕ} → count ≡ option_map (λ all. length all) found → count ≡ None → None ≡ found
uncounted None is e = refl
uncounted (Some xs) is e = absurd (none-some (length xs) (sym e ∙ is))

module _ (p : Rows) (t : Table) (lock : Referent) where
  abbrev of_target : Option ℕ → Option (List RowType)
  of_target o = elim o as (λ _. Option (List RowType)) [ Some d ↦ parameters p t d | None ↦ None ]

  pub of_some : (d : ℕ) {o : Option ℕ} → o ≡ candidate.target lock → o ≡ Some d → parameters p t d ≡ parameters_of p t lock
  of_some d is e = ap of_target (sym e ∙ is)

  pub of_none : {o : Option ℕ} → o ≡ candidate.target lock → o ≡ None → None ≡ parameters_of p t lock
  of_none is e = ap of_target (sym e ∙ is)

-- ---- types as they are written

pub type_some : (a : RowType) {o : Option Code} {q : Option candidate.Added} → IsAdded o q → (code : Code) → o ≡ Some code → (name : TypeName) → name ≡ type_name a code.suffix.count → Some name ≡ type_by a q
type_some a IsAdded.none code e name is = absurd (none-some code e)
type_some a (IsAdded.some {a = one} suffix trace) code e name is = ap Some (is ∙ ap (λ (x : Code). type_name a x.suffix.count) (sym (same_Some one code e)) ∙ ap (λ s. type_name a s.count) suffix)

pub type_none : (a : RowType) {o : Option Code} {q : Option candidate.Added} → IsAdded o q → o ≡ None → None ≡ type_by a q
type_none a IsAdded.none e = refl
type_none a (IsAdded.some {a = one} suffix trace) e = absurd (none-some one (sym e))

module _ (p : Rows) (t : Table) (n : ℕ) where
  pub plain_written : (a : RowType) (e : Element) → ((c : ℕ) → e ≡ element.Class c → ⊥) → (e ≡ element.Null → ⊥) → (e ≡ element.Void → ⊥) → Some (type_name a 0) ≡ written_by p t n a e
  plain_written a (element.Class c) class null void = absurd (class c refl)
  plain_written a element.Null class null void = absurd (null refl)
  plain_written a element.Void class null void = absurd (void refl)
  plain_written a element.Boolean class null void = refl
  plain_written a element.Byte class null void = refl
  plain_written a element.Short class null void = refl
  plain_written a element.Char class null void = refl
  plain_written a element.Int class null void = refl
  plain_written a element.Long class null void = refl

  -- ---- of a list

  abbrev names : List RowType → Option (List TypeName)
  names types = written_types p t n types

  abbrev behind : List TypeName → Option (List TypeName) → Option (List TypeName)
  behind all rest = option_map (λ more. all ++ more) rest

  pub written_start : (types : List RowType) (all : List TypeName) → all ≡ [] → AreWrittenTo p t n types all types
  written_start types all e = ap (λ xs. behind xs (names types)) e ∙ by (names types)
    where
      by : (o : Option (List TypeName)) → behind [] o ≡ o
      by (Some more) = refl
      by None = refl

  put : (all : List TypeName) (name : TypeName) (rest : Option (List TypeName)) → behind (all ++ name ∷ []) rest ≡ behind all (one_more (Some name) rest)
  put all name None = refl
  put all name (Some more) = ap Some (append_assoc all (name ∷ []) more)

  pub written_next : (types : List RowType) (all more : List TypeName) (a : RowType) (rest whole : List RowType) (name : TypeName) {one : Option TypeName} → AreWrittenTo p t n types all whole → whole ≡ a ∷ rest → one ≡ written_type p t n a → one ≡ Some name
      → more ≡ all ++ name ∷ [] → AreWrittenTo p t n types more rest
  written_next types all more a rest whole name h w is e m = ap (λ xs. behind xs (names rest)) m ∙ put all name (names rest) ∙ ap (λ o. behind all (one_more o (names rest))) (sym e ∙ is) ∙ ap (λ xs. behind all (names xs)) (sym w) ∙ h

  lost : (o : Option (List TypeName)) → one_more None o ≡ None
  lost (Some more) = refl
  lost None = refl

  pub written_lost : (types : List RowType) (all : List TypeName) (a : RowType) (rest whole : List RowType) {one : Option TypeName} → AreWrittenTo p t n types all whole → whole ≡ a ∷ rest → one ≡ written_type p t n a → one ≡ None → None ≡ names types
  written_lost types all a rest whole h w is e = sym (ap (behind all) (lost (names rest))) ∙ ap (λ o. behind all (one_more o (names rest))) (sym e ∙ is) ∙ ap (λ xs. behind all (names xs)) (sym w) ∙ h

  pub written_end : (types : List RowType) (all : List TypeName) (rest : List RowType) → AreWrittenTo p t n types all rest → rest ≡ [] → Some all ≡ names types
  written_end types all rest h e = sym (ap Some (append-nil all)) ∙ ap (λ xs. behind all (names xs)) (sym e) ∙ h

-- ---- spellings

module _ (s : Speller) (n : ℕ) where
  -- the spelling that is the first has the candidate that is
  pub fit_is : {o : Option Fit} {q : Option Candidate} → IsFitOf s n o q → (f : Fit) → o ≡ Some f → (c : Candidate) × (q ≡ Some c) × IsFit s n f c
  fit_is IsFitOf.none f e = absurd (none-some f e)
  fit_is (IsFitOf.some {f = g} {c = c} shape found trace) f e = (c, refl, subst (λ f. IsFit s n f c) (same_Some g f e) (record { shape_is = shape; found_is = found; trace_is = trace }))

  pub fit_away : {o : Option Fit} {q : Option Candidate} → IsFitOf s n o q → o ≡ None → q ≡ None
  fit_away IsFitOf.none e = refl
  fit_away (IsFitOf.some {f = g} shape found trace) e = absurd (none-some g (sym e))

  abbrev first_at : List RowType → Option Candidate
  first_at types = first_such (λ c. fits_at s n c) (candidate.candidates (rows_of s) (table_of s) (types_of s) (Some types) n s.written)

  abbrev casts_by : List RowType → Option Candidate → Option Written
  casts_by types q = elim q as (λ _. Option Written) [ Some c ↦ calling.written_with s n c types | None ↦ None ]

  pub casts_first : (types : List RowType) (c : Candidate) → first_at types ≡ Some c → calling.written_with s n c types ≡ with_casts_at s n types
  casts_first types c e = sym (ap (casts_by types) e)

  pub casts_away : (types : List RowType) {none : Option Fit} → IsFirstOf s n (candidate.candidates (rows_of s) (table_of s) (types_of s) (Some types) n s.written) none → none ≡ None → IsWritten n None (with_casts_at s n types)
  casts_away types h e = subst (IsWritten n None) (sym (ap (casts_by types) (fit_away h e))) IsWritten.none

  -- there are types to cast to
  pub cast_empty : (types : List RowType) (b : Bool) → b ≡ nat_eq (length types) 0 → b ≡ true → IsWritten n None (cast_to_at s n (some_types (Some types)))
  cast_empty [] b is e = IsWritten.none
  cast_empty (a ∷ rest) b is e = absurd (false≢true (sym (eqb-suc-zero (length rest)) ∙ sym is ∙ e))

  pub cast_more : (types : List RowType) (b : Bool) → b ≡ nat_eq (length types) 0 → b ≡ false → with_casts_at s n types ≡ cast_to_at s n (some_types (Some types))
  cast_more [] b is e = absurd (false≢true (sym e ∙ is))
  cast_more (a ∷ rest) b is e = refl

  module _ (lock : Referent) (at : lock ≡ table_of s n) where
    abbrev cast_of : Option ℕ → Option Written
    cast_of o = cast_to_at s n (elim o as (λ _. Option (List RowType)) [ Some d ↦ some_types (parameters (rows_of s) (table_of s) d) | None ↦ None ])

    abbrev cast_by : Option (List RowType) → Option Written
    cast_by found = cast_to_at s n (some_types found)

    cast_all : (o : Option ℕ) → cast_by (of_target (rows_of s) (table_of s) lock o) ≡ cast_of o
    cast_all (Some d) = refl
    cast_all None = refl

    cast_is : cast_by (parameters_of (rows_of s) (table_of s) lock) ≡ cast_at s n
    cast_is = cast_all (candidate.target lock) ∙ ap (λ f. cast_of (candidate.target f)) at

    pub cast_some : (types : List RowType) {found : Option (List RowType)} → found ≡ parameters_of (rows_of s) (table_of s) lock → found ≡ Some types → cast_to_at s n (some_types (Some types)) ≡ cast_at s n
    cast_some types is e = ap cast_by (sym e ∙ is) ∙ cast_is

    pub cast_none : {found : Option (List RowType)} → found ≡ parameters_of (rows_of s) (table_of s) lock → found ≡ None → IsWritten n None (cast_at s n)
    cast_none is e = subst (IsWritten n None) (ap cast_by (sym e ∙ is) ∙ cast_is) IsWritten.none

  pub here_away : (b : Bool) → b ≡ nat_lt n s.written → b ≡ true → IsWritten n None (cast_here_at s n)
  here_away b is e = subst (IsWritten n None) (ap (λ b. cond b None (cast_at s n)) (sym e ∙ is)) IsWritten.none

  pub here_is : (b : Bool) → b ≡ nat_lt n s.written → b ≡ false → cast_at s n ≡ cast_here_at s n
  here_is b is e = ap (λ b. cond b None (cast_at s n)) (sym e ∙ is)

  -- ---- without casts, and then with them

  abbrev uncast_by : Bool → Option (List RowType) → Option Written
  uncast_by call found = cond (call && is_none found) None (plainly s n found)

  module _ (call : candidate.is_call (sought_at (rows_of s) n) ≡ true) where
    pub uncast_some : (types : List RowType) {found : Option (List RowType)} → found ≡ arguments (rows_of s) (types_of s) n → found ≡ Some types → plainly s n (Some types) ≡ uncast_at s n
    uncast_some types is e = ap₂ uncast_by (sym call) (sym e ∙ is)

    pub uncast_none : {found : Option (List RowType)} → found ≡ arguments (rows_of s) (types_of s) n → found ≡ None → IsWritten n None (uncast_at s n)
    uncast_none is e = subst (IsWritten n None) (ap₂ uncast_by (sym call) (sym e ∙ is)) IsWritten.none

    abbrev whole_by : Option Written → Option Written → Option Written
    whole_by plain rest = elim plain as (λ _. Option Written) [ Some it ↦ Some it | None ↦ rest ]

    unless_here : (b : Bool) → cond b None (cast_at s n) ≡ cond (not b) (cast_at s n) None
    unless_here true = refl
    unless_here false = refl

    whole_is : whole_by (uncast_at s n) (cast_here_at s n) ≡ spelling_at s n
    whole_is = ap (whole_by (uncast_at s n)) (unless_here (nat_lt n s.written) ∙ ap (λ b. cond (b && not (nat_lt n s.written)) (cast_at s n) None) (sym call))

    front : {o : Option Spelling} {q : Option Written} → IsWritten n o q → (a : Spelling) → o ≡ Some a → (rest : Option Written) → IsWritten n (Some a) (whole_by q rest)
    front IsWritten.none a e rest = absurd (none-some a e)
    front (IsWritten.some {a = b} {w = w} row shape casts found trace) a e rest = subst (λ a. IsWritten n (Some a) (Some w)) (same_Some b a e) (IsWritten.some row shape casts found trace)

    behind_none : {o : Option Spelling} {q : Option Written} → IsWritten n o q → o ≡ None → (r : Option Spelling) (rest : Option Written) → IsWritten n r rest → IsWritten n r (whole_by q rest)
    behind_none IsWritten.none e r rest h = h
    behind_none (IsWritten.some {a = b} row shape casts found trace) e r rest h = absurd (none-some b (sym e))

    pub whole_front : {o : Option Spelling} → IsWritten n o (uncast_at s n) → (a : Spelling) → o ≡ Some a → IsWritten n (Some a) (spelling_at s n)
    whole_front h a e = subst (IsWritten n (Some a)) whole_is (front h a e (cast_here_at s n))

    pub whole_behind : {o : Option Spelling} → IsWritten n o (uncast_at s n) → o ≡ None → (r : Option Spelling) → IsWritten n r (cast_here_at s n) → IsWritten n r (spelling_at s n)
    whole_behind h e r k = subst (IsWritten n r) whole_is (behind_none h e r (cast_here_at s n) k)

-- with casts
pub cast_written : {s : Speller} {n : ℕ} {f : Fit} {c : Candidate} → IsFit s n f c → (found : Option (List TypeName)) (all : List TypeName) → found ≡ Some all → (a : Spelling) → a.row ≡ n → a.shape ≡ f.shape → a.casts.items ≡ all → a.found ≡ f.found
    → a.trace.items ≡ f.trace.items → IsWritten n (Some a) (calling.written_by s n c found)
cast_written {s} {n} {f} {c} h found all e a row shape casts found_is trace = subst (λ o. IsWritten n (Some a) (calling.written_by s n c o)) (sym e)
    (IsWritten.some row (shape ∙ h.shape_is) casts (found_is ∙ h.found_is) (trace ∙ h.trace_is))

pub cast_unwritten : (s : Speller) (n : ℕ) (c : Candidate) (found : Option (List TypeName)) → found ≡ None → IsWritten n None (calling.written_by s n c found)
cast_unwritten s n c found e = subst (λ o. IsWritten n None (calling.written_by s n c o)) (sym e) IsWritten.none
