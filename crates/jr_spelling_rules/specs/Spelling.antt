-- The spelling of a reference: the first way that fits, and for a call the first that does with each argument cast to the type of its parameter (JLS 15.12.2, 15.16).
use Rattle.std.specs.Prelude.{◌≡◌, ℕ, Bool, true, false, not, ◌&&◌, if◌then◌else◌, List, [], ◌∷◌, Option, Some, None, nat_lt}
use Rattle.std.specs.Option.{is_none}
use Rattle.jr_tree.specs.declared.label.NameKind.TheVariants as kind
use Rattle.jr_tree.specs.Rows.{Rows, sought_at}
use Rattle.jr_defs.specs.declared.referent.Element.{Element}
use Rattle.jr_defs.specs.declared.referent.Element.TheVariants as element
use Rattle.jr_defs.specs.declared.referent.Referent.{Referent}
use Rattle.jr_defs.specs.declared.referent.RowType.{RowType}
use Rattle.jr_defs.specs.Referents.{Table}
use Rattle.jr_plain.specs.Lookup.{arguments}
use Rattle.jr_plain.specs.Overloads.{Types}
use Rattle.jr_plain.specs.Types.{parameters}
use Rattle.jr_shapes.specs.declared.spelling.Shape.{Shape}
use Rattle.jr_shapes.specs.declared.spelling.TypeName.{TypeName}
use Rattle.jr_spelling_rules.specs.Candidates.{Candidate, added, candidates, is_call, target}
use Rattle.jr_spelling_rules.specs.Fitting.{Fits, IsFirstFit, HasNoFit, fits, first_such, found}

-- how a reference is written, what it refers to then, and what the identifiers of packages and types before it do
pub record Written : Type 0 where
  pub shape : Shape
  pub casts : List TypeName
  pub found : Referent
  pub trace : List Referent

-- ---- casts of arguments

-- a type as it is written in a cast, by the shortest end of its name that refers to it there
abbrev pub written_by : Rows → Table → ℕ → RowType → Element → Option TypeName
written_by p t n a (element.Class c) = elim (added p t n kind.Type c) [ Some it ↦ Some (record { element = a.element; count = it.suffix.count; dims = a.dims }) | None ↦ None ]
written_by p t n a element.Null = None
written_by p t n a element.Void = None
written_by p t n a _ = Some (record { element = a.element; count = 0; dims = a.dims })

abbrev pub written_type : Rows → Table → ℕ → RowType → Option TypeName
written_type p t n a = written_by p t n a a.element

abbrev pub one_more : Option TypeName → Option (List TypeName) → Option (List TypeName)
one_more (Some first) (Some rest) = Some (first ∷ rest)
one_more _ _ = None

abbrev pub written_types : Rows → Table → ℕ → List RowType → Option (List TypeName)
written_types p t n [] = Some []
written_types p t n (a ∷ rest) = one_more (written_type p t n a) (written_types p t n rest)

-- ---- spellings

abbrev pub as_written : Rows → Table → ℕ → List TypeName → Candidate → Written
as_written p t n casts c = record { shape = c.shape; casts = casts; found = found p t n c; trace = c.trace }

-- the types of the parameters of what a call must refer to, where there are any
abbrev pub some_types : Option (List RowType) → Option (List RowType)
some_types (Some (a ∷ rest)) = Some (a ∷ rest)
some_types _ = None

abbrev pub casts_to : Rows → Table → ℕ → Option (List RowType)
casts_to p t n = elim (target (t n)) [ Some d ↦ some_types (parameters p t d) | None ↦ None ]

module _ (p : Rows) (t : Table) (type_of : Types) (was_constant : ℕ → Bool) (first n : ℕ) where
  -- the ways to write it, its arguments having these types
  abbrev pub ways : Option (List RowType) → List Candidate
  ways all = candidates p t type_of all n first

  -- the types of its arguments are asked for, and that of one is not known
  abbrev pub lacks_types : Bool
  lacks_types = is_call (sought_at p n) && is_none (arguments p type_of n)

  -- its arguments may be cast
  abbrev pub may_cast : Bool
  may_cast = is_call (sought_at p n) && not (nat_lt n first)

  -- no way fits as the arguments stand
  abbrev pub HasNoPlainFit : Type 0
  HasNoPlainFit = lacks_types ≡ false → HasNoFit (Fits p t n was_constant) (ways (arguments p type_of n))

  -- its spelling
  pub data IsSpelling : Written → Type 0 where
    plain : {c : Candidate} → lacks_types ≡ false → IsFirstFit (Fits p t n was_constant) (ways (arguments p type_of n)) c → IsSpelling (as_written p t n [] c)
    cast : {c : Candidate} {all : List RowType} {names : List TypeName} → HasNoPlainFit → may_cast ≡ true → casts_to p t n ≡ Some all
        → IsFirstFit (Fits p t n was_constant) (ways (Some all)) c → written_types p t n all ≡ Some names → IsSpelling (as_written p t n names c)

  -- it has none
  pub record HasNoSpelling : Type 0 where
    pub no_plain : HasNoPlainFit
    pub no_cast : may_cast ≡ true → (all : List RowType) (names : List TypeName) → casts_to p t n ≡ Some all → written_types p t n all ≡ Some names
        → HasNoFit (Fits p t n was_constant) (ways (Some all))

  -- computed, where this tells which variables are constant
  module _ (variable : ℕ → Bool) where
    abbrev pub first_fit : Option (List RowType) → Option Candidate
    first_fit all = first_such (fits p t n was_constant variable) (ways all)

    abbrev pub uncast_spelling : Option Written
    uncast_spelling = if lacks_types then None else elim (first_fit (arguments p type_of n)) [ Some c ↦ Some (as_written p t n [] c) | None ↦ None ]

    abbrev pub with_casts : List RowType → Option Written
    with_casts all = elim (first_fit (Some all)) [
      | Some c ↦ elim (written_types p t n all) [ Some names ↦ Some (as_written p t n names c) | None ↦ None ]
      | None ↦ None
    ]

    abbrev pub cast_spelling : Option Written
    cast_spelling = elim (casts_to p t n) [ Some all ↦ with_casts all | None ↦ None ]

    abbrev pub spelling : Option Written
    spelling = elim uncast_spelling [ Some it ↦ Some it | None ↦ if may_cast then cast_spelling else None ]
