-- The parameter types of methods and constructors, and numbers of their signatures (JLS 8.4.2).
use Rattle.std.specs.Prelude.{◌≡◌, ℕ, ◌+◌, ◌≤◌, ◌<◌, Bool, true, false, List, [], ◌∷◌, ◌++◌, length, take, drop, Option, Some, None, option_map, slice_index_or, slice_get, if◌then◌else◌, nat_eq, nat_le}
use Rattle.jr_tree.specs.declared.label.Role.TheVariants as role
use Rattle.jr_tree.specs.Rows.{Rows, role_at}
use Rattle.jr_defs.specs.declared.referent.Element.{Element}
use Rattle.jr_defs.specs.declared.referent.Element.TheVariants as element
use Rattle.jr_defs.specs.declared.referent.RowType.{RowType}
use Rattle.jr_defs.specs.Referents.{Table}
use Rattle.jr_plain.specs.Types.{before, type_of_declared, parameters, parameters_from}
use Rattle.jr_plain.specs.Same.{same_role}
use Rattle.jr_places.specs.declared.numbering.Numbering.{Numbering}
use Rattle.jr_places.specs.Numbers.{number_in, IsOneToOne, IsNumbering, Keeps, IsNumberOf}
use Rattle.jr_places.specs.Names.{name_row}
use Rattle.jr_supers.specs.declared.signatures.Signature.{Signature}
use Rattle.jr_supers.specs.declared.signatures.Signatures as code
use Rattle.jr_supers.specs.Tabled.{is_callable}

-- the number of an element type among its kind, and the row of a class
abbrev pub kind_of : Element → ℕ
kind_of element.Boolean = 0
kind_of element.Byte = 1
kind_of element.Short = 2
kind_of element.Char = 3
kind_of element.Int = 4
kind_of element.Long = 5
kind_of element.Null = 6
kind_of element.Void = 7
kind_of (element.Class c) = 8

abbrev pub row_of : Element → ℕ
row_of (element.Class c) = c
row_of _ = 0

-- a list with the numbers of one type more, from the last back
abbrev pub with_type : RowType → List ℕ → List ℕ
with_type a xs = a.dims ∷ row_of a.element ∷ kind_of a.element ∷ xs

abbrev pub with_types : List RowType → List ℕ → List ℕ
with_types [] xs = xs
with_types (a ∷ more) xs = with_types more (with_type a xs)

-- the types of the parameters behind others, if all are found
abbrev pub behind : List RowType → Option (List RowType) → Option (List RowType)
behind done None = None
behind done (Some more) = Some (done ++ more)

-- the type of a parameter before others
abbrev pub with_parameter : Rows → Table → ℕ → Option (List RowType) → Option (List RowType)
with_parameter p t k rest = if same_role (role_at p k) role.Parameter then before (type_of_declared p t k) rest else rest

abbrev pub behind_if : Bool → List RowType → Option (List RowType) → Option (List RowType)
behind_if true done rest = behind done rest
behind_if false done rest = None

-- what stands behind others, where it was found
abbrev pub found_if : Bool → List RowType → Option (List RowType)
found_if true all = Some all
found_if false all = None

-- some types of a list
abbrev pub part : List RowType → ℕ → ℕ → List RowType
part types first count = take count (drop first types)

abbrev pub number_of : Option Signature → Option ℕ
number_of s = option_map (λ s. s.number) s

-- the type of a parameter in the list of all
abbrev pub parameter_in : List RowType → ℕ → Option Signature → Option RowType
parameter_in types nth None = None
parameter_in types nth (Some s) = if nat_le s.count nth then None else slice_get types (s.first + nth)

-- an item of a list that was found
abbrev pub nth_of : Option (List RowType) → ℕ → Option RowType
nth_of None nth = None
nth_of (Some all) nth = slice_get all nth

-- both have numbers, which are one
abbrev pub same_numbers : Option ℕ → Option ℕ → Bool
same_numbers (Some a) (Some b) = nat_eq a b
same_numbers _ _ = false

-- the next child of m may be k, behind the parameters that are done
abbrev pub IsParameterAt : Rows → Table → List RowType → List RowType → ℕ → ℕ → ℕ → Type 0
IsParameterAt p t start done m room k = behind done (parameters_from p t m room k) ≡ behind start (parameters p t m)

-- ---- numbers

-- the list that the first number has, with more behind it, has the second one now
pub record Continues (old new : Numbering) (list number : ℕ) (more : List ℕ → List ℕ) : Type 0 where
  pub is : (before : List ℕ) → IsNumberOf (number_in old) list before → IsNumberOf (number_in new) number (more before)
  pub kept : Keeps old new
  pub counted : IsNumbering new

-- the list that the first number has, with those types behind it that stand before the rest, has the second one now
pub record ContinuesTo (old now : Numbering) (list number : ℕ) (all rest : List RowType) : Type 0 where
  pub is : (before : List ℕ) → IsNumberOf (number_in old) list before → (xs : List ℕ) × IsNumberOf (number_in now) number xs × (with_types rest xs ≡ with_types all before)
  pub kept : Keeps old now
  pub counted : IsNumbering now

pub record IsPart (s : Signature) (first count number : ℕ) : Type 0 where
  pub first_is : s.first ≡ first
  pub count_is : s.count ≡ count
  pub number_is : s.number ≡ number

-- the signature of a name with these types, which stand at the end
pub record AddsTo (old new : Numbering) (types more : List RowType) (name : ℕ) (own : List RowType) (s : Signature) : Type 0 where
  pub is : IsNumberOf (number_in new) s.number (with_types own (name ∷ []))
  pub kept : Keeps old new
  pub counted : IsNumbering new
  pub types_are : more ≡ types ++ own
  pub first_is : s.first ≡ length types
  pub count_is : s.count ≡ length own

-- what is kept of the row n is its signature
abbrev pub IsSignatureOf : Rows → Table → (ℕ → ℕ → Option ℕ) → List RowType → ℕ → Option Signature → Type 0
IsSignatureOf p t numbers types n None = is_callable (role_at p n) ≡ true → parameters p t n ≡ None
IsSignatureOf p t numbers types n (Some s) = (is_callable (role_at p n) ≡ true) × (parameters p t n ≡ Some (part types s.first s.count)) × (s.first + s.count ≤ length types)
    × IsNumberOf numbers s.number (with_types (part types s.first s.count) (name_row p n ∷ []))

-- these are the signatures of the methods and constructors
pub record AreSignatures (p : Rows) (t : Table) (signatures : code.Signatures) : Type 0 where
  pub numbers : ℕ → ℕ → Option ℕ
  pub one : IsOneToOne numbers
  pub each : (n : ℕ) → IsSignatureOf p t numbers signatures.types.items n (slice_index_or signatures.of_rows.items n None)

-- the signature of one row more
pub record AddsAt (p : Rows) (t : Table) (old new : Numbering) (types more : List RowType) (n : ℕ) (s : Option Signature) : Type 0 where
  pub is : IsSignatureOf p t (number_in new) more n s
  pub kept : Keeps old new
  pub counted : IsNumbering new
  pub rest : List RowType
  pub types_are : more ≡ types ++ rest

-- those of the first rows
pub record AreSignaturesTo (p : Rows) (t : Table) (numbers : Numbering) (types : List RowType) (of_rows : List (Option Signature)) (n : ℕ) : Type 0 where
  pub counted : IsNumbering numbers
  pub size : length of_rows ≡ n
  pub each : (k : ℕ) → k < n → IsSignatureOf p t (number_in numbers) types k (slice_index_or of_rows k None)
