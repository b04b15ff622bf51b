-- Small programs of declarations alone, with tables made from the names in their headers, and the list of the rules that they break.
use Rattle.std.proofs.Common.{ℕ, cond, nat_eq, bytes_eq, ◌&&◌, ◌||◌, length, List, [], ◌∷◌, map, Option, Some, None, codes}
use Rattle.jr_base.specs.declared.text.Text.{Text}
use Rattle.jr_tree.specs.declared.tree.Base.TheVariants as base
use Rattle.jr_tree.specs.declared.tree.Primitive.TheVariants as primitive
use Rattle.jr_tree.specs.declared.tree.TypeUse.{TypeUse}
use Rattle.jr_tree.specs.declared.tree.Modifier.{Modifier}
use Rattle.jr_tree.specs.declared.tree.Modifier.TheVariants as modifier
use Rattle.jr_tree.specs.declared.tree.ResultType.{ResultType}
use Rattle.jr_tree.specs.declared.tree.ResultType.TheVariants as outcome
use Rattle.jr_tree.specs.declared.tree.Name.{Name}
use Rattle.jr_tree.specs.declared.tree.Import.{Import}
use Rattle.jr_tree.specs.Mirror.Exprs as x
use Rattle.jr_tree.specs.Mirror.Stmts as s
use Rattle.jr_tree.specs.Mirror.Decls as d
use Rattle.jr_tree.specs.declared.label.Label.TheVariants as is
use Rattle.jr_tree.specs.Forest.{Forest, none, node}
use Rattle.jr_tree.specs.Decls.{unit_labels}
use Rattle.jr_tree.specs.Rows.{Rows, rows_from, label, name as name_at}
use Rattle.jr_defs.specs.declared.referent.Referent.{Referent}
use Rattle.jr_defs.specs.declared.referent.Referent.TheVariants.{Unbound, Declared}
use Rattle.jr_defs.specs.Referents.{Table}
use Rattle.jr_plain.specs.Search.{first_below, gathered}
use Rattle.jr_plain.specs.Declarations.{is_type}
use Rattle.jr_plain.specs.Supertypes.{is_superclass_label, is_superinterface_label}
use Rattle.jr_plain.specs.Overriding.{overriding}
use Rattle.jr_plain.specs.Conversions.{Constants}
use Rattle.jr_member_rules.specs.Redefining.{Pairs}
use Rattle.jr_member_rules.specs.Throwing.{is_other_name}
use Rattle.jr_member_rules.specs.Computed.{values, broken_at}

-- ---- names and types

abbrev pub name : Text → Name
name part = record { parts = part ∷ [] }

abbrev pub int : TypeUse
int = record { base = base.Primitive primitive.Int; dims = 0 }

-- ---- declarations

abbrev pub empty : Option s.Block
empty = Some (s.BlockOf s.no_stmts)

-- a method without parameters
abbrev pub method : List Modifier → ResultType → Text → Option s.Block → d.Member
method mods gives part body = d.Method mods gives part [] [] body

-- one that declares an exception
abbrev pub throwing : List Modifier → Text → Text → d.Member
throwing mods part thrown = d.Method mods outcome.Void part [] (name thrown ∷ []) empty

abbrev pub field : List Modifier → Text → Option x.Init → d.Member
field mods part init = d.Field mods int (s.DeclaratorOf part 0 init ∷ [])

-- an interface with one method
abbrev pub with_method : Text → d.Member → d.TypeDecl
with_method part member = d.Interface [] part [] (d.members (member ∷ []))

-- a public class of java.lang with nothing in it
abbrev bare : Text → Option Name → d.TypeDecl
bare part above = d.Class (modifier.Public ∷ []) part above [] d.no_members

abbrev lang : d.CompilationUnit
lang = d.UnitOf (Some (record { name = record { parts = codes "java" ∷ (codes "lang" ∷ []) } })) []
    (bare (codes "Object") None ∷ (bare (codes "Throwable") None ∷ (bare (codes "Exception") (Some (name (codes "Throwable"))) ∷ [])))

abbrev all_labels : List d.CompilationUnit → Forest
all_labels [] = none
all_labels (one ∷ more) = unit_labels one (all_labels more)

-- the rows of java.lang and of these units
abbrev pub units : List d.CompilationUnit → Rows
units all = rows_from 0 0 0 (node is.Program (unit_labels lang (all_labels all)) none)

-- the rows of java.lang and of a unit with these types
abbrev pub program : List d.TypeDecl → Rows
program all = units (d.UnitOf None [] all ∷ [])

-- a unit of a package
abbrev pub unit_in : Text → List Import → List d.TypeDecl → d.CompilationUnit
unit_in part imports all = d.UnitOf (Some (record { name = name part })) imports all

-- ---- tables and rules

abbrev entry : ℕ → Option ℕ → List (ℕ × Referent)
entry n (Some c) = (n, Declared c None) ∷ []
entry n None = []

-- the type of the name at the row
abbrev found_type : Rows → ℕ → Option ℕ
found_type p n = first_below (length p) (λ c. is_type p c && bytes_eq (name_at p c) (name_at p n))

-- the names of supertypes and of thrown classes, each with its type
abbrev entries : Rows → List (ℕ × Referent)
entries p = gathered (length p) (λ n. let found = entry n (found_type p n) in cond (is_superclass_label (label p n) || (is_superinterface_label (label p n) || is_other_name (label p n))) found [])

abbrev table_of : List (ℕ × Referent) → Table
table_of [] n = Unbound
table_of (one ∷ all) n = cond (nat_eq one.0 n) one.1 (table_of all n)

abbrev pub table : Rows → Table
table p = let all = entries p in λ n. table_of all n

abbrev broken_with : Rows → Table → Constants → Pairs → List (Text × ℕ)
broken_with p t constant over = gathered (length p) (λ n. map (λ rule. (name_at p n, rule)) (broken_at p t constant over n))

-- the rules that are broken, with the name at the row
abbrev pub broken : Rows → List (Text × ℕ)
broken p = let t = table p in broken_with p t (values p t) (overriding p t)
