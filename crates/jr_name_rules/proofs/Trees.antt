-- Trees of small programs, put together from lists, and their rows and tables.
use Rattle.std.proofs.Common.{ℕ, false, cond, nat_eq, List, [], ◌∷◌, Some, None, codes}
use Rattle.jr_base.specs.declared.text.Text.{Text}
use Rattle.jr_tree.specs.declared.tree.Base.TheVariants as base
use Rattle.jr_tree.specs.declared.tree.Primitive.TheVariants as primitive
use Rattle.jr_tree.specs.declared.tree.TypeUse.{TypeUse}
use Rattle.jr_tree.specs.declared.tree.Modifier.{Modifier}
use Rattle.jr_tree.specs.declared.tree.Modifier.TheVariants as modifier
use Rattle.jr_tree.specs.declared.tree.Param.{Param}
use Rattle.jr_tree.specs.declared.tree.Name.{Name}
use Rattle.jr_tree.specs.Mirror.Stmts as s
use Rattle.jr_tree.specs.Mirror.Decls as d
use Rattle.jr_tree.specs.declared.label.Label.TheVariants as is
use Rattle.jr_tree.specs.Forest.{none, node, each}
use Rattle.jr_tree.specs.Decls.{unit_labels}
use Rattle.jr_tree.specs.Rows.{Rows, rows_from}
use Rattle.jr_defs.specs.declared.referent.Referent.{Referent}
use Rattle.jr_defs.specs.declared.referent.Referent.TheVariants.{Unbound}
use Rattle.jr_defs.specs.Referents.{Table}
use Rattle.jr_name_rules.specs.Computed.{types, broken_at}

-- ---- names and types

abbrev pub named : List Text → Name
named parts = record { parts = parts }

abbrev pub int : TypeUse
int = record { base = base.Primitive primitive.Int; dims = 0 }

abbrev pub of_class : Name → TypeUse
of_class name = record { base = base.Named name; dims = 0 }

-- ---- statements

abbrev pub parameter : TypeUse → Text → Param
parameter ty part = record { is_final = false; ty = ty; name = part; dims = 0 }

abbrev stmts : List s.Stmt → s.Stmts
stmts [] = s.no_stmts
stmts (a ∷ all) = s.more_stmts a (stmts all)

abbrev pub block : List s.Stmt → s.Block
block all = s.BlockOf (stmts all)

abbrev pub local : TypeUse → Text → s.Stmt
local ty part = s.Local false ty (s.DeclaratorOf part 0 None ∷ [])

-- ---- declarations

abbrev pub field : List Modifier → TypeUse → Text → d.Member
field mods ty part = d.Field mods ty (s.DeclaratorOf part 0 None ∷ [])

abbrev pub members : List d.Member → d.Members
members [] = d.no_members
members (m ∷ all) = d.more_members m (members all)

abbrev lang : d.CompilationUnit
lang = d.UnitOf (Some (record { name = named (codes "java" ∷ codes "lang" ∷ []) })) [] (d.Class (modifier.Public ∷ []) (codes "Object") None [] d.no_members ∷ [])

-- the rows of java.lang and of these units
abbrev pub program : List d.CompilationUnit → Rows
program units = rows_from 0 0 0 (node is.Program (unit_labels lang (each unit_labels units none)) none)

-- ---- tables and rules

abbrev pub table_of : List (ℕ × Referent) → Table
table_of [] n = Unbound
table_of (entry ∷ all) n = cond (nat_eq entry.0 n) entry.1 (table_of all n)

-- the rules that are broken at the row
abbrev pub broken : Rows → Table → ℕ → List ℕ
broken p t n = broken_at p t (types p t) n
