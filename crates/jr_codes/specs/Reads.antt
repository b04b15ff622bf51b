-- What the tables of a source hold of a program.
use Rattle.std.specs.Prelude.{ℕ, ◌+◌, ◌<◌, ◌^◌, List, if◌then◌else◌, Option, Some, None, length, nat_lt, slice_index_or}
use Rattle.jr_base.specs.declared.ids.DeclId.{DeclId}
use Rattle.jr_base.specs.declared.ids.NodeAt.{NodeAt}
use Rattle.jr_tree.specs.declared.label.Label.{Label}
use Rattle.jr_tree.specs.declared.label.Label.TheVariants as is
use Rattle.jr_tree.specs.Rows.{Rows, label, parent, end}
use Rattle.jr_defs.specs.Referents.{Table, entries}
use Rattle.jr_plain.specs.Supertypes.{is_subtype}
use Rattle.jr_plain.specs.Types.{parameters}
use Rattle.jr_supers.specs.Tabled.{IsSized}
use Rattle.jr_supers.specs.Supers.{AreSupersOf}
use Rattle.jr_supers.specs.Signatures.{AreSignatures}
use Rattle.jr_supers.specs.declared.signatures.Signatures as code
use Rattle.jr_constants.specs.Values.{value_in_if}
use Rattle.jr_constants.specs.declared.value.Value.{Value}
use Rattle.jr_codes.specs.declared.source.Source.{Source}
use Rattle.jr_codes.specs.Facts.{Facts}
use Rattle.jr_codes.specs.Making.{Below, Made, Parted, IsOneAt, Stands}

-- the node of a row; past the end there is none
abbrev pub node_at : List NodeAt → ℕ → NodeAt
node_at nodes n = slice_index_or nodes n (record { cu = record { 0 = 4294967295 }; node = record { 0 = 4294967295 } })

-- the declaration at a row; a constructor that is not written is part 1 of its class
abbrev pub decl_by : Label → List NodeAt → Rows → ℕ → DeclId
decl_by is.DefaultConstructor nodes p n = record { at = node_at nodes (parent p (parent p n)); part = 1 }
decl_by _ nodes p n = record { at = node_at nodes n; part = 0 }

abbrev pub decl_at : List NodeAt → Rows → ℕ → DeclId
decl_at nodes p n = decl_by (label p n) nodes p n

abbrev pub rows_of : Source → Rows
rows_of s = s.view.now.sight.world.under.rows.now

abbrev pub table_of : Source → Table
table_of s = entries s.view.now.sight.world.under.table.now

-- the parameter types of methods and constructors
abbrev pub signatures_of : Source → code.Signatures
signatures_of s = s.view.now.sight.world.members.now.callables.signatures

-- the value of the expression, and of the variable, if it is constant
abbrev pub value_at : Source → ℕ → Option Value
value_at s n = slice_index_or s.view.now.constants.now.values.items n None

abbrev pub variable_at : Source → ℕ → Option Value
variable_at s n = slice_index_or s.view.now.constants.now.variables.items n None

abbrev pub texts_of : Source → List (List ℕ)
texts_of s = s.view.now.constants.now.texts

abbrev pub facts : Source → Facts
facts s = record {
  rows = rows_of s;
  refers = table_of s;
  typed = λ n. slice_index_or s.view.now.types.now n None;
  value = λ n. value_in_if (texts_of s) (value_at s n);
  variable = λ n. value_in_if (texts_of s) (variable_at s n);
  parameters = λ m. parameters (rows_of s) (table_of s) m;
  around = λ n. slice_index_or s.view.now.sight.world.under.places.now.arounds.items n None;
  decl = λ n. decl_at s.ids.now.nodes.items (rows_of s) n;
  is_subtype = λ a b. is_subtype (rows_of s) (table_of s) a b;
}

-- the rows are few enough to be counted, this is one of them, and the supertypes and signatures are those of the program
pub record IsReadAt (s : Source) (n : ℕ) : Type 0 where
  pub sized : IsSized (rows_of s)
  pub few : length (rows_of s) + 3 < 2 ^ 32
  pub inside : n < length (rows_of s)
  pub supers : AreSupersOf (rows_of s) (table_of s) s.view.now.sight.world.supers.now
  pub signatures : AreSignatures (rows_of s) (table_of s) (signatures_of s)

-- whatever is made inside and behind the row, what comes of the row by the parts inside stands in their place, if nothing of them is left below it
pub record Becomes (s : Source) (n : ℕ) (made : Below → Made) (old new : Below) : Type 0 where
  pub stands : IsReadAt s n → (parts rest : Below) → Parted (end (rows_of s) n) old parts rest → IsOneAt n rest new → Stands (made parts) n parts rest new

-- the first row right below a row
abbrev pub child_of : Rows → ℕ → Option ℕ
child_of p n = if nat_lt (n + 1) (end p n) then Some (n + 1) else None
