-- The rows of java.lang, with which each program begins (JLS 4.3.2, 4.3.3).
use Rattle.std.specs.Prelude.{◌≡◌, ℕ, ◌<◌, List, [], ◌∷◌, length, Option, Some, None, codes, if◌then◌else◌}
use Rattle.std.specs.Str.{bytes_eq}
use Rattle.jr_base.specs.declared.text.Text.{Text}
use Rattle.jr_tree.specs.declared.label.Label.TheVariants as is
use Rattle.jr_tree.specs.Forest.{none, node}
use Rattle.jr_tree.specs.Decls.{unit_labels}
use Rattle.jr_tree.specs.Rows.{Rows, row, rows_from}
use Rattle.jr_tree.specs.Tree.{IsTree}
use Rattle.jr_defs.specs.Declarations.{IsPrelude, IsClass}
use Rattle.jr_defs.specs.Modifiers.{IsPublic}
use Rattle.jr_prelude.specs.Lang.{lang_unit}

-- the rows of java.lang alone
abbrev pub lang_rows : Rows
lang_rows = rows_from 0 0 0 (node is.Program (unit_labels lang_unit none) none)

-- the rows are those of a tree, and behind the first, which is that of the program, stand those of java.lang
pub record BeginsWithLang (p : Rows) : Type 0 where
  pub tree : IsTree p
  pub rows : (n : ℕ) → 0 < n → n < length lang_rows → row p n ≡ row lang_rows n

-- the types of java.lang, with their rows
abbrev pub lang_types : List (Text × ℕ)
lang_types =
    (codes "Object", 5) ∷ (
    (codes "String", 28) ∷ (
    (codes "System", 52) ∷ (
    (codes "Throwable", 68) ∷ (
    (codes "Exception", 93) ∷ (
    (codes "Error", 106) ∷ (
    (codes "RuntimeException", 119) ∷ (
    (codes "ArithmeticException", 132) ∷ (
    (codes "NullPointerException", 145) ∷ (
    (codes "ClassCastException", 158) ∷ (
    (codes "ArrayStoreException", 171) ∷ (
    (codes "NegativeArraySizeException", 184) ∷ (
    (codes "IndexOutOfBoundsException", 197) ∷ (
    (codes "IllegalArgumentException", 210) ∷ (
    (codes "IllegalStateException", 223) ∷ (
    (codes "ArrayIndexOutOfBoundsException", 236) ∷ (
    (codes "StringIndexOutOfBoundsException", 249) ∷ []))))))))))))))))

-- the row of the first type of this name
abbrev pub row_in : List (Text × ℕ) → Text → Option ℕ
row_in [] x = None
row_in (type ∷ types) x = if bytes_eq type.0 x then Some type.1 else row_in types x

abbrev pub type_row : Text → Option ℕ
type_row = row_in lang_types

-- the types of java.lang are those at their rows, and are public classes
pub record HasLangTypes (p : Rows) : Type 0 where
  pub only : (x : Text) (c : ℕ) → IsPrelude p x c → type_row x ≡ Some c
  pub each : (x : Text) (c : ℕ) → type_row x ≡ Some c → IsPrelude p x c
  pub class : (x : Text) (c : ℕ) → IsPrelude p x c → IsClass p c
  pub public : (x : Text) (c : ℕ) → IsPrelude p x c → IsPublic p c
