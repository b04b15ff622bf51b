-- The classes of java.lang by which others are checked (JLS 11.2).
use Rattle.std.specs.Prelude.{◌≡◌, ℕ, Bool, ◌||◌, codes, length, Option, Some}
use Rattle.jr_base.specs.declared.text.Text.{Text}
use Rattle.jr_tree.specs.Rows.{Rows}
use Rattle.jr_defs.specs.Referents.{Table}
use Rattle.jr_defs.specs.Declarations.{IsPrelude}
use Rattle.jr_defs.specs.Supertypes.{AtOrAbove}
use Rattle.jr_plain.specs.Search.{first_below, Finds}
use Rattle.jr_plain.specs.Declarations.{is_prelude}
use Rattle.jr_flow_faults.specs.Computed.{is_it}
use Rattle.jr_flow_faults.specs.declared.classes.Roots as code

-- the first type of this name in java.lang
abbrev pub prelude_type : Rows → Text → Option ℕ
prelude_type p x = first_below (length p) (is_prelude p x)

-- java.lang has no two types of the name
abbrev pub HasNoOther : Rows → Text → Type 0
HasNoOther p x = (c d : ℕ) → IsPrelude p x c → IsPrelude p x d → c ≡ d

pub record HasOneOfEach (p : Rows) : Type 0 where
  pub throwable : HasNoOther p (codes "Throwable")
  pub exception : HasNoOther p (codes "Exception")
  pub error : HasNoOther p (codes "Error")
  pub runtime : HasNoOther p (codes "RuntimeException")

pub record AreRoots (p : Rows) (roots : code.Roots) : Type 0 where
  pub throwable : Finds roots.throwable (IsPrelude p (codes "Throwable"))
  pub exception : Finds roots.exception (IsPrelude p (codes "Exception"))
  pub error : Finds roots.error (IsPrelude p (codes "Error"))
  pub runtime : Finds roots.runtime (IsPrelude p (codes "RuntimeException"))

-- there is a root, and it is the class or one above it
abbrev pub IsBelow : Rows → Table → ℕ → Option ℕ → Type 0
IsBelow p t c root = (s : ℕ) × (root ≡ Some s) × AtOrAbove p t c s

-- Exception or Throwable
abbrev pub is_general : code.Roots → ℕ → Bool
is_general roots c = is_it roots.exception c || is_it roots.throwable c
