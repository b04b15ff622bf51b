-- What identifiers with dots between them refer to, where each one before the last is a package or a type (JLS 6.5).
use Rattle.std.specs.Prelude.{◌≡◌, ℕ, if◌then◌else◌, List, [], ◌∷◌, ◌++◌, Option, Some, None, option_map}
use Rattle.jr_base.specs.declared.text.Text.{Text}
use Rattle.jr_tree.specs.declared.label.NameKind.{NameKind}
use Rattle.jr_tree.specs.declared.label.NameKind.TheVariants as kind
use Rattle.jr_tree.specs.declared.label.Sought.{Sought}
use Rattle.jr_tree.specs.declared.label.Sought.TheVariants as sought
use Rattle.jr_tree.specs.Rows.{Rows}
use Rattle.jr_defs.specs.declared.referent.Referent.{Referent}
use Rattle.jr_defs.specs.declared.referent.Referent.TheVariants.{Package, Declared}
use Rattle.jr_defs.specs.Referents.{Table}
use Rattle.jr_plain.specs.Declarations.{is_type}
use Rattle.jr_with.specs.World.{Left, world_of}
use Rattle.jr_with.specs.Explicit.{nothing_before, of_package, of_type}
use Rattle.jr_with.specs.With.{look_with}

-- what stands before an identifier: nothing, a package, or a type
pub data Before : Type 0 where
  at_start : Before
  in_package : List Text → Before
  in_type : ℕ → Before

abbrev pub left_behind : Before → Left
left_behind at_start = nothing_before
left_behind (in_package path) = of_package path
left_behind (in_type c) = of_type c

-- how a name of this kind is sought there
abbrev pub name_behind : Before → NameKind → Sought
name_behind at_start k = sought.Simple k
name_behind _ k = sought.Qualified k

-- the kind of an identifier before one of this kind (JLS 6.5.1)
abbrev pub kind_before : NameKind → NameKind
kind_before kind.Variable = kind.Ambiguous
kind_before kind.Ambiguous = kind.Ambiguous
kind_before kind.Type = kind.PackageOrType
kind_before kind.PackageOrType = kind.PackageOrType
kind_before kind.Package = kind.Package

-- a package of this name there
abbrev pub package_behind : Before → Text → Option Before
package_behind at_start x = Some (in_package (x ∷ []))
package_behind (in_package path) x = Some (in_package (path ++ x ∷ []))
package_behind (in_type c) x = None

-- what an identifier that refers so is for the next one: a package or a type, and never a variable
abbrev pub next : Rows → Before → Text → Referent → Option Before
next p b x Package = package_behind b x
next p b x (Declared d level) = if is_type p d then Some (in_type d) else None
next p b x _ = None

module _ (p : Rows) (t : Table) (o : ℕ) where
  -- what an identifier of this kind refers to at the place o, all else as the table says
  abbrev pub look_up : Before → NameKind → Text → Referent
  look_up b k x = look_with p (world_of p t) (left_behind b) o x (name_behind b k)

  -- these identifiers lead from what stands before them to what they stand for, and refer to these packages and types
  pub data Leads (k : NameKind) : Before → List Text → Before → List Referent → Type 0 where
    none : {b : Before} → Leads k b [] b []
    more : {b c e : Before} {x : Text} {rest : List Text} {trace : List Referent} → next p b x (look_up b k x) ≡ Some c → Leads k c rest e trace
        → Leads k b (x ∷ rest) e (look_up b k x ∷ trace)

  -- computed
  abbrev pub qualify : NameKind → Before → List Text → Option (Before × List Referent)
  qualify k b [] = Some (b, [])
  qualify k b (x ∷ rest) = elim (next p b x (look_up b k x)) [ Some c ↦ option_map (λ q. (q.0, look_up b k x ∷ q.1)) (qualify k c rest) | None ↦ None ]
