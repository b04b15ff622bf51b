-- Scope and shadowing, computed (JLS 6.3, 6.3.1, 8.4.1, 14.4.2, 14.7, 14.14.1, 14.20).
use Rattle.std.specs.Prelude.{ℕ, zero, suc, ◌+◌, Bool, true, false, not, ◌&&◌, ◌||◌, length, nat_eq, nat_lt, nat_le}
use Rattle.jr_base.specs.declared.text.Text.{Text}
use Rattle.jr_tree.specs.declared.label.Label.{Label}
use Rattle.jr_tree.specs.declared.label.Label.TheVariants as is
use Rattle.jr_tree.specs.declared.label.Role.TheVariants as role
use Rattle.jr_tree.specs.Rows.{Rows, label, name, parent, end, role_at}
use Rattle.jr_defs.specs.declared.referent.Space.{Space}
use Rattle.jr_defs.specs.declared.referent.Space.TheVariants as space
use Rattle.jr_defs.specs.Referents.{Table}
use Rattle.jr_defs.specs.Scope.{block_end, Depth, on_demand, of_package, of_unit, imported, within, rank}
use Rattle.jr_plain.specs.Search.{any_below, all_below}
use Rattle.jr_plain.specs.Same.{same_role}
use Rattle.jr_plain.specs.Declarations.{declares}
use Rattle.jr_plain.specs.Enclosing.{is_in_body, is_top_level}
use Rattle.jr_plain.specs.Packages.{is_in_unit, is_same_package}
use Rattle.jr_plain.specs.Members.{is_member}
use Rattle.jr_plain.specs.Imports.{is_single_import, is_static_import, is_on_demand_import, imports_hold}

-- the scope of a local holds the place (JLS 14.4.2, 14.14.1)
abbrev pub is_in_local_scope : Rows → ℕ → ℕ → Bool
is_in_local_scope p d o = same_role (role_at p d) role.Local && nat_lt d o && nat_lt o (block_end p (parent p (parent p d)))

abbrev pub is_block : Label → Bool
is_block is.Block = true
is_block _ = false

-- the block b beside d holds the place
abbrev pub is_in_block_beside : Rows → ℕ → ℕ → ℕ → Bool
is_in_block_beside p d o b = is_block (label p b) && nat_eq (parent p b) (parent p d) && nat_le b o && nat_lt o (end p b)

-- the scope of a parameter holds the place: the whole body of its method, constructor or catch (JLS 6.3, 14.20)
abbrev pub is_in_parameter_scope : Rows → ℕ → ℕ → Bool
is_in_parameter_scope p d o = same_role (role_at p d) role.Parameter && any_below (length p) (λ b. is_in_block_beside p d o b)

-- the scope of a label is its statement (JLS 14.7)
abbrev pub is_in_label_scope : Rows → ℕ → ℕ → Bool
is_in_label_scope p d o = same_role (role_at p d) role.Label && nat_lt d o && nat_lt o (end p d)

-- the depths, by number: four that are no row, then the rows
abbrev pub depth_at : ℕ → Depth
depth_at zero = on_demand
depth_at (suc zero) = of_package
depth_at (suc (suc zero)) = of_unit
depth_at (suc (suc (suc zero))) = imported
depth_at (suc (suc (suc (suc s)))) = within s

abbrev pub depths : Rows → ℕ
depths p = length p + 4

-- of the top-level types of one package none shadows another
abbrev pub is_of_one_package : Depth → Depth → Bool
is_of_one_package of_unit of_package = true
is_of_one_package _ _ = false

-- what is in so far as q does not shadow what is in so far as r
abbrev pub is_no_further : Depth → Depth → Bool
is_no_further q r = nat_le (rank q) (rank r) || is_of_one_package q r

-- a top-level type of the same package, and of the same unit or another
abbrev pub is_type_of_unit : Rows → ℕ → ℕ → Bool
is_type_of_unit p o d = is_top_level p d && any_below (length p) (λ u. is_in_unit p u o && is_in_unit p u d)

abbrev pub is_type_of_other : Rows → ℕ → ℕ → Bool
is_type_of_other p o d = is_top_level p d && is_same_package p o d && not (is_type_of_unit p o d)

-- an import of the unit round the place holds there
abbrev pub is_imported : Rows → (ℕ → ℕ → Bool) → ℕ → ℕ → Bool
is_imported p brings o d = any_below (length p) (λ u. imports_hold p u o && brings u d)

-- the scope of a local, parameter or label
abbrev pub is_in_own_scope : Rows → ℕ → ℕ → Bool
is_in_own_scope p d o = is_in_local_scope p d o || is_in_parameter_scope p d o || is_in_label_scope p d o

-- the scope of the declaration d holds the place o, so far in (JLS 6.3)
abbrev pub has_scope : Rows → Table → ℕ → ℕ → Depth → Bool
has_scope p t o d (within s) = (nat_eq d s && is_in_own_scope p d o) || (is_in_body p s o && is_member p t s d)
has_scope p t o d of_unit = is_type_of_unit p o d
has_scope p t o d of_package = is_type_of_other p o d
has_scope p t o d imported = is_imported p (is_single_import p t) o d || is_imported p (is_static_import p t) o d
has_scope p t o d on_demand = is_imported p (is_on_demand_import p t) o d

-- in scope at the place, under the name
abbrev pub is_in_scope : Rows → Table → Space → Text → ℕ → ℕ → Depth → Bool
is_in_scope p t kind x o d r = declares p kind x d && has_scope p t o d r

-- in scope, so far in as it may be
abbrev pub is_somewhere_in_scope : Rows → Table → Space → Text → ℕ → ℕ → Bool
is_somewhere_in_scope p t kind x o d = any_below (depths p) (λ r. is_in_scope p t kind x o d (depth_at r))

-- two parameters of one list (JLS 8.4.1)
abbrev pub is_in_one_list : Rows → ℕ → ℕ → Bool
is_in_one_list p d e = same_role (role_at p d) role.Parameter && same_role (role_at p e) role.Parameter && nat_eq (parent p d) (parent p e)

-- the one declaration, so far in, shadows the other, among the names of this kind
abbrev pub shadows_at : Rows → Table → Space → ℕ → ℕ → ℕ → Depth → Depth → Bool
shadows_at p t kind o d e inner outer =
    is_in_scope p t kind (name p d) o d inner && is_in_scope p t kind (name p d) o e outer && not (is_no_further inner outer)

abbrev pub shadows_by : Rows → Table → Space → ℕ → ℕ → ℕ → Bool
shadows_by p t kind o d e = any_below (depths p) (λ q. any_below (depths p) (λ r. shadows_at p t kind o d e (depth_at q) (depth_at r)))

-- the one declaration shadows the other where the scope of both holds the place; labels shadow nothing (JLS 6.3.1, 14.7)
abbrev pub shadows : Rows → Table → ℕ → ℕ → ℕ → Bool
shadows p t o d e = (shadows_by p t space.Variable o d e || shadows_by p t space.Method o d e || shadows_by p t space.Type o d e) && not (is_in_one_list p d e)

-- what is in scope shadows d, so far in as r, at most where both are parameters of one list
abbrev pub leaves_visible : Rows → Table → Space → Text → ℕ → ℕ → Depth → ℕ → Depth → Bool
leaves_visible p t kind x o d r e q = not (is_in_scope p t kind x o e q) || (is_no_further q r || is_in_one_list p e d)

-- in scope, and not shadowed by another such
abbrev pub is_visible : Rows → Table → Space → Text → ℕ → ℕ → Depth → Bool
is_visible p t kind x o d r = is_in_scope p t kind x o d r && all_below (length p) (λ e. all_below (depths p) (λ q. leaves_visible p t kind x o d r e (depth_at q)))
