-- Types that are written behind the last row, and how many brackets there are.
use Rattle.std.proofs.Common.{◌≡◌, refl, sym, ◌∙◌, ap, subst, arith, ℕ, ◌+◌, ◌<◌, ◌≤◌, ◌^◌, Bool, true, false, cond, length, Option, Some, None, nat_eq}
use Rattle.std.proofs.lemmas.Bool.Decides.{Decides-eqb}
use Rattle.std.proofs.lemmas.Option.{none-some, same_Some}
use Rattle.std.specs.Prelude.{option_map}
use Rattle.jr_tree.specs.declared.label.Label.{Label}
use Rattle.jr_tree.specs.declared.label.Label.TheVariants as is
use Rattle.jr_tree.specs.Rows.{Rows, label, parent}
use Rattle.jr_defs.specs.declared.referent.Element.TheVariants as element
use Rattle.jr_defs.specs.declared.referent.RowType.{RowType}
use Rattle.jr_defs.specs.Referents.{Table}
use Rattle.jr_defs.specs.Types.{array, deeper, brackets_of}
use Rattle.jr_plain.specs.Types.{named_type, type_by, type_at, with_brackets}
use Rattle.jr_plain.proofs.Bounds.{label_past, parent_past}
use Rattle.jr_supers.specs.Tabled.{first_child, dims_of, IsSized}

no_child_by : (b : Bool) (p : Rows) (n : ℕ) → length p ≤ n + 1 → nat_eq (parent p (n + 1)) n ≡ b → cond b (Some (n + 1)) None ≡ None
no_child_by true p n le e = let past = parent_past p (n + 1) le in let same = (Decides-eqb (parent p (n + 1)) n).0 e in absurd (omega arith)
no_child_by false p n le e = refl

-- nothing is right below the last row
pub no_child : (p : Rows) (n : ℕ) → length p ≤ n + 1 → first_child p n ≡ None
no_child p n le = no_child_by (nat_eq (parent p (n + 1)) n) p n le refl

-- and no type is written behind it
pub no_type : (p : Rows) (t : Table) (n : ℕ) → length p ≤ n → type_at p t n ≡ None
no_type p t n le = ap (type_by p t n) (label_past p n le)

mapped_dims : (o : Option ℕ) (dims : ℕ) (a : RowType) → option_map (λ c. array (element.Class c) dims) o ≡ Some a → a.dims ≡ dims
mapped_dims None dims a e = absurd (none-some a e)
mapped_dims (Some c) dims a e = ap (λ x. x.dims) (sym (same_Some (array (element.Class c) dims) a e))

dims_by : (p : Rows) (t : Table) (n : ℕ) (l : Label) (a : RowType) → type_by p t n l ≡ Some a → a.dims ≡ dims_of l
dims_by p t n (is.TypeUse (Some e) dims) a is = ap (λ x. x.dims) (sym (same_Some _ a is))
dims_by p t n (is.TypeUse None dims) a is = mapped_dims (named_type p t n) dims a is
dims_by p t n _ a is = absurd (none-some a is)

brackets_few : (l : Label) → brackets_of l ≤ dims_of l
brackets_few (is.Field modifiers dims) = omega arith
brackets_few (is.Local is_final dims) = omega arith
brackets_few (is.Parameter is_final dims) = omega arith
brackets_few (is.TypeUse primitive dims) = omega arith
brackets_few _ = omega arith

-- the type with the brackets behind the name is counted
with_few : (p : Rows) (t : Table) (d n : ℕ) (a : RowType) → IsSized p → type_at p t n ≡ Some a → a.dims + brackets_of (label p d) < 2 ^ 64
with_few p t d n a sized is = let dims = dims_by p t n (label p n) a is in let at = sized.shallow n in let more = sized.shallow d in let le = brackets_few (label p d) in omega arith

pub with_brackets_is : (p : Rows) (t : Table) (d n : ℕ) (found : Option RowType) (a r : RowType) (brackets : ℕ) → IsSized p → found ≡ type_at p t n → found ≡ Some a → brackets ≡ brackets_of (label p d)
    → (a.dims + brackets < 2 ^ 64 → r ≡ deeper a brackets) → Some r ≡ with_brackets p t d n
with_brackets_is p t d n found a r brackets sized at is few made = let here = sym at ∙ is in ap Some (made (subst (λ b. a.dims + b < 2 ^ 64) (sym few) (with_few p t d n a sized here)) ∙ ap (deeper a) few)
    ∙ sym (ap (option_map (λ a. deeper a (brackets_of (label p d)))) here)
