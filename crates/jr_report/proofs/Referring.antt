-- What refers to a declaration, and what stands below a type.
use Rattle.std.proofs.Common.{◌≡◌, refl, sym, ◌∙◌, ap, subst, ℕ, ◌<◌, Bool, true, false, List, length, Option, Some, None, Result, Ok, Err, IfOk, Decides}
use Rattle.std.proofs.lemmas.Bool.{false≢true}
use Rattle.std.proofs.lemmas.Bool.Decides.{Decides-eqb}
use Rattle.std.proofs.lemmas.Option.{none-some, same_Some}
use Rattle.jr_tree.specs.Labels.{sought_by}
use Rattle.jr_tree.specs.declared.label.Sought.TheVariants as sought
use Rattle.jr_tree.specs.declared.label.Role.TheVariants as role
use Rattle.jr_tree.specs.Rows.{Rows, role_at}
use Rattle.jr_defs.specs.declared.referent.Referent.{Referent}
use Rattle.jr_defs.specs.declared.referent.Referent.TheVariants.{Declared}
use Rattle.jr_defs.specs.Referents.{Table}
use Rattle.jr_defs.specs.Supertypes.{Above}
use Rattle.jr_plain.specs.Declarations as plain
use Rattle.jr_plain.specs.Same.{same_role}
use Rattle.jr_plain.proofs.Bounds.{bounded, type_below}
use Rattle.jr_plain.proofs.Declared.{occurrence_tells, type_tells}
use Rattle.jr_plain.proofs.Same.{role_tells}
use Rattle.jr_plain.proofs.Tests.{like}
use Rattle.jr_supers.specs.Supers.{ListsOnce}
use Rattle.jr_supers.specs.Tabled.{declared}
use Rattle.jr_report.specs.Listed.{IsReferenceTo, IsSubtypeOf, is_this}

pub this_tells : (row : ℕ) (found : Option ℕ) → Decides (is_this row found) (found ≡ Some row)
this_tells row None = (λ h. absurd (false≢true h), λ e. absurd (none-some row e))
this_tells row (Some n) = like (Decides-eqb n row) (λ e. ap Some e) (λ e. same_Some n row e)

-- the declaration of a referent
pub declared_so : (a : Referent) (d : ℕ) → declared a ≡ Some d → (level : Option ℕ) × (a ≡ Declared d level)
declared_so (Declared n level) d e = (level, ap (λ k. Declared k level) (same_Some n d e))
declared_so _ d e = absurd (none-some d e)

pub declared_is : (a : Referent) (d : ℕ) (level : Option ℕ) → a ≡ Declared d level → declared a ≡ Some d
declared_is a d level e = ap declared e

-- ---- references

pub no_reference : (p : Rows) (t : Table) (d n : ℕ) → plain.is_occurrence p n ≡ false → Decides false (IsReferenceTo p t d n)
no_reference p t d n h = (λ e. absurd (false≢true e), λ is. absurd (false≢true (sym h ∙ (occurrence_tells p n).1 is.occurs)))

pub reference_if : (p : Rows) (t : Table) (d n : ℕ) (is : Bool) → plain.is_occurrence p n ≡ true → is ≡ is_this d (declared (t n)) → Decides is (IsReferenceTo p t d n)
reference_if p t d n is h same = (
  λ e. let w = declared_so (t n) d ((this_tells d (declared (t n))).0 (sym same ∙ e)) in record { occurs = (occurrence_tells p n).0 h; level = w.0; target = w.1 },
  λ r. same ∙ (this_tells d (declared (t n))).1 (declared_is (t n) d r.level r.target),
)

pub reference_below : (p : Rows) (t : Table) (d n : ℕ) → IsReferenceTo p t d n → n < length p
reference_below p t d n r = bounded (λ l. sought_by l ≡ sought.Nothing → ⊥) (λ never. never refl) p n r.occurs.seeks

-- ---- subtypes

pub no_subtype : (p : Rows) (t : Table) (c n : ℕ) → plain.is_type p n ≡ false → Decides false (IsSubtypeOf p t c n)
no_subtype p t c n h = (λ e. absurd (false≢true e), λ is. absurd (false≢true (sym h ∙ (type_tells p n).1 is.type)))

pub subtype_if : (p : Rows) (t : Table) (c n : ℕ) (is : Bool) → plain.is_type p n ≡ true → Decides is (Above p t n c) → Decides is (IsSubtypeOf p t c n)
subtype_if p t c n is h d = like d (λ above. record { type = (type_tells p n).0 h; below = above }) (λ s. s.below)

pub subtype_below : (p : Rows) (t : Table) (c n : ℕ) → IsSubtypeOf p t c n → n < length p
subtype_below p t c n s = type_below p n s.type

-- ---- lists

pub once_same : {P Q : ℕ → Type 0} (all rows : List ℕ) → rows ≡ all → ListsOnce all P → ((n : ℕ) → P n → Q n) → ((n : ℕ) → Q n → P n) → ListsOnce rows Q
once_same {P} {Q} all rows same h out into = subst (λ xs. ListsOnce xs Q) (sym same) (record { rises = h.rises; has = λ n. like (h.has n) (out n) (into n) })

-- ---- methods

pub method_there : (p : Rows) (d : ℕ) → same_role (role_at p d) role.Method ≡ true → role_at p d ≡ role.Method
method_there p d h = (role_tells (role_at p d) role.Method).0 h

-- ---- results

pub if_ok_so : {A E : Type 0} {P Q : A → Type 0} (r : Result A E) → ((a : A) → P a → Q a) → IfOk r P → IfOk r Q
if_ok_so (Ok a) so h = so a h
if_ok_so (Err e) so h = h
