-- The tests of static members and initializers of inner classes tell what they are to tell.
use Rattle.std.proofs.Common.{◌≡◌, refl, ℕ, ◌+◌, true, false, Decides}
use Rattle.std.proofs.lemmas.Bool.{false≢true}
use Rattle.std.proofs.lemmas.Bool.Decides.{Decides-eqb}
use Rattle.jr_base.specs.declared.constant.Const.{Const}
use Rattle.jr_tree.specs.declared.label.Label.{Label}
use Rattle.jr_tree.specs.declared.label.Label.TheVariants as is
use Rattle.jr_tree.specs.Rows.{Rows, label, parent, end}
use Rattle.jr_defs.specs.Referents.{Table}
use Rattle.jr_defs.specs.declared.referent.RowType.{RowType}
use Rattle.jr_defs.specs.Declarations.{IsVariable}
use Rattle.jr_defs.specs.Enclosing.{BodyOf, DeclaredIn}
use Rattle.jr_defs.specs.Modifiers.{IsFinal, IsStatic, IsInner}
use Rattle.jr_defs.specs.Operators.{assigned_to}
use Rattle.jr_defs.specs.Types.{HasType}
use Rattle.jr_defs.specs.Constants.{Converts, ConstantOf, ConstantVariable, HasConstantForm, Constant}
use Rattle.jr_defs.specs.Laws.{Picked}
use Rattle.jr_plain.specs.Search.{Finds}
use Rattle.jr_plain.specs.Types.{type_of_declared}
use Rattle.jr_plain.specs.Enclosing.{declaring_type}
use Rattle.jr_plain.specs.Modifiers.{is_inner}
use Rattle.jr_plain.specs.Conversions.{Constants, of_two}
use Rattle.jr_plain.specs.Constants.{converted_as, is_value, is_initialized, variable_value, has_constant_form}
use Rattle.jr_plain.specs.Typing.{IsTypable}
use Rattle.jr_plain.proofs.Tests.{both, opposite}
use Rattle.jr_plain.proofs.Declared.{variable_tells}
use Rattle.jr_plain.proofs.Enclosed.{declaring_finds}
use Rattle.jr_plain.proofs.Modified.{found_tells, some_tells, static_tells, final_tells, inner_tells}
use Rattle.jr_plain.proofs.Typed.{has_type_finds}
use Rattle.jr_plain.proofs.Finding.{like_finds, guard_finds, two_finds}
use Rattle.jr_plain.proofs.Valued.{convert_finds, form_constants_find}
use Rattle.jr_member_rules.specs.Bodies.{body_type}
use Rattle.jr_member_rules.specs.Inner as plain
use Rattle.jr_member_rules.specs.Computed.{values}
use Rattle.jr_member_rules.proofs.Bodied.{body_type_finds}

-- ---- constants

pub values_find : (p : Rows) (t : Table) → IsTypable p t → (n : ℕ) → Finds (values p t n) (λ v. Constant p t n v)
values_find p t typable n = form_constants_find p t typable n

value_label_tells : (l : Label) → Decides (is_value l) (l ≡ is.Value)
value_label_tells is.Value = (λ h. refl, λ e. refl)
value_label_tells _ = (λ h. absurd (false≢true h), λ e. absurd (cc))

module _ (p : Rows) (t : Table) (constant : Constants) (known : (n : ℕ) → Finds (constant n) (λ v. Constant p t n v)) where
  abbrev Initialized : ℕ → Type 0
  Initialized d = (((IsVariable p d × IsFinal p d) × (parent p (d + 1) ≡ d)) × (label p (d + 1) ≡ is.Value)) × (parent p (d + 2) ≡ d + 1)

  initialized_tells : (d : ℕ) → Decides (is_initialized p d) (Initialized d)
  initialized_tells d =
      both (both (both (both (variable_tells p d) (final_tells p d)) (Decides-eqb (parent p (d + 1)) d)) (value_label_tells (label p (d + 1)))) (Decides-eqb (parent p (d + 2)) (d + 1))

  abbrev Way : ℕ → Const → Type 0
  Way d w = Initialized d × ((a : RowType) × (v : Const) × HasType p t d a × Constant p t (d + 2) v × Converts p assigned_to v w a)

  way_out : (d : ℕ) (w : Const) → Way d w → ConstantVariable p t (HasConstantForm p t) d w
  way_out d w h = ConstantVariable.variable h.0.0.0.0.0 h.0.0.0.0.1 h.1.2 h.0.0.0.1 h.0.0.1 h.0.1 h.1.3 h.1.4

  way_in : (d : ℕ) (w : Const) → ConstantVariable p t (HasConstantForm p t) d w → Way d w
  way_in d w (ConstantVariable.variable {a = a} {v = v} x f h i j l u g) = (((((x, f), i), j), l), (a, v, h, u, g))

  pub variable_finds : (d : ℕ) → Finds (variable_value p t constant d) (λ w. ConstantVariable p t (HasConstantForm p t) d w)
  variable_finds d = like_finds (variable_value p t constant d)
      (guard_finds (is_initialized p d) (of_two (converted_as p assigned_to) (type_of_declared p t d) (constant (d + 2))) (initialized_tells d)
      (two_finds (λ a v w. Converts p assigned_to v w a) (converted_as p assigned_to) (λ a v. convert_finds p assigned_to (λ s units. refl) a v)
      (type_of_declared p t d) (constant (d + 2)) (has_type_finds p t d) (known (d + 2))))
      (way_out d) (way_in d)

  -- ---- static members

  pub static_in_inner_tells : (d : ℕ) → Decides (plain.is_static_in_inner p t constant d)
      ((((c : ℕ) × DeclaredIn p c d × IsInner p c) × IsStatic p d) × (((v : Const) × ConstantVariable p t (HasConstantForm p t) d v) → ⊥))
  static_in_inner_tells d = both (both (found_tells (λ c. DeclaredIn p c d) (is_inner p) (λ c. IsInner p c) (inner_tells p) (declaring_type p d) (declaring_finds p d)) (static_tells p d))
      (opposite (some_tells (λ v. ConstantVariable p t (HasConstantForm p t) d v) (variable_value p t constant d) (variable_finds d)))

static_initializer_tells : (l : Label) → Decides (plain.is_static_initializer l) (l ≡ is.Initializer true)
static_initializer_tells (is.Initializer true) = (λ h. refl, λ e. refl)
static_initializer_tells (is.Initializer false) = (λ h. absurd (false≢true h), λ e. absurd (cc))
static_initializer_tells _ = (λ h. absurd (false≢true h), λ e. absurd (cc))

pub initializer_in_inner_tells : (p : Rows) (k : ℕ)
    → Decides (plain.is_initializer_in_inner p k) ((label p k ≡ is.Initializer true) × ((c : ℕ) × BodyOf p c (parent p k) × IsInner p c))
initializer_in_inner_tells p k = both (static_initializer_tells (label p k))
    (found_tells (λ c. BodyOf p c (parent p k)) (is_inner p) (λ c. IsInner p c) (inner_tells p) (body_type p k) (body_type_finds p k))
