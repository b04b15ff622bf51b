-- The declarations that have code (JLS 8.3.2, 8.4.7, 8.6, 8.7, 8.8.7).
use Rattle.std.specs.Prelude.{ℕ, zero, suc, ◌+◌, Bool, true, false, if◌then◌else◌, List, [], ◌∷◌, ◌++◌, nat_lt}
use Rattle.jr_tree.specs.declared.label.Label.{Label}
use Rattle.jr_tree.specs.declared.label.Label.TheVariants as is
use Rattle.jr_tree.specs.Rows.{Rows, label, end}

-- methods with a body, constructors and initializers, and fields with an initializer
abbrev pub has_code_by : Label → Rows → ℕ → Bool
has_code_by (is.Method modifiers is_void has_body) p n = has_body
has_code_by (is.Constructor modifiers) p n = true
has_code_by is.DefaultConstructor p n = true
has_code_by (is.Initializer is_static) p n = true
has_code_by (is.Field modifiers dims) p n = nat_lt (n + 1) (end p n)
has_code_by _ p n = false

abbrev pub has_code : Rows → ℕ → Bool
has_code p n = has_code_by (label p n) p n

-- those before a number, rising
abbrev pub bodies_below : Rows → ℕ → List ℕ
bodies_below p zero = []
bodies_below p (suc n) = bodies_below p n ++ (if has_code p n then n ∷ [] else [])
