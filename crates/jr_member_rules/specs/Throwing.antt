-- Rule 19, computed: checked classes that a method declares and another does not allow (JLS 8.4.6, 8.4.8.3, 11.2).
use Rattle.std.specs.Prelude.{ℕ, Bool, true, false, not, ◌&&◌, codes, length, nat_eq}
use Rattle.std.specs.List.{list_any}
use Rattle.jr_base.specs.declared.text.Text.{Text}
use Rattle.jr_tree.specs.declared.label.Label.{Label}
use Rattle.jr_tree.specs.declared.label.Label.TheVariants as is
use Rattle.jr_tree.specs.declared.label.NamePlace.TheVariants as place
use Rattle.jr_tree.specs.Rows.{Rows, label, parent}
use Rattle.jr_defs.specs.Referents.{Table}
use Rattle.jr_plain.specs.Search.{any_below, has}
use Rattle.jr_plain.specs.Declarations.{is_prelude}
use Rattle.jr_plain.specs.Supertypes.{declaration, is_at_or_above}
use Rattle.jr_member_rules.specs.Redefining.{Pairs, redefined}

-- a name that stands for a class in the list of thrown classes
abbrev pub is_other_name : Label → Bool
is_other_name (is.Name kind place.Other is_qualified) = true
is_other_name _ = false

-- the row n right below m names a thrown class
abbrev pub is_thrown_name : Rows → ℕ → ℕ → Bool
is_thrown_name p m n = nat_eq (parent p n) m && is_other_name (label p n)

-- the row n right below m names the thrown class c
abbrev pub throws : Rows → Table → ℕ → ℕ → ℕ → Bool
throws p t m n c = is_thrown_name p m n && has (declaration (t n)) c

-- the class of this name in java.lang is c or above it
abbrev pub is_below : Rows → Table → Text → ℕ → Bool
is_below p t x c = any_below (length p) (λ s. let above = is_at_or_above p t c s in is_prelude p x s && above)

-- Throwable and what is below it, but for Error and RuntimeException and what is below those
abbrev pub is_checked : Rows → Table → ℕ → Bool
is_checked p t c = is_below p t (codes "Throwable") c && (not (is_below p t (codes "Error") c) && not (is_below p t (codes "RuntimeException") c))

-- k declares the class or one above it
abbrev pub allows : Rows → Table → ℕ → ℕ → Bool
allows p t k c = any_below (length p) (λ n. let above = list_any (λ s. is_at_or_above p t c s) (declaration (t n)) in is_thrown_name p k n && above)

-- the row n right below m names a checked class that k does not allow
abbrev pub is_not_allowed : Rows → Table → ℕ → ℕ → ℕ → Bool
is_not_allowed p t m k n = let checked = list_any (λ c. is_checked p t c && not (allows p t k c)) (declaration (t n)) in is_thrown_name p m n && checked

-- m declares a checked class that k does not allow
abbrev pub declares_more : Rows → Table → ℕ → ℕ → Bool
declares_more p t m k = any_below (length p) (λ n. is_not_allowed p t m k n)

-- m declares a checked class that a method which it overrides or hides does not allow
abbrev pub throws_more : Rows → Table → Pairs → ℕ → Bool
throws_more p t over m = list_any (λ k. declares_more p t m k) (redefined p t over m)
