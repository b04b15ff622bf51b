-- The tests of classes that methods declare tell what they are to tell.
use Rattle.std.proofs.Common.{◌≡◌, ℕ, ◌<◌, ◌&&◌, codes, length, not, Option, Decides}
use Rattle.std.specs.List.{list_any}
use Rattle.std.proofs.lemmas.Bool.Decides.{Decides-eqb}
use Rattle.jr_base.specs.declared.text.Text.{Text}
use Rattle.jr_tree.specs.declared.label.Label.{Label}
use Rattle.jr_tree.specs.declared.label.Label.TheVariants as is
use Rattle.jr_tree.specs.declared.label.NamePlace.TheVariants as place
use Rattle.jr_tree.specs.Rows.{Rows, label, parent}
use Rattle.jr_defs.specs.declared.referent.Referent.TheVariants.{Declared}
use Rattle.jr_defs.specs.Referents.{Table}
use Rattle.jr_defs.specs.Declarations.{IsPrelude}
use Rattle.jr_defs.specs.Supertypes.{AtOrAbove}
use Rattle.jr_defs.specs.Overriding.{Overrides}
use Rattle.jr_defs.specs.MemberRules.{RedefinesMethod, IsOtherName, Throws, IsChecked, Allows}
use Rattle.jr_plain.specs.Search.{among}
use Rattle.jr_plain.specs.Headed.{IsHeaded}
use Rattle.jr_plain.specs.Same.{same_pair}
use Rattle.jr_plain.specs.Declarations.{is_prelude}
use Rattle.jr_plain.specs.Supertypes.{declaration, is_at_or_above}
use Rattle.jr_plain.proofs.Tests.{always, never, both, opposite, like}
use Rattle.jr_plain.proofs.Searches.{some, some_of}
use Rattle.jr_plain.proofs.Bounds.{bounded, type_below}
use Rattle.jr_plain.proofs.Declared.{prelude_tells}
use Rattle.jr_plain.proofs.Supertyped.{declaration_lists, at_or_above_tells}
use Rattle.jr_member_rules.specs.Redefining.{Pairs, redefined}
use Rattle.jr_member_rules.specs.Throwing as plain
use Rattle.jr_member_rules.proofs.Redefined.{redefined_list}

other_name_tells : (l : Label) → Decides (plain.is_other_name l) (IsOtherName l)
other_name_tells (is.Name kind place.Other b) = always
other_name_tells _ = never

-- a name right below m that stands for a class
abbrev IsThrownName : Rows → ℕ → ℕ → Type 0
IsThrownName p m n = (parent p n ≡ m) × IsOtherName (label p n)

thrown_name_tells : (p : Rows) (m n : ℕ) → Decides (plain.is_thrown_name p m n) (IsThrownName p m n)
thrown_name_tells p m n = both (Decides-eqb (parent p n) m) (other_name_tells (label p n))

thrown_row : (p : Rows) (m n : ℕ) → IsThrownName p m n → n < length p
thrown_row p m n h = bounded IsOtherName (λ h. h) p n h.1

-- the declaration at a row
abbrev Refers : Table → ℕ → ℕ → Type 0
Refers t n c = (level : Option ℕ) × (t n ≡ Declared c level)

pub throws_tells : (p : Rows) (t : Table) (m n c : ℕ) → Decides (plain.throws p t m n c) (Throws p t m n c)
throws_tells p t m n c = like (both (thrown_name_tells p m n) (declaration_lists (t n) c))
    (λ h. record { inside = h.0.0; named = h.0.1; level = h.1.0; refers = h.1.1 }) (λ h. ((h.inside, h.named), (h.level, h.refers)))

module _ (p : Rows) (t : Table) (headed : IsHeaded p) where
  below_tells : (x : Text) (c : ℕ) → Decides (plain.is_below p t x c) ((s : ℕ) × (IsPrelude p x s × AtOrAbove p t c s))
  below_tells x c = some (λ s. is_prelude p x s && is_at_or_above p t c s) (λ s. IsPrelude p x s × AtOrAbove p t c s) (λ s. both (prelude_tells p x s) (at_or_above_tells p t headed c s))
      (length p) (λ s h. type_below p s h.0.type)

  pub checked_tells : (c : ℕ) → Decides (plain.is_checked p t c) (IsChecked p t c)
  checked_tells c = like (both (below_tells (codes "Throwable") c) (both (opposite (below_tells (codes "Error") c)) (opposite (below_tells (codes "RuntimeException") c))))
      (λ h. record {
        throwable = h.0.0;
        is_throwable = h.0.1.0;
        below_it = h.0.1.1;
        no_error = λ e i a. h.1.0 (e, (i, a));
        no_runtime = λ e i a. h.1.1 (e, (i, a));
      })
      (λ h. ((h.throwable, (h.is_throwable, h.below_it)), (λ k. h.no_error k.0 k.1.0 k.1.1, λ k. h.no_runtime k.0 k.1.0 k.1.1)))

  abbrev AllowsAt : ℕ → ℕ → ℕ → Type 0
  AllowsAt k c n = IsThrownName p k n × ((s : ℕ) × Refers t n s × AtOrAbove p t c s)

  pub allows_tells : (k c : ℕ) → Decides (plain.allows p t k c) (Allows p t k c)
  allows_tells k c = like
      (some (λ n. plain.is_thrown_name p k n && list_any (λ s. is_at_or_above p t c s) (declaration (t n))) (AllowsAt k c)
      (λ n. both (thrown_name_tells p k n)
      (some_of (λ s. is_at_or_above p t c s) (λ s. AtOrAbove p t c s) (λ s. at_or_above_tells p t headed c s) (declaration (t n)) (declaration_lists (t n))))
      (length p) (λ n h. thrown_row p k n h.0))
      (λ h. record {
        row = h.0;
        class = h.1.1.0;
        declares = record { inside = h.1.0.0; named = h.1.0.1; level = h.1.1.1.0; refers = h.1.1.1.1 };
        above = h.1.1.2;
      })
      (λ h. (h.row, ((h.declares.inside, h.declares.named), (h.class, (h.declares.level, h.declares.refers), h.above))))

  -- the row n right below m names a checked class that k does not allow
  abbrev pub IsNotAllowed : ℕ → ℕ → ℕ → Type 0
  IsNotAllowed m k n = IsThrownName p m n × ((c : ℕ) × Refers t n c × (IsChecked p t c × (Allows p t k c → ⊥)))

  not_allowed_tells : (m k n : ℕ) → Decides (plain.is_not_allowed p t m k n) (IsNotAllowed m k n)
  not_allowed_tells m k n = both (thrown_name_tells p m n)
      (some_of (λ c. plain.is_checked p t c && not (plain.allows p t k c)) (λ c. IsChecked p t c × (Allows p t k c → ⊥)) (λ c. both (checked_tells c) (opposite (allows_tells k c)))
      (declaration (t n)) (declaration_lists (t n)))

  pub declares_more_tells : (m k : ℕ) → Decides (plain.declares_more p t m k) ((n : ℕ) × IsNotAllowed m k n)
  declares_more_tells m k = some (λ n. plain.is_not_allowed p t m k n) (IsNotAllowed m k) (not_allowed_tells m k) (length p) (λ n h. thrown_row p m n h.0)

  pub throws_more_tells : (over : Pairs) → ((m k : ℕ) → Decides (among same_pair over (m, k)) (Overrides p t m k)) → (m : ℕ)
      → Decides (plain.throws_more p t over m) ((k : ℕ) × RedefinesMethod p t m k × ((n : ℕ) × IsNotAllowed m k n))
  throws_more_tells over pairs m = some_of _ (λ k. (n : ℕ) × IsNotAllowed m k n)
      (λ k. declares_more_tells m k) (redefined p t over m) (redefined_list p t headed over pairs m)
