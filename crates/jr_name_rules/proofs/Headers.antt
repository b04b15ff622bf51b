-- The tests of what headers name tell what they are to tell.
use Rattle.std.proofs.Common.{◌≡◌, ◌⊎◌, ℕ, ◌<◌, ◌||◌, length, Option, nat_eq, Decides}
use Rattle.std.proofs.lemmas.Bool.Decides.{Decides-ltb, Decides-eqb}
use Rattle.jr_tree.specs.Rows.{Rows, parent}
use Rattle.jr_defs.specs.declared.referent.Referent.TheVariants.{Declared}
use Rattle.jr_defs.specs.Referents.{Table}
use Rattle.jr_defs.specs.Declarations.{IsClass, IsInterface}
use Rattle.jr_defs.specs.Modifiers.{IsFinal, IsInner}
use Rattle.jr_defs.specs.Supertypes.{NamesSuperclass, NamesSuperinterface}
use Rattle.jr_plain.specs.Declarations.{is_class, is_interface}
use Rattle.jr_plain.specs.Modifiers.{is_final, is_inner}
use Rattle.jr_plain.proofs.Tests.{both, either}
use Rattle.jr_plain.proofs.Searches.{some}
use Rattle.jr_plain.proofs.Declared.{class_tells, interface_tells}
use Rattle.jr_plain.proofs.Modified.{found_tells, final_tells, inner_tells}
use Rattle.jr_plain.proofs.Supertyped.{names_superclass_tells, names_superinterface_tells, superinterface_name_below}
use Rattle.jr_name_rules.specs.Found.{declared_row}
use Rattle.jr_name_rules.specs.HeaderTests as plain
use Rattle.jr_name_rules.proofs.Found.{declared_finds, both_found_tells}

module _ (p : Rows) (t : Table) where
  -- the row refers to the declaration
  abbrev pub RefersTo : ℕ → ℕ → Type 0
  RefersTo n d = (level : Option ℕ) × (t n ≡ Declared d level)

  abbrev pub WrongSuperclass : ℕ → Type 0
  WrongSuperclass n = NamesSuperclass p (parent p n) n × ((d : ℕ) × RefersTo n d × (IsFinal p d ⊎ (IsInterface p d ⊎ IsInner p d)))

  wrong_superclass_tells : (n : ℕ) → Decides (plain.is_wrong_superclass p t n) (WrongSuperclass n)
  wrong_superclass_tells n = both (names_superclass_tells p (parent p n) n)
      (found_tells (RefersTo n) (λ d. is_final p d || (is_interface p d || is_inner p d)) (λ d. IsFinal p d ⊎ (IsInterface p d ⊎ IsInner p d))
      (λ d. either (final_tells p d) (either (interface_tells p d) (inner_tells p d))) (declared_row (t n)) (declared_finds (t n)))

  abbrev pub WrongSuperinterface : ℕ → Type 0
  WrongSuperinterface n = NamesSuperinterface p (parent p n) n × ((d : ℕ) × RefersTo n d × IsClass p d)

  wrong_superinterface_tells : (n : ℕ) → Decides (plain.is_wrong_superinterface p t n) (WrongSuperinterface n)
  wrong_superinterface_tells n = both (names_superinterface_tells p (parent p n) n)
      (found_tells (RefersTo n) (λ d. is_class p d) (λ d. IsClass p d) (class_tells p) (declared_row (t n)) (declared_finds (t n)))

  abbrev pub SecondSuperinterface : ℕ → Type 0
  SecondSuperinterface m = NamesSuperinterface p (parent p m) m
      × ((n : ℕ) × ((NamesSuperinterface p (parent p m) n × (n < m)) × ((d : ℕ) × RefersTo n d × ((e : ℕ) × RefersTo m e × (d ≡ e)))))

  second_superinterface_tells : (m : ℕ) → Decides (plain.is_second_superinterface p t m) (SecondSuperinterface m)
  second_superinterface_tells m = both (names_superinterface_tells p (parent p m) m)
      (some _ (λ n. (NamesSuperinterface p (parent p m) n × (n < m)) × ((d : ℕ) × RefersTo n d × ((e : ℕ) × RefersTo m e × (d ≡ e))))
      (λ n. both (both (names_superinterface_tells p (parent p m) n) (Decides-ltb n m))
      (both_found_tells (RefersTo n) (RefersTo m) nat_eq (λ d e. d ≡ e) Decides-eqb (declared_row (t n)) (declared_row (t m)) (declared_finds (t n)) (declared_finds (t m))))
      (length p) (λ n h. superinterface_name_below p (parent p m) n h.0.0))

  abbrev pub WrongSupertype : ℕ → Type 0
  WrongSupertype n = WrongSuperclass n ⊎ (WrongSuperinterface n ⊎ SecondSuperinterface n)

  pub wrong_supertype_tells : (n : ℕ) → Decides (plain.has_wrong_supertype p t n) (WrongSupertype n)
  wrong_supertype_tells n = either (wrong_superclass_tells n) (either (wrong_superinterface_tells n) (second_superinterface_tells n))
