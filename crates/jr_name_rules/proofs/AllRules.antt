-- The test of all rules on declarations, headers, imports and access tells what it is to tell.
use Rattle.std.proofs.Common.{◌≡◌, ◌⊎◌, refl, sym, ◌∙◌, subst, inl, inr, ⊎_elim, ℕ, ◌+◌, Bool, true, false, List, ◌++◌, nat_eq, Decides}
use Rattle.std.proofs.lemmas.Bool.{false≢true}
use Rattle.std.proofs.lemmas.Bool.Decides.{Decides-eqb}
use Rattle.jr_tree.specs.declared.label.Role.TheVariants as role
use Rattle.jr_tree.specs.declared.label.ImportKind.{ImportKind}
use Rattle.jr_tree.specs.Rows.{Rows, name, parent, role_at}
use Rattle.jr_defs.specs.declared.referent.Referent.TheVariants.{Declared}
use Rattle.jr_defs.specs.declared.referent.Space.TheVariants as space
use Rattle.jr_defs.specs.Referents.{Table}
use Rattle.jr_defs.specs.Declarations.{IsOf}
use Rattle.jr_defs.specs.Types.{SameSignature}
use Rattle.jr_defs.specs.Imports.{ImportOf, ImportedBy}
use Rattle.jr_defs.specs.Supertypes.{NamesSuperclass, NamesSuperinterface}
use Rattle.jr_defs.specs.Rules.{Twice, BringsType, DeclaresTop, Breaks}
use Rattle.jr_plain.specs.Headed.{IsHeaded}
use Rattle.jr_plain.specs.Search.{has}
use Rattle.jr_plain.specs.Overloads.{Types}
use Rattle.jr_plain.specs.Typing.{IsTypable}
use Rattle.jr_plain.proofs.Tests.{never, either, like}
use Rattle.jr_plain.proofs.Searches.{among_append}
use Rattle.jr_name_rules.specs.ImportTests.{has_import_clash, is_import_not_canonical}
use Rattle.jr_name_rules.specs.AccessTests.{is_not_accessible}
use Rattle.jr_name_rules.specs.Computed.{rule_if, broken_at, types, breaks}
use Rattle.jr_name_rules.proofs.Known.{types_find}
use Rattle.jr_name_rules.proofs.Found.{next_tells}
use Rattle.jr_name_rules.proofs.Declarations.{TypeClash, SecondConstructor, InScopeOf, SecondLocal, SecondLabel, type_clash_tells, second_field_tells, second_method_tells, second_constructor_tells, second_local_tells, second_label_tells}
use Rattle.jr_name_rules.proofs.Imports.{ImportClash, ImportNotCanonical, StaticImportFault, import_clash_tells, import_not_canonical_tells, static_import_fault_tells}
use Rattle.jr_name_rules.proofs.Headers.{WrongSupertype, wrong_supertype_tells}
use Rattle.jr_name_rules.proofs.Access.{NotAccessible, not_accessible_tells}

-- a rule that is broken is the one
rule_tells : {P : Type 0} (b : Bool) (k rule : ℕ) → Decides b P → Decides (has (rule_if b k) rule) ((k ≡ rule) × P)
rule_tells true k rule d = like (either (Decides-eqb k rule) never) (⊎_elim (λ e. (e, d.0 refl)) (λ h. absurd h)) (λ h. inl h.0)
rule_tells false k rule d = like never (λ h. absurd h) (λ h. false≢true (d.1 h.1))

-- a rule of the first list or of those behind it
or_tells : {P Q : Type 0} (first others : List ℕ) (rule : ℕ) → Decides (has first rule) P → Decides (has others rule) Q → Decides (has (first ++ others) rule) (P ⊎ Q)
or_tells first others rule p q = like (among_append nat_eq Decides-eqb first others rule) (⊎_elim (λ h. inl (p.0 h)) (λ h. inr (q.0 h))) (⊎_elim (λ h. inl (p.1 h)) (λ h. inr (q.1 h)))

module _ (p : Rows) (t : Table) where
  -- each rule at the row, by what its test asks
  abbrev Field : ℕ → Type 0
  Field n = (d : ℕ) × Twice p role.Field d n × (name p d ≡ name p n)

  abbrev Method : ℕ → Type 0
  Method n = (d : ℕ) × Twice p role.Method d n × SameSignature p t d n

  abbrev Next : (ℕ → Type 0) → ℕ → Type 0
  Next P n = (k : ℕ) × P k × (k + 1 ≡ n)

  abbrev Ways : ℕ → ℕ → Type 0
  Ways rule n = ((2 ≡ rule) × TypeClash p n) ⊎ (((3 ≡ rule) × Field n) ⊎ (((4 ≡ rule) × Method n) ⊎ (((5 ≡ rule) × SecondConstructor p t n) ⊎ (((6 ≡ rule) × SecondLocal p n)
      ⊎ (((7 ≡ rule) × SecondLabel p n) ⊎ (((8 ≡ rule) × Next (ImportClash p t) n) ⊎ (((9 ≡ rule) × Next (ImportNotCanonical p t) n) ⊎ (((10 ≡ rule) × NotAccessible p t n)
      ⊎ (((13 ≡ rule) × WrongSupertype p t n) ⊎ ((47 ≡ rule) × StaticImportFault p t n))))))))))

  -- ---- from the tests

  type_clash_out : (n : ℕ) → TypeClash p n → Breaks p t 2 n
  type_clash_out n (inl h) = Breaks.two_types h.1 h.2
  type_clash_out n (inr (inl h)) = Breaks.two_top_types h.1.1.0.0 h.0 h.1.1.1.1 h.1.1.1.0 h.1.1.0.1
  type_clash_out n (inr (inr (inl h))) = Breaks.type_and_subpackage h.0 h.1
  type_clash_out n (inr (inr (inr h))) = Breaks.type_in_its_name h.0 h.1.1 (sym h.1.2)

  second_local_by : (d e : ℕ) → (role_at p e ≡ role.Local) ⊎ (role_at p e ≡ role.Parameter) → name p d ≡ name p e → InScopeOf p d e → Breaks p t 6 e
  second_local_by d e (inl r) named (inl h) = Breaks.local_in_local (subst (IsOf space.Variable) (sym r) tt) h r named
  second_local_by d e (inr r) named (inl h) = Breaks.parameter_in_local h r named
  second_local_by d e r named (inr (inl h)) = Breaks.in_parameter h r named
  second_local_by d e r named (inr (inr h)) = Breaks.two_parameters h.0.first h.0.second h.0.beside named h.1

  import_clash_out : (j : ℕ) → ImportClash p t j → Breaks p t 8 (j + 1)
  import_clash_out j (inl h) = Breaks.two_imports (record { is_import = h.1.1.0.0; names = h.1.1.1.1 }) (record { is_import = h.0; names = h.1.1.1.2.1 })
      h.1.1.0.1 h.1.1.1.2.2.0 h.1.1.1.2.2.1
  import_clash_out j (inr h) = Breaks.import_and_type (record { is_import = h.0; names = h.1.1.1.1 }) h.1.1.0 h.1.1.1.2.0 h.1.1.1.2.1

  not_canonical_out : (i : ℕ) → ImportNotCanonical p t i → Breaks p t 9 (i + 1)
  not_canonical_out i h = Breaks.import_not_canonical {u = parent p i} (record { import = h.0.1; inside = refl }) h.1.1 h.1.2

  next_out : (rule : ℕ) (P : ℕ → Type 0) → ((k : ℕ) → P k → Breaks p t rule (k + 1)) → (n : ℕ) → Next P n → Breaks p t rule n
  next_out rule P out n h = subst (λ m. Breaks p t rule m) h.2 (out h.0 h.1)

  wrong_supertype_out : (n : ℕ) → WrongSupertype p t n → Breaks p t 13 n
  wrong_supertype_out n (inl h) = ⊎_elim (λ k. Breaks.final_superclass h.0 h.1.1.1 k)
      (⊎_elim (λ k. Breaks.interface_as_superclass h.0 h.1.1.1 k) (λ k. Breaks.inner_superclass h.0 h.1.1.1 k)) h.1.2
  wrong_supertype_out n (inr (inl h)) = Breaks.class_as_superinterface h.0 h.1.1.1 h.1.2
  wrong_supertype_out n (inr (inr h)) = let both = h.1.1.1 in
      Breaks.superinterface_twice h.1.1.0.0 h.0 h.1.1.0.1 both.1.1 (subst (λ d. t n ≡ Declared d both.2.1.0) (sym both.2.2) both.2.1.1)

  access_out : {n : ℕ} → NotAccessible p t n → Breaks p t 10 n
  access_out (occurs, h) = ⊎_elim (λ k. Breaks.not_accessible occurs k.1.1 k.2.1 k.2.2) (λ k. Breaks.of_hidden_type occurs k) h

  static_fault_out : (i : ℕ) → StaticImportFault p t i → Breaks p t 47 i
  static_fault_out i (inl h) = Breaks.imports_nothing h.0 (λ d k. h.1 (d, k))
  static_fault_out i (inr h) = let clash = h.1.1.1.1 in ⊎_elim
      (λ k. Breaks.imports_another h.1.1.0.1 h.1.1.0.0 k.1.1 k.1.0 clash.0.0 clash.0.1) (λ k. Breaks.imports_beside h.1.1.0.1 h.1.1.0.0 k clash.0.0 clash.0.1) clash.1

  module _ (rule n : ℕ) where
    moved : {k : ℕ} → k ≡ rule → Breaks p t k n → Breaks p t rule n
    moved e h = subst (λ r. Breaks p t r n) e h

    ways_out : Ways rule n → Breaks p t rule n
    ways_out (inl h) = moved h.0 (type_clash_out n h.1)
    ways_out (inr (inl h)) = moved h.0 (Breaks.two_fields h.1.1 h.1.2)
    ways_out (inr (inr (inl h))) = moved h.0 (Breaks.two_methods h.1.1 h.1.2)
    ways_out (inr (inr (inr (inl h)))) = let k = h.1.1 in moved h.0 (Breaks.two_constructors k.0.0.1 k.0.0.2 k.0.1 k.1)
    ways_out (inr (inr (inr (inr (inl h))))) = moved h.0 (second_local_by h.1.1.0 n h.1.0 h.1.1.1.0 h.1.1.1.1)
    ways_out (inr (inr (inr (inr (inr (inl h)))))) = moved h.0 (Breaks.label_in_label h.1.1.1.0 h.1.0 h.1.1.1.1)
    ways_out (inr (inr (inr (inr (inr (inr (inl h))))))) = moved h.0 (next_out 8 (ImportClash p t) import_clash_out n h.1)
    ways_out (inr (inr (inr (inr (inr (inr (inr (inl h)))))))) = moved h.0 (next_out 9 (ImportNotCanonical p t) not_canonical_out n h.1)
    ways_out (inr (inr (inr (inr (inr (inr (inr (inr (inl h))))))))) = moved h.0 (access_out h.1)
    ways_out (inr (inr (inr (inr (inr (inr (inr (inr (inr (inl h)))))))))) = moved h.0 (wrong_supertype_out n h.1)
    ways_out (inr (inr (inr (inr (inr (inr (inr (inr (inr (inr h)))))))))) = moved h.0 (static_fault_out n h.1)

  -- ---- into the tests

  own_unit : {u i : ℕ} {form : ImportKind} → ImportOf p u form i → ImportOf p (parent p i) form i
  own_unit h = record { import = h.import; inside = refl }

  beside_import : {u e i : ℕ} {form : ImportKind} → ImportOf p u form i → DeclaresTop p u e → DeclaresTop p (parent p i) e
  beside_import i h = record { top = h.top; inside = h.inside ∙ sym i.inside }

  beside_other : {u i j : ℕ} {form other : ImportKind} → ImportOf p u form i → ImportOf p u other j → ImportOf p (parent p j) form i
  beside_other h k = record { import = h.import; inside = h.inside ∙ sym k.inside }

  own_superclass : {c n : ℕ} → NamesSuperclass p c n → NamesSuperclass p (parent p n) n
  own_superclass h = record { names = h.names; inside = refl }

  own_superinterface : {c n : ℕ} → NamesSuperinterface p c n → NamesSuperinterface p (parent p n) n
  own_superinterface h = record { names = h.names; inside = refl }

  beside_superinterface : {c n m : ℕ} → NamesSuperinterface p c n → NamesSuperinterface p c m → NamesSuperinterface p (parent p m) n
  beside_superinterface h k = record { names = h.names; inside = h.inside ∙ sym k.inside }

  imported_at : {u v i d : ℕ} → u ≡ v → ImportedBy p t u i d → ImportedBy p t v i d
  imported_at {i = i} {d = d} e h = subst (λ w. ImportedBy p t w i d) e h

  brought_at : {u v j e : ℕ} → u ≡ v → BringsType p t u j e → BringsType p t v j e
  brought_at {j = j} {e = e} same h = subst (λ w. BringsType p t w j e) same h

  ways_in : {rule n : ℕ} → Breaks p t rule n → Ways rule n
  ways_in (Breaks.two_types {d = d} h named) = inl (refl, inl (d, h, named))
  ways_in (Breaks.two_top_types {d = d} h k same named lt) = inl (refl, inr (inl (k, (d, ((h, lt), (named, same))))))
  ways_in (Breaks.type_and_subpackage h k) = inl (refl, inr (inr (inl (h, k))))
  ways_in (Breaks.type_in_its_name {e = e} type h named) = inl (refl, inr (inr (inr (type, (e, h, sym named)))))
  ways_in (Breaks.two_fields {d = d} h named) = inr (inl (refl, (d, h, named)))
  ways_in (Breaks.two_methods {d = d} h same) = inr (inr (inl (refl, (d, h, same))))
  ways_in (Breaks.two_constructors {c = c} {d = d} h k lt same) = inr (inr (inr (inl (refl, (d, (((c, h, k), lt), same))))))
  ways_in (Breaks.local_in_local {d = d} variable h r named) = inr (inr (inr (inr (inl (refl, (inl r, (d, (named, inl h))))))))
  ways_in (Breaks.parameter_in_local {d = d} h r named) = inr (inr (inr (inr (inl (refl, (inr r, (d, (named, inl h))))))))
  ways_in (Breaks.in_parameter {d = d} h r named) = inr (inr (inr (inr (inl (refl, (r, (d, (named, inr (inl h)))))))))
  ways_in (Breaks.two_parameters {d = d} q r beside named lt) = inr (inr (inr (inr (inl (refl, (inr r, (d, (named, inr (inr (record { first = q; second = r; beside = beside }, lt))))))))))
  ways_in (Breaks.label_in_label {d = d} h r named) = inr (inr (inr (inr (inr (inl (refl, (r, (d, (h, named)))))))))
  ways_in (Breaks.two_imports {i = i} {j = j} {d = d} {e = e} h k lt named apart) =
      inr (inr (inr (inr (inr (inr (inl (refl, (j, inl (own_unit k.is_import, (i, ((beside_other h.is_import k.is_import, lt), (d, h.names, (e, k.names, (named, apart)))))), refl))))))))
  ways_in (Breaks.import_and_type {i = i} {d = d} {e = e} h top named apart) =
      inr (inr (inr (inr (inr (inr (inl (refl, (i, inr (own_unit h.is_import, (e, (beside_import h.is_import top, (d, h.names, (named, apart))))), refl))))))))
  ways_in (Breaks.import_not_canonical {i = i} {d = d} {form = form} h names other) = inr (inr (inr (inr (inr (inr (inr (inl (refl, (i, ((form, h.import), (d, names, other)), refl)))))))))
  ways_in (Breaks.not_accessible {d = d} {level = level} {through = through} occurs e h hidden) =
      inr (inr (inr (inr (inr (inr (inr (inr (inl (refl, (occurs, inl (d, (level, e), (through, h, hidden))))))))))))
  ways_in (Breaks.of_hidden_type occurs h) = inr (inr (inr (inr (inr (inr (inr (inr (inl (refl, (occurs, inr h))))))))))
  ways_in (Breaks.final_superclass {d = d} {level = level} h e k) = inr (inr (inr (inr (inr (inr (inr (inr (inr (inl (refl, inl (own_superclass h, (d, (level, e), inl k))))))))))))
  ways_in (Breaks.interface_as_superclass {d = d} {level = level} h e k) = inr (inr (inr (inr (inr (inr (inr (inr (inr (inl (refl, inl (own_superclass h, (d, (level, e), inr (inl k)))))))))))))
  ways_in (Breaks.inner_superclass {d = d} {level = level} h e k) = inr (inr (inr (inr (inr (inr (inr (inr (inr (inl (refl, inl (own_superclass h, (d, (level, e), inr (inr k)))))))))))))
  ways_in (Breaks.class_as_superinterface {d = d} {level = level} h e k) = inr (inr (inr (inr (inr (inr (inr (inr (inr (inl (refl, inr (inl (own_superinterface h, (d, (level, e), k)))))))))))))
  ways_in (Breaks.superinterface_twice {n = n} {d = d} {level = level} {other = other} h k lt e f) =
      inr (inr (inr (inr (inr (inr (inr (inr (inr (inl (refl, inr (inr (own_superinterface k, (n, ((beside_superinterface h k, lt), (d, (level, e), (d, (other, f), refl))))))))))))))))
  ways_in (Breaks.imports_nothing {i = i} h none) = inr (inr (inr (inr (inr (inr (inr (inr (inr (inr (refl, inl (own_unit h, λ k. none k.0 (imported_at h.inside k.1))))))))))))
  ways_in (Breaks.imports_another {i = i} {j = j} {d = d} {e = e} h type k apart named other) =
      inr (inr (inr (inr (inr (inr (inr (inr (inr (inr (
        refl,
        inr (
          own_unit h.is_import,
          (d, ((type, imported_at (sym h.is_import.inside) h), (e, ((named, other), inl (j, (apart, brought_at (sym h.is_import.inside) k)))))),
        ),
      ))))))))))
  ways_in (Breaks.imports_beside {i = i} {d = d} {e = e} h type top named other) =
      inr (inr (inr (inr (inr (inr (inr (inr (inr (inr (refl, inr (own_unit h.is_import, (d, ((type, imported_at (sym h.is_import.inside) h), (e, ((named, other), inr (beside_import h.is_import top))))))))))))))))

-- a rule that is another one
other_tells : {P : Type 0} (b : Bool) (k rule : ℕ) → (k ≡ rule → ⊥) → Decides (has (rule_if b k) rule) ((k ≡ rule) × P)
other_tells true k rule other = like (either (Decides-eqb k rule) never) (⊎_elim (λ e. absurd (other e)) (λ h. absurd h)) (λ h. inl h.0)
other_tells false k rule other = like never (λ h. absurd h) (λ h. other h.0)

module _ (p : Rows) (t : Table) (headed : IsHeaded p) (type_of : Types) (rule n : ℕ) where
  ways_tell : Decides (has (rule_if (is_not_accessible p t type_of n) 10) rule) ((10 ≡ rule) × NotAccessible p t n) → Decides (has (broken_at p t type_of n) rule) (Ways p t rule n)
  ways_tell access = let tree = headed.tree in or_tells _ _ rule (rule_tells _ 2 rule (type_clash_tells p tree n))
      (or_tells _ _ rule (rule_tells _ 3 rule (second_field_tells p n))
      (or_tells _ _ rule (rule_tells _ 4 rule (second_method_tells p t tree n))
      (or_tells _ _ rule (rule_tells _ 5 rule (second_constructor_tells p t tree n))
      (or_tells _ _ rule (rule_tells _ 6 rule (second_local_tells p n))
      (or_tells _ _ rule (rule_tells _ 7 rule (second_label_tells p n))
      (or_tells _ _ rule (rule_tells _ 8 rule (next_tells (has_import_clash p t) (ImportClash p t) (import_clash_tells p t) n))
      (or_tells _ _ rule (rule_tells _ 9 rule (next_tells (is_import_not_canonical p t) (ImportNotCanonical p t) (import_not_canonical_tells p t tree) n))
      (or_tells _ _ rule access
      (or_tells _ _ rule (rule_tells _ 13 rule (wrong_supertype_tells p t n))
      (rule_tells _ 47 rule (static_import_fault_tells p t headed n)))))))))))

  broken_tells : Decides (has (rule_if (is_not_accessible p t type_of n) 10) rule) ((10 ≡ rule) × NotAccessible p t n) → Decides (has (broken_at p t type_of n) rule) (Breaks p t rule n)
  broken_tells access = like (ways_tell access) (ways_out p t rule n) (ways_in p t)

pub breaks_tells : (p : Rows) (t : Table) (rule n : ℕ) → IsTypable p t → Decides (breaks p t rule n) (Breaks p t rule n)
breaks_tells p t rule n typable = broken_tells p t typable.headed (types p t) rule n (rule_tells _ 10 rule (not_accessible_tells p t typable.headed (types p t) (types_find p t typable) n))

-- all rules but that on access are told whatever the types are
pub others_tell : (p : Rows) (t : Table) (type_of : Types) (rule n : ℕ) → IsHeaded p → (rule ≡ 10 → ⊥) → Decides (has (broken_at p t type_of n) rule) (Breaks p t rule n)
others_tell p t type_of rule n headed other = broken_tells p t headed type_of rule n (other_tells _ 10 rule (λ e. other (sym e)))
