-- The faults of the rules on methods beside and above others, at one row.
use Rattle.std.proofs.Common.{◌≡◌, ◌⊎◌, refl, sym, ◌∙◌, ap, ap₂, subst, inl, inr, ⊎_elim, ℕ, Bool, true, false, cond, not, ◌||◌, List, [], Decides}
use Rattle.std.specs.List.{list_any}
use Rattle.std.proofs.lemmas.Bool.{false≢true, or_parts}
use Rattle.jr_tree.specs.Rows.{Rows, label, role_at}
use Rattle.jr_defs.specs.Referents.{Table}
use Rattle.jr_defs.specs.Declarations.{IsType}
use Rattle.jr_defs.specs.Modifiers.{written, IsStatic}
use Rattle.jr_defs.specs.Overriding.{Overrides}
use Rattle.jr_defs.specs.MemberRules.{Hides, RedefinesMethod}
use Rattle.jr_plain.specs.Search.{has, Lists}
use Rattle.jr_plain.specs.Headed.{IsHeaded}
use Rattle.jr_plain.specs.Modifiers.{is_static}
use Rattle.jr_plain.specs.Overriding.{overriding}
use Rattle.jr_plain.specs.Overloads.{is_result_fit}
use Rattle.jr_plain.proofs.Tests.{itself, opposite, like}
use Rattle.jr_plain.proofs.Searches.{some_of}
use Rattle.jr_plain.proofs.Declared.{type_tells}
use Rattle.jr_plain.proofs.Modified.{static_tells}
use Rattle.jr_plain.proofs.Dispatched.{overrides_tells}
use Rattle.jr_supers.proofs.Subtyped.{one_test}
use Rattle.jr_members.specs.declared.members.World.{World}
use Rattle.jr_dispatch.proofs.Overriding.{overrides_above}
use Rattle.jr_rule.specs.declared.Fault.{Fault}
use Rattle.jr_rule.specs.declared.Rule.TheVariants as rule
use Rattle.jr_rule.specs.Faults.{AreFaultsOf}
use Rattle.jr_faults.specs.Added.{row_if, is_rule, AreOnly}
use Rattle.jr_faults.proofs.Told.{none_then, then_none, told_at}
use Rattle.jr_member_rules.specs.Redefining as plain
use Rattle.jr_member_rules.specs.Throwing.{declares_more}
use Rattle.jr_member_rules.specs.Computed.{leaves_methods, results_do_not_fit, access_is_narrowed, methods_are_mixed, more_is_thrown}
use Rattle.jr_member_rules.proofs.Redefined.{redefined_list, mixed_tells}
use Rattle.jr_member_faults.specs.declared.beside.Left.{Left}
use Rattle.jr_member_faults.specs.Faults.{declares, is_of_members}
use Rattle.jr_member_faults.specs.Inherited.{nothing}
use Rattle.jr_member_faults.specs.Methods.{AreFaultsOn, IsLeftAtRow}
use Rattle.jr_member_faults.specs.Nearest.{Keeps, AreTelling}
use Rattle.jr_member_faults.specs.Redefined.{AreSame, are_mixed}
use Rattle.jr_member_faults.specs.Views.{rows_of, table_of, IsRightWorld}
use Rattle.jr_member_faults.proofs.Chained.{keeps_result, keeps_access, keeps_kind, keeps_final, keeps_throws}
use Rattle.jr_member_faults.proofs.Nearing.{listed_telling}
use Rattle.jr_member_faults.proofs.Overridden.{redefined_same, none_redefined}
use Rattle.jr_member_faults.proofs.Passed.{no_method, no_type}
use Rattle.jr_member_faults.proofs.Placed.{left_other}

module _ (p : Rows) (t : Table) (headed : IsHeaded p) (n : ℕ) where
  plain_lists : Lists (plain.redefined p t (overriding p t) n) (RedefinesMethod p t n)
  plain_lists = redefined_list p t headed (overriding p t) (overrides_tells p t headed) n

  -- the tests over what a method overrides or hides
  module _ (over : List ℕ) (are : AreTelling p t n over) where
    pub over_same : AreSame p t n over
    over_same k at = redefined_same p t headed n k (are.part k at)

    -- a test that passes only where a rule is broken
    over_tells : (test : ℕ → Bool) → ((k : ℕ) → Keeps p t n k → test k ≡ false) → Decides (list_any test over) ((k : ℕ) × RedefinesMethod p t n k × (test k ≡ true))
    over_tells test kept = like (some_of test (λ k. test k ≡ true) (λ k. itself (test k)) over (λ k. itself (has over k))) (λ h. (h.0, are.part h.0 h.1, h.2))
        (λ h. ⊎_elim (λ at. (h.0, at, h.2)) (λ keeps. absurd (false≢true (sym (kept h.0 keeps) ∙ h.2))) (are.rest h.0 h.1))

    over_is : (test : ℕ → Bool) → ((k : ℕ) → Keeps p t n k → test k ≡ false) → list_any test over ≡ list_any test (plain.redefined p t (overriding p t) n)
    over_is test kept = one_test (list_any test over) (list_any test (plain.redefined p t (overriding p t) n)) ((k : ℕ) × RedefinesMethod p t n k × (test k ≡ true))
        (over_tells test kept) (some_of test (λ k. test k ≡ true) (λ k. itself (test k)) (plain.redefined p t (overriding p t) n) plain_lists)

    -- one of them is of the other kind
    abbrev IsMixed : ℕ → Type 0
    IsMixed k = are_mixed p n k ≡ true

    mixed_out : (b : Bool) → is_static p n ≡ b → (k : ℕ) × RedefinesMethod p t n k × IsMixed k → ((k : ℕ) × Hides p t n k × (IsStatic p k → ⊥)) ⊎ ((k : ℕ) × Overrides p t n k × IsStatic p k)
    mixed_out true e (k, RedefinesMethod.overriding h, mixed) = let a = overrides_above p t n k h in absurd (a.instance ((static_tells p n).0 e))
    mixed_out true e (k, RedefinesMethod.hiding h, mixed) = inl (k, h, (opposite (static_tells p k)).0 (sym (ap (λ b. cond b (not (is_static p k)) (is_static p k)) e) ∙ mixed))
    mixed_out false e (k, RedefinesMethod.overriding h, mixed) = inr (k, h, (static_tells p k).0 (sym (ap (λ b. cond b (not (is_static p k)) (is_static p k)) e) ∙ mixed))
    mixed_out false e (k, RedefinesMethod.hiding h, mixed) = absurd (false≢true (sym e ∙ (static_tells p n).1 h.static))

    instance_is : (k : ℕ) → Overrides p t n k → is_static p n ≡ false
    instance_is k h = by (is_static p n) refl
      where
        by : (b : Bool) → is_static p n ≡ b → b ≡ false
        by true e = let a = overrides_above p t n k h in absurd (a.instance ((static_tells p n).0 e))
        by false e = refl

    mixed_in : ((k : ℕ) × Hides p t n k × (IsStatic p k → ⊥)) ⊎ ((k : ℕ) × Overrides p t n k × IsStatic p k) → (k : ℕ) × RedefinesMethod p t n k × IsMixed k
    mixed_in (inl h) = (h.0, RedefinesMethod.hiding h.1, ap (λ b. cond b (not (is_static p h.0)) (is_static p h.0)) ((static_tells p n).1 h.1.static) ∙ (opposite (static_tells p h.0)).1 h.2)
    mixed_in (inr h) = (h.0, RedefinesMethod.overriding h.1, ap (λ b. cond b (not (is_static p h.0)) (is_static p h.0)) (instance_is h.0 h.1) ∙ (static_tells p h.0).1 h.2)

    mixed_is : list_any (are_mixed p n) over ≡ plain.is_mixed p t (overriding p t) n
    mixed_is = one_test (list_any (are_mixed p n) over) (plain.is_mixed p t (overriding p t) n) ((k : ℕ) × RedefinesMethod p t n k × IsMixed k)
        (over_tells (are_mixed p n) (λ k. keeps_kind p t n k))
        (like (mixed_tells p t headed (overriding p t) (overrides_tells p t headed) n) mixed_in (mixed_out (is_static p n) refl))

    module _ (left : Left) (left_is : IsLeftAtRow p t n left) where
      pub results_is : (is : Bool) → is ≡ list_any (λ k. not (is_result_fit p t n k)) over → (is || left.results) ≡ results_do_not_fit p t (overriding p t) n
      results_is is e = ap₂ (λ a b. a || b) (e ∙ over_is (λ k. not (is_result_fit p t n k)) (λ k. keeps_result p t n k)) left_is.results

      pub access_is : (is : Bool) → is ≡ list_any (λ k. plain.is_narrower p n k) over → (is || left.access) ≡ access_is_narrowed p t (overriding p t) n
      access_is is e = ap₂ (λ a b. a || b) (e ∙ over_is (λ k. plain.is_narrower p n k) (λ k. keeps_access p t n k)) left_is.access

      pub statics_is : (is : Bool) → is ≡ list_any (are_mixed p n) over → (is || left.statics) ≡ methods_are_mixed p t (overriding p t) n
      statics_is is e = ap₂ (λ a b. a || b) (e ∙ mixed_is) left_is.statics

      pub throws_is : (is : Bool) → is ≡ list_any (λ k. declares_more p t n k) over → (is || left.throws) ≡ more_is_thrown p t (overriding p t) n
      throws_is is e = ap₂ (λ a b. a || b) (e ∙ over_is (λ k. declares_more p t n k) (λ k. keeps_throws p t n k)) left_is.throws

    pub finals_is : (is : Bool) → is ≡ list_any (λ k. (written (label p k)).is_final) over → is ≡ plain.is_over_final p t (overriding p t) n
    finals_is is e = e ∙ over_is (λ k. (written (label p k)).is_final) (λ k. keeps_final p t n k)

-- ---- a row that is not looked at

-- nothing is broken there
pub record ArePast (p : Rows) (t : Table) (n : ℕ) : Type 0 where
  pub abstracts : leaves_methods p t n ≡ false
  pub results : results_do_not_fit p t (overriding p t) n ≡ false
  pub access : access_is_narrowed p t (overriding p t) n ≡ false
  pub statics : methods_are_mixed p t (overriding p t) n ≡ false
  pub finals : plain.is_over_final p t (overriding p t) n ≡ false
  pub throws : more_is_thrown p t (overriding p t) n ≡ false

pub methods_past : (world : World) → IsRightWorld world → (n : ℕ) → is_of_members (rows_of world) n ≡ false → ArePast (rows_of world) (table_of world) n
methods_past world right n none =
    let p = rows_of world in let t = table_of world in let headed = right.whole.world_is.seen.above.well.headed in
    let other = or_parts (declares (role_at p n)) _ none in
    let apart : (IsType p n → ⊥) = λ h. absurd (false≢true (sym (no_type (role_at p n) other.0) ∙ (type_tells p n).1 h)) in
    let over : AreTelling p t n [] = listed_telling p t n [] (none_redefined p t headed n [] (no_method (role_at p n) other.0) refl) in
    let left_is : IsLeftAtRow p t n nothing = left_other world right n apart in record {
      abstracts = sym left_is.abstracts;
      results = sym (results_is p t headed n [] over nothing left_is false refl);
      access = sym (access_is p t headed n [] over nothing left_is false refl);
      statics = sym (statics_is p t headed n [] over nothing left_is false refl);
      finals = sym (finals_is p t headed n [] over false refl);
      throws = sym (throws_is p t headed n [] over nothing left_is false refl);
    }

-- the same, of a world that is another
pub faults_in : {old new : List Fault} {one other : World} (n : ℕ) → one ≡ other → AreFaultsOn one (λ test. row_if (test n) n) old new → AreFaultsOn other (λ test. row_if (test n) n) old new
faults_in {old} {new} n same h = subst (λ w. AreFaultsOn w (λ test. row_if (test n) n) old new) same h

-- ---- the rules one after another

module _ (world : World) (n : ℕ) where
  pub methods_told : {a b c d e f g : List Fault} {abstracts results access statics finals throws : Bool} → AreFaultsOf rule.AbstractMembers (row_if abstracts n) a b → AreOnly (is_rule rule.AbstractMembers) a b
      → AreFaultsOf rule.Results (row_if results n) b c → AreOnly (is_rule rule.Results) b c → AreFaultsOf rule.NarrowedAccess (row_if access n) c d → AreOnly (is_rule rule.NarrowedAccess) c d
      → AreFaultsOf rule.StaticOverride (row_if statics n) d e → AreOnly (is_rule rule.StaticOverride) d e → AreFaultsOf rule.FinalOverride (row_if finals n) e f → AreOnly (is_rule rule.FinalOverride) e f
      → AreFaultsOf rule.OverrideThrows (row_if throws n) f g → AreOnly (is_rule rule.OverrideThrows) f g
      → abstracts ≡ leaves_methods (rows_of world) (table_of world) n → results ≡ results_do_not_fit (rows_of world) (table_of world) (overriding (rows_of world) (table_of world)) n → access ≡ access_is_narrowed (rows_of world) (table_of world) (overriding (rows_of world) (table_of world)) n
      → statics ≡ methods_are_mixed (rows_of world) (table_of world) (overriding (rows_of world) (table_of world)) n → finals ≡ plain.is_over_final (rows_of world) (table_of world) (overriding (rows_of world) (table_of world)) n
      → throws ≡ more_is_thrown (rows_of world) (table_of world) (overriding (rows_of world) (table_of world)) n → AreFaultsOn world (λ test. row_if (test n) n) a g
  methods_told {b = b} {c = c} {d = d} {e = e} {f = f} abstracts h results others access accesses statics mixed finals over throws more g i j k l m = record {
    abstracts = told_at rule.AbstractMembers n g (then_none {mid = f} rule.AbstractMembers (then_none {mid = e} rule.AbstractMembers (then_none {mid = d} rule.AbstractMembers (then_none {mid = c} rule.AbstractMembers (then_none {mid = b} rule.AbstractMembers abstracts
        (others.others rule.AbstractMembers refl)) (accesses.others rule.AbstractMembers refl)) (mixed.others rule.AbstractMembers refl)) (over.others rule.AbstractMembers refl)) (more.others rule.AbstractMembers refl));
    results = told_at rule.Results n i (none_then {mid = b} rule.Results (h.others rule.Results refl) (then_none {mid = f} rule.Results (then_none {mid = e} rule.Results (then_none {mid = d} rule.Results (then_none {mid = c} rule.Results results
        (accesses.others rule.Results refl)) (mixed.others rule.Results refl)) (over.others rule.Results refl)) (more.others rule.Results refl)));
    access = told_at rule.NarrowedAccess n j (none_then {mid = b} rule.NarrowedAccess (h.others rule.NarrowedAccess refl) (none_then {mid = c} rule.NarrowedAccess (others.others rule.NarrowedAccess refl)
        (then_none {mid = f} rule.NarrowedAccess (then_none {mid = e} rule.NarrowedAccess (then_none {mid = d} rule.NarrowedAccess access (mixed.others rule.NarrowedAccess refl)) (over.others rule.NarrowedAccess refl)) (more.others rule.NarrowedAccess refl))));
    statics = told_at rule.StaticOverride n k (none_then {mid = b} rule.StaticOverride (h.others rule.StaticOverride refl) (none_then {mid = c} rule.StaticOverride (others.others rule.StaticOverride refl)
        (none_then {mid = d} rule.StaticOverride (accesses.others rule.StaticOverride refl) (then_none {mid = f} rule.StaticOverride (then_none {mid = e} rule.StaticOverride statics (over.others rule.StaticOverride refl)) (more.others rule.StaticOverride refl)))));
    finals = told_at rule.FinalOverride n l (none_then {mid = b} rule.FinalOverride (h.others rule.FinalOverride refl) (none_then {mid = c} rule.FinalOverride (others.others rule.FinalOverride refl)
        (none_then {mid = d} rule.FinalOverride (accesses.others rule.FinalOverride refl) (none_then {mid = e} rule.FinalOverride (mixed.others rule.FinalOverride refl) (then_none {mid = f} rule.FinalOverride finals (more.others rule.FinalOverride refl))))));
    throws = told_at rule.OverrideThrows n m (none_then {mid = b} rule.OverrideThrows (h.others rule.OverrideThrows refl) (none_then {mid = c} rule.OverrideThrows (others.others rule.OverrideThrows refl)
        (none_then {mid = d} rule.OverrideThrows (accesses.others rule.OverrideThrows refl) (none_then {mid = e} rule.OverrideThrows (mixed.others rule.OverrideThrows refl) (none_then {mid = f} rule.OverrideThrows (over.others rule.OverrideThrows refl) throws)))));
  }
