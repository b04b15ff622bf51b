-- The tests of scope and shadowing tell what they are to tell.
use Rattle.std.proofs.Common.{◌≡◌, ◌⊎◌, refl, sym, subst, inl, inr, ⊎_elim, arith, ℕ, zero, suc, ◌+◌, ◌≤◌, ◌<◌, Bool, true, ◌&&◌, List, length, Decides}
use Rattle.std.proofs.lemmas.Bool.{false≢true, cases_lt}
use Rattle.std.proofs.lemmas.Bool.Decides.{Decides-eqb, Decides-ltb}
use Rattle.jr_base.specs.declared.text.Text.{Text}
use Rattle.jr_tree.specs.declared.label.Label.{Label}
use Rattle.jr_tree.specs.declared.label.Label.TheVariants as is
use Rattle.jr_tree.specs.declared.label.Role.TheVariants as role
use Rattle.jr_tree.specs.Labels.{role_of}
use Rattle.jr_tree.specs.Rows.{Rows, label, name, parent, end, role_at}
use Rattle.jr_defs.specs.declared.referent.Space.{Space}
use Rattle.jr_defs.specs.declared.referent.Space.TheVariants as space
use Rattle.jr_defs.specs.Referents.{Table}
use Rattle.jr_defs.specs.Declarations.{IsOf, Declares}
use Rattle.jr_defs.specs.Enclosing.{InBody}
use Rattle.jr_defs.specs.Packages.{InUnit}
use Rattle.jr_defs.specs.Members.{MemberOf}
use Rattle.jr_defs.specs.Imports.{SingleImport, StaticImport, OnDemandImport, ImportsHold}
use Rattle.jr_defs.specs.Scope.{block_end, InLocalScope, InParameterScope, InLabelScope, Depth, on_demand, of_package, of_unit, imported, within, rank, IsNoFurther, TypeOfUnit, TypeOfOther, Imported, HasScope, InScope, InOneList, Shadows, Visible}
use Rattle.jr_plain.specs.Headed.{IsHeaded}
use Rattle.jr_plain.specs.Search.{any_below, all_below, gathered}
use Rattle.jr_plain.specs.Lists.{Has}
use Rattle.jr_plain.specs.Packages.{is_in_unit}
use Rattle.jr_plain.specs.Imports.{imports_hold, is_single_import, is_static_import, is_on_demand_import}
use Rattle.jr_plain.specs.Scope as plain
use Rattle.jr_plain.proofs.Tests.{itself, both, either, opposite, implies, like}
use Rattle.jr_plain.proofs.Searches.{any, all, some, every, gathered_tells}
use Rattle.jr_plain.proofs.Same.{role_tells}
use Rattle.jr_plain.proofs.Bounds.{bounded, unit_below}
use Rattle.jr_plain.proofs.Declared.{declares_tells}
use Rattle.jr_plain.proofs.Enclosed.{most, in_body_tells, in_body_below, top_level_tells}
use Rattle.jr_plain.proofs.Packaged.{in_unit_tells, same_package_tells}
use Rattle.jr_plain.proofs.Membership.{member_tells}
use Rattle.jr_plain.proofs.Imported.{single_import_tells, static_import_tells, on_demand_import_tells, imports_hold_tells}

pub local_scope_tells : (p : Rows) (d o : ℕ) → Decides (plain.is_in_local_scope p d o) (InLocalScope p d o)
local_scope_tells p d o = like (both (both (role_tells (role_at p d) role.Local) (Decides-ltb d o)) (Decides-ltb o (block_end p (parent p (parent p d)))))
    (λ h. record { local = h.0.0; after = h.0.1; before = h.1 }) (λ h. ((h.local, h.after), h.before))

block_label_tells : (l : Label) → Decides (plain.is_block l) (l ≡ is.Block)
block_label_tells is.Block = (λ h. refl, λ e. refl)
block_label_tells _ = (λ h. absurd (false≢true h), λ e. absurd (cc))

pub parameter_scope_tells : (p : Rows) (d o : ℕ) → Decides (plain.is_in_parameter_scope p d o) (InParameterScope p d o)
parameter_scope_tells p d o = like
    (both (role_tells (role_at p d) role.Parameter)
    (some (λ b. plain.is_in_block_beside p d o b) (λ b. (((label p b ≡ is.Block) × (parent p b ≡ parent p d)) × (b ≤ o)) × (o < end p b))
    (λ b. both (both (both (block_label_tells (label p b)) (Decides-eqb (parent p b) (parent p d))) (most b o)) (Decides-ltb o (end p b))) (length p)
    (λ b h. bounded (λ l. l ≡ is.Block) (λ e. cc) p b h.0.0.0)))
    (λ h. record { parameter = h.0; body = h.1.0; block = h.1.1.0.0.0; beside = h.1.1.0.0.1; from = h.1.1.0.1; before = h.1.1.1 })
    (λ h. (h.parameter, (h.body, (((h.block, h.beside), h.from), h.before))))

pub label_scope_tells : (p : Rows) (d o : ℕ) → Decides (plain.is_in_label_scope p d o) (InLabelScope p d o)
label_scope_tells p d o = like (both (both (role_tells (role_at p d) role.Label) (Decides-ltb d o)) (Decides-ltb o (end p d)))
    (λ h. record { labeled = h.0.0; after = h.0.1; before = h.1 }) (λ h. ((h.labeled, h.after), h.before))

-- ---- depths

-- the number of a depth
abbrev number : Depth → ℕ
number on_demand = zero
number of_package = suc zero
number of_unit = suc (suc zero)
number imported = suc (suc (suc zero))
number (within s) = suc (suc (suc (suc s)))

at_number : (r : Depth) → plain.depth_at (number r) ≡ r
at_number on_demand = refl
at_number of_package = refl
at_number of_unit = refl
at_number imported = refl
at_number (within s) = refl

under : (p : Rows) (P : Depth → Type 0) → ((s : ℕ) → P (within s) → s < length p) → (r : Depth) → P r → number r < length p + 4
under p P bound on_demand h = omega arith
under p P bound of_package h = omega arith
under p P bound of_unit h = omega arith
under p P bound imported h = omega arith
under p P bound (within s) h = let lt = bound s h in omega arith

-- the items that each depth has
pub each_depth_has : {A : Type 0} (same : A → A → Bool) (tells : (a b : A) → Decides (same a b) (a ≡ b)) (p : Rows) (Q : Depth → A → Type 0) (of : Depth → List A) → ((r : Depth) → Has same (of r) (Q r))
    → ((s : ℕ) (x : A) → Q (within s) x → s < length p) → Has same (gathered (plain.depths p) (λ k. of (plain.depth_at k))) (λ x. (r : Depth) × Q r x)
each_depth_has same tells p Q of each bound x = like (gathered_tells same tells (λ k. of (plain.depth_at k)) (plain.depths p) x) (λ h. (plain.depth_at h.0, (each (plain.depth_at h.0) x).0 h.2))
    (λ h. (number h.0, under p (λ r. Q r x) (λ s. bound s x) h.0 h.1, (each (plain.depth_at (number h.0)) x).1 (subst (λ r. Q r x) (sym (at_number h.0)) h.1)))

module _ (p : Rows) (test : Depth → Bool) (P : Depth → Type 0) (tells : (r : Depth) → Decides (test r) (P r)) where
  -- some depth is such, where only rows of the program are
  pub some_depth : ((s : ℕ) → P (within s) → s < length p) → Decides (any_below (plain.depths p) (λ k. test (plain.depth_at k))) ((r : Depth) × P r)
  some_depth bound = like (any (λ k. test (plain.depth_at k)) (λ k. P (plain.depth_at k)) (λ k. tells (plain.depth_at k)) (plain.depths p))
      (λ h. (plain.depth_at h.0, h.2)) (λ h. (number h.0, under p P bound h.0 h.1, subst P (sym (at_number h.0)) h.1))

  -- each depth is such, where those past the rows are
  pub every_depth : ((s : ℕ) → length p ≤ s → P (within s)) → Decides (all_below (plain.depths p) (λ k. test (plain.depth_at k))) ((r : Depth) → P r)
  every_depth past = like (all (λ k. test (plain.depth_at k)) (λ k. P (plain.depth_at k)) (λ k. tells (plain.depth_at k)) (plain.depths p))
      (λ h r. ⊎_elim (λ lt. subst P (at_number r) (h (number r) lt)) (far r) (cases_lt (number r) (length p + 4))) (λ h k lt. h (plain.depth_at k))
    where
      far : (r : Depth) → length p + 4 ≤ number r → P r
      far on_demand le = absurd (omega arith)
      far of_package le = absurd (omega arith)
      far of_unit le = absurd (omega arith)
      far imported le = absurd (omega arith)
      far (within s) le = past s (omega arith)

one_package_out : (q r : Depth) → plain.is_of_one_package q r ≡ true → IsNoFurther q r
one_package_out of_unit of_package h = IsNoFurther.of_one_package
one_package_out _ _ h = absurd (false≢true h)

pub no_further_tells : (q r : Depth) → Decides (plain.is_no_further q r) (IsNoFurther q r)
no_further_tells q r = like (either (most (rank q) (rank r)) (itself (plain.is_of_one_package q r))) (⊎_elim (λ le. IsNoFurther.by_rank le) (one_package_out q r)) into
  where
    into : {q r : Depth} → IsNoFurther q r → (rank q ≤ rank r) ⊎ (plain.is_of_one_package q r ≡ true)
    into (IsNoFurther.by_rank le) = inl le
    into IsNoFurther.of_one_package = inr refl

-- ---- scope

pub type_of_unit_tells : (p : Rows) (o d : ℕ) → Decides (plain.is_type_of_unit p o d) (TypeOfUnit p o d)
type_of_unit_tells p o d = like
    (both (top_level_tells p d) (some (λ u. is_in_unit p u o && is_in_unit p u d) (λ u. InUnit p u o × InUnit p u d) (λ u. both (in_unit_tells p u o) (in_unit_tells p u d)) (length p)
    (λ u h. unit_below p u h.0.unit)))
    (λ h. record { top = h.0; unit = h.1.0; first = h.1.1.0; second = h.1.1.1 }) (λ h. (h.top, (h.unit, (h.first, h.second))))

pub type_of_other_tells : (p : Rows) (o d : ℕ) → Decides (plain.is_type_of_other p o d) (TypeOfOther p o d)
type_of_other_tells p o d = like (both (both (top_level_tells p d) (same_package_tells p o d)) (opposite (type_of_unit_tells p o d)))
    (λ h. record { top = h.0.0; same = h.0.1; elsewhere = h.1 }) (λ h. ((h.top, h.same), h.elsewhere))

pub imported_tells : (p : Rows) (brings : ℕ → ℕ → Bool) (B : ℕ → ℕ → Type 0) → ((u d : ℕ) → Decides (brings u d) (B u d)) → (o d : ℕ) → Decides (plain.is_imported p brings o d) (Imported p B o d)
imported_tells p brings B tells o d = like
    (some (λ u. imports_hold p u o && brings u d) (λ u. ImportsHold p u o × B u d) (λ u. both (imports_hold_tells p u o) (tells u d)) (length p) (λ u h. unit_below p u h.0.unit.unit))
    (λ h. record { unit = h.0; holds = h.1.0; brings = h.1.1 }) (λ h. (h.unit, (h.holds, h.brings)))

nothing_declared : (kind : Space) → IsOf kind role.Nothing → ⊥
nothing_declared space.Variable h = h
nothing_declared space.Method h = h
nothing_declared space.Type h = h
nothing_declared space.Label h = h

pub declares_below : (p : Rows) (kind : Space) (x : Text) (d : ℕ) → Declares p kind x d → d < length p
declares_below p kind x d h = bounded (λ l. IsOf kind (role_of l)) (nothing_declared kind) p d h.of_kind

pub one_list_tells : (p : Rows) (d e : ℕ) → Decides (plain.is_in_one_list p d e) (InOneList p d e)
one_list_tells p d e = like (both (both (role_tells (role_at p d) role.Parameter) (role_tells (role_at p e) role.Parameter)) (Decides-eqb (parent p d) (parent p e)))
    (λ h. record { first = h.0.0; second = h.0.1; beside = h.1 }) (λ h. ((h.first, h.second), h.beside))

module _ (p : Rows) (t : Table) (headed : IsHeaded p) where
  -- what makes the scope of d hold the place, so far in as the row s
  abbrev Within : ℕ → ℕ → ℕ → Type 0
  Within o d s = ((d ≡ s) × ((InLocalScope p d o ⊎ InParameterScope p d o) ⊎ InLabelScope p d o)) ⊎ (InBody p s o × MemberOf p t s d)

  within_into : {o d s : ℕ} → HasScope p t o d (within s) → Within o d s
  within_into (HasScope.local h) = inl (refl, inl (inl h))
  within_into (HasScope.parameter h) = inl (refl, inl (inr h))
  within_into (HasScope.labeled h) = inl (refl, inr h)
  within_into (HasScope.member b m) = inr (b, m)

  within_out : (o d s : ℕ) → Within o d s → HasScope p t o d (within s)
  within_out o d s (inl h) = subst (λ x. HasScope p t o d (within x)) h.0 (⊎_elim (⊎_elim (λ k. HasScope.local k) (λ k. HasScope.parameter k)) (λ k. HasScope.labeled k) h.1)
  within_out o d s (inr h) = HasScope.member h.0 h.1

  unit_into : {o d : ℕ} → HasScope p t o d of_unit → TypeOfUnit p o d
  unit_into (HasScope.of_same_unit h) = h

  other_into : {o d : ℕ} → HasScope p t o d of_package → TypeOfOther p o d
  other_into (HasScope.of_same_package h) = h

  imported_into : {o d : ℕ} → HasScope p t o d imported → Imported p (SingleImport p t) o d ⊎ Imported p (StaticImport p t) o d
  imported_into (HasScope.single h) = inl h
  imported_into (HasScope.static h) = inr h

  demanded_into : {o d : ℕ} → HasScope p t o d on_demand → Imported p (OnDemandImport p t) o d
  demanded_into (HasScope.demanded h) = h

  pub has_scope_tells : (o d : ℕ) (r : Depth) → Decides (plain.has_scope p t o d r) (HasScope p t o d r)
  has_scope_tells o d (within s) = like
      (either (both (Decides-eqb d s) (either (either (local_scope_tells p d o) (parameter_scope_tells p d o)) (label_scope_tells p d o))) (both (in_body_tells p s o) (member_tells p t headed s d)))
      (within_out o d s) within_into
  has_scope_tells o d of_unit = like (type_of_unit_tells p o d) (λ h. HasScope.of_same_unit h) unit_into
  has_scope_tells o d of_package = like (type_of_other_tells p o d) (λ h. HasScope.of_same_package h) other_into
  has_scope_tells o d imported = like
      (either (imported_tells p (is_single_import p t) (SingleImport p t) (single_import_tells p t) o d) (imported_tells p (is_static_import p t) (StaticImport p t) (static_import_tells p t headed) o d))
      (⊎_elim (λ h. HasScope.single h) (λ h. HasScope.static h)) imported_into
  has_scope_tells o d on_demand =
      like (imported_tells p (is_on_demand_import p t) (OnDemandImport p t) (on_demand_import_tells p t headed) o d) (λ h. HasScope.demanded h) demanded_into

  pub in_scope_tells : (kind : Space) (x : Text) (o d : ℕ) (r : Depth) → Decides (plain.is_in_scope p t kind x o d r) (InScope p t kind x o d r)
  in_scope_tells kind x o d r = like (both (declares_tells p kind x d) (has_scope_tells o d r)) (λ h. record { scope = h.1; declares = h.0 }) (λ h. (h.declares, h.scope))

  pub in_scope_below : (kind : Space) (x : Text) (o d : ℕ) (r : Depth) → InScope p t kind x o d r → d < length p
  in_scope_below kind x o d r h = declares_below p kind x d h.declares

  -- how far in is a row, too
  pub depth_below : (kind : Space) (x : Text) (o d s : ℕ) → InScope p t kind x o d (within s) → s < length p
  depth_below kind x o d s h = by (within_into h.scope)
    where
      by : Within o d s → s < length p
      by (inl k) = subst (λ n. n < length p) k.0 (declares_below p kind x d h.declares)
      by (inr k) = in_body_below p s o k.0

  pub somewhere_tells : (kind : Space) (x : Text) (o d : ℕ) → Decides (plain.is_somewhere_in_scope p t kind x o d) ((r : Depth) × InScope p t kind x o d r)
  somewhere_tells kind x o d = some_depth p (λ r. plain.is_in_scope p t kind x o d r) (λ r. InScope p t kind x o d r) (λ r. in_scope_tells kind x o d r) (λ s h. depth_below kind x o d s h)

  -- ---- shadowing

  abbrev ShadowsAt : Space → ℕ → ℕ → ℕ → Depth → Depth → Type 0
  ShadowsAt kind o d e inner outer = (InScope p t kind (name p d) o d inner × InScope p t kind (name p d) o e outer) × (IsNoFurther inner outer → ⊥)

  abbrev ShadowsBy : Space → ℕ → ℕ → ℕ → Type 0
  ShadowsBy kind o d e = (inner : Depth) × ((outer : Depth) × ShadowsAt kind o d e inner outer)

  shadows_at_tells : (kind : Space) (o d e : ℕ) (inner outer : Depth) → Decides (plain.shadows_at p t kind o d e inner outer) (ShadowsAt kind o d e inner outer)
  shadows_at_tells kind o d e inner outer =
      both (both (in_scope_tells kind (name p d) o d inner) (in_scope_tells kind (name p d) o e outer)) (opposite (no_further_tells inner outer))

  shadows_by_tells : (kind : Space) (o d e : ℕ) → Decides (plain.shadows_by p t kind o d e) (ShadowsBy kind o d e)
  shadows_by_tells kind o d e = some_depth p (λ q. any_below (plain.depths p) (λ r. plain.shadows_at p t kind o d e q (plain.depth_at r))) (λ q. (r : Depth) × ShadowsAt kind o d e q r)
      (λ q. some_depth p (λ r. plain.shadows_at p t kind o d e q r) (λ r. ShadowsAt kind o d e q r) (λ r. shadows_at_tells kind o d e q r) (λ s h. depth_below kind (name p d) o e s h.0.1))
      (λ s h. depth_below kind (name p d) o d s h.1.0.0)

  pub shadows_tells : (o d e : ℕ) → Decides (plain.shadows p t o d e) (Shadows p t o d e)
  shadows_tells o d e = like
      (both (either (either (shadows_by_tells space.Variable o d e) (shadows_by_tells space.Method o d e)) (shadows_by_tells space.Type o d e)) (opposite (one_list_tells p d e)))
      (λ h. out h.1 h.0) (λ h. (by_kind h.kind h.no_label (into h), h.apart))
    where
      from : (kind : Space) → (kind ≡ space.Label → ⊥) → (InOneList p d e → ⊥) → ShadowsBy kind o d e → Shadows p t o d e
      from kind no_label apart h = record { kind = kind; x = name p d; inner = h.0; outer = h.1.0; first = h.1.1.0.0; second = h.1.1.0.1; further = h.1.1.1; no_label = no_label; apart = apart }

      out : (InOneList p d e → ⊥) → (ShadowsBy space.Variable o d e ⊎ ShadowsBy space.Method o d e) ⊎ ShadowsBy space.Type o d e → Shadows p t o d e
      out apart (inl (inl h)) = from space.Variable (λ e. cc) apart h
      out apart (inl (inr h)) = from space.Method (λ e. cc) apart h
      out apart (inr h) = from space.Type (λ e. cc) apart h

      by_kind : (kind : Space) → (kind ≡ space.Label → ⊥) → ShadowsBy kind o d e → (ShadowsBy space.Variable o d e ⊎ ShadowsBy space.Method o d e) ⊎ ShadowsBy space.Type o d e
      by_kind space.Variable apart h = inl (inl h)
      by_kind space.Method apart h = inl (inr h)
      by_kind space.Type apart h = inr h
      by_kind space.Label apart h = absurd (apart refl)

      into : (h : Shadows p t o d e) → ShadowsBy h.kind o d e
      into h = let named = sym h.first.declares.named in
          (h.inner, (h.outer, ((subst (λ y. InScope p t h.kind y o d h.inner) named h.first, subst (λ y. InScope p t h.kind y o e h.outer) named h.second), h.further)))

  leaves_tells : (kind : Space) (x : Text) (o d : ℕ) (r : Depth) (e : ℕ) (q : Depth)
      → Decides (plain.leaves_visible p t kind x o d r e q) (InScope p t kind x o e q → IsNoFurther q r ⊎ InOneList p e d)
  leaves_tells kind x o d r e q = implies (in_scope_tells kind x o e q) (either (no_further_tells q r) (one_list_tells p e d))

  pub visible_tells : (kind : Space) (x : Text) (o d : ℕ) (r : Depth) → Decides (plain.is_visible p t kind x o d r) (Visible p t kind x o d r)
  visible_tells kind x o d r = like
      (both (in_scope_tells kind x o d r) (every {P = λ e. (q : Depth) → InScope p t kind x o e q → IsNoFurther q r ⊎ InOneList p e d} (length p)
      (λ e. all_below (plain.depths p) (λ q. plain.leaves_visible p t kind x o d r e (plain.depth_at q)))
      (λ e. every_depth p (λ q. plain.leaves_visible p t kind x o d r e q) (λ q. InScope p t kind x o e q → IsNoFurther q r ⊎ InOneList p e d) (λ q. leaves_tells kind x o d r e q)
      (λ s le h. let lt = depth_below kind x o e s h in absurd (omega arith)))
      (λ e le q h. let lt = in_scope_below kind x o e q h in absurd (omega arith))))
      (λ h. record { in_scope = h.0; innermost = h.1 }) (λ h. (h.in_scope, h.innermost))
