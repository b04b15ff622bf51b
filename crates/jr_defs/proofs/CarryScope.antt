-- What is in scope at corresponding places corresponds.
use Rattle.std.proofs.Common.{◌≡◌, ◌⊎◌, ℕ, ◌+◌, ◌<◌, ◌≤◌, refl, sym, ◌∙◌, ap, subst, inl, inr, arith}
use Rattle.std.specs.Prelude.{Option, Some, None}
use Rattle.jr_base.specs.declared.text.Text.{Text}
use Rattle.jr_tree.specs.declared.label.Role.{Role}
use Rattle.jr_tree.specs.declared.label.Role.TheVariants as role
use Rattle.jr_tree.specs.Rows.{Rows, label, name, role_at}
use Rattle.jr_defs.specs.declared.referent.Space.{Space}
use Rattle.jr_defs.specs.declared.referent.Space.TheVariants as space
use Rattle.jr_defs.specs.Referents.{Table}
use Rattle.jr_defs.specs.Declarations.{IsOf, Declares, IsType}
use Rattle.jr_defs.specs.Scope.{Depth, on_demand, of_package, of_unit, imported, within, rank, IsNoFurther, InOneList, HasScope, InScope, Visible, Imported}
use Rattle.jr_defs.specs.Imports.{SingleImport, StaticImport, OnDemandImport, OnDemandOf}
use Rattle.jr_defs.specs.Lookup.{VisibleThrough, level_of, NoneInScope}
use Rattle.jr_defs.specs.Correspondence.{IsDeclared, Alike, Carries, Sees, Places, ImportsGo, IsRound, moved_depth, moved_level}
use Rattle.jr_defs.proofs.CarryMembers.{of_role, type_declared, member_declared, role_over, member_over, declares_over}

-- ---- how far in

-- f keeps the order of two depths
abbrev pub KeepsDepths : (ℕ → ℕ) → Depth → Depth → Type 0
KeepsDepths f (within a) (within b) = a ≤ b → f a ≤ f b
KeepsDepths f _ _ = Unit {0}

pub rank_over : (f : ℕ → ℕ) (r s : Depth) → KeepsDepths f r s → rank r ≤ rank s → rank (moved_depth f r) ≤ rank (moved_depth f s)
rank_over f (within a) (within b) order h = let z = order (omega arith) in omega arith
rank_over f (within a) on_demand order h = absurd (omega arith)
rank_over f (within a) of_package order h = absurd (omega arith)
rank_over f (within a) of_unit order h = absurd (omega arith)
rank_over f (within a) imported order h = absurd (omega arith)
rank_over f on_demand (within b) order h = omega arith
rank_over f of_package (within b) order h = omega arith
rank_over f of_unit (within b) order h = omega arith
rank_over f imported (within b) order h = omega arith
rank_over f on_demand on_demand order h = h
rank_over f on_demand of_package order h = h
rank_over f on_demand of_unit order h = h
rank_over f of_package on_demand order h = h
rank_over f of_package of_package order h = h
rank_over f of_package of_unit order h = h
rank_over f of_unit on_demand order h = h
rank_over f of_unit of_package order h = h
rank_over f of_unit of_unit order h = h
rank_over f on_demand imported order h = h
rank_over f of_package imported order h = h
rank_over f of_unit imported order h = h
rank_over f imported on_demand order h = h
rank_over f imported of_package order h = h
rank_over f imported of_unit order h = h
rank_over f imported imported order h = h

pub no_further_over : (f : ℕ → ℕ) (r s : Depth) → KeepsDepths f r s → IsNoFurther r s → IsNoFurther (moved_depth f r) (moved_depth f s)
no_further_over f r s order (IsNoFurther.by_rank h) = IsNoFurther.by_rank (rank_over f r s order h)
no_further_over f _ _ order IsNoFurther.of_one_package = IsNoFurther.of_one_package

-- the row of the depth is that of a scope round the place
abbrev pub DepthRound : Rows → ℕ → Depth → Type 0
DepthRound p o (within s) = IsRound p o s
DepthRound p o _ = Unit {0}

pub depth_round : (p : Rows) (t : Table) (o d : ℕ) (r : Depth) → HasScope p t o d r → DepthRound p o r
depth_round p t o d _ (HasScope.local h) = IsRound.local h
depth_round p t o d _ (HasScope.parameter h) = IsRound.parameter h
depth_round p t o d _ (HasScope.labeled h) = IsRound.labeled h
depth_round p t o d _ (HasScope.member h m) = IsRound.body h
depth_round p t o d _ (HasScope.of_same_unit h) = tt
depth_round p t o d _ (HasScope.of_same_package h) = tt
depth_round p t o d _ (HasScope.single h) = tt
depth_round p t o d _ (HasScope.static h) = tt
depth_round p t o d _ (HasScope.demanded h) = tt

pub keeps_depths : (p : Rows) (o : ℕ) (f : ℕ → ℕ) → ((m n : ℕ) → IsRound p o m → IsRound p o n → m ≤ n → f m ≤ f n) → (r s : Depth) → DepthRound p o r → DepthRound p o s
    → KeepsDepths f r s
keeps_depths p o f order (within a) (within b) h k = order a b h k
keeps_depths p o f order (within a) on_demand h k = tt
keeps_depths p o f order (within a) of_package h k = tt
keeps_depths p o f order (within a) of_unit h k = tt
keeps_depths p o f order (within a) imported h k = tt
keeps_depths p o f order on_demand _ h k = tt
keeps_depths p o f order of_package _ h k = tt
keeps_depths p o f order of_unit _ h k = tt
keeps_depths p o f order imported _ h k = tt

-- the row of the depth declares something
abbrev pub DepthDeclared : Rows → Depth → Type 0
DepthDeclared p (within s) = IsDeclared p s
DepthDeclared p _ = Unit {0}

pub depth_back : (p : Rows) (f g : ℕ → ℕ) → ((n : ℕ) → IsDeclared p n → g (f n) ≡ n) → (r : Depth) → DepthDeclared p r → moved_depth g (moved_depth f r) ≡ r
depth_back p f g back on_demand h = refl
depth_back p f g back of_package h = refl
depth_back p f g back of_unit h = refl
depth_back p f g back imported h = refl
depth_back p f g back (within s) h = ap (λ n. within n) (back s h)

-- ---- what has a scope is declared

demanded_declared : (p : Rows) (t : Table) (u d : ℕ) → OnDemandOf p t u d → IsType p d
demanded_declared p t u d (OnDemandOf.of_package i n h) = h.top.type
demanded_declared p t u d (OnDemandOf.of_type i n m h) = h
demanded_declared p t u d (OnDemandOf.lang h) = h.top.type

pub scope_declared : (p : Rows) (t : Table) (o d : ℕ) (r : Depth) → HasScope p t o d r → IsDeclared p d
scope_declared p t o d _ (HasScope.local h) = of_role p d role.Local h.local (λ k. cc)
scope_declared p t o d _ (HasScope.parameter h) = of_role p d role.Parameter h.parameter (λ k. cc)
scope_declared p t o d _ (HasScope.labeled h) = of_role p d role.Label h.labeled (λ k. cc)
scope_declared p t o d _ (HasScope.member {c = c} h m) = member_declared p t c d m
scope_declared p t o d _ (HasScope.of_same_unit h) = type_declared p d h.top.type
scope_declared p t o d _ (HasScope.of_same_package h) = type_declared p d h.top.type
scope_declared p t o d _ (HasScope.single h) = type_declared p d h.brings.names.type
scope_declared p t o d _ (HasScope.static h) = member_declared p t h.brings.imports.of_type d h.brings.imports.member
scope_declared p t o d _ (HasScope.demanded h) = type_declared p d (demanded_declared p t h.unit d h.brings.brings)

pub depth_declared : (p : Rows) (t : Table) (o d : ℕ) (r : Depth) → HasScope p t o d r → DepthDeclared p r
depth_declared p t o d _ (HasScope.local h) = of_role p d role.Local h.local (λ k. cc)
depth_declared p t o d _ (HasScope.parameter h) = of_role p d role.Parameter h.parameter (λ k. cc)
depth_declared p t o d _ (HasScope.labeled h) = of_role p d role.Label h.labeled (λ k. cc)
depth_declared p t o d _ (HasScope.member {c = c} h m) = type_declared p c h.of_type.type
depth_declared p t o d _ (HasScope.of_same_unit h) = tt
depth_declared p t o d _ (HasScope.of_same_package h) = tt
depth_declared p t o d _ (HasScope.single h) = tt
depth_declared p t o d _ (HasScope.static h) = tt
depth_declared p t o d _ (HasScope.demanded h) = tt

-- a kind other than that of methods
abbrev pub IsNoMethod : Space → Type 0
IsNoMethod kind = kind ≡ space.Method → ⊥

pub no_method : (kind : Space) (r : Role) → IsNoMethod kind → IsOf kind r → r ≡ role.Method → ⊥
no_method space.Variable role.Method k h e = h
no_method space.Type role.Method k h e = h
no_method space.Label role.Method k h e = h
no_method space.Method role.Method k h e = k refl
no_method _ role.Nothing k h e = cc
no_method _ role.Type k h e = cc
no_method _ role.Field k h e = cc
no_method _ role.Constructor k h e = cc
no_method _ role.Parameter k h e = cc
no_method _ role.Local k h e = cc
no_method _ role.Label k h e = cc

-- ---- scope

module _ (p : Rows) (t : Table) (q : Rows) (u : Table) (f g : ℕ → ℕ) (C D : ℕ → Type 0) (to : Carries p t q u f g C D) (from : Carries q u p t g f D C) where
  pub scope_over : (o o' d : ℕ) (r : Depth) → Places p t q u f C o o' → ImportsGo p t q u f o o' → (role_at p d ≡ role.Method → ⊥) → HasScope p t o d r → HasScope q u o' (f d) (moved_depth f r)
  scope_over o o' d _ at im k (HasScope.local h) = HasScope.local (at.local d h)
  scope_over o o' d _ at im k (HasScope.parameter h) = HasScope.parameter (at.parameter d h)
  scope_over o o' d _ at im k (HasScope.labeled h) = HasScope.labeled (at.labeled d h)
  scope_over o o' d _ at im k (HasScope.member {c = c} h m) = HasScope.member (at.body c h) (member_over p t q u f g C D to from c d (at.body_known c h) (λ e. absurd (k e)) m)
  scope_over o o' d _ at im k (HasScope.of_same_unit h) = HasScope.of_same_unit (at.unit d h)
  scope_over o o' d _ at im k (HasScope.of_same_package h) = HasScope.of_same_package (at.other d h)
  scope_over o o' d _ at im k (HasScope.single h) = HasScope.single (im.single d h)
  scope_over o o' d _ at im k (HasScope.static h) = HasScope.static (im.static d k h)
  scope_over o o' d _ at im k (HasScope.demanded h) = HasScope.demanded (im.demanded d h)

  pub in_scope_over : (kind : Space) (x : Text) (o o' d : ℕ) (r : Depth) → IsNoMethod kind → Places p t q u f C o o' → ImportsGo p t q u f o o' → InScope p t kind x o d r
      → InScope q u kind x o' (f d) (moved_depth f r)
  in_scope_over kind x o o' d r k at im h = record {
    scope = scope_over o o' d r at im (no_method kind (role_at p d) k h.declares.of_kind) h.scope;
    declares = declares_over p q f g to.alike kind x d (scope_declared p t o d r h.scope) h.declares;
  }

module _ (p : Rows) (t : Table) (q : Rows) (u : Table) (f g : ℕ → ℕ) (C D : ℕ → Type 0) (to : Carries p t q u f g C D) (from : Carries q u p t g f D C)
    (o o' : ℕ) (at : Places p t q u f C o o') (back : Places q u p t g D o' o) (im : ImportsGo p t q u f o o') (im' : ImportsGo q u p t g o' o) where
  pub visible_over : (kind : Space) (x : Text) (d : ℕ) (r : Depth) → IsNoMethod kind → Visible p t kind x o d r → Visible q u kind x o' (f d) (moved_depth f r)
  visible_over kind x d r k h = record {
    in_scope = in_scope_over p t q u f g C D to from kind x o o' d r k at im h.in_scope;
    innermost = λ e' r' w.
        let v = in_scope_over q u p t g f D C from to kind x o' o e' r' k back im' w in
        let order = keeps_depths p o f at.order (moved_depth g r') r (depth_round p t o (g e') (moved_depth g r') v.scope) (depth_round p t o d r h.in_scope.scope) in
        elim (h.innermost (g e') (moved_depth g r') v) [
          | inl z ↦ inl (subst (λ s. IsNoFurther s (moved_depth f r)) (depth_back q g f from.alike.back r' (depth_declared q u o' e' r' w.scope))
              (no_further_over f (moved_depth g r') r order z))
          | inr l ↦ inr (subst (λ e. InOneList q e (f d)) (from.alike.back e' (scope_declared q u o' e' r' w.scope)) (to.alike.one_list (g e') d l))
        ];
  }

  level_over : (a : Role) (r : Depth) → level_of a (moved_depth f r) ≡ moved_level f (level_of a r)
  level_over role.Field (within s) = refl
  level_over role.Field on_demand = refl
  level_over role.Field of_package = refl
  level_over role.Field of_unit = refl
  level_over role.Field imported = refl
  level_over role.Nothing r = refl
  level_over role.Type r = refl
  level_over role.Method r = refl
  level_over role.Constructor r = refl
  level_over role.Parameter r = refl
  level_over role.Local r = refl
  level_over role.Label r = refl

  pub found_over : (kind : Space) (x : Text) (d : ℕ) (level : Option ℕ) → IsNoMethod kind → VisibleThrough p t kind x o d level → VisibleThrough q u kind x o' (f d) (moved_level f level)
  found_over kind x d level k h = record {
    depth = moved_depth f h.depth;
    visible = visible_over kind x d h.depth k h.visible;
    through = ap (λ a. level_of a (moved_depth f h.depth)) (role_over p q f g to.alike d (scope_declared p t o d h.depth h.visible.in_scope.scope))
        ∙ level_over (role_at p d) h.depth ∙ ap (moved_level f) h.through;
  }

  pub none_over : (kind : Space) (x : Text) → IsNoMethod kind → NoneInScope p t kind x o → NoneInScope q u kind x o'
  none_over kind x k h e' r' w = h (g e') (moved_depth g r') (in_scope_over q u p t g f D C from to kind x o' o e' r' k back im' w)
