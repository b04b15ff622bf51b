-- Imports where the first identifier of a name in a header is looked for, as the code finds them.
use Rattle.std.proofs.Common.{◌≡◌, ◌⊎◌, refl, sym, ◌∙◌, ap, subst, inl, inr, ⊎_elim, arith, ℕ, ◌+◌, ◌<◌, ◌≤◌, Bool, true, false, ◌&&◌, not, List, [], ◌∷◌, length, Option, nat_eq, bytes_eq, Result, Ok, Err, IfOk, Decides}
use Rattle.std.proofs.lemmas.Bool.{false≢true, and_parts}
use Rattle.std.proofs.lemmas.Bool.Decides.{Decides-eqb}
use Rattle.std.proofs.lemmas.Slice.Eq.{bytes_eq-Decides}
use Rattle.jr_base.specs.declared.text.Text.{Text}
use Rattle.jr_tree.specs.declared.label.ImportKind.{ImportKind}
use Rattle.jr_tree.specs.declared.label.ImportKind.TheVariants as importing
use Rattle.jr_tree.specs.declared.label.Role.{Role}
use Rattle.jr_tree.specs.declared.label.Role.TheVariants as role
use Rattle.jr_tree.specs.Rows.{Rows, name, role_at}
use Rattle.jr_tree.specs.Local.{IsLocal}
use Rattle.jr_defs.specs.declared.referent.Space.TheVariants as space
use Rattle.jr_defs.specs.Referents.{Table}
use Rattle.jr_defs.specs.Declarations as def
use Rattle.jr_defs.specs.Packages.{InUnit}
use Rattle.jr_defs.specs.Imports.{ImportOf, ImportsHold}
use Rattle.jr_defs.specs.Scope.{Depth, on_demand, of_package, of_unit, imported, within, rank, HasScope, InScope}
use Rattle.jr_defs.specs.Headers.{IsLookedForIn, MayBring, depth_of}
use Rattle.jr_defs.proofs.Units.{one_unit}
use Rattle.jr_plain.specs.Search.{has, Lists}
use Rattle.jr_plain.specs.Imports.{is_import_of}
use Rattle.jr_plain.proofs.Imported.{import_of_tells}
use Rattle.jr_plain.proofs.Tests.{like}
use Rattle.jr_places.specs.Names.{name_row}
use Rattle.jr_members.specs.declared.declared.MemberKind.TheVariants as kind
use Rattle.jr_members.specs.Held.{IsMemberAs}
use Rattle.jr_members.proofs.Each.{front_has}
use Rattle.jr_lookup.specs.Levels.{HasMemberAs, AreMembersAround}
use Rattle.jr_lookup.specs.Outward.{IsInnermostSuch, IsNumberOf}
use Rattle.jr_lookup.specs.Scopes.{is_single_of, is_static_of}
use Rattle.jr_lookup.specs.Types.{AreTypesByName}
use Rattle.jr_lookup.proofs.Visibility.{no_member}
use Rattle.jr_plain.specs.Headed.{IsHeaded}
use Rattle.jr_bind.specs.Edges.{IsImportIn}

local_none : (r : Role) → r ≡ role.Local → def.IsOf space.Type r → ⊥
local_none r e h = subst (λ r. def.IsOf space.Type r) e h

parameter_none : (r : Role) → r ≡ role.Parameter → def.IsOf space.Type r → ⊥
parameter_none r e h = subst (λ r. def.IsOf space.Type r) e h

label_none : (r : Role) → r ≡ role.Label → def.IsOf space.Type r → ⊥
label_none r e h = subst (λ r. def.IsOf space.Type r) e h

type_is : (r : Role) → def.IsOf space.Type r → r ≡ role.Type
type_is role.Type h = refl
type_is _ h = absurd h

least : (q : Depth) → rank q ≤ 0 → q ≡ on_demand
least on_demand le = refl
least of_package le = absurd (omega arith)
least of_unit le = absurd (omega arith)
least imported le = absurd (omega arith)
least (within s) le = absurd (omega arith)

module _ (p : Rows) (local : IsLocal p) (headed : IsHeaded p) (t : Table) (n o : ℕ) (number : IsNumberOf p n (name p o)) where
  named : (d : ℕ) → name_row p d ≡ n → name p d ≡ name p o
  named d e = (bytes_eq-Decides (name p d) (name p o)).0 (sym (number d) ∙ (Decides-eqb (name_row p d) n).1 e)

  numbered : (d : ℕ) → name p d ≡ name p o → name_row p d ≡ n
  numbered d e = (Decides-eqb (name_row p d) n).0 (number d ∙ (bytes_eq-Decides (name p d) (name p o)).1 e)

  -- a member of a type round the place is further in than all that imports bring
  pub looked_for_nowhere : (found : List ℕ) (level : Option ℕ) → AreMembersAround p t kind.Type o n found level → (length found ≡ 0 → ⊥) → (i : ℕ) → IsLookedForIn p t o i → ⊥
  looked_for_nowhere found level around more i w = more (ap length (around.none hidden).0)
    where
      low : (form : ImportKind) → rank (depth_of form) ≤ 2
      low importing.OnDemand = omega arith
      low importing.Single = omega arith
      low importing.StaticSingle = omega arith

      hidden : (c : ℕ) → IsInnermostSuch p (HasMemberAs p t kind.Type n) o c → ⊥
      hidden c s = let m = s.such.is in let le = w.unshadowed s.such.some (within c) (record {
        scope = HasScope.member s.round m.member;
        declares = record { of_kind = subst (λ r. def.IsOf space.Type r) (sym m.of.role_is) tt; named = named s.such.some m.of.named };
      }) in let most = low w.form in omega arith

  module _ (none : (c d : ℕ) → IsMemberAs p t kind.Type c n d → HasScope p t o d (within c) → ⊥) where
    high : (d : ℕ) (r : Depth) → HasScope p t o d r → def.Declares p space.Type (name p o) d → rank r ≤ 2
    high d r (HasScope.local h) k = absurd (local_none (role_at p d) h.local k.of_kind)
    high d r (HasScope.parameter h) k = absurd (parameter_none (role_at p d) h.parameter k.of_kind)
    high d r (HasScope.labeled h) k = absurd (label_none (role_at p d) h.labeled k.of_kind)
    high d r (HasScope.member {c = c} i m) k = absurd (none c d (record { of = record { role_is = type_is (role_at p d) k.of_kind; named = numbered d k.named }; member = m }) (HasScope.member i m))
    high d r (HasScope.of_same_unit u) k = omega arith
    high d r (HasScope.of_same_package h) k = omega arith
    high d r (HasScope.single i) k = omega arith
    high d r (HasScope.static i) k = omega arith
    high d r (HasScope.demanded i) k = omega arith

  module _ (unit : ℕ) (holds : ImportsHold p unit o) (around : List ℕ) (far : Option ℕ) (members : AreMembersAround p t kind.Type o n around far) (bare : length around ≡ 0)
      (found : List ℕ) (level : Option ℕ) (are : AreTypesByName p t (name p o) o found level) (is_named : Bool) (is : is_named ≡ true → length found ≡ 0 → ⊥) (is_not : is_named ≡ false → length found ≡ 0) where
    unshadowed : (d : ℕ) (r : Depth) → InScope p t space.Type (name p o) o d r → rank r ≤ 2
    unshadowed d r s = high (λ c d m i. none_at c d m i refl) d r s.scope s.declares
      where
        none_at : (c d : ℕ) → IsMemberAs p t kind.Type c n d → {r : Depth} → HasScope p t o d r → r ≡ within c → ⊥
        none_at c d m (HasScope.member {c = e} i k) z = no_member p headed t (name p o) n o number around far members bare e d i (record { of = m.of; member = k })
        none_at c d m (HasScope.local h) z = local_none (role_at p d) h.local (subst (λ r. def.IsOf space.Type r) (sym m.of.role_is) tt)
        none_at c d m (HasScope.parameter h) z = parameter_none (role_at p d) h.parameter (subst (λ r. def.IsOf space.Type r) (sym m.of.role_is) tt)
        none_at c d m (HasScope.labeled h) z = label_none (role_at p d) h.labeled (subst (λ r. def.IsOf space.Type r) (sym m.of.role_is) tt)
        none_at c d m _ z = absurd (cc)

    free : is_named ≡ false → (d : ℕ) (r : Depth) → InScope p t space.Type (name p o) o d r → rank r ≤ 0
    free e d r s = let z = ap rank (are.none (is_not e) d r s) in omega arith

    to : (i : ℕ) → IsImportIn p unit n is_named i → IsLookedForIn p t o i
    to i (inl h) = let w = and_parts (is_import_of p unit importing.Single i) (nat_eq (name_row p (i + 1)) n) h in record {
      unit = unit;
      around = holds.unit;
      form = importing.Single;
      import = (import_of_tells p unit importing.Single i).0 w.0;
      may = MayBring.single (named (i + 1) ((Decides-eqb (name_row p (i + 1)) n).0 w.1));
      unshadowed = unshadowed;
    }
    to i (inr (inl h)) = let w = and_parts (is_import_of p unit importing.StaticSingle i) (nat_eq (name_row p i) n) h in record {
      unit = unit;
      around = holds.unit;
      form = importing.StaticSingle;
      import = (import_of_tells p unit importing.StaticSingle i).0 w.0;
      may = MayBring.static (named i ((Decides-eqb (name_row p i) n).0 w.1));
      unshadowed = unshadowed;
    }
    to i (inr (inr h)) = record {
      unit = unit;
      around = holds.unit;
      form = importing.OnDemand;
      import = (import_of_tells p unit importing.OnDemand i).0 h.1;
      may = MayBring.on_demand_import;
      unshadowed = free h.0;
    }

    both_true : (a b : Bool) → a ≡ true → b ≡ true → (a && b) ≡ true
    both_true true b e f = f
    both_true false b e f = absurd (false≢true e)

    no_names : (b : Bool) → is_named ≡ b → ((d : ℕ) (r : Depth) → InScope p t space.Type (name p o) o d r → rank r ≤ 0) → b ≡ false
    no_names false e low = refl
    no_names true e low = absurd (by found are (is e))
      where
        by : (found : List ℕ) → AreTypesByName p t (name p o) o found level → (length found ≡ 0 → ⊥) → ⊥
        by [] are more = more refl
        by (y ∷ more) are some = let s = are.sound y (front_has y more) in s.by_name (least s.depth (low y s.depth s.visible.in_scope))

    from : (i u : ℕ) (form : ImportKind) → u ≡ unit → ImportOf p u form i → MayBring p i (name p o) form → ((d : ℕ) (r : Depth) → InScope p t space.Type (name p o) o d r → rank r ≤ rank (depth_of form)) → IsImportIn p unit n is_named i
    from i u importing.Single same w (MayBring.single e) low = inl (both_true (is_import_of p unit importing.Single i) (nat_eq (name_row p (i + 1)) n) ((import_of_tells p unit importing.Single i).1 (subst (λ u. ImportOf p u importing.Single i) same w))
        ((Decides-eqb (name_row p (i + 1)) n).1 (numbered (i + 1) e)))
    from i u importing.StaticSingle same w (MayBring.static e) low = inr (inl (both_true (is_import_of p unit importing.StaticSingle i) (nat_eq (name_row p i) n) ((import_of_tells p unit importing.StaticSingle i).1 (subst (λ u. ImportOf p u importing.StaticSingle i) same w))
        ((Decides-eqb (name_row p i) n).1 (numbered i e))))
    from i u importing.OnDemand same w MayBring.on_demand_import low = inr (inr (no_names is_named refl low, (import_of_tells p unit importing.OnDemand i).1 (subst (λ u. ImportOf p u importing.OnDemand i) same w)))

    pub looked_for : (all : List ℕ) → Lists all (IsImportIn p unit n is_named) → Lists all (IsLookedForIn p t o)
    looked_for all lists i = like (lists i) (to i) (λ w. from i w.unit w.form (one_unit p local o w.unit unit w.around holds.unit) w.import w.may w.unshadowed)

pub ok_map : {X E : Type 0} (r : Result X E) (P Q : X → Type 0) → ((x : X) → P x → Q x) → IfOk r P → IfOk r Q
ok_map (Ok x) P Q f h = f x h
ok_map (Err e) P Q f h = tt

-- what a test for an empty list tells
pub full : (len n : ℕ) (q : Bool) → q ≡ nat_eq len 0 → len ≡ n → not q ≡ true → n ≡ 0 → ⊥
full len n q is same more none = false≢true (sym (ap not (is ∙ (Decides-eqb len 0).1 (same ∙ none))) ∙ more)

pub empty : (len n : ℕ) (q : Bool) → q ≡ nat_eq len 0 → len ≡ n → not q ≡ false → n ≡ 0
empty len n true is same none = sym same ∙ (Decides-eqb len 0).0 (sym is)
empty len n false is same none = absurd (false≢true (sym none))
