-- What calls refer to, where the types of the arguments are known.
use Rattle.std.proofs.Common.{◌≡◌, refl, sym, ◌∙◌, ap, subst, ℕ, Bool, true, false, List, length, Option, Some, None, Decides}
use Rattle.std.proofs.lemmas.Bool.{false≢true}
use Rattle.std.proofs.lemmas.Option.{none-some, same_Some}
use Rattle.jr_base.specs.declared.text.Text.{Text}
use Rattle.jr_tree.specs.declared.tree.ThisOrSuper.{ThisOrSuper}
use Rattle.jr_tree.specs.declared.tree.ThisOrSuper.TheVariants as which
use Rattle.jr_tree.specs.declared.label.Role.TheVariants as role
use Rattle.jr_tree.specs.Rows.{Rows, role_at}
use Rattle.jr_defs.specs.declared.referent.Space.TheVariants as space
use Rattle.jr_defs.specs.declared.referent.RowType.{RowType}
use Rattle.jr_defs.specs.declared.referent.Referent.{Referent}
use Rattle.jr_defs.specs.declared.referent.Referent.TheVariants.{Unbound}
use Rattle.jr_defs.specs.Referents.{Table, IsAnswer}
use Rattle.jr_defs.specs.Enclosing.{Innermost, ConstructorOf}
use Rattle.jr_defs.specs.Supertypes.{Superclass}
use Rattle.jr_defs.specs.Modifiers.{IsInner}
use Rattle.jr_defs.specs.Members.{MemberOf, MemberNamed}
use Rattle.jr_defs.specs.Overloads.{Choice, ImportedChoice}
use Rattle.jr_defs.specs.Lookup.{MethodLevel, ImportedMethod, MethodCandidate, EnclosesNew, NewLevel, CalledClass}
use Rattle.jr_plain.specs.Headed.{IsHeaded}
use Rattle.jr_plain.specs.Search.{has, Lists, Finds}
use Rattle.jr_plain.specs.Enclosing.{innermost, is_constructor_of}
use Rattle.jr_plain.specs.Overloads.{choice, imported_choice}
use Rattle.jr_plain.proofs.Tests.{like}
use Rattle.jr_plain.proofs.Bounds.{constructor_below}
use Rattle.jr_plain.proofs.Enclosed.{innermost_finds, constructor_tells}
use Rattle.jr_plain.proofs.Overloaded.{choice_list, imported_choice_list}
use Rattle.jr_supers.specs.Tabled.{is_callable}
use Rattle.jr_members.specs.declared.declared.MemberKind.TheVariants as kind
use Rattle.jr_members.specs.declared.members.World.{World}
use Rattle.jr_members.specs.Each.{ListsEach}
use Rattle.jr_members.specs.Held.{IsMemberAs}
use Rattle.jr_members.specs.Keys.{falling}
use Rattle.jr_members.specs.Worlds.{IsWorld}
use Rattle.jr_members.proofs.Declaring.{falling_lists}
use Rattle.jr_lookup.specs.Choices.{AreCandidates}
use Rattle.jr_lookup.specs.Outward.{IsInnermostSuch, IsNumberOf}
use Rattle.jr_lookup.specs.Sights.{IsStaticAt}
use Rattle.jr_lookup.specs.Answers.{AreAllThrough, CanChoose, IsFree, IsThrough, IsCreated, IsCalled, IsClassBy}
use Rattle.jr_lookup.proofs.Leveling.{as_named, named_as}
use Rattle.jr_lookup.proofs.Sighting.{lists_by}

-- ---- what is chosen from

pub methods_can : (t : Table) (world : World) (all : List ℕ) → IsWorld t world → CanChoose t world → ((m : ℕ) → has all m ≡ true → role_at world.under.rows.now m ≡ role.Method) → AreCandidates t world all
methods_can t world all is can each = record { world_is = is; bare = can.bare; callable = λ m h. ap is_callable (each m h) }

pub constructors_can : (t : Table) (world : World) (all : List ℕ) → IsWorld t world → CanChoose t world → ((m : ℕ) → has all m ≡ true → role_at world.under.rows.now m ≡ role.Constructor) → AreCandidates t world all
constructors_can t world all is can each = record { world_is = is; bare = can.bare; callable = λ m h. ap is_callable (each m h) }

module _ (p : Rows) (t : Table) (headed : IsHeaded p) where
  pub constructors_list : (c : ℕ) (all : List ℕ) → all ≡ falling (length p) (is_constructor_of p c) → Lists all (ConstructorOf p c)
  constructors_list c all is = lists_by all (falling (length p) (is_constructor_of p c)) is
      (falling_lists (is_constructor_of p c) (ConstructorOf p c) (length p) (λ k. constructor_tells p c k) (λ k h. constructor_below p k h.constructor)) (λ d k. k) (λ d k. k)

  pub constructors_chosen : (c o : ℕ) (arguments : List RowType) (all found : List ℕ) → Lists all (ConstructorOf p c) → found ≡ choice p t c o None arguments all → Lists found (Choice p t c o None arguments (ConstructorOf p c))
  constructors_chosen c o arguments all found h is = lists_by found (choice p t c o None arguments all) is (choice_list p t headed c o None arguments (ConstructorOf p c) all h) (λ d k. k) (λ d k. k)

  module _ (x : Text) (n : ℕ) (number : IsNumberOf p n x) where
    pub methods_chosen : (c o : ℕ) (receiver : Option RowType) (arguments : List RowType) (all found : List ℕ) → ListsEach all (IsMemberAs p t kind.Method c n) → found ≡ choice p t c o receiver arguments all
        → Lists found (Choice p t c o receiver arguments (MemberNamed p t space.Method x c))
    methods_chosen c o receiver arguments all found each is = lists_by found (choice p t c o receiver arguments all) is
        (choice_list p t headed c o receiver arguments (MemberNamed p t space.Method x c) all (λ d. like (each.lists d) (as_named p t n x number c d) (named_as p t n x number c d))) (λ d k. k) (λ d k. k)

    imported_named : (o d : ℕ) → IsStaticAt p t kind.Method o n d → ImportedMethod p t x o d
    imported_named o d s = record {
      imported = s.imported;
      declares = (as_named p t n x number s.imported.brings.imports.of_type d (record { of = s.of; member = s.imported.brings.imports.member })).declares;
    }

    named_imported : (o d : ℕ) → ImportedMethod p t x o d → IsStaticAt p t kind.Method o n d
    named_imported o d m = record {
      imported = m.imported;
      of = (named_as p t n x number m.imported.brings.imports.of_type d (record { member = m.imported.brings.imports.member; declares = m.declares })).of;
    }

    pub imported_chosen : (o : ℕ) (arguments : List RowType) (all found : List ℕ) → Lists all (IsStaticAt p t kind.Method o n) → found ≡ imported_choice p t o arguments all
        → Lists found (ImportedChoice p t o arguments (ImportedMethod p t x o))
    imported_chosen o arguments all found h is = lists_by found (imported_choice p t o arguments all) is
        (imported_choice_list p t headed o arguments (ImportedMethod p t x o) all (λ d. like (h d) (imported_named o d) (named_imported o d))) (λ d k. k) (λ d k. k)

-- ---- methods without a receiver

module _ (p : Rows) (t : Table) (x : Text) (o : ℕ) (arguments : List RowType) (level : Option ℕ) (f : Finds level (λ c. MethodLevel p t x o c)) where
  pub method_some : (c : ℕ) → level ≡ Some c → (found : List ℕ) → Lists found (Choice p t c o None arguments (MemberNamed p t space.Method x c)) → AreAllThrough (λ d l. MethodCandidate p t x o arguments d l) found (Some c)
  method_some c e found lists = record {
    sound = λ d h. MethodCandidate.member ((f c).0 e) ((lists d).0 h);
    whole = λ d l k. by k;
  }
    where
      by : {d : ℕ} {l : Option ℕ} → MethodCandidate p t x o arguments d l → (has found d ≡ true) × (l ≡ Some c)
      by (MethodCandidate.member {c = g} {d = d} at one) = let same = same_Some g c (sym ((f g).1 at) ∙ e) in
          ((lists d).1 (subst (λ c. Choice p t c o None arguments (MemberNamed p t space.Method x c) d) same one), ap Some same)
      by (MethodCandidate.imported none one) = absurd (none c ((f c).0 e))

  pub method_none : level ≡ None → (found : List ℕ) → Lists found (ImportedChoice p t o arguments (ImportedMethod p t x o)) → AreAllThrough (λ d l. MethodCandidate p t x o arguments d l) found level
  method_none e found lists = record {
    sound = λ d h. subst (λ l. MethodCandidate p t x o arguments d l) (sym e) (MethodCandidate.imported (λ c h. none-some c (sym e ∙ (f c).1 h)) ((lists d).0 h));
    whole = λ d l k. by k;
  }
    where
      by : {d : ℕ} {l : Option ℕ} → MethodCandidate p t x o arguments d l → (has found d ≡ true) × (l ≡ level)
      by (MethodCandidate.member {c = g} at one) = absurd (none-some g (sym e ∙ (f g).1 at))
      by (MethodCandidate.imported {d = d} none one) = ((lists d).1 one, sym e)

pub all_free : (P : ℕ → Type 0) (found : List ℕ) (level : Option ℕ) → Lists found P → level ≡ None → AreAllThrough (IsFree P) found level
all_free P found level lists is = record { sound = λ d h. record { is = (lists d).0 h; free = is }; whole = λ d l k. ((lists d).1 k.is, k.free ∙ sym is) }

pub all_through : (P : ℕ → Type 0) (found : List ℕ) (level : Option ℕ) → Lists found P → AreAllThrough (IsThrough P level) found level
all_through P found level lists = record { sound = λ d h. record { is = (lists d).0 h; through_is = refl }; whole = λ d l k. ((lists d).1 k.is, k.through_is) }

-- ---- creations

-- an answer of candidates that are those of another set
pub answer_same : (C E : ℕ → Option ℕ → Type 0) (P Q : Referent → Type 0) → ((d : ℕ) (l : Option ℕ) → C d l → E d l) → ((d : ℕ) (l : Option ℕ) → E d l → C d l) → ((b : Referent) → P b → Q b) → (a : Referent) → IsAnswer C P a → IsAnswer E Q a
answer_same C E P Q f g h _ (IsAnswer.one d l c only) = IsAnswer.one d l (f d l c) (λ e o k. only e o (g e o k))
answer_same C E P Q f g h a (IsAnswer.none never q) = IsAnswer.none (λ d l k. never d l (g d l k)) (h a q)
answer_same C E P Q f g h _ (IsAnswer.several d e l o c k apart) = IsAnswer.several d e l o (f d l c) (f e o k) apart

module _ (p : Rows) (t : Table) (o c : ℕ) where
  encloses : (e : ℕ) → IsInnermostSuch p (λ e. MemberOf p t e c) o e → EnclosesNew p t o c e
  encloses e i = record { holds = i.round; member = i.such; innermost = i.innermost }

  is_innermost : (e : ℕ) → EnclosesNew p t o c e → IsInnermostSuch p (λ e. MemberOf p t e c) o e
  is_innermost e n = record { round = n.holds; such = n.member; innermost = n.innermost }

  free_only : (IsInner p c → ⊥) → {l : Option ℕ} → NewLevel p t o c l → l ≡ None
  free_only out (NewLevel.free h) = refl
  free_only out (NewLevel.inner i h) = absurd (out i)

  inner_only : IsInner p c → (found : Option ℕ) → Finds found (IsInnermostSuch p (λ e. MemberOf p t e c) o) → {l : Option ℕ} → NewLevel p t o c l → (e : ℕ) × (l ≡ Some e) × (found ≡ Some e)
  inner_only is found f (NewLevel.free h) = absurd (h is)
  inner_only is found f (NewLevel.inner {e = e} i h) = (e, refl, (f e).1 (is_innermost e h))

  module _ (arguments : List RowType) (a : Referent) where
    abbrev Chosen : ℕ → Type 0
    Chosen d = Choice p t c o None arguments (ConstructorOf p c) d

    pub created_free : (b : Bool) → Decides b (IsInner p c) → b ≡ false → IsAnswer (IsThrough Chosen None) (λ b. b ≡ Unbound) a → IsAnswer (λ d l. IsCreated p t o c arguments d l) (λ b. b ≡ Unbound) a
    created_free b tells e h = answer_same (IsThrough Chosen None) (λ d l. IsCreated p t o c arguments d l) (λ b. b ≡ Unbound) (λ b. b ≡ Unbound)
        (λ d l k. record { level_is = subst (λ l. NewLevel p t o c l) (sym k.through_is) (NewLevel.free out); chosen = k.is }) (λ d l k. record { is = k.chosen; through_is = free_only out k.level_is }) (λ b is. is) a h
      where
        out : IsInner p c → ⊥
        out i = false≢true (sym e ∙ tells.1 i)

    pub created_inner : (b : Bool) → Decides b (IsInner p c) → b ≡ true → (found : Option ℕ) (e : ℕ) → Finds found (IsInnermostSuch p (λ e. MemberOf p t e c) o) → found ≡ Some e
        → IsAnswer (IsThrough Chosen found) (λ b. b ≡ Unbound) a → IsAnswer (λ d l. IsCreated p t o c arguments d l) (λ b. b ≡ Unbound) a
    created_inner b tells is found e f here h = answer_same (IsThrough Chosen found) (λ d l. IsCreated p t o c arguments d l) (λ b. b ≡ Unbound) (λ b. b ≡ Unbound)
        (λ d l k. record { level_is = subst (λ l. NewLevel p t o c l) (sym (k.through_is ∙ here)) (NewLevel.inner (tells.0 is) (encloses e ((f e).0 here))); chosen = k.is })
        (λ d l k. let n = inner_only (tells.0 is) found f k.level_is in record { is = k.chosen; through_is = n.1 ∙ sym n.2 }) (λ b is. is) a h

  pub never_created : (b : Bool) → Decides b (IsInner p c) → b ≡ true → (found : Option ℕ) → Finds found (IsInnermostSuch p (λ e. MemberOf p t e c) o) → found ≡ None → (arguments : List RowType) (d : ℕ) (l : Option ℕ)
      → IsCreated p t o c arguments d l → ⊥
  never_created b tells is found f none arguments d l k = let n = inner_only (tells.0 is) found f k.level_is in none-some n.0 (sym none ∙ n.2)

-- ---- this(..) and super(..)

module _ (p : Rows) (t : Table) where
  pub class_this : (c : ℕ) (w : ThisOrSuper) → w ≡ which.This → Finds (Some c) (IsClassBy p t c w)
  class_this c w e = subst (λ w. Finds (Some c) (IsClassBy p t c w)) (sym e) (λ d. (λ is. same_Some c d is, λ same. ap Some same))

  pub class_super : (c : ℕ) (w : ThisOrSuper) (found : Option ℕ) → w ≡ which.Super → Finds found (Superclass p t c) → Finds found (IsClassBy p t c w)
  class_super c w found e f = subst (λ w. Finds found (IsClassBy p t c w)) (sym e) f

  by_class : (o c d : ℕ) (w : ThisOrSuper) → Innermost p o c → IsClassBy p t c w d → CalledClass p t o w d
  by_class o c d which.This i e = subst (λ d. CalledClass p t o which.This d) e (CalledClass.this i)
  by_class o c d which.Super i s = CalledClass.super i s

  class_by : (o c : ℕ) → innermost p o ≡ Some c → {d : ℕ} {w : ThisOrSuper} → CalledClass p t o w d → IsClassBy p t c w d
  class_by o c e (CalledClass.this {c = g} i) = same_Some c g (sym e ∙ (innermost_finds p o g).1 i)
  class_by o c e (CalledClass.super {c = g} {s = s} i k) = subst (λ c. Superclass p t c s) (same_Some g c (sym ((innermost_finds p o g).1 i) ∙ e)) k

  pub called_some : (o c : ℕ) (w : ThisOrSuper) (around found : Option ℕ) → around ≡ innermost p o → around ≡ Some c → Finds found (IsClassBy p t c w) → Finds found (λ d. CalledClass p t o w d)
  called_some o c w around found is e f d = (λ k. by_class o c d w ((innermost_finds p o c).0 (sym is ∙ e)) ((f d).0 k), λ h. (f d).1 (class_by o c (sym is ∙ e) h))

  pub called_none : (o : ℕ) (w : ThisOrSuper) (around : Option ℕ) → around ≡ innermost p o → around ≡ None → Finds None (λ d. CalledClass p t o w d)
  called_none o w around is e d = (λ k. absurd (none-some d k), λ h. absurd (by h))
    where
      by : {d : ℕ} {w : ThisOrSuper} → CalledClass p t o w d → ⊥
      by (CalledClass.this {c = g} i) = none-some g (sym e ∙ is ∙ (innermost_finds p o g).1 i)
      by (CalledClass.super {c = g} i k) = none-some g (sym e ∙ is ∙ (innermost_finds p o g).1 i)

  pub constructor_some : (o c : ℕ) (w : ThisOrSuper) (arguments : List RowType) (class : Option ℕ) → Finds class (λ d. CalledClass p t o w d) → class ≡ Some c → (found : List ℕ) (level : Option ℕ)
      → Lists found (Choice p t c o None arguments (ConstructorOf p c)) → level ≡ None → AreAllThrough (λ d l. IsCalled p t o w arguments d l) found level
  constructor_some o c w arguments class f e found level lists is = record {
    sound = λ d h. record { class = c; called = (f c).0 e; chosen = (lists d).0 h; free = is };
    whole = λ d l k. let same = same_Some k.class c (sym ((f k.class).1 k.called) ∙ e) in ((lists d).1 (subst (λ c. Choice p t c o None arguments (ConstructorOf p c) d) same k.chosen), k.free ∙ sym is);
  }

  pub no_constructor : (o : ℕ) (w : ThisOrSuper) (arguments : List RowType) (class : Option ℕ) → Finds class (λ d. CalledClass p t o w d) → class ≡ None → (d : ℕ) (l : Option ℕ) → IsCalled p t o w arguments d l → ⊥
  no_constructor o w arguments class f e d l k = none-some k.class (sym e ∙ (f k.class).1 k.called)
