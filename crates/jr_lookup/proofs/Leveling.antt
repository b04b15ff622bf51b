-- Members of the types round a place, by the lists that types have of them.
use Rattle.std.proofs.Common.{◌≡◌, refl, sym, ◌∙◌, ap, subst, arith, ℕ, ◌<◌, Bool, true, false, not, List, [], ◌∷◌, length, Option, Some, None, nat_eq, Decides}
use Rattle.std.proofs.lemmas.Bool.{false≢true, or_left}
use Rattle.std.proofs.lemmas.Bool.Decides.{Decides-eqb}
use Rattle.std.proofs.lemmas.Slice.Eq.{bytes_eq-Decides}
use Rattle.std.proofs.lemmas.Option.{none-some, same_Some}
use Rattle.jr_base.specs.declared.text.Text.{Text}
use Rattle.jr_tree.specs.declared.label.Role.{Role}
use Rattle.jr_tree.specs.declared.label.Role.TheVariants as role
use Rattle.jr_tree.specs.Rows.{Rows, name, role_at}
use Rattle.jr_defs.specs.declared.referent.Space.TheVariants as space
use Rattle.jr_defs.specs.Referents.{Table}
use Rattle.jr_defs.specs.Declarations as def
use Rattle.jr_defs.specs.Enclosing.{DeclaredIn}
use Rattle.jr_defs.specs.Members.{MemberOf, MemberNamed}
use Rattle.jr_defs.specs.Lookup.{MethodLevel}
use Rattle.jr_plain.specs.Search.{has, any_below, Finds}
use Rattle.jr_plain.proofs.Tests.{itself}
use Rattle.jr_plain.proofs.Searches.{any}
use Rattle.jr_plain.proofs.Same.{role_tells}
use Rattle.jr_plain.proofs.Bounds.{member_below}
use Rattle.jr_plain.proofs.Enclosed.{declaring_finds}
use Rattle.jr_plain.proofs.Finding.{like_finds}
use Rattle.jr_places.specs.Names.{name_row}
use Rattle.jr_members.specs.declared.declared.MemberKind.{MemberKind}
use Rattle.jr_members.specs.declared.declared.MemberKind.TheVariants as kind
use Rattle.jr_members.specs.Each.{ListsEach}
use Rattle.jr_members.specs.Held.{role_of_kind, IsMemberAs}
use Rattle.jr_members.specs.Keys.{is_named}
use Rattle.jr_lookup.specs.Outward.{IsInnermostSuch, IsNumberOf}
use Rattle.jr_lookup.specs.Levels.{HasMemberAs, level_by, AreMembersAround}

-- ---- a list tells whether there is a member

pub has_items : (p : Rows) (t : Table) (kind : MemberKind) (x c : ℕ) (all : List ℕ) (empty : Bool) → ListsEach all (IsMemberAs p t kind c x) → empty ≡ nat_eq (length all) 0 → Decides (not empty) (HasMemberAs p t kind x c)
has_items p t kind x c [] true h e = (λ f. absurd (false≢true f), λ m. absurd (false≢true ((h.lists m.some).1 m.is)))
has_items p t kind x c [] false h e = absurd (false≢true e)
has_items p t kind x c (d ∷ more) true h e = let size = (Decides-eqb (length (d ∷ more)) 0).0 (sym e) in absurd (omega arith)
has_items p t kind x c (d ∷ more) false h e = (λ f. record { some = d; is = (h.lists d).0 (or_left (nat_eq d d) (has more d) ((Decides-eqb d d).1 refl)) }, λ m. refl)

-- ---- no member has the name

module _ (p : Rows) (t : Table) where
  pub declared_somewhere : (c d : ℕ) → MemberOf p t c d → (e : ℕ) × DeclaredIn p e d
  declared_somewhere c d (MemberOf.declared h) = (c, h)
  declared_somewhere c d (MemberOf.inherited {s = s} above h passes can left) = declared_somewhere s d h
  declared_somewhere c d (MemberOf.of_object interface method left) = (method.of_type, method.declared)

  pub none_named : (kind : MemberKind) (x c : ℕ) → false ≡ any_below (length p) (is_named p kind x) → HasMemberAs p t kind x c → ⊥
  none_named kind x c none m = false≢true (none ∙ (any (is_named p kind x) (λ d. is_named p kind x d ≡ true) (λ d. itself (is_named p kind x d)) (length p)).1 (m.some, below, named))
    where
      declared : (e : ℕ) × DeclaredIn p e m.some
      declared = declared_somewhere c m.some m.is.member

      below : m.some < length p
      below = member_below p m.some declared.1.member

      named : is_named p kind x m.some ≡ true
      named = rw ((role_tells (role_at p m.some) (role_of_kind kind)).1 m.is.of.role_is, (declaring_finds p m.some declared.0).1 declared.1, (Decides-eqb (name_row p m.some) x).1 m.is.of.named) refl

-- ---- methods

is_method : (r : Role) → r ≡ role.Method → def.IsOf space.Method r
is_method r e = subst (def.IsOf space.Method) (sym e) tt

method_is : (r : Role) → def.IsOf space.Method r → r ≡ role.Method
method_is role.Method h = refl
method_is _ h = absurd h

module _ (p : Rows) (t : Table) (n : ℕ) (x : Text) (number : IsNumberOf p n x) where
  -- a member method of the number is one of the name
  pub as_named : (c d : ℕ) → IsMemberAs p t kind.Method c n d → MemberNamed p t space.Method x c d
  as_named c d h = record {
    member = h.member;
    declares = record {
      of_kind = is_method (role_at p d) h.of.role_is;
      named = (bytes_eq-Decides (name p d) x).0 (sym (number d) ∙ (Decides-eqb (name_row p d) n).1 h.of.named);
    };
  }

  pub named_as : (c d : ℕ) → MemberNamed p t space.Method x c d → IsMemberAs p t kind.Method c n d
  named_as c d h = record {
    of = record {
      role_is = method_is (role_at p d) h.declares.of_kind;
      named = (Decides-eqb (name_row p d) n).0 (number d ∙ (bytes_eq-Decides (name p d) x).1 h.declares.named);
    };
    member = h.member;
  }

  pub level_found : (o : ℕ) (found : Option ℕ) → Finds found (IsInnermostSuch p (HasMemberAs p t kind.Method n) o) → Finds found (λ c. MethodLevel p t x o c)
  level_found o found h = like_finds found h
      (λ c i. record { holds = i.round; some = i.such.some; member = as_named c i.such.some i.such.is; innermost = λ e d k m. i.innermost e k (record { some = d; is = named_as e d m }) })
      (λ c i. record { round = i.holds; such = record { some = i.some; is = named_as c i.some i.member }; innermost = λ e k m. i.innermost e m.some k (as_named e m.some m.is) })

-- ---- the members

module _ (p : Rows) (t : Table) (kind : MemberKind) (o x : ℕ) (found : Option ℕ) (h : Finds found (IsInnermostSuch p (HasMemberAs p t kind x) o)) where
  pub around_some : (c : ℕ) (all : List ℕ) (level : Option ℕ) → found ≡ Some c → ListsEach all (IsMemberAs p t kind c x) → level ≡ level_by kind c → AreMembersAround p t kind o x all level
  around_some c all level e lists is = record {
    some = λ k i. let same = same_Some c k (sym e ∙ (h k).1 i) in (subst (λ g. ListsEach all (IsMemberAs p t kind g x)) same lists, is ∙ ap (level_by kind) same);
    none = λ out. absurd (out c ((h c).0 e));
  }

  pub around_none : (all : List ℕ) (level : Option ℕ) → found ≡ None → all ≡ [] → level ≡ None → AreMembersAround p t kind o x all level
  around_none all level e rows is = record {
    some = λ c i. absurd (none-some c (sym e ∙ (h c).1 i));
    none = λ out. (rows, is);
  }
