-- The tests of bodies, members and enclosing types tell what they are to tell.
use Rattle.std.proofs.Common.{◌≡◌, refl, sym, ap, subst, ℕ, ◌≤◌, ◌<◌, Bool, true, false, ◌&&◌, cond, length, Some, None, nat_lt, nat_le, Decides}
use Rattle.std.proofs.lemmas.Bool.{false≢true, leb-true, le-leb}
use Rattle.std.proofs.lemmas.Bool.Decides.{Decides-eqb, Decides-ltb}
use Rattle.std.proofs.lemmas.Option.{cond_some}
use Rattle.jr_tree.specs.declared.label.Label.{Label}
use Rattle.jr_tree.specs.declared.label.Label.TheVariants as is
use Rattle.jr_tree.specs.declared.label.Role.{Role}
use Rattle.jr_tree.specs.declared.label.Role.TheVariants as role
use Rattle.jr_tree.specs.Rows.{Rows, label, parent, end, role_at}
use Rattle.jr_defs.specs.Enclosing.{BodyOf, InBody, Innermost, IsMemberRole, holder, DeclaredIn, ConstructorOf, IsTopLevel, InTopLevel, SameTopLevel}
use Rattle.jr_plain.specs.Search.{Finds}
use Rattle.jr_plain.specs.Enclosing as plain
use Rattle.jr_plain.proofs.Tests.{always, never, both, like}
use Rattle.jr_plain.proofs.Searches.{some, finds_last}
use Rattle.jr_plain.proofs.Same.{role_tells}
use Rattle.jr_plain.proofs.Bounds.{type_below, member_below, body_below}
use Rattle.jr_plain.proofs.Declared.{type_tells}

pub most : (a b : ℕ) → Decides (nat_le a b) (a ≤ b)
most a b = (leb-true a b, le-leb a b)

body_label_tells : (l : Label) → Decides (plain.is_body l) (l ≡ is.Body)
body_label_tells is.Body = (λ h. refl, λ e. refl)
body_label_tells _ = (λ h. absurd (false≢true h), λ e. absurd (cc))

pub unit_label_tells : (l : Label) → Decides (plain.is_unit l) (l ≡ is.Unit)
unit_label_tells is.Unit = (λ h. refl, λ e. refl)
unit_label_tells _ = (λ h. absurd (false≢true h), λ e. absurd (cc))

pub body_tells : (p : Rows) (c b : ℕ) → Decides (plain.is_body_of p c b) (BodyOf p c b)
body_tells p c b = like (both (both (type_tells p c) (body_label_tells (label p b))) (Decides-eqb (parent p b) c))
    (λ h. record { type = h.0.0; body = h.0.1; inside = h.1 }) (λ h. ((h.type, h.body), h.inside))

pub in_body_tells : (p : Rows) (c o : ℕ) → Decides (plain.is_in_body p c o) (InBody p c o)
in_body_tells p c o = like
    (some (λ b. plain.is_body_of p c b && nat_lt b o && nat_lt o (end p b)) (λ b. (BodyOf p c b × (b < o)) × (o < end p b))
    (λ b. both (both (body_tells p c b) (Decides-ltb b o)) (Decides-ltb o (end p b))) (length p) (λ b h. body_below p c b h.0.0))
    (λ h. record { body = h.0; of_type = h.1.0.0; after = h.1.0.1; before = h.1.1 }) (λ h. (h.body, ((h.of_type, h.after), h.before)))

pub in_body_below : (p : Rows) (c o : ℕ) → InBody p c o → c < length p
in_body_below p c o h = type_below p c h.of_type.type

pub innermost_finds : (p : Rows) (o : ℕ) → Finds (plain.innermost p o) (λ c. Innermost p o c)
innermost_finds p o c =
    let last = finds_last (λ c. plain.is_in_body p c o) (λ c. InBody p c o) (λ c. in_body_tells p c o) (length p) c in
    (λ e. let h = last.0 e in record { holds = h.1; innermost = λ e i. h.2 e (in_body_below p e o i) i }, λ h. last.1 (in_body_below p c o h.holds, h.holds, λ e lt i. h.innermost e i))

pub member_role_tells : (r : Role) → Decides (plain.is_member_role r) (IsMemberRole r)
member_role_tells role.Type = always
member_role_tells role.Field = always
member_role_tells role.Method = always
member_role_tells _ = never

pub declared_in_tells : (p : Rows) (c d : ℕ) → Decides (plain.is_declared_in p c d) (DeclaredIn p c d)
declared_in_tells p c d = like (both (member_role_tells (role_at p d)) (body_tells p c (holder (role_at p d) p d))) (λ h. record { member = h.0; inside = h.1 }) (λ h. (h.member, h.inside))

-- a value that a test lets through, where only that one can be such
pub only : {A : Type 0} (P : A → Type 0) (a : A) (b : Bool) → Decides b (P a) → ((x : A) → P x → a ≡ x) → Finds (cond b (Some a) None) P
only P a b tells one x = (λ e. let h = cond_some b a x e in subst P h.1 (tells.0 h.0), λ h. by b (tells.1 (subst P (sym (one x h)) h)) (one x h))
  where
    by : (b : Bool) → b ≡ true → a ≡ x → cond b (Some a) None ≡ Some x
    by true e same = ap Some same
    by false e same = absurd (false≢true e)

pub declaring_finds : (p : Rows) (d : ℕ) → Finds (plain.declaring_type p d) (λ c. DeclaredIn p c d)
declaring_finds p d = let c = parent p (holder (role_at p d) p d) in
    only (λ c. DeclaredIn p c d) c (plain.is_declared_in p c d) (declared_in_tells p c d) (λ x h. h.inside.inside)

pub declared_below : (p : Rows) (c d : ℕ) → DeclaredIn p c d → d < length p
declared_below p c d h = member_below p d h.member

pub constructor_tells : (p : Rows) (c k : ℕ) → Decides (plain.is_constructor_of p c k) (ConstructorOf p c k)
constructor_tells p c k = like (both (role_tells (role_at p k) role.Constructor) (body_tells p c (parent p k))) (λ h. record { constructor = h.0; inside = h.1 }) (λ h. (h.constructor, h.inside))

pub constructed_finds : (p : Rows) (k : ℕ) → Finds (plain.constructed_class p k) (λ c. ConstructorOf p c k)
constructed_finds p k = let c = parent p (parent p k) in
    only (λ c. ConstructorOf p c k) c (plain.is_constructor_of p c k) (constructor_tells p c k) (λ x h. h.inside.inside)

pub top_level_tells : (p : Rows) (c : ℕ) → Decides (plain.is_top_level p c) (IsTopLevel p c)
top_level_tells p c = like (both (type_tells p c) (unit_label_tells (label p (parent p c)))) (λ h. record { type = h.0; inside = h.1 }) (λ h. (h.type, h.inside))

pub in_top_level_tells : (p : Rows) (k o : ℕ) → Decides (plain.is_in_top_level p k o) (InTopLevel p k o)
in_top_level_tells p k o = like (both (both (top_level_tells p k) (most k o)) (Decides-ltb o (end p k)))
    (λ h. record { top = h.0.0; from = h.0.1; before = h.1 }) (λ h. ((h.top, h.from), h.before))

pub same_top_level_tells : (p : Rows) (m n : ℕ) → Decides (plain.is_same_top_level p m n) (SameTopLevel p m n)
same_top_level_tells p m n = like
    (some (λ k. plain.is_in_top_level p k m && plain.is_in_top_level p k n) (λ k. InTopLevel p k m × InTopLevel p k n)
    (λ k. both (in_top_level_tells p k m) (in_top_level_tells p k n)) (length p) (λ k h. type_below p k h.0.top.type))
    (λ h. record { top = h.0; first = h.1.0; second = h.1.1 }) (λ h. (h.top, (h.first, h.second)))
