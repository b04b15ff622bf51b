-- What it tells that a row and its copy mean the same.
use Rattle.std.proofs.Common.{◌≡◌, refl, sym, ◌∙◌, ap, subst, ℕ, zero, suc, ◌<◌, Bool, true, false, ◌&&◌, if◌then◌else◌, length, Option, Some, None, nat_eq, nat_lt}
use Rattle.std.proofs.lemmas.Bool.{false≢true, and_parts, ltb-true}
use Rattle.std.proofs.lemmas.Bool.Decides.{Decides-eqb}
use Rattle.std.proofs.lemmas.Option.{none-some, same_Some}
use Rattle.jr_tree.specs.declared.label.Label.TheVariants as is
use Rattle.jr_tree.specs.declared.label.Role.{Role}
use Rattle.jr_tree.specs.declared.label.Role.TheVariants as role
use Rattle.jr_tree.specs.Rows.{Rows, label, role_at}
use Rattle.jr_defs.specs.declared.referent.Referent.TheVariants.{Unbound}
use Rattle.jr_flow_defs.specs.Meaning.{Meaning, is_constant, declared, is_text, is_shown, narrows}
use Rattle.jr_meaning.specs.Meaning.{same, role_number, has_role_of, keeps_declared, is_cast, keeps_cast, keeps_type, is_alike}

same_tells : (a b : Bool) → same a b ≡ true → b ≡ a
same_tells true b h = h
same_tells false true h = absurd (false≢true h)
same_tells false false h = refl

abbrev role_by : ℕ → Role
role_by zero = role.Nothing
role_by (suc zero) = role.Type
role_by (suc (suc zero)) = role.Field
role_by (suc (suc (suc zero))) = role.Method
role_by (suc (suc (suc (suc zero)))) = role.Constructor
role_by (suc (suc (suc (suc (suc zero))))) = role.Parameter
role_by (suc (suc (suc (suc (suc (suc zero)))))) = role.Local
role_by (suc (suc (suc (suc (suc (suc (suc n))))))) = role.Label

role_back : (r : Role) → role_by (role_number r) ≡ r
role_back role.Nothing = refl
role_back role.Type = refl
role_back role.Field = refl
role_back role.Method = refl
role_back role.Constructor = refl
role_back role.Parameter = refl
role_back role.Local = refl
role_back role.Label = refl

same_role : (a b : Role) → role_number a ≡ role_number b → a ≡ b
same_role a b e = sym (role_back a) ∙ (ap role_by e ∙ role_back b)

-- what the copy refers to, where the row refers to d
record GoesTo (p q : Rows) (o : Option ℕ) (d : ℕ) : Type 0 where
  row : ℕ
  is : o ≡ Some row
  known : d < length p
  role : role_at q row ≡ role_at p d

referent_kept : (p q : Rows) (a b : Option ℕ) (d : ℕ) → keeps_declared p a q b ≡ true → a ≡ Some d → GoesTo p q b d
referent_kept p q None b d h e = absurd (none-some d e)
referent_kept p q (Some x) None d h e = absurd (false≢true h)
referent_kept p q (Some x) (Some c) d h e =
    let both = and_parts (nat_lt d (length p)) (nat_eq (role_number (role_at q c)) (role_number (role_at p d))) (subst (λ z. has_role_of p z q c ≡ true) (same_Some x d e) h) in
    record {
      row = c;
      is = refl;
      known = ltb-true d (length p) both.0;
      role = same_role (role_at q c) (role_at p d) ((Decides-eqb (role_number (role_at q c)) (role_number (role_at p d))).0 both.1);
    }

cast_kept : (p q : Rows) (m w : Meaning) (n k : ℕ) → keeps_cast p q m w n k ≡ true → label p n ≡ is.Cast → narrows q w k ≡ narrows p m n
cast_kept p q m w n k h e = same_tells (narrows p m n) (narrows q w k) (sym (ap (λ l. if is_cast l then same (narrows p m n) (narrows q w k) else true) e) ∙ h)

-- what flow reads of a row is what it reads of the copy
pub record IsLike (p q : Rows) (m w : Meaning) (n k : ℕ) : Type 0 where
  pub known : (d : ℕ) → declared (m.targets n) ≡ Some d → d < length p
  pub bound : (d : ℕ) → declared (m.targets n) ≡ Some d → w.targets k ≡ Unbound → ⊥
  pub roles : (d c : ℕ) → declared (m.targets n) ≡ Some d → declared (w.targets k) ≡ Some c → role_at q c ≡ role_at p d
  pub constants : is_constant w k ≡ is_constant m n
  pub texts : is_text q (w.types k) ≡ is_text p (m.types n)
  pub shown : is_shown q (w.types k) ≡ is_shown p (m.types n)
  pub casts : label p n ≡ is.Cast → narrows q w k ≡ narrows p m n

pub alike_tells : (p q : Rows) (m w : Meaning) (n k : ℕ) → is_alike p q m w n k ≡ true → IsLike p q m w n k
alike_tells p q m w n k h =
    let a = keeps_declared p (declared (m.targets n)) q (declared (w.targets k)) in
    let b = same (is_constant m n) (is_constant w k) in
    let c = keeps_type p q m w n k in
    let d = keeps_cast p q m w n k in
    let last = and_parts (a && b && c) d h in
    let third = and_parts (a && b) c last.0 in
    let two = and_parts a b third.0 in
    let types = and_parts (same (is_text p (m.types n)) (is_text q (w.types k))) (same (is_shown p (m.types n)) (is_shown q (w.types k))) third.1 in
    record {
      known = λ d e. (referent_kept p q (declared (m.targets n)) (declared (w.targets k)) d two.0 e).known;
      bound = λ d e none. let g = referent_kept p q (declared (m.targets n)) (declared (w.targets k)) d two.0 e in none-some g.row (sym (ap declared none) ∙ g.is);
      roles = λ d c e f. let g = referent_kept p q (declared (m.targets n)) (declared (w.targets k)) d two.0 e in
          ap (role_at q) (same_Some c g.row (sym f ∙ g.is)) ∙ g.role;
      constants = same_tells (is_constant m n) (is_constant w k) two.1;
      texts = same_tells (is_text p (m.types n)) (is_text q (w.types k)) types.0;
      shown = same_tells (is_shown p (m.types n)) (is_shown q (w.types k)) types.1;
      casts = cast_kept p q m w n k last.1;
    }
