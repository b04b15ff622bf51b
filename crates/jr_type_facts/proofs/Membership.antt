-- The member of the innermost type that holds a row is that of the row over it, but right below a body.
use Rattle.std.proofs.Common.{◌≡◌, refl, sym, ◌∙◌, ap, subst, ⊎_elim, arith, ℕ, zero, suc, ◌<◌, ◌≤◌, Bool, true, false, cond, List, length, get_or, Option, Some, None}
use Rattle.std.proofs.lemmas.Bool.{false≢true, cases_eq}
use Rattle.std.proofs.lemmas.Option.{none-some, same_Some}
use Rattle.std.specs.Prelude.{option_and_then}
use Rattle.jr_tree.specs.Rows.{Rows, parent, end}
use Rattle.jr_tree.specs.Tree.{IsTree}
use Rattle.jr_defs.specs.Enclosing.{BodyOf, Innermost}
use Rattle.jr_plain.specs.Search.{Finds, first_below}
use Rattle.jr_plain.specs.Enclosing.{innermost, is_body_of}
use Rattle.jr_plain.specs.Instances.{is_member_round}
use Rattle.jr_plain.proofs.Searches.{finds}
use Rattle.jr_plain.proofs.Bounds.{body_below}
use Rattle.jr_plain.proofs.Enclosed.{body_tells, innermost_finds}
use Rattle.jr_places.specs.Tabulated.{tabulated}
use Rattle.jr_places.proofs.Tables.{tabulated_at}
use Rattle.jr_places.proofs.Rounding.{one_found, around_step}
use Rattle.jr_lookup.proofs.Instancing.{one_member}
use Rattle.jr_rules.specs.Typed.{InMember}
use Rattle.jr_rules.proofs.Kids.{Round, round_tells, member_row}
use Rattle.jr_type_facts.specs.Tables.{grown, member_by, IsMemberOf, AreMembers}
use Rattle.jr_type_facts.proofs.Tabling.{grown_told}

module _ (p : Rows) (tree : IsTree p) where
  -- the member that holds the row, computed
  abbrev member_in : ℕ → ℕ → Option ℕ
  member_in n c = first_below (length p) (λ m. is_member_round p n c m)

  abbrev member_of : ℕ → Option ℕ
  member_of n = option_and_then (member_in n) (innermost p n)

  round_finds : (n c : ℕ) → Finds (member_in n c) (Round p n c)
  round_finds n c = finds (λ m. is_member_round p n c m) (Round p n c) (λ m. round_tells p n c m) (length p) (λ m h. member_row p c m h.0.0)
      (λ m k h i. one_member p tree n c m k (record { of_type = h.0.0; from = h.0.1; before = h.1 }) (record { of_type = i.0.0; from = i.0.1; before = i.1 }))

  as_member : (n c m : ℕ) → Innermost p n c → Round p n c m → IsMemberOf p n m
  as_member n c m i h = record { class = c; inside = record { innermost = i; inside = h.0.0; from = h.0.1; before = h.1 } }

  as_round : (n c m : ℕ) → InMember p n c m → Round p n c m
  as_round n c m i = ((i.inside, i.from), i.before)

  member_finds : (n : ℕ) → Finds (member_of n) (λ m. IsMemberOf p n m)
  member_finds n m = by (innermost p n) refl
    where
      by : (o : Option ℕ) → innermost p n ≡ o → (option_and_then (member_in n) o ≡ Some m → IsMemberOf p n m) × (IsMemberOf p n m → option_and_then (member_in n) o ≡ Some m)
      by None none = (λ e. absurd (none-some m e), λ h. absurd (none-some h.class (sym none ∙ (innermost_finds p n h.class).1 h.inside.innermost)))
      by (Some c) is = (
        λ e. as_member n c m ((innermost_finds p n c).0 is) ((round_finds n c m).0 e),
        λ h. (round_finds n c m).1 (subst (λ k. Round p n k m) (same_Some h.class c (sym ((innermost_finds p n h.class).1 h.inside.innermost) ∙ is)) (as_round n h.class m h.inside)),
      )

  around_at : (n : ℕ) → n < length p → cond (is_body_of p (parent p (parent p n)) (parent p n)) (Some (parent p (parent p n))) (get_or (tabulated (innermost p) n) (parent p n) None) ≡ innermost p n
  around_at n lt = around_step p n tree lt

  -- right below a body
  below_body : (n : ℕ) → n < length p → is_body_of p (parent p (parent p n)) (parent p n) ≡ true → IsMemberOf p n n
  below_body n lt is = record {
    class = parent p (parent p n);
    inside = record {
      innermost = (innermost_finds p n (parent p (parent p n))).0 (sym (around_at n lt) ∙ ap (λ b. cond b (Some (parent p (parent p n))) (get_or (tabulated (innermost p) n) (parent p n) None)) is);
      inside = (body_tells p (parent p (parent p n)) (parent p n)).0 is;
      from = omega arith;
      before = tree.nested n;
    };
  }

  module _ (n : ℕ) (lt : n < length p) (pos : 0 < n) (apart_from : is_body_of p (parent p (parent p n)) (parent p n) ≡ false) where
    same_type : innermost p (parent p n) ≡ innermost p n
    same_type = let up = tree.up n lt pos in sym (tabulated_at (innermost p) None n (parent p n) up)
        ∙ sym (ap (λ b. cond b (Some (parent p (parent p n))) (get_or (tabulated (innermost p) n) (parent p n) None)) apart_from) ∙ around_at n lt

    out : (m : ℕ) → IsMemberOf p (parent p n) m → IsMemberOf p n m
    out m h = let i = h.inside in let a = i.from in let b = i.before in let up = tree.up n lt pos in let held = tree.held n lt pos in record {
      class = h.class;
      inside = record {
        innermost = (innermost_finds p n h.class).0 (sym same_type ∙ (innermost_finds p (parent p n) h.class).1 i.innermost);
        inside = i.inside;
        from = omega arith;
        before = ⊎_elim (λ e. let same = ap (end p) e in omega arith) (λ apart. let ends = tree.apart m (parent p n) (omega arith) b in omega arith) (cases_eq m (parent p n));
      };
    }

    not_here : (m c : ℕ) → BodyOf p c (parent p m) → m ≡ n → ⊥
    not_here m c h e = false≢true (sym apart_from ∙ (body_tells p (parent p (parent p n)) (parent p n)).1
        (subst (λ k. BodyOf p (parent p (parent p k)) (parent p k)) e (subst (λ k. BodyOf p k (parent p m)) (sym h.inside) h)))

    into : (m : ℕ) → IsMemberOf p n m → IsMemberOf p (parent p n) m
    into m h = let i = h.inside in let a = i.from in let b = i.before in let up = tree.up n lt pos in
        ⊎_elim (λ e. absurd (not_here m h.class i.inside e)) (λ apart. let low = tree.inner m n (omega arith) b in record {
          class = h.class;
          inside = record {
            innermost = (innermost_finds p (parent p n) h.class).0 (same_type ∙ (innermost_finds p n h.class).1 i.innermost);
            inside = i.inside;
            from = low;
            before = omega arith;
          };
        }) (cases_eq m n)

    carried : Finds (member_of (parent p n)) (λ m. IsMemberOf p n m)
    carried m = (λ e. out m ((member_finds (parent p n) m).0 e), λ h. (member_finds (parent p n) m).1 (into m h))

  none_first : Finds None (λ m. IsMemberOf p 0 m)
  none_first m = (λ e. absurd (none-some m e), λ h. let a = h.inside.innermost.holds.after in absurd (omega arith))

  stepped : (n : ℕ) → n < length p → (b : Bool) → is_body_of p (parent p (parent p n)) (parent p n) ≡ b → cond b (Some n) (get_or (tabulated member_of n) (parent p n) None) ≡ member_of n
  stepped n lt true is = sym ((member_finds n n).1 (below_body n lt is))
  stepped zero lt false apart_from = one_found (λ m. IsMemberOf p 0 m) None (member_of 0) none_first (member_finds 0)
  stepped (suc n) lt false apart_from = let up = tree.up (suc n) lt (omega arith) in tabulated_at member_of None (suc n) (parent p (suc n)) up
      ∙ one_found (λ m. IsMemberOf p (suc n) m) (member_of (parent p (suc n))) (member_of (suc n)) (carried (suc n) lt (omega arith) apart_from) (member_finds (suc n))

  none_past : (n : ℕ) → length p ≤ n → None ≡ member_of n
  none_past n le = one_found (λ m. IsMemberOf p n m) None (member_of n)
      (λ m. (λ e. absurd (none-some m e), λ h. let i = h.inside.innermost.holds in let last = tree.last i.body (body_below p h.class i.body i.of_type) in let before = i.before in absurd (omega arith))) (member_finds n)

  pub members_told : (all : List (Option ℕ)) → all ≡ grown (member_by p) (length p) → AreMembers p all
  members_told all is n = subst (λ o. Finds o (λ m. IsMemberOf p n m))
      (sym (grown_told (member_by p) member_of (length p) None all is (λ k lt. stepped k lt (is_body_of p (parent p (parent p k)) (parent p k)) refl) none_past n)) (member_finds n)
