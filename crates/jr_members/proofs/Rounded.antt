-- The types whose bodies hold a place are found from the innermost one outwards (JLS 6.6.2).
use Rattle.std.proofs.Common.{◌≡◌, ◌⊎◌, refl, sym, ◌∙◌, ap, subst, inl, inr, ⊎_elim, arith, ℕ, zero, suc, ◌-◌, ◌<◌, ◌≤◌, Bool, true, false, cond, List, length, Option, Some, None, nat_eq, Decides}
use Rattle.std.specs.Prelude.{slice_index_or}
use Rattle.std.proofs.lemmas.Bool.{false≢true, cases_eq, cases_lt, cases_order}
use Rattle.std.proofs.lemmas.List.{get_or_past}
use Rattle.std.proofs.lemmas.Option.{none-some, same_Some}
use Rattle.jr_tree.specs.declared.label.Label.{Label}
use Rattle.jr_tree.specs.declared.label.Label.TheVariants as is
use Rattle.jr_tree.specs.declared.label.Role.TheVariants as role
use Rattle.jr_tree.specs.Labels.{role_of}
use Rattle.jr_tree.specs.Rows.{Rows, label, parent, end}
use Rattle.jr_tree.specs.Tree.{IsTree}
use Rattle.jr_defs.specs.Enclosing.{InBody, Innermost}
use Rattle.jr_plain.specs.Search.{Finds, last_below}
use Rattle.jr_plain.specs.Enclosing.{is_in_body, innermost}
use Rattle.jr_plain.proofs.Bounds.{body_below}
use Rattle.jr_plain.proofs.Enclosed.{in_body_tells, in_body_below, innermost_finds}
use Rattle.jr_places.specs.Tabulated.{tabulated}
use Rattle.jr_places.proofs.Tables.{length-tabulated, tabulated_at}
use Rattle.jr_places.specs.Rounds.{arounds}
use Rattle.jr_places.proofs.Rounding.{all_innermost}

none_last : (test : ℕ → Bool) (n : ℕ) → last_below n test ≡ None → (j : ℕ) → j < n → test j ≡ true → ⊥
none_last test zero e j lt h = absurd (omega arith)
none_last test (suc n) e j lt h = by (test n) refl e (λ less is. none_last test n is j less h)
  where
    by : (b : Bool) → test n ≡ b → cond b (Some n) (last_below n test) ≡ None → (j < n → last_below n test ≡ None → ⊥) → ⊥
    by true here e more = none-some n (sym e)
    by false here e more = ⊎_elim (λ same. false≢true (sym here ∙ ap test (sym same) ∙ h)) (λ apart. more (omega arith) e) (cases_eq j n)

no_body : (l : Label) → role_of l ≡ role.Type → l ≡ is.Body → ⊥
no_body l e f = let h = subst (λ l. role_of l ≡ role.Type) f e in cc

module _ (p : Rows) where
  -- the innermost type, and those round it
  abbrev pub IsRound : Option ℕ → ℕ → Type 0
  IsRound None s = ⊥
  IsRound (Some c) s = (s ≡ c) ⊎ InBody p s c

  abbrev pub EndsIn : ℕ → Option ℕ → Type 0
  EndsIn turns None = Unit {0}
  EndsIn turns (Some c) = c < turns

  -- the types round the place of which Q holds are among those from here outwards
  pub record IsRising (Q : ℕ → Type 0) (o : ℕ) (around : Option ℕ) (turns : ℕ) : Type 0 where
    pub told : (s : ℕ) → InBody p s o → Q s → IsRound around s
    pub sound : (s : ℕ) → IsRound around s → InBody p s o
    pub ends : EndsIn turns around

module _ (p : Rows) (tree : IsTree p) where
  below_end : (s o : ℕ) → InBody p s o → o < length p
  below_end s o h = let low = body_below p s h.body h.of_type in let most = tree.last h.body low in let before = h.before in omega arith

  -- a type stands before its body
  before_body : (s o : ℕ) (h : InBody p s o) → s < h.body
  before_body s o h = ⊎_elim
      (λ first. absurd (no_body (label p s) h.of_type.type (ap (label p) (sym h.of_type.inside ∙ (ap (parent p) first ∙ (tree.root ∙ sym first))) ∙ h.of_type.body)))
      (λ other. let up = tree.up h.body (body_below p s h.body h.of_type) (omega arith) in let is = h.of_type.inside in omega (arith, up, is)) (cases_eq h.body 0)

  pub around_is : (all : List (Option ℕ)) (o : ℕ) → all ≡ arounds p (length p) → slice_index_or all o None ≡ innermost p o
  around_is all o is = ap (λ xs. slice_index_or xs o None) (is ∙ all_innermost p (length p) tree (omega arith))
      ∙ ⊎_elim (λ lt. tabulated_at (innermost p) None (length p) o lt)
      (λ le. get_or_past (tabulated (innermost p) (length p)) o None (let s = length-tabulated (innermost p) (length p) in omega arith) ∙ sym (past (innermost p o) refl le)) (cases_lt o (length p))
    where
      past : (found : Option ℕ) → innermost p o ≡ found → length p ≤ o → found ≡ None
      past None e le = refl
      past (Some s) e le = let lt = below_end s o ((innermost_finds p o s).0 e).holds in absurd (omega arith)

  out_by : (o c s : ℕ) → Innermost p o c → InBody p s o → (s ≡ c) ⊎ InBody p s c
  out_by o c s k h = ⊎_elim (λ same. inl same) (λ apart. inr (⊎_elim (λ e. absurd (apart (sym h.of_type.inside ∙ (ap (parent p) e ∙ k.holds.of_type.inside)))) (⊎_elim (outer apart) (inner apart)) (cases_order h.body k.holds.body))) (cases_eq s c)
    where
      outer : (s ≡ c → ⊥) → h.body < k.holds.body → InBody p s c
      outer apart lt =
          let after = k.holds.after in
          let before = h.before in
          let first = before_body c o k.holds in
          let le = tree.inner h.body k.holds.body lt (omega arith) in
          let is = k.holds.of_type.inside in
          ⊎_elim (λ e. absurd (no_body (label p c) k.holds.of_type.type (ap (label p) (sym e) ∙ h.of_type.body)))
          (λ other. record { body = h.body; of_type = h.of_type; after = omega (arith, le, is); before = omega arith }) (cases_eq h.body c)

      inner : (s ≡ c → ⊥) → k.holds.body < h.body → InBody p s c
      inner apart lt =
          let after = h.after in
          let before = k.holds.before in
          let le = tree.inner k.holds.body h.body lt (omega arith) in
          let is = h.of_type.inside in
          let most = k.innermost s h in
          let first = before_body c o k.holds in
          absurd (omega (arith, le, is, most, first))

  pub round_out : (o s : ℕ) → InBody p s o → IsRound p (innermost p o) s
  round_out o s h = by (innermost p o) refl
    where
      by : (found : Option ℕ) → innermost p o ≡ found → IsRound p found s
      by None e = none_last (λ c. is_in_body p c o) (length p) e s (in_body_below p s o h) ((in_body_tells p s o).1 h)
      by (Some c) e = out_by o c s ((innermost_finds p o c).0 e) h

  pub round_in : (o s : ℕ) → IsRound p (innermost p o) s → InBody p s o
  round_in o s = by (innermost p o) refl
    where
      within : (c : ℕ) → InBody p c o → InBody p s c → InBody p s o
      within c k h =
          let first = before_body c o k in
          let after = k.after in
          let before = k.before in
          let is = k.of_type.inside in
          let low = body_below p c k.body k.of_type in
          let held = tree.held k.body low (omega arith) in
          let equal = ap (end p) is in
          let one = tree.apart c k.body first (omega (arith, held, equal)) in
          let start = h.after in
          let two = tree.apart h.body c start h.before in
          record { body = h.body; of_type = h.of_type; after = omega arith; before = omega arith }

      by : (found : Option ℕ) → innermost p o ≡ found → IsRound p found s → InBody p s o
      by None e h = absurd h
      by (Some c) e (inl same) = subst (λ s. InBody p s o) (sym same) ((innermost_finds p o c).0 e).holds
      by (Some c) e (inr h) = within c ((innermost_finds p o c).0 e).holds h

  round_falls : (o c : ℕ) → innermost p o ≡ Some c → c < o
  round_falls o c e = let h = ((innermost_finds p o c).0 e).holds in let first = before_body c o h in let after = h.after in omega arith

  -- ---- outwards

  module _ (Q : ℕ → Type 0) (o : ℕ) where
    pub rise_start : (around : Option ℕ) (turns : ℕ) → around ≡ innermost p o → turns ≡ length p → IsRising p Q o around turns
    rise_start around turns is enough = record {
      told = λ s h q. subst (λ a. IsRound p a s) (sym is) (round_out o s h);
      sound = λ s h. round_in o s (subst (λ a. IsRound p a s) is h);
      ends = by around (sym is);
    }
      where
        by : (a : Option ℕ) → innermost p o ≡ a → EndsIn p turns a
        by None e = tt
        by (Some c) e = let h = ((innermost_finds p o c).0 e).holds in let lt = in_body_below p c o h in omega (arith, enough, lt)

    -- the next one out, where Q holds not of this one
    pub rise_next : (around next : Option ℕ) (turns left c : ℕ) → around ≡ Some c → next ≡ innermost p c → left ≡ turns - 1 → (Q c → ⊥) → IsRising p Q o around turns → IsRising p Q o next left
    rise_next around next turns left c here is less none h = record {
      told = λ s k q. ⊎_elim (λ same. absurd (none (subst Q same q))) (λ out. subst (λ a. IsRound p a s) (sym is) (round_out c s out)) (subst (λ a. IsRound p a s) here (h.told s k q));
      sound = λ s k. h.sound s (subst (λ a. IsRound p a s) (sym here) (inr (round_in c s (subst (λ a. IsRound p a s) is k))));
      ends = by next (sym is);
    }
      where
        lower : c < turns
        lower = subst (λ a. EndsIn p turns a) here h.ends

        by : (a : Option ℕ) → innermost p c ≡ a → EndsIn p left a
        by None e = tt
        by (Some s) e = let falls = round_falls c s e in let low = lower in omega (arith, less, falls, low)

    pub rise_here : (around : Option ℕ) (turns c : ℕ) → around ≡ Some c → IsRising p Q o around turns → InBody p c o
    rise_here around turns c here h = h.sound c (subst (λ a. IsRound p a c) (sym here) (inl refl))

    pub rise_out : (around : Option ℕ) (turns : ℕ) → around ≡ None → IsRising p Q o around turns → (s : ℕ) → InBody p s o → Q s → ⊥
    rise_out around turns none h s k q = subst (λ a. IsRound p a s) none (h.told s k q)

    pub rise_past : (around : Option ℕ) (turns : ℕ) → turns ≡ 0 → IsRising p Q o around turns → (s : ℕ) → InBody p s o → Q s → ⊥
    rise_past None turns past h s k q = h.told s k q
    rise_past (Some c) turns past h s k q = let lt = h.ends in absurd (omega (arith, lt, past))
