-- What a flow reads of names, types and constants is in the copy as it was.
use Rattle.std.proofs.Common.{◌≡◌, ◌⊎◌, refl, sym, ◌∙◌, ap, ap₂, subst, inl, inr, ⊎_elim, arith, ℕ, zero, suc, ◌+◌, ◌<◌, ◌≤◌, Bool, true, false, not, ◌&&◌, ◌||◌, if◌then◌else◌, length, Option, Some, None, option_map, nat_eq, nat_le, nat_lt}
use Rattle.std.proofs.lemmas.Bool.{false≢true}
use Rattle.std.proofs.lemmas.Option.{none-some, same_Some}
use Rattle.std.proofs.lemmas.Bool.Decides.{Decides-ltb}
use Rattle.jr_base.specs.declared.kind.Symbol.{Symbol}
use Rattle.jr_tree.specs.declared.label.Label.{Label}
use Rattle.jr_tree.specs.declared.label.Label.TheVariants as is
use Rattle.jr_tree.specs.Rows.{Rows, label, parent, end, role_at}
use Rattle.jr_tree.specs.Labels.{role_of}
use Rattle.jr_defs.specs.declared.referent.Referent.{Referent}
use Rattle.jr_defs.specs.declared.referent.Referent.TheVariants.{Declared}
use Rattle.jr_plain.specs.Typing.{is_plus}
use Rattle.jr_plain.proofs.Tests.{both, decide}
use Rattle.jr_plain.proofs.Enclosed.{most}
use Rattle.jr_flow_defs.specs.Meaning.{Meaning, declared, is_local_role, is_field_role, local_among, local_at, is_read, reads_field, is_plain_assignment, is_only_written, is_paren, unwrapped, operand, divides, adds, makes, is_shown, shows_left}
use Rattle.jr_flow_laws.specs.Shifted.{IsIn, least_parts, IsWholeBody, moved_row, IsMovedReferent, AreShiftedRows}
use Rattle.jr_flow_laws.proofs.Moving.{same_number}
use Rattle.jr_flow_laws.proofs.Standing.{first_in, parent_in, label_over, next_over}

module _ (p q : Rows) (m w : Meaning) (body s : ℕ) (outside : ℕ → ℕ) (whole : IsWholeBody p m body) (rows : AreShiftedRows p q m w body s outside) where
  abbrev In : ℕ → Type 0
  In = IsIn p body

  abbrev move : ℕ → ℕ
  move = moved_row p body s outside

  pub moved_inside : (d : ℕ) → In d → move d ≡ d + s
  moved_inside d i = ap (λ t. if t then d + s else outside d) ((both (most body d) (Decides-ltb d (end p body))).1 (i.from, i.to))

  moved_outside : (d : ℕ) → (In d → ⊥) → move d ≡ outside d
  moved_outside d none = ap (λ t. if t then d + s else outside d) (false_from (nat_le body d && nat_lt d (end p body)) (λ h. none (in_from h))) where
    in_from : (nat_le body d && nat_lt d (end p body)) ≡ true → In d
    in_from h = let parts = (both (most body d) (Decides-ltb d (end p body))).0 h in record { from = parts.0; to = parts.1 }

    false_from : (b : Bool) → (b ≡ true → ⊥) → b ≡ false
    false_from true h = absurd (h refl)
    false_from false h = refl

  in_or_not : (d : ℕ) → In d ⊎ (In d → ⊥)
  in_or_not d = ⊎_elim (λ h. inl (record { from = h.0; to = h.1 })) (λ h. inr (λ i. h (i.from, i.to))) (decide (both (most body d) (Decides-ltb d (end p body))))

  -- a declaration has the role that it had
  role_over : (n d : ℕ) (level : Option ℕ) → In n → m.targets n ≡ Declared d level → role_at q (move d) ≡ role_at p d
  role_over n d level i e = ⊎_elim (λ j. ap (role_at q) (moved_inside d j) ∙ ap role_of (rows.labels d j)) (λ none. ap (role_at q) (moved_outside d none) ∙ rows.roles n d level i e none) (in_or_not d)

  -- ---- names

  local_told : (t : Bool) (d : ℕ) → ((e : ℕ) → (if t then Some d else None) ≡ Some e → In e) → (if t then Some (move d) else None) ≡ option_map (λ k. k + s) (if t then Some d else None)
  local_told true d own = ap Some (moved_inside d (own d refl))
  local_told false d own = refl

  local_over : (a b : Referent) → IsMovedReferent move a b → ((d : ℕ) (level : Option ℕ) → a ≡ Declared d level → role_at q (move d) ≡ role_at p d)
      → ((d : ℕ) → local_among p (declared a) ≡ Some d → In d) → local_among q (declared b) ≡ option_map (λ k. k + s) (local_among p (declared a))
  local_over _ _ IsMovedReferent.unbound roles own = refl
  local_over _ _ IsMovedReferent.ambiguous roles own = refl
  local_over _ _ IsMovedReferent.array_length roles own = refl
  local_over _ _ IsMovedReferent.a_package roles own = refl
  local_over _ _ (IsMovedReferent.declared {d} {level} {over}) roles own =
      ap (λ r. if is_local_role r then Some (move d) else None) (roles d level refl) ∙ local_told (is_local_role (role_at p d)) d own

  pub local_at_over : (n : ℕ) → In n → local_at q w (n + s) ≡ option_map (λ k. k + s) (local_at p m n)
  local_at_over n i = local_over (m.targets n) (w.targets (n + s)) (rows.referents n i) (λ d level e. role_over n d level i e) (λ d e. whole.locals n d i e)

  read_over : (n : ℕ) → In n → (a b : Referent) → IsMovedReferent move a b → ((d : ℕ) (level : Option ℕ) → a ≡ Declared d level → role_at q (move d) ≡ role_at p d)
      → is_read q w (n + s) b ≡ is_read p m n a
  read_over n i _ _ IsMovedReferent.unbound roles = refl
  read_over n i _ _ IsMovedReferent.ambiguous roles = refl
  read_over n i _ _ IsMovedReferent.array_length roles = refl
  read_over n i _ _ IsMovedReferent.a_package roles = refl
  read_over n i _ _ (IsMovedReferent.declared {d} {level} {over}) roles = ap₂ (λ r c. is_field_role r && not c) (roles d level refl) (rows.constants n i)

  pub reads_over : (n : ℕ) → In n → reads_field q w (n + s) ≡ reads_field p m n
  reads_over n i = read_over n i (m.targets n) (w.targets (n + s)) (rows.referents n i) (λ d level e. role_over n d level i e)

  -- what is declared in the body
  pub declared_over : (a b : Referent) (d : ℕ) → IsMovedReferent move a b → declared a ≡ Some d → In d → declared b ≡ Some (d + s)
  declared_over _ _ d IsMovedReferent.unbound e i = absurd (none-some d e)
  declared_over _ _ d IsMovedReferent.ambiguous e i = absurd (none-some d e)
  declared_over _ _ d IsMovedReferent.array_length e i = absurd (none-some d e)
  declared_over _ _ d IsMovedReferent.a_package e i = absurd (none-some d e)
  declared_over _ _ d (IsMovedReferent.declared {d = c} {level} {over}) e i = ap Some (ap move (same_Some c d e) ∙ moved_inside d i)

  -- ---- what is assigned

  pub parent_label_over : (n : ℕ) → In n → body < n → label q (parent q (n + s)) ≡ label p (parent p n)
  parent_label_over n i less = label_over p q m w body s outside whole rows (parent p n) (parent q (n + s)) (parent_in p m body whole n i less) (rows.parents n i less)

  pub only_written_over : (n : ℕ) → In n → body < n → is_only_written q (n + s) ≡ is_only_written p n
  only_written_over n i less = ap₂ (λ l t. is_plain_assignment l && t) (parent_label_over n i less)
      (ap (λ k. nat_eq (n + s) (k + 1)) (rows.parents n i less) ∙ (ap (nat_eq (n + s)) (next_over p q m w body s outside whole rows (parent p n)) ∙ same_number s n (parent p n + 1)))

  paren_parts : (l : Label) → is_paren l ≡ true → 1 ≤ least_parts l
  paren_parts is.Paren e = omega arith
  paren_parts _ e = absurd (false≢true e)

  -- a row without parentheses stands in the body, and in the copy it is found there
  pub record IsUnwrapped (found : ℕ) (there : ℕ) : Type 0 where
    pub moved : there ≡ found + s
    pub inside : In found

  unwrapped_by : (k : ℕ) → In k → (b c : Bool) (x y : ℕ) → c ≡ b → (b ≡ true → IsUnwrapped x y) → IsUnwrapped (if b then x else k) (if c then y else k + s)
  unwrapped_by k i true true x y e h = h refl
  unwrapped_by k i false false x y e h = record { moved = refl; inside = i }
  unwrapped_by k i true false x y e h = absurd (false≢true e)
  unwrapped_by k i false true x y e h = absurd (false≢true (sym e))

  unwrapped_over : (room other k l : ℕ) → In k → l ≡ k + s → end p body ≤ room + k → end p body ≤ other + k → IsUnwrapped (unwrapped p room k) (unwrapped q other l)
  unwrapped_over zero other k l i e h g = let t = i.to in absurd (omega (arith, t, h))
  unwrapped_over (suc room) zero k l i e h g = let t = i.to in absurd (omega (arith, t, g))
  unwrapped_over (suc room) (suc other) k l i e h g = subst (λ z. IsUnwrapped (unwrapped p (suc room) k) (unwrapped q (suc other) z)) (sym e)
      (unwrapped_by k i (is_paren (label p k)) (is_paren (label q (k + s))) (unwrapped p room (k + 1)) (unwrapped q other (k + s + 1)) (ap is_paren (rows.labels k i))
      (λ t. unwrapped_over room other (k + 1) (k + s + 1) (first_in p m body whole k i (paren_parts (label p k) t)) (next_over p q m w body s outside whole rows k) (omega (arith, h)) (omega (arith, g))))

  pub operand_over : (n : ℕ) → In n → 1 ≤ least_parts (label p n) → IsUnwrapped (operand p n) (operand q (n + s))
  operand_over n i h =
      let l = whole.tree.last body whole.few in
      let f = rows.few in
      unwrapped_over (length p) (length q) (n + 1) (n + s + 1) (first_in p m body whole n i h) (next_over p q m w body s outside whole rows n) (omega (arith, l)) (omega (arith, f))

  -- ---- operators

  pub makes_over : (n : ℕ) → In n → (op : Symbol) → makes q w (n + s) op ≡ makes p m n op
  makes_over n i op = ap₂ (λ c t. not c && (divides op || (adds op && t))) (rows.constants n i) (rows.texts n i)

  pub shows_over : (n : ℕ) → In n → In (n + 1) → (op : Symbol) → shows_left q w (n + s) op ≡ shows_left p m n op
  shows_over n i j op = ap₂ (λ b t. is_plus op && b && t) (makes_over n i op)
      (ap (λ k. is_shown q (w.types k)) (next_over p q m w body s outside whole rows n) ∙ rows.shown (n + 1) j)
