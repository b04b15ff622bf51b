-- The rows at which a final variable is changed are found, and no others.
use Rattle.std.proofs.Common.{◌≡◌, ◌⊎◌, refl, sym, ◌∙◌, ap, subst, inl, inr, ⊎_elim, arith, ℕ, zero, suc, ◌+◌, ◌<◌, ◌≤◌, Bool, true, false, not, ◌&&◌, ◌||◌, if◌then◌else◌, List, [], ◌∷◌, ◌++◌, length, Option, Some, None, nat_eq, get_or}
use Rattle.std.proofs.lemmas.Bool.{false≢true, cases_eq, lt-ltb, ltb-true, or_cases}
use Rattle.std.proofs.lemmas.Bool.Decides.{Decides-eqb}
use Rattle.std.proofs.lemmas.List.{length-append}
use Rattle.std.proofs.lemmas.Option.{none-some, same_Some}
use Rattle.std.proofs.Math.ListN.{get_or-append}
use Rattle.std.proofs.Math.Seq.{get_or-append_seam}
use Rattle.jr_base.specs.declared.kind.Symbol.{Symbol}
use Rattle.jr_base.specs.declared.kind.Symbol.TheVariants as y
use Rattle.jr_tree.specs.declared.label.Label.{Label}
use Rattle.jr_tree.specs.declared.label.Label.TheVariants as is
use Rattle.jr_tree.specs.declared.label.Modifiers.{Modifiers}
use Rattle.jr_tree.specs.declared.label.Role.{Role}
use Rattle.jr_tree.specs.declared.label.Role.TheVariants as role
use Rattle.jr_tree.specs.Local.{IsLocal}
use Rattle.jr_tree.specs.Rows.{Rows, label, parent, end, role_at}
use Rattle.jr_tree.specs.Labels.{role_of}
use Rattle.jr_defs.specs.declared.referent.Referent.{Referent}
use Rattle.jr_defs.specs.declared.referent.Referent.TheVariants.{Declared}
use Rattle.jr_defs.specs.Referents.{Table}
use Rattle.jr_plain.specs.Search.{has}
use Rattle.jr_plain.proofs.Searches.{such}
use Rattle.jr_places.proofs.Tables.{tabulated_at}
use Rattle.jr_rule.specs.declared.Fault.{Fault}
use Rattle.jr_rule.specs.declared.Rule.TheVariants as rule
use Rattle.jr_rule.specs.Faults.{AreFaultsOf}
use Rattle.jr_supers.specs.Tabled.{declared}
use Rattle.jr_view.specs.declared.View.{View}
use Rattle.jr_assign.specs.Changes.{is_member, is_interface, field_body, builds, has_value, member_at, member_in, members, is_fixed, is_changed_wrongly, is_wrong_at}
use Rattle.jr_assign.proofs.Inside.{both_true, not_true}
use Rattle.jr_assign_faults.specs.declared.operands.Operand.{Operand}
use Rattle.jr_assign_faults.specs.declared.operands.Operand.TheVariants as operand
use Rattle.jr_assign_faults.specs.Changed.{left_side, operand_in, operand_by, operand_of, operands, variable_by, variable_of, changed_by, changed_in, changes, final_rows, rows_in, table_in}
use Rattle.jr_assign_faults.specs.Finals.{IsChanged, IsHeldBy, IsFinalField, IsFixed, BreaksAssignment, EachFinalIsFound, EachFoundFinalBreaks}
use Rattle.jr_assign_faults.specs.Faults.{AreExactFaults}

-- ---- tables that are built row by row

module _ {A : Type 0} (none : A) (step : List A → ℕ → A) where
  abbrev built : ℕ → List A
  built zero = []
  built (suc k) = built k ++ step (built k) k ∷ []

  built_length : (k : ℕ) → length (built k) ≡ k
  built_length zero = refl
  built_length (suc k) = let h = built_length k in omega (arith, length-append (built k) (step (built k) k ∷ []))

  built_at : (k i : ℕ) → i < k → get_or (built k) i none ≡ step (built i) i
  built_at zero i lt = absurd (omega arith)
  built_at (suc k) i lt = ⊎_elim
      (λ e. ap (λ j. get_or (built k ++ step (built k) k ∷ []) j none) (e ∙ sym (built_length k)) ∙ get_or-append_seam (built k) (step (built k) k) [] none ∙ ap (λ j. step (built j) j) (sym e))
      (λ apart. get_or-append (built k) (step (built k) k ∷ []) none i (omega (arith, built_length k)) ∙ built_at k i (omega arith))
      (cases_eq i k)

module _ (p : Rows) (t : Table) (local : IsLocal p) where
  abbrev of_operand : List Operand → ℕ → Operand
  of_operand all k = operand_by p (operand_of all (parent p k)) k

  abbrev of_member : List ℕ → ℕ → ℕ
  of_member all k = member_at p (member_in all) k

  operands_are : (k : ℕ) → operands p k ≡ built operand.Other of_operand k
  operands_are zero = refl
  operands_are (suc k) = ap (λ (all : List Operand). all ++ of_operand all k ∷ []) (operands_are k)

  members_are : (k : ℕ) → members p k ≡ built 0 of_member k
  members_are zero = refl
  members_are (suc k) = ap (λ (all : List ℕ). all ++ of_member all k ∷ []) (members_are k)

  abbrev op : ℕ → Operand
  op n = operand_of (operands p (length p)) n

  abbrev held : ℕ → ℕ
  held n = member_in (members p (length p)) n

  op_at : (k i : ℕ) → i < k → operand_of (operands p k) i ≡ of_operand (operands p i) i
  op_at k i lt = ap (λ (all : List Operand). operand_of all i) (operands_are k) ∙ built_at operand.Other of_operand k i lt ∙ ap (λ (all : List Operand). of_operand all i) (sym (operands_are i))

  held_at : (k i : ℕ) → i < k → member_in (members p k) i ≡ of_member (members p i) i
  held_at k i lt = ap (λ (all : List ℕ). member_in all i) (members_are k) ∙ built_at 0 of_member k i lt ∙ ap (λ (all : List ℕ). of_member all i) (sym (members_are i))

  op_is : (n : ℕ) → n < length p → 0 < n → op n ≡ operand_by p (op (parent p n)) n
  op_is n lt some = let up = local.tree.up n lt some in op_at (length p) n lt ∙ ap (λ (round : Operand). operand_by p round n) (op_at n (parent p n) up ∙ sym (op_at (length p) (parent p n) (omega arith)))

  held_is : (n : ℕ) → n < length p → 0 < n → held n ≡ (if is_member (label p n) then n else held (parent p n))
  held_is n lt some = let up = local.tree.up n lt some in held_at (length p) n lt ∙ ap (λ (over : ℕ). if is_member (label p n) then n else over) (held_at n (parent p n) up ∙ sym (held_at (length p) (parent p n) (omega arith)))

  abbrev is_other : Operand → Bool
  is_other operand.Other = true
  is_other operand.Target = false
  is_other operand.Changed = false

  left_told : (op : Symbol) → is_other (left_side op) ≡ false
  left_told y.Assign = refl
  left_told _ = refl

  no_root : (l : Label) → (n : ℕ) → n < length p → label p (parent p n) ≡ l → (l ≡ is.Program → ⊥) → 0 < n
  no_root l n lt e apart = ⊎_elim (λ root. absurd (apart (sym e ∙ ap (λ n. label p (parent p n)) root ∙ ap (label p) local.tree.root ∙ local.program))) (λ some. omega arith) (cases_eq n 0)

  by_label : (n : ℕ) (l : Label) → label p (parent p n) ≡ l → n < length p → 0 < n → op n ≡ operand_in l (parent p n) (op (parent p n)) n
  by_label n l e lt some = op_is n lt some ∙ ap (λ l. operand_in l (parent p n) (op (parent p n)) n) e

  changed_told : (n : ℕ) → n < length p → IsChanged p n → is_other (op n) ≡ false
  changed_told n lt (IsChanged.assigned {op = sign} e at) = let some = no_root (is.Assign sign) n lt e (λ h. cc) in
      ap is_other (by_label n (is.Assign sign) e lt some ∙ ap (λ b. if b then left_side sign else operand.Other) ((Decides-eqb n (parent p n + 1)).1 at)) ∙ left_told sign
  changed_told n lt (IsChanged.stepped_before {op = sign} e) = ap is_other (by_label n (is.PreStep sign) e lt (no_root (is.PreStep sign) n lt e (λ h. cc)))
  changed_told n lt (IsChanged.stepped_behind {op = sign} e) = ap is_other (by_label n (is.PostStep sign) e lt (no_root (is.PostStep sign) n lt e (λ h. cc)))
  changed_told n lt (IsChanged.enclosed e inner) = let some = no_root is.Paren n lt e (λ h. cc) in let up = local.tree.up n lt some in
      ap is_other (by_label n is.Paren e lt some) ∙ changed_told (parent p n) (omega arith) inner

  -- the member that holds a row, if one does; else the program
  root_held : 0 < length p → held 0 ≡ 0
  root_held some = held_at (length p) 0 some ∙ either_way (is_member (label p 0))
    where
      either_way : (b : Bool) → ◌≡◌ {A = ℕ} (if b then 0 else 0) 0
      either_way true = refl
      either_way false = refl

  held_step : (n : ℕ) → n < length p → 0 < n → (b : Bool) → is_member (label p n) ≡ b → IsHeldBy p (parent p n) (held (parent p n)) ⊎ (label p (held (parent p n)) ≡ is.Program)
      → IsHeldBy p n (held n) ⊎ (label p (held n) ≡ is.Program)
  held_step n lt some true e over = inl (subst (IsHeldBy p n) (sym (held_is n lt some ∙ ap (λ b. if b then n else held (parent p n)) e)) (IsHeldBy.itself e))
  held_step n lt some false e (inl h) = inl (subst (IsHeldBy p n) (sym (held_is n lt some ∙ ap (λ b. if b then n else held (parent p n)) e)) (IsHeldBy.round e h))
  held_step n lt some false e (inr h) = inr (ap (label p) (held_is n lt some ∙ ap (λ b. if b then n else held (parent p n)) e) ∙ h)

  held_told : (room n : ℕ) → n ≤ room → n < length p → IsHeldBy p n (held n) ⊎ (label p (held n) ≡ is.Program)
  held_told zero n small lt = inr (ap (λ n. label p (held n)) (none small) ∙ ap (label p) (root_held (omega arith)) ∙ local.program)
    where
      none : {n : ℕ} → n ≤ 0 → n ≡ 0
      none h = omega arith
  held_told (suc room) n small lt = ⊎_elim
      (λ root. inr (ap (λ n. label p (held n)) root ∙ ap (label p) (root_held (omega arith)) ∙ local.program))
      (λ apart. let some : 0 < n = omega arith in let up = local.tree.up n lt some in held_step n lt some (is_member (label p n)) refl (held_told room (parent p n) (omega arith) (omega arith)))
      (cases_eq n 0)

  both_so : (a b : Bool) → a ≡ true → b ≡ true → (a && b) ≡ true
  both_so true b e k = k
  both_so false b e k = absurd (false≢true e)

  one_so : (a b : Bool) → a ≡ true → (a || b) ≡ true
  one_so true b e = refl
  one_so false b e = absurd (false≢true e)

  other_so : (a b : Bool) → b ≡ true → (a || b) ≡ true
  other_so true b e = refl
  other_so false b e = e

  field_told : (v m : ℕ) → IsFinalField p v → (has_value p v || not (builds (label p m) p m (field_body p v))) ≡ true → is_fixed (label p v) p v m ≡ true
  field_told v m (IsFinalField.by_modifier e final) h = ap (λ l. is_fixed l p v m) e ∙ both_so _ _ (one_so _ _ final) h
  field_told v m (IsFinalField.by_interface e inside) h = ap (λ l. is_fixed l p v m) e ∙ both_so _ _ (other_so _ _ inside) h

  fixed_told : (n v : ℕ) → n < length p → IsFixed p n v → is_fixed (label p v) p v (held n) ≡ true
  fixed_told n v lt (IsFixed.local e value) = ap (λ l. is_fixed l p v (held n)) e ∙ lt-ltb (v + 1) (end p v) value
  fixed_told n v lt (IsFixed.parameter e) = ap (λ l. is_fixed l p v (held n)) e
  fixed_told n v lt (IsFixed.valued field value) = field_told v (held n) field (one_so _ _ (lt-ltb (v + 1) (end p v) value))
  fixed_told n v lt (IsFixed.elsewhere field none) = field_told v (held n) field (other_so (has_value p v) _ (ap not (⊎_elim
      (λ h. none (held n) h)
      (λ e. ap (λ l. builds l p (held n) (field_body p v)) e)
      (held_told n n (omega arith) lt))))

  field_is : (v : ℕ) → IsFinalField p v → variable_of p (Some v) ≡ Some v
  field_is v (IsFinalField.by_modifier e final) = ap (λ l. variable_by (role_of l) v) e
  field_is v (IsFinalField.by_interface e inside) = ap (λ l. variable_by (role_of l) v) e

  variable_told : (n v : ℕ) → IsFixed p n v → variable_of p (Some v) ≡ Some v
  variable_told n v (IsFixed.local e value) = ap (λ l. variable_by (role_of l) v) e
  variable_told n v (IsFixed.parameter e) = ap (λ l. variable_by (role_of l) v) e
  variable_told n v (IsFixed.valued field value) = field_is v field
  variable_told n v (IsFixed.elsewhere field none) = field_is v field

  changed_by_told : (o : Operand) (n : ℕ) → is_other o ≡ false → changed_by p t o n ≡ variable_of p (declared (t n))
  changed_by_told operand.Other n e = absurd (false≢true (sym e))
  changed_by_told operand.Target n e = refl
  changed_by_told operand.Changed n e = refl

  wrong_in : (rule n : ℕ) → rule ≡ 39 → BreaksAssignment p t rule n → has (final_rows p t) n ≡ true
  wrong_in _ n e (BreaksAssignment.unassigned a b c) = absurd (omega arith)
  wrong_in _ n e (BreaksAssignment.left_blank a b c) = absurd (omega arith)
  wrong_in _ n e (BreaksAssignment.changed {v = v} lt changed refers fixed) =
      let is : get_or (changes p t (length p)) n None ≡ Some v = tabulated_at (changed_in p t (operands p (length p))) None (length p) n lt
      ∙ changed_by_told (op n) n (changed_told n lt changed) ∙ ap (λ r. variable_of p (declared r)) refers ∙ variable_told n v fixed in
      (such (is_wrong_at p (changes p t (length p)) held) (length p) n).1 (lt, ap (λ o. is_changed_wrongly p held o n) is ∙ fixed_told n v lt fixed)

  pub wrong_told : (n : ℕ) → BreaksAssignment p t 39 n → has (final_rows p t) n ≡ true
  wrong_told n = wrong_in 39 n refl

  -- ---- what is found breaks the rule

  op_root : 0 < length p → op 0 ≡ operand.Other
  op_root some = op_at (length p) 0 some ∙ ap (λ l. operand_in l (parent p 0) (operand_of [] (parent p 0)) 0) (ap (label p) local.tree.root ∙ local.program)

  left_first : (n over : ℕ) (sign : Symbol) (b : Bool) → nat_eq n (over + 1) ≡ b → is_other (if b then left_side sign else operand.Other) ≡ false → n ≡ over + 1
  left_first n over sign true at e = (Decides-eqb n (over + 1)).0 at
  left_first n over sign false at e = absurd (false≢true (sym e))

  changed_in_label : (l : Label) (n : ℕ) → label p (parent p n) ≡ l → (is_other (op (parent p n)) ≡ false → IsChanged p (parent p n)) → is_other (operand_in l (parent p n) (op (parent p n)) n) ≡ false → IsChanged p n
  changed_in_label (is.Assign sign) n e inner h = IsChanged.assigned e (left_first n (parent p n) sign (nat_eq n (parent p n + 1)) refl h)
  changed_in_label (is.PreStep sign) n e inner h = IsChanged.stepped_before e
  changed_in_label (is.PostStep sign) n e inner h = IsChanged.stepped_behind e
  changed_in_label is.Paren n e inner h = IsChanged.enclosed e (inner h)
  changed_in_label _ n e inner h = absurd (false≢true (sym h))

  op_root_only : (n : ℕ) → n < length p → n ≡ 0 → is_other (op n) ≡ false → IsChanged p n
  op_root_only n lt root h = absurd (false≢true (sym h ∙ ap (λ n. is_other (op n)) root ∙ ap is_other (op_root (omega arith))))

  op_tells : (room n : ℕ) → n ≤ room → n < length p → is_other (op n) ≡ false → IsChanged p n
  op_tells zero n small lt h = op_root_only n lt (omega arith) h
  op_tells (suc room) n small lt h = ⊎_elim
      (λ root. op_root_only n lt root h)
      (λ apart. let some : 0 < n = omega arith in let up = local.tree.up n lt some in
      changed_in_label (label p (parent p n)) n refl (op_tells room (parent p n) (omega arith) (omega arith)) (sym (ap is_other (op_is n lt some)) ∙ h))
      (cases_eq n 0)

  -- at most one member holds a row
  over_in : (n : ℕ) → n < length p → parent p n < length p
  over_in n lt = ⊎_elim (λ root. let e = ap (parent p) root ∙ local.tree.root in omega arith) (λ apart. let up = local.tree.up n lt (omega arith) in omega arith) (cases_eq n 0)

  held_over : (n : ℕ) → n < length p → is_member (label p n) ≡ false → held (parent p n) ≡ held n
  held_over n lt e = ⊎_elim (λ root. ap held (ap (parent p) root ∙ local.tree.root ∙ sym root)) (λ apart. sym (held_is n lt (omega arith) ∙ ap (λ b. if b then n else held (parent p n)) e)) (cases_eq n 0)

  held_itself : (n : ℕ) → n < length p → is_member (label p n) ≡ true → n ≡ held n
  held_itself n lt e = ⊎_elim
      (λ root. absurd (false≢true (sym (ap (λ n. is_member (label p n)) root ∙ ap is_member local.program) ∙ e)))
      (λ apart. sym (held_is n lt (omega arith) ∙ ap (λ b. if b then n else held (parent p n)) e)) (cases_eq n 0)

  held_once : (n m : ℕ) → n < length p → IsHeldBy p n m → m ≡ held n
  held_once n _ lt (IsHeldBy.itself e) = held_itself n lt e
  held_once n m lt (IsHeldBy.round e over) = held_once (parent p n) m (over_in n lt) over ∙ held_over n lt e

  final_field : (v dims : ℕ) (modifiers : Modifiers) → label p v ≡ is.Field modifiers dims → (modifiers.is_final || is_interface (label p (parent p (field_body p v)))) ≡ true → IsFinalField p v
  final_field v dims modifiers e h = ⊎_elim (λ final. IsFinalField.by_modifier e final) (λ inside. IsFinalField.by_interface e inside) (or_cases modifiers.is_final (is_interface (label p (parent p (field_body p v)))) h)

  fixed_field : (n v : ℕ) → n < length p → IsFinalField p v → (has_value p v || not (builds (label p (held n)) p (held n) (field_body p v))) ≡ true → IsFixed p n v
  fixed_field n v lt field h = ⊎_elim (λ value. IsFixed.valued field (ltb-true (v + 1) (end p v) value))
      (λ none. IsFixed.elsewhere field (λ m by. ap (λ m. builds (label p m) p m (field_body p v)) (held_once n m lt by) ∙ not_true (builds (label p (held n)) p (held n) (field_body p v)) none))
      (or_cases (has_value p v) (not (builds (label p (held n)) p (held n) (field_body p v))) h)

  fixed_by : (l : Label) (n v : ℕ) → label p v ≡ l → n < length p → is_fixed l p v (held n) ≡ true → IsFixed p n v
  fixed_by (is.Local true dims) n v e lt h = IsFixed.local e (ltb-true (v + 1) (end p v) h)
  fixed_by (is.Local false dims) n v e lt h = absurd (false≢true h)
  fixed_by (is.Parameter true dims) n v e lt h = IsFixed.parameter e
  fixed_by (is.Parameter false dims) n v e lt h = absurd (false≢true h)
  fixed_by (is.Field modifiers dims) n v e lt h = let parts = both_true _ _ h in fixed_field n v lt (final_field v dims modifiers e parts.0) parts.1
  fixed_by _ n v e lt h = absurd (false≢true h)

  variable_is : (kind : Role) (d v : ℕ) → variable_by kind d ≡ Some v → d ≡ v
  variable_is role.Local d v e = same_Some d v e
  variable_is role.Parameter d v e = same_Some d v e
  variable_is role.Field d v e = same_Some d v e
  variable_is _ d v e = absurd (none-some v e)

  declared_is : (r : Referent) (v : ℕ) → variable_of p (declared r) ≡ Some v → (level : Option ℕ) × (r ≡ Declared v level)
  declared_is (Declared d level) v e = (level, ap (λ d. Declared d level) (variable_is (role_at p d) d v e))
  declared_is _ v e = absurd (none-some v e)

  changed_by_tells : (o : Operand) (n v : ℕ) → changed_by p t o n ≡ Some v → (is_other o ≡ false) × (variable_of p (declared (t n)) ≡ Some v)
  changed_by_tells operand.Other n v e = absurd (none-some v e)
  changed_by_tells operand.Target n v e = (refl, e)
  changed_by_tells operand.Changed n v e = (refl, e)

  wrong_by : (o : Option ℕ) (n : ℕ) → n < length p → get_or (changes p t (length p)) n None ≡ o → is_changed_wrongly p held o n ≡ true → BreaksAssignment p t 39 n
  wrong_by None n lt e h = absurd (false≢true h)
  wrong_by (Some v) n lt e h =
      let at = changed_by_tells (op n) n v (sym (tabulated_at (changed_in p t (operands p (length p))) None (length p) n lt) ∙ e) in
      let refers = declared_is (t n) v at.1 in
      BreaksAssignment.changed lt (op_tells n n (omega arith) lt at.0) refers.1 (fixed_by (label p v) n v refl lt h)

  pub wrong_breaks : (n : ℕ) → has (final_rows p t) n ≡ true → BreaksAssignment p t 39 n
  wrong_breaks n h = let is = (such (is_wrong_at p (changes p t (length p)) held) (length p) n).0 h in wrong_by (get_or (changes p t (length p)) n None) n is.0 refl is.1

pub each_final : EachFinalIsFound
each_final p t local = wrong_told p t local

pub each_found_final : EachFoundFinalBreaks
each_found_final p t local = wrong_breaks p t local

-- the faults that are added are those of the rule
pub finals_exact : (view : View) (old new : List Fault) → IsLocal (rows_in view) → AreFaultsOf rule.FinalAssignment (final_rows (rows_in view) (table_in view)) old new → AreExactFaults view rule.FinalAssignment old new
finals_exact view old new local are = record {
  rows = final_rows (rows_in view) (table_in view);
  are = are;
  each = λ n. (wrong_breaks (rows_in view) (table_in view) local n, wrong_told (rows_in view) (table_in view) local n);
}
