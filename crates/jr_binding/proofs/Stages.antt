-- What a stage looks its rows up in.
use Rattle.std.proofs.Common.{◌≡◌, refl, sym, ◌∙◌, ap, subst, inl, inr, ⊎_elim, ◌⊎◌, arith, cond, nat_eq, length, zero, suc, ℕ, ◌+◌, ◌≤◌, ◌<◌, Bool, true, false, None, Decides}
use Rattle.std.proofs.Math.Path.{fun_ext}
use Rattle.std.proofs.lemmas.Bool.{false≢true, cases_eq}
use Rattle.std.proofs.lemmas.Bool.Decides.{Decides-eqb}
use Rattle.jr_tree.specs.Rows.{Rows, name, sought_at}
use Rattle.jr_defs.specs.Referents.{Table}
use Rattle.jr_defs.specs.Imports.{ImportsHold}
use Rattle.jr_defs.specs.Formed.{SeeksType, NamesTypeFirst, IsFormed}
use Rattle.jr_plain.specs.Constants.{constants, has_constant_form}
use Rattle.jr_plain.specs.Typing.{expression_types}
use Rattle.jr_plain.specs.Lookup.{look}
use Rattle.jr_plain.specs.Imports.{imports_hold}
use Rattle.jr_plain.proofs.Imported.{imports_hold_tells}
use Rattle.jr_with.specs.World.{World, world_of, left_of}
use Rattle.jr_with.specs.With.{look_with}
use Rattle.jr_with.specs.Same.{SameNames, SameImports, SameTypeNames, SameTypes, SameMemberTypes}
use Rattle.jr_with.proofs.Worlds.{member_types_same, types_same, worlds_same}
use Rattle.jr_with.proofs.ForTypes.{left_read, look_in_import, look_for_type}
use Rattle.jr_with.proofs.Tables.{read, look_of_import}
use Rattle.jr_binding.specs.Bound.{stage_of, looked_up, with_entry, filled, through, bound}
use Rattle.jr_binding.proofs.Making.{entry_there, entry_apart}
use Rattle.jr_binding.specs.Stages.{IsDuring}
use Rattle.jr_binding.proofs.Deciding.{InImport, names_header_stage, import_stage, stage_import, type_stage, stage_type}

module _ (p : Rows) (formed : IsFormed p) (k : ℕ) (t v : Table) (during : IsDuring p k t v) where
  abbrev names_there : 0 < k → SameNames p v t
  names_there lt c n h = during n (λ e. let z = names_header_stage p c n formed.tree h in absurd (omega arith))

  abbrev imports_there : 1 < k → SameImports p v t
  imports_there lt i form e = during (i + 1) (λ s. let z = import_stage p (i + 1)
      (record { import = i; form = form; is_import = e; after = omega arith; before = formed.import_name i form e })
      (formed.first_name i (subst NamesTypeFirst (sym e) NamesTypeFirst.import)) in absurd (omega arith))

  abbrev types_there : 2 < k → SameTypeNames p v t
  types_there lt n dims e first = during (n + 1) (λ s. let z = type_stage p (n + 1) (formed.first_name n (subst NamesTypeFirst (sym e) NamesTypeFirst.type_use)) in absurd (omega arith))

looked : (p : Rows) (v : Table) (o : ℕ) → looked_up p v o ≡ look p v (expression_types p v (constants p v (has_constant_form p v))) o
unfolding looked_up
looked p v o = refl

look_in : (p : Rows) (v : Table) (o : ℕ) → SeeksType (sought_at p o) → looked_up p v o ≡ look_with p (world_of p v) (left_of p v (λ n. None) o) o (name p o) (sought_at p o)
look_in p v o h = let types = expression_types p v (constants p v (has_constant_form p v)) in looked p v o ∙ read p v types o
    ∙ left_read p (world_of p v) (left_of p v types o) (left_of p v (λ n. None) o) o (name p o) (sought_at p o) h refl refl

-- imports do not hold in themselves
outside : (p : Rows) (o : ℕ) → IsFormed p → InImport p o → (u : ℕ) → imports_hold p u o ≡ false
outside p o formed i u = by (imports_hold p u o) (imports_hold_tells p u o)
  where
    by : (b : Bool) → Decides b (ImportsHold p u o) → b ≡ false
    by true d = let w = d.0 refl in absurd (formed.imports_apart i.import o w.top i.form i.is_import i.after i.before w.inside)
    by false d = refl

pub imports_read : (p : Rows) (t v : Table) (w : World) (o : ℕ) → IsFormed p → IsDuring p 1 t v → stage_of p o ≡ 1 → SameMemberTypes p w (world_of p t)
    → looked_up p v o ≡ look_with p w (left_of p v (λ n. None) o) o (name p o) (sought_at p o)
imports_read p t v w o formed during e same = let i = (stage_import p o e).0 in let h = (stage_import p o e).1 in look_in p v o h
    ∙ look_in_import p (world_of p v) w o (λ c d q. member_types_same p v t (names_there p formed 1 t v during (omega arith)) c d q ∙ sym (same c d q)) (outside p o formed i) (left_of p v (λ n. None) o)
    (name p o) (sought_at p o) h

pub types_read : (p : Rows) (t v : Table) (w : World) (o : ℕ) → IsFormed p → IsDuring p 2 t v → stage_of p o ≡ 2 → SameTypes p w (world_of p t)
    → looked_up p v o ≡ look_with p w (left_of p v (λ n. None) o) o (name p o) (sought_at p o)
types_read p t v w o formed during e same = let h = stage_type p o e in let there = types_same p v t (names_there p formed 2 t v during (omega arith)) (imports_there p formed 2 t v during (omega arith)) in
    look_in p v o h ∙ look_for_type p (world_of p v) w o
    (record {
      member = λ c d q. there.member c d q ∙ sym (same.member c d q);
      single = λ u d q. there.single u d q ∙ sym (same.single u d q);
      static = λ u d q. there.static u d q ∙ sym (same.static u d q);
      demand = λ u d q. there.demand u d q ∙ sym (same.demand u d q);
    })
    (left_of p v (λ n. None) o) (name p o) (sought_at p o) h

pub world_stays : (p : Rows) (k : ℕ) (t v : Table) → IsFormed p → 2 < k → IsDuring p k t v → world_of p v ≡ world_of p t
world_stays p k t v formed lt during = worlds_same p v t (names_there p formed k t v during (omega arith)) (imports_there p formed k t v during (omega arith)) (types_there p formed k t v during lt)

pub others_read : (p : Rows) (k : ℕ) (t v : Table) (o : ℕ) → IsFormed p → 2 < k → IsDuring p k t v
    → looked_up p v o ≡ look_with p (world_of p t) (left_of p v (expression_types p v (constants p v (has_constant_form p v))) o) o (name p o) (sought_at p o)
others_read p k t v o formed lt during = let types = expression_types p v (constants p v (has_constant_form p v)) in looked p v o ∙ read p v types o
    ∙ ap (λ w. look_with p w (left_of p v types o) o (name p o) (sought_at p o)) (world_stays p k t v formed lt during)

-- ---- what is given at imports is not read

-- two tables that are filled by the first stage from their last rows to the row n
abbrev AgreeFrom : Rows → ℕ → Table → Table → Type 0
AgreeFrom p n t u = (m : ℕ) → (stage_of p m ≡ 1 → ⊥) ⊎ (n ≤ m) → t m ≡ u m

module _ (p : Rows) (formed : IsFormed p) where
  import_same : (n : ℕ) (t u : Table) → stage_of p n ≡ 1 → AgreeFrom p (suc n) t u → looked_up p t n ≡ looked_up p u n
  import_same n t u e same = let i = (stage_import p n e).0 in looked p t n
      ∙ look_of_import p t u n (λ first. same (n + 1) (inr (omega arith))) (expression_types p t (constants p t (has_constant_form p t))) (expression_types p u (constants p u (has_constant_form p u)))
      (λ c m h. same m (inl (λ s. let z = names_header_stage p c m formed.tree h in absurd (omega arith)))) (outside p n formed i) (stage_import p n e).1 ∙ sym (looked p u n)

  step_same : (n : ℕ) (t u : Table) → AgreeFrom p (suc n) t u
      → AgreeFrom p n (cond (nat_eq (stage_of p n) 1) (with_entry p t n) t) (cond (nat_eq (stage_of p n) 1) (with_entry p u n) u)
  step_same n t u same m h = by (nat_eq (stage_of p n) 1) (Decides-eqb (stage_of p n) 1)
    where
      later : n ≤ m → (m ≡ n → ⊥) → suc n ≤ m
      later le apart = grind arith

      apart_same : (m ≡ n → ⊥) → t m ≡ u m
      apart_same apart = same m (⊎_elim (λ off. inl off) (λ le. inr (later le apart)) h)

      entered : stage_of p n ≡ 1 → (m ≡ n) ⊎ (m ≡ n → ⊥) → with_entry p t n m ≡ with_entry p u n m
      entered e (inl i) = subst (λ m. with_entry p t n m ≡ with_entry p u n m) (sym i) (entry_there p t n ∙ import_same n t u e same ∙ sym (entry_there p u n))
      entered e (inr apart) = entry_apart p t n m apart ∙ apart_same apart ∙ sym (entry_apart p u n m apart)

      still : (stage_of p n ≡ 1 → ⊥) → (m ≡ n) ⊎ (m ≡ n → ⊥) → t m ≡ u m
      still off (inl i) = same m (inl (λ s. off (ap (stage_of p) (sym i) ∙ s)))
      still off (inr apart) = apart_same apart

      by : (b : Bool) → Decides b (stage_of p n ≡ 1) → cond b (with_entry p t n) t m ≡ cond b (with_entry p u n) u m
      by true d = entered (d.0 refl) (cases_eq m n)
      by false d = still (λ e. false≢true (d.1 e)) (cases_eq m n)

  filled_same : (n : ℕ) (t u : Table) → AgreeFrom p n t u → (m : ℕ) → filled p 1 n t m ≡ filled p 1 n u m
  unfolding filled
  filled_same zero t u same m = same m (inr (omega arith))
  filled_same (suc n) t u same m = filled_same n (cond (nat_eq (stage_of p n) 1) (with_entry p t n) t) (cond (nat_eq (stage_of p n) 1) (with_entry p u n) u) (step_same n t u same) m

  pub given_same : (t u : Table) → ((m : ℕ) → (stage_of p m ≡ 1 → ⊥) → t m ≡ u m) → ((m : ℕ) → length p ≤ m → t m ≡ u m) → bound p t ≡ bound p u
  unfolding bound through
  given_same t u other past = ap (λ v. filled p 4 (length p) (filled p 3 (length p) (filled p 2 (length p) v))) (fun_ext (filled_same (length p) t u (λ m h. ⊎_elim (λ off. other m off) (λ le. past m le) h)))
