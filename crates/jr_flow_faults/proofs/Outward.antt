-- From guard to guard an exception comes to the same members and bodies as from row to row.
use Rattle.std.proofs.Common.{◌≡◌, ◌⊎◌, refl, sym, ◌∙◌, ap, subst, inl, inr, ⊎_elim, arith, ℕ, ◌+◌, ◌<◌, Bool, true, length}
use Rattle.std.proofs.lemmas.Bool.{cases_lt, cases_eq}
use Rattle.jr_tree.specs.declared.label.Label.{Label}
use Rattle.jr_tree.specs.declared.label.Label.TheVariants as is
use Rattle.jr_tree.specs.Rows.{Rows, label, parent}
use Rattle.jr_tree.specs.Local.{IsLocal}
use Rattle.jr_defs.specs.Referents.{Table}
use Rattle.jr_plain.proofs.Bounds.{bounded, parent_past}
use Rattle.jr_flow_faults.specs.Exceptions.{IsTry, IsCode, IsTryBlock, FinallyCompletes, Catches, GoesOn, ComesTo}
use Rattle.jr_flow_faults.specs.Outwards.{Meets, Arrives}

-- ---- labels

code_or_not : (l : Label) → IsCode l ⊎ (IsCode l → ⊥)
code_or_not (is.Method m v b) = inl tt
code_or_not (is.Constructor m) = inl tt
code_or_not is.DefaultConstructor = inl tt
code_or_not (is.Initializer s) = inl tt
code_or_not (is.Field m d) = inl tt
code_or_not _ = inr (λ h. h)

pub code_no_try : (l : Label) → IsCode l → IsTry l → ⊥
code_no_try (is.Try b) h k = h
code_no_try _ h k = k

pub code_no_block : (l : Label) → IsCode l → l ≡ is.Block → ⊥
code_no_block l h e = subst IsCode e h

pub code_no_catch : (l : Label) → IsCode l → l ≡ is.Catch → ⊥
code_no_catch l h e = subst IsCode e h

pub guarded_try : (l : Label) → l ≡ is.Try true → IsTry l
guarded_try l e = subst IsTry (sym e) tt

module _ (p : Rows) (local : IsLocal p) where
  -- a row with something round it is no program, and is there
  inner_row : (P : Label → Type 0) → (P is.Skip → ⊥) → (P is.Program → ⊥) → (n : ℕ) → P (label p (parent p n)) → (0 < n) × (n < length p)
  inner_row P skip program n h = ⊎_elim
      (λ lt. ⊎_elim (λ z. absurd (program (subst P (ap (λ k. label p (parent p k)) z ∙ ap (label p) local.tree.root ∙ local.program) h))) (λ apart. (omega arith, lt)) (cases_eq n 0))
      (λ le. let past = parent_past p n le in let low = bounded P skip p (parent p n) h in absurd (omega arith))
      (cases_lt n (length p))

  pub under_try : (n : ℕ) → IsTry (label p (parent p n)) → (0 < n) × (n < length p)
  under_try n h = inner_row IsTry (λ h. h) (λ h. h) n h

  module _ (completes : ℕ → Bool) where
    pub meets_row : {n g : ℕ} → Meets p completes n g → (0 < n) × (n < length p)
    meets_row (Meets.code {n = n} h) = inner_row IsCode (λ h. h) (λ h. h) n h
    meets_row (Meets.body {n = n} h) = under_try n h.statement
    meets_row (Meets.catch {n = n} h l f m) = under_try n h
    meets_row (Meets.last {n = n} h m) = under_try n (guarded_try (label p (parent p n)) h.block.guarded)
    meets_row (Meets.part {n = n} a b m) = let up = meets_row m in ⊎_elim
        (λ lt. ⊎_elim (λ z. let root = local.tree.root in let e = ap (parent p) z in let q = up.0 in absurd (omega arith)) (λ apart. (omega arith, lt)) (cases_eq n 0))
        (λ le. let past = parent_past p n le in let q = up.1 in absurd (omega arith)) (cases_lt n (length p))

    pub meets_before : {n g : ℕ} → Meets p completes n g → g < n
    meets_before (Meets.code {n = n} h) = let r = inner_row IsCode (λ h. h) (λ h. h) n h in local.tree.up n r.1 r.0
    meets_before (Meets.body {n = n} h) = let r = under_try n h.statement in local.tree.up n r.1 r.0
    meets_before (Meets.catch {n = n} h l f m) = let r = under_try n h in let up = local.tree.up n r.1 r.0 in let lt = meets_before m in omega arith
    meets_before (Meets.last {n = n} h m) = let r = under_try n (guarded_try (label p (parent p n)) h.block.guarded) in let up = local.tree.up n r.1 r.0 in let lt = meets_before m in omega arith
    meets_before (Meets.part {n = n} a b m) = let r = meets_row (Meets.part {n = n} a b m) in let up = local.tree.up n r.1 r.0 in let lt = meets_before m in omega arith

    -- a guard is a member or a `try`
    pub meets_guard : {n g : ℕ} → Meets p completes n g → IsCode (label p g) ⊎ IsTryBlock p g (g + 1)
    meets_guard (Meets.code h) = inl h
    meets_guard (Meets.body {n = n} h) = inr (subst (λ k. IsTryBlock p (parent p n) k) h.first h)
    meets_guard (Meets.catch h l f m) = meets_guard m
    meets_guard (Meets.last h m) = meets_guard m
    meets_guard (Meets.part a b m) = meets_guard m

    module _ (t : Table) (c : ℕ) where
      abbrev To : ℕ → ℕ → Type 0
      To n k = ComesTo p t completes c n k

      onwards : {n k h : ℕ} → To n k → To k h → To n h
      onwards ComesTo.here b = b
      onwards (ComesTo.further g a) b = ComesTo.further g (onwards a b)

      -- ---- a guard that is met is reached

      abbrev Reaches : ℕ → ℕ → Type 0
      Reaches n g = (IsCode (label p g) × To n g) ⊎ (IsTryBlock p g (g + 1) × To n (g + 1))

      further : {n g : ℕ} → GoesOn p t completes c n → Reaches (parent p n) g → Reaches n g
      further go (inl h) = inl (h.0, ComesTo.further go h.1)
      further go (inr h) = inr (h.0, ComesTo.further go h.1)

      try_no_code : (n : ℕ) → IsTry (label p n) → IsCode (label p n) → ⊥
      try_no_code n h k = code_no_try (label p n) k h

      meets_out : {n g : ℕ} → (IsCode (label p n) → ⊥) → Meets p completes n g → Reaches n g
      meets_out none (Meets.code {n = n} h) = inl (h, ComesTo.further (GoesOn.of_part none (code_no_try (label p (parent p n)) h)) ComesTo.here)
      meets_out none (Meets.body {n = n} h) = inr (subst (λ k. IsTryBlock p (parent p n) k) h.first h, subst (λ k. To n k) h.first ComesTo.here)
      meets_out none (Meets.catch {n = n} h l f m) = further (GoesOn.of_catch h l f) (meets_out (try_no_code (parent p n) h) m)
      meets_out none (Meets.last {n = n} h m) = further (GoesOn.of_finally h) (meets_out (try_no_code (parent p n) (guarded_try (label p (parent p n)) h.block.guarded)) m)
      meets_out none (Meets.part {n = n} a b m) = further (GoesOn.of_part none b) (meets_out a m)

      -- out of the body of a `try` that does not catch it
      out_of_body : {g k : ℕ} → IsTryBlock p g (g + 1) → (Catches p t g c → ⊥) → FinallyCompletes p completes g → To g k → To (g + 1) k
      out_of_body {g} {k} body catches finally to = ComesTo.further
          (GoesOn.of_body (subst (λ m. IsTryBlock p m (g + 1)) (sym body.inside) body) (subst (λ m. Catches p t m c → ⊥) (sym body.inside) catches) (subst (λ m. FinallyCompletes p completes m) (sym body.inside) finally))
          (subst (λ m. To m k) (sym body.inside) to)

      on_from : {n g h : ℕ} → Reaches n g → IsTry (label p g) → (Catches p t g c → ⊥) → FinallyCompletes p completes g → Reaches g h → Reaches n h
      on_from {n} {g} (inl a) try catches finally b = absurd (try_no_code g try a.0)
      on_from (inr a) try catches finally (inl b) = inl (b.0, onwards a.1 (out_of_body a.0 catches finally b.1))
      on_from (inr a) try catches finally (inr b) = inr (b.0, onwards a.1 (out_of_body a.0 catches finally b.1))

      pub arrives_out : {n g : ℕ} → (IsCode (label p n) → ⊥) → Arrives p t completes c n g → Reaches n g
      arrives_out none (Arrives.first m) = meets_out none m
      arrives_out none (Arrives.after {g = g} m try catches finally rest) = on_from (meets_out none m) try catches finally (arrives_out (try_no_code g try) rest)

      -- ---- what is reached is met

      -- k is the member h, or the body of the `try` h
      abbrev IsAt : ℕ → ℕ → Type 0
      IsAt k h = (IsCode (label p k) × (k ≡ h)) ⊎ IsTryBlock p h k

      lifted : {n h : ℕ} → ((g : ℕ) → Meets p completes (parent p n) g → Meets p completes n g) → Arrives p t completes c (parent p n) h → Arrives p t completes c n h
      lifted up (Arrives.first {g = g} m) = Arrives.first (up g m)
      lifted up (Arrives.after {g = g} m try catches finally rest) = Arrives.after (up g m) try catches finally rest

      -- out of a member nothing comes
      kept_by_code : {n k : ℕ} → IsCode (label p n) → To n k → n ≡ k
      kept_by_code is ComesTo.here = refl
      kept_by_code {n} is (ComesTo.further (GoesOn.of_part none b) rest) = absurd (none is)
      kept_by_code {n} is (ComesTo.further (GoesOn.of_body body catches finally) rest) = absurd (code_no_block (label p n) is body.block)
      kept_by_code {n} is (ComesTo.further (GoesOn.of_catch try l finally) rest) = absurd (code_no_catch (label p n) is l)
      kept_by_code {n} is (ComesTo.further (GoesOn.of_finally h) rest) = absurd (code_no_block (label p n) is h.block.block)

      at_code : {k h : ℕ} → IsCode (label p k) → IsAt k h → k ≡ h
      at_code is (inl a) = a.1
      at_code {k} is (inr b) = absurd (code_no_block (label p k) is b.block)

      pub arrives_into : {n k h : ℕ} → (IsCode (label p n) → ⊥) → To n k → IsAt k h → Arrives p t completes c n h
      arrives_into none ComesTo.here (inl a) = absurd (none a.0)
      arrives_into {n} {k} {h} none ComesTo.here (inr b) = subst (λ m. Arrives p t completes c n m) b.inside (Arrives.first (Meets.body (subst (λ m. IsTryBlock p m n) (sym b.inside) b)))
      arrives_into {n} {k} {h} none (ComesTo.further (GoesOn.of_part a b) rest) at = ⊎_elim
          (λ is. let same = kept_by_code is rest in subst (λ m. Arrives p t completes c n m) (same ∙ at_code (subst (λ m. IsCode (label p m)) same is) at) (Arrives.first (Meets.code is)))
          (λ other. lifted (λ g m. Meets.part other b m) (arrives_into other rest at))
          (code_or_not (label p (parent p n)))
      arrives_into {n} none (ComesTo.further (GoesOn.of_body body catches finally) rest) at = Arrives.after (Meets.body body) body.statement catches finally (arrives_into (try_no_code (parent p n) body.statement) rest at)
      arrives_into {n} none (ComesTo.further (GoesOn.of_catch try l finally) rest) at = lifted (λ g m. Meets.catch try l finally m) (arrives_into (try_no_code (parent p n) try) rest at)
      arrives_into {n} none (ComesTo.further (GoesOn.of_finally h) rest) at =
          lifted (λ g m. Meets.last h m) (arrives_into (try_no_code (parent p n) (guarded_try (label p (parent p n)) h.block.guarded)) rest at)
