-- The table of guards has for each row what meets first what is thrown there.
use Rattle.std.proofs.Common.{◌≡◌, ◌⊎◌, refl, sym, ◌∙◌, ap, subst, inl, inr, ⊎_elim, arith, ℕ, zero, suc, ◌+◌, ◌<◌, ◌≤◌, Bool, true, false, cond, not, ◌&&◌, List, [], ◌∷◌, length, length-append, Option, Some, None, nat_eq, Decides}
use Rattle.std.proofs.lemmas.Bool.{false≢true, cases_lt, cases_eq}
use Rattle.std.proofs.lemmas.Bool.Decides.{Decides-eqb}
use Rattle.std.proofs.lemmas.List.{get_or_past}
use Rattle.std.proofs.lemmas.Option.{none-some, same_Some}
use Rattle.std.proofs.Math.Seq.{get_or-append_seam}
use Rattle.std.proofs.Math.ListN.{get_or-append}
use Rattle.jr_tree.specs.declared.label.Label.{Label}
use Rattle.jr_tree.specs.declared.label.Label.TheVariants as is
use Rattle.jr_tree.specs.Rows.{Rows, label, parent}
use Rattle.jr_tree.specs.Local.{IsLocal}
use Rattle.jr_plain.specs.Search.{Finds}
use Rattle.jr_plain.proofs.Tests.{both, like}
use Rattle.jr_rules.specs.StatementTests.{is_catch}
use Rattle.jr_reach.specs.Statements.{Facts, Entries, fact}
use Rattle.jr_flow_faults.specs.declared.guards.Guard.{Guard}
use Rattle.jr_flow_faults.specs.declared.guards.Guard.TheVariants as guard
use Rattle.jr_flow_faults.specs.Computed.{is_block, is_it}
use Rattle.jr_flow_faults.specs.Known.{IsLastBlock}
use Rattle.jr_flow_faults.specs.Exceptions.{IsTry, IsCode, IsTryBlock, FinallyCompletes}
use Rattle.jr_flow_faults.specs.Outwards.{Meets, guard_of, is_try, completing, loses_by, loses, guard_in, guard_in_try, guard_under, guard_by, guards}
use Rattle.jr_flow_faults.proofs.Known.{block_tells}
use Rattle.jr_flow_faults.proofs.Covered.{catch_tells}
use Rattle.jr_flow_faults.proofs.Outward.{code_no_try, guarded_try, meets_row}

-- ---- kinds of guards

-- a label is that of a `try`, of a member, or of neither
pub data HasGuard (l : Label) : Guard → Type 0 where
  as_try : IsTry l → HasGuard l guard.Try
  as_code : {g : Guard} → IsCode l → ((p : _) (f : _) (e : _) (known : _) (n : _) → guard_under g p f e known n ≡ Some (parent p n)) → HasGuard l g
  as_nothing : (IsTry l → ⊥) → (IsCode l → ⊥) → HasGuard l guard.Nothing

guard_has : (l : Label) → HasGuard l (guard_of l)
guard_has (is.Try b) = HasGuard.as_try tt
guard_has (is.Method m v b) = HasGuard.as_code tt (λ p f e known n. refl)
guard_has (is.Constructor m) = HasGuard.as_code tt (λ p f e known n. refl)
guard_has is.DefaultConstructor = HasGuard.as_code tt (λ p f e known n. refl)
guard_has (is.Initializer s) = HasGuard.as_code tt (λ p f e known n. refl)
guard_has (is.Field m d) = HasGuard.as_code tt (λ p f e known n. refl)
guard_has _ = HasGuard.as_nothing (λ h. h) (λ h. h)

pub try_tells : (l : Label) → Decides (is_try l) (IsTry l)
try_tells (is.Try b) = (λ h. tt, λ h. refl)
try_tells (is.Method m v b) = (λ h. absurd (false≢true h), λ h. absurd h)
try_tells (is.Constructor m) = (λ h. absurd (false≢true h), λ h. absurd h)
try_tells is.DefaultConstructor = (λ h. absurd (false≢true h), λ h. absurd h)
try_tells (is.Initializer s) = (λ h. absurd (false≢true h), λ h. absurd h)
try_tells (is.Field m d) = (λ h. absurd (false≢true h), λ h. absurd h)
try_tells _ = (λ h. absurd (false≢true h), λ h. absurd h)

pub it_tells : {P : ℕ → Type 0} (o : Option ℕ) → Finds o P → (k : ℕ) → Decides (is_it o k) (P k)
it_tells None finds k = (λ h. absurd (false≢true h), λ h. absurd (none-some k ((finds k).1 h)))
it_tells (Some m) finds k = like (Decides-eqb m k) (λ h. (finds k).0 (ap Some h)) (λ h. same_Some m k ((finds k).1 h))

module _ (p : Rows) (f : Facts) (e : Entries) (lasts : (n : ℕ) → Finds (fact f n).last (λ k. IsLastBlock p n k)) where
  abbrev completes : ℕ → Bool
  completes = completing e

  -- ---- a `finally` that cannot complete

  loses_tells : (n : ℕ) (last : Option ℕ) → Finds last (λ k. IsLastBlock p n k) → Decides (not (loses_by completes last)) (FinallyCompletes p completes n)
  loses_tells n None finds = (λ h k b. absurd (none-some k ((finds k).1 b)), λ h. refl)
  loses_tells n (Some k) finds = by (completes k) refl
    where
      by : (b : Bool) → completes k ≡ b → Decides (not (not b)) (FinallyCompletes p completes n)
      by true is = (λ h j b. subst (λ j. completes j ≡ true) (same_Some k j ((finds j).1 b)) is, λ h. refl)
      by false is = (λ h. absurd (false≢true h), λ h. absurd (false≢true (sym is ∙ h k ((finds k).0 refl))))

  pub finally_tells : (n : ℕ) → Decides (not (loses f e n)) (FinallyCompletes p completes n)
  finally_tells n = loses_tells n (fact f n).last (lasts n)

  -- ---- one row by those before it

  module _ (n : ℕ) (known : List (Option ℕ)) (over : Finds (guard_in known (parent p n)) (Meets p completes (parent p n))) where
    abbrev Met : ℕ → Type 0
    Met g = Meets p completes n g

    catch_no_block : label p n ≡ is.Catch → label p n ≡ is.Block → ⊥
    catch_no_block a b = let same : is.Catch ≡ is.Block = sym a ∙ b in cc

    module _ (try : IsTry (label p (parent p n))) where
      of_catch_out : {g : ℕ} → label p n ≡ is.Catch → Met g → FinallyCompletes p completes (parent p n) × Meets p completes (parent p n) g
      of_catch_out is (Meets.code h) = absurd (code_no_try (label p (parent p n)) h try)
      of_catch_out is (Meets.body h) = absurd (catch_no_block is h.block)
      of_catch_out is (Meets.catch h l finally m) = (finally, m)
      of_catch_out is (Meets.last h m) = absurd (catch_no_block is h.block.block)
      of_catch_out is (Meets.part a b m) = absurd (b try)

      of_body_out : {g : ℕ} → IsTryBlock p (parent p n) n → Met g → parent p n ≡ g
      of_body_out is (Meets.code h) = absurd (code_no_try (label p (parent p n)) h try)
      of_body_out is (Meets.body h) = refl
      of_body_out is (Meets.catch h l finally m) = absurd (catch_no_block l is.block)
      of_body_out is (Meets.last h m) = let far = h.block.behind in let near = is.first in absurd (omega arith)
      of_body_out is (Meets.part a b m) = absurd (b try)

      of_last_out : {g : ℕ} → IsLastBlock p (parent p n) n → Met g → Meets p completes (parent p n) g
      of_last_out is (Meets.code h) = absurd (code_no_try (label p (parent p n)) h try)
      of_last_out is (Meets.body h) = let far = is.block.behind in let near = h.first in absurd (omega arith)
      of_last_out is (Meets.catch h l finally m) = absurd (catch_no_block l is.block.block)
      of_last_out is (Meets.last h m) = m
      of_last_out is (Meets.part a b m) = absurd (b try)

      of_none : {g : ℕ} → (label p n ≡ is.Catch → ⊥) → (IsTryBlock p (parent p n) n → ⊥) → (IsLastBlock p (parent p n) n → ⊥) → Met g → ⊥
      of_none a b c (Meets.code h) = code_no_try (label p (parent p n)) h try
      of_none a b c (Meets.body h) = b h
      of_none a b c (Meets.catch h l finally m) = a l
      of_none a b c (Meets.last h m) = c h
      of_none a b c (Meets.part x y m) = y try

      body_tells : Decides (is_block (label p n) && nat_eq n (parent p n + 1)) (IsTryBlock p (parent p n) n)
      body_tells = like (both (block_tells (label p n)) (Decides-eqb n (parent p n + 1))) (λ h. record { statement = try; block = h.0; inside = refl; first = h.1 }) (λ h. (h.block, h.first))

      by_catch : (lost : Bool) → label p n ≡ is.Catch → Decides (not lost) (FinallyCompletes p completes (parent p n)) → Finds (cond lost None (guard_in known (parent p n))) Met
      by_catch true is tells g = (λ h. absurd (none-some g h), λ h. absurd (false≢true (tells.1 (of_catch_out is h).0)))
      by_catch false is tells g = (λ h. Meets.catch try is (tells.0 refl) ((over g).0 h), λ h. (over g).1 (of_catch_out is h).1)

      by_tests : (a b c : Bool) → Decides a (label p n ≡ is.Catch) → Decides b (IsTryBlock p (parent p n) n) → Decides c (IsLastBlock p (parent p n) n)
          → Finds (cond a (cond (loses f e (parent p n)) None (guard_in known (parent p n))) (cond b (Some (parent p n)) (cond c (guard_in known (parent p n)) None))) Met
      by_tests true b c x y z g = by_catch (loses f e (parent p n)) (x.0 refl) (finally_tells (parent p n)) g
      by_tests false true c x y z g = (λ h. subst Met (same_Some (parent p n) g h) (Meets.body (y.0 refl)), λ h. ap Some (of_body_out (y.0 refl) h))
      by_tests false false true x y z g = (λ h. Meets.last (z.0 refl) ((over g).0 h), λ h. (over g).1 (of_last_out (z.0 refl) h))
      by_tests false false false x y z g = (λ h. absurd (none-some g h), λ h. absurd (of_none (λ k. false≢true (x.1 k)) (λ k. false≢true (y.1 k)) (λ k. false≢true (z.1 k)) h))

      try_finds : Finds (guard_in_try p f e known n) Met
      try_finds = by_tests (is_catch (label p n)) _ _ (catch_tells (label p n)) body_tells (it_tells (fact f (parent p n)).last (lasts (parent p n)) n)

    of_code_out : {g : ℕ} → IsCode (label p (parent p n)) → Met g → parent p n ≡ g
    of_code_out is (Meets.code h) = refl
    of_code_out is (Meets.body h) = absurd (code_no_try (label p (parent p n)) is h.statement)
    of_code_out is (Meets.catch h l finally m) = absurd (code_no_try (label p (parent p n)) is h)
    of_code_out is (Meets.last h m) = absurd (code_no_try (label p (parent p n)) is (guarded_try (label p (parent p n)) h.block.guarded))
    of_code_out is (Meets.part a b m) = absurd (a is)

    of_part_out : {g : ℕ} → (IsTry (label p (parent p n)) → ⊥) → (IsCode (label p (parent p n)) → ⊥) → Met g → Meets p completes (parent p n) g
    of_part_out x y (Meets.code h) = absurd (y h)
    of_part_out x y (Meets.body h) = absurd (x h.statement)
    of_part_out x y (Meets.catch h l finally m) = absurd (x h)
    of_part_out x y (Meets.last h m) = absurd (x (guarded_try (label p (parent p n)) h.block.guarded))
    of_part_out x y (Meets.part a b m) = m

    by_guard : (g : Guard) → HasGuard (label p (parent p n)) g → Finds (guard_under g p f e known n) Met
    by_guard _ (HasGuard.as_try h) = try_finds h
    by_guard g (HasGuard.as_code h is) = subst (λ o. Finds o Met) (sym (is p f e known n)) (λ x. (λ k. subst Met (same_Some (parent p n) x k) (Meets.code h), λ k. ap Some (of_code_out h k)))
    by_guard _ (HasGuard.as_nothing a b) = λ x. (λ k. Meets.part b a ((over x).0 k), λ k. (over x).1 (of_part_out a b k))

    guard_finds : Finds (guard_by p f e known n) Met
    guard_finds = by_guard (guard_of (label p (parent p n))) (guard_has (label p (parent p n)))

  -- ---- the table

  guards_length : (n : ℕ) → length (guards p f e n) ≡ n
  guards_length zero = refl
  guards_length (suc n) = let more = length-append (guards p f e n) (guard_by p f e (guards p f e n) n ∷ []) in let rest = guards_length n in omega arith

  last_guard : (n : ℕ) → guard_in (guards p f e (suc n)) n ≡ guard_by p f e (guards p f e n) n
  last_guard n = subst (λ m. guard_in (guards p f e (suc n)) m ≡ guard_by p f e (guards p f e n) n) (guards_length n) (get_or-append_seam (guards p f e n) (guard_by p f e (guards p f e n) n) [] None)

  kept_guard : (n k : ℕ) → k < n → guard_in (guards p f e (suc n)) k ≡ guard_in (guards p f e n) k
  kept_guard n k lt = let size = guards_length n in get_or-append (guards p f e n) (guard_by p f e (guards p f e n) n ∷ []) None k (omega arith)

  module _ (local : IsLocal p) where
    none_at_root : {n g : ℕ} → n ≡ 0 → Meets p completes n g → ⊥
    none_at_root z m = let r = meets_row p local completes m in let q = r.0 in omega arith

    root_finds : guard_in (guards p f e 1) 0 ≡ None
    root_finds = last_guard 0 ∙ ap (λ m. guard_under (guard_of (label p m)) p f e [] 0) local.tree.root ∙ ap (λ l. guard_under (guard_of l) p f e [] 0) local.program

    -- each of the first rows
    abbrev IsGuarded : ℕ → ℕ → Type 0
    IsGuarded n k = Finds (guard_in (guards p f e n) k) (Meets p completes k)

    new_guard : (n : ℕ) → n < length p → ((k : ℕ) → k < n → IsGuarded n k) → (n ≡ 0) ⊎ (n ≡ 0 → ⊥) → IsGuarded (suc n) n
    new_guard n lt before (inl z) = λ x. (λ h. absurd (none-some x (sym (subst (λ m. guard_in (guards p f e (suc m)) m ≡ None) (sym z) root_finds) ∙ h)), λ m. absurd (none_at_root z m))
    new_guard n lt before (inr apart) = subst (λ o. Finds o (Meets p completes n)) (sym (last_guard n))
        (guard_finds n (guards p f e n) (before (parent p n) (local.tree.up n lt (omega arith))))

    guards_to : (n : ℕ) → n ≤ length p → (k : ℕ) → k < n → IsGuarded n k
    guards_to zero le k lt = absurd (omega arith)
    guards_to (suc n) le k lt = ⊎_elim
        (λ same. subst (λ m. IsGuarded (suc n) m) (sym same) (new_guard n (omega arith) (guards_to n (omega arith)) (cases_eq n 0)))
        (λ apart. subst (λ o. Finds o (Meets p completes k)) (sym (kept_guard n k (omega arith))) (guards_to n (omega arith) k (omega arith)))
        (cases_eq k n)

    pub guards_find : (n : ℕ) → Finds (guard_in (guards p f e (length p)) n) (Meets p completes n)
    guards_find n = ⊎_elim (λ lt. guards_to (length p) (omega arith) n lt)
        (λ le. let size = guards_length (length p) in subst (λ o. Finds o (Meets p completes n)) (sym (get_or_past (guards p f e (length p)) n None (omega arith)))
        (λ x. (λ h. absurd (none-some x h), λ m. let r = meets_row p local completes m in let q = r.1 in absurd (omega arith))))
        (cases_lt n (length p))
