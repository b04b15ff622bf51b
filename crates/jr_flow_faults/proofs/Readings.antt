-- What is read to follow what is thrown is right, where the view is.
use Rattle.std.proofs.Common.{◌≡◌, sym, ◌∙◌, ap, ap₂, subst, ⊎_elim, arith, ℕ, ◌<◌, ◌≤◌, Bool, true, not, List, length, Option, None, Decides}
use Rattle.std.proofs.lemmas.Bool.{cases_lt}
use Rattle.std.proofs.lemmas.List.{get_or_past}
use Rattle.std.proofs.lemmas.Option.{none-some}
use Rattle.jr_tree.specs.declared.label.Label.TheVariants as is
use Rattle.jr_tree.specs.Local.{IsLocal}
use Rattle.jr_tree.specs.Rows.{Rows}
use Rattle.jr_defs.specs.Referents.{Table}
use Rattle.jr_plain.specs.Conversions.{Constants}
use Rattle.jr_plain.specs.Search.{Finds}
use Rattle.jr_plain.proofs.Bounds.{bounded}
use Rattle.jr_places.proofs.Tables.{length-tabulated, tabulated_at}
use Rattle.jr_rule.specs.declared.Fault.{Fault}
use Rattle.jr_rule.specs.declared.Rule.TheVariants as rule
use Rattle.jr_rule.specs.Faults.{AreFaultsOf}
use Rattle.jr_reach.specs.declared.course.Entry.{Entry}
use Rattle.jr_reach.specs.declared.fact.Fact.{Fact}
use Rattle.jr_reach.specs.Statements.{Facts, Entries, fact, later}
use Rattle.jr_flow_faults.specs.declared.throwing.Reading as code
use Rattle.jr_flow_faults.specs.Known.{IsLastBlock}
use Rattle.jr_flow_faults.specs.Computed.{fact_at, facts, constants_in}
use Rattle.jr_flow_faults.specs.Exceptions.{FinallyCompletes}
use Rattle.jr_flow_faults.specs.ExceptionTests.{AreCatchesTo, uncaught_rows, unthrown_rows}
use Rattle.jr_flow_faults.specs.Roots.{AreRoots}
use Rattle.jr_flow_faults.specs.Reading.{IsThrowingView, IsReading, IsAround, rows_of, table_of, types_in, entries_of, completes_of, completes_in}
use Rattle.jr_flow_faults.specs.Outwards.{Meets, completing, loses, guard_in, guards}
use Rattle.jr_flow_faults.proofs.Known.{last_finds}
use Rattle.jr_flow_faults.proofs.Guarded.{finally_tells, guards_find}

-- ---- the block of the `finally` of each row, as it is known

abbrev pub HaveLasts : Rows → Facts → Type 0
HaveLasts p f = (n : ℕ) → Finds (fact f n).last (λ k. IsLastBlock p n k)

module _ (p : Rows) (t : Table) (constant : Constants) where
  last_past : (n : ℕ) → length p ≤ n → (fact (facts p t constant) n).last ≡ None
  last_past n le = ap (λ (x : Fact). x.last) (get_or_past (facts p t constant) n _ (subst (λ m. m ≤ n) (sym (length-tabulated (fact_at p t constant) (length p))) le))

  try_row : (n k : ℕ) → IsLastBlock p n k → n < length p
  try_row n k h = bounded (λ l. l ≡ is.Try true) (λ e. absurd (cc)) p n h.block.guarded

  pub have_lasts : HaveLasts p (facts p t constant)
  have_lasts n = ⊎_elim
      (λ lt. subst (λ (x : Fact). Finds x.last (λ k. IsLastBlock p n k)) (sym (tabulated_at (fact_at p t constant) _ (length p) n lt)) (last_finds p n))
      (λ le. subst (λ o. Finds o (λ k. IsLastBlock p n k)) (sym (last_past n le)) (λ k. (λ h. absurd (none-some k h), λ h. let lt = try_row n k h in absurd (omega arith))))
      (cases_lt n (length p))

-- ---- what is read of them

module _ (p : Rows) (local : IsLocal p) (rows : Rows) (f : Facts) (all : List Entry) (same : rows ≡ p) (lasts : HaveLasts p f) where
  abbrev read : Entries
  read = later (length rows) all

  guards_told : (known : List (Option ℕ)) → known ≡ guards rows f read (length rows) → (n : ℕ) → Finds (guard_in known n) (Meets p (completing read) n)
  guards_told known is n = subst (λ k. Finds (guard_in k n) (Meets p (completing read) n)) (sym (is ∙ ap (λ r. guards r f read (length r)) same)) (guards_find p f read lasts local n)

  finally_told : (n : ℕ) → Decides (not (loses f read n)) (FinallyCompletes p (completing read) n)
  finally_told n = finally_tells p f read lasts n

module _ (reading : code.Reading) (view : IsThrowingView reading.view.now) (around : IsAround reading.view.now reading.around.now) where
  abbrev p : Rows
  p = rows_of reading

  lasts_are : HaveLasts p reading.around.now.facts.now
  lasts_are = subst (λ f. HaveLasts p f) (sym around.facts_are) (have_lasts p (table_of reading) (constants_in reading.view.now))

  pub reading_told : AreRoots reading.around.now.rows.now reading.roots → reading.guards.now ≡ guards reading.around.now.rows.now reading.around.now.facts.now (entries_of reading) (length reading.around.now.rows.now)
      → AreCatchesTo p (table_of reading) (length p) reading.catches.now.table → IsReading reading
  reading_told roots guards_are catches =
      let rows = reading.around.now.rows.now in let f = reading.around.now.facts.now in let all = reading.around.now.all.now in record {
        view = view;
        roots = subst (λ r. AreRoots r reading.roots) around.rows_are roots;
        guards = guards_told p view.local rows f all around.rows_are lasts_are reading.guards.now guards_are;
        finally = finally_told p view.local rows f all around.rows_are lasts_are;
        catches = catches;
      }

  completes_same : completes_of reading ≡ completes_in reading.view.now
  completes_same = ap₂ (λ (r : Rows) (a : List Entry). completing (later (length r) a)) around.rows_are around.all_are

  abbrev Uncaught : (ℕ → Bool) → List Fault → List Fault → Type 0
  Uncaught completes old new = AreFaultsOf rule.UncaughtException (uncaught_rows p (table_of reading) (types_in reading.view.now) completes) old new

  pub uncaught_same : {old new : List Fault} → Uncaught (completes_of reading) old new → Uncaught (completes_in reading.view.now) old new
  uncaught_same {old} {new} h = subst (λ completes. Uncaught completes old new) completes_same h

  abbrev Unthrown : (ℕ → Bool) → List Fault → List Fault → Type 0
  Unthrown completes old new = AreFaultsOf rule.UnthrownCatch (unthrown_rows p (table_of reading) (types_in reading.view.now) completes) old new

  pub unthrown_same : {old new : List Fault} → Unthrown (completes_of reading) old new → Unthrown (completes_in reading.view.now) old new
  unthrown_same {old} {new} h = subst (λ completes. Unthrown completes old new) completes_same h
