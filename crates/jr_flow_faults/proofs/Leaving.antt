-- How what is thrown goes from a row to the one round it, by the tests of the code.
use Rattle.std.proofs.Common.{◌≡◌, refl, sym, ap₂, subst, ℕ, ◌+◌, Bool, true, false, not, List, length, Decides}
use Rattle.std.proofs.lemmas.Bool.{false≢true}
use Rattle.std.proofs.lemmas.Bool.Decides.{Decides-eqb, Decides-at, not_from_Decides}
use Rattle.jr_tree.specs.declared.label.Label.TheVariants as is
use Rattle.jr_tree.specs.Rows.{Rows, label, parent}
use Rattle.jr_defs.specs.Referents.{Table}
use Rattle.jr_plain.proofs.Tests.{both, opposite, like}
use Rattle.jr_rules.specs.StatementTests.{is_catch}
use Rattle.jr_reach.specs.declared.course.Entry.{Entry}
use Rattle.jr_reach.specs.Statements.{Entries, fact, later}
use Rattle.jr_flow_faults.specs.declared.going.Tracing as code
use Rattle.jr_flow_faults.specs.Computed.{is_it, rows_in, table_in, constants_in}
use Rattle.jr_flow_faults.specs.Known.{IsLastBlock}
use Rattle.jr_flow_faults.specs.Exceptions.{IsTry, IsCode, IsTryBlock, FinallyCompletes, Catches, GoesOn}
use Rattle.jr_flow_faults.specs.ExceptionTests.{catches, is_code, is_first_block}
use Rattle.jr_flow_faults.specs.Outwards.{completing, is_try, loses}
use Rattle.jr_flow_faults.specs.Reading.{IsTracing, completes_in}
use Rattle.jr_flow_faults.proofs.Known.{block_tells}
use Rattle.jr_flow_faults.proofs.Covered.{catch_tells}
use Rattle.jr_flow_faults.proofs.Guarded.{try_tells, it_tells, finally_tells}
use Rattle.jr_flow_faults.proofs.Outward.{guarded_try}
use Rattle.jr_flow_faults.proofs.Readings.{HaveLasts, have_lasts}
use Rattle.jr_flow_faults.proofs.Uncaught.{catches_tells, code_tells}

-- ---- by what is round the row

module _ (p : Rows) (t : Table) (completes : ℕ → Bool) (c k : ℕ) where
  abbrev Goes : Type 0
  Goes = GoesOn p t completes c k

  of_no_try : (IsTry (label p (parent p k)) → ⊥) → Decides (not (is_code (label p k))) Goes
  of_no_try none = like (opposite (code_tells (label p k))) (λ h. GoesOn.of_part h none) out
    where
      out : Goes → IsCode (label p k) → ⊥
      out (GoesOn.of_part a b) = a
      out (GoesOn.of_body h a f) = absurd (none h.statement)
      out (GoesOn.of_catch h l f) = absurd (none h)
      out (GoesOn.of_finally h) = absurd (none (guarded_try (label p (parent p k)) h.block.guarded))

  of_last : IsLastBlock p (parent p k) k → Decides true Goes
  of_last h = (λ e. GoesOn.of_finally h, λ g. refl)

  module _ (try : IsTry (label p (parent p k))) where
    first_tells : Decides (is_first_block p k) (IsTryBlock p (parent p k) k)
    first_tells = like (both (block_tells (label p k)) (Decides-eqb k (parent p k + 1))) (λ h. record { statement = try; block = h.0; inside = refl; first = h.1 }) (λ h. (h.block, h.first))

    of_catch : label p k ≡ is.Catch → FinallyCompletes p completes (parent p k) → Decides true Goes
    of_catch l finally = (λ e. GoesOn.of_catch try l finally, λ g. refl)

    module _ (no_last : IsLastBlock p (parent p k) k → ⊥) where
      of_lost : (FinallyCompletes p completes (parent p k) → ⊥) → Decides false Goes
      of_lost none = (λ e. absurd (false≢true e), λ g. absurd (out g))
        where
          out : Goes → ⊥
          out (GoesOn.of_part a b) = b try
          out (GoesOn.of_body h a f) = none f
          out (GoesOn.of_catch h l f) = none f
          out (GoesOn.of_finally h) = no_last h

      module _ (no_catch : label p k ≡ is.Catch → ⊥) where
        of_body : IsTryBlock p (parent p k) k → FinallyCompletes p completes (parent p k) → (b : Bool) → Decides b (Catches p t (parent p k) c → ⊥) → Decides b Goes
        of_body body finally b tells = like tells (λ none. GoesOn.of_body body none finally) out
          where
            out : Goes → Catches p t (parent p k) c → ⊥
            out (GoesOn.of_part a b) = absurd (b try)
            out (GoesOn.of_body h a f) = a
            out (GoesOn.of_catch h l f) = absurd (no_catch l)
            out (GoesOn.of_finally h) = absurd (no_last h)

        of_none : (IsTryBlock p (parent p k) k → ⊥) → Decides false Goes
        of_none no_body = (λ e. absurd (false≢true e), λ g. absurd (out g))
          where
            out : Goes → ⊥
            out (GoesOn.of_part a b) = b try
            out (GoesOn.of_body h a f) = no_body h
            out (GoesOn.of_catch h l f) = no_catch l
            out (GoesOn.of_finally h) = no_last h

-- ---- by what is read

module _ (trace : code.Tracing) (of : IsTracing trace) where
  abbrev p : Rows
  p = rows_in trace.view.now

  abbrev t : Table
  t = table_in trace.view.now

  abbrev read : Entries
  read = later (length trace.around.now.rows.now) trace.around.now.all.now

  abbrev ends : ℕ → Bool
  ends = completes_in trace.view.now

  lasts_are : HaveLasts p trace.around.now.facts.now
  lasts_are = subst (λ f. HaveLasts p f) (sym of.around.facts_are) (have_lasts p t (constants_in trace.view.now))

  ends_same : completing read ≡ ends
  ends_same = ap₂ (λ (r : Rows) (a : List Entry). completing (later (length r) a)) of.around.rows_are of.around.all_are

  -- a class that no catch catches
  pub uncaught_told : (over c : ℕ) (b : Bool) → b ≡ catches p t over c → Decides (not b) (Catches p t over c → ⊥)
  uncaught_told over c b is = opposite (Decides-at b (catches p t over c) is (catches_tells p t of.view.above.well.headed of.view.local ends over c))

  module _ (c k : ℕ) where
    abbrev Leaves : Bool → Type 0
    Leaves b = Decides b (GoesOn p t ends c k)

    pub no_try_told : (b d : Bool) → b ≡ is_try (label p (parent p k)) → b ≡ false → d ≡ is_code (label p k) → Leaves (not d)
    no_try_told b d is none d_is = subst (λ x. Leaves (not x)) (sym d_is) (of_no_try p t ends c k (not_from_Decides b (Decides-at b _ is (try_tells (label p (parent p k)))) none))

    pub try_told : (b : Bool) → b ≡ is_try (label p (parent p k)) → b ≡ true → IsTry (label p (parent p k))
    try_told b is try = (Decides-at b _ is (try_tells (label p (parent p k)))).0 try

    module _ (try : IsTry (label p (parent p k))) (over : ℕ) (over_is : over ≡ parent p k) (last : Bool) (last_is : last ≡ is_it (fact trace.around.now.facts.now over).last k) where
      last_tells : Decides last (IsLastBlock p (parent p k) k)
      last_tells = subst (λ n. Decides last (IsLastBlock p n k)) over_is (Decides-at last _ last_is (it_tells (fact trace.around.now.facts.now over).last (lasts_are over) k))

      pub last_told : last ≡ true → Leaves true
      last_told h = of_last p t ends c k (last_tells.0 h)

      module _ (no_last : last ≡ false) (lost : Bool) (lost_is : lost ≡ loses trace.around.now.facts.now read over) where
        finally_at : Decides (not lost) (FinallyCompletes p ends (parent p k))
        finally_at = subst (λ x. Decides (not x) (FinallyCompletes p ends (parent p k))) (sym lost_is)
            (subst (λ n. Decides (not (loses trace.around.now.facts.now read over)) (FinallyCompletes p ends n)) over_is
            (subst (λ (completes : ℕ → Bool). Decides (not (loses trace.around.now.facts.now read over)) (FinallyCompletes p completes over)) ends_same
            (finally_tells p trace.around.now.facts.now read lasts_are over)))

        is_no_last : IsLastBlock p (parent p k) k → ⊥
        is_no_last = not_from_Decides last last_tells no_last

        pub lost_told : lost ≡ true → Leaves false
        lost_told h = of_lost p t ends c k try is_no_last (λ f. false≢true (subst (λ b. not b ≡ true) h (finally_at.1 f)))

        module _ (on : lost ≡ false) (caught : Bool) (caught_is : caught ≡ is_catch (label p k)) where
          completes_at : FinallyCompletes p ends (parent p k)
          completes_at = finally_at.0 (subst (λ b. not b ≡ true) (sym on) refl)

          catch_at : Decides caught (label p k ≡ is.Catch)
          catch_at = Decides-at caught _ caught_is (catch_tells (label p k))

          pub catch_told : caught ≡ true → Leaves true
          catch_told h = of_catch p t ends c k try (catch_at.0 h) completes_at

          module _ (no_catch : caught ≡ false) (body : Bool) (body_is : body ≡ is_first_block p k) where
            body_at : Decides body (IsTryBlock p (parent p k) k)
            body_at = Decides-at body _ body_is (first_tells p t ends c k try)

            pub body_told : body ≡ true → (b : Bool) → Decides b (Catches p t over c → ⊥) → Leaves b
            body_told h b tells = of_body p t ends c k try is_no_last (not_from_Decides caught catch_at no_catch) (body_at.0 h) completes_at b
                (subst (λ n. Decides b (Catches p t n c → ⊥)) over_is tells)

            pub none_told : body ≡ false → Leaves false
            none_told h = of_none p t ends c k try is_no_last (not_from_Decides caught catch_at no_catch) (not_from_Decides body body_at h)
