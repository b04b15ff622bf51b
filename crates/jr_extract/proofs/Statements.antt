-- A run begins with a statement of a block, and ends with one.
use Rattle.std.proofs.Common.{◌≡◌, refl, subst, ℕ, zero, suc, Bool, true, false, cond, ◌&&◌, Option, Some, None}
use Rattle.std.proofs.lemmas.Bool.{false≢true}
use Rattle.std.proofs.lemmas.Bool.Decides.{Decides-eqb}
use Rattle.std.proofs.lemmas.Option.{none-some, same_Some}
use Rattle.std.specs.Option.{option_or}
use Rattle.jr_base.specs.declared.token.Span.{Span}
use Rattle.jr_tree.specs.Rows.{end, parent}
use Rattle.jr_plain.specs.Search.{first_below}
use Rattle.jr_marks.specs.declared.marks.Marks.{Marks}
use Rattle.jr_marks.specs.Places.{mark_of, tokens_of}
use Rattle.jr_draft.specs.Drafting.{unit_row}
use Rattle.jr_extract.specs.declared.run.Run.{Run}
use Rattle.jr_extract.specs.declared.run.TokenRange.{TokenRange}
use Rattle.jr_extract.specs.Running.{IsOfStatements, begins_statement, constructor_call, end_from, end_of_statements, ends_at, ends_within, member_round, run_at, run_from, run_in, run_of, run_to, run_without, statement_at, tokens_in}

found_passes : (test : ℕ → Bool) (n k : ℕ) → first_below n test ≡ Some k → test k ≡ true
found_passes test zero k h = absurd (none-some k h)
found_passes test (suc n) k h = by (first_below n test) (test n) refl (λ f. found_passes test n k f) h
  where
    by : (found : Option ℕ) (b : Bool) → test n ≡ b → (found ≡ Some k → test k ≡ true) → option_or found (cond b (Some n) None) ≡ Some k → test k ≡ true
    by (Some j) b is before h = before h
    by None true is before h = subst (λ x. test x ≡ true) (same_Some n k h) is
    by None false is before h = absurd (none-some k h)

parts : (a b : Bool) → (a && b) ≡ true → (a ≡ true) × (b ≡ true)
parts true b h = (refl, h)
parts false b h = absurd (false≢true h)

module _ (m : Marks) where
  -- the last statement of a block, which ends right before the token
  abbrev IsLast : ℕ → ℕ → ℕ → ℕ → Type 0
  IsLast block token behind last = (parent m.rows.now last ≡ block) × ((mark_of m last).after ≡ token) × (end m.rows.now last ≡ behind)

  last_found : (block token more n behind : ℕ) → end_from m block token more n ≡ Some behind → (last : ℕ) × IsLast block token behind last
  last_found block token zero n behind h = absurd (none-some behind h)
  last_found block token (suc more) n behind h = by (ends_within m block token n) (ends_at m token n) refl refl (λ k. last_found block token more (end m.rows.now n) behind k) h
    where
      by : (a b : Bool) → ends_within m block token n ≡ a → ends_at m token n ≡ b → (end_from m block token more (end m.rows.now n) ≡ Some behind → (last : ℕ) × IsLast block token behind last)
          → cond a (cond b (Some (end m.rows.now n)) (end_from m block token more (end m.rows.now n))) None ≡ Some behind → (last : ℕ) × IsLast block token behind last
      by true true x y rest h = (n, ((Decides-eqb (parent m.rows.now n) block).0 (parts _ _ (parts _ _ x).0).1, (Decides-eqb (mark_of m n).after token).0 y, same_Some (end m.rows.now n) behind h))
      by true false x y rest h = rest h
      by false b x y rest h = absurd (none-some behind h)

  module _ (found : Run) where
    without_same : (run : Run) (call : Option ℕ) → run_without run call ≡ Some found → run ≡ found
    without_same run None h = same_Some run found h
    without_same run (Some call) h = absurd (none-some found h)

    in_statements : (tokens : TokenRange) (first behind : ℕ) (member : Option ℕ) → begins_statement m tokens.first first ≡ true → (last : ℕ) × IsLast (parent m.rows.now first) tokens.after behind last
        → run_in m tokens (record { first = first; end = behind }) member ≡ Some found → IsOfStatements m found
    in_statements tokens first behind None begins last h = absurd (none-some found h)
    in_statements tokens first behind (Some member) begins last h = subst (IsOfStatements m) (without_same (record { tokens = tokens; rows = record { first = first; end = behind }; member = member })
        (constructor_call m.rows.now (record { first = first; end = behind })) h) (record {
          block = (parts _ _ begins).1;
          begins = (Decides-eqb (mark_of m first).first tokens.first).0 (parts _ _ begins).0;
          last = last.0;
          beside = last.1.0;
          ends = last.1.1;
          behind = last.1.2;
        })

    to_statements : (tokens : TokenRange) (first : ℕ) (behind : Option ℕ) → begins_statement m tokens.first first ≡ true → end_of_statements m first tokens.after ≡ behind → run_to m tokens first behind ≡ Some found → IsOfStatements m found
    to_statements tokens first None begins is h = absurd (none-some found h)
    to_statements tokens first (Some behind) begins is h = in_statements tokens first behind (member_round m.rows.now first) begins (last_found (parent m.rows.now first) tokens.after _ first behind is) h

    from_statements : (unit : ℕ) (tokens : TokenRange) (first : Option ℕ) → statement_at m unit tokens.first ≡ first → run_from m tokens first ≡ Some found → IsOfStatements m found
    from_statements unit tokens None is h = absurd (none-some found h)
    from_statements unit tokens (Some first) is h = to_statements tokens first (end_of_statements m first tokens.after) (parts _ _ (found_passes _ (end m.rows.now (unit_row m unit)) first is)).1 refl h

    of_statements : (unit : ℕ) (tokens : Option TokenRange) → run_of m unit tokens ≡ Some found → IsOfStatements m found
    of_statements unit None h = absurd (none-some found h)
    of_statements unit (Some tokens) h = from_statements unit tokens (statement_at m unit tokens.first) refl h

pub run_statements : (m : Marks) (unit : ℕ) (range : Span) (found : Run) → run_at m unit range ≡ Some found → IsOfStatements m found
run_statements m unit range found h = of_statements m found unit (tokens_in (tokens_of m unit) range) h
