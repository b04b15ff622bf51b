use Rattle.std.proofs.Common.{sym, subst}
use Rattle.std.specs.List.{Contains}
use Rattle.jr_kept.proofs.arriving.Sides.compare.Goals as goal

pub returns-clause-checks : goal.returns-clause-checks
returns-clause-checks c = λ many bound inside sides. let gathered = c.in_ok-run.ensures many bound inside sides.gathers in let filled = c.fill.ensures many (c.in_ok-empty.ensures many sides.counted) in (
  record { counted = filled.0; gathers = gathered.0 },
  λ none. let new = c.put_new_alone.ensures.none none in let old = c.put_old_alone.ensures.none new.0 in (
    old.0,
    λ n. (
      λ m. (gathered.1 n).0 (gathered.0.originals.listed n (old.1 n (subst (λ xs. Contains xs n) (sym c.under-2.ensures) m))),
      λ o. subst (λ xs. Contains xs n) c.under.ensures (filled.1 n (new.1 n (subst (λ xs. Contains xs n) (sym c.rows.ensures) ((gathered.1 n).1 o)))),
    ),
  ),
)

pub returns-clause-kept : goal.returns-clause-kept
returns-clause-kept c = λ many bound before inside sides none same. let gathered = c.in_ok-run.ensures many bound inside sides.gathers in let filled = c.fill.ensures many (c.in_ok-empty.ensures many sides.counted) in
    c.put_new_alone.ensures.kept
    (c.put_old_alone.ensures.kept none (λ n m. let here = subst (λ xs. Contains xs n) c.under-2.ensures m in gathered.0.originals.stamped n ((gathered.1 n).1 ((same n).0 here)) (before c.args.old n here)))
    (λ n m. let there = (same n).1 ((gathered.1 n).0 (subst (λ xs. Contains xs n) c.rows.ensures m)) in filled.2 n (subst (λ xs. Contains xs n) (sym c.under.ensures) there) (before c.args.old n there))
