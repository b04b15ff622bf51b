use Rattle.std.proofs.Common.{◌∙◌, sym, ap, arith, List, ℕ}
use Rattle.std.specs.FinMap as map
use Rattle.std.specs.Ordering.{nat_cmp}
use Rattle.std.specs.Cmp.Lexicographic.{slice_cmp}
use Rattle.std.proofs.lemmas.Bool.{eqb-true, eq-eqb}
use Rattle.jr_base.proofs.Entries.{count}
use Rattle.jr_base.proofs.files.Files.is_empty.Goals as goal

pub returns : goal.returns
returns c =
    let many = count c.self.inside.entries.items c.args.self.now c.self.invariant c.self.view_is in (
      (λ t. map.empty_of_len _ (omega (arith, many, c.self.inside.entries.ok.0, eqb-true _ _ (sym c.is_empty.ensures ∙ t)))),
      (λ empty. c.is_empty.ensures ∙ eq-eqb _ _ (omega (arith, many, c.self.inside.entries.ok.0, ap map.len empty ∙ map.len-empty (slice_cmp nat_cmp) (List ℕ)))),
    )
