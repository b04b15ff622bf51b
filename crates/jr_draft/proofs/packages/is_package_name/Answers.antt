use Rattle.std.proofs.Common.{rules, ◌≡◌, refl, ℕ, ◌<◌, length, List, Bool, true, false, IsTrue, ◌↔◌, All}
use Rattle.std.proofs.lemmas.Iterator.{cases_from_all}
use Rattle.std.proofs.lemmas.Iterator.Splits.{YieldsList-from_slice_split}
use Rattle.std.proofs.lemmas.Iterator.Search.{true_from_All}
use Rattle.std.proofs.lemmas.List.Elements.{All-from_all_within}
use Rattle.std.specs.Bool.{MatchBool}
use Rattle.std.specs.List.{AllWithin, HoldsAt}
use borrow.Author.Tests.{tests}
use Rattle.jr_base.specs.Identifiers.{IsIdentifier}
use Rattle.jr_draft.specs.Packages.{IsPackageName}
use Rattle.jr_draft.proofs.packages.is_package_name.Goals as goal

abbrev IsNone : List ℕ → Type 0
IsNone part = IsIdentifier part → ⊥

each : (r : Bool) (parts : List (List ℕ)) → MatchBool r (AllWithin IsIdentifier parts 0 (length parts)) ((k : ℕ) × (k < length parts) × HoldsAt IsNone parts k) → IsTrue r ↔ All IsIdentifier parts
each true parts m = ((λ t. All-from_all_within IsIdentifier parts m), (λ all. refl))
each false parts m = ((λ t. absurd (search rules)), (λ all. true_from_All IsIdentifier IsNone false parts (λ x p q. q p) m all))

pub returns : goal.returns
returns c = each c.all.result _ (cases_from_all _ _ c.all.result IsIdentifier IsNone c.all.ensures.ran
    (YieldsList-from_slice_split _ _ c.args.word.now c.split.ensures.rest c.split.ensures.done c.split.ensures.closure (λ x r q k. search (rules, tests)))
    (λ x q k. search (rules, tests)) (λ x q k. search (rules, tests)))
