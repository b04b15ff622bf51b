use Rattle.std.proofs.Common.{◌≡◌, ℕ, List, Some, slice_get}
use Rattle.jr_flow.specs.declared.point.Step.{Step}
use Rattle.jr_flow.specs.Woven.{IsWovenOf, IsBound, IsFinder, Follows, of_list}
use Rattle.jr_flow.proofs.webs.Finder.find.Given as goal

abbrev pub invariant-loop-nth : goal.invariant-loop-nth
invariant-loop-nth l = (bound : ℕ) (steps : List Step) (rows : List ℕ) (woven : IsWovenOf l.points steps rows l.web) → IsBound l.points steps bound → slice_get rows l.key ≡ Some l.local → IsFinder bound l.fn.self
    → Follows bound woven.definitions woven.uses l.points steps l.key (of_list l.web.definitions l.key l.nth l.local) l.fn.self l.self
