use Rattle.std.proofs.Common.{◌≡◌}
use Rattle.jr_draft.specs.Drafting.{nothing, texts_kept}
use Rattle.jr_draft.proofs.draft.Draft.keep_texts.Given as goal

abbrev pub invariant-loop-unit : goal.invariant-loop-unit
invariant-loop-unit l = l.fn.self ≡ nothing → l.self ≡ texts_kept l.marks l.unit
