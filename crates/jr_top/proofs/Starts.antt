-- Whether a call may begin after an answer.
use Rattle.std.proofs.Common.{◌≡◌, ◌≢◌, ℕ, ◌≤◌, List, [], ◌∷◌, Option, inl, inr, refl, sym, subst, arith}
use Rattle.jr_commit.specs.Restoring.{MayBegin}
use Rattle.jr_commit.specs.SidesAt.{SideAt}
use Rattle.jr_commit.proofs.Beginning.{told_begins}
use Rattle.jr_store.specs.Image.{Image, OnlyTold, Rose}
use Rattle.jr_top.specs.Answers.{Reports}
use Rattle.jr_top.specs.Crash.{LeavesStart, IsNoFault}
use Rattle.jr_top.specs.declared.status.Phase.{Phase}
use Rattle.jr_top.specs.declared.status.Status.{Status}
use Rattle.jr_top.specs.declared.status.Status.TheVariants.{StoreFault, SinkFault}
use Rattle.jr_top.proofs.Outcomes.{rose_earlier}

-- where one may begin whatever is answered
pub begun : (before after : ℕ) (Begins : Type 0) → Begins → (result : Status) → LeavesStart before after Begins result
begun before after Begins begins (StoreFault phase) = tt
begun before after Begins begins SinkFault = inl begins
begun before after Begins begins other = begins

-- a fault of the store is reported
pub at_fault : (before after : ℕ) (Begins : Type 0) (phase : Phase) (line : List ℕ) (result : Status) (old new : Option (List ℕ)) (fewer more : ℕ) → Rose before after → Reports (StoreFault phase) line result old new fewer more
    → LeavesStart before after Begins result
at_fault before after Begins phase line result old new fewer more rose (inl done) = subst (LeavesStart before after Begins) (sym done.0) tt
at_fault before after Begins phase line result old new fewer more rose (inr failed) = subst (LeavesStart before after Begins) (sym failed.0) (inr rose)

-- what is so from a later call on is so from an earlier one on
pub earlier_start : (before middle after : ℕ) (Begins : Type 0) (result : Status) → before ≤ middle → LeavesStart middle after Begins result → LeavesStart before after Begins result
earlier_start before middle after Begins (StoreFault phase) later leaves = tt
earlier_start before middle after Begins SinkFault later (inl begins) = inl begins
earlier_start before middle after Begins SinkFault later (inr rose) = inr (rose_earlier before middle after later rose)
earlier_start before middle after Begins other later leaves = leaves

-- where no fault is answered one may begin
pub no_fault : (before after : ℕ) (Begins : Type 0) (result : Status) → IsNoFault result → LeavesStart before after Begins result → Begins
no_fault before after Begins (StoreFault phase) none leaves = absurd none
no_fault before after Begins SinkFault none leaves = absurd none
no_fault before after Begins other none leaves = leaves

-- after a commit: it took no step, or a crash leaves what is told
pub commit_begins : {S : Type 0} (files : S → Option Image) (may_leave : S → Image → Type 0) (old new : S) (steps : List SideAt) → (steps ≡ [] → new ≡ old) → (steps ≢ [] → OnlyTold (files new) (may_leave new))
    → MayBegin (files old) (may_leave old) → MayBegin (files new) (may_leave new)
commit_begins files may_leave old new [] same only begins = subst (λ s. MayBegin (files s) (may_leave s)) (sym (same refl)) begins
commit_begins files may_leave old new (s ∷ steps) same only begins = told_begins (files new) (may_leave new) (only (λ none. cc none))
