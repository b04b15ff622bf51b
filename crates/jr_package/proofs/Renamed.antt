-- The answers to a request to rename a package.
use Rattle.std.proofs.Common.{◌≡◌, refl, sym, ◌∙◌, ap, subst, arith, ℕ, ◌<◌, List, [], ◌∷◌, length, Result, Ok, Err, Bool, true, false, IsTrue, ◌↔◌, bytes_eq}
use Rattle.std.proofs.lemmas.Bool.{false≢true}
use Rattle.std.specs.Prelude.{IfOk, IfErr}
use Rattle.jr_defs.specs.declared.referent.Referent.{Referent}
use Rattle.jr_marks.specs.declared.marks.Marks.{Marks}
use Rattle.jr_change.specs.declared.change.Change.{Change}
use Rattle.jr_change.specs.declared.change.Course.TheVariants as course
use Rattle.jr_change.specs.declared.project.Project.{Project}
use Rattle.jr_change.specs.declared.reason.ChangeFault.{ChangeFault}
use Rattle.jr_change.specs.declared.reason.ChangeFault.TheVariants as fault
use Rattle.jr_change.specs.declared.reason.Reason.TheVariants as reason
use Rattle.jr_draft.specs.Asking.{table_of}
use Rattle.jr_draft.specs.Drafting.{Drafted, IsFinished, begun, unchanged}
use Rattle.jr_draft.specs.Packages.{IsPackageName, folder_of_package}
use Rattle.jr_package.specs.Repackaging.{moved_units, repackaged, with_order, IsRepackaged, IsRenamed, IsRepackageAnswer}

-- ---- names of packages

pub old_is_none : (old : Project) (from to : List ℕ) (b : Bool) → b ≡ false → (IsTrue b ↔ IsPackageName from) → IsRepackageAnswer old from to (Err (fault.Bad reason.BadName))
old_is_none old from to b fails tells = IsRepackageAnswer.bad_old (λ is. false≢true (sym fails ∙ tells.1 is))

pub new_is_none : (old : Project) (from to : List ℕ) (a b : Bool) → a ≡ true → (IsTrue a ↔ IsPackageName from) → b ≡ false → (IsTrue b ↔ IsPackageName to) → IsRepackageAnswer old from to (Err (fault.Bad reason.BadName))
new_is_none old from to a b is tells fails tells_too = IsRepackageAnswer.bad_new (tells.0 is) (λ is. false≢true (sym fails ∙ tells_too.1 is))

pub both_are : (old : Project) (from to : List ℕ) (a b : Bool) (answer : Result Change ChangeFault) → a ≡ true → (IsTrue a ↔ IsPackageName from) → b ≡ true → (IsTrue b ↔ IsPackageName to)
    → IsRenamed old.marks (table_of old) from to answer → IsRepackageAnswer old from to answer
both_are old from to a b answer is tells is_too tells_too made = IsRepackageAnswer.named (tells.0 is) (tells_too.0 is_too) made

-- ---- units of the package

module _ (m : Marks) (t : List Referent) (from to : List ℕ) where
  pub memory_is : IsRenamed m t from to (Err fault.OutOfMemory)
  memory_is = IsRenamed.memory

  pub none_move : (moved : List ℕ) → moved ≡ moved_units m from → length moved ≡ 0 → IsRenamed m t from to (Err (fault.Bad reason.NoFile))
  none_move [] h none = IsRenamed.absent (sym h)
  none_move (unit ∷ units) h none = absurd (omega arith)

  failed_so : (why : ChangeFault) → why ≡ fault.OutOfMemory → IsRenamed m t from to (Err why)
  failed_so why failed = subst (λ why. IsRenamed m t from to (Err why)) (sym failed) IsRenamed.memory

  pub same_so : (moved : List ℕ) (answer : Result Change ChangeFault) → moved ≡ moved_units m from → 0 < length moved → bytes_eq from to ≡ true
      → IfOk answer (λ change. IsFinished (unchanged m) course.Same change) → IfErr answer (λ why. why ≡ fault.OutOfMemory) → IsRenamed m t from to answer
  same_so [] answer h some same made failed = absurd (omega arith)
  same_so (unit ∷ units) (Ok change) h some same made failed = IsRenamed.same (sym h) same made
  same_so (unit ∷ units) (Err why) h some same made failed = failed_so why failed

  pub moved_so : (moved : List ℕ) (answer : Result Change ChangeFault) → moved ≡ moved_units m from → 0 < length moved → bytes_eq from to ≡ false
      → IfOk answer (λ change. IsRepackaged m t from to change) → IfErr answer (λ why. why ≡ fault.OutOfMemory) → IsRenamed m t from to answer
  moved_so [] answer h some differ made failed = absurd (omega arith)
  moved_so (unit ∷ units) (Ok change) h some differ made failed = IsRenamed.moved (sym h) differ made
  moved_so (unit ∷ units) (Err why) h some differ made failed = failed_so why failed

  pub order_same : (folder moved : List ℕ) (old new : Drafted) → folder ≡ folder_of_package to → moved ≡ moved_units m from → old ≡ begun m → new ≡ with_order m t folder from to moved old → new ≡ repackaged m t from to
  order_same folder moved old new f h e made = made ∙ (λ i. with_order m t (f i) from to (h i) (e i))
