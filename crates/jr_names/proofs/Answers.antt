-- The answers to a request to rename.
use Rattle.std.proofs.Common.{◌≡◌, refl, sym, ◌∙◌, subst, ℕ, List, Option, Some, None, Result, Ok, Err, Bool, true, false, IsTrue, ◌↔◌, bytes_eq}
use Rattle.std.proofs.lemmas.Bool.{false≢true}
use Rattle.std.specs.Prelude.{IfOk, IfErr}
use Rattle.jr_base.specs.Identifiers.{IsIdentifier}
use Rattle.jr_tree.specs.Rows.{name}
use Rattle.jr_marks.specs.declared.marks.Marks.{Marks}
use Rattle.jr_marks.specs.Places.{IsOrdered, unit_of}
use Rattle.jr_change.specs.declared.change.Change.{Change}
use Rattle.jr_change.specs.declared.change.Course.TheVariants as course
use Rattle.jr_change.specs.declared.change.Naming.{Naming}
use Rattle.jr_change.specs.declared.project.Project.{Project}
use Rattle.jr_change.specs.declared.reason.ChangeFault.{ChangeFault}
use Rattle.jr_change.specs.declared.reason.ChangeFault.TheVariants as fault
use Rattle.jr_change.specs.declared.reason.Reason.{Reason}
use Rattle.jr_change.specs.declared.reason.Reason.TheVariants as reason
use Rattle.jr_draft.specs.Asking.{asked}
use Rattle.jr_draft.specs.Drafting.{IsFinished, unchanged, with_naming}
use Rattle.jr_names.specs.Renaming.{IsFamilyOf, IsNamedWith, IsPathWith, IsRenamed, IsNewName, IsNewlyNamed, IsRenamable, IsNamed, IsAskedFor, IsRenameAnswer, reaches_prelude, renamed}

pub refused_so : (old : Project) (file : List ℕ) (at : ℕ) (to : List ℕ) (why : ChangeFault) → Err why ≡ asked old file at → IsRenameAnswer old file at to (Err why)
refused_so old file at to why h = IsRenameAnswer.refused (sym h)

pub answered_so : (old : Project) (file : List ℕ) (at : ℕ) (to : List ℕ) (found : Option ℕ) (answer : Result Change ChangeFault) → Ok found ≡ asked old file at → IsAskedFor old found to answer
    → IsRenameAnswer old file at to answer
answered_so old file at to found answer h made = IsRenameAnswer.answered (sym h) made

module _ (old : Project) (found : Option ℕ) (to : List ℕ) where
  pub no_memory : IsAskedFor old found to (Err fault.OutOfMemory)
  no_memory = IsAskedFor.memory

  pub together_so : (family : List ℕ) (answer : Result Change ChangeFault) → IsFamilyOf old found family → IsNamed old found family to answer → IsAskedFor old found to answer
  together_so family answer is made = IsAskedFor.together is made

module _ (m : Marks) (family to : List ℕ) where
  pub reaches_so : (found : Option ℕ) (b : Bool) → b ≡ true → b ≡ reaches_prelude m family → IsRenamable m found family to (Err reason.ReachesPrelude)
  reaches_so found b is h = IsRenamable.reaches (sym h ∙ is)

  pub bad_name_so : (found : Option ℕ) (b c : Bool) → b ≡ false → b ≡ reaches_prelude m family → c ≡ false → (IsTrue c ↔ IsIdentifier to) → IsRenamable m found family to (Err reason.BadName)
  bad_name_so found b c is h fails tells = IsRenamable.bad_name (sym h ∙ is) (λ named. false≢true (sym fails ∙ tells.1 named))

  pub nothing_so : (b c : Bool) → b ≡ false → b ≡ reaches_prelude m family → c ≡ true → (IsTrue c ↔ IsIdentifier to) → IsRenamable m None family to (Err reason.WrongKind)
  nothing_so b c is h holds tells = IsRenamable.nothing (sym h ∙ is) (tells.0 holds) refl

  pub able_so : (d : ℕ) (b c : Bool) → b ≡ false → b ≡ reaches_prelude m family → c ≡ true → (IsTrue c ↔ IsIdentifier to) → IsRenamable m (Some d) family to (Ok d)
  able_so d b c is h holds tells = IsRenamable.able (sym h ∙ is) (tells.0 holds) refl

module _ (old : Project) (family to : List ℕ) where
  pub refused_with : (found : Option ℕ) (why : Reason) → IsRenamable old.marks found family to (Err why) → IsNamed old found family to (Err (fault.Bad why))
  refused_with found why h = IsNamed.refused h

  pub named_so : (found : Option ℕ) (d : ℕ) (answer : Result Change ChangeFault) → IsRenamable old.marks found family to (Ok d) → IsNewlyNamed old d family to answer → IsNamed old found family to answer
  named_so found d answer can made = IsNamed.named can made

  failed_so : (d : ℕ) (why : ChangeFault) → why ≡ fault.OutOfMemory → IsNewlyNamed old d family to (Err why)
  failed_so d why failed = subst (λ why. IsNewlyNamed old d family to (Err why)) (sym failed) IsNewlyNamed.memory

  pub same_so : (d : ℕ) (answer : Result Change ChangeFault) → bytes_eq (name old.marks.rows.now d) to ≡ true → IfOk answer (λ change. IsFinished (unchanged old.marks) course.Same change)
      → IfErr answer (λ why. why ≡ fault.OutOfMemory) → IsNewlyNamed old d family to answer
  same_so d (Ok change) same made failed = IsNewlyNamed.same same made
  same_so d (Err why) same made failed = failed_so d why failed

  pub other_so : (d : ℕ) (answer : Result Change ChangeFault) → bytes_eq (name old.marks.rows.now d) to ≡ false → IfOk answer (λ change. IsNewName old d family to change)
      → IfErr answer (λ why. why ≡ fault.OutOfMemory) → IsNewlyNamed old d family to answer
  other_so d (Ok change) other made failed = IsNewlyNamed.other other made
  other_so d (Err why) other made failed = failed_so d why failed

  pub new_name : (d : ℕ) (rows : List ℕ) (answer : Result Change ChangeFault) → IsNamedWith old d family rows → IfOk answer (λ change. IsRenamed old.marks d to rows change)
      → IfOk answer (λ change. IsNewName old d family to change)
  new_name d rows (Ok change) named made = record { rows = rows; named = named; renamed = made }
  new_name d rows (Err why) named made = tt

pub renamed_so : (m : Marks) (d : ℕ) (to path : List ℕ) (naming : Naming) (moved : ℕ) (answer : Result Change ChangeFault) → (IsOrdered m → IsPathWith m d to path) → naming.name ≡ to
    → (IsOrdered m → moved ≡ unit_of m d) → IfOk answer (λ change. IsOrdered m → IsFinished (with_naming (renamed m moved path to naming.rows.items) naming) course.Same change)
    → IfOk answer (λ change. IsOrdered m → IsRenamed m d to naming.rows.items change)
renamed_so m d to path naming moved (Ok change) is_path name_is is made = λ ordered. record {
  path = path;
  is_path = is_path ordered;
  naming = naming;
  name_is = name_is;
  named = refl;
  finished = subst (λ k. IsFinished (with_naming (renamed m k path to naming.rows.items) naming) course.Same change) (is ordered) (made ordered);
}
renamed_so m d to path naming moved (Err why) is_path name_is is made = tt
