-- The change for which a request asks of a program.
use Rattle.std.specs.Prelude.{ℕ, suc, Bool, true, false, ◌&&◌, List, [], ◌∷◌, Result, nat_eq, bytes_eq}
use Rattle.jr_base.specs.declared.request.Request.{Request}
use Rattle.jr_base.specs.declared.request.Request.TheVariants.{Delete, Extract, Inline, Lift, Move, PullUp, Rename, Repackage}
use Rattle.jr_defs.specs.declared.program.UnitAt.{UnitAt}
use Rattle.jr_change.specs.declared.change.Change.{Change}
use Rattle.jr_change.specs.declared.change.ChangedUnit.{ChangedUnit}
use Rattle.jr_change.specs.declared.change.UnitSource.{UnitSource}
use Rattle.jr_change.specs.declared.change.UnitSource.TheVariants.{Kept}
use Rattle.jr_change.specs.declared.project.Project.{Project}
use Rattle.jr_change.specs.declared.reason.ChangeFault.{ChangeFault}
use Rattle.jr_extract.specs.Extracting.{IsExtractAnswer}
use Rattle.jr_names.specs.Moving.{IsMoveAnswer}
use Rattle.jr_names.specs.Renaming.{IsRenameAnswer}
use Rattle.jr_inline.specs.Inlining.{IsInlineAnswer}
use Rattle.jr_delete.specs.Deleting.{IsAnswer as IsDeleteAnswer}
use Rattle.jr_package.specs.Lifting.{IsLiftAnswer}
use Rattle.jr_package.specs.Repackaging.{IsRepackageAnswer}
use Rattle.jr_pullup.specs.Pulling.{IsPullUpAnswer}

-- What a request comes to: the change, or why there is none.
abbrev pub IsAskedBy : Project → Request → Result Change ChangeFault → Type 0
IsAskedBy old (Rename file at name) answer = IsRenameAnswer old file at name answer
IsAskedBy old (Move file at word) answer = IsMoveAnswer old file at word answer
IsAskedBy old (Inline file at) answer = IsInlineAnswer old file at answer
IsAskedBy old (Extract file start end name) answer = IsExtractAnswer old file start end name answer
IsAskedBy old (PullUp file at) answer = IsPullUpAnswer old file at answer
IsAskedBy old (Delete file at) answer = IsDeleteAnswer old file at answer
IsAskedBy old (Lift file at) answer = IsLiftAnswer old file at answer
IsAskedBy old (Repackage from to) answer = IsRepackageAnswer old from to answer

-- ---- changes that change nothing

abbrev pub is_source : UnitSource → ℕ → Bool
is_source (Kept from) number = nat_eq from number
is_source _ number = false

-- the unit is this one as it is, whose number is told
abbrev pub is_kept : UnitAt → ℕ → ChangedUnit → Bool
is_kept unit number changed = is_source changed.source number && bytes_eq unit.path changed.path

-- the units are these as they are, the first of this number, one after another
abbrev pub are_kept : List UnitAt → ℕ → List ChangedUnit → Bool
are_kept [] number [] = true
are_kept [] number (next ∷ more) = false
are_kept (unit ∷ rest) number [] = false
are_kept (unit ∷ rest) number (next ∷ more) = is_kept unit number next && are_kept rest (suc number) more

-- the units of the change are all units of the program but the two of the prelude, each as it is
abbrev pub keeps_all : List UnitAt → List ChangedUnit → Bool
keeps_all (first ∷ second ∷ rest) changed = are_kept rest 2 changed
keeps_all _ changed = false
