-- The text of a run, from what its functions give.
use Rattle.std.proofs.Common.{ℕ, Err}
use Rattle.jr_base.specs.declared.text.Text.{Text}
use Rattle.jr_codes.specs.declared.source.Source.{Source}
use Rattle.jr_elab.specs.Cores.{IsReadWhole}
use Rattle.jr_elab.proofs.Readable.{world_is_read}
use Rattle.jr_change.specs.declared.project.Project.{Project}
use Rattle.jr_run.specs.declared.fault.RunFault.{RunFault}
use Rattle.jr_run.specs.declared.fault.RunFault.TheVariants as fault
use Rattle.jr_run.specs.Reports.{IsPlacedSource}
use Rattle.jr_run.specs.Runs.{IsRunText}
use Rattle.jr_run.specs.Starting.{IsReadWorld, IsStartOf}

pub source_placed : (s : Source) → IsReadWhole s → IsPlacedSource s
source_placed s read = let placed = read.whole.world_is.seen.placed in record { placed = placed; few = (read.reads.read 0 placed.local.some).few }

pub world_read : (s : Source) → IsReadWhole s → IsReadWorld s.view.now.sight.world
world_read s read = let at = read.reads.read 0 read.whole.world_is.seen.placed.local.some in record { whole = read.whole; sized = at.sized; few = at.few }

-- of the world that a source reads it is read whole
pub source_read : (s : Source) → IsReadWorld s.view.now.sight.world → IsReadWhole s
source_read s read = world_is_read s read.whole read.sized read.few

pub no_start : (project : Project) (x : Text) (n : ℕ) (f : RunFault) → IsStartOf project x (Err f) → IsRunText project x n (Err f)
no_start project x n (fault.Bad reason) h = IsRunText.bad h
no_start project x n fault.OutOfMemory h = IsRunText.no_memory
