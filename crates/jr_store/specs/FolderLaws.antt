-- A store that tells nothing may leave anything.
use Rattle.std.specs.Prelude.{◌≡◌, Some, None}
use Rattle.jr_store.specs.Image.{Image}

pub folder_reads_now : {S : Type 0} (store : S) (f : Image) → None ≡ Some f → Unit {0}
folder_reads_now store f is = tt
