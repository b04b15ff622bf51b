use Rattle.std.specs.Prelude.{◌≡◌, Some, None}
use Rattle.jr_store.specs.Image.{Image}
use Rattle.jr_store.specs.declared.blind.BlindStore.{BlindStore}

pub blind_reads_now : (b : BlindStore) (f : Image) → None ≡ Some f → Unit {0}
blind_reads_now b f is = tt
