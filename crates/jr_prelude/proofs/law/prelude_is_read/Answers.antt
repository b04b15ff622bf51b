use Rattle.jr_prelude.proofs.Readings.{lang_reads, io_reads}
use Rattle.jr_prelude.proofs.law.prelude_is_read.Goals as goal

pub returns : goal.returns
returns c = record { lang = lang_reads; io = io_reads }
