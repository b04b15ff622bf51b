use Rattle.std.proofs.Common.{◌≡◌, ◌<◌, ◌^◌, length, sym, subst, ap, arith}
use Rattle.std.specs.Prelude.{Some}
use Rattle.std.proofs.lemmas.List.{length-map}
use Rattle.jr_store.specs.Image.{Reads}
use Rattle.jr_commit.specs.SidesAt.{SideAt}
use Rattle.jr_commit.specs.Steps.{sides_of, path_of, side_of}
use Rattle.jr_commit.specs.Entries.{plain, plain_of}
use Rattle.jr_commit.specs.Journal.{IsJournal, old_sides}
use Rattle.jr_commit.proofs.Found.{no_file, no_entries, entries_found}
use Rattle.jr_commit.proofs.Olds.{length_olds}
use Rattle.jr_commit.proofs.Exact.{puts_back, puts_back_only, puts_back_none}
use Rattle.jr_commit.proofs.recovery.read_steps.Goals as goal

pub returns-in-Ok-None-clause-bad : goal.returns-in-Ok-None-clause-bad
returns-in-Ok-None-clause-bad g c _ = no_file (g.S.Store.files c.args.store.now) c.args.path.now 50331649 (rw c.in-Ok-None.field-0-is at c.in-Ok-None.ensures.bytes)

pub returns-in-Ok-None-read_journal-clause-bad : goal.returns-in-Ok-None-read_journal-clause-bad
returns-in-Ok-None-read_journal-clause-bad g c _ =
    let told = g.S.Store.files c.args.store.now in
    let path = c.args.path.now in
    let reads : Reads told path 50331649 (Some c.in-Ok-Some.bytes.items) = rw c.in-Ok-Some.field-0-is at c.in-Ok-Some.ensures.bytes in
    let reads_slice = subst (λ b. Reads told path 50331649 (Some b)) (sym c.deref.ensures.value) reads in
    let none = rw c.in-Ok-None-read_journal.field-0-is at c.in-Ok-None-read_journal.ensures.none in
    no_entries told path c.deref.result.now 50331649 (omega arith) reads_slice (puts_back_none c.deref.result.now none)

pub returns-in-Ok-clause-found : goal.returns-in-Ok-clause-found
returns-in-Ok-clause-found g c =
    let told = g.S.Store.files c.args.store.now in
    let path = c.args.path.now in
    let reads : Reads told path 50331649 (Some c.in-Ok-Some.bytes.items) = rw c.in-Ok-Some.field-0-is at c.in-Ok-Some.ensures.bytes in
    let reads_slice = subst (λ b. Reads told path 50331649 (Some b)) (sym c.deref.ensures.value) reads in
    let found = rw c.in-Ok-Some-read_journal.field-0-is at c.in-Ok-Some-read_journal.ensures.found in
    let only = rw c.in-Ok-Some-read_journal.field-0-is at c.in-Ok-Some-read_journal.ensures.only in
    let journal = c.in-Ok-Some-read_journal.journal in
    let olds = sides_of c.in-Ok.steps.items in
    entries_found told path c.deref.result.now olds 50331649 (omega arith) reads_slice
    (puts_back c.deref.result.now journal.version (plain journal.entries.items) olds found c.in-Ok.ensures)
    (puts_back_only c.deref.result.now journal.version (plain journal.entries.items) olds only c.in-Ok.ensures)

pub returns-in-Ok-clause-count : goal.returns-in-Ok-clause-count
returns-in-Ok-clause-count g c =
    let journal = c.in-Ok-Some-read_journal.journal in
    let found : IsJournal journal.version c.deref.result.now (plain journal.entries.items) = rw c.in-Ok-Some-read_journal.field-0-is at c.in-Ok-Some-read_journal.ensures.found in
    let count : length journal.entries.items < 2 ^ 32 = rw c.in-Ok-Some-read_journal.field-0-is at c.in-Ok-Some-read_journal.ensures.count in
    let same : length (sides_of c.in-Ok.steps.items) ≡ length (old_sides (plain journal.entries.items)) = ap length c.in-Ok.ensures in
    omega (arith, count, same, length_olds found.0 (plain journal.entries.items) found.2.shaped, length-map journal.entries.items plain_of, length-map {B = SideAt} c.in-Ok.steps.items (λ s. (path_of s, side_of s)))
