use Rattle.std.proofs.Common.{◌≡◌, ◌≤◌, ◌<◌, ◌^◌, true, List, sym, ◌∙◌, ap, subst, length, arith}
use Rattle.std.proofs.lemmas.List.{length-map}
use Rattle.jr_commit.specs.Entries.{PlainEntry, plain, raw, raw_of, plain_of, names_of}
use Rattle.jr_commit.specs.declared.entry.RawEntry.{RawEntry}
use Rattle.jr_commit.specs.Journal.{IsIn, IsRising, fewest, most_bytes}
use Rattle.jr_commit.proofs.Texts.{ReadsJournal, journal_takes}
use Rattle.jr_commit.proofs.Exact.{is_read, only_found, none_found}
use Rattle.jr_commit.proofs.reading.read_journal.Goals as goal
use Rattle.jr_commit.proofs.reading.read_journal.Goals.{then-bytes-most-via-then-bytes-most, then-bytes-most-via-else-bytes-most+then-len-fewest}

pub returns-in-Err-Bad-clause-none : goal.returns-in-Err-Bad-clause-none
returns-in-Err-Bad-clause-none c = none_found c.args.bytes.now (rw c.in-Err-Bad.field-0-is at c.in-Err-Bad.ensures)

-- the journal that was read, by the bytes' version, entries and length
pub returns-then-bytes-most-clause-none : goal.returns-then-bytes-most-clause-none
returns-then-bytes-most-clause-none c n es is =
    let v = c.in-Ok.read.0 in
    let entries = c.in-Ok.read.1 in
    let there : IsIn v c.args.bytes.now (raw entries.items) = is_read c.args.bytes.now (v, raw entries.items) n es c.in-Ok.ensures is in
    let short : length c.args.bytes.now ≤ most_bytes v = there.short in
    let enough : fewest v ≤ length (raw entries.items) = there.enough in
    elim c.then-bytes-most.branch [
      | then-bytes-most-via-then-bytes-most w ↦ omega (arith, c.most.ensures)
      | then-bytes-most-via-else-bytes-most+then-len-fewest w ↦ omega (arith, w.len.ensures, w.fewest.ensures, entries.ok.0, length-map entries.items raw_of)
    ]

pub returns-then-not-rises-clause-none : goal.returns-then-not-rises-clause-none
returns-then-not-rises-clause-none c n es is =
    let v = c.in-Ok.read.0 in
    let entries = c.in-Ok.read.1 in
    let there : IsIn v c.args.bytes.now (raw entries.items) = is_read c.args.bytes.now (v, raw entries.items) n es c.in-Ok.ensures is in
    let yes : c.rises.result ≡ true = c.rises.ensures.1 (subst (λ (l : List RawEntry). IsRising (names_of (raw l))) (sym c.deref.ensures.value) there.rising) in
    cc (yes, c.if-not-rises.true)

pub returns-in-Some-clause-found : goal.returns-in-Some-clause-found
returns-in-Some-clause-found c =
    let v = c.in-Ok.read.0 in
    let entries = c.in-Ok.read.1 in
    let read : ReadsJournal c.args.bytes.now (v, raw entries.items) = journal_takes c.args.bytes.now (v, raw entries.items) (λ i. omega (arith, c.type_inv.bytes i)) c.in-Ok.ensures in
    let found = rw c.in-Some.is at c.in_ok-entries.ensures.found in
    let enough : fewest v ≤ length (raw entries.items) = omega (arith, c.if-len-fewest.false, c.len.ensures, c.fewest.ensures, entries.ok.0, length-map entries.items raw_of) in
    let short : length c.args.bytes.now ≤ most_bytes v = omega (arith, c.if-bytes-most.false, c.most.ensures) in
    let is : IsIn v c.args.bytes.now (raw entries.items) = record {
      spelled = read.spelled;
      shaped = read.shaped;
      changes = found.1;
      rising = subst (λ (l : List RawEntry). IsRising (names_of (raw l))) c.deref.ensures.value (c.rises.ensures.0 c.if-not-rises.false);
      enough = enough;
      short = short;
    } in
    (v, c.number.ensures, subst (λ (l : List PlainEntry). IsIn v c.args.bytes.now l) (sym found.0) is)

pub returns-in-Some-clause-only : goal.returns-in-Some-clause-only
returns-in-Some-clause-only c n es is =
    let v = c.in-Ok.read.0 in
    let only = only_found c.args.bytes.now (v, raw c.in-Ok.read.1.items) n es c.in-Ok.ensures is in
    let found = rw c.in-Some.is at c.in_ok-entries.ensures.found in
    (only.0 ∙ sym c.number.ensures, only.1 ∙ sym found.0)

pub returns-in-Some-clause-count : goal.returns-in-Some-clause-count
returns-in-Some-clause-count c =
    let v = c.in-Ok.read.0 in
    let entries = c.in-Ok.read.1 in
    let read : ReadsJournal c.args.bytes.now (v, raw entries.items) = journal_takes c.args.bytes.now (v, raw entries.items) (λ i. omega (arith, c.type_inv.bytes i)) c.in-Ok.ensures in
    let count : length (raw entries.items) < 2 ^ 32 = read.count in
    let found = rw c.in-Some.is at c.in_ok-entries.ensures.found in
    let same : length (plain c.in-Some.entries.items) ≡ length (raw entries.items) = ap length found.0 in
    omega (arith, count, same, length-map c.in-Some.entries.items plain_of)

pub returns-in-None-clause-none : goal.returns-in-None-clause-none
returns-in-None-clause-none c n es is =
    let v = c.in-Ok.read.0 in
    let there : IsIn v c.args.bytes.now (raw c.in-Ok.read.1.items) = is_read c.args.bytes.now (v, raw c.in-Ok.read.1.items) n es c.in-Ok.ensures is in
    (rw c.in-None.is at c.in_ok-entries.ensures.none) there.changes
