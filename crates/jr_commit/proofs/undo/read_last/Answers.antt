use Rattle.std.proofs.Common.{◌≡◌, Some, List, ℕ, subst, sym, arith}
use Rattle.jr_store.specs.Image.{Reads}
use Rattle.jr_commit.specs.Entries.{PlainEntry, plain}
use Rattle.jr_commit.specs.Journal.{IsIn}
use Rattle.jr_commit.specs.declared.entry.Version.TheVariants.{Two}
use Rattle.jr_commit.proofs.Undoing.{not_there, keeps_both, one_sided}
use Rattle.jr_commit.proofs.undo.read_last.Goals as goal

pub returns-in-Ok-None-clause-fault : goal.returns-in-Ok-None-clause-fault
returns-in-Ok-None-clause-fault g c f is =
    not_there (g.S.Store.files c.args.store.now) c.in-Ok.path f is 50331649 c.in-Ok.ensures (rw c.in-Ok-None.field-0-is at c.in-Ok-None.ensures.bytes)

pub returns-in-Ok-Some-both_sides-clause-there : goal.returns-in-Ok-Some-both_sides-clause-there
returns-in-Ok-Some-both_sides-clause-there g c f is =
    let told = g.S.Store.files c.args.store.now in
    let reads : Reads told c.in-Ok.path 50331649 (Some c.in-Ok-Some.bytes.items) = rw c.in-Ok-Some.field-0-is at c.in-Ok-Some.ensures.bytes in
    let reads_slice = subst (λ b. Reads told c.in-Ok.path 50331649 (Some b)) (sym c.deref.ensures.value) reads in
    let found : IsIn Two c.deref.result.now (plain c.in-Ok-Some-both_sides.entries.items) = rw c.in-Ok-Some-both_sides.field-0-is at c.in-Ok-Some-both_sides.ensures.found in
    keeps_both told c.in-Ok.path f is 50331649 c.deref.result.now (plain c.in-Ok-Some-both_sides.entries.items) (omega arith) c.in-Ok.ensures reads_slice found

pub returns-in-Ok-None-both_sides-clause-fault : goal.returns-in-Ok-None-both_sides-clause-fault
returns-in-Ok-None-both_sides-clause-fault g c f is =
    let told = g.S.Store.files c.args.store.now in
    let reads : Reads told c.in-Ok.path 50331649 (Some c.in-Ok-Some.bytes.items) = rw c.in-Ok-Some.field-0-is at c.in-Ok-Some.ensures.bytes in
    let reads_slice = subst (λ b. Reads told c.in-Ok.path 50331649 (Some b)) (sym c.deref.ensures.value) reads in
    let none : (es : List PlainEntry) → IsIn Two c.deref.result.now es → ⊥ = rw c.in-Ok-None-both_sides.field-0-is at c.in-Ok-None-both_sides.ensures.none in
    one_sided told c.in-Ok.path f is 50331649 c.deref.result.now (omega arith) c.in-Ok.ensures reads_slice none
