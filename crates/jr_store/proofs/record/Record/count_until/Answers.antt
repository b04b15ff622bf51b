use Rattle.std.proofs.Common.{◌≡◌, ◌<◌, drop, length, get_or, map, sym, ◌∙◌, ap, arith, rules, false, List, ℕ}
use Rattle.std.specs.Prelude.{nat_le}
use Rattle.std.specs.List.{prefix_len}
use borrow.Author.Tests.{tests}
use Rattle.jr_store.specs.Calls.{Call}
use Rattle.jr_store.specs.Record.{entry_call}
use Rattle.jr_store.specs.declared.record.Entry.{Entry}
use Rattle.std.proofs.lemmas.List.{drop_all}
use Rattle.jr_store.specs.declared.record.Action.TheVariants.{Wrote}
use Rattle.jr_store.proofs.Recording.{prefix_stops, prefix_of_entries}
use Rattle.jr_store.proofs.record.Record.count_until.Goals as goal

-- the calls of a record have the numbers of its entries
numbers : (arena : List ℕ) (n : ℕ) (es items : List Entry) (calls : List Call) → items ≡ es → map (entry_call arena) es ≡ calls → prefix_len (λ (e : Entry). nat_le e.number n) items ≡ prefix_len (λ (call : Call). nat_le call.number n) calls
numbers arena n es items calls same view = ap (prefix_len (λ (e : Entry). nat_le e.number n)) same ∙ sym (prefix_of_entries arena n es) ∙ ap (prefix_len (λ (call : Call). nat_le call.number n)) view

pub returns-then-entry-number : goal.returns-then-entry-number
returns-then-entry-number c =
    let es = c.deref-entry-items.result.now in
    let i = c.loop-index.index in
    let n = c.args.number in
    let d : Entry = record { number = 0; action = Wrote; path_start = 0; bytes_start = 0; end = 0 } in
    let above : n < (get_or es i d).number = c.if-entry-number.true in
    let fails : nat_le (get_or es i d).number n ≡ false = search (rules, tests) in
    let stops = prefix_stops (λ (e : Entry). nat_le e.number n) es i d c.loop-index-test.true fails in
    (let e : i ≡ prefix_len (λ (e : Entry). nat_le e.number n) es = omega (arith, c.loop-index.invariant, stops) in e)
    ∙ numbers c.self.inside.arena.items n c.self.inside.entries.items es c.args.self.now c.deref-entry-items.ensures.value c.self.view_is

pub returns : goal.returns
returns c =
    let es = c.deref-entry-items.result.now in
    let n = c.args.number in
    let stops : prefix_len (λ (e : Entry). nat_le e.number n) (drop c.loop-index.index es) ≡ 0 = ap (prefix_len (λ (e : Entry). nat_le e.number n)) (drop_all c.loop-index.index es (omega arith)) in
    let whole : c.len.result ≡ length es = search rules in
    (let e : c.len.result ≡ prefix_len (λ (e : Entry). nat_le e.number n) es = omega (arith, c.loop-index.invariant, stops, whole) in e)
    ∙ numbers c.self.inside.arena.items n c.self.inside.entries.items es c.args.self.now c.deref-entry-items.ensures.value c.self.view_is
