use Rattle.std.proofs.Common.{◌≡◌, List, ℕ, length, sym, ◌∙◌, ap, arith}
use Rattle.std.proofs.lemmas.List.{length-map}
use Rattle.jr_commit.specs.SidesAt.{SideAt}
use Rattle.jr_commit.specs.Entries.{PlainEntry, plain}
use Rattle.jr_commit.specs.Steps.{sides_of, path_of, side_of}
use Rattle.jr_commit.specs.Journal.{spelling, entries_text, old_sides, new_sides, IsIn}
use Rattle.jr_commit.specs.Differences.{changes}
use Rattle.jr_commit.specs.Undoing.{exchanged, pairs_back}
use Rattle.jr_commit.specs.declared.actions.Step.{Step}
use Rattle.jr_commit.specs.declared.entry.Version.TheVariants.{Two}
use Rattle.jr_commit.proofs.Planning.{made_of}
use Rattle.jr_commit.proofs.Undoing.{changes_back, news_exchanged, text_short, count_back, plan_is, planned_as, takes_back}
use Rattle.jr_commit.proofs.undo.plan_back.Goals as goal

steps_are : (es : List PlainEntry) (bytes : List ℕ) (steps : List SideAt) → IsIn Two bytes es → steps ≡ new_sides (changes (pairs_back es)) → steps ≡ old_sides es
steps_are es bytes steps is same = same ∙ ap new_sides (changes_back es is.shaped is.changes) ∙ news_exchanged es

-- a step for each entry
counted : (steps : List Step) (n : ℕ) (es : List PlainEntry) (bytes : List ℕ) → IsIn Two bytes es → n ≡ length steps → sides_of steps ≡ old_sides es → n ≡ length (exchanged es)
counted steps n es bytes is count same =
    omega (arith, ap length same, length-map {B = SideAt} steps (λ s. (path_of s, side_of s)), (count_back bytes es is).0, length-map {B = PlainEntry} es (λ e. (e.0, e.2, e.1)))

pub change_back-requires : goal.change_back-requires
change_back-requires c = text_short c.requires.0 (plain c.args.entries.now) c.requires.1

pub overflow_cast-len : goal.overflow_cast-len
overflow_cast-len c =
    let es = plain c.args.entries.now in
    let steps = steps_are es c.requires.0 (sides_of c.in_ok-text.steps.items) c.requires.1 c.in_ok-text.ensures.steps in
    omega (arith, counted c.in_ok-text.steps.items c.len.result es c.requires.0 c.requires.1 (c.len.ensures ∙ c.in_ok-text.steps.ok.0) steps, (count_back c.requires.0 es c.requires.1).1, length-map {B = PlainEntry} es (λ e. (e.0, e.2, e.1)))

pub invariant_of-result : goal.invariant_of-result
invariant_of-result c =
    let es = plain c.args.entries.now in
    let steps = steps_are es c.requires.0 (sides_of c.in_ok-text.steps.items) c.requires.1 c.in_ok-text.ensures.steps in
    let text : c.deref.result.now ≡ entries_text Two (exchanged es) = c.deref.ensures.value ∙ c.in_ok-text.ensures.text ∙ ap (entries_text Two) (changes_back es c.requires.1.shaped c.requires.1.changes) in
    let made : c.in_ok-journal.journal.items ≡ spelling Two (exchanged es) = made_of c.in_ok-journal.journal.items c.deref.result.now c.len.result (exchanged es) c.in_ok-journal.ensures (counted c.in_ok-text.steps.items c.len.result es c.requires.0 c.requires.1 (c.len.ensures ∙ c.in_ok-text.steps.ok.0) steps) text in
    planned_as c.in_ok-journal.journal.items (spelling Two (exchanged es)) c.in_ok-journal_path.journal_path c.in_ok-gate_path.gate_path (sides_of c.in_ok-text.steps.items) (old_sides es)
    (plan_is c.requires.0 es c.requires.1) made steps c.in_ok-journal_path.ensures c.in_ok-gate_path.ensures

pub returns : goal.returns
returns c =
    let es = plain c.args.entries.now in
    let steps = steps_are es c.requires.0 (sides_of c.in_ok-text.steps.items) c.requires.1 c.in_ok-text.ensures.steps in
    let text : c.deref.result.now ≡ entries_text Two (exchanged es) = c.deref.ensures.value ∙ c.in_ok-text.ensures.text ∙ ap (entries_text Two) (changes_back es c.requires.1.shaped c.requires.1.changes) in
    takes_back c.requires.0 es (record { journal = c.in_ok-journal.journal.items; steps = sides_of c.in_ok-text.steps.items }) c.requires.1
    (made_of c.in_ok-journal.journal.items c.deref.result.now c.len.result (exchanged es) c.in_ok-journal.ensures (counted c.in_ok-text.steps.items c.len.result es c.requires.0 c.requires.1 (c.len.ensures ∙ c.in_ok-text.steps.ok.0) steps) text)
    steps
