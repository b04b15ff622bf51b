use Rattle.std.proofs.Common.{◌≡◌, List, ℕ, length, sym, ◌∙◌, ap, subst, arith}
use Rattle.std.proofs.lemmas.List.{length-map}
use Rattle.std.specs.List.{AllByRecursion}
use Rattle.std.specs.FinMap as finite
use Rattle.jr_base.specs.Paths.{IsPath}
use Rattle.jr_commit.specs.SidesAt.{SideAt, paths_of}
use Rattle.jr_commit.specs.Entries.{PlainEntry}
use Rattle.jr_commit.specs.Steps.{sides_of, path_of, side_of}
use Rattle.jr_commit.specs.Journal.{spelling, entries_text, new_sides, IsRising}
use Rattle.jr_commit.specs.Restoring.{journal_path, gate_path}
use Rattle.jr_commit.specs.Planned.{IsPlan, HasEntries}
use Rattle.jr_commit.specs.Differences.{Pair, pairs, changes, differences}
use Rattle.jr_commit.specs.declared.actions.Step.{Step}
use Rattle.jr_commit.specs.declared.entry.Version.TheVariants.{Two}
use Rattle.jr_commit.proofs.Planning.{plan_is, count_news, count_small, made_of}
use Rattle.jr_commit.proofs.Values.{is_difference, gives_new, holds_olds}
use Rattle.jr_commit.proofs.plan.Plan.new.Goals as goal

-- a step for each change
counted : (steps : List Step) (n : ℕ) (ps : List Pair) → n ≡ length steps → sides_of steps ≡ new_sides (changes ps) → n ≡ length (changes ps)
counted steps n ps is same =
    let a : length (sides_of steps) ≡ length (new_sides (changes ps)) = ap length same in
    omega (arith, a, length-map {B = SideAt} steps (λ s. (path_of s, side_of s)), count_news ps)

planned : (journal journal_at gate_at : List ℕ) (steps : List SideAt) (es : List PlainEntry) → IsPlan (spelling Two es) (new_sides es) journal_path gate_path → journal ≡ spelling Two es → steps ≡ new_sides es → journal_at ≡ journal_path → gate_at ≡ gate_path
    → IsPlan journal steps journal_at gate_at
planned journal journal_at gate_at steps es is a b c d = record {
  ordered = subst (λ (l : List SideAt). IsRising (paths_of l)) (sym b) is.ordered;
  entries = λ some. subst (λ (l : List SideAt). HasEntries journal l) (sym b) (subst (λ (l : List ℕ). HasEntries l (new_sides es)) (sym a) (is.entries (λ none. some (b ∙ none))));
  journal_is = λ some. c;
  gate_is = λ some. d;
}

pub overflow_cast-len : goal.overflow_cast-len
overflow_cast-len c =
    let ps = pairs (finite.entries c.args.old.now) (finite.entries c.args.new.now) in
    let steps : sides_of c.in_ok-text.steps.items ≡ new_sides (changes ps) = c.in_ok-text.ensures.steps ∙ (λ i. new_sides (changes (pairs (c.entries.ensures i) (c.entries-2.ensures i)))) in
    omega (arith, counted c.in_ok-text.steps.items c.len.result ps (c.len.ensures ∙ c.in_ok-text.steps.ok.0) steps, count_small ps c.requires.short)

pub returns-clause-journal : goal.returns-clause-journal
returns-clause-journal c =
    let ps = pairs (finite.entries c.args.old.now) (finite.entries c.args.new.now) in
    let steps : sides_of c.in_ok-text.steps.items ≡ new_sides (changes ps) = c.in_ok-text.ensures.steps ∙ (λ i. new_sides (changes (pairs (c.entries.ensures i) (c.entries-2.ensures i)))) in
    let text : c.deref.result.now ≡ entries_text Two (changes ps) = c.deref.ensures.value ∙ c.in_ok-text.ensures.text ∙ (λ i. entries_text Two (changes (pairs (c.entries.ensures i) (c.entries-2.ensures i)))) in
    made_of c.in_ok-journal.journal.items c.deref.result.now c.len.result (changes ps) c.in_ok-journal.ensures (counted c.in_ok-text.steps.items c.len.result ps (c.len.ensures ∙ c.in_ok-text.steps.ok.0) steps) text

pub invariant_of-result : goal.invariant_of-result
invariant_of-result c =
    let ps = pairs (finite.entries c.args.old.now) (finite.entries c.args.new.now) in
    let steps : sides_of c.in_ok-text.steps.items ≡ new_sides (changes ps) = c.in_ok-text.ensures.steps ∙ (λ i. new_sides (changes (pairs (c.entries.ensures i) (c.entries-2.ensures i)))) in
    let text : c.deref.result.now ≡ entries_text Two (changes ps) = c.deref.ensures.value ∙ c.in_ok-text.ensures.text ∙ (λ i. entries_text Two (changes (pairs (c.entries.ensures i) (c.entries-2.ensures i)))) in
    let made : c.in_ok-journal.journal.items ≡ spelling Two (changes ps) = made_of c.in_ok-journal.journal.items c.deref.result.now c.len.result (changes ps) c.in_ok-journal.ensures (counted c.in_ok-text.steps.items c.len.result ps (c.len.ensures ∙ c.in_ok-text.steps.ok.0) steps) text in
    let paths : AllByRecursion (λ e. IsPath e.0) (changes ps) = subst (λ (l : List PlainEntry). AllByRecursion (λ e. IsPath e.0) l) (λ i. changes (pairs (c.entries.ensures i) (c.entries-2.ensures i))) c.in_ok-text.ensures.paths in
    planned c.in_ok-journal.journal.items c.in_ok-journal_path.journal_path c.in_ok-gate_path.gate_path (sides_of c.in_ok-text.steps.items) (changes ps)
    (plan_is c.args.old.now c.args.new.now c.requires.java_old c.requires.java_new paths c.requires.short) made steps c.in_ok-journal_path.ensures c.in_ok-gate_path.ensures

pub returns-clause-differ : goal.returns-clause-differ
returns-clause-differ c = is_difference c.args.old.now c.args.new.now

pub returns-clause-gives : goal.returns-clause-gives
returns-clause-gives c =
    let steps : sides_of c.in_ok-text.steps.items ≡ new_sides (differences c.args.old.now c.args.new.now) = c.in_ok-text.ensures.steps ∙ (λ i. new_sides (changes (pairs (c.entries.ensures i) (c.entries-2.ensures i)))) in
    gives_new c.args.old.now c.args.new.now (sides_of c.in_ok-text.steps.items) steps

pub returns-clause-olds : goal.returns-clause-olds
returns-clause-olds c =
    holds_olds c.args.old.now c.args.new.now c.in_ok-journal.journal.items c.requires.java_old c.requires.java_new c.requires.short (returns-clause-journal c)
